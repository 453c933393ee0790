-- Worked decks over the sample database, computed by the definitions themselves: an edit of a definition that changes an
-- answer is refused here.
use Rattle.std.proofs.Common.{◌≡◌, ℕ, List, [], ◌∷◌, ◌++◌, map, refl}
use Rattle.std.specs.Prelude.{codes, Result, Ok, Err}
use Rattle.std.specs.List.{concat}
use Rattle.std.specs.Result.{result_map_both}
use Rattle.std.specs.Fmt.{digits}
use Rattle.hd_dbd.specs.Segment.{Segment}
use Rattle.hd_dbd.specs.Logs.{Outcome, replied, area, full, memory, Entry}
use Rattle.hd_dbd.specs.Sample.{sample_types, sample_pcbs, sample_rows}
use Rattle.hd_calls.specs.Steps.{Effect, answered, wrong_area, State, state_after}
use Rattle.hd_calls.specs.Runs.{effect_by}
use Rattle.hd_calls.specs.NoLostUpdate.{opened}
use Rattle.hd_session.specs.Turns.{Turn}
use Rattle.hd_deck.specs.declared.deck.DeckFault.{DeckFault}
use Rattle.hd_deck.specs.declared.deck.DeckFault.TheVariants.{K1, K2, K3, K4, K5, K7}
use Rattle.hd_deck.specs.StepText.{StepText}
use Rattle.hd_deck.specs.Deck.{deck}
use Rattle.hd_deck.specs.Printing.{lines_from}
use Rattle.hd_deck.specs.Runs.{turns_of}

-- what a call comes to where it finds memory and room
abbrev come_to : Effect → Outcome
come_to (answered reply change own) = replied reply
come_to wrong_area = area

abbrev entry : Turn → Outcome → Entry (List ℕ)
entry t outcome = record { before = []; pcb = t.pcb; call = t.call; outcome = outcome }

-- the entries of such calls from a state, without the images
abbrev entries_from : State → List Turn → List (Entry (List ℕ))
entries_from st [] = []
entries_from st (t ∷ ts) =
    let effect : Effect = effect_by sample_types sample_pcbs st t.pcb t.call in
    entry t (come_to effect) ∷ entries_from (state_after sample_types st t.pcb effect) ts

-- what a deck prints over some rows of the sample, by its program's PCBs
abbrev printed : List Segment → List ℕ → Result (List ℕ) DeckFault
printed rows text = result_map_both (λ steps. lines_from 1 (entries_from (opened sample_pcbs rows) (turns_of steps))) (λ fault. fault) (deck 3 text)

-- GN to the end of the database, and from its beginning again
pub nine_gets_next : printed sample_rows (codes "L   9 GN\n")
    ≡ Ok (codes "1 1 GN   [  ] 01 COURSE   key=101 area=101ALGEB\n"
    ++ codes "2 1 GN   [  ] 02 CLASS    key=10101 area=01AB\n"
    ++ codes "3 1 GN   [  ] 03 STUD     key=10101ADAM area=ADAM01\n"
    ++ codes "4 1 GN   [  ] 03 STUD     key=10101EVE  area=EVE 02\n"
    ++ codes "5 1 GN   [GA] 02 CLASS    key=10102 area=02CD\n"
    ++ codes "6 1 GN   [GK] 02 BOOK     key=101 area=EULER\n"
    ++ codes "7 1 GN   [GA] 01 COURSE   key=205 area=205LOGIC\n"
    ++ codes "8 1 GN   [GB] 00          key= area=\n"
    ++ codes "9 1 GN   [  ] 01 COURSE   key=101 area=101ALGEB\n")
unfolding digits
nine_gets_next = refl

-- a PCB that sees no students
pub four_by_the_third : printed sample_rows (codes "S 3\nL   4 GN")
    ≡ Ok (codes "1 3 GN   [  ] 01 COURSE   key=101 area=101ALGEB\n"
    ++ codes "2 3 GN   [  ] 02 CLASS    key=10101 area=01AB\n"
    ++ codes "3 3 GN   [  ] 02 CLASS    key=10102 area=02CD\n"
    ++ codes "4 3 GN   [GK] 02 BOOK     key=101 area=EULER\n")
unfolding digits
four_by_the_third = refl

-- each PCB has its own position
pub two_positions : printed sample_rows (codes "S 2\nL     GN\nS 1\nL   2 GN\n")
    ≡ Ok (codes "1 2 GN   [  ] 01 COURSE   key=101 area=101ALGEB\n"
    ++ codes "2 1 GN   [  ] 01 COURSE   key=101 area=101ALGEB\n"
    ++ codes "3 1 GN   [  ] 02 CLASS    key=10101 area=01AB\n")
unfolding digits
two_positions = refl

-- a function that there is not
pub other_function : printed sample_rows (codes "L     GXX") ≡ Ok (codes "1 1 GXX  [AD] 00          key= area=\n")
unfolding digits
other_function = refl

-- an area of another length than the segment that is held
pub wrong_length : printed sample_rows (codes "L     GHU  CLASS   (ED      EQ01)\nL     REPL\nD01A\nL     REPL\nD01XY\n")
    ≡ Ok (codes "1 1 GHU  [  ] 02 CLASS    key=10101 area=01AB\n"
    ++ codes "2 1 REPL [!!] Area\n"
    ++ codes "3 1 REPL [  ] 02 CLASS    key=10101 area=\n")
unfolding digits
wrong_length = refl

-- refusals that change nothing
pub refusals : lines_from 1 (map (λ o. entry (record { pcb = 2; call = record { function = codes "ISRT"; ssas = []; area = [] } }) o) (area ∷ full ∷ memory ∷ []))
    ≡ codes "1 2 ISRT [!!] Area\n" ++ codes "2 2 ISRT [!!] Full\n" ++ codes "3 2 ISRT [!!] Memory\n"
unfolding digits
refusals = refl

-- no rows
pub empty_database : printed [] (codes "L     GU\nL     GN")
    ≡ Ok (codes "1 1 GU   [GE] 00          key= area=\n" ++ codes "2 1 GN   [GB] 00          key= area=\n")
unfolding digits
empty_database = refl

-- a call of two digits
pub tenth_call : printed [] (codes "L  10 GN") ≡ Ok (concat (map (λ n. n ++ codes " 1 GN   [GB] 00          key= area=\n")
    (codes "1" ∷ codes "2" ∷ codes "3" ∷ codes "4" ∷ codes "5" ∷ codes "6" ∷ codes "7" ∷ codes "8" ∷ codes "9" ∷ codes "10" ∷ [])))
unfolding digits
tenth_call = refl

-- ---- decks and their faults

abbrev asked : ℕ → ℕ → List ℕ → StepText
asked pcb repeat function = record { pcb = pcb; repeat = repeat; call = record { function = function; ssas = []; area = [] } }

pub third_pcb : deck 3 (codes "S 3\nL   4 GN") ≡ Ok (asked 3 4 (codes "GN  ") ∷ [])
third_pcb = refl

pub comments_and_ends : deck 3 (codes "* one\r\n\r\nL     GU  \n") ≡ Ok (asked 1 1 (codes "GU  ") ∷ [])
comments_and_ends = refl

pub first_column : deck 3 (codes "X") ≡ Err (K1 1)
first_column = refl

pub wrong_function : deck 3 (codes "L     G1") ≡ Err (K2 1)
wrong_function = refl

pub no_such_pcb : deck 3 (codes "S 9") ≡ Err (K3 1)
no_such_pcb = refl

pub no_calls : deck 3 (codes "L     GN\nL  0  GN") ≡ Err (K5 2)
no_calls = refl

-- a call with all its parts, a comment between them, and one that has none
pub parts_of_a_call : deck 3 (codes "L   2 REPL COURSE\r\nC          CLASS\nD10\n* one\n\nH3141\nC\nL     GU")
    ≡ Ok (record { pcb = 1; repeat = 2; call = record { function = codes "REPL"; ssas = codes "COURSE" ∷ codes "CLASS" ∷ [] ∷ []; area = codes "101A" } }
    ∷ asked 1 1 (codes "GU  ") ∷ [])
parts_of_a_call = refl

pub no_call_yet : deck 3 (codes "C          COURSE") ≡ Err (K4 1)
no_call_yet = refl

-- no call is open after an S, which is found before a wrong digit
pub no_open_call : deck 3 (codes "L     GN\nS 1\nH3") ≡ Err (K4 3)
no_open_call = refl

pub odd_digit : deck 3 (codes "L     GN\nH3") ≡ Err (K7 2)
odd_digit = refl

pub upper_case : deck 3 (codes "L     GN\nH4A") ≡ Err (K7 2)
upper_case = refl

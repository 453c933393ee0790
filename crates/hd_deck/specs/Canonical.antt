-- One spelling of steps as a deck, for each list of steps whose arguments end with no carriage return, which a line loses.
use Rattle.std.specs.Prelude.{◌≡◌, ℕ, ◌+◌, ◌-◌, ◌/◌, ◌%◌, ◌≤◌, List, [], ◌∷◌, ◌++◌, length, map, flat_map, replicate, Bool, true, not, ◌&&◌, nat_lt, nat_le, ◌==◌, cond, All, Ok, codes, decimal, slice_index}
use Rattle.std.specs.List.{list_all}
use Rattle.hd_deck.specs.StepText.{StepText, StepFits}
use Rattle.hd_deck.specs.Printing.{hex_digit}
use Rattle.hd_deck.specs.Deck.{is_function, deck}

-- ---- the lines of a step

-- S and the number of the PCB
abbrev pub select_spelling : ℕ → List ℕ
select_spelling pcb = codes "S" ++ decimal pcb

-- a number below 10,000 in four digits
abbrev pub four_digits : ℕ → List ℕ
four_digits n = (48 + n / 1000) ∷ (48 + n / 100 % 10) ∷ (48 + n / 10 % 10) ∷ (48 + n % 10) ∷ []

-- L, the repeat count and the function
abbrev pub call_spelling : ℕ → List ℕ → List ℕ
call_spelling k function = codes "L" ++ (four_digits k ++ (codes " " ++ (function ++ codes " ")))

-- C and an argument in column 12
abbrev pub argument_spelling : List ℕ → List ℕ
argument_spelling ssa = codes "C" ++ (replicate 10 32 ++ ssa)

-- two hexadecimal digits for each byte
abbrev pub hex_digits : List ℕ → List ℕ
hex_digits [] = []
hex_digits (b ∷ bytes) = hex_digit (b / 16) ∷ hex_digit (b % 16) ∷ hex_digits bytes

-- H and bytes of the area
abbrev pub area_spelling : List ℕ → List ℕ
area_spelling bytes = codes "H" ++ hex_digits bytes

-- a byte in front of the first piece if that has fewer than 127, else a piece of its own
abbrev pub onto_pieces : ℕ → List (List ℕ) → List (List ℕ)
onto_pieces b [] = (b ∷ []) ∷ []
onto_pieces b (piece ∷ more) = cond (nat_lt (length piece) 127) ((b ∷ piece) ∷ more) ((b ∷ []) ∷ piece ∷ more)

-- bytes in pieces of 127 at the most, as many as an H line has room for
abbrev pub pieces : List ℕ → List (List ℕ)
pieces [] = []
pieces (b ∷ bytes) = onto_pieces b (pieces bytes)

-- the lines of a step: its PCB, its call, the arguments, and the area
abbrev pub step_lines : StepText → List (List ℕ)
step_lines s = select_spelling s.pcb ∷ call_spelling s.repeat s.call.function ∷ (map argument_spelling s.call.ssas ++ map area_spelling (pieces s.call.area))

-- ---- decks

-- the deck that spells these steps: all lines of each, and a line feed behind each line
abbrev pub spelling : List StepText → List ℕ
spelling steps = flat_map (λ line. line ++ codes "\n") (flat_map step_lines steps)

-- bytes that stay as they are at the end of a line: none is a line feed, and the last is no carriage return
abbrev pub is_kept : List ℕ → Bool
is_kept bytes = list_all (λ b. not (b == 10)) bytes && not (slice_index bytes (length bytes - 1) == 13)

-- an argument that a line has room for
abbrev pub is_argument : List ℕ → Bool
is_argument ssa = nat_le (length ssa) 244 && is_kept ssa

-- A step that is spelled here: its PCB is one of so many, it is made from 1 to 9,999 times, its function has four columns, letters and then blanks, a line
-- has room for each of its arguments, which has no line feed and ends with no carriage return, and its area is bytes.
pub record CanBeSpelled (pcbs : ℕ) (s : StepText) : Type 0 where
  pub fits : StepFits pcbs s
  pub function_columns : length s.call.function ≡ 4
  pub function_is : is_function s.call.function ≡ true
  pub arguments_fit : list_all is_argument s.call.ssas ≡ true
  pub area_is_bytes : list_all (λ b. nat_lt b 256) s.call.area ≡ true

-- What spells steps is read as these steps, over as many PCBs as a program may have.
abbrev pub SpellingReadsBack : Type 0
SpellingReadsBack = (pcbs : ℕ) (steps : List StepText) → pcbs ≤ 255 → All (CanBeSpelled pcbs) steps → deck pcbs (spelling steps) ≡ Ok steps

-- How decks are spelled: which lines make which steps.
use Rattle.std.specs.Prelude.{◌≡◌, ◌↔◌, ℕ, ◌+◌, ◌*◌, ◌<◌, ◌≤◌, List, [], ◌∷◌, ◌++◌, length, drop, Bool, true, Ok, codes}
use Rattle.std.specs.List.{list_all}
use Rattle.std.specs.Str.Lines.{lines}
use Rattle.hd_lines.specs.Blanks.{is_blank}
use Rattle.hd_lines.specs.Digits.{is_digit, value_of}
use Rattle.hd_dbd.specs.Naming.{is_letter}
use Rattle.hd_dbd.specs.Calls.{CallText}
use Rattle.hd_deck.specs.StepText.{StepText}
use Rattle.hd_deck.specs.Printing.{hex_digit}
use Rattle.hd_deck.specs.Deck.{Statement, comment, select, call, argument, area_bytes, deck}

-- ---- words, numbers and bytes

-- Some bytes of a kind, one at the least, and blanks alone behind them.
pub record IsWord (is_kind : ℕ → Bool) (text word : List ℕ) : Type 0 where
  pub behind : List ℕ
  pub spelling : text ≡ word ++ behind
  pub some : 0 < length word
  pub all : list_all is_kind word ≡ true
  pub blank : is_blank behind ≡ true

-- A number is spelled by digits with blanks around them.
pub record IsNumber (text : List ℕ) (n : ℕ) : Type 0 where
  pub before : List ℕ
  pub behind : List ℕ
  pub spelling : text ≡ before ++ behind
  pub blank : is_blank before ≡ true
  pub digits : List ℕ
  pub digits_are : IsWord is_digit behind digits
  pub value : n ≡ value_of digits

-- A call is made once where the repeat count is blank, else as often as its number says, and not 0 times.
pub data IsCount : List ℕ → ℕ → Type 0 where
  once : {text : List ℕ} → is_blank text ≡ true → IsCount text 1
  counted : {text : List ℕ} {k : ℕ} → IsNumber text k → 0 < k → IsCount text k

-- A byte is spelled by two hexadecimal digits in lower case.
pub data IsHex : List ℕ → List ℕ → Type 0 where
  no_bytes : IsHex [] []
  one_byte : {digits bytes : List ℕ} (high low : ℕ) → high < 16 → low < 16 → IsHex digits bytes
      → IsHex (hex_digit high ∷ hex_digit low ∷ digits) ((16 * high + low) ∷ bytes)

-- ---- lines

-- what a call hands over
abbrev pub call_text : List ℕ → List (List ℕ) → List ℕ → CallText
call_text function ssas area = record { function = function; ssas = ssas; area = area }

-- Columns 1 to 11 of a call: L, four columns with the repeat count, a blank, four with the function, and a blank. The function is
-- letters with blanks behind them.
pub record IsHead (head : List ℕ) (k : ℕ) (function : List ℕ) : Type 0 where
  pub count : List ℕ
  pub spelling : head ≡ codes "L" ++ (count ++ (codes " " ++ (function ++ codes " ")))
  pub count_columns : length count ≡ 4
  pub count_is : IsCount count k
  pub function_columns : length function ≡ 4
  pub letters : List ℕ
  pub function_is : IsWord is_letter function letters

-- How each line is spelled, with what it says. Anything stands behind a star, and in columns 2 to 11 behind a C.
pub data IsSpelled : List ℕ → Statement → Type 0 where
  -- nothing: blanks alone, or a star in column 1
  blank_line : {line : List ℕ} → is_blank line ≡ true → IsSpelled line comment
  star_line : {text : List ℕ} → IsSpelled (codes "*" ++ text) comment
  -- the number of the PCB that the calls behind it are of
  s_line : {text : List ℕ} {k : ℕ} → IsNumber text k → IsSpelled (codes "S" ++ text) (select k)
  -- a call with no argument, of which blanks at the end may be left out; and one with an argument from column 12 on
  l_line : {line function : List ℕ} {k : ℕ} (blanks : List ℕ) → is_blank blanks ≡ true → IsHead (line ++ blanks) k function
      → IsSpelled line (call k (call_text function [] []))
  l_line_with_argument : {head ssa function : List ℕ} {k : ℕ} → IsHead head k function → 0 < length ssa
      → IsSpelled (head ++ ssa) (call k (call_text function (ssa ∷ []) []))
  -- an argument from column 12 on, empty where the line ends before that; and bytes of the area, as they stand or by hexadecimal digits
  c_line : {text : List ℕ} → IsSpelled (codes "C" ++ text) (argument (drop 10 text))
  d_line : {bytes : List ℕ} → IsSpelled (codes "D" ++ bytes) (area_bytes bytes)
  h_line : {digits bytes : List ℕ} → IsHex digits bytes → IsSpelled (codes "H" ++ digits) (area_bytes bytes)

-- A line says what it spells, and has 255 bytes at the most.
pub record Says (line : List ℕ) (s : Statement) : Type 0 where
  pub short : length line ≤ 255
  pub spelled : IsSpelled line s

-- ---- steps

-- The lines that belong to a call, with the arguments and the area that they give it; among them lines that say nothing.
pub data AreParts : List (List ℕ) → List (List ℕ) → List ℕ → Type 0 where
  no_parts : AreParts [] [] []
  comment_in_call : {line : List ℕ} {more ssas : List (List ℕ)} {area : List ℕ} → Says line comment → AreParts more ssas area
      → AreParts (line ∷ more) ssas area
  argument_part : {line ssa : List ℕ} {more ssas : List (List ℕ)} {area : List ℕ} → Says line (argument ssa) → AreParts more ssas area
      → AreParts (line ∷ more) (ssa ∷ ssas) area
  area_part : {line bytes : List ℕ} {more ssas : List (List ℕ)} {area : List ℕ} → Says line (area_bytes bytes) → AreParts more ssas area
      → AreParts (line ∷ more) ssas (bytes ++ area)

-- a call of a PCB, made k times
abbrev pub step_of : ℕ → ℕ → CallText → StepText
step_of pcb k text = record { pcb = pcb; repeat = k; call = text }

-- Lines make these steps, over a program with so many PCBs, where calls are of this PCB until a line selects another: lines that say
-- nothing, lines that select a PCB of the program's, and calls, each with the lines that belong to it.
pub data AreSteps : ℕ → ℕ → List (List ℕ) → List StepText → Type 0 where
  no_steps : {pcbs pcb : ℕ} → AreSteps pcbs pcb [] []
  comment_line : {pcbs pcb : ℕ} {line : List ℕ} {more : List (List ℕ)} {steps : List StepText} → Says line comment
      → AreSteps pcbs pcb more steps → AreSteps pcbs pcb (line ∷ more) steps
  select_line : {pcbs pcb k : ℕ} {line : List ℕ} {more : List (List ℕ)} {steps : List StepText} → Says line (select k) → 0 < k → k ≤ pcbs
      → AreSteps pcbs k more steps → AreSteps pcbs pcb (line ∷ more) steps
  call_lines : {pcbs pcb k : ℕ} {line function area : List ℕ} {first further parts more : List (List ℕ)} {steps : List StepText}
      → Says line (call k (call_text function first [])) → AreParts parts further area → AreSteps pcbs pcb more steps
      → AreSteps pcbs pcb (line ∷ (parts ++ more)) (step_of pcb k (call_text function (first ++ further) area) ∷ steps)

-- A deck is read just where its lines are spelled as these steps, and as these steps.
abbrev pub StepsAreSpelled : Type 0
StepsAreSpelled = (pcbs : ℕ) (bytes : List ℕ) (steps : List StepText) → (deck pcbs bytes ≡ Ok steps) ↔ AreSteps pcbs 1 (lines bytes) steps

-- A deck, line by line. Columns count from 1, and a line is blank past its end.
use Rattle.std.specs.Prelude.{ℕ, ◌+◌, ◌-◌, List, [], ◌∷◌, ◌++◌, length, take, drop, replicate, Bool, true, false, ◌&&◌, ◌||◌, nat_lt, nat_le, ◌==◌, cond, ◌*◌, Option, None, Some, option_map, option_and_then, Result, Ok, Err, slice_index_or}
use Rattle.std.specs.Option.{option_map_or}
use Rattle.std.specs.List.{prefix_len}
use Rattle.std.specs.Str.Lines.{lines}
use Rattle.hd_lines.specs.Blanks.{is_blank, unpadded}
use Rattle.hd_lines.specs.Digits.{is_digit, value_of}
use Rattle.hd_lines.specs.Reading.{then}
use Rattle.hd_dbd.specs.Naming.{is_letter}
use Rattle.hd_dbd.specs.Calls.{CallText}
use Rattle.hd_deck.specs.StepText.{StepText}
use Rattle.hd_deck.specs.declared.deck.DeckFault.{DeckFault}
use Rattle.hd_deck.specs.declared.deck.DeckFault.TheVariants.{K1, K2, K3, K4, K5, K6, K7}

-- ---- columns

-- the byte in a column
abbrev pub column : List ℕ → ℕ → ℕ
column line c = slice_index_or line (c - 1) 32

-- so many bytes from a column on
abbrev pub columns : List ℕ → ℕ → ℕ → List ℕ
columns line c count = take count (drop (c - 1) line ++ replicate count 32)

-- ---- numbers

-- the number that one digit or more spell, where nothing but blanks stands behind them
abbrev pub number_before_blanks : List ℕ → Option ℕ
number_before_blanks bytes =
    cond (nat_lt 0 (prefix_len is_digit bytes) && is_blank (drop (prefix_len is_digit bytes) bytes))
    (Some (value_of (take (prefix_len is_digit bytes) bytes))) None

-- the same, where blanks may stand before them too
abbrev pub number_in : List ℕ → Option ℕ
number_in bytes = number_before_blanks (unpadded bytes)

-- the value of a hexadecimal digit, 0 to 9 or a to f in lower case
abbrev pub hex_value : ℕ → Option ℕ
hex_value digit =
    cond (nat_le 48 digit && nat_le digit 57) (Some (digit - 48)) (cond (nat_le 97 digit && nat_le digit 102) (Some (digit - 87)) None)

-- the byte that two hexadecimal digits spell
abbrev pub hex_byte : ℕ → ℕ → Option ℕ
hex_byte high low = option_and_then (λ h. option_map (λ l. 16 * h + l) (hex_value low)) (hex_value high)

-- the bytes that hexadecimal digits spell, two each; none where one digit is left, or another byte stands there
abbrev pub hex_bytes : List ℕ → Option (List ℕ)
hex_bytes [] = Some []
hex_bytes (digit ∷ []) = None
hex_bytes (high ∷ low ∷ digits) = option_and_then (λ byte. option_map (λ others. byte ∷ others) (hex_bytes digits)) (hex_byte high low)

-- ---- a line

-- What a line says: nothing, of which PCB the calls that follow are, a call and how often it is made, or of the call
-- before it one segment search argument more or more bytes of its area.
pub data Statement : Type 0 where
  comment : Statement
  select : ℕ → Statement
  call : ℕ → CallText → Statement
  argument : List ℕ → Statement
  area_bytes : List ℕ → Statement

-- S: the PCB's number, one of so many; else K3
abbrev pub read_select : ℕ → ℕ → List ℕ → Result Statement DeckFault
read_select pcbs n line =
    option_map_or (λ k. cond (nat_lt 0 k && nat_le k pcbs) (Ok (select k)) (Err (K3 n))) (number_in (drop 1 line)) (Err (K3 n))

-- L: how often the call is made, in columns 2 to 5: once where they are blank, and never 0 times
abbrev pub repeat_in : List ℕ → Option ℕ
repeat_in line =
    cond (is_blank (columns line 2 4)) (Some 1) (option_and_then (λ k. cond (k == 0) None (Some k)) (number_in (columns line 2 4)))

-- letters in front, one at the least, and then blanks
abbrev pub is_function : List ℕ → Bool
is_function bytes = nat_lt 0 (prefix_len is_letter bytes) && is_blank (drop (prefix_len is_letter bytes) bytes)

-- L: a function in columns 7 to 10, between blanks in columns 6 and 11
abbrev pub has_function : List ℕ → Bool
has_function line = column line 6 == 32 && is_function (columns line 7 4) && column line 11 == 32

-- L: what stands from column 12 on is a segment search argument, if the line goes so far
abbrev pub ssas_in : List ℕ → List (List ℕ)
ssas_in line = cond (nat_lt 11 (length line)) (drop 11 line ∷ []) []

abbrev pub call_in : List ℕ → CallText
call_in line = record { function = columns line 7 4; ssas = ssas_in line; area = [] }

-- L: K5 where the repeat count is wrong, else K2 where the function or a blank beside it is
abbrev pub read_call : ℕ → List ℕ → Result Statement DeckFault
read_call n line =
    option_map_or (λ k. cond (has_function line) (Ok (call k (call_in line))) (Err (K2 n))) (repeat_in line) (Err (K5 n))

-- C, D or H: the line belongs to the call before it
abbrev pub belongs_to_call : List ℕ → Bool
belongs_to_call line = column line 1 == 67 || column line 1 == 68 || column line 1 == 72

-- H: hexadecimal digits from column 2 on, else K7
abbrev pub read_hex : ℕ → List ℕ → Result Statement DeckFault
read_hex n line = option_map_or (λ bytes. Ok (area_bytes bytes)) (hex_bytes (drop 1 line)) (Err (K7 n))

-- what belongs to a call: C, an argument from column 12 on; D, bytes of the area from column 2 on; else H
abbrev pub read_part : ℕ → List ℕ → Result Statement DeckFault
read_part n line =
    cond (column line 1 == 67) (Ok (argument (drop 11 line))) (cond (column line 1 == 68) (Ok (area_bytes (drop 1 line))) (read_hex n line))

-- What line n says, by its first column: S, L, a part of the call before it, or nothing where it is blank or has a star
-- there. K6 comes first, for a line of over 255 bytes; K4 where no call is open; any other first column is K1.
abbrev pub read_line : ℕ → ℕ → Bool → List ℕ → Result Statement DeckFault
read_line pcbs n is_open line =
    cond (nat_lt 255 (length line)) (Err (K6 n))
    (cond (is_blank line || column line 1 == 42) (Ok comment)
    (cond (column line 1 == 83) (read_select pcbs n line)
    (cond (column line 1 == 76) (read_call n line)
    (cond (belongs_to_call line) (cond is_open (read_part n line) (Err (K4 n))) (Err (K1 n))))))

-- ---- the lines of a deck

-- What some first lines have said: the PCB of the calls that follow, whether a call is open, so that lines may belong to
-- it, and the steps, of which the last has the call that is open.
pub record Reading : Type 0 where
  pub pcb : ℕ
  pub is_open : Bool
  pub steps : List StepText

-- a step whose call has one segment search argument more
abbrev pub with_argument : List ℕ → StepText → StepText
with_argument ssa s = record {
  pcb = s.pcb;
  repeat = s.repeat;
  call = record { function = s.call.function; ssas = s.call.ssas ++ ssa ∷ []; area = s.call.area };
}

-- a step whose call has these bytes behind its area
abbrev pub with_bytes : List ℕ → StepText → StepText
with_bytes bytes s = record {
  pcb = s.pcb;
  repeat = s.repeat;
  call = record { function = s.call.function; ssas = s.call.ssas; area = s.call.area ++ bytes };
}

-- the steps, the last of them changed so
abbrev pub with_last : (StepText → StepText) → List StepText → List StepText
with_last change [] = []
with_last change (s ∷ []) = change s ∷ []
with_last change (s ∷ t ∷ more) = s ∷ with_last change (t ∷ more)

-- S selects the PCB and leaves no call open; L opens a call, a step more; a part goes to the last step's call
abbrev pub after : Statement → Reading → Reading
after comment r = r
after (select k) r = record { pcb = k; is_open = false; steps = r.steps }
after (call k text) r = record { pcb = r.pcb; is_open = true; steps = r.steps ++ record { pcb = r.pcb; repeat = k; call = text } ∷ [] }
after (argument ssa) r = record { pcb = r.pcb; is_open = r.is_open; steps = with_last (with_argument ssa) r.steps }
after (area_bytes bytes) r = record { pcb = r.pcb; is_open = r.is_open; steps = with_last (with_bytes bytes) r.steps }

-- before the first line: calls are of PCB 1, none is open, and there are no steps
abbrev pub at_first_line : Reading
at_first_line = record { pcb = 1; is_open = false; steps = [] }

-- the steps when the lines from number n on are read too, or the first fault
abbrev pub read_from : ℕ → ℕ → Reading → List (List ℕ) → Result (List StepText) DeckFault
read_from pcbs n r [] = Ok r.steps
read_from pcbs n r (line ∷ more) = then (read_line pcbs n r.is_open line) (λ s. read_from pcbs (n + 1) (after s r) more)

-- the steps of a deck over so many PCBs, or the first fault
abbrev pub deck : ℕ → List ℕ → Result (List StepText) DeckFault
deck pcbs bytes = read_from pcbs 1 at_first_line (lines bytes)

-- The column from which the operand text of a line is none.
use Rattle.std.specs.Prelude.{ℕ, ◌+◌, ◌-◌, List, [], ◌∷◌, length, drop, ◌==◌, nat_lt, cond, Result, Ok, Err}
use Rattle.std.specs.Option.{option_map_or}
use Rattle.std.specs.Str.Lines.{lines}
use Rattle.hd_lines.specs.Blanks.{unpadded}
use Rattle.hd_macro.specs.Cards.{card, text_columns, word, behind_word}
use Rattle.hd_macro.specs.Operands.{Reading, unread, read_at}
use Rattle.hd_macro.specs.Source.{Open, nothing, operands, remarks, read_line}

-- of bytes behind so many that are read, how many can be read with these: up to the first that may not stand where it stands
abbrev pub readable_from : ℕ → Reading → List ℕ → ℕ
readable_from n r [] = n
readable_from n r (b ∷ bs) = option_map_or (λ s. readable_from (n + 1) s bs) (read_at r.place r b) n

abbrev pub readable : Reading → List ℕ → ℕ
readable r piece = readable_from 0 r piece

-- where operand text stands that fills the last of 71 columns: its first column, and behind it as many as can be read
abbrev pub column_behind : Reading → List ℕ → ℕ
column_behind r text = 72 - length text + readable r (word text)

-- The column of a line, behind what stands open, from which its operand text is none: that of the first byte that may not stand
-- where it stands, or else the one behind the text, which then ends too early.
abbrev pub column_in : Open → List ℕ → ℕ
column_in nothing columns =
    column_behind unread (unpadded (behind_word (unpadded (behind_word (text_columns columns)))))
column_in (operands s r) columns = column_behind r (drop 15 (text_columns columns))
column_in (remarks s) columns = 0

-- a line of over 80 bytes has no columns
abbrev pub column_of : Open → List ℕ → ℕ
column_of o line = cond (nat_lt 80 (length line)) 0 (column_in o (card line))

-- what is said of a part that was read; else this
abbrev pub read_or : {A B E : Type 0} → Result A E → (A → B) → B → B
read_or (Ok x) more none = more x
read_or (Err fault) more none = none

-- the same column of the line of a number, among lines of which the first has the number n; 0 where a line before it has a fault,
-- or none has the number
abbrev pub column_from : ℕ → Open → ℕ → List (List ℕ) → ℕ
column_from number o n [] = 0
column_from number o n (line ∷ more) =
    cond (n == number) (column_of o line) (read_or (read_line o n line) (λ s. column_from number s.open_behind (n + 1) more) 0)

-- the column of a source's line from which its operand text is none
abbrev pub fault_column : List ℕ → ℕ → ℕ
fault_column bytes number = column_from number nothing 1 (lines bytes)

-- The lines of a source, told as a grammar.
use Rattle.std.specs.Prelude.{◌≡◌, ◌⊎◌, ℕ, ◌+◌, List, [], ◌∷◌, ◌++◌, length, take, drop, Bool, true, false, not, ◌&&◌, nat_lt, ◌==◌, slice_index}
use Rattle.hd_lines.specs.Blanks.{is_blank, unpadded}
use Rattle.hd_macro.specs.Statements.{OperandText, StatementText}
use Rattle.hd_macro.specs.Cards.{card, text_columns, goes_on, is_ignored, has_other_byte, word, behind_word, is_listing}
use Rattle.hd_macro.specs.Source.{is_cut, finished}
use Rattle.hd_macro.specs.Grammar.{IsSpelled}

-- a line has eighty bytes at the most, and each is ASCII
abbrev pub is_line : List ℕ → Bool
is_line line = not (nat_lt 80 (length line)) && not (has_other_byte line)

-- the label of a line, and its operation
abbrev pub label_of : List ℕ → List ℕ
label_of line = word (text_columns line)

abbrev pub operation_of : List ℕ → List ℕ
operation_of line = word (unpadded (behind_word (text_columns line)))

-- what stands behind the operation: operands up to a blank, and a remark
abbrev pub behind_operation : List ℕ → List ℕ
behind_operation line = unpadded (behind_word (unpadded (behind_word (text_columns line))))

-- columns 16 to 71, where operands go on up to a blank
abbrev pub continued_columns : List ℕ → List ℕ
continued_columns line = drop 15 (text_columns line)

-- columns 1 to 15 are blank
abbrev pub is_indented : List ℕ → Bool
is_indented line = is_blank (take 15 (card line))

-- operands go on here: columns 1 to 15 are blank, and column 16 is not
abbrev pub continues_operands : List ℕ → Bool
continues_operands line = is_indented line && not (slice_index (card line) 15 == 32)

-- the operands in these columns of a line go on in the next line: they end with a comma or reach column 71, and column 72 is
-- not blank
abbrev pub operands_go_on : List ℕ → List ℕ → Bool
operands_go_on line columns = goes_on line && is_cut (word columns) (behind_word columns)

-- The lines with the remark of a statement behind one of its lines: none where column 72 of it is blank, else an indented line
-- and those behind that.
pub data AreRemarks : List ℕ → List (List ℕ) → Type 0 where
  last : {line : List ℕ} → goes_on line ≡ false → AreRemarks line []
  further : {line next : List ℕ} {more : List (List ℕ)} → goes_on line ≡ true → is_line next ≡ true → is_indented next ≡ true
      → AreRemarks next more → AreRemarks line (next ∷ more)

-- The operand text that begins in these columns of a line, and the lines of the statement behind it: the text is that of the
-- columns, and where the operands go on, that of the next line's columns 16 to 71 behind it, and so on.
pub data IsOperandText : List ℕ → List ℕ → List (List ℕ) → List ℕ → Type 0 where
  whole : {line columns : List ℕ} {more : List (List ℕ)} → operands_go_on line columns ≡ false → AreRemarks line more
      → IsOperandText line columns more (word columns)
  joined : {line columns next : List ℕ} {more : List (List ℕ)} {text : List ℕ} → operands_go_on line columns ≡ true
      → is_line next ≡ true → continues_operands next ≡ true → IsOperandText next (continued_columns next) more text
      → IsOperandText line columns (next ∷ more) (word columns ++ text)

-- The operands of a statement are those that its operand text spells; one that only lays out a listing has none.
abbrev pub AreOperands : List ℕ → List ℕ → List OperandText → Type 0
AreOperands operation text operands = ((is_listing operation ≡ true) × (operands ≡ [])) ⊎ ((is_listing operation ≡ false) × IsSpelled text operands)

-- A line, its number, and the lines behind it are those of a statement.
pub record IsStatement (n : ℕ) (line : List ℕ) (more : List (List ℕ)) (operands : List OperandText) : Type 0 where
  pub line_is : is_line line ≡ true
  pub not_ignored : is_ignored line ≡ false
  pub text : List ℕ
  pub text_is : IsOperandText line (behind_operation line) more text
  pub operands_are : AreOperands (operation_of line) text operands

-- the statement that begins with a line, with these operands
abbrev pub statement_of : ℕ → List ℕ → List OperandText → StatementText
statement_of n line operands = record { label = label_of line; operation = operation_of line; operands = operands; line = n }

-- The lines from number n on are comments, blank lines, and the lines of statements; a statement that only lays out a listing
-- is dropped.
pub data AreStatements : ℕ → List (List ℕ) → List StatementText → Type 0 where
  none : {n : ℕ} → AreStatements n [] []
  ignored : {n : ℕ} {line : List ℕ} {more : List (List ℕ)} {statements : List StatementText}
      → is_line line ≡ true → is_ignored line ≡ true → AreStatements (n + 1) more statements → AreStatements n (line ∷ more) statements
  statement : {n : ℕ} {line : List ℕ} {own more : List (List ℕ)} {operands : List OperandText} {statements : List StatementText}
      → IsStatement n line own operands → AreStatements (n + 1 + length own) more statements
      → AreStatements n (line ∷ (own ++ more)) (finished (statement_of n line operands) ++ statements)

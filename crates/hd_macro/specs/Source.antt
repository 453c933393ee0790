-- A source, line by line, and the statements of its lines.
use Rattle.std.specs.Prelude.{ℕ, ◌+◌, ◌-◌, List, [], ◌∷◌, length, take, drop, Bool, not, ◌&&◌, ◌||◌, nat_lt, ◌==◌, cond, Result, Ok, Err, slice_index}
use Rattle.std.specs.Option.{option_map_or}
use Rattle.std.specs.Str.Lines.{lines}
use Rattle.hd_macro.specs.Statements.{StatementText}
use Rattle.hd_lines.specs.Blanks.{is_blank, unpadded}
use Rattle.hd_lines.specs.Reading.{then, before}
use Rattle.hd_macro.specs.Cards.{card, text_columns, goes_on, is_ignored, has_other_byte, word, behind_word, is_listing}
use Rattle.hd_macro.specs.Operands.{Reading, unread, read_text, ended}
use Rattle.hd_macro.specs.declared.source.LineFault.{LineFault}
use Rattle.hd_macro.specs.declared.source.LineFault.TheVariants.{M1, M2, M3, M4}

-- ---- one statement

-- What stands open behind a line: nothing; a statement whose operands go on, as far as they are read; or one whose remarks
-- go on.
pub data Open : Type 0 where
  nothing : Open
  operands : StatementText → Reading → Open
  remarks : StatementText → Open

-- What a line gives: the statements that end with it, one at the most, and what stands open behind it.
pub record Step : Type 0 where
  pub done : List StatementText
  pub open_behind : Open

-- a statement that ends; one that only lays out a listing is dropped
abbrev pub finished : StatementText → List StatementText
finished s = cond (is_listing s.operation) [] (s ∷ [])

-- A statement ends with a line, or its remarks go on in the next, as column 72 says.
abbrev pub ending : StatementText → List ℕ → Step
ending s line = cond (goes_on line) (record { done = []; open_behind = remarks s }) (record { done = finished s; open_behind = nothing })

-- the operand text of a line ends with a comma, or reaches column 71
abbrev pub is_cut : List ℕ → List ℕ → Bool
is_cut piece behind = nat_lt 0 (length piece) && (slice_index piece (length piece - 1) == 44 || length behind == 0)

-- The statement with the operand text of line n, and what stands behind that text: it goes on in the next line where it is
-- cut and column 72 is not blank; else it ends. What may not stand in operand text, or may not end it, is M4; the text of a
-- statement that lays out a listing is not judged.
abbrev pub with_piece : StatementText → Reading → ℕ → List ℕ → List ℕ → List ℕ → Result Step LineFault
with_piece s r n line piece behind =
    cond (is_listing s.operation)
    (cond (goes_on line && is_cut piece behind) (Ok (record { done = []; open_behind = operands s r })) (Ok (ending s line)))
    (option_map_or (λ q.
    cond (goes_on line && is_cut piece behind) (Ok (record { done = []; open_behind = operands s q }))
    (option_map_or (λ os. Ok (ending (record s { operands = os }) line)) (ended q) (Err (M4 n))))
    (read_text r piece) (Err (M4 n)))

-- ---- a line

-- A statement begins: a label from column 1 on, if there is one, the operation, and the operands.
abbrev pub begin_statement : ℕ → List ℕ → Result Step LineFault
begin_statement n line =
    let text : List ℕ = text_columns line in
    let after_label : List ℕ = unpadded (behind_word text) in
    let after_operation : List ℕ = unpadded (behind_word after_label) in
    with_piece (record { label = word text; operation = word after_label; operands = []; line = n }) unread n line
    (word after_operation) (behind_word after_operation)

-- Operands go on in column 16, behind blanks; else M3.
abbrev pub go_on : StatementText → Reading → ℕ → List ℕ → Result Step LineFault
go_on s r n line =
    let text : List ℕ = drop 15 (text_columns line) in
    cond (is_blank (take 15 (card line)) && not (slice_index (card line) 15 == 32))
    (with_piece s r n line (word text) (behind_word text)) (Err (M3 n))

-- Remarks go on behind blanks in columns 1 to 15; else M3.
abbrev pub skip_remarks : StatementText → ℕ → List ℕ → Result Step LineFault
skip_remarks s n line = cond (is_blank (take 15 (card line))) (Ok (ending s line)) (Err (M3 n))

abbrev pub read_open : Open → ℕ → List ℕ → Result Step LineFault
read_open nothing n line = cond (is_ignored line) (Ok (record { done = []; open_behind = nothing })) (begin_statement n line)
read_open (operands s r) n line = go_on s r n line
read_open (remarks s) n line = skip_remarks s n line

-- line n behind what stands open: M1 where it has over 80 bytes, M2 where one is not ASCII, then the rest
abbrev pub read_line : Open → ℕ → List ℕ → Result Step LineFault
read_line o n line =
    cond (nat_lt 80 (length line)) (Err (M1 n)) (cond (has_other_byte line) (Err (M2 n)) (read_open o n line))

-- ---- the lines of a source

-- behind the last line nothing stands open; else M3, at the line that is missing
abbrev pub at_end : Open → ℕ → Result (List StatementText) LineFault
at_end nothing n = Ok []
at_end (operands s r) n = Err (M3 n)
at_end (remarks s) n = Err (M3 n)

-- the statements of the lines from number n on, behind what stands open; or the first fault
abbrev pub statements_from : Open → ℕ → List (List ℕ) → Result (List StatementText) LineFault
statements_from o n [] = at_end o n
statements_from o n (line ∷ more) = then (read_line o n line) (λ s. before s.done (statements_from s.open_behind (n + 1) more))

-- the statements of a source, or its first fault
abbrev pub source : List ℕ → Result (List StatementText) LineFault
source bytes = statements_from nothing 1 (lines bytes)

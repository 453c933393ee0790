-- The grammar of a source, told as laws of the words that read it.
use Rattle.std.specs.Prelude.{◌≡◌, ◌↔◌, ℕ, List, true, Option, Some, Ok, option_and_then}
use Rattle.std.specs.List.{list_all}
use Rattle.std.specs.Str.Lines.{lines}
use Rattle.hd_macro.specs.Statements.{OperandText, StatementText}
use Rattle.hd_macro.specs.Operands.{unread, read_text, ended}
use Rattle.hd_macro.specs.Grammar.{KeywordOperand, operands_spelling, may_stand, IsSpelled}
use Rattle.hd_macro.specs.Source.{source}
use Rattle.hd_macro.specs.Lines.{AreStatements}

-- the operands of a text, if it is operand text: read byte by byte, it may end where it ends
abbrev pub operands_in : List ℕ → Option (List OperandText)
operands_in text = option_and_then ended (read_text unread text)

-- A text is read as operands just where it is spelled by them.
abbrev pub OperandTextIsSpelled : Type 0
OperandTextIsSpelled = (text : List ℕ) (texts : List OperandText) → (operands_in text ≡ Some texts) ↔ IsSpelled text texts

-- A text spells one list of operands at the most: those that may stand and are spelled alike are the same.
abbrev pub OneListIsSpelled : Type 0
OneListIsSpelled = (os ps : List KeywordOperand) → list_all may_stand os ≡ true → list_all may_stand ps ≡ true
    → operands_spelling os ≡ operands_spelling ps → os ≡ ps

-- A source is read just where its lines are comments, blank lines and the lines of statements, and as these statements.
abbrev pub SourceIsStatements : Type 0
SourceIsStatements = (bytes : List ℕ) (statements : List StatementText) → (source bytes ≡ Ok statements) ↔ AreStatements 1 (lines bytes) statements

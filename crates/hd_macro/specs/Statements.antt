-- Statements of a source, as callers see them.
use Rattle.std.specs.Prelude.{ℕ, List}

-- An operand: a keyword, and what stands behind its equals sign, brackets and commas and all.
pub record OperandText : Type 0 where
  pub keyword : List ℕ
  pub value : List ℕ

-- A statement with the number of its first line, from 1. Label and operation may be empty.
pub record StatementText : Type 0 where
  pub label : List ℕ
  pub operation : List ℕ
  pub operands : List OperandText
  pub line : ℕ

-- The operand for which a statement is refused.
use Rattle.std.specs.Prelude.{ℕ, ◌+◌, List, [], ◌∷◌, ◌++◌, length, cond, Option, Some, None}
use Rattle.std.specs.Option.{option_map_or}
use Rattle.hd_macro.specs.Statements.{OperandText, StatementText}
use Rattle.hd_macro.specs.FaultColumns.{read_or}
use Rattle.hd_gen.specs.declared.given.Context.{Context}
use Rattle.hd_gen.specs.declared.source.Kind.{Kind}
use Rattle.hd_gen.specs.declared.source.Progress.{Progress}
use Rattle.hd_gen.specs.declared.table.Operation.{Operation}
use Rattle.hd_gen.specs.declared.table.Stage.TheVariants as stages
use Rattle.hd_gen.specs.Drafts.{empty_draft}
use Rattle.hd_gen.specs.Operands.{Given, nothing_given, with_operand}
use Rattle.hd_gen.specs.Sources.{operation_of, context_of, is_lchild_below_root, with_next, statements_in}

-- of operands behind so many that are read, how many are read with these: up to the first that is refused
abbrev pub read_from : Context → Operation → ℕ → ℕ → List OperandText → Given → List OperandText → ℕ
read_from c operation line n before g [] = n
read_from c operation line n before g (o ∷ os) =
    read_or (with_operand c operation line before g o) (λ h. read_from c operation line (n + 1) (before ++ o ∷ []) h os) n

abbrev pub count_read : Context → Operation → ℕ → List OperandText → ℕ
count_read c operation line os = read_from c operation line 0 [] nothing_given os

-- how many operands of one statement more are read: all of an LCHILD below the root, which is refused itself
abbrev pub read_of : Kind → Progress → StatementText → ℕ
read_of kind p s =
    option_map_or (λ operation.
    cond (is_lchild_below_root operation p.draft) (length s.operands) (count_read (context_of kind p.draft) operation s.line s.operands))
    (operation_of kind s.operation) 0

-- of the first statement that is refused, how many operands are read; nothing where none is
abbrev pub refused_from : Kind → Progress → List StatementText → Option ℕ
refused_from kind p [] = None
refused_from kind p (s ∷ ss) = read_or (with_next kind p s) (λ q. refused_from kind q ss) (Some (read_of kind p s))

-- the same of a source; nothing where a line of it has a fault
abbrev pub refused_operand : Kind → List ℕ → Option ℕ
refused_operand kind bytes =
    read_or (statements_in bytes) (λ ss. refused_from kind (record { stage = stages.Start; draft = empty_draft }) ss) None

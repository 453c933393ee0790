use Rattle.std.proofs.Common.{◌≡◌, drop}
use Rattle.hd_gen.specs.Drafts.{empty_draft}
use Rattle.hd_gen.specs.Sources.{draft_from, line_behind}
use Rattle.hd_gen.specs.declared.table.Stage.TheVariants as stages
use Rattle.hd_gen.proofs.source.read_statements.Given as goal

-- what is left of the list gives the answer of all of it
abbrev pub invariant-loop-statement : goal.invariant-loop-statement
invariant-loop-statement l =
    draft_from l.kind (line_behind l.bytes) l.progress (drop l.statement-index l.statements) ≡ draft_from l.kind (line_behind l.bytes) (record { stage = stages.Start; draft = empty_draft }) l.statements

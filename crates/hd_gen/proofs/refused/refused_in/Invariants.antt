use Rattle.std.proofs.Common.{◌≡◌, drop}
use Rattle.hd_gen.specs.Drafts.{empty_draft}
use Rattle.hd_gen.specs.Refused.{refused_from}
use Rattle.hd_gen.specs.declared.table.Stage.TheVariants as stages
use Rattle.hd_gen.proofs.refused.refused_in.Given as goal

-- what is left of the list gives the answer of all of it
abbrev pub invariant-loop-statement : goal.invariant-loop-statement
invariant-loop-statement l =
    refused_from l.kind l.progress (drop l.statement-index l.statements) ≡ refused_from l.kind (record { stage = stages.Start; draft = empty_draft }) l.statements

use Rattle.std.proofs.Common.{◌≡◌, drop}
use Rattle.hd_calls.specs.Ssas.{unqualified}
use Rattle.hd_ssa.specs.Named.{heads_in}
use Rattle.hd_ssa.proofs.resolution.unqualified.Given as goal

-- the heads that are left give the answer of all
abbrev pub invariant-loop-head : goal.invariant-loop-head
invariant-loop-head l = unqualified (heads_in (drop l.head-index l.heads)) ≡ unqualified (heads_in l.heads)

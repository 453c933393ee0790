use Rattle.std.proofs.Common.{◌≡◌, ◌+◌, ◌++◌, drop}
use Rattle.hd_dbd.specs.Prefixes.{children_from, children_of}
use Rattle.hd_dbd.proofs.facts.children_of.Given as goal

abbrev pub invariant-loop-place : goal.invariant-loop-place
invariant-loop-place l = l.codes.items ++ children_from l.code (l.place + 1) (drop l.place l.types) ≡ children_of l.types l.code

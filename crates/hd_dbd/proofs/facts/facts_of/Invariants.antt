use Rattle.std.proofs.Common.{◌≡◌, ◌+◌, ◌-◌, ◌++◌, length}
use Rattle.hd_dbd.specs.Facts.{table_from, facts_at, facts_of}
use Rattle.hd_dbd.proofs.facts.facts_of.Given as goal

abbrev pub invariant-loop-place : goal.invariant-loop-place
invariant-loop-place l = l.table.items ++ table_from (facts_at l.types) (l.place + 1) (length l.types - l.place) ≡ facts_of l.types

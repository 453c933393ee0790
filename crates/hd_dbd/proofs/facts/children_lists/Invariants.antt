use Rattle.std.proofs.Common.{◌≡◌, ◌+◌, ◌-◌, ◌++◌, length, map}
use Rattle.hd_dbd.specs.Prefixes.{children_of}
use Rattle.hd_dbd.specs.Facts.{table_from, children_lists}
use Rattle.hd_dbd.proofs.facts.children_lists.Given as goal

abbrev pub invariant-loop-place : goal.invariant-loop-place
invariant-loop-place l = map (λ v. v.items) l.lists.items ++ table_from (children_of l.types) (l.place + 1) (length l.types - l.place) ≡ children_lists l.types

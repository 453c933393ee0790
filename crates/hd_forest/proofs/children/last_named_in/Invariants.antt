use Rattle.std.proofs.Common.{◌≡◌, ◌≤◌, length, drop}
use Rattle.hd_dbd.specs.Prefixes.{prefix_length}
use Rattle.hd_prefix.specs.Fields.{code_of}
use Rattle.hd_forest.specs.Children.{last_named_in}
use Rattle.hd_forest.proofs.children.last_named_in.Given as goal

abbrev pub invariant-loop-code : goal.invariant-loop-code
invariant-loop-code l =
    prefix_length l.dbd.types (code_of l.segment) ≤ length l.segment
    → last_named_in l.dbd.types l.segment l.end l.last (drop l.code-index l.types) ≡ last_named_in l.dbd.types l.segment l.end 0 l.types

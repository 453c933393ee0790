use Rattle.std.proofs.Common.{◌≡◌, ◌≤◌, length, drop}
use Rattle.hd_dbd.specs.Prefixes.{prefix_length}
use Rattle.hd_prefix.specs.Fields.{code_of}
use Rattle.hd_forest.specs.Children.{child_in}
use Rattle.hd_forest.proofs.children.child_in.Given as goal

abbrev pub invariant-loop-code : goal.invariant-loop-code
invariant-loop-code l =
    prefix_length l.dbd.types (code_of l.segment) ≤ length l.segment → child_in l.dbd.types l.segment (drop l.code-index l.types) ≡ child_in l.dbd.types l.segment l.types

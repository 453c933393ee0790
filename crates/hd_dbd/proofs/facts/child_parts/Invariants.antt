use Rattle.std.proofs.Common.{◌≡◌, ◌+◌, ◌*◌, ◌≤◌, drop}
use Rattle.hd_dbd.specs.Prefixes.{child_parts}
use Rattle.hd_dbd.proofs.facts.child_parts.Given as goal

abbrev pub invariant-loop-segment : goal.invariant-loop-segment
invariant-loop-segment l = record {
  told : l.total + child_parts l.parent (drop l.segment-index l.types) ≡ child_parts l.parent l.types;
  low : l.total ≤ 8 * l.segment-index;
}

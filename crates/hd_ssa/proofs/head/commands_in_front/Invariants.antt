use Rattle.std.proofs.Common.{◌≡◌, ◌+◌, ◌-◌, ◌≤◌, drop, length}
use Rattle.std.specs.List.{prefix_len}
use Rattle.hd_calls.specs.Ssas.{is_command}
use Rattle.hd_ssa.proofs.head.commands_in_front.Given as goal

-- the codes counted, and those still in front, are all
abbrev pub invariant-loop-count : goal.invariant-loop-count
invariant-loop-count l = record {
  within : l.count ≤ length l.bytes;
  same : l.count + prefix_len is_command (drop l.count l.bytes) ≡ prefix_len is_command l.bytes;
}

abbrev pub decreases-loop-count : goal.decreases-loop-count
decreases-loop-count l = length l.bytes - l.count

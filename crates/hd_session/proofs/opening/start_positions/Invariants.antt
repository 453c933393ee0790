use Rattle.std.proofs.Common.{◌≡◌, take}
use Rattle.hd_session.specs.Opening.{all_at_start}
use Rattle.hd_session.proofs.opening.start_positions.Given as goal

-- each PCB so far is before all rows
abbrev pub invariant-loop-pcb : goal.invariant-loop-pcb
invariant-loop-pcb l = l.positions.items ≡ all_at_start (take l._pcb-index l.pcbs)

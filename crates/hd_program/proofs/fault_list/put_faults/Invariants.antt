use Rattle.std.proofs.Common.{◌≡◌}
use Rattle.hd_program.proofs.fault_list.put_faults.Given as goal

-- the segments of the volume are of the same sizes as before
abbrev pub invariant-loop-fault : goal.invariant-loop-fault
invariant-loop-fault g l = l.volume.sizes ≡ l.fn.volume.sizes

use Rattle.std.proofs.Common.{◌≡◌}
use Rattle.hd_program.proofs.tables_command.write_tables.Given as goal

-- the blocks and the segments of the volume are of the same sizes as before
abbrev pub invariant-loop-segment : goal.invariant-loop-segment
invariant-loop-segment g l = (l.volume.size ≡ l.fn.volume.size) × (l.volume.sizes ≡ l.fn.volume.sizes)

use Rattle.std.proofs.Common.{◌≡◌, drop}
use Rattle.hd_macro.specs.FaultColumns.{readable_from, readable}
use Rattle.hd_macro.specs.Views.{reading_of}
use Rattle.hd_macro.proofs.fault_place.readable.Given as goal

abbrev pub invariant-loop-place : goal.invariant-loop-place
invariant-loop-place l = readable_from l.place (reading_of l.now) (drop l.place l.piece) ≡ readable (reading_of l.fn.reading) l.piece

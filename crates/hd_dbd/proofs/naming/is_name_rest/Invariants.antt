use Rattle.std.proofs.Common.{◌≡◌, drop}
use Rattle.hd_dbd.specs.Naming.{is_name_rest}
use Rattle.hd_dbd.proofs.naming.is_name_rest.Given as goal

abbrev pub invariant-loop-place : goal.invariant-loop-place
invariant-loop-place l = is_name_rest (drop l.place l.bytes) ≡ is_name_rest l.bytes

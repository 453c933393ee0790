use Rattle.std.proofs.Common.{◌≡◌, min, take}
use Rattle.hd_lines.specs.Digits.{value_of}
use Rattle.hd_gen.proofs.value.value_of.Given as goal

abbrev pub invariant-loop-digit : goal.invariant-loop-digit
invariant-loop-digit l = l.value ≡ min (value_of (take l.digit-index l.digits)) 4294967296

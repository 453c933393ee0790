use Rattle.std.proofs.Common.{◌≡◌, take}
use Rattle.hd_dbd.proofs.Distinct.{names_of}
use Rattle.hd_dbd.proofs.rules.field_names.Given as goal

-- the names of the fields so far
abbrev pub invariant-loop-field : goal.invariant-loop-field
invariant-loop-field l = l.names.items ≡ names_of (take l.field-index l.fields)

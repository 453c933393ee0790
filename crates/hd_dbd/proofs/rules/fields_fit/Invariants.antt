use Rattle.std.proofs.Common.{◌≡◌, drop}
use Rattle.hd_dbd.specs.DatabaseRules.{fields_fit}
use Rattle.hd_dbd.proofs.rules.fields_fit.Given as goal

abbrev pub invariant-loop-field : goal.invariant-loop-field
invariant-loop-field l = fields_fit l.length (drop l.field-index l.fields) ≡ fields_fit l.length l.fields

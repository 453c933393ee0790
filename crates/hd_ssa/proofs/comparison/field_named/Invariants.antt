use Rattle.std.proofs.Common.{◌≡◌, take, drop}
use Rattle.std.specs.Prelude.{find, bytes_eq}
use Rattle.hd_ssa.proofs.comparison.field_named.Given as goal

-- the fields that are left give the answer of all
abbrev pub invariant-loop-field : goal.invariant-loop-field
invariant-loop-field l =
    find (λ f. bytes_eq f.name (take 8 l.text)) (drop l.field-index l.segment.fields) ≡ find (λ f. bytes_eq f.name (take 8 l.text)) l.segment.fields

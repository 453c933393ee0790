use Rattle.std.proofs.Common.{◌-◌, ◌≡◌, ℕ, ◌≤◌, ◌<◌}
use Rattle.std.specs.Prelude.{slice_index}
use Rattle.hd_prefix.specs.Fields.{twins_end}
use Rattle.hd_prefix.specs.Layouts.{types_of, type_code}
use Rattle.hd_prefix.proofs.Childless.{AreFours}
use Rattle.hd_prefix.proofs.layout.Layout.names_no_children.Given as goal

-- the bytes behind the twin pointers are 0 so far
abbrev pub invariant-loop-place : goal.invariant-loop-place
invariant-loop-place l = record {
  begins : twins_end (types_of l.self) (type_code l.self) ≤ l.place;
  zeros : (i : ℕ) → twins_end (types_of l.self) (type_code l.self) ≤ i → i < l.place → slice_index l.segment i ≡ 0;
  fours : AreFours l.place l.end;
}

abbrev pub decreases-loop-place : goal.decreases-loop-place
decreases-loop-place l = l.end - l.place

use Rattle.std.proofs.Common.{◌≡◌, ◌≢◌, ℕ, take}
use Rattle.hd_check_blocks.specs.Places.{PlacesAscend}
use Rattle.hd_check_pointers.specs.Namings.{holders}
use Rattle.hd_check_pointers.proofs.Arranging.{AreAtPlaces}
use Rattle.hd_check_pointers.proofs.predecessors.arrange.Given as goal

-- the table has the pointers that were met, each at the number of its place
abbrev pub invariant-loop-naming : goal.invariant-loop-naming
invariant-loop-naming l = record {
  at : AreAtPlaces l.places l.table.items;
  same : PlacesAscend l.places → (a : ℕ) → a ≢ 0 → holders a l.table.items ≡ holders a (take l.naming-index l.namings);
}

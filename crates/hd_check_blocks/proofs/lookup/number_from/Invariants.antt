use Rattle.std.proofs.Common.{ℕ, ◌-◌, ◌<◌, ◌≤◌, length}
use Rattle.hd_check_blocks.specs.Places.{PlacesAscend}
use Rattle.hd_check_blocks.specs.Places.{place_at}
use Rattle.hd_check_blocks.proofs.lookup.number_from.Given as goal

-- what is before the middle part stands before the address, and what is behind it behind the address
abbrev pub invariant-loop-low : goal.invariant-loop-low
invariant-loop-low l = record {
  order : l.low ≤ l.high;
  most : l.high ≤ length l.places;
  below : PlacesAscend l.places → (j : ℕ) → j < l.low → (place_at l.places j).address < l.address;
  above : PlacesAscend l.places → (j : ℕ) → l.high ≤ j → j < length l.places → l.address < (place_at l.places j).address;
}

abbrev pub decreases-loop-low : goal.decreases-loop-low
decreases-loop-low l = l.high - l.low

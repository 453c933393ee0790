use Rattle.std.proofs.Common.{◌≡◌, ◌<◌, ℕ}
use Rattle.hd_check_pointers.specs.Tables.{place_at, naming_at}
use Rattle.hd_check_pointers.proofs.predecessors.name_their_places.Given as goal

-- each pointer that was looked at names the place of its number
abbrev pub invariant-loop-number : goal.invariant-loop-number
invariant-loop-number l = (i : ℕ) → i < l.number → (naming_at l.namings i).target ≡ (place_at l.places i).address

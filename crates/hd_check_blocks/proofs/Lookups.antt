-- Places in order, by their numbers.
use Rattle.std.proofs.Common.{◌≡◌, inl, inr, ℕ, zero, suc, ◌+◌, ◌<◌, ◌≤◌, List, [], ◌∷◌, length, refl, sym, arith}
use Rattle.hd_check_blocks.specs.declared.places.Place.{Place}
use Rattle.hd_check_blocks.specs.Places.{place_at, IsPlaceOf, AreFrom, PlacesAscend}

-- a place of a number is one of the places
pub among : (ps : List Place) (j : ℕ) → j < length ps → IsPlaceOf (place_at ps j) ps
among [] j l = absurd (omega arith)
among (p ∷ ps) zero l = inl refl
among (p ∷ ps) (suc j) l = inr (among ps j (omega arith))

-- each of the places has a number
pub number-of : (p : Place) (ps : List Place) → IsPlaceOf p ps → (j : ℕ) × (j < length ps) × (place_at ps j ≡ p)
number-of p [] i = absurd i
number-of p (q ∷ ps) (inl e) = (0, omega arith, sym e)
number-of p (q ∷ ps) (inr i) = (let r = number-of p ps i in (suc r.0, (let l = r.1 in omega arith), r.2))

-- all places stand from an address on
from-at : (a : ℕ) (ps : List Place) (j : ℕ) → AreFrom a ps → j < length ps → a ≤ (place_at ps j).address
from-at a [] j h l = absurd (omega arith)
from-at a (p ∷ ps) zero h l = h.0
from-at a (p ∷ ps) (suc j) h l = from-at a ps j h.1 (omega arith)

-- a later place stands behind an earlier one
pub in-order : (ps : List Place) (i j : ℕ) → PlacesAscend ps → i < j → j < length ps → (place_at ps i).address < (place_at ps j).address
in-order [] i j h less l = absurd (omega arith)
in-order (p ∷ ps) zero zero h less l = absurd (omega arith)
in-order (p ∷ ps) zero (suc j) h less l = (let f = from-at (p.address + 1) ps j h.0 (omega arith) in omega arith)
in-order (p ∷ ps) (suc i) zero h less l = absurd (omega arith)
in-order (p ∷ ps) (suc i) (suc j) h less l = in-order ps i j h.1 (omega arith) (omega arith)

-- The records of a volume, place by place.
use Rattle.std.proofs.Common.{◌≡◌, inl, inr, ℕ, ◌<◌, List, length, true, false, Option, Some, None, IfNone, sym, ap, subst, arith}
use Rattle.std.specs.Prelude.{is_some}
use Rattle.std.proofs.lemmas.Bool.{cases_eq, cases_lt}
use Rattle.hd_dbd.specs.Types.{SegmentType}
use Rattle.hd_volume.specs.Volumes.{VolumeState}
use Rattle.hd_image.specs.Records.{links_of}
use Rattle.hd_check_blocks.specs.declared.places.Place.{Place}
use Rattle.hd_check_blocks.specs.Places.{ArePlaces}
use Rattle.hd_check_pointers.specs.Judging.{IsRecordRight}
use Rattle.hd_check_blocks.proofs.Lookups.{number-of, in-order}
use Rattle.hd_check_blocks.specs.Places.{place_at}

-- what holds of none holds where there is none
pub from-none : {A : Type 0} {P : Type 0} (o : Option A) → is_some o ≡ false → IfNone o P → P
from-none None h p = p
from-none (Some x) h p = cc

-- of none nothing is asked where there is some
pub some-none : {A : Type 0} (P : Type 0) (o : Option A) → is_some o ≡ true → IfNone o P
some-none P None h = cc
some-none P (Some x) h = tt

module _ (types : List SegmentType) (v : VolumeState) (ps : List Place) (h : ArePlaces types v ps) (roots : IsRecordRight types (links_of types v) 0) where
  -- the records before a place are right where those of the places before it are
  pub before-right : (i : ℕ) → i < length ps → ((j : ℕ) → j < i → IsRecordRight types (links_of types v) (place_at ps j).address)
      → (a : ℕ) → a < (place_at ps i).address → (links_of types v).here a ≡ true → IsRecordRight types (links_of types v) a
  before-right i within right a less there = elim (cases_eq a 0) [
    | inl e ↦ subst (IsRecordRight types (links_of types v)) (sym e) roots
    | inr ne ↦
        (let n = number-of _ ps (h.all a (record { some = omega arith; here = there })) in
        let at : (place_at ps n.0).address ≡ a = ap (λ (p : Place). p.address) n.2 in
        let j : ℕ = n.0 in
        let in-ps = n.1 in
        let before : j < i = elim (cases_lt j i) [
          | inl l ↦ l
          | inr high ↦ elim (cases_eq j i) [
            | inl same ↦ (let z : (place_at ps j).address ≡ (place_at ps i).address = ap (λ (x : ℕ). (place_at ps x).address) same in absurd (omega arith))
            | inr other ↦ (let later = in-order ps i j h.ascend (omega arith) in-ps in absurd (omega arith))
          ]
        ] in
        subst (IsRecordRight types (links_of types v)) at (right j before))
  ]

  -- all are where those of all places are
  pub all-right : ((j : ℕ) → j < length ps → IsRecordRight types (links_of types v) (place_at ps j).address) → (a : ℕ) → (links_of types v).here a ≡ true → IsRecordRight types (links_of types v) a
  all-right right a there = elim (cases_eq a 0) [
    | inl e ↦ subst (IsRecordRight types (links_of types v)) (sym e) roots
    | inr ne ↦
        (let n = number-of _ ps (h.all a (record { some = omega arith; here = there })) in
        subst (IsRecordRight types (links_of types v)) (ap (λ (p : Place). p.address) n.2) (right n.0 n.1))
  ]

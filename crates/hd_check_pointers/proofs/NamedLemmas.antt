-- What is wrong with one pointer, by what stands where it points.
use Rattle.std.proofs.Common.{◌≡◌, ◌≢◌, ℕ, List, [], ◌∷◌, true, false, inl, inr, refl, sym, ◌∙◌, arith, ne_eqb}
use Rattle.std.specs.Prelude.{◌==◌}
use Rattle.std.proofs.lemmas.Bool.{cases_Bool, eq-eqb}
use Rattle.hd_dbd.specs.Types.{SegmentType}
use Rattle.hd_volume.specs.Volumes.{VolumeState}
use Rattle.hd_links.specs.Links.{Links}
use Rattle.hd_image.specs.Records.{links_of}
use Rattle.hd_check_blocks.specs.declared.places.Place.{Place}
use Rattle.hd_check_blocks.specs.Places.{IsPlaceOf, ArePlaces}
use Rattle.hd_image.specs.PointerFaults.{Named}
use Rattle.hd_check_pointers.specs.Judging.{wrong_among}

abbrev pub one : ℕ → ℕ → List Named
one a code = record { address = a; type_code = code } ∷ []

-- it names no segment
nowhere-by : (m : Links) (a code : ℕ) → a ≢ 0 → m.here a ≡ false → wrong_among m (one a code) ≡ record { nowhere = a; another = 0 }
nowhere-by m a code some absent = rw (ne_eqb a 0 some, absent, ne_eqb a 0 some) refl

-- it names a segment of another type
another-by : (m : Links) (a code own : ℕ) → a ≢ 0 → m.here a ≡ true → m.code a ≡ own → own ≢ code → wrong_among m (one a code) ≡ record { nowhere = 0; another = a }
another-by m a code own some there is other = (let e : (m.code a == code) ≡ false = ne_eqb (m.code a) code (λ z. other (sym is ∙ z)) in rw (ne_eqb a 0 some, there, e, ne_eqb a 0 some) refl)

-- it names one of its type
right-by : (m : Links) (a code own : ℕ) → a ≢ 0 → m.here a ≡ true → m.code a ≡ own → own ≡ code → wrong_among m (one a code) ≡ record { nowhere = 0; another = 0 }
right-by m a code own some there is same = (let e : (m.code a == code) ≡ true = eq-eqb (m.code a) code (is ∙ same) in rw (ne_eqb a 0 some, there, e) refl)

module _ (types : List SegmentType) (v : VolumeState) (ps : List Place) (h : ArePlaces types v ps) where
  -- where no place is, no segment stands
  pub not-here : (a : ℕ) → a ≢ 0 → ((code : ℕ) → IsPlaceOf (record { address = a; code = code }) ps → ⊥) → (links_of types v).here a ≡ false
  not-here a some none = elim (cases_Bool ((links_of types v).here a)) [
    | inl there ↦ absurd (none ((links_of types v).code a) (h.all a (record { some = omega arith; here = there })))
    | inr absent ↦ absent
  ]

  -- there is no place where it points
  pub nowhere-wrong : (a code : ℕ) → a ≢ 0 → ((own : ℕ) → IsPlaceOf (record { address = a; code = own }) ps → ⊥) → wrong_among (links_of types v) (one a code) ≡ record { nowhere = a; another = 0 }
  nowhere-wrong a code some none = nowhere-by (links_of types v) a code some (not-here a some none)

  -- the place where it points has another code
  pub another-wrong : (a code own : ℕ) → a ≢ 0 → IsPlaceOf (record { address = a; code = own }) ps → own ≢ code → wrong_among (links_of types v) (one a code) ≡ record { nowhere = 0; another = a }
  another-wrong a code own some is other = (let t = h.there (record { address = a; code = own }) is in another-by (links_of types v) a code own some t.0.here t.1 other)

  -- the place where it points has its code
  pub right-wrong : (a code own : ℕ) → a ≢ 0 → IsPlaceOf (record { address = a; code = own }) ps → own ≡ code → wrong_among (links_of types v) (one a code) ≡ record { nowhere = 0; another = 0 }
  right-wrong a code own some is same = (let t = h.there (record { address = a; code = own }) is in right-by (links_of types v) a code own some t.0.here t.1 same)

-- A table in which each pointer stands at the number of the place that it names.
use Rattle.std.proofs.Common.{◌≡◌, ◌≢◌, ◌⊎◌, inl, inr, ℕ, zero, suc, ◌+◌, ◌<◌, List, [], ◌∷◌, ◌++◌, length, false, get_or, slice_set, replicate, refl, sym, ap, ◌∙◌, arith, eq-eqb, ne_eqb}
use Rattle.std.specs.Prelude.{◌==◌}
use Rattle.std.proofs.lemmas.Bool.{cases_Bool, cases_eq, cond-false}
use Rattle.std.proofs.lemmas.List.{append-nil}
use Rattle.hd_check_blocks.specs.declared.places.Place.{Place}
use Rattle.hd_check_blocks.specs.Places.{AreFrom, PlacesAscend}
use Rattle.hd_check_pointers.specs.declared.namings.Naming.{Naming}
use Rattle.hd_check_pointers.specs.Namings.{holders, NameTheirPlaces}
use Rattle.hd_check_pointers.proofs.Matching.{EachNaming, IsAddress, AreMatched, none-above}

-- at each number of a table there is nothing as yet, or a pointer that names the place of the number
abbrev pub AreAtPlaces : List Place → List Naming → Type 0
AreAtPlaces [] [] = Unit {0}
AreAtPlaces [] (n ∷ ns) = ⊥
AreAtPlaces (p ∷ ps) [] = ⊥
AreAtPlaces (p ∷ ps) (n ∷ ns) = ((n.target ≡ 0) ⊎ (n.target ≡ p.address)) × AreAtPlaces ps ns

-- nothing yet
pub at-nothing : (ps : List Place) → AreAtPlaces ps (replicate (length ps) (record { target = 0; holder = 0 }))
at-nothing [] = tt
at-nothing (p ∷ ps) = (inl refl, at-nothing ps)

pub nothing-holds : (a k : ℕ) → a ≢ 0 → holders a (replicate k (record { target = 0; holder = 0 })) ≡ []
nothing-holds a zero some = refl
nothing-holds a (suc k) some = rw (ne_eqb 0 a (λ e. some (sym e))) (nothing-holds a k some)

-- a table is as long as the places
pub at-long : (ps : List Place) (ns : List Naming) → AreAtPlaces ps ns → length ns ≡ length ps
at-long [] [] h = refl
at-long [] (n ∷ ns) h = absurd h
at-long (p ∷ ps) [] h = absurd h
at-long (p ∷ ps) (n ∷ ns) h = ap suc (at-long ps ns h.1)

-- one pointer more at the number of the place that it names
pub at-more : (ps : List Place) (ns : List Naming) (n : ℕ) (x : Naming) → AreAtPlaces ps ns → n < length ps → x.target ≡ (get_or ps n (record { address = 0; code = 0 })).address
    → AreAtPlaces ps (slice_set ns n x)
at-more [] ns n x h low is = absurd (omega arith)
at-more (p ∷ ps) [] n x h low is = absurd h
at-more (p ∷ ps) (y ∷ ns) zero x h low is = (inr is, h.1)
at-more (p ∷ ps) (y ∷ ns) (suc n) x h low is = (h.0, at-more ps ns n x h.1 (omega arith) is)

-- what stands behind an address is named by no pointer of it
none-behind : (a : ℕ) (ps : List Place) (ns : List Naming) → a ≢ 0 → AreFrom (a + 1) ps → AreAtPlaces ps ns → holders a ns ≡ []
none-behind a [] [] some from h = refl
none-behind a [] (n ∷ ns) some from h = absurd h
none-behind a (p ∷ ps) [] some from h = absurd h
none-behind a (p ∷ ps) (n ∷ ns) some from h =
    let other : n.target ≢ a = elim h.0 [ inl z ↦ (λ e. some (sym e ∙ z)) | inr z ↦ (λ e. (let l = from.0 in omega arith)) ] in
    rw (ne_eqb n.target a other) (none-behind a ps ns some from.1 h.1)

-- it is one holder more of that place
pub more-holders : (ps : List Place) (ns : List Naming) (n : ℕ) (x : Naming) (a : ℕ) → PlacesAscend ps → AreAtPlaces ps ns → n < length ps
    → (get_or ns n (record { target = 0; holder = 0 })).target ≡ 0 → x.target ≡ (get_or ps n (record { address = 0; code = 0 })).address → a ≢ 0
    → holders a (slice_set ns n x) ≡ holders a ns ++ holders a (x ∷ [])
more-holders [] ns n x a ascend h low empty is some = absurd (omega arith)
more-holders (p ∷ ps) [] n x a ascend h low empty is some = absurd h
more-holders (p ∷ ps) (y ∷ ns) zero x a ascend h low empty is some =
    let gone : (y.target == a) ≡ false = ne_eqb y.target a (λ e. some (sym e ∙ empty)) in
    elim (cases_eq x.target a) [
      | inl e ↦
          (let at : p.address ≡ a = sym is ∙ e in
          let none : holders a ns ≡ [] = none-behind a ps ns some (rw at at ascend.0) h.1 in
          rw (gone, eq-eqb x.target a e, none) refl)
      | inr ne ↦ rw (gone, ne_eqb x.target a ne) (sym (append-nil (holders a ns)))
    ]
more-holders (p ∷ ps) (y ∷ ns) (suc n) x a ascend h low empty is some =
    let rest = more-holders ps ns n x a ascend.1 h.1 (omega arith) empty is some in
    elim (cases_Bool (y.target == a)) [
      | inl e ↦ rw e (ap (λ (l : List ℕ). y.holder ∷ l) rest)
      | inr e ↦ rw e rest
    ]

-- where each pointer names the place of its number, all others name what stands behind
names-behind : (a : ℕ) (ps : List Place) (ns : List Naming) → AreFrom (a + 1) ps → NameTheirPlaces ps ns → EachNaming (λ n. a < n.target) ns
names-behind a [] [] from h = tt
names-behind a [] (n ∷ ns) from h = absurd h
names-behind a (p ∷ ps) [] from h = absurd h
names-behind a (p ∷ ps) (n ∷ ns) from h = ((let l = from.0 in let e = h.0 in omega arith), names-behind a ps ns from.1 h.1)

-- pointers that name the places of their numbers, told by their numbers
pub names-at : (ps : List Place) (ns : List Naming) → length ns ≡ length ps
    → ((i : ℕ) → i < length ps → (get_or ns i (record { target = 0; holder = 0 })).target ≡ (get_or ps i (record { address = 0; code = 0 })).address) → NameTheirPlaces ps ns
names-at [] [] long each = tt
names-at [] (n ∷ ns) long each = absurd (omega arith)
names-at (p ∷ ps) [] long each = absurd (omega arith)
names-at (p ∷ ps) (n ∷ ns) long each = (each zero (omega arith), names-at ps ns (omega arith) (λ i l. each (suc i) (omega arith)))

-- an address among places that stand behind another is another
address-behind : (b a : ℕ) (ps : List Place) → AreFrom (b + 1) ps → IsAddress a ps → b ≢ a
address-behind b a [] from i = absurd i
address-behind b a (p ∷ ps) from (inl e) = λ z. (let l = from.0 in omega arith)
address-behind b a (p ∷ ps) from (inr i) = address-behind b a ps from.1 i

-- such pointers are matched with the places
pub names-match : (F : ℕ → List ℕ) (ps : List Place) (ns : List Naming) → PlacesAscend ps → NameTheirPlaces ps ns → ((a : ℕ) → IsAddress a ps → F a ≡ holders a ns) → AreMatched F ps ns
names-match F [] [] ascend h same = refl
names-match F [] (n ∷ ns) ascend h same = absurd h
names-match F (p ∷ ps) [] ascend h same = absurd h
names-match F (p ∷ ps) (n ∷ ns) ascend h same =
    let none : holders p.address ns ≡ [] = none-above p.address ns (names-behind p.address ps ns ascend.0 h.1) in
    let own : holders p.address (n ∷ ns) ≡ n.holder ∷ [] = rw (eq-eqb n.target p.address h.0, none) refl in (
      h.0,
      same p.address (inl refl) ∙ own,
      names-match F ps ns ascend.1 h.1 (λ a i. same a (inr i)
          ∙ cond-false (n.target == a) (n.holder ∷ holders a ns) (holders a ns) (ne_eqb n.target a (λ e. address-behind p.address a ps ascend.0 i (sym h.0 ∙ e)))),
    )

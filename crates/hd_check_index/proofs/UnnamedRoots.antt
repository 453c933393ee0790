-- The roots of a volume among the addresses of the entries.
use Rattle.std.proofs.Common.{◌≡◌, inl, inr, ℕ, zero, suc, ◌<◌, ◌≤◌, List, [], ◌∷◌, length, true, false, slice_index, slice_index_or, refl, sym, ap, subst, ◌∙◌, arith}
use Rattle.std.specs.Prelude.{◌==◌}
use Rattle.std.specs.List.{list_any, Contains}
use Rattle.std.specs.List.Sorted.{IsPermutation}
use Rattle.std.proofs.lemmas.Bool.{cases_lt, cases_eq, cases_Bool, false≢true}
use Rattle.std.proofs.lemmas.List.Sorted.{Contains-permutation, IsPermutation-sym}
use Rattle.hd_dbd.specs.Hierarchy.{Database}
use Rattle.hd_volume.specs.Volumes.{VolumeState}
use Rattle.hd_index_blocks.specs.IndexSets.{index_entries}
use Rattle.hd_volume.specs.Indexes.{root_key_length, IsAmong}
use Rattle.hd_links.specs.Links.{IsSegment}
use Rattle.hd_image.specs.Records.{links_of}
use Rattle.hd_image.specs.declared.line.Line.TheVariants.{NoEntry}
use Rattle.hd_check_blocks.specs.declared.places.Place.{Place}
use Rattle.hd_check_blocks.specs.Places.{IsPlaceOf, PlacesAscend, ArePlaces}
use Rattle.hd_check_blocks.specs.Phases.{IsLeastOf}
use Rattle.hd_check_index.specs.IndexPhases.{AreNamed, AreRootsAmong, IsFirstUnnamed}
use Rattle.hd_check_blocks.proofs.Lookups.{among, number-of, in-order}
use Rattle.hd_check_blocks.specs.Places.{place_at}
use Rattle.hd_check_index.proofs.LateLines.{least-late, stands-13}

-- ---- numbers of a list

-- a number at an index is one of the list
pub at-among : (xs : List ℕ) (a i : ℕ) → i < length xs → slice_index xs i ≡ a → IsAmong a xs
at-among [] a i l e = absurd (omega arith)
at-among (x ∷ xs) a zero l e = inl (sym e)
at-among (x ∷ xs) a (suc i) l e = inr (at-among xs a i (omega arith) e)

-- each of the list has an index
pub among-at : (xs : List ℕ) (a : ℕ) → IsAmong a xs → (i : ℕ) × (i < length xs) × (slice_index xs i ≡ a)
among-at [] a h = absurd h
among-at (x ∷ xs) a (inl e) = (0, omega arith, sym e)
among-at (x ∷ xs) a (inr h) = (let r = among-at xs a h in let l = r.1 in (suc r.0, omega arith, r.2))

among-contains : (xs : List ℕ) (a : ℕ) → IsAmong a xs → Contains xs a
among-contains [] a h = absurd h
among-contains (x ∷ xs) a (inl e) = (0, omega arith, sym e)
among-contains (x ∷ xs) a (inr h) = (let r = among-contains xs a h in let l = r.1 in (suc r.0, omega arith, r.2))

contains-among : (xs : List ℕ) (a i : ℕ) → i < length xs → slice_index_or xs i a ≡ a → IsAmong a xs
contains-among [] a i l e = absurd (omega arith)
contains-among (x ∷ xs) a zero l e = inl (sym e)
contains-among (x ∷ xs) a (suc i) l e = inr (contains-among xs a i (omega arith) e)

-- another order has the same numbers
pub among-moved : (xs ys : List ℕ) (a : ℕ) → IsPermutation xs ys → IsAmong a xs → IsAmong a ys
among-moved xs ys a p h = (let r = Contains-permutation xs ys a p (among-contains xs a h) in contains-among ys a r.0 r.1 r.2)

-- where lesser numbers stand in front and greater ones behind a number is none of the list
pub not-between : (xs : List ℕ) (a i : ℕ) → ((k : ℕ) → k < i → slice_index xs k < a) → ((k : ℕ) → i ≤ k → k < length xs → a < slice_index xs k) → IsAmong a xs → ⊥
not-between xs a i low high h =
    let r = among-at xs a h in
    let e = r.2 in
    elim (cases_lt r.0 i) [
      | inl under ↦ (let l = low r.0 under in omega arith)
      | inr over ↦ (let l = high r.0 over r.1 in omega arith)
    ]

-- ---- roots

-- all roots are among the addresses where those of each index are
pub all-among : (ps : List Place) (named : List ℕ) → ((j : ℕ) → j < length ps → (place_at ps j).code ≡ 1 → IsAmong (place_at ps j).address named) → AreRootsAmong ps named
all-among ps named h p i one =
    let n = number-of p ps i in
    subst (λ (q : Place). IsAmong q.address named) n.2 (h n.0 n.1 (ap (λ (q : Place). q.code) n.2 ∙ one))

-- the first root that is not
pub first-unnamed : (ps : List Place) (named : List ℕ) (i : ℕ) → PlacesAscend ps → i < length ps → (place_at ps i).code ≡ 1 → (IsAmong (place_at ps i).address named → ⊥)
    → ((j : ℕ) → j < i → (place_at ps j).code ≡ 1 → IsAmong (place_at ps j).address named) → IsFirstUnnamed ps named (place_at ps i).address
first-unnamed ps named i up within one none before = record {
  place = subst (λ (code : ℕ). IsPlaceOf (record { address = (place_at ps i).address; code = code }) ps) one (among ps i within);
  unnamed = none;
  before = λ p is own less.
      (let n = number-of p ps is in
      let at : (place_at ps n.0).address ≡ p.address = ap (λ (q : Place). q.address) n.2 in
      let in-ps = n.1 in
      let earlier : n.0 < i = elim (cases_lt n.0 i) [
        | inl l ↦ l
        | inr high ↦ elim (cases_eq n.0 i) [
          | inl same ↦ (let e : (place_at ps n.0).address ≡ (place_at ps i).address = ap (λ (x : ℕ). (place_at ps x).address) same in absurd (omega arith))
          | inr ne ↦ (let o = in-order ps i n.0 up (omega arith) in-ps in absurd (omega arith))
        ]
      ] in
      subst (λ (q : Place). IsAmong q.address named) n.2 (before n.0 earlier (ap (λ (q : Place). q.code) n.2 ∙ own)));
}

module _ (d : Database) (v : VolumeState) (ps : List Place) (named sorted : List ℕ) (h : ArePlaces d.types v ps) (n : AreNamed (root_key_length d.types) v named) (p : IsPermutation named sorted) where
  -- each root has an entry
  pub each-named : AreRootsAmong ps sorted → (a : ℕ) → IsSegment (links_of d.types v) a → (links_of d.types v).code a ≡ 1 → list_any (λ e. e.address == a) (index_entries (root_key_length d.types) v) ≡ true
  each-named all a s one = n.there a (among-moved sorted named a (IsPermutation-sym named sorted p) (all (record { address = a; code = (links_of d.types v).code a }) (h.all a s) one))

  -- the first root without one is the least fault
  pub unnamed-least : (a : ℕ) → IsFirstUnnamed ps sorted a → IsLeastOf d v 13 (record { line = NoEntry; address = a; other = 0 })
  unnamed-least a f =
      let t = h.there (record { address = a; code = 1 }) f.place in
      let none : list_any (λ e. e.address == a) (index_entries (root_key_length d.types) v) ≡ false = elim (cases_Bool (list_any (λ e. e.address == a) (index_entries (root_key_length d.types) v))) [
        | inl some ↦ absurd (f.unnamed (among-moved named sorted a p (n.all a some)))
        | inr no-entry ↦ no-entry
      ] in
      least-late d v 13 (record { line = NoEntry; address = a; other = 0 }) (omega arith) (λ e. omega arith) refl (t.0, t.1, none, refl)
      (λ k b o is s.
      (let w = stands-13 d v k b o is s in
      elim (cases_lt b a) [
        | inr high ↦ high
        | inl low ↦
            (let i = f.before (record { address = b; code = (links_of d.types v).code b }) (h.all b w.0) w.1 low in
            let some = n.there b (among-moved sorted named b (IsPermutation-sym named sorted p) i) in
            absurd (false≢true (sym w.2 ∙ some)))
      ]))

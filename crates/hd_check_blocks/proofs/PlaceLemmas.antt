-- The places that are noted block by block are those of the volume's segments.
use Rattle.std.proofs.Common.{◌≡◌, ◌≢◌, ◌⊎◌, inl, inr, ℕ, zero, suc, ◌+◌, ◌-◌, ◌*◌, ◌/◌, ◌%◌, ◌<◌, ◌≤◌, List, [], ◌∷◌, ◌++◌, slice_index, true, false, ◌==◌, Option, Some, None, refl, sym, ap, subst, ◌∙◌, arith, ne_eqb}
use Rattle.std.specs.Prelude.{option_map}
use Rattle.std.proofs.lemmas.Bool.{cases_eq, eq-eqb, cond-true, cond-false, false≢true}
use Rattle.std.proofs.lemmas.Nat.{div-mul-add, mod-mul-add, row_fits}
use Rattle.hd_bytes.specs.Ranges.{bytes_at}
use Rattle.hd_bytes.specs.Blocks.{HasBlock}
use Rattle.hd_bytes.proofs.BlockLemmas.{byte-at, length-block, place-of}
use Rattle.hd_block.specs.Extents.{Extent, free, used, taken, Fill, UsedAt}
use Rattle.hd_block.specs.Parts.{parts_of}
use Rattle.hd_block.specs.declared.parts.Part.{Part}
use Rattle.hd_block.proofs.PartLemmas.{parts-divided}
use Rattle.hd_dbd.specs.Types.{SegmentType}
use Rattle.hd_volume.specs.Headers.{HasHeader, header_of}
use Rattle.hd_volume.specs.Volumes.{VolumeState, block_at, kind_of, IsKind}
use Rattle.hd_volume.specs.Records.{find, used_at, segment_in}
use Rattle.hd_volume.proofs.ExtentLemmas.{used-is, found-used, used-found}
use Rattle.hd_volume.proofs.MapLemmas.{IsFound, find-some, find-in, kind-there}
use Rattle.hd_volume.proofs.KindLemmas.{below-count}
use Rattle.hd_prefix.specs.Fields.{code_of}
use Rattle.hd_links.specs.Links.{IsSegment, Links}
use Rattle.hd_image.specs.Records.{stored_at, links_of}
use Rattle.hd_check_blocks.specs.declared.places.Place.{Place}
use Rattle.hd_check_blocks.specs.Phases.{AreBlocksRight}
use Rattle.hd_check_blocks.specs.Places.{places_in, places_at, places_behind, places_of, IsPlaceOf, AreFrom, PlacesAscend, ArePlaces}
use Rattle.hd_dbd.specs.declared.facts.SegmentSize.{SegmentSize}

-- ---- one block

-- A noted place is that of a segment of the block.
record IsNoted (b : List ℕ) (first p : ℕ) (xs : List Extent) (pl : Place) : Type 0 where
  place : ℕ
  size : ℕ
  used : UsedAt p xs place size
  is : pl ≡ record { address = first + place; code = slice_index b place }

-- a place among those noted is noted
noted : (b : List ℕ) (first p : ℕ) (xs : List Extent) (pl : Place) → IsPlaceOf pl (places_in b first (parts_of p xs)) → IsNoted b first p xs pl
noted b first p [] pl i = absurd i
noted b first p (free n ∷ xs) pl i = (let r = noted b first (p + n) xs pl i in record { place = r.place; size = r.size; used = r.used; is = r.is })
noted b first p (used n ∷ xs) pl (inl e) = record { place = p; size = n; used = inl (refl, refl); is = e }
noted b first p (used n ∷ xs) pl (inr i) = (let r = noted b first (p + n) xs pl i in record { place = r.place; size = r.size; used = inr r.used; is = r.is })
noted b first p (taken n ∷ xs) pl i = (let r = noted b first (p + n) xs pl i in record { place = r.place; size = r.size; used = r.used; is = r.is })

-- a segment of the block is noted
note : (b : List ℕ) (first p : ℕ) (xs : List Extent) (q k : ℕ) → UsedAt p xs q k → IsPlaceOf (record { address = first + q; code = slice_index b q }) (places_in b first (parts_of p xs))
note b first p [] q k u = absurd u
note b first p (free n ∷ xs) q k u = note b first (p + n) xs q k u
note b first p (used n ∷ xs) q k (inl e) = inl (ap (λ (x : ℕ). record { address = first + x; code = slice_index b x }) (sym e.0))
note b first p (used n ∷ xs) q k (inr u) = inr (note b first (p + n) xs q k u)
note b first p (taken n ∷ xs) q k u = note b first (p + n) xs q k u

-- what stands from an address on stands from a lower one on
lower : (a b : ℕ) (ps : List Place) → a ≤ b → AreFrom b ps → AreFrom a ps
lower a b [] l h = tt
lower a b (p ∷ ps) l h = ((let k = h.0 in omega arith), lower a b ps l h.1)

-- the places of a block stand in it
block-from : (sizes : List SegmentSize) (b : List ℕ) (first p next : ℕ) (xs : List Extent) → Fill sizes b p next xs → AreFrom (first + p) (places_in b first (parts_of p xs))
block-from sizes b first p next [] f = tt
block-from sizes b first p next (free n ∷ xs) f = lower (first + p) (first + (p + n)) (places_in b first (parts_of (p + n) xs)) (omega arith) (block-from sizes b first (p + n) _ xs f.2)
block-from sizes b first p next (used n ∷ xs) f = (omega arith, lower (first + p) (first + (p + n)) (places_in b first (parts_of (p + n) xs)) (omega arith) (block-from sizes b first (p + n) next xs f.2))
block-from sizes b first p next (taken n ∷ xs) f = lower (first + p) (first + (p + n)) (places_in b first (parts_of (p + n) xs)) (omega arith) (block-from sizes b first (p + n) next xs f.3)

-- and ascend
block-ascends : (sizes : List SegmentSize) (b : List ℕ) (first p next : ℕ) (xs : List Extent) → Fill sizes b p next xs → PlacesAscend (places_in b first (parts_of p xs))
block-ascends sizes b first p next [] f = tt
block-ascends sizes b first p next (free n ∷ xs) f = block-ascends sizes b first (p + n) _ xs f.2
block-ascends sizes b first p next (used n ∷ xs) f = (
  lower (first + p + 1) (first + (p + n)) (places_in b first (parts_of (p + n) xs)) (let s = f.1.some in omega arith) (block-from sizes b first (p + n) next xs f.2),
  block-ascends sizes b first (p + n) next xs f.2,
)
block-ascends sizes b first p next (taken n ∷ xs) f = block-ascends sizes b first (p + n) next xs f.3

-- ---- lists of places

-- a place of two lists together is in one of them
in-either : (p : Place) (ps qs : List Place) → IsPlaceOf p (ps ++ qs) → IsPlaceOf p ps ⊎ IsPlaceOf p qs
in-either p [] qs i = inr i
in-either p (x ∷ ps) qs (inl e) = inl (inl e)
in-either p (x ∷ ps) qs (inr i) = elim (in-either p ps qs i) [ inl j ↦ inl (inr j) | inr j ↦ inr j ]

-- what is in the first is in both together
in-front : (p : Place) (ps qs : List Place) → IsPlaceOf p ps → IsPlaceOf p (ps ++ qs)
in-front p [] qs i = absurd i
in-front p (x ∷ ps) qs (inl e) = inl e
in-front p (x ∷ ps) qs (inr i) = inr (in-front p ps qs i)

-- and so is what is in the second
in-back : (p : Place) (ps qs : List Place) → IsPlaceOf p qs → IsPlaceOf p (ps ++ qs)
in-back p [] qs i = i
in-back p (x ∷ ps) qs i = inr (in-back p ps qs i)

-- both stand from an address on
from-both : (a : ℕ) (ps qs : List Place) → AreFrom a ps → AreFrom a qs → AreFrom a (ps ++ qs)
from-both a [] qs h k = k
from-both a (p ∷ ps) qs h k = (h.0, from-both a ps qs h.1 k)

-- both ascend, the second behind the first
ascend-both : (a : ℕ) (ps qs : List Place) → PlacesAscend ps → PlacesAscend qs → ((p : Place) → IsPlaceOf p ps → p.address < a) → AreFrom a qs → PlacesAscend (ps ++ qs)
ascend-both a [] qs h k below from = k
ascend-both a (p ∷ ps) qs h k below from = (
  from-both (p.address + 1) ps qs h.0 (lower (p.address + 1) a qs (let l = below p (inl refl) in omega arith) from),
  ascend-both a ps qs h.1 k (λ q i. below q (inr i)) from,
)

-- ---- a volume

module _ (types : List SegmentType) (v : VolumeState) (h : HasHeader v.size v.image) (some : 0 < v.size) (r : AreBlocksRight v) where
  -- the block of a number behind block 0 that the header counts
  counted : (n : ℕ) → n < (header_of v.image).count → HasBlock v.size v.image n
  counted n low = (let whole = h.whole in let fits : n * v.size + v.size ≤ (header_of v.image).count * v.size = row_fits n v.size (header_of v.image).count v.size low (omega arith) in omega arith)

  -- the places of a data block
  at-data : (n : ℕ) (k : IsKind v 1 n) → places_at v n ≡ places_in (block_at v n) (n * v.size) (parts_of 8 (r.divided n k).extents)
  at-data n k =
      cond-true (kind_of (block_at v n) == 1) _ _ (eq-eqb (kind_of (block_at v n)) 1 k.kind_is)
      ∙ ap (places_in (block_at v n) (n * v.size)) (parts-divided v.sizes (block_at v n) (r.divided n k).extents (r.divided n k).divides (r.divided n k).whole)

  -- those of another
  at-other : (n : ℕ) → kind_of (block_at v n) ≢ 1 → places_at v n ≡ []
  at-other n other = cond-false (kind_of (block_at v n) == 1) _ _ (ne_eqb (kind_of (block_at v n)) 1 other)

  -- the places of a block ascend, and stand from its beginning on
  at-ascends : (n : ℕ) → 0 < n → n < (header_of v.image).count → PlacesAscend (places_at v n) × AreFrom (n * v.size) (places_at v n)
  at-ascends n later low = elim (cases_eq (kind_of (block_at v n)) 1) [
    | inl one ↦
        (let k : IsKind v 1 n = record { there = counted n low; later = later; kind_is = one } in
        let e = r.divided n k in
        let P : List Place → Type 0 = λ ps. PlacesAscend ps × AreFrom (n * v.size) ps in
        subst P (sym (at-data n k)) (
          block-ascends v.sizes (block_at v n) (n * v.size) 8 _ e.extents e.divides,
          lower (n * v.size) (n * v.size + 8) (places_in (block_at v n) (n * v.size) (parts_of 8 e.extents)) (omega arith) (block-from v.sizes (block_at v n) (n * v.size) 8 _ e.extents e.divides),
        ))
    | inr other ↦ (let P : List Place → Type 0 = λ ps. PlacesAscend ps × AreFrom (n * v.size) ps in subst P (sym (at-other n other)) (tt, tt))
  ]

  -- a place that is noted in a block is a segment's
  at-there : (n : ℕ) → 0 < n → n < (header_of v.image).count → (p : Place) → IsPlaceOf p (places_at v n)
      → IsSegment (links_of types v) p.address × ((links_of types v).code p.address ≡ p.code) × (p.address < (n + 1) * v.size)
  at-there n later low p i = elim (cases_eq (kind_of (block_at v n)) 1) [
    | inl one ↦
        (let k : IsKind v 1 n = record { there = counted n low; later = later; kind_is = one } in
        let e = r.divided n k in
        let x = noted (block_at v n) (n * v.size) 8 e.extents p (subst (IsPlaceOf p) (at-data n k) i) in
        let u = used-is v.sizes (block_at v n) 8 _ e.extents x.place x.size e.divides x.used in
        let short : x.place < v.size = (let w = u.within in let s = u.some in let len = length-block v.size n v.image (counted n low) in omega arith) in
        let a : ℕ = n * v.size + x.place in
        let block : a / v.size ≡ n = div-mul-add n v.size x.place short in
        let offset : a % v.size ≡ x.place = mod-mul-add n v.size x.place short in
        let found : find v a ≡ Some (bytes_at (block_at v n) x.place x.size) =
        find-in v a (λ z. omega arith) (ap (λ (z : ℕ). kind_of (block_at v z)) block ∙ one)
        ∙ ap (λ (z : ℕ). segment_in v.sizes (block_at v z) (a % v.size)) block ∙ ap (segment_in v.sizes (block_at v n)) offset
        ∙ ap (λ (ps : List Part). option_map (λ (m : ℕ). bytes_at (block_at v n) x.place m) (used_at ps x.place)) (parts-divided v.sizes (block_at v n) e.extents e.divides e.whole)
        ∙ ap (λ (o : Option ℕ). option_map (λ (m : ℕ). bytes_at (block_at v n) x.place m) o) (used-found v.sizes (block_at v n) 8 _ e.extents x.place x.size e.divides x.used) in
        let stored : stored_at v a ≡ bytes_at (block_at v n) x.place x.size = rw found refl in
        let code : (links_of types v).code a ≡ slice_index (block_at v n) x.place =
        ap code_of stored ∙ byte-at (block_at v n) x.place x.size 0 u.within (let s = u.some in omega arith) ∙ ap (slice_index (block_at v n)) (let z : x.place + 0 ≡ x.place = omega arith in z) in
        let here : (links_of types v).here a ≡ true = (let later-a : 0 < a = (let s = u.ahead in omega arith) in rw (ne_eqb a 0 (λ z. omega arith), found) refl) in
        let P : Place → Type 0 = λ y. IsSegment (links_of types v) y.address × ((links_of types v).code y.address ≡ y.code) × (y.address < (n + 1) * v.size) in
        subst P (sym x.is) (record { some = (let s = u.ahead in omega arith); here = here }, code, (let f : (n + 1) * v.size ≡ n * v.size + v.size = omega arith in omega arith)))
    | inr other ↦ absurd (subst (IsPlaceOf p) (at-other n other) i)
  ]

  -- a segment of a block is noted in it
  at-all : (a : ℕ) (s : List ℕ) → find v a ≡ Some s → IsPlaceOf (record { address = a; code = (links_of types v).code a }) (places_at v (a / v.size))
  at-all a s is =
      let f : IsFound v a s = find-some v a s is in
      let n : ℕ = a / v.size in
      let k : IsKind v 1 n = record { there = kind-there v.size n (header_of v.image).count 1 v.image h.whole (λ z. omega arith) f.kind; later = (let l = f.later in omega arith); kind_is = f.kind } in
      let e = r.divided n k in
      let q : ℕ = a % v.size in
      let parts : option_map (λ (m : ℕ). bytes_at (block_at v n) q m) (used_at (parts_of 8 e.extents) q) ≡ Some s =
      ap (λ (ps : List Part). option_map (λ (m : ℕ). bytes_at (block_at v n) q m) (used_at ps q)) (sym (parts-divided v.sizes (block_at v n) e.extents e.divides e.whole)) ∙ f.segment in
      let own = some-of (λ (m : ℕ). bytes_at (block_at v n) q m) (used_at (parts_of 8 e.extents) q) parts in
      let at : n * v.size + q ≡ a = place-of v.size a some in
      let i : IsPlaceOf (record { address = n * v.size + q; code = slice_index (block_at v n) q }) (places_at v n) =
      subst (IsPlaceOf _) (sym (at-data n k)) (note (block_at v n) (n * v.size) 8 e.extents q own.0 (found-used 8 e.extents q own.0 own.1)) in
      let low : n < (header_of v.image).count = below-count v n h some k.there in
      let there = at-there n k.later low _ i in
      subst (λ (pl : Place). IsPlaceOf pl (places_at v n))
      (ap (λ (c : ℕ). record { address = n * v.size + q; code = c }) (sym there.1) ∙ ap (λ (x : ℕ). record { address = x; code = (links_of types v).code x }) at) i
    where
      some-of : (f : ℕ → List ℕ) (o : Option ℕ) → option_map f o ≡ Some s → (k : ℕ) × (o ≡ Some k)
      some-of f None is = cc
      some-of f (Some k) is = (k, refl)

  -- all noted places ascend, and stand before the next block
  behind-ascends : (n : ℕ) → n < (header_of v.image).count → PlacesAscend (places_behind v n) × ((p : Place) → IsPlaceOf p (places_behind v n) → p.address < (n + 1) * v.size)
  behind-ascends zero low = (tt, λ p i. absurd i)
  behind-ascends (suc n) low =
      let before = behind-ascends n (omega arith) in
      let next : n + 1 < (header_of v.image).count = omega arith in
      let own = at-ascends (n + 1) (omega arith) next in (
        ascend-both ((n + 1) * v.size) (places_behind v n) (places_at v (n + 1)) before.0 own.0 before.1 own.1,
        λ p i. elim (in-either p (places_behind v n) (places_at v (n + 1)) i) [
          | inl j ↦ (let l = before.1 p j in let f : (suc n + 1) * v.size ≡ (n + 1) * v.size + v.size = omega arith in omega arith)
          | inr j ↦ (let t = (at-there (n + 1) (omega arith) next p j).2 in omega arith)
        ],
      )

  -- each is a segment's
  behind-there : (n : ℕ) → n < (header_of v.image).count → (p : Place) → IsPlaceOf p (places_behind v n) → IsSegment (links_of types v) p.address × ((links_of types v).code p.address ≡ p.code)
  behind-there zero low p i = absurd i
  behind-there (suc n) low p i = elim (in-either p (places_behind v n) (places_at v (n + 1)) i) [
    | inl j ↦ behind-there n (omega arith) p j
    | inr j ↦ (let next : n + 1 < (header_of v.image).count = omega arith in let t = at-there (n + 1) (omega arith) next p j in (t.0, t.1))
  ]

  -- and those of a block are among them
  behind-has : (p : Place) (n m : ℕ) → 0 < m → m ≤ n → IsPlaceOf p (places_at v m) → IsPlaceOf p (places_behind v n)
  behind-has p zero m later low i = absurd (omega arith)
  behind-has p (suc n) m later low i = elim (cases_eq m (n + 1)) [
    | inl e ↦ in-back p (places_behind v n) (places_at v (n + 1)) (subst (λ (x : ℕ). IsPlaceOf p (places_at v x)) e i)
    | inr ne ↦ in-front p (places_behind v n) (places_at v (n + 1)) (behind-has p n m later (omega arith) i)
  ]

  -- a segment is found
  found-some : (a : ℕ) → IsSegment (links_of types v) a → (s : List ℕ) × (find v a ≡ Some s)
  found-some a x = by (find v a) refl
    where
      by : (o : Option (List ℕ)) → find v a ≡ o → (s : List ℕ) × (find v a ≡ Some s)
      by (Some s) is = (s, is)
      by None is = absurd (let some-a = x.some in let none : (links_of types v).here a ≡ false = rw (ne_eqb a 0 (λ z. omega arith), is) refl in false≢true (sym none ∙ x.here))

  -- all together
  pub places : ArePlaces types v (places_of v)
  places =
      let count-some : 0 < (header_of v.image).count = below-count v 0 h some h.first in
      let low : (header_of v.image).count - 1 < (header_of v.image).count = omega arith in
      record {
        ascend = (behind-ascends ((header_of v.image).count - 1) low).0;
        there = behind-there ((header_of v.image).count - 1) low;
        all = λ a x.
            (let s = found-some a x in
            let f = find-some v a s.0 s.1 in
            let n : ℕ = a / v.size in
            let there = kind-there v.size n (header_of v.image).count 1 v.image h.whole (λ z. omega arith) f.kind in
            let below = below-count v n h some there in
            behind-has _ ((header_of v.image).count - 1) n (let l = f.later in omega arith) (omega arith) (at-all a s.0 s.1));
      }

-- of any volume whose blocks are right
pub are-places : (types : List SegmentType) (v : VolumeState) → HasHeader v.size v.image → 0 < v.size → AreBlocksRight v → ArePlaces types v (places_of v)
are-places types v h some r = places types v h some r

-- the same records have the same places
pub places-same : (types : List SegmentType) (v w : VolumeState) (ps : List Place) → links_of types w ≡ links_of types v → ArePlaces types v ps → ArePlaces types w ps
places-same types v w ps e h = record {
  ascend = h.ascend;
  there = λ p i. subst (λ (m : Links). IsSegment m p.address × (m.code p.address ≡ p.code)) (sym e) (h.there p i);
  all = λ a s. subst (λ (m : Links). IsSegment m a → IsPlaceOf (record { address = a; code = m.code a }) ps) (sym e) (h.all a) s;
}

-- The numbers of the places of a volume whose pointers are matched.
use Rattle.std.proofs.Common.{◌≡◌, ◌≢◌, inl, inr, ℕ, ◌-◌, ◌*◌, ◌<◌, ◌≤◌, List, length, true, false, sym, ap, subst, ◌∙◌, arith}
use Rattle.std.proofs.lemmas.Bool.{cases_eq, cases_lt, eq-eqb, eqb-true, false≢true, and_parts, leb-true}
use Rattle.std.proofs.lemmas.Nat.{mul-le}
use Rattle.std.proofs.lemmas.Option.{slice_get_within}
use Rattle.std.specs.Prelude.{◌==◌}
use Rattle.hd_dbd.specs.Hierarchy.{Database}
use Rattle.hd_dbd.proofs.StoredSizes.{block_size-bounds}
use Rattle.hd_volume.specs.Headers.{header_of}
use Rattle.hd_volume.specs.Volumes.{VolumeState}
use Rattle.hd_links.specs.Links.{IsSegment, is_child_type}
use Rattle.hd_links.specs.Pointers.{PointersAreTyped, PredecessorsAreOne, IsTwinBefore, IsParentOfFirst, Precedes}
use Rattle.hd_links.proofs.Types.{ordered}
use Rattle.hd_image.specs.Records.{links_of}
use Rattle.hd_prefix.specs.Fields.{code_of}
use Rattle.hd_image.proofs.Found.{records-link, segment-found, stored-found}
use Rattle.hd_dbd.proofs.Levels.{type_within}
use Rattle.hd_check_blocks.specs.declared.places.Place.{Place}
use Rattle.hd_check_blocks.specs.Places.{IsPlaceOf, PlacesAscend}
use Rattle.hd_check_pointers.specs.Tables.{place_at, nobody}
use Rattle.hd_check_pointers.specs.Matched.{IsMatched}
use Rattle.hd_image.proofs.OneImage.{links-same, volume-same}
use Rattle.hd_check_blocks.proofs.PlaceLemmas.{places-same}
use Rattle.hd_check_blocks.proofs.Lookups.{among, number-of, in-order}
use Rattle.hd_check_pointers.proofs.TwinChains.{next-there, twin-by, first-alone}

-- numbers that do not compare as equal are not
pub ne-by : (x y : ℕ) → (x == y) ≡ false → x ≢ y
ne-by x y other same = false≢true (sym other ∙ eq-eqb x y same)

-- what is matched in one image is matched in it at any time
pub matched-same : (d : Database) (v w : VolumeState) (ps : List Place) → w.image ≡ v.image → w.size ≡ v.size → w.sizes ≡ v.sizes → IsMatched d v ps → IsMatched d w ps
matched-same d v w ps image size sizes M =
    let same : links_of d.types w ≡ links_of d.types v = links-same d.types v w image size sizes in
    record {
      volume = volume-same d v w image size sizes M.volume;
      stand = places-same d.types v w ps same M.stand;
      typed = subst (PointersAreTyped d.types) (sym same) M.typed;
      single = subst (PredecessorsAreOne d.types) (sym same) M.single;
    }

-- places in order have one number each
pub one-number : (ps : List Place) (i j : ℕ) → PlacesAscend ps → i < length ps → j < length ps → (place_at ps i).address ≡ (place_at ps j).address → i ≡ j
one-number ps i j ascend k l e = elim (cases_eq i j) [
  | inl same ↦ same
  | inr other ↦ elim (cases_lt i j) [
    | inl less ↦ (let before = in-order ps i j ascend less l in absurd (omega arith))
    | inr more ↦ (let before = in-order ps j i ascend (omega arith) k in absurd (omega arith))
  ]
]

-- the place of a number, by its address and its code
pub is-at : (ps : List Place) (n a code : ℕ) → n < length ps → (place_at ps n).address ≡ a → ((place_at ps n).code == code) ≡ true → IsPlaceOf (record { address = a; code = code }) ps
is-at ps n a code l at same =
    subst (λ (x : ℕ). IsPlaceOf (record { address = x; code = code }) ps) at
    (subst (λ (x : ℕ). IsPlaceOf (record { address = (place_at ps n).address; code = x }) ps) (eqb-true (place_at ps n).code code same) (among ps n l))

-- no place with another code stands at its address
pub isnt-at : (ps : List Place) (n a code : ℕ) → PlacesAscend ps → n < length ps → (place_at ps n).address ≡ a → ((place_at ps n).code == code) ≡ false → IsPlaceOf (record { address = a; code = code }) ps → ⊥
isnt-at ps n a code ascend l at other is =
    let k = number-of _ ps is in
    let one : k.0 ≡ n = one-number ps k.0 n ascend k.1 l (ap (λ (p : Place). p.address) k.2 ∙ sym at) in
    let own : (place_at ps n).code ≡ code = ap (λ (x : ℕ). (place_at ps x).code) (sym one) ∙ ap (λ (p : Place). p.code) k.2 in
    false≢true (sym other ∙ eq-eqb (place_at ps n).code code own)

module _ (d : Database) (v : VolumeState) (ps : List Place) (M : IsMatched d v ps) where
  -- child types come later than their parents
  pub types-later : (c t : ℕ) → is_child_type d.types c t ≡ true → c < t
  types-later = (ordered d.block_size d.frspc d.types M.volume.fit).later

  -- a segment stands at each place
  pub stands : (i : ℕ) → i < length ps → IsSegment (links_of d.types v) (place_at ps i).address
  stands i l = (M.stand.there (place_at ps i) (among ps i l)).0

  -- and has the place's code
  pub coded : (i : ℕ) → i < length ps → (links_of d.types v).code (place_at ps i).address ≡ (place_at ps i).code
  coded i l = (M.stand.there (place_at ps i) (among ps i l)).1

  -- each segment has a number
  pub number-at : (a : ℕ) → IsSegment (links_of d.types v) a → (j : ℕ) × (j < length ps) × ((place_at ps j).address ≡ a)
  number-at a s = (let n = number-of _ ps (M.stand.all a s) in (n.0, n.1, ap (λ (p : Place). p.address) n.2))

  -- segments before a place have lesser numbers
  pub number-below : (i a : ℕ) → i < length ps → IsSegment (links_of d.types v) a → a < (place_at ps i).address → (j : ℕ) × (j < i) × (j < length ps) × ((place_at ps j).address ≡ a)
  number-below i a l s less =
      let n = number-at a s in
      let in-ps = n.1 in
      let at = n.2 in
      elim (cases_lt n.0 i) [
        | inl low ↦ (n.0, low, n.1, n.2)
        | inr high ↦ elim (cases_eq i n.0) [
          | inl e ↦ (let z : (place_at ps i).address ≡ (place_at ps n.0).address = ap (λ (k : ℕ). (place_at ps k).address) e in absurd (omega arith))
          | inr ne ↦ (let before = in-order ps i n.0 M.stand.ascend (omega arith) in-ps in absurd (omega arith))
        ]
      ]

  -- a predecessor that stands at a place of the segment's code is the twin before it
  pub is-twin : (i h : ℕ) → i < length ps → Precedes d.types (links_of d.types v) h (place_at ps i).address → IsPlaceOf (record { address = h; code = (place_at ps i).code }) ps
      → IsTwinBefore (links_of d.types v) h (place_at ps i).address
  is-twin i h l p is = (let at = M.stand.there _ is in twin-by d.types (links_of d.types v) M.typed M.single types-later h (place_at ps i).address (stands i l) p (at.1 ∙ sym (coded i l)))

  -- the twin before a segment stands at a place of its code
  pub twin-place : (i h : ℕ) → i < length ps → IsTwinBefore (links_of d.types v) h (place_at ps i).address → IsPlaceOf (record { address = h; code = (place_at ps i).code }) ps
  twin-place i h l b =
      let own : (links_of d.types v).code h ≡ (place_at ps i).code =
      sym (next-there d.types (links_of d.types v) M.typed h b.holder (let e = b.names in let some = (stands i l).some in omega arith)).1
      ∙ ap (links_of d.types v).code b.names ∙ coded i l in
      subst (λ (c : ℕ). IsPlaceOf (record { address = h; code = c }) ps) own (M.stand.all h b.holder)

  -- another predecessor is a parent
  pub is-first : (i h : ℕ) → i < length ps → Precedes d.types (links_of d.types v) h (place_at ps i).address → (IsPlaceOf (record { address = h; code = (place_at ps i).code }) ps → ⊥)
      → (t : ℕ) × IsParentOfFirst d.types (links_of d.types v) h t (place_at ps i).address
  is-first i h l (inl b) isnt = absurd (isnt (twin-place i h l b))
  is-first i h l (inr p) isnt = p

  -- where a first child pointer names a segment, its predecessor stands at no place of its code
  pub first-place : (i h t q : ℕ) → i < length ps → IsParentOfFirst d.types (links_of d.types v) h t (place_at ps i).address → Precedes d.types (links_of d.types v) q (place_at ps i).address
      → IsPlaceOf (record { address = q; code = (place_at ps i).code }) ps → ⊥
  first-place i h t q l p prec is = first-alone d.types (links_of d.types v) M.typed M.single types-later h t (place_at ps i).address q (stands i l) p (is-twin i q l prec is)

  -- no record stands at the address of no owner
  pub not-nobody : (h : ℕ) → (links_of d.types v).here h ≡ true → h ≢ nobody
  not-nobody h here e =
      let below : h < length v.image = (records-link d v M.volume.fit M.volume).below h (record { some = omega arith; here = here }) in
      let header = M.volume.formatted.header in
      let whole = header.whole in
      let within = header.within in
      let bound = header.bound in
      let size : v.size ≤ 32768 = (let most = (block_size-bounds d.block_size d.frspc d.types M.volume.fit).1 in let own = M.volume.size in omega arith) in
      let most : (header_of v.image).count * v.size ≤ 65536 * 32768 = mul-le (header_of v.image).count v.size 65536 32768 (omega arith) size in
      absurd (omega arith)

  -- there are no more types than a byte can name
  types-few : length d.types ≤ 255
  types-few = leb-true (length d.types) 255 (and_parts _ _ (and_parts _ _ M.volume.fit).0).1

  -- the code of a segment is a byte
  pub code-short : (a : ℕ) → IsSegment (links_of d.types v) a → (links_of d.types v).code a ≤ 255
  code-short a s =
      let h = segment-found d v a M.volume.fit M.volume s in
      let own : (links_of d.types v).code a ≡ code_of h.bytes = ap code_of (stored-found d v a h) in
      let is = (type_within d.types (code_of h.bytes) h.own h.typed).1 in
      let within : code_of h.bytes - 1 < length d.types = slice_get_within d.types (code_of h.bytes - 1) h.own is in
      let most = types-few in
      omega arith

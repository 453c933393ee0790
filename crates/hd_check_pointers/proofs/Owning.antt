-- Owners that are written along a chain of twins.
use Rattle.std.proofs.Common.{◌≡◌, ◌≢◌, ◌⊎◌, inl, inr, ℕ, zero, suc, ◌+◌, ◌<◌, List, length, slice_index, slice_set, replicate, cond, sum_by, refl, sym, ap, subst, ◌∙◌, arith, ne_eqb}
use Rattle.std.specs.Prelude.{◌==◌}
use Rattle.std.proofs.lemmas.Bool.{cases_eq, eq-eqb, cond-true, cond-false}
use Rattle.std.proofs.lemmas.List.{get_or-set_same, get_or-set_other, get_or-replicate}
use Rattle.std.proofs.lemmas.List.Sums.{sum_by-set}
use Rattle.hd_dbd.specs.Types.{SegmentType}
use Rattle.hd_dbd.specs.Hierarchy.{Database}
use Rattle.hd_volume.specs.Volumes.{VolumeState}
use Rattle.hd_links.specs.Links.{Links, IsSegment}
use Rattle.hd_links.specs.Pointers.{IsParentOfFirst, Precedes, IsTwinAfter}
use Rattle.hd_image.specs.Records.{links_of}
use Rattle.hd_check_blocks.specs.declared.places.Place.{Place}
use Rattle.hd_check_blocks.specs.Places.{IsPlaceOf}
use Rattle.hd_check_pointers.specs.Tables.{place_at, nobody, IsOwner, AreOwners}
use Rattle.hd_check_pointers.specs.Matched.{IsMatched, OwnersAreRight, OwnersAreClosed}
use Rattle.hd_check_blocks.proofs.Lookups.{among}
use Rattle.hd_check_pointers.proofs.TwinChains.{chain-some, chain-rest, next-there, first-there, owner-first, owner-next, holder-here}
use Rattle.hd_check_pointers.proofs.PlaceNumbers.{one-number, stands, number-at, is-first, first-place, not-nobody}

-- ---- one owner written

-- it is there
pub set-same : (xs : List ℕ) (n w : ℕ) → n < length xs → slice_index (slice_set xs n w) n ≡ w
set-same xs n w l = get_or-set_same xs n w 0 l

-- the others stay
pub set-other : (xs : List ℕ) (n w i : ℕ) → i ≢ n → slice_index (slice_set xs n w) i ≡ slice_index xs i
set-other xs n w i ne = get_or-set_other xs n i w 0 ne

-- what is known stays known
pub set-kept : (xs : List ℕ) (n w i : ℕ) → n < length xs → w ≢ nobody → slice_index xs i ≢ nobody → slice_index (slice_set xs n w) i ≢ nobody
set-kept xs n w i l some known e = elim (cases_eq i n) [
  | inl same ↦ some (sym (set-same xs n w l) ∙ ap (slice_index (slice_set xs n w)) (sym same) ∙ e)
  | inr other ↦ known (sym (set-other xs n w i other) ∙ e)
]

-- how many owners are not known
abbrev pub unknown : List ℕ → ℕ
unknown xs = sum_by (λ x. cond (x == nobody) 1 0) xs

-- fewer are not known afterwards
pub fewer : (xs : List ℕ) (n w : ℕ) → n < length xs → slice_index xs n ≡ nobody → w ≢ nobody → unknown (slice_set xs n w) < unknown xs
fewer xs n w l none some =
    let f : ℕ → ℕ = λ (x : ℕ). cond (x == nobody) 1 0 in
    let sum : unknown (slice_set xs n w) + f (slice_index xs n) ≡ unknown xs + f w = sum_by-set f xs n w 0 l in
    let one : f (slice_index xs n) ≡ 1 = cond-true (slice_index xs n == nobody) 1 0 (eq-eqb (slice_index xs n) nobody none) in
    let zero : f w ≡ 0 = cond-false (w == nobody) 1 0 (ne_eqb w nobody some) in
    omega arith

-- ---- a chain on the way

-- where an owner is known, that of the next twin is, or else it is the one in hand
abbrev pub IsOpenAt : Links → List Place → List ℕ → ℕ → Type 0
IsOpenAt m places owners n =
    (i j : ℕ) → i < length places → j < length places → slice_index owners i ≢ nobody → m.forward (place_at places i).address ≡ (place_at places j).address
    → (j ≡ n) ⊎ (slice_index owners j ≢ nobody)

-- closed owners are open anywhere
pub closed-open : (m : Links) (ps : List Place) (xs : List ℕ) (n : ℕ) → OwnersAreClosed m ps xs → IsOpenAt m ps xs n
closed-open m ps xs n h i j k l known e = inr (h i j k l known e)

-- where the one in hand is known they are closed
pub open-closed : (m : Links) (ps : List Place) (xs : List ℕ) (n : ℕ) → slice_index xs n ≢ nobody → IsOpenAt m ps xs n → OwnersAreClosed m ps xs
open-closed m ps xs n own h i j k l known e = elim (h i j k l known e) [
  | inl same ↦ subst (λ (x : ℕ). slice_index xs x ≢ nobody) (sym same) own
  | inr other ↦ other
]

-- a right owner more
pub right-set : (types : List SegmentType) (m : Links) (ps : List Place) (xs : List ℕ) (n w : ℕ) → n < length xs → IsOwner types m w (place_at ps n).address
    → OwnersAreRight types m ps xs → OwnersAreRight types m ps (slice_set xs n w)
right-set types m ps xs n w l own right i within known = elim (cases_eq i n) [
  | inl same ↦ subst (λ (k : ℕ). IsOwner types m (slice_index (slice_set xs n w) k) (place_at ps k).address) (sym same)
      (subst (λ (x : ℕ). IsOwner types m x (place_at ps n).address) (sym (set-same xs n w l)) own)
  | inr other ↦ (let e = set-other xs n w i other in
      subst (λ (x : ℕ). IsOwner types m x (place_at ps i).address) (sym e) (right i within (λ z. known (e ∙ z))))
]

-- The owners are those of the chains of the first n segments, where these begin chains, and of none else.
pub record AreOwnersTo (types : List SegmentType) (m : Links) (places : List Place) (owners : List ℕ) (n : ℕ) : Type 0 where
  pub right : OwnersAreRight types m places owners
  pub closed : OwnersAreClosed m places owners
  pub firsts : (i h t : ℕ) → i < n → i < length places → IsParentOfFirst types m h t (place_at places i).address → slice_index owners i ≢ nobody

-- before any is known nobody owns a chain
pub owners-none : (types : List SegmentType) (m : Links) (ps : List Place) (xs : List ℕ) → xs ≡ replicate (length ps) nobody → AreOwnersTo types m ps xs 0
owners-none types m ps xs is = record {
  right = λ i within known. absurd (known (none i within));
  closed = λ i j il jl known e. absurd (known (none i il));
  firsts = λ i h t less within p. absurd (omega arith);
}
  where
    none : (i : ℕ) → i < length ps → slice_index xs i ≡ nobody
    none i within = ap (λ (ys : List ℕ). slice_index ys i) is ∙ get_or-replicate (length ps) i nobody 0 within

-- a segment more that begins no chain
pub owners-more : (types : List SegmentType) (m : Links) (ps : List Place) (xs : List ℕ) (n : ℕ) → ((h t : ℕ) → IsParentOfFirst types m h t (place_at ps n).address → slice_index xs n ≢ nobody)
    → AreOwnersTo types m ps xs n → AreOwnersTo types m ps xs (n + 1)
owners-more types m ps xs n none k = record {
  right = k.right;
  closed = k.closed;
  firsts = λ i h t less within p. elim (cases_eq i n) [
    | inl same ↦ subst (λ (x : ℕ). slice_index xs x ≢ nobody) (sym same) (none h t (subst (λ (x : ℕ). IsParentOfFirst types m h t (place_at ps x).address) same p))
    | inr other ↦ k.firsts i h t (omega arith) within p
  ];
}

module _ (d : Database) (v : VolumeState) (ps : List Place) (M : IsMatched d v ps) where
  -- the chain goes on with the next twin
  pub open-next : (xs : List ℕ) (n w k : ℕ) → n < length xs → w ≢ nobody → k < length ps → (links_of d.types v).forward (place_at ps n).address ≡ (place_at ps k).address
      → IsOpenAt (links_of d.types v) ps xs n → IsOpenAt (links_of d.types v) ps (slice_set xs n w) k
  open-next xs n w k l some within next h i j il jl known e = elim (cases_eq i n) [
    | inl same ↦ inl (one-number ps j k M.stand.ascend jl within (sym e ∙ ap (λ (x : ℕ). (links_of d.types v).forward (place_at ps x).address) same ∙ next))
    | inr other ↦ elim (h i j il jl (λ z. known (set-other xs n w i other ∙ z)) e) [
      | inl own ↦ inr (subst (λ (x : ℕ). slice_index (slice_set xs n w) x ≢ nobody) (sym own) (λ z. some (sym (set-same xs n w l) ∙ z)))
      | inr old ↦ inr (set-kept xs n w j l some old)
    ]
  ]

  -- the chain ends
  pub open-end : (xs : List ℕ) (n w x : ℕ) → n < length xs → w ≢ nobody → (links_of d.types v).forward (place_at ps n).address ≡ x → ((code : ℕ) → IsPlaceOf (record { address = x; code = code }) ps → ⊥)
      → IsOpenAt (links_of d.types v) ps xs n → OwnersAreClosed (links_of d.types v) ps (slice_set xs n w)
  open-end xs n w x l some next none h i j il jl known e = elim (cases_eq i n) [
    | inl same ↦
        (let at : (place_at ps j).address ≡ x = sym e ∙ ap (λ (y : ℕ). (links_of d.types v).forward (place_at ps y).address) same ∙ next in
        absurd (none (place_at ps j).code (subst (λ (y : ℕ). IsPlaceOf (record { address = y; code = (place_at ps j).code }) ps) at (among ps j jl))))
    | inr other ↦ elim (h i j il jl (λ z. known (set-other xs n w i other ∙ z)) e) [
      | inl own ↦ subst (λ (y : ℕ). slice_index (slice_set xs n w) y ≢ nobody) (sym own) (λ z. some (sym (set-same xs n w l) ∙ z))
      | inr old ↦ set-kept xs n w j l some old
    ]
  ]

  -- the owner of a segment is that of the next twin
  pub own-next : (w n k : ℕ) → n < length ps → k < length ps → (links_of d.types v).forward (place_at ps n).address ≡ (place_at ps k).address
      → IsOwner d.types (links_of d.types v) w (place_at ps n).address → IsOwner d.types (links_of d.types v) w (place_at ps k).address
  own-next w n k nl kl next own = subst (IsOwner d.types (links_of d.types v) w) next
      (owner-next d.types (links_of d.types v) M.typed w (place_at ps n).address own (let some = (stands d v ps M k kl).some in omega arith))

  -- ---- all chains

  -- along a chain from a segment whose owner is known all are known
  known-chain : (xs : List ℕ) (n p a i j : ℕ) → OwnersAreClosed (links_of d.types v) ps xs → i < length ps → j < length ps → (place_at ps i).address ≡ p → (place_at ps j).address ≡ a
      → IsTwinAfter (links_of d.types v) n p a → slice_index xs i ≢ nobody → slice_index xs j ≢ nobody
  known-chain xs zero p a i j closed il jl ip ja chain known =
      subst (λ (x : ℕ). slice_index xs x ≢ nobody) (one-number ps i j M.stand.ascend il jl (ip ∙ chain.1 ∙ sym ja)) known
  known-chain xs (suc n) p a i j closed il jl ip ja chain known =
      let rest = chain-rest (links_of d.types v) n p a chain in
      let own : IsSegment (links_of d.types v) p = subst (IsSegment (links_of d.types v)) ip (stands d v ps M i il) in
      let next = next-there d.types (links_of d.types v) M.typed p own (chain-some (links_of d.types v) n ((links_of d.types v).forward p) a rest) in
      let k = number-at d v ps M ((links_of d.types v).forward p) next.0 in
      known-chain xs n ((links_of d.types v).forward p) a k.0 j closed k.1 jl k.2 ja rest
      (closed i k.0 il k.1 known (ap (links_of d.types v).forward ip ∙ sym k.2))

  -- the owners are those of the chains, where those of first children are known
  pub are-owners : (xs : List ℕ) → length xs ≡ length ps → OwnersAreRight d.types (links_of d.types v) ps xs → OwnersAreClosed (links_of d.types v) ps xs
      → ((i h t : ℕ) → i < length ps → IsParentOfFirst d.types (links_of d.types v) h t (place_at ps i).address → slice_index xs i ≢ nobody)
      → AreOwners d.types (links_of d.types v) ps xs
  are-owners xs as-many right closed firsts = record {
    as_many = as-many;
    owner = right;
    no_owner = λ i within none h o.
        (let f = first-there d.types (links_of d.types v) M.typed h o.type_code o.holder o.typed (chain-some (links_of d.types v) o.chain.0 ((links_of d.types v).first_child h o.type_code) (place_at ps i).address o.chain.1) in
        let k = number-at d v ps M ((links_of d.types v).first_child h o.type_code) f.0 in
        known-chain xs o.chain.0 ((links_of d.types v).first_child h o.type_code) (place_at ps i).address k.0 i closed k.1 within k.2 refl o.chain.1
        (firsts k.0 h o.type_code k.1 (record { holder = o.holder; typed = o.typed; names = sym k.2 })) none);
  }

  -- a chain that was walked
  pub owners-walked : (xs ys : List ℕ) (n w : ℕ) → n < length ps → Precedes d.types (links_of d.types v) w (place_at ps n).address → (IsPlaceOf (record { address = w; code = (place_at ps n).code }) ps → ⊥)
      → ((i : ℕ) → slice_index xs i ≢ nobody → slice_index ys i ≢ nobody) → slice_index ys n ≢ nobody
      → (IsOwner d.types (links_of d.types v) w (place_at ps n).address → OwnersAreRight d.types (links_of d.types v) ps xs → OwnersAreRight d.types (links_of d.types v) ps ys)
      → (OwnersAreClosed (links_of d.types v) ps xs → OwnersAreClosed (links_of d.types v) ps ys)
      → AreOwnersTo d.types (links_of d.types v) ps xs n → AreOwnersTo d.types (links_of d.types v) ps ys (n + 1)
  owners-walked xs ys n w l prec isnt kept own right closed k =
      let first = is-first d v ps M n w l prec isnt in
      owners-more d.types (links_of d.types v) ps ys n (λ h t p. own) (record {
        right = right (owner-first d.types (links_of d.types v) M.typed w first.0 (place_at ps n).address (stands d v ps M n l).some first.1) k.right;
        closed = closed k.closed;
        firsts = λ i h t less within p. kept i (k.firsts i h t less within p);
      })

  -- a twin begins no chain
  pub owners-twin : (xs : List ℕ) (n w : ℕ) → n < length ps → Precedes d.types (links_of d.types v) w (place_at ps n).address → IsPlaceOf (record { address = w; code = (place_at ps n).code }) ps
      → AreOwnersTo d.types (links_of d.types v) ps xs n → AreOwnersTo d.types (links_of d.types v) ps xs (n + 1)
  owners-twin xs n w l prec is k = owners-more d.types (links_of d.types v) ps xs n (λ h t p. absurd (first-place d v ps M n h t w l p prec is)) k

  -- nobody precedes no segment
  pub owners-nobody : (xs : List ℕ) (n w : ℕ) → w ≡ nobody → Precedes d.types (links_of d.types v) w (place_at ps n).address
      → AreOwnersTo d.types (links_of d.types v) ps xs n → AreOwnersTo d.types (links_of d.types v) ps xs (n + 1)
  owners-nobody xs n w none prec k = absurd (not-nobody d v ps M w (holder-here d.types (links_of d.types v) w (place_at ps n).address prec) none)

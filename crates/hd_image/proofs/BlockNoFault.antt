-- Data blocks with extents have a right chain of free elements, and no place with nothing.
use Rattle.std.proofs.Common.{◌≡◌, ◌≢◌, ◌⊎◌, inl, inr, ℕ, ◌+◌, ◌%◌, ◌<◌, ◌≤◌, List, [], ◌∷◌, length, slice_index, refl, sym, ap, subst, ◌∙◌, arith}
use Rattle.std.proofs.lemmas.Bool.{cases_eq}
use Rattle.hd_bytes.specs.Numbers.{number_at}
use Rattle.hd_block.specs.Extents.{Extent, free, used, taken, IsHole, IsSegment, Fill, IsDivided, AreWhole}
use Rattle.hd_volume.specs.Volumes.{VolumeState, block_at, IsKind, HasExtents}
use Rattle.hd_volume.specs.Indexes.{IsAmong}
use Rattle.hd_image.specs.BlockFaults.{AreFreeElements, HasFreeElements, IsWrongChain, IsNoSegment, IsStep, IsReadTo, IsWrongPlace}
use Rattle.hd_dbd.specs.declared.facts.SegmentSize.{SegmentSize}
use Rattle.hd_block.specs.Sizes.{size_at}

-- the places of the free elements among extents that begin at a place
abbrev pub frees : ℕ → List Extent → List ℕ
frees place [] = []
frees place (free n ∷ xs) = place ∷ frees (place + n) xs
frees place (used n ∷ xs) = frees (place + n) xs
frees place (taken n ∷ xs) = frees (place + n) xs

-- extents that fill a block end within it
within : (sizes : List SegmentSize) (bytes : List ℕ) (place next : ℕ) (xs : List Extent) → Fill sizes bytes place next xs → place ≤ length bytes
within sizes bytes place next [] f = (let e = f.0 in omega arith)
within sizes bytes place next (free n ∷ xs) f = (let l = within sizes bytes (place + n) (number_at 2 bytes place) xs f.2 in omega arith)
within sizes bytes place next (used n ∷ xs) f = (let l = within sizes bytes (place + n) next xs f.2 in omega arith)
within sizes bytes place next (taken n ∷ xs) f = (let l = within sizes bytes (place + n) next xs f.3 in omega arith)

-- none of the free elements stands before the place
later : (sizes : List SegmentSize) (bytes : List ℕ) (place next : ℕ) (xs : List Extent) (q : ℕ) → Fill sizes bytes place next xs → IsAmong q (frees place xs) → place ≤ q
later sizes bytes place next [] q f i = absurd i
later sizes bytes place next (free n ∷ xs) q f (inl e) = omega arith
later sizes bytes place next (free n ∷ xs) q f (inr i) = (let l = later sizes bytes (place + n) (number_at 2 bytes place) xs q f.2 i in omega arith)
later sizes bytes place next (used n ∷ xs) q f i = (let l = later sizes bytes (place + n) next xs q f.2 i in omega arith)
later sizes bytes place next (taken n ∷ xs) q f i = (let l = later sizes bytes (place + n) next xs q f.3 i in omega arith)

-- the free elements among extents are a chain, each past the end of the one before
chained : (sizes : List SegmentSize) (bytes : List ℕ) (end place next : ℕ) (xs : List Extent) → Fill sizes bytes place next xs → AreWhole xs → place % 8 ≡ 0
    → (end < place) ⊎ ((end ≡ place) × (next ≢ place)) → AreFreeElements bytes end next (frees place xs)
chained sizes bytes end place next [] f w eighth apart = f.1
chained sizes bytes end place next (free n ∷ xs) f w eighth apart =
    let x : IsHole bytes place n = f.1 in
    let len = x.element.len in
    let some = x.element.some in
    let whole = x.element.whole in
    let next-is : next ≡ place = sym f.0 in
    let over = within sizes bytes (place + n) (number_at 2 bytes place) xs f.2 in
    let past : end < place = elim apart [ inl l ↦ l | inr e ↦ absurd (e.1 next-is) ] in
    let rest = chained sizes bytes (place + n) (place + n) (number_at 2 bytes place) xs f.2 w (omega arith) (inr (refl, x.apart)) in
    let E : ℕ → Type 0 = λ k. AreFreeElements bytes (place + k) (number_at 2 bytes place) (frees (place + n) xs) in (
      next-is,
      past,
      record {
        whole = eighth;
        within = rw len over;
        element = record { len = refl; task = x.element.task; some = rw len some; whole = ap (λ (k : ℕ). k % 8) len ∙ whole };
      },
      subst E (sym len) rest,
    )
chained sizes bytes end place next (used n ∷ xs) f w eighth apart =
    let x : IsSegment sizes bytes place n = f.1 in
    let some = x.some in
    let whole = x.whole in
    let past : end < place + n = elim apart [ inl l ↦ omega arith | inr e ↦ (let same = e.0 in omega arith) ] in
    chained sizes bytes end (place + n) next xs f.2 w (omega arith) (inl past)
chained sizes bytes end place next (taken n ∷ xs) f w eighth apart = absurd w

-- a block has one chain of free elements
one-chain : (bytes : List ℕ) (end next : ℕ) (ps qs : List ℕ) → AreFreeElements bytes end next ps → AreFreeElements bytes end next qs → ps ≡ qs
one-chain bytes end next [] [] h k = refl
one-chain bytes end next [] (q ∷ qs) h k = (let z : next ≡ 0 = h in let e = k.0 in let l = k.1 in absurd (omega arith))
one-chain bytes end next (p ∷ ps) [] h k = (let z : next ≡ 0 = k in let e = h.0 in let l = h.1 in absurd (omega arith))
one-chain bytes end next (p ∷ ps) (q ∷ qs) h k =
    let same : p ≡ q = sym h.0 ∙ k.0 in
    let K : ℕ → Type 0 = λ x. AreFreeElements bytes (x + number_at 2 bytes (x + 2)) (number_at 2 bytes x) qs in
    let rest = one-chain bytes (p + number_at 2 bytes (p + 2)) (number_at 2 bytes p) ps qs h.3 (subst K (sym same) k.3) in
    (λ i. same i ∷ rest i)

-- reading from a place where an extent begins comes to the beginning of an extent, or to the end
no-end : (sizes : List SegmentSize) (bytes places : List ℕ) (from next : ℕ) (xs : List Extent) (way : List ℕ) (place : ℕ) → Fill sizes bytes from next xs → AreWhole xs
    → ((q : ℕ) → from ≤ q → IsAmong q places → IsAmong q (frees from xs)) → ((q : ℕ) → IsAmong q (frees from xs) → IsAmong q places)
    → IsReadTo sizes bytes places from way place → place < length bytes → IsNoSegment sizes bytes places place → ⊥
no-end sizes bytes places from next [] [] place f w to back read short none = (let e = f.0 in let r : from ≡ place = read in omega arith)
no-end sizes bytes places from next [] (n ∷ way) place f w to back read short none = (let e = f.0 in let l = read.0.some in omega arith)
no-end sizes bytes places from next (free n ∷ xs) [] place f w to back read short none =
    none.apart (subst (λ (q : ℕ). IsAmong q places) read (back from (inl refl)))
no-end sizes bytes places from next (free n ∷ xs) (m ∷ way) place f w to back read short none =
    let x : IsHole bytes from n = f.1 in
    let step : m ≡ from + n = read.0.free (back from (inl refl)) ∙ ap (λ (k : ℕ). from + k) x.element.len in
    no-end sizes bytes places (from + n) (number_at 2 bytes from) xs way place f.2 w
    (λ q l i. elim (to q (let s = x.element.some in omega arith) i) [ inl e ↦ absurd (let s = x.element.some in omega arith) | inr j ↦ j ])
    (λ q i. back q (inr i))
    (subst (λ (s : ℕ). IsReadTo sizes bytes places s way place) step read.1) short none
no-end sizes bytes places from next (used n ∷ xs) [] place f w to back read short none =
    let x : IsSegment sizes bytes from n = f.1 in
    let r : from ≡ place = read in
    let size : size_at sizes bytes place ≡ n = ap (λ (p : ℕ). size_at sizes bytes p) (sym r) ∙ x.size in
    let some = x.some in
    let over = within sizes bytes (from + n) next xs f.2 in
    none.fits (omega arith) (omega arith)
    (λ q i l. (let s = later sizes bytes (from + n) next xs q f.2 (to q (omega arith) i) in omega arith))
no-end sizes bytes places from next (used n ∷ xs) (m ∷ way) place f w to back read short none =
    let x : IsSegment sizes bytes from n = f.1 in
    let some = x.some in
    let apart : IsAmong from places → ⊥ = λ i. (let s = later sizes bytes (from + n) next xs from f.2 (to from (omega arith) i) in omega arith) in
    let step : m ≡ from + n = read.0.used apart ∙ ap (λ (k : ℕ). from + k) x.size in
    no-end sizes bytes places (from + n) next xs way place f.2 w
    (λ q l i. to q (omega arith) i)
    back
    (subst (λ (s : ℕ). IsReadTo sizes bytes places s way place) step read.1) short none
no-end sizes bytes places from next (taken n ∷ xs) way place f w to back read short none = absurd w

-- the free elements of a divided block
has-frees : (sizes : List SegmentSize) (bytes : List ℕ) (xs : List Extent) → IsDivided sizes bytes xs → AreWhole xs → HasFreeElements bytes (frees 8 xs)
has-frees sizes bytes xs f w = chained sizes bytes 7 8 (number_at 2 bytes 0) xs f w refl (inl (omega arith))

-- a block with extents has a chain of free elements
pub divided-chain : (sizes : List SegmentSize) (block : List ℕ) → HasExtents sizes block → ((places : List ℕ) → HasFreeElements block places → ⊥) → ⊥
divided-chain sizes block e none = none (frees 8 e.extents) (has-frees sizes block e.extents e.divides e.whole)

-- and reading it comes to no place with nothing
pub divided-place : (sizes : List SegmentSize) (block places way : List ℕ) (place : ℕ) → HasExtents sizes block → HasFreeElements block places
    → IsReadTo sizes block places 8 way place → place < length block → IsNoSegment sizes block places place → ⊥
divided-place sizes block places way place e chain read short none =
    let same : places ≡ frees 8 e.extents = one-chain block 7 (number_at 2 block 0) places (frees 8 e.extents) chain (has-frees sizes block e.extents e.divides e.whole) in
    no-end sizes block places 8 (number_at 2 block 0) e.extents way place e.divides e.whole
    (λ q l i. subst (IsAmong q) same i) (λ q i. subst (IsAmong q) (sym same) i) read short none

-- a number is one of some or none of them
is-among : (q : ℕ) (ps : List ℕ) → IsAmong q ps ⊎ (IsAmong q ps → ⊥)
is-among q [] = inr (λ i. i)
is-among q (p ∷ ps) = elim (cases_eq q p) [
  | inl e ↦ inl (inl e)
  | inr ne ↦ elim (is-among q ps) [
    | inl i ↦ inl (inr i)
    | inr none ↦ inr (λ i. elim i [ inl e ↦ ne e | inr j ↦ none j ])
  ]
]

-- a step comes to one place
one-step : (sizes : List SegmentSize) (block places : List ℕ) (from m n : ℕ) → IsStep sizes block places from m → IsStep sizes block places from n → m ≡ n
one-step sizes block places from m n h k = elim (is-among from places) [
  | inl i ↦ h.free i ∙ sym (k.free i)
  | inr none ↦ h.used none ∙ sym (k.used none)
]

-- reading a block comes to one place with nothing at most
one-place : (sizes : List SegmentSize) (block places : List ℕ) (from : ℕ) (way other : List ℕ) (p q : ℕ) → IsReadTo sizes block places from way p → IsReadTo sizes block places from other q
    → IsNoSegment sizes block places p → IsNoSegment sizes block places q → p ≡ q
one-place sizes block places from [] [] p q h k x y = sym h ∙ k
one-place sizes block places from [] (n ∷ other) p q h k x y = absurd (k.0.right (subst (IsNoSegment sizes block places) (sym h) x))
one-place sizes block places from (n ∷ way) [] p q h k x y = absurd (h.0.right (subst (IsNoSegment sizes block places) (sym k) y))
one-place sizes block places from (n ∷ way) (m ∷ other) p q h k x y =
    let R : ℕ → Type 0 = λ f. IsReadTo sizes block places f other q in
    one-place sizes block places n way other p q h.1 (subst R (one-step sizes block places from m n k.0 h.0) k.1) x y

-- whatever chain it is read by
pub one-wrong-place : (sizes : List SegmentSize) (block ps qs way other : List ℕ) (p q : ℕ) → HasFreeElements block ps → HasFreeElements block qs → IsReadTo sizes block ps 8 way p → IsReadTo sizes block qs 8 other q
    → IsNoSegment sizes block ps p → IsNoSegment sizes block qs q → p ≡ q
one-wrong-place sizes block ps qs way other p q f g h k x y =
    let same : qs ≡ ps = one-chain block 7 (number_at 2 block 0) qs ps g f in
    let R : List ℕ → Type 0 = λ places. IsReadTo sizes block places 8 other q in
    let N : List ℕ → Type 0 = λ places. IsNoSegment sizes block places q in
    one-place sizes block ps 8 way other p q h (subst R same k) x (subst N same y)

-- no data block with extents has a wrong chain
pub none-wrong-chain : (v : VolumeState) (a x : ℕ) → ((n : ℕ) → IsKind v 1 n → HasExtents v.sizes (block_at v n)) → IsWrongChain v a x → ⊥
none-wrong-chain v a x divided h = divided-chain v.sizes (block_at v h.0) (divided h.0 h.1) h.2

-- nor a place with nothing
pub none-wrong-place : (v : VolumeState) (a x : ℕ) → ((n : ℕ) → IsKind v 1 n → HasExtents v.sizes (block_at v n)) → IsWrongPlace v a x → ⊥
none-wrong-place v a x divided (n, place, places, way, kind, chain, read, short, none, at, other) =
    divided-place v.sizes (block_at v n) places way place (divided n kind) chain read short none

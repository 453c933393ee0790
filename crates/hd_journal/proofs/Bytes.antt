-- The bytes that the frames of a log make.
use Rattle.std.proofs.Common.{Bool, true, false, ◌≡◌, ◌≢◌, inl, inr, ℕ, zero, suc, ◌+◌, ◌*◌, ◌<◌, ◌≤◌, ◌/◌, ◌%◌, List, length, slice_index, refl, sym, ap, ◌∙◌, arith}
use Rattle.std.proofs.lemmas.Bool.{true≢false, cases_eq, cases_lt, eq-eqb, ne_eqb, lt-ltb, ltb-true, false_from_ne_true}
use Rattle.std.proofs.lemmas.Grind.{same_number_lists}
use Rattle.std.proofs.lemmas.List.FromFn.{length-map-range_with_len, get_or-map-range_with_len}
use Rattle.std.proofs.lemmas.Nat.{row_fits}
use Rattle.hd_bytes.proofs.NumberLemmas.{number-same}
use Rattle.hd_bytes.proofs.BlockLemmas.{place-of, elsewhere}
use Rattle.hd_journal.specs.Disk.{Torn, Cut}
use Rattle.hd_journal.specs.declared.head.Head.{Head}
use Rattle.hd_journal.specs.Log.{HasFirst, frame_at, block_no, byte_from, base_byte, image_byte, image, Spares, HasFrames}

-- ---- where slots stand

pub frame-next : (size i : ℕ) → frame_at size (suc i) ≡ frame_at size i + (size + 4)
frame-next size i = omega arith

-- an earlier slot ends before a later one begins
pub frame-before : (size i j : ℕ) → i < j → frame_at size i + (size + 4) ≤ frame_at size j
frame-before size i j low = (let r : i * (size + 4) + (size + 4) ≤ j * (size + 4) = row_fits i (size + 4) j (size + 4) low (omega arith) in omega arith)

pub frame-up-to : (size i j : ℕ) → i ≤ j → frame_at size i ≤ frame_at size j
frame-up-to size i j le = elim (cases_eq i j) [
  | inl same ↦ (let e : frame_at size i ≡ frame_at size j = ap (frame_at size) same in omega (arith, e))
  | inr other ↦ (let r = frame-before size i j (omega (arith, le, other)) in omega (arith, r))
]

-- ---- one more frame

pub frame-own : (size : ℕ) (log : List ℕ) (i k b : ℕ) → block_no size log i ≡ k / size → byte_from size log (suc i) k b ≡ slice_index log (frame_at size i + 4 + k % size)
frame-own size log i k b h = rw (eq-eqb _ _ h) refl

pub frame-other : (size : ℕ) (log : List ℕ) (i k b : ℕ) → block_no size log i ≢ k / size → byte_from size log (suc i) k b ≡ byte_from size log i k b
frame-other size log i k b h = rw (ne_eqb _ _ h) refl

-- a byte whose block has a frame does not depend on what stood there
pub covered : (size : ℕ) (log : List ℕ) (n k a b i : ℕ) → i < n → block_no size log i ≡ k / size → byte_from size log n k a ≡ byte_from size log n k b
covered size log zero k a b i low h = absurd (omega arith)
covered size log (suc n) k a b i low h =
    elim (cases_eq (block_no size log n) (k / size)) [
      | inl own ↦ frame-own size log n k a own ∙ sym (frame-own size log n k b own)
      | inr other ↦
          let less : i < n = elim (cases_eq i n) [ inl same ↦ absurd (other (ap (block_no size log) (sym same) ∙ h)) | inr u ↦ omega (arith, u) ] in
          frame-other size log n k a other ∙ covered size log n k a b i less h ∙ sym (frame-other size log n k b other)
    ]

-- logs with the same frames make the same bytes
pub same-frames : (size : ℕ) (a b : List ℕ) (n k byte : ℕ) → 0 < size → ((i : ℕ) → 51 ≤ i → i < frame_at size n → slice_index a i ≡ slice_index b i) → byte_from size a n k byte ≡ byte_from size b n k byte
same-frames size a b zero k byte some same = refl
same-frames size a b (suc n) k byte some same =
    let at : ℕ = frame_at size n in
    let ends : frame_at size (suc n) ≡ at + (size + 4) = omega arith in
    let low : k % size < size = omega arith in
    let number : block_no size a n ≡ block_no size b n = number-same 4 at a b (λ i l u. same i (omega arith) (omega (arith, ends))) in
    let rest = same-frames size a b n k byte some (λ i l u. same i l (omega (arith, ends))) in
    elim (cases_eq (block_no size a n) (k / size)) [
      | inl own ↦ frame-own size a n k byte own ∙ same (at + 4 + k % size) (omega arith) (omega (arith, ends)) ∙ sym (frame-own size b n k byte (sym number ∙ own))
      | inr other ↦ frame-other size a n k byte other ∙ rest ∙ sym (frame-other size b n k byte (λ e. other (number ∙ e)))
    ]

-- ---- the base

pub base-within : (base : ℕ) (v : List ℕ) (k : ℕ) → k < base → base_byte base v k ≡ slice_index v k
base-within base v k h = rw (lt-ltb _ _ h) refl

pub base-behind : (base : ℕ) (v : List ℕ) (k : ℕ) → base ≤ k → base_byte base v k ≡ 0
base-behind base v k h = rw (false_from_ne_true _ (λ e. let low = ltb-true k base e in omega arith)) refl

-- ---- whole images

pub length-image : (h : Head) (l v : List ℕ) → length (image h l v) ≡ h.len
unfolding image
length-image h l v = length-map-range_with_len (image_byte h l v) 0 h.len

pub byte-of-image : (h : Head) (l v : List ℕ) (k : ℕ) → k < h.len → slice_index (image h l v) k ≡ image_byte h l v k
unfolding image
byte-of-image h l v k low = get_or-map-range_with_len (image_byte h l v) 0 h.len k k 0 low (omega arith)

pub same-image : (h : Head) (l m v w : List ℕ) → ((k : ℕ) → k < h.len → image_byte h l v k ≡ image_byte h m w k) → image h l v ≡ image h m w
same-image h l m v w same =
    same_number_lists _ _ (length-image h l v ∙ sym (length-image h m w)) (λ k low.
    let len = length-image h l v in
    byte-of-image h l v k (omega arith) ∙ same k (omega arith) ∙ sym (byte-of-image h m w k (omega arith)))

-- a volume that is spared makes the same image
pub spared-image : (h : Head) (z : Bool) (log first v : List ℕ) → Spares h z log first v → image h log v ≡ image h log first
spared-image h z log first v s =
    same-image h log log v first (λ k low.
    elim (cases_lt k h.base) [
      | inl in_base ↦
          ap (byte_from h.size log h.count k) (base-within h.base v k in_base) ∙ s.each k in_base ∙ ap (byte_from h.size log h.count k) (sym (base-within h.base first k in_base))
      | inr behind ↦
          let le : h.base ≤ k = omega arith in
          ap (byte_from h.size log h.count k) (base-behind h.base v k le ∙ sym (base-behind h.base first k le))
    ])

-- a volume that is cut to the length of the image, and has its bytes, is it
pub is-image : (h : Head) (log first v w : List ℕ) → HasFrames h 0 log first h.count v → Cut h.len v w → length w ≡ h.len → w ≡ image h log first
is-image h log first v w f cut len =
    same_number_lists _ _ (len ∙ sym (length-image h log first)) (λ k low.
    let long = f.long in
    cut.below k (omega arith) (omega arith) ∙ f.each k (omega arith) (omega arith) ∙ sym (byte-of-image h log first k (omega arith)))

-- frames that were put in before are put in again
pub twice : (size : ℕ) (log : List ℕ) (n m k b : ℕ) → m ≤ n → byte_from size log n k (byte_from size log m k b) ≡ byte_from size log n k b
twice size log zero m k b le = ap (λ (i : ℕ). byte_from size log i k b) (let none : m ≡ 0 = omega (arith, le) in none)
twice size log (suc n) m k b le =
    elim (cases_eq (block_no size log n) (k / size)) [
      | inl own ↦ frame-own size log n k (byte_from size log m k b) own ∙ sym (frame-own size log n k b own)
      | inr other ↦
          let earlier : byte_from size log n k (byte_from size log m k b) ≡ byte_from size log n k b = elim (cases_eq m (suc n)) [
            | inl all ↦
                ap (λ (i : ℕ). byte_from size log n k (byte_from size log i k b)) all ∙ ap (byte_from size log n k) (frame-other size log n k b other) ∙ twice size log n n k b (omega arith)
            | inr fewer ↦ twice size log n m k b (omega (arith, le, fewer))
          ] in
          frame-other size log n k (byte_from size log m k b) other ∙ earlier ∙ sym (frame-other size log n k b other)
    ]

-- the image, in the place of the volume, makes itself
pub image-again : (h : Head) (log first : List ℕ) → h.base ≤ h.len → image h log (image h log first) ≡ image h log first
image-again h log first grows =
    same-image h log log (image h log first) first (λ k low.
    elim (cases_lt k h.base) [
      | inl in_base ↦
          ap (byte_from h.size log h.count k) (base-within h.base (image h log first) k in_base ∙ byte-of-image h log first k low)
          ∙ twice h.size log h.count h.count k (base_byte h.base first k) (omega arith)
      | inr behind ↦
          let le : h.base ≤ k = omega arith in
          ap (byte_from h.size log h.count k) (base-behind h.base (image h log first) k le ∙ sym (base-behind h.base first k le))
    ])

-- ---- the steps of a redo

-- at first
pub spares-first : (h : Head) (log first : List ℕ) → h.base ≤ length first → Spares h false log first first
spares-first h log first base = record { base = base; each = λ k low. refl; first_byte = λ e. absurd (true≢false (sym e)) }

-- what is spared and shut is spared
pub spares-open : (h : Head) (z : Bool) (log first v : List ℕ) → Spares h z log first v → Spares h false log first v
spares-open h z log first v s = record { base = s.base; each = s.each; first_byte = λ e. absurd (true≢false (sym e)) }

-- a write behind the first byte leaves it
byte-kept : (z : Bool) (v w : List ℕ) (at n : ℕ) → Torn at n v w → (z ≡ true → 0 < at) → (z ≡ true → (0 < length v) × (slice_index v 0 ≡ 0)) → z ≡ true → (0 < length w) × (slice_index w 0 ≡ 0)
byte-kept z v w at n torn behind was e =
    let there = (was e).0 in
    let l = torn.no_shorter in
    (omega arith, torn.below 0 there (behind e) ∙ (was e).1)

-- a write within a block that has a frame
pub spares-frame : (h : Head) (z : Bool) (log first v w : List ℕ) (i at n : ℕ) → 0 < h.size → i < h.count → Spares h z log first v → block_no h.size log i * h.size ≤ at → at + n ≤ block_no h.size log i * h.size + h.size
    → (z ≡ true → 0 < at) → Torn at n v w → Spares h z log first w
spares-frame h z log first v w i at n some few s from to behind torn = record {
  base = (let b = s.base in let l = torn.no_shorter in omega arith);
  each = λ k low.
      let b = s.base in
      let m : ℕ = block_no h.size log i in
      elim (cases_eq (k / h.size) m) [
        | inl own ↦ covered h.size log h.count k (slice_index w k) (slice_index first k) i few (sym own)
        | inr other ↦
            let same : slice_index w k ≡ slice_index v k = elim (elsewhere h.size k m some other) [
              | inl l ↦ torn.below k (omega arith) (omega arith)
              | inr u ↦ torn.above k (omega arith) (omega arith)
            ] in
            ap (byte_from h.size log h.count k) same ∙ s.each k low
      ];
  first_byte = byte-kept z v w at n torn behind s.first_byte;
}

-- a write of the first byte, whose block has a frame
pub spares-byte : (h : Head) (z : Bool) (log first v w : List ℕ) (byte : ℕ) → HasFirst h.size log h.count byte → Spares h z log first v → Torn 0 1 v w → Spares h false log first w
spares-byte h z log first v w byte has s torn = record {
  base = (let b = s.base in let l = torn.no_shorter in omega arith);
  each = λ k low.
      let b = s.base in
      elim (cases_eq k 0) [
        | inl front ↦ ap (λ (m : ℕ). byte_from h.size log h.count m (slice_index w k)) front ∙ has.is (slice_index w k) ∙ sym (has.is (slice_index first k)) ∙ ap (λ (m : ℕ). byte_from h.size log h.count m (slice_index first k)) (sym front)
        | inr later ↦ ap (byte_from h.size log h.count k) (torn.above k (omega arith) (omega (arith, later))) ∙ s.each k low
      ];
  first_byte = λ e. absurd (true≢false (sym e));
}

-- a change of the length to that of the image
pub spares-cut : (h : Head) (z : Bool) (log first v w : List ℕ) (len : ℕ) → h.base ≤ len → (z ≡ true → 0 < len) → Spares h z log first v → Cut len v w → Spares h z log first w
spares-cut h z log first v w len grows some s cut = record {
  base = (let b = s.base in let l = cut.no_shorter in omega arith);
  each = λ k low. (let b = s.base in ap (byte_from h.size log h.count k) (cut.below k (omega arith) (omega arith)) ∙ s.each k low);
  first_byte = λ e. (let there = (s.first_byte e).0 in let l = cut.no_shorter in let long = some e in (omega arith, cut.below 0 there long ∙ (s.first_byte e).1));
}

-- one frame more
pub has-frame : (h : Head) (from : ℕ) (log first v w : List ℕ) (i at n : ℕ) → 0 < h.size → HasFrames h from log first i v → block_no h.size log i * h.size ≤ at → at + n ≤ block_no h.size log i * h.size + h.size → Torn at n v w
    → ((j : ℕ) → j < h.size → from ≤ block_no h.size log i * h.size + j → slice_index w (block_no h.size log i * h.size + j) ≡ slice_index log (frame_at h.size i + 4 + j)) → HasFrames h from log first (suc i) w
has-frame h from log first v w i at n some f first_at last_at torn wrote = record {
  long = (let a = f.long in let b = torn.no_shorter in omega arith);
  each = λ k above low.
      let long = f.long in
      let m : ℕ = block_no h.size log i in
      elim (cases_eq (k / h.size) m) [
        | inl own ↦
            let j : ℕ = k % h.size in
            let in_block : j < h.size = omega arith in
            let place : m * h.size + j ≡ k = ap (λ (m : ℕ). m * h.size + j) (sym own) ∙ place-of h.size k some in
            ap (slice_index w) (sym place) ∙ wrote j in_block (omega (arith, place, above)) ∙ sym (frame-own h.size log i k (base_byte h.base first k) (sym own))
        | inr other ↦
            let same : slice_index w k ≡ slice_index v k = elim (elsewhere h.size k m some other) [
              | inl l ↦ torn.below k (omega arith) (omega arith)
              | inr u ↦ torn.above k (omega arith) (omega arith)
            ] in
            same ∙ f.each k above low ∙ sym (frame-other h.size log i k (base_byte h.base first k) (λ e. other (sym e)))
      ];
}

-- frames that are put in from one byte on are so from a later one on
pub has-behind : (h : Head) (from to : ℕ) (log first v : List ℕ) (i : ℕ) → from ≤ to → HasFrames h from log first i v → HasFrames h to log first i v
has-behind h from to log first v i le f = record { long = f.long; each = λ k above low. f.each k (omega arith) low }

-- a volume that is cut to the length of the image has its bytes, from a byte on
pub image-behind : (h : Head) (from : ℕ) (log first v w : List ℕ) → HasFrames h from log first h.count v → Cut h.len v w → (k : ℕ) → from ≤ k → k < h.len → slice_index w k ≡ slice_index (image h log first) k
image-behind h from log first v w f cut k above low = (let long = f.long in cut.below k (omega arith) low ∙ f.each k above low ∙ sym (byte-of-image h log first k low))

-- and is the image once its first byte is the image's
pub image-whole : (h : Head) (log first v w : List ℕ) (byte : ℕ) → HasFirst h.size log h.count byte → 0 < h.len → length v ≡ h.len → ((k : ℕ) → 1 ≤ k → k < h.len → slice_index v k ≡ slice_index (image h log first) k) → Torn 0 1 v w → slice_index w 0 ≡ byte → w ≡ image h log first
image-whole h log first v w byte has some len behind torn is =
    let up = torn.no_shorter in
    let down = torn.no_longer in
    let long : length w ≡ h.len = omega (arith, len) in
    same_number_lists _ _ (long ∙ sym (length-image h log first)) (λ k low.
    elim (cases_eq k 0) [
      | inl front ↦ ap (slice_index w) front ∙ is ∙ sym (has.is (base_byte h.base first 0)) ∙ sym (byte-of-image h log first 0 some) ∙ ap (slice_index (image h log first)) (sym front)
      | inr later ↦ torn.above k (omega (arith, len, long, low)) (omega (arith, later)) ∙ behind k (omega (arith, later)) (omega (arith, long, low))
    ])

-- bytes that are all the image's are the image
pub image-all : (h : Head) (log first w : List ℕ) → length w ≡ h.len → ((k : ℕ) → 0 ≤ k → k < h.len → slice_index w k ≡ slice_index (image h log first) k) → w ≡ image h log first
image-all h log first w len each = same_number_lists _ _ (len ∙ sym (length-image h log first)) (λ k low. each k (omega arith) (omega (arith, len, low)))

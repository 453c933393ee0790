-- The image of a log to which one frame is added, or in which one is overwritten.
use Rattle.std.proofs.Common.{◌≡◌, ◌≢◌, ◌⊎◌, inl, inr, ℕ, zero, suc, ◌+◌, ◌*◌, ◌<◌, ◌≤◌, ◌/◌, ◌%◌, List, ◌++◌, length, get_or, slice_index, replicate, refl, sym, ap, ◌∙◌, arith}
use Rattle.std.proofs.lemmas.Bool.{cases_eq, cases_lt}
use Rattle.std.proofs.lemmas.Grind.{same_number_lists, common_steps}
use Rattle.std.proofs.lemmas.List.{get_or-replicate}
use Rattle.hd_bytes.specs.Ranges.{with_bytes}
use Rattle.hd_bytes.specs.Blocks.{with_block, grown, HasBlock}
use Rattle.hd_bytes.proofs.BlockLemmas.{length-with_block, length-grown, place-of, elsewhere}
use Rattle.hd_journal.specs.Log.{frame_at, block_no, byte_from}
use Rattle.hd_journal.proofs.Bytes.{frame-own, frame-other}

-- ---- which frame a byte is from

-- none of the first m frames has the byte's block
pub from-none : (size : ℕ) (log : List ℕ) (m k b : ℕ) → ((i : ℕ) → i < m → block_no size log i ≢ k / size) → byte_from size log m k b ≡ b
from-none size log zero k b none = refl
from-none size log (suc m) k b none = frame-other size log m k b (none m (omega arith)) ∙ from-none size log m k b (λ i low. none i (omega arith))

-- frame j is the last that has it
pub from-last : (size : ℕ) (log : List ℕ) (m j k b : ℕ) → j < m → block_no size log j ≡ k / size → ((i : ℕ) → i < m → block_no size log i ≡ k / size → i ≤ j)
    → byte_from size log m k b ≡ slice_index log (frame_at size j + 4 + k % size)
from-last size log zero j k b low own late = absurd (omega arith)
from-last size log (suc m) j k b low own late =
    elim (cases_eq (block_no size log m) (k / size)) [
      | inl here ↦ frame-own size log m k b here ∙ ap (λ (i : ℕ). slice_index log (frame_at size i + 4 + k % size)) (let le = late m (omega arith) here in let same : m ≡ j = omega (arith, le, low) in same)
      | inr other ↦
          let less : j < m = elim (cases_eq j m) [ inl same ↦ absurd (other (ap (block_no size log) (sym same) ∙ own)) | inr u ↦ omega (arith, u) ] in
          frame-other size log m k b other ∙ from-last size log m j k b less own (λ i u here. late i (omega arith) here)
    ]

-- two logs that agree on the numbers, and on the frames of the byte's block
pub from-same : (size : ℕ) (a c : List ℕ) (m k b : ℕ) → ((i : ℕ) → i < m → block_no size c i ≡ block_no size a i)
    → ((i : ℕ) → i < m → block_no size a i ≡ k / size → slice_index c (frame_at size i + 4 + k % size) ≡ slice_index a (frame_at size i + 4 + k % size))
    → byte_from size c m k b ≡ byte_from size a m k b
from-same size a c zero k b numbers frames = refl
from-same size a c (suc m) k b numbers frames =
    let number = numbers m (omega arith) in
    let rest = from-same size a c m k b (λ i u. numbers i (omega arith)) (λ i u own. frames i (omega arith) own) in
    elim (cases_eq (block_no size a m) (k / size)) [
      | inl own ↦ frame-own size c m k b (number ∙ own) ∙ frames m (omega arith) own ∙ sym (frame-own size a m k b own)
      | inr other ↦ frame-other size c m k b (λ e. other (sym number ∙ e)) ∙ rest ∙ sym (frame-other size a m k b other)
    ]

-- ---- a block of the image

-- bytes put into an image
at-own : (p j : ℕ) (c b : List ℕ) → p + length b ≤ length c → j < length b → get_or (with_bytes c p b) (p + j) 0 ≡ get_or b j 0
at-own p j c b h k = grind (arith, common_steps)

at-other : (p k : ℕ) (c b : List ℕ) → p + length b ≤ length c → (k < p) ⊎ (p + length b ≤ k) → get_or (with_bytes c p b) k 0 ≡ get_or c k 0
at-other p k c b h (inl o) = grind (arith, common_steps)
at-other p k c b h (inr o) = grind (arith, common_steps)

-- an image whose block n alone changed
pub block-put : (size n : ℕ) (old new bytes : List ℕ) → 0 < size → HasBlock size old n → length bytes ≡ size → length new ≡ length old
    → ((k : ℕ) → k < length old → k / size ≢ n → slice_index new k ≡ slice_index old k) → ((j : ℕ) → j < size → slice_index new (n * size + j) ≡ slice_index bytes j) → new ≡ with_block size old n bytes
block-put size n old new bytes some there len same others own =
    same_number_lists _ _ (same ∙ sym (length-with_block size n old bytes there len)) (λ k low.
    elim (cases_eq (k / size) n) [
      | inl is ↦
          let j : ℕ = k % size in
          let inner : j < size = omega arith in
          let place : n * size + j ≡ k = ap (λ (m : ℕ). m * size + j) (sym is) ∙ place-of size k some in
          ap (slice_index new) (sym place) ∙ own j inner ∙ sym (at-own (n * size) j old bytes (omega (arith, len)) (omega (arith, len))) ∙ ap (slice_index (with_block size old n bytes)) place
      | inr other ↦
          others k (omega (arith, same)) other
          ∙ sym (at-other (n * size) k old bytes (omega (arith, len)) (elim (elsewhere size k n some other) [ inl l ↦ inl l | inr u ↦ inr (omega (arith, len, u)) ]))
    ])

zero-behind : (c : List ℕ) (m k : ℕ) → length c ≤ k → k < length c + m → get_or (c ++ replicate m 0) k 0 ≡ 0
zero-behind c m k h l = grind (arith, common_steps, get_or-replicate {A = ℕ})

before-grown : (c : List ℕ) (m k : ℕ) → k < length c → get_or (c ++ replicate m 0) k 0 ≡ get_or c k 0
before-grown c m k h = grind (arith, common_steps)

-- an image that was extended by zeros
pub image-grown : (size blocks : ℕ) (old new : List ℕ) → length new ≡ length old + blocks * size → ((k : ℕ) → k < length old → slice_index new k ≡ slice_index old k) → ((k : ℕ) → length old ≤ k → k < length new → slice_index new k ≡ 0)
    → new ≡ grown size old blocks
image-grown size blocks old new len same zeros =
    same_number_lists _ _ (len ∙ sym (length-grown size blocks old)) (λ k low.
    elim (cases_lt k (length old)) [
      | inl u ↦ same k u ∙ sym (before-grown old (blocks * size) k u)
      | inr u ↦ zeros k (omega arith) low ∙ sym (zero-behind old (blocks * size) k (omega arith) (omega (arith, len)))
    ])

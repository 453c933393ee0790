-- What is read of the image, from the frames and from the volume.
use Rattle.std.proofs.Common.{◌≡◌, ◌≢◌, inl, inr, ℕ, ◌+◌, ◌-◌, ◌*◌, ◌<◌, ◌≤◌, ◌/◌, ◌%◌, min, List, length, get_or, slice_index, sym, ap, ◌∙◌, arith, rules}
use Rattle.std.proofs.lemmas.Bool.{cases_eq, cases_lt}
use Rattle.std.proofs.lemmas.Grind.{same_number_lists, div_ceil_times}
use Rattle.std.proofs.lemmas.List.{places}
use Rattle.std.proofs.lemmas.Nat.{row_fits}
use borrow.Rule.Slice.PartMut.{put_mid}
use Rattle.hd_bytes.specs.Ranges.{bytes_at}
use Rattle.hd_bytes.proofs.BlockLemmas.{byte-at, length-bytes_at, place-of}
use Rattle.hd_journal.specs.Disk.{State}
use Rattle.hd_journal.specs.declared.head.Head.{Head}
use Rattle.hd_journal.specs.Log.{frame_at, base_byte, image}
use Rattle.hd_journal.specs.Framed.{IsFramed}
use Rattle.hd_journal.proofs.Bytes.{length-image, base-within}
use Rattle.hd_journal.proofs.FrameLemmas.{frame-in-log, frame-byte, bare-byte, block-behind}

-- a block of which a byte is read is one of those that are counted
pub block-counted : (n size len k : ℕ) → 0 < size → k < n * size + len → k / size < n + (len / size + min 1 (len % size))
block-counted n size len k some low =
    let c : ℕ = len / size + min 1 (len % size) in
    let enough = (div_ceil_times len size some).0 in
    elim (cases_lt (k / size) (n + c)) [
      | inl u ↦ u
      | inr u ↦
          let le : n + c < k / size + 1 = omega (arith, u) in
          let r : (n + c) * size + size ≤ (k / size + 1) * size = row_fits (n + c) size (k / size + 1) size le (omega arith) in
          let e : (n + c) * size ≡ n * size + c * size = omega arith in
          let f : (k / size + 1) * size ≡ (k / size) * size + size = omega arith in
          let p = place-of size k some in
          absurd (omega (arith, r, e, f, p, enough, low))
    ]

module _ (a : State) (h : Head) (places : List ℕ) (o : IsFramed a h places) where
  -- the first bytes of block m, from its frame or from the volume
  pub front-read : (m place : ℕ) (new : List ℕ) (count j : ℕ) → (m < length places → place ≡ slice_index places m) → (length places ≤ m → place ≡ 0) → count ≤ h.size → j < count → m * h.size + j < h.len
      → (place ≢ 0 → new ≡ bytes_at a.log (frame_at h.size (place - 1) + 4) count) → (place ≡ 0 → (i : ℕ) → i < count → slice_index new i ≡ base_byte h.base a.volume (m * h.size + i))
      → slice_index new j ≡ slice_index (image h a.log a.volume) (m * h.size + j)
  front-read m place new count j there behind few low v frame base =
      elim (cases_eq place 0) [
        | inl none ↦ base none j low ∙ sym (bare-byte a h places o m j (λ u. sym (there u) ∙ none) (omega (arith, few, low)) v)
        | inr some ↦
            let u : m < length places = elim (cases_lt m (length places)) [ inl u ↦ u | inr u ↦ absurd (some (behind (omega (arith, u)))) ] in
            let is = there u in
            let has : slice_index places m ≢ 0 = λ z. some (is ∙ z) in
            let fits = frame-in-log a h places o m u has in
            let at : frame_at h.size (place - 1) ≡ frame_at h.size (slice_index places m - 1) = ap (λ (p : ℕ). frame_at h.size (p - 1)) is in
            ap (λ (xs : List ℕ). get_or xs j 0) (frame some) ∙ byte-at a.log (frame_at h.size (place - 1) + 4) count j (omega (arith, fits, at, few)) low
            ∙ ap (λ (p : ℕ). slice_index a.log (p + 4 + j)) at ∙ sym (frame-byte a h places o m j u has (omega (arith, few, low)) v)
      ]

  -- bytes that are all the volume's
  pub plain-read : (n len : ℕ) (new : List ℕ) → n * h.size + len ≤ h.base → ((m : ℕ) → n ≤ m → m < n + (len / h.size + min 1 (len % h.size)) → m < length places → slice_index places m ≡ 0)
      → new ≡ bytes_at a.volume (n * h.size) len → new ≡ bytes_at (image h a.log a.volume) (n * h.size) len
  plain-read n len new below none is =
      let base = o.fits.base in
      let grows = o.fits.grows in
      let wide = o.fits.some in
      let some : 0 < h.size = omega (arith, wide) in
      let il = length-image h a.log a.volume in
      let in_image : n * h.size + len ≤ length (image h a.log a.volume) = omega (arith, il, below, grows) in
      let in_volume : n * h.size + len ≤ length a.volume = omega (arith, below, base) in
      let l = length-bytes_at a.volume (n * h.size) len in_volume in
      is ∙ same_number_lists _ _ (l ∙ sym (length-bytes_at (image h a.log a.volume) (n * h.size) len in_image)) (λ j u.
      let low : j < len = omega (arith, u, l) in
      let k : ℕ = n * h.size + j in
      let m : ℕ = k / h.size in
      let inner : k % h.size < h.size = omega arith in
      let place : m * h.size + k % h.size ≡ k = place-of h.size k some in
      let first : n ≤ m = block-behind h.size n k some (omega arith) in
      let last = block-counted n h.size len k some (omega (arith, low)) in
      let v : m * h.size + k % h.size < h.len = omega (arith, place, below, grows, low) in
      byte-at a.volume (n * h.size) len j in_volume low
      ∙ sym (base-within h.base a.volume k (omega (arith, below, low)))
      ∙ ap (base_byte h.base a.volume) (sym place)
      ∙ sym (bare-byte a h places o m (k % h.size) (none m first last) inner v)
      ∙ ap (slice_index (image h a.log a.volume)) place
      ∙ sym (byte-at (image h a.log a.volume) (n * h.size) len j in_image low))

-- bytes that have each the image's are those of the image
pub all-read : (whole new : List ℕ) (p len : ℕ) → p + len ≤ length whole → length new ≡ len → ((j : ℕ) → j < len → slice_index new j ≡ slice_index whole (p + j)) → new ≡ bytes_at whole p len
all-read whole new p len fits long each =
    same_number_lists _ _ (long ∙ sym (length-bytes_at whole p len fits)) (λ j low. each j (omega (arith, long, low)) ∙ sym (byte-at whole p len j fits (omega (arith, long, low))))

-- a byte of a part that was read into its place
pub part-byte : (first count k : ℕ) (old new : List ℕ) → first + count ≤ length old → length new ≡ count → first ≤ k → k < first + count → get_or (put_mid first (first + count - first) old new) k 0 ≡ get_or new (k - first) 0
part-byte first count k old new fits long from low = search (rules, places)

-- a byte that was read behind a frame's number
pub behind-number : (old new : List ℕ) (j : ℕ) → length new ≡ length old - 4 → 4 + j < length old → get_or (put_mid 4 (length old - 4) old new) (4 + j) 0 ≡ get_or new j 0
behind-number old new j long low = search (rules, places)

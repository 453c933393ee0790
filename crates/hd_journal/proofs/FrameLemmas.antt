-- What a write, a growth, a roll back and a commit leave of the frames.
use Rattle.std.proofs.Common.{◌≡◌, ◌≢◌, inl, inr, ℕ, ◌+◌, ◌-◌, ◌*◌, ◌<◌, ◌≤◌, ◌/◌, ◌%◌, List, ◌++◌, length, get_or, slice_index, slice_set, replicate, take, refl, sym, ap, ◌∙◌, subst, arith, add-one}
use Rattle.std.proofs.lemmas.Bool.{cases_eq, cases_lt}
use Rattle.std.proofs.lemmas.Grind.{same_number_lists, common_steps}
use Rattle.std.proofs.lemmas.List.{take_all, get_or-replicate, length-replicate, get_or-set_same, get_or-set_other}
use Rattle.std.proofs.lemmas.Nat.{div-mul-add, mod-mul-add, row_fits}
use Rattle.hd_bytes.specs.Ranges.{bytes_at}
use Rattle.hd_bytes.specs.Numbers.{number_at}
use Rattle.hd_bytes.specs.Blocks.{with_block, grown}
use Rattle.hd_bytes.proofs.NumberLemmas.{number-same}
use Rattle.hd_bytes.proofs.BlockLemmas.{byte-at, place-of}
use Rattle.hd_journal.specs.Disk.{State, WritesLog}
use Rattle.hd_journal.specs.declared.head.Head.{Head}
use Rattle.hd_journal.specs.Log.{frame_at, block_no, no_block, gate_at, byte_from, base_byte, image, SameSlots, IsGate}
use Rattle.hd_journal.specs.States.{SameBehind}
use Rattle.hd_journal.specs.Framed.{fresh, AreFrames, IsFramed}
use Rattle.hd_journal.proofs.Bytes.{frame-next, frame-before, frame-own, frame-other, same-frames, base-within, base-behind, length-image, byte-of-image, twice}
use Rattle.hd_journal.proofs.Puts.{from-none, from-last, from-same, block-put, image-grown}
use Rattle.hd_journal.proofs.Heads.{moved}
use Rattle.hd_journal.proofs.Slots.{slots-bytes, block-few, places-few, place-low, frames-slots, image-slots}
use Rattle.hd_journal.proofs.Steps.{inside}

-- ---- the last frame of a block

pub place-latest : (size len count : ℕ) (log places : List ℕ) (n i : ℕ) → AreFrames size count log places → n < length places → length places * size ≤ len → 16 ≤ size → len ≤ no_block * size → i < count → block_no size log i ≡ n → i ≤ slice_index places n - 1
place-latest size len count log places n i f low blocks wide few u is = elim (f.placed i u) [
  | inl gate ↦ (let m = places-few size (length places) len wide blocks few in absurd (omega (arith, low, m, is, gate)))
  | inr has ↦ (let q : i < slice_index places (block_no size log i) = has.1 in let e : slice_index places (block_no size log i) ≡ slice_index places n = ap (slice_index places) is in omega (arith, q, e))
]

-- ---- one frame more

module _ (a b : State) (h : Head) (places bytes buf : List ℕ) (n : ℕ) (o : IsFramed a h places) (low : n < length places) (w : WritesLog (frame_at h.size h.count) (h.size + 4) a b)
    (wrote : bytes_at b.log (frame_at h.size h.count) (h.size + 4) ≡ buf) (long : length buf ≡ h.size + 4) (number : number_at 4 buf 0 ≡ n) (len : length bytes ≡ h.size) (block : (j : ℕ) → j < h.size → slice_index buf (4 + j) ≡ slice_index bytes j) where
  abbrev pub more : Head
  more = record h { count = h.count + 1 }

  abbrev at : ℕ
  at = frame_at h.size h.count

  there : at + (h.size + 4) ≤ length b.log
  there = inside b.log buf at (h.size + 4) wrote long (omega arith)

  kept : (i : ℕ) → 51 ≤ i → i < at → slice_index b.log i ≡ slice_index a.log i
  kept i l u = (let f = o.fits.frames in w.log.below i (omega arith) u)

  old-number : (i : ℕ) → i < h.count → block_no h.size b.log i ≡ block_no h.size a.log i
  old-number i u = (let e = frame-before h.size i h.count u in number-same 4 (frame_at h.size i) b.log a.log (λ k l m. kept k (omega arith) (omega arith)))

  new-number : block_no h.size b.log h.count ≡ n
  new-number = (let e : at + 0 ≡ at = omega arith in ap (number_at 4 b.log) (sym e) ∙ sym (moved b.log buf at (h.size + 4) 0 4 wrote there (omega arith)) ∙ number)

  length-set : (xs : List ℕ) (i x : ℕ) → length (slice_set xs i x) ≡ length xs
  length-set xs i x = grind (arith, common_steps)

  pub more-framed : IsFramed b more (slice_set places n (h.count + 1))
  more-framed = record {
    fits = (let f = o.fits in record { some = f.some; small = f.small; frames = (let e = frame-next h.size h.count in omega (arith, there)); base = (let q : length b.volume ≡ length a.volume = ap length w.volume in let k = f.base in omega arith); grows = f.grows; few = f.few });
    whole = o.whole ∙ ap length (sym w.volume);
    frames = record {
      placed = λ i u. elim (cases_eq i h.count) [
        | inl last ↦
            let no : block_no h.size b.log i ≡ n = ap (block_no h.size b.log) last ∙ new-number in
            let is : slice_index (slice_set places n (h.count + 1)) (block_no h.size b.log i) ≡ h.count + 1 = ap (slice_index (slice_set places n (h.count + 1))) no ∙ get_or-set_same places n (h.count + 1) 0 low in
            inr ((let e = length-set places n (h.count + 1) in omega (arith, e, no, low)), omega (arith, u, is))
        | inr earlier ↦
            let v : i < h.count = omega (arith, earlier, u) in
            let no = old-number i v in
            elim (o.frames.placed i v) [
              | inl gate ↦ inl (no ∙ gate)
              | inr has ↦
                  let p = has.0 in
                  let q = has.1 in
                  let behind : i < slice_index (slice_set places n (h.count + 1)) (block_no h.size b.log i) = elim (cases_eq (block_no h.size a.log i) n) [
                    | inl same ↦ (let is : slice_index (slice_set places n (h.count + 1)) (block_no h.size b.log i) ≡ h.count + 1 = ap (slice_index (slice_set places n (h.count + 1))) (no ∙ same) ∙ get_or-set_same places n (h.count + 1) 0 low in omega (arith, v, is))
                    | inr other ↦ (let is : slice_index (slice_set places n (h.count + 1)) (block_no h.size b.log i) ≡ slice_index places (block_no h.size a.log i) = ap (slice_index (slice_set places n (h.count + 1))) no ∙ get_or-set_other places n (block_no h.size a.log i) (h.count + 1) 0 other in omega (arith, q, is))
                  ] in
                  inr ((let e = length-set places n (h.count + 1) in omega (arith, e, no, p)), behind)
            ]
      ];
      there = λ m u some. elim (cases_eq m n) [
        | inl is ↦
            let e : slice_index (slice_set places n (h.count + 1)) m ≡ h.count + 1 = ap (slice_index (slice_set places n (h.count + 1))) is ∙ get_or-set_same places n (h.count + 1) 0 low in
            let back : slice_index (slice_set places n (h.count + 1)) m - 1 ≡ h.count = omega (arith, e) in (
              omega (arith, e),
              ap (block_no h.size b.log) back ∙ new-number ∙ sym is,
            )
        | inr other ↦
            let e : slice_index (slice_set places n (h.count + 1)) m ≡ slice_index places m = get_or-set_other places n m (h.count + 1) 0 other in
            let in_old : m < length places = (let l = length-set places n (h.count + 1) in omega arith) in
            let p = o.frames.there m in_old (λ zero. some (e ∙ zero)) in
            let few : slice_index places m ≤ h.count = p.0 in
            let back : slice_index (slice_set places n (h.count + 1)) m - 1 ≡ slice_index places m - 1 = ap (λ (k : ℕ). k - 1) e in
            let nonzero : 0 < slice_index places m = elim (cases_eq (slice_index places m) 0) [ inl z ↦ absurd (some (e ∙ z)) | inr z ↦ omega (arith, z) ] in (
              omega (arith, e, few),
              ap (block_no h.size b.log) back ∙ old-number (slice_index places m - 1) (omega (arith, few, nonzero)) ∙ p.1,
            )
      ];
    };
    blocks = (let e = length-set places n (h.count + 1) in let k = o.blocks in subst (λ (m : ℕ). m * h.size ≤ h.len) (sym e) k);
  }

  some : 0 < h.size
  some = (let s = o.fits.some in omega (arith, s))

  pub more-image : image more b.log b.volume ≡ with_block h.size (image h a.log a.volume) n bytes
  more-image =
      let il = length-image h a.log a.volume in
      let r : n * h.size + h.size ≤ length places * h.size = row_fits n h.size (length places) h.size low (omega arith) in
      let k = o.blocks in
      block-put h.size n (image h a.log a.volume) (image more b.log b.volume) bytes some (omega (arith, il, r, k)) len (length-image more b.log b.volume ∙ sym il)
      (λ k u other.
      let v : k < h.len = omega (arith, il, u) in
      byte-of-image more b.log b.volume k v
      ∙ ap (λ (m : ℕ). byte_from h.size b.log m k (base_byte h.base b.volume k)) (add-one h.count)
      ∙ frame-other h.size b.log h.count k (base_byte h.base b.volume k) (λ e. other (sym e ∙ new-number))
      ∙ same-frames h.size b.log a.log h.count k (base_byte h.base b.volume k) some kept
      ∙ ap (λ (v : List ℕ). byte_from h.size a.log h.count k (base_byte h.base v k)) w.volume
      ∙ sym (byte-of-image h a.log a.volume k v))
      (λ j inner.
      let k : ℕ = n * h.size + j in
      let v : k < h.len = omega (arith, r, o.blocks, inner) in
      let q : k / h.size ≡ n = div-mul-add n h.size j inner in
      let m : k % h.size ≡ j = mod-mul-add n h.size j inner in
      byte-of-image more b.log b.volume k v
      ∙ ap (λ (m : ℕ). byte_from h.size b.log m k (base_byte h.base b.volume k)) (add-one h.count)
      ∙ frame-own h.size b.log h.count k (base_byte h.base b.volume k) (new-number ∙ sym q)
      ∙ ap (λ (i : ℕ). slice_index b.log (at + 4 + i)) m
      ∙ ap (slice_index b.log) (let e : at + 4 + j ≡ at + (4 + j) = omega arith in e)
      ∙ sym (byte-at b.log at (h.size + 4) (4 + j) there (omega arith))
      ∙ ap (λ (xs : List ℕ). get_or xs (4 + j) 0) wrote ∙ block j inner)

-- ---- a shut gate

pub gate-written : (h : Head) (log zeros buf : List ℕ) → 16 ≤ h.size → zeros ≡ replicate h.size 0 → bytes_at log (frame_at h.size h.count) (h.size + 4) ≡ buf → length buf ≡ h.size + 4 → number_at 4 buf 0 ≡ no_block
    → ((j : ℕ) → j < length zeros → slice_index buf (4 + j) ≡ slice_index zeros j) → IsGate h log
gate-written h log zeros buf wide are wrote long number block =
    let at : ℕ = frame_at h.size h.count in
    let there = inside log buf at (h.size + 4) wrote long (omega arith) in
    let next : frame_at h.size (h.count + 1) ≡ at + (h.size + 4) = omega arith in
    let len : length zeros ≡ h.size = ap length are ∙ length-replicate h.size 0 in
    let zero : slice_index buf (4 + 0) ≡ 0 = block 0 (omega (arith, len, wide)) ∙ ap (λ (xs : List ℕ). get_or xs 0 0) are ∙ get_or-replicate h.size 0 0 0 (omega (arith, wide)) in
    let byte : slice_index log (at + (4 + 0)) ≡ 0 = sym (byte-at log at (h.size + 4) (4 + 0) there (omega arith)) ∙ ap (λ (xs : List ℕ). get_or xs (4 + 0) 0) wrote ∙ zero in
    record {
      there = omega (arith, there, next);
      sign = ap (number_at 4 log) (let e : at ≡ at + 0 = omega arith in e) ∙ sym (moved log buf at (h.size + 4) 0 4 wrote there (omega arith)) ∙ number;
      shut = λ one. (let e : gate_at h ≡ at + (4 + 0) = omega arith in let both : 1 ≡ 0 = sym one ∙ ap (slice_index log) e ∙ byte in omega (arith, both));
    }

-- ---- a frame overwritten

module _ (a b : State) (h : Head) (places bytes : List ℕ) (n : ℕ) (o : IsFramed a h places) (low : n < length places) (has : slice_index places n ≢ 0)
    (w : WritesLog (frame_at h.size (slice_index places n - 1) + 4) h.size a b) (wrote : bytes_at b.log (frame_at h.size (slice_index places n - 1) + 4) h.size ≡ bytes) (len : length bytes ≡ h.size) where
  abbrev frame : ℕ
  frame = slice_index places n - 1

  frame-low : frame < h.count
  frame-low = place-low h.size h.count a.log places n o.frames low has

  frame-is : block_no h.size a.log frame ≡ n
  frame-is = (o.frames.there n low has).1

  in-log : (i : ℕ) → i < h.count → frame_at h.size i + (h.size + 4) ≤ length a.log
  in-log i u = (let e = frame-before h.size i h.count u in let f = o.fits.frames in omega arith)

  -- bytes of another frame stay, and so does the number of this one
  apart : (i k : ℕ) → i < h.count → i ≢ frame → k < h.size + 4 → slice_index b.log (frame_at h.size i + k) ≡ slice_index a.log (frame_at h.size i + k)
  apart i k u other v =
      let there = in-log i u in
      elim (cases_lt i frame) [
        | inl below ↦ (let e = frame-before h.size i frame below in w.log.below (frame_at h.size i + k) (omega arith) (omega arith))
        | inr above ↦ (let c : frame < i = omega (arith, above, other) in let e = frame-before h.size frame i c in w.log.above (frame_at h.size i + k) (omega arith) (omega arith))
      ]

  same-number : (i : ℕ) → i < h.count → block_no h.size b.log i ≡ block_no h.size a.log i
  same-number i u =
      number-same 4 (frame_at h.size i) b.log a.log (λ k l m.
      let there = in-log i u in
      elim (cases_eq i frame) [
        | inl is ↦ (let e : frame_at h.size i ≡ frame_at h.size frame = ap (frame_at h.size) is in w.log.below k (omega arith) (omega (arith, e)))
        | inr other ↦
            let j : ℕ = k - frame_at h.size i in
            let e : frame_at h.size i + j ≡ k = omega arith in
            ap (slice_index b.log) (sym e) ∙ apart i j u other (omega arith) ∙ ap (slice_index a.log) e
      ])

  -- no later frame has the block
  latest : (i : ℕ) → i < h.count → block_no h.size a.log i ≡ n → i ≤ frame
  latest i u is = place-latest h.size h.len h.count a.log places n i o.frames low o.blocks o.fits.some o.fits.few u is

  wide : 0 < h.size
  wide = (let s = o.fits.some in omega (arith, s))

  same-numbers : AreFrames h.size h.count b.log places
  same-numbers = record {
    placed = λ i u. elim (o.frames.placed i u) [
      | inl gate ↦ inl (same-number i u ∙ gate)
      | inr has ↦ inr (subst (λ (m : ℕ). (m < length places) × (i < slice_index places m)) (sym (same-number i u)) has)
    ];
    there = λ m u some. (let p = o.frames.there m u some in (p.0, same-number (slice_index places m - 1) (place-low h.size h.count a.log places m o.frames u some) ∙ p.1));
  }

  pub put-framed : IsFramed b h places
  put-framed = record {
    fits = (let f = o.fits in record { some = f.some; small = f.small; frames = (let l = w.log.no_shorter in let k = f.frames in omega arith); base = (let q : length b.volume ≡ length a.volume = ap length w.volume in let k = f.base in omega arith); grows = f.grows; few = f.few });
    whole = o.whole ∙ ap length (sym w.volume);
    frames = same-numbers;
    blocks = o.blocks;
  }

  pub put-image : image h b.log b.volume ≡ with_block h.size (image h a.log a.volume) n bytes
  put-image =
      let il = length-image h a.log a.volume in
      let r : n * h.size + h.size ≤ length places * h.size = row_fits n h.size (length places) h.size low (omega arith) in
      let k = o.blocks in
      block-put h.size n (image h a.log a.volume) (image h b.log b.volume) bytes wide (omega (arith, il, r, k)) len (length-image h b.log b.volume ∙ sym il)
      (λ k u other.
      let v : k < h.len = omega (arith, il, u) in
      let inner : k % h.size < h.size = omega arith in
      byte-of-image h b.log b.volume k v
      ∙ from-same h.size a.log b.log h.count k (base_byte h.base b.volume k) same-number
      (λ i x own.
      let e : frame_at h.size i + 4 + k % h.size ≡ frame_at h.size i + (4 + k % h.size) = omega arith in
      ap (slice_index b.log) e ∙ apart i (4 + k % h.size) x (λ is. other (sym own ∙ ap (block_no h.size a.log) is ∙ frame-is)) (omega arith) ∙ ap (slice_index a.log) (sym e))
      ∙ ap (λ (v : List ℕ). byte_from h.size a.log h.count k (base_byte h.base v k)) w.volume
      ∙ sym (byte-of-image h a.log a.volume k v))
      (λ j inner.
      let k : ℕ = n * h.size + j in
      let v : k < h.len = omega (arith, r, o.blocks, inner) in
      let q : k / h.size ≡ n = div-mul-add n h.size j inner in
      let m : k % h.size ≡ j = mod-mul-add n h.size j inner in
      let there : frame_at h.size frame + 4 + h.size ≤ length b.log = (let e = in-log frame frame-low in let l = w.log.no_shorter in omega arith) in
      byte-of-image h b.log b.volume k v
      ∙ from-last h.size b.log h.count frame k (base_byte h.base b.volume k) frame-low (same-number frame frame-low ∙ frame-is ∙ sym q) (λ i u own. latest i u (sym (same-number i u) ∙ own ∙ q))
      ∙ ap (λ (i : ℕ). slice_index b.log (frame_at h.size frame + 4 + i)) m
      ∙ sym (byte-at b.log (frame_at h.size frame + 4) h.size j there inner)
      ∙ ap (λ (xs : List ℕ). get_or xs j 0) wrote)

-- ---- what is read

module _ (a : State) (h : Head) (places : List ℕ) (o : IsFramed a h places) where
  -- the frame of a block stands in the log
  pub frame-in-log : (n : ℕ) → n < length places → slice_index places n ≢ 0 → frame_at h.size (slice_index places n - 1) + 4 + h.size ≤ length a.log
  frame-in-log n low has =
      let p = (o.frames.there n low has).0 in
      let q : 0 < slice_index places n = elim (cases_eq (slice_index places n) 0) [ inl z ↦ absurd (has z) | inr z ↦ omega (arith, z) ] in
      let few : slice_index places n - 1 < h.count = omega (arith, p, q) in
      let e = frame-before h.size (slice_index places n - 1) h.count few in
      let f = o.fits.frames in
      omega arith

  -- a byte of a block that has a frame
  pub frame-byte : (n j : ℕ) → n < length places → slice_index places n ≢ 0 → j < h.size → n * h.size + j < h.len
      → slice_index (image h a.log a.volume) (n * h.size + j) ≡ slice_index a.log (frame_at h.size (slice_index places n - 1) + 4 + j)
  frame-byte n j low has inner v =
      let i : ℕ = slice_index places n - 1 in
      let p = o.frames.there n low has in
      let q : 0 < slice_index places n = elim (cases_eq (slice_index places n) 0) [ inl z ↦ absurd (has z) | inr z ↦ omega (arith, z) ] in
      let few : i < h.count = (let r = p.0 in omega (arith, q, r)) in
      let k : ℕ = n * h.size + j in
      let d : k / h.size ≡ n = div-mul-add n h.size j inner in
      let m : k % h.size ≡ j = mod-mul-add n h.size j inner in
      byte-of-image h a.log a.volume k v
      ∙ from-last h.size a.log h.count i k (base_byte h.base a.volume k) few (p.1 ∙ sym d)
      (λ x u own. place-latest h.size h.len h.count a.log places n x o.frames low o.blocks o.fits.some o.fits.few u (own ∙ d))
      ∙ ap (λ (x : ℕ). slice_index a.log (frame_at h.size i + 4 + x)) m

  -- a byte of a block that has none
  pub bare-byte : (n j : ℕ) → (n < length places → slice_index places n ≡ 0) → j < h.size → n * h.size + j < h.len
      → slice_index (image h a.log a.volume) (n * h.size + j) ≡ base_byte h.base a.volume (n * h.size + j)
  bare-byte n j none inner v =
      let k : ℕ = n * h.size + j in
      let d : k / h.size ≡ n = div-mul-add n h.size j inner in
      byte-of-image h a.log a.volume k v
      ∙ from-none h.size a.log h.count k (base_byte h.base a.volume k) (λ i u own.
      let wide = o.fits.some in
      elim (o.frames.placed i u) [
        | inl gate ↦ absurd (block-few h.size h.len k (omega (arith, wide)) v o.fits.few (sym own ∙ gate))
        | inr has ↦
            let is : block_no h.size a.log i ≡ n = own ∙ d in
            let p = has.0 in
            let q = has.1 in
            let low : n < length places = omega (arith, p, is) in
            let y = none low in
            let z : slice_index places (block_no h.size a.log i) ≡ slice_index places n = ap (slice_index places) is in
            absurd (omega (arith, q, z, y))
      ])

-- ---- a growth

pub block-behind : (size p k : ℕ) → 0 < size → p * size ≤ k → p ≤ k / size
block-behind size p k some le =
    elim (cases_lt (k / size) p) [
      | inl low ↦ absurd (let r : (k / size) * size + size ≤ p * size = row_fits (k / size) size p size low (omega arith) in let e = place-of size k some in let m : k % size < size = omega arith in omega arith)
      | inr high ↦ omega (arith, high)
    ]

get-before : (xs : List ℕ) (m i : ℕ) → i < length xs → get_or (xs ++ replicate m 0) i 0 ≡ get_or xs i 0
get-before xs m i h = grind (arith, common_steps)

get-behind : (xs : List ℕ) (m k : ℕ) → length xs ≤ k → k < length xs + m → get_or (xs ++ replicate m 0) k 0 ≡ 0
get-behind xs m k h l = grind (arith, common_steps, get_or-replicate {A = ℕ})

length-more : (xs : List ℕ) (m : ℕ) → length (xs ++ replicate m 0) ≡ length xs + m
length-more xs m = grind (arith, common_steps)

abbrev pub longer : Head → ℕ → Head
longer h blocks = record h { len = h.len + blocks * h.size }

pub grown-framed : (a : State) (h : Head) (places : List ℕ) (blocks : ℕ) → h.len + blocks * h.size ≤ no_block * h.size → IsFramed a h places → IsFramed a (longer h blocks) (places ++ replicate blocks 0)
grown-framed a h places blocks few o = record {
  fits = (let f = o.fits in record { some = f.some; small = f.small; frames = f.frames; base = f.base; grows = (let g = f.grows in omega arith); few = few });
  whole = o.whole;
  frames = record {
    placed = λ i u. elim (o.frames.placed i u) [
      | inl gate ↦ inl gate
      | inr has ↦
          let q = has.0 in
          let p = has.1 in
          let l = length-more places blocks in
          let e = get-before places blocks (block_no h.size a.log i) has.0 in
          inr (omega (arith, q, l), omega (arith, p, e))
    ];
    there = λ m u some. elim (cases_lt m (length places)) [
      | inl old ↦ (let e = get-before places blocks m old in let p = o.frames.there m old (λ z. some (e ∙ z)) in ((let q = p.0 in omega (arith, e, q)), ap (λ (x : ℕ). block_no h.size a.log (x - 1)) e ∙ p.1))
      | inr new ↦ absurd (some (get-behind places blocks m (omega (arith, new)) (let l = length-more places blocks in omega (arith, u, l))))
    ];
  };
  blocks = (let l = length-more places blocks in let k = o.blocks in let e : (length places + blocks) * h.size ≡ length places * h.size + blocks * h.size = omega arith in subst (λ (m : ℕ). m * h.size ≤ h.len + blocks * h.size) (sym l) (omega (arith, e, k)));
}

-- all places of a growth lie behind the image
pub grown-image : (a : State) (h : Head) (places : List ℕ) (blocks : ℕ) → h.len + blocks * h.size ≤ no_block * h.size → IsFramed a h places → image (longer h blocks) a.log a.volume ≡ grown h.size (image h a.log a.volume) blocks
grown-image a h places blocks few o =
    let il = length-image h a.log a.volume in
    let nl = length-image (longer h blocks) a.log a.volume in
    let wide = o.fits.some in
    image-grown h.size blocks (image h a.log a.volume) (image (longer h blocks) a.log a.volume) (omega (arith, il, nl))
    (λ k u. byte-of-image (longer h blocks) a.log a.volume k (omega (arith, il, u)) ∙ sym (byte-of-image h a.log a.volume k (omega (arith, il, u))))
    (λ k u v.
    let g = o.fits.grows in
    byte-of-image (longer h blocks) a.log a.volume k (omega (arith, nl, v))
    ∙ from-none h.size a.log h.count k (base_byte h.base a.volume k)
    (λ i x own. elim (o.frames.placed i x) [
      | inl gate ↦ absurd (block-few h.size (h.len + blocks * h.size) k (omega (arith, wide)) (omega (arith, nl, v)) few (sym own ∙ gate))
      | inr has ↦
          let p = has.0 in
          let q = block-behind h.size (length places) k (omega (arith, wide)) (let b = o.blocks in omega (arith, il, u, b)) in
          absurd (omega (arith, own, p, q))
    ])
    ∙ base-behind h.base a.volume k (omega (arith, il, u, g)))

-- what `resize` gives
pub resized : (xs ys : List ℕ) (p q n : ℕ) → ys ≡ take p xs ++ replicate q 0 → length xs ≤ p → q ≡ n → xs ++ replicate n 0 ≡ ys
resized xs ys p q n is le e = ap (λ (l : List ℕ). l ++ replicate n 0) (sym (take_all p xs le)) ∙ ap (λ (m : ℕ). take p xs ++ replicate m 0) (sym e) ∙ sym is

-- ---- a head of no slots

length-zeros : (p : ℕ) → length {A = ℕ} (replicate p 0) ≡ p
length-zeros p = length-replicate p 0

pub fresh-framed : (a : State) (h : Head) (p : ℕ) → 16 ≤ h.size → h.size ≤ 32768 → 51 ≤ length a.log → p * h.size ≤ length a.volume → length a.volume ≤ no_block * h.size → IsFramed a (fresh h (length a.volume)) (replicate p 0)
fresh-framed a h p some small long blocks few = record {
  fits = record { some = some; small = small; frames = (let e : 51 + 0 * (h.size + 4) ≤ length a.log = omega arith in e); base = omega arith; grows = omega arith; few = few };
  whole = refl;
  frames = record {
    placed = λ i u. absurd (omega arith);
    there = λ m u nonzero. absurd (nonzero (get_or-replicate p m 0 0 (let l = length-zeros p in omega (arith, u, l))));
  };
  blocks = (let l = length-zeros p in subst (λ (m : ℕ). m * h.size ≤ length a.volume) (sym l) blocks);
}

-- ---- the frames of the last commit are copied to the volume

module _ (a b : State) (last : Head) (kept places : List ℕ) (count len : ℕ) (o : IsFramed a last kept) (later : last.count ≤ count) (longer : last.len ≤ len) (p : IsFramed a (record last { count = count; len = len }) places)
    (up : length a.log ≤ length b.log) (same : SameBehind a.log b.log) (done : b.volume ≡ image last a.log a.volume) where
  abbrev head : Head
  head = record last { count = count; len = len }

  abbrev based : Head
  based = record last { count = count; base = last.len; len = len }

  slots : SameSlots last.size count a.log b.log
  slots = slots-bytes last.size count a.log b.log (λ i l u. same i (omega (arith, l)))

  volume-len : length b.volume ≡ last.len
  volume-len = ap length done ∙ length-image last a.log a.volume

  pub copied-framed : IsFramed b based places
  copied-framed = record {
    fits = (let f = p.fits in let q = volume-len in let k = f.frames in record { some = f.some; small = f.small; frames = omega (arith, k, up); base = omega (arith, q); grows = longer; few = f.few });
    whole = sym volume-len;
    frames = frames-slots last.size count a.log b.log places slots p.frames;
    blocks = p.blocks;
  }

  pub copied-image : image based b.log b.volume ≡ image head a.log a.volume
  copied-image =
      let il = length-image based b.log b.volume in
      ap (λ (v : List ℕ). image based b.log v) done ∙ image-slots based a.log b.log (image last a.log a.volume) p.fits.some p.fits.few slots
      ∙ same_number_lists _ _ (length-image based a.log (image last a.log a.volume) ∙ sym (length-image head a.log a.volume)) (λ k u.
      let nl = length-image based a.log (image last a.log a.volume) in
      let v : k < len = omega (arith, nl, u) in
      byte-of-image based a.log (image last a.log a.volume) k v
      ∙ elim (cases_lt k last.len) [
        | inl in_base ↦
            ap (byte_from last.size a.log count k) (base-within last.len (image last a.log a.volume) k in_base ∙ byte-of-image last a.log a.volume k in_base)
            ∙ twice last.size a.log count last.count k (base_byte last.base a.volume k) later
        | inr behind ↦
            let g = o.fits.grows in
            let le : last.len ≤ k = omega (arith, behind) in
            ap (byte_from last.size a.log count k) (base-behind last.len (image last a.log a.volume) k le ∙ sym (base-behind last.base a.volume k (omega (arith, g, le))))
      ]
      ∙ sym (byte-of-image head a.log a.volume k v))

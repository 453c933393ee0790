-- Logs whose first slots have the same frames.
use Rattle.std.proofs.Common.{◌≡◌, ◌≢◌, inl, inr, ℕ, ◌+◌, ◌-◌, ◌*◌, ◌<◌, ◌≤◌, ◌/◌, ◌%◌, List, length, slice_index, sym, ap, ◌∙◌, subst, arith, add-one}
use Rattle.std.proofs.lemmas.Bool.{cases_eq, cases_lt}
use Rattle.std.proofs.lemmas.Grind.{same_number_lists}
use Rattle.std.proofs.lemmas.Nat.{row_fits}
use Rattle.hd_bytes.proofs.NumberLemmas.{number-same}
use Rattle.hd_bytes.proofs.BlockLemmas.{place-of}
use Rattle.hd_journal.specs.Disk.{State, Torn}
use Rattle.hd_journal.specs.declared.head.Head.{Head}
use Rattle.hd_journal.specs.Log.{frame_at, block_no, no_block, base_byte, byte_from, image, SameSlots}
use Rattle.hd_journal.specs.Framed.{IsFramed, AreFrames, fresh}
use Rattle.hd_journal.proofs.Bytes.{frame-before, frame-other, base-within, length-image, byte-of-image, same-image}
use Rattle.hd_journal.proofs.Puts.{from-same}

-- ---- which logs have them

pub slots-more : (size n : ℕ) (a b c : List ℕ) → SameSlots size n a b → SameSlots size n b c → SameSlots size n a c
slots-more size n a b c x y = record {
  numbers = λ i u. y.numbers i u ∙ x.numbers i u;
  blocks = λ i u own j low. y.blocks i u (λ is. own (sym (x.numbers i u) ∙ is)) j low ∙ x.blocks i u own j low;
}

pub slots-fewer : (size m n : ℕ) (a b : List ℕ) → m ≤ n → SameSlots size n a b → SameSlots size m a b
slots-fewer size m n a b le x = record { numbers = λ i u. x.numbers i (omega (arith, u, le)); blocks = λ i u own j low. x.blocks i (omega (arith, u, le)) own j low }

-- all bytes of the slots are the same
pub slots-bytes : (size n : ℕ) (a b : List ℕ) → ((i : ℕ) → 51 ≤ i → i < frame_at size n → slice_index b i ≡ slice_index a i) → SameSlots size n a b
slots-bytes size n a b same = record {
  numbers = λ i u. (let e = frame-before size i n u in number-same 4 (frame_at size i) b a (λ k l m. same k (omega (arith, l)) (omega (arith, e, m))));
  blocks = λ i u own j low. (let e = frame-before size i n u in same (frame_at size i + 4 + j) (omega arith) (omega (arith, e, low)));
}

pub slots-equal : (size n : ℕ) (a b : List ℕ) → b ≡ a → SameSlots size n a b
slots-equal size n a b is = slots-bytes size n a b (λ i l u. ap (λ (x : List ℕ). slice_index x i) is)

-- a write behind the slots
pub slots-beyond : (size n at count : ℕ) (a b : List ℕ) → frame_at size n ≤ length a → frame_at size n ≤ at → Torn at count a b → SameSlots size n a b
slots-beyond size n at count a b there behind torn = slots-bytes size n a b (λ i l u. torn.below i (omega (arith, u, there)) (omega (arith, u, behind)))

-- one before them
pub slots-above : (size n at count : ℕ) (a b : List ℕ) → frame_at size n ≤ length a → at + count ≤ 51 → Torn at count a b → SameSlots size n a b
slots-above size n at count a b there before torn = slots-bytes size n a b (λ i l u. torn.above i (omega (arith, u, there)) (omega (arith, l, before)))

-- one of what a gate's slot has behind its number
pub slots-gate : (size n g at count : ℕ) (a b : List ℕ) → frame_at size n ≤ length a → block_no size a g ≡ no_block → frame_at size g + 4 ≤ at → at + count ≤ frame_at size g + (size + 4) → Torn at count a b → SameSlots size n a b
slots-gate size n g at count a b there gate from to torn = record {
  numbers = λ i u. (let e = frame-before size i n u in number-same 4 (frame_at size i) b a (λ k l m. kept i k u l (omega (arith, m)) (λ same. m)));
  blocks = λ i u own j low. (let e = frame-before size i n u in kept i (frame_at size i + 4 + j) u (omega arith) (omega (arith, low)) (λ same. absurd (own (ap (block_no size a) same ∙ gate))));
}
  where
    kept : (i k : ℕ) → i < n → frame_at size i ≤ k → k < frame_at size i + (size + 4) → (i ≡ g → k < frame_at size i + 4) → slice_index b k ≡ slice_index a k
    kept i k u l m own =
        let e = frame-before size i n u in
        elim (cases_eq i g) [
          | inl same ↦ (let x = own same in let y : frame_at size i ≡ frame_at size g = ap (frame_at size) same in torn.below k (omega (arith, e, there, m)) (omega (arith, x, y, from)))
          | inr other ↦ elim (cases_lt i g) [
            | inl below ↦ (let f = frame-before size i g below in torn.below k (omega (arith, e, there, m)) (omega (arith, f, m, from)))
            | inr above ↦ (let f = frame-before size g i (omega (arith, above, other)) in torn.above k (omega (arith, e, there, m)) (omega (arith, f, l, to)))
          ]
        ]

-- ---- what they make

-- a byte of an image is of a block that has a number
pub block-few : (size len k : ℕ) → 0 < size → k < len → len ≤ no_block * size → k / size ≢ no_block
block-few size len k some low few is =
    let e = place-of size k some in
    let f : (k / size) * size ≡ no_block * size = ap (λ (m : ℕ). m * size) is in
    omega (arith, e, f, low, few)

pub image-slots : (h : Head) (a b v : List ℕ) → 16 ≤ h.size → h.len ≤ no_block * h.size → SameSlots h.size h.count a b → image h b v ≡ image h a v
image-slots h a b v wide few x =
    same-image h b a v v (λ k low.
    let inner : k % h.size < h.size = omega (arith, wide) in
    from-same h.size a b h.count k (base_byte h.base v k) x.numbers (λ i u own. x.blocks i u (λ is. block-few h.size h.len k (omega (arith, wide)) low few (sym own ∙ is)) (k % h.size) inner))

-- a gate behind the slots changes nothing
pub gate-image : (h : Head) (log v : List ℕ) → 16 ≤ h.size → h.len ≤ no_block * h.size → block_no h.size log h.count ≡ no_block → image (record h { count = h.count + 1 }) log v ≡ image h log v
gate-image h log v wide few gate =
    let more : Head = record h { count = h.count + 1 } in
    let l = length-image more log v in
    same_number_lists _ _ (l ∙ sym (length-image h log v)) (λ k u.
    let low : k < h.len = omega (arith, l, u) in
    byte-of-image more log v k low
    ∙ ap (λ (m : ℕ). byte_from h.size log m k (base_byte h.base v k)) (add-one h.count)
    ∙ frame-other h.size log h.count k (base_byte h.base v k) (λ e. block-few h.size h.len k (omega (arith, wide)) low few (sym e ∙ gate))
    ∙ sym (byte-of-image h log v k low))

pub places-few : (size n len : ℕ) → 16 ≤ size → n * size ≤ len → len ≤ no_block * size → n ≤ no_block
places-few size n len wide there few = elim (cases_lt no_block n) [
  | inl more ↦ (let r : no_block * size + size ≤ n * size = row_fits no_block size n size more (omega arith) in absurd (omega (arith, r, there, few, wide)))
  | inr u ↦ omega (arith, u)
]

-- ---- the places of their frames

-- each place's slot is one of those that there are
pub place-low : (size count : ℕ) (log places : List ℕ) (n : ℕ) → AreFrames size count log places → n < length places → slice_index places n ≢ 0 → slice_index places n - 1 < count
place-low size count log places n f low some =
    let p = (f.there n low some).0 in
    let q : 0 < slice_index places n = elim (cases_eq (slice_index places n) 0) [ inl z ↦ absurd (some z) | inr z ↦ omega (arith, z) ] in
    omega (arith, p, q)

pub frames-slots : (size count : ℕ) (a b places : List ℕ) → SameSlots size count a b → AreFrames size count a places → AreFrames size count b places
frames-slots size count a b places x f = record {
  placed = λ i u. elim (f.placed i u) [
    | inl gate ↦ inl (x.numbers i u ∙ gate)
    | inr has ↦ (let e = x.numbers i u in inr (subst (λ (m : ℕ). (m < length places) × (i < slice_index places m)) (sym e) has))
  ];
  there = λ n low some. (let p = f.there n low some in (p.0, x.numbers (slice_index places n - 1) (place-low size count a places n f low some) ∙ p.1));
}

pub framed-slots : (a b : State) (h : Head) (places : List ℕ) → IsFramed a h places → SameSlots h.size h.count a.log b.log → frame_at h.size h.count ≤ length b.log → b.volume ≡ a.volume → IsFramed b h places
framed-slots a b h places o x there volume = record {
  fits = (let f = o.fits in record { some = f.some; small = f.small; frames = there; base = (let q : length b.volume ≡ length a.volume = ap length volume in let k = f.base in omega arith); grows = f.grows; few = f.few });
  whole = o.whole ∙ ap length (sym volume);
  frames = frames-slots h.size h.count a.log b.log places x o.frames;
  blocks = o.blocks;
}

pub gate-framed : (a : State) (h : Head) (places : List ℕ) → IsFramed a h places → frame_at h.size (h.count + 1) ≤ length a.log → block_no h.size a.log h.count ≡ no_block → IsFramed a (record h { count = h.count + 1 }) places
gate-framed a h places o there gate = record {
  fits = (let f = o.fits in record { some = f.some; small = f.small; frames = there; base = f.base; grows = f.grows; few = f.few });
  whole = o.whole;
  frames = record {
    placed = λ i u. elim (cases_eq i h.count) [
      | inl is ↦ inl (ap (block_no h.size a.log) is ∙ gate)
      | inr other ↦ o.frames.placed i (omega (arith, u, other))
    ];
    there = λ n low some. (let p = o.frames.there n low some in ((let q = p.0 in omega (arith, q)), p.1));
  };
  blocks = o.blocks;
}

-- ---- without a slot

pub fresh-image : (a : State) (old : Head) → image (fresh old (length a.volume)) a.log a.volume ≡ a.volume
fresh-image a old =
    let h : Head = fresh old (length a.volume) in
    let il = length-image h a.log a.volume in
    same_number_lists _ _ il (λ k u. byte-of-image h a.log a.volume k (omega (arith, il, u)) ∙ base-within h.base a.volume k (omega (arith, il, u)))

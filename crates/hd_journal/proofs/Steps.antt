-- What each call of a redo leaves.
use Rattle.std.proofs.Common.{Bool, true, false, ◌&&◌, ◌==◌, ◌≡◌, inl, inr, ℕ, ◌+◌, ◌-◌, ◌*◌, ◌<◌, ◌≤◌, min, List, length, get_or, slice_index, take, drop, add-one, refl, sym, ap, ◌∙◌, subst, arith}
use Rattle.std.proofs.lemmas.Bool.{cases_lt, cases_eq, cases_Bool, ne_eqb}
use Rattle.std.proofs.lemmas.Grind.{common_steps}
use Rattle.std.proofs.lemmas.List.{get_or-drop, take_all}
use Rattle.hd_bytes.specs.Ranges.{bytes_at}
use Rattle.hd_bytes.specs.Numbers.{number_at}
use Rattle.hd_bytes.proofs.NumberLemmas.{number-moved}
use Rattle.hd_bytes.proofs.BlockLemmas.{byte-at, length-bytes_at}
use Rattle.std.proofs.lemmas.Nat.{row_fits}
use Rattle.hd_journal.specs.Disk.{State, Torn, WritesVolume, CutsVolume, Syncs, HasVolume, HasZeros, Leaves}
use Rattle.hd_journal.specs.declared.head.Head.{Head}
use Rattle.hd_journal.specs.Log.{written_from, skipped, HasFirst, frame_at, block_no, no_block, byte_from, base_byte, Spares, HasFrames}
use Rattle.hd_journal.specs.States.{IsSpared, IsSparing, Redoes, IsStill}
use Rattle.hd_journal.proofs.Bytes.{frame-other, spares-byte, spares-open, spares-first, spares-frame, spares-cut, has-frame, base-within, base-behind}
use Rattle.hd_journal.proofs.Moments.{started, goes_on, followed, weakened}
use Rattle.hd_journal.proofs.Slots.{block-few}

-- bytes that are there stand within the list
pub inside : (v xs : List ℕ) (at n : ℕ) → bytes_at v at n ≡ xs → length xs ≡ n → 0 < n → at + n ≤ length v
inside v xs at n e len some = (let l : length (bytes_at v at n) ≡ n = ap length e ∙ len in let m : length (bytes_at v at n) ≡ min n (length v - at) = grind (arith, common_steps) in omega arith)

-- ---- a redo, call by call

pub redoes-first : (h : Head) (z : Bool) (first : List ℕ) (s : State) → IsSparing h z first s → Redoes h z first s s
redoes-first h z first s sparing = record { log = refl; spares = sparing; leaves = started (IsSpared h z s.log first) s }

-- each redo can be followed by another
pub sparing-still : (h : Head) (z : Bool) (first : List ℕ) {a b : State} → Redoes h z first a b → IsSparing h z first b
sparing-still h z first {a = a} {b = b} r = λ l v may. subst (λ (log : List ℕ). IsSpared h z log first l v) (sym r.log) (r.spares l v may)

pub redoes-more : (h : Head) (z : Bool) (first : List ℕ) {a b c : State} → Redoes h z first a b → Redoes h z first b c → Redoes h z first a c
redoes-more h z first {a = a} {b = b} {c = c} r s = record {
  log = s.log ∙ r.log;
  spares = λ l v may. subst (λ (log : List ℕ). IsSpared h z log first l v) r.log (s.spares l v may);
  leaves = followed (IsSpared h z a.log first) r.leaves (subst (λ (log : List ℕ). Leaves (IsSpared h z log first) b c) r.log s.leaves);
}

-- a write to the volume that spares what is spared
pub redoes-write : (h : Head) (z : Bool) (first : List ℕ) {a b : State} (at n : ℕ) → IsSparing h z first a → WritesVolume at n a b
    → ((v w : List ℕ) → Spares h z a.log first v → Torn at n v w → Spares h z a.log first w) → Redoes h z first a b
redoes-write h z first {a = a} {b = b} at n sparing w keeps =
    let spared : (l v : List ℕ) → b.may_leave l v → IsSpared h z a.log first l v = λ l v may.
    (let was = w.crash l v may in let s = sparing l was.0 was.1 in (s.0, keeps was.0 v s.1 was.2)) in
    record { log = w.log; spares = spared; leaves = goes_on (IsSpared h z a.log first) (started (IsSpared h z a.log first) a) w.time spared }

pub redoes-cut : (h : Head) (z : Bool) (first : List ℕ) {a b : State} (len : ℕ) → h.base ≤ len → (z ≡ true → 0 < len) → IsSparing h z first a → CutsVolume len a b → Redoes h z first a b
redoes-cut h z first {a = a} {b = b} len grows some sparing w =
    let spared : (l v : List ℕ) → b.may_leave l v → IsSpared h z a.log first l v = λ l v may.
    (let was = w.crash l v may in let s = sparing l was.0 was.1 in (s.0, spares-cut h z a.log first was.0 v len grows some s.1 was.2)) in
    record { log = w.log; spares = spared; leaves = goes_on (IsSpared h z a.log first) (started (IsSpared h z a.log first) a) w.time spared }

pub redoes-sync : (h : Head) (z : Bool) (first : List ℕ) {a b : State} → IsSparing h z first a → Syncs a b → Redoes h z first a b
redoes-sync h z first {a = a} {b = b} sparing w =
    let spared : (l v : List ℕ) → b.may_leave l v → IsSpared h z a.log first l v = λ l v may. sparing l v (w.crash l v may) in
    record { log = w.log; spares = spared; leaves = goes_on (IsSpared h z a.log first) (started (IsSpared h z a.log first) a) w.time spared }

-- at first a still disk is spared
pub sparing-first : (h : Head) (s : State) → h.base ≤ length s.volume → IsStill s → IsSparing h false s.volume s
sparing-first h s base still = λ l v may.
    let at_v = still.volume l v may in
    (still.log l v may, subst (λ (w : List ℕ). Spares h false s.log s.volume w) (sym at_v) (spares-first h s.log s.volume base))

-- ---- the length

-- a volume that was cut, and made longer
pub lengthened : (h : Head) (z : Bool) (s a b : State) (at : ℕ) → h.base ≤ at → at ≤ h.len → h.base ≤ length s.volume → ((k : ℕ) → h.base ≤ k → k < at → (k < length s.volume) × (slice_index s.volume k ≡ 0))
    → CutsVolume at s a → length a.volume ≡ at → CutsVolume h.len a b → length b.volume ≡ h.len → HasZeros (length a.volume) h.len b.volume → HasFrames h 0 s.log s.volume 0 b.volume
lengthened h z s a b at above below base shut cut short more long zeros = record {
  long = omega (arith, long);
  each = λ k from low. elim (cases_lt k h.base) [
    | inl in_base ↦
        more.volume.below k (omega (arith, short, in_base, above)) low ∙ cut.volume.below k (omega (arith, in_base, base)) (omega (arith, in_base, above)) ∙ sym (base-within h.base s.volume k in_base)
    | inr behind ↦ elim (cases_lt k at) [
      | inl in_front ↦
          (let f = shut k behind in_front in more.volume.below k (omega (arith, short, in_front)) low ∙ cut.volume.below k f.0 in_front ∙ f.1 ∙ sym (base-behind h.base s.volume k behind))
      | inr new ↦ zeros k (omega (arith, short, new)) low ∙ sym (base-behind h.base s.volume k behind)
    ]
  ];
}

-- one that has its length
pub unlengthened : (h : Head) (s : State) → h.base ≡ h.len → h.base ≤ length s.volume → HasFrames h 0 s.log s.volume 0 s.volume
unlengthened h s same base = record {
  long = omega (arith, same, base);
  each = λ k from low. sym (base-within h.base s.volume k (omega (arith, same, low)));
}

-- ---- the copy

-- the number of a frame that was read
pub frame-number : (log buf : List ℕ) (p n : ℕ) → 4 ≤ n → p + n ≤ length log → buf ≡ bytes_at log p n → number_at 4 buf 0 ≡ number_at 4 log p
frame-number log buf p n some fits is = number-moved 4 p 0 log buf (λ k low. ap (slice_index buf) (let e : 0 + k ≡ k = omega arith in e) ∙ ap (λ (xs : List ℕ). get_or xs k 0) is ∙ byte-at log p n k fits (omega arith))

byte-behind : (buf : List ℕ) (p k : ℕ) → k < length buf - p → get_or (take (length buf - p) (drop p buf)) k 0 ≡ get_or buf (p + k) 0
byte-behind buf p k low =
    let len : length (drop p buf) ≡ length buf - p = grind (arith, common_steps) in
    ap (λ (xs : List ℕ). get_or xs k 0) (take_all (length buf - p) (drop p buf) (omega arith)) ∙ get_or-drop p buf k 0

-- a byte of its block
pub frame-block : (log buf : List ℕ) (p size skip k : ℕ) → p + (size + 4) ≤ length log → buf ≡ bytes_at log p (size + 4) → k < length buf - (4 + skip) → get_or (take (length buf - (4 + skip)) (drop (4 + skip) buf)) k 0 ≡ slice_index log (p + 4 + (skip + k))
frame-block log buf p size skip k fits is low =
    let len : length buf ≡ size + 4 = ap length is ∙ length-bytes_at log p (size + 4) fits in
    byte-behind buf (4 + skip) k low ∙ ap (λ (xs : List ℕ). get_or xs (4 + skip + k) 0) is ∙ byte-at log p (size + 4) (4 + skip + k) fits (omega (arith, len, low))
    ∙ ap (slice_index log) (let e : p + (4 + skip + k) ≡ p + 4 + (skip + k) = omega arith in e)

pub frame-there : (h : Head) (log : List ℕ) (i : ℕ) → i < h.count → frame_at h.size h.count ≤ length log → frame_at h.size i + (h.size + 4) ≤ length log
frame-there h log i few there = (let r : i * (h.size + 4) + (h.size + 4) ≤ h.count * (h.size + 4) = row_fits i (h.size + 4) h.count (h.size + 4) few (omega arith) in omega arith)

-- what is passed over of a block, and what is not
skip-few : (z : Bool) (m : ℕ) → skipped z m ≤ 1
skip-few z m = elim (cases_Bool (z && m == 0)) [ inl e ↦ (let s : skipped z m ≡ 1 = rw e refl in omega (arith, s)) | inr e ↦ (let s : skipped z m ≡ 0 = rw e refl in omega (arith, s)) ]

skip-behind : (z : Bool) (m size : ℕ) → 0 < size → z ≡ true → 0 < m * size + skipped z m
skip-behind z m size some e = elim (cases_eq m 0) [
  | inl nought ↦ (let s : skipped z m ≡ 1 = rw (e, nought) refl in omega (arith, s))
  | inr nonzero ↦ (let r : 0 * size + size ≤ m * size = row_fits 0 size m size (omega (arith, nonzero)) (omega arith) in omega (arith, r))
]

skip-there : (z : Bool) (m size j : ℕ) → 0 < size → written_from z ≤ m * size + j → skipped z m ≤ j
skip-there z m size j some above = elim (cases_Bool z) [
  | inl e ↦ elim (cases_eq m 0) [
    | inl nought ↦ (let s : skipped z m ≡ 1 = rw (e, nought) refl in let c : written_from z ≡ 1 = rw e refl in let p : m * size ≡ 0 * size = ap (λ (x : ℕ). x * size) nought in omega (arith, s, c, p, above))
    | inr nonzero ↦ (let s : skipped z m ≡ 0 = rw (e, ne_eqb _ _ nonzero) refl in omega (arith, s))
  ]
  | inr e ↦ (let s : skipped z m ≡ 0 = rw e refl in omega (arith, s))
]

pub copy-redoes : (h : Head) (z : Bool) (first : List ℕ) {a b : State} (i at n : ℕ) → 0 < h.size → i < h.count → IsSparing h z first a → WritesVolume at n a b
    → at ≡ block_no h.size a.log i * h.size + skipped z (block_no h.size a.log i) → n + skipped z (block_no h.size a.log i) ≡ h.size → Redoes h z first a b
copy-redoes h z first {a = a} {b = b} i at n some few sparing w place len =
    let skip = skip-behind z (block_no h.size a.log i) h.size some in
    redoes-write h z first at n sparing w (λ v x s torn. spares-frame h z a.log first v x i at n some few s (omega (arith, place)) (omega (arith, place, len)) (λ e. let k = skip e in omega (arith, place, k)) torn)

pub copy-frames : (h : Head) (z : Bool) (first : List ℕ) {a b : State} (i at n : ℕ) (xs : List ℕ) → 0 < h.size → i < h.count → WritesVolume at n a b
    → at ≡ block_no h.size a.log i * h.size + skipped z (block_no h.size a.log i) → n + skipped z (block_no h.size a.log i) ≡ h.size → bytes_at b.volume at n ≡ xs → length xs ≡ n
    → ((k : ℕ) → k < n → get_or xs k 0 ≡ slice_index a.log (frame_at h.size i + 4 + (skipped z (block_no h.size a.log i) + k)))
    → HasFrames h (written_from z) a.log first i a.volume → HasFrames h (written_from z) a.log first (i + 1) b.volume
copy-frames h z first {a = a} {b = b} i at n xs some few w place len wrote long is f =
    let m : ℕ = block_no h.size a.log i in
    let skip : ℕ = skipped z m in
    subst (λ (q : ℕ). HasFrames h (written_from z) a.log first q b.volume) (sym (add-one i))
    (has-frame h (written_from z) a.log first a.volume b.volume i at n some f (omega (arith, place)) (omega (arith, place, len)) w.volume (λ j low above.
    let behind : skip ≤ j = skip-there z m h.size j some above in
    let k : ℕ = j - skip in
    let low_k : k < n = omega (arith, behind, low, len) in
    let inner = inside b.volume xs at n wrote long (omega (arith, low_k)) in
    let e : m * h.size + j ≡ at + k = omega (arith, place, behind) in
    let q : skip + k ≡ j = omega (arith, behind) in
    ap (slice_index b.volume) e ∙ sym (byte-at b.volume at n k inner low_k) ∙ ap (λ (ys : List ℕ). get_or ys k 0) wrote ∙ is k low_k ∙ ap (λ (x : ℕ). slice_index a.log (frame_at h.size i + 4 + x)) q))

-- the slot of a gate has no frame
pub gate-frames : (h : Head) (from : ℕ) (log first v : List ℕ) (i : ℕ) → 0 < h.size → h.len ≤ no_block * h.size → block_no h.size log i ≡ no_block → HasFrames h from log first i v → HasFrames h from log first (i + 1) v
gate-frames h from log first v i some few gate f = record {
  long = f.long;
  each = λ k above low.
      f.each k above low ∙ sym (frame-other h.size log i k (base_byte h.base first k) (λ e. block-few h.size h.len k some low few (sym e ∙ gate)))
      ∙ ap (λ (m : ℕ). byte_from h.size log m k (base_byte h.base first k)) (sym (add-one i));
}

-- once the volume is synced, the disk is still
pub still-synced : (h : Head) (z : Bool) (first : List ℕ) {a b : State} → Redoes h z first a b → HasVolume b → IsStill b
still-synced h z first {a = a} {b = b} r durable = record { volume = durable; log = λ l v may. (sparing-still h z first r l v may).0 }

-- ---- the first byte

-- a write of the first byte, whose block has a frame
pub redoes-byte : (h : Head) (z : Bool) (first : List ℕ) {a b : State} (byte : ℕ) → HasFirst h.size a.log h.count byte → IsSparing h z first a → WritesVolume 0 1 a b → Redoes h false first a b
redoes-byte h z first {a = a} {b = b} byte has sparing w =
    let spared : (l v : List ℕ) → b.may_leave l v → IsSpared h false a.log first l v = λ l v may.
    (let was = w.crash l v may in let s = sparing l was.0 was.1 in (s.0, spares-byte h z a.log first was.0 v byte has s.1 was.2)) in
    record { log = w.log; spares = spared; leaves = goes_on (IsSpared h false a.log first) (started (IsSpared h false a.log first) a) w.time spared }

-- what was redone behind a shut byte was redone
pub redoes-open : (h : Head) (z : Bool) (first : List ℕ) {a b : State} → Redoes h z first a b → Redoes h false first a b
redoes-open h z first {a = a} {b = b} r = record {
  log = r.log;
  spares = λ l v may. (let s = r.spares l v may in (s.0, spares-open h z a.log first v s.1));
  leaves = weakened r.leaves (λ l v s. (s.0, spares-open h z a.log first v s.1));
}

pub sparing-open : (h : Head) (z : Bool) (first : List ℕ) (s : State) → IsSparing h z first s → IsSparing h false first s
sparing-open h z first s sparing = λ l v may. (let p = sparing l v may in (p.0, spares-open h z s.log first v p.1))

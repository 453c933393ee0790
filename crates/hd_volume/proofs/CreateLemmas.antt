-- A new volume.
use Rattle.std.proofs.Common.{◌≡◌, ◌≢◌, inl, inr, ℕ, ◌-◌, ◌*◌, ◌/◌, ◌<◌, ◌≤◌, List, [], ◌∷◌, length, take, drop, replicate, slice_index, None, refl, sym, ap, ◌∙◌, arith, ne_eqb}
use Rattle.std.proofs.lemmas.Bool.{cases_eq, eq-eqb}
use Rattle.std.proofs.lemmas.List.{take_all, drop-replicate}
use Rattle.std.proofs.Math.Nat.{mul-div_cancel, mul-le-mul_right}
use Rattle.hd_bytes.specs.Numbers.{number_at}
use Rattle.hd_bytes.specs.Ranges.{bytes_at, with_bytes}
use Rattle.hd_bytes.specs.Blocks.{block_of, HasBlock}
use Rattle.hd_bytes.proofs.NumberLemmas.{length-with}
use Rattle.hd_volume.specs.declared.space.Space.{Space}
use Rattle.hd_volume.specs.Headers.{Header, header_of}
use Rattle.hd_volume.specs.Volumes.{VolumeState, block_at, kind_of}
use Rattle.hd_volume.specs.Records.{find}
use Rattle.hd_volume.specs.Rooms.{free_below}
use Rattle.hd_volume.specs.Spaces.{blocks_in, IsSpaceOf}
use Rattle.hd_volume.specs.Creates.{new_header, head_list, IsCreated}
use Rattle.hd_volume.proofs.FrameLemmas.{header-same}
use Rattle.hd_volume.proofs.MapLemmas.{past-end}
use Rattle.hd_dbd.specs.declared.facts.SegmentSize.{SegmentSize}

eight-bytes : (xs : List ℕ) → length xs ≡ 8
    → slice_index xs 0 ∷ slice_index xs 1 ∷ slice_index xs 2 ∷ slice_index xs 3 ∷ slice_index xs 4 ∷ slice_index xs 5 ∷ slice_index xs 6 ∷ slice_index xs 7 ∷ [] ≡ xs
eight-bytes (a ∷ b ∷ c ∷ d ∷ e ∷ f ∷ g ∷ h ∷ []) len = refl
eight-bytes [] len = absurd (omega arith)
eight-bytes (a ∷ []) len = absurd (omega arith)
eight-bytes (a ∷ b ∷ []) len = absurd (omega arith)
eight-bytes (a ∷ b ∷ c ∷ []) len = absurd (omega arith)
eight-bytes (a ∷ b ∷ c ∷ d ∷ []) len = absurd (omega arith)
eight-bytes (a ∷ b ∷ c ∷ d ∷ e ∷ []) len = absurd (omega arith)
eight-bytes (a ∷ b ∷ c ∷ d ∷ e ∷ f ∷ []) len = absurd (omega arith)
eight-bytes (a ∷ b ∷ c ∷ d ∷ e ∷ f ∷ g ∷ []) len = absurd (omega arith)
eight-bytes (a ∷ b ∷ c ∷ d ∷ e ∷ f ∷ g ∷ h ∷ i ∷ xs) len = absurd (omega arith)

header-by : (i m n : List ℕ) (v b c l f k t h : ℕ) → bytes_at i 0 8 ≡ m → number_at 2 i 8 ≡ v → number_at 2 i 10 ≡ b → number_at 4 i 12 ≡ c → number_at 4 i 16 ≡ l → bytes_at i 20 8 ≡ n
    → number_at 4 i 28 ≡ f → number_at 4 i 32 ≡ k → number_at 4 i 36 ≡ t → number_at 4 i 40 ≡ h
    → header_of i ≡ record { mark = m; version = v; block_size = b; count = c; largest = l; name = n; first_root = f; last_root = k; top = t; height = h }
header-by i m n v b c l f k t h e1 e2 e3 e4 e5 e6 e7 e8 e9 e10 = rw (e1, e2, e3, e4, e5, e6, e7, e8, e9, e10) refl

head-numbers : (b name : List ℕ) (size largest : ℕ) → let i : List ℕ = with_bytes b 0 (head_list name size largest) in
    (number_at 2 i 8 ≡ 3) × (number_at 2 i 10 ≡ size) × (number_at 4 i 12 ≡ 1) × (number_at 4 i 16 ≡ largest) × (number_at 4 i 28 ≡ 0) × (number_at 4 i 32 ≡ 0) × (number_at 4 i 36 ≡ 0) × (number_at 4 i 40 ≡ 0)
unfolding number_at
head-numbers b name size largest = (refl, omega arith, refl, omega arith, refl, refl, refl, refl)

head-header : (b name : List ℕ) (size largest : ℕ) → length name ≡ 8 → header_of (with_bytes b 0 (head_list name size largest)) ≡ new_header name size largest
head-header b name size largest len =
    let n = head-numbers b name size largest in
    header-by (with_bytes b 0 (head_list name size largest)) _ name 3 size 1 largest 0 0 0 0 refl n.0 n.1 n.2 n.3 (eight-bytes name len) n.4 n.5 n.6 n.7

-- a block by itself is an image of one block
pub own-block : (size : ℕ) (b : List ℕ) → length b ≡ size → block_of size b 0 ≡ b
own-block size b len = (let z : 0 * size ≡ 0 = omega arith in let e : take size (drop (0 * size) b) ≡ take size b = rw z refl in e) ∙ take_all size b (omega arith)

-- what is kept of the blocks says nothing of an image of one
pub only-space : (size : ℕ) (sizes : List SegmentSize) (a b : List ℕ) (space : Space) → 0 < size → length a ≡ size → length b ≡ size → IsSpaceOf size sizes a space → IsSpaceOf size sizes b space
only-space size sizes a b space positive la lb h =
    let one : size / size ≡ 1 = (let e : 1 * size / size ≡ 1 = mul-div_cancel 1 positive in ap (λ (k : ℕ). k / size) (let s : size ≡ 1 * size = omega arith in s) ∙ e) in
    let qa : length a / size ≡ 1 = rw la one in
    let qb : length b / size ≡ 1 = rw lb one in
    let ba : blocks_in size a ≡ 1 = omega arith in
    let bb : blocks_in size b ≡ 1 = omega arith in
    record {
      len = h.len ∙ ba ∙ sym bb;
      contents = λ n some below. absurd (omega arith);
      lowest = λ c n some low below. absurd (omega arith);
      free = h.free ∙ ap (λ (k : ℕ). free_below size a k) ba ∙ (let e : free_below size a 1 ≡ free_below size b 1 = refl in e) ∙ ap (λ (k : ℕ). free_below size b k) (sym bb);
      lowest_free = λ n some low below. absurd (omega arith);
    }

-- behind its head a volume of zeros has zeros
zeros-behind : (b name : List ℕ) (size largest : ℕ) → b ≡ replicate (1 * size) 0 → drop 44 (with_bytes b 0 (head_list name size largest)) ≡ replicate (size - 44) 0
zeros-behind b name size largest zeros =
    let past : drop 44 (with_bytes b 0 (head_list name size largest)) ≡ drop 44 b = refl in
    let one : 1 * size ≡ size = omega arith in
    past ∙ ap (drop 44) (zeros ∙ ap (λ (k : ℕ). replicate k 0) one) ∙ drop-replicate 44 size 0

pub created : (w : VolumeState) (b name : List ℕ) (size largest : ℕ) → 44 ≤ size → w.size ≡ size → length name ≡ 8 → length w.image ≡ size → length b ≡ size
    → block_of size w.image 0 ≡ with_bytes b 0 (head_list name size largest) → 0 < largest → largest ≤ 65536 → w.stored ≡ replicate (1 * size) 0
    → b ≡ replicate (1 * size) 0 → IsCreated name size largest w
created w b name size largest least size-is len one long block some most stored zeros =
    let there : HasBlock size w.image 0 = omega arith in
    let b' : List ℕ = with_bytes b 0 (head_list name size largest) in
    let long' : length b' ≡ size = length-with b (head_list name size largest) 0 (omega arith) ∙ long in
    let header : header_of w.image ≡ new_header name size largest =
    header-same size w.image b' least there (omega arith) (block ∙ sym (own-block size b' long')) ∙ head-header b name size largest len in
    let count : (header_of w.image).count ≡ 1 = ap (λ (h : Header). h.count) header in
    let largest-is : (header_of w.image).largest ≡ largest = ap (λ (h : Header). h.largest) header in
    let none = λ (n : ℕ) (later : n ≢ 0). (let e : block_of size w.image n ≡ [] = past-end size n w.image (let p : 1 * size ≤ n * size = mul-le-mul_right size (let q : 1 ≤ n = omega arith in q) in omega arith) in e) in
    record {
      formatted = record {
        header = record {
          first = rw size-is there;
          mark = ap (λ (h : Header). h.mark) header;
          whole = one ∙ (let e : size ≡ (header_of w.image).count * w.size = rw (count, size-is) (let f : size ≡ 1 * size = omega arith in f) in e);
          within = rw (count, largest-is) some;
          bound = rw largest-is most;
        };
        divided = λ n k. absurd (let l = k.later in let e : kind_of (block_at w n) ≡ 0 = (let f : block_at w n ≡ [] = rw size-is (none n (λ z. omega arith)) in ap kind_of f) in let i = k.kind_is in omega arith);
      };
      header = header;
      one = one;
      behind = ap (drop 44) (sym (own-block size w.image one) ∙ block) ∙ zeros-behind b name size largest zeros;
      stored = stored;
      empty = λ a. elim (cases_eq (a / size) 0) [
        | inl z ↦ (let e : find w a ≡ None = rw (size-is, eq-eqb (a / size) 0 z) refl in e)
        | inr later ↦
            (let k : kind_of (block_of size w.image (a / size)) ≢ 1 = λ i. (let e : kind_of (block_of size w.image (a / size)) ≡ 0 = ap kind_of (none (a / size) later) in omega arith) in
            let e : find w a ≡ None = rw (size-is, ne_eqb (a / size) 0 later, ne_eqb (kind_of (block_of size w.image (a / size))) 1 k) refl in e)
      ];
    }

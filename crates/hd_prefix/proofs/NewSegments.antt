-- A row that is made a stored segment.
use Rattle.std.proofs.Common.{◌≡◌, ℕ, zero, suc, ◌+◌, ◌-◌, ◌*◌, ◌^◌, ◌<◌, ◌≤◌, List, ◌∷◌, ◌++◌, length, take, drop, slice_index, arith, ap, ap₂, sym, ◌∙◌, refl, Option, Some, None}
use Rattle.std.specs.Prelude.{IfSome, replicate, slice_set}
use Rattle.std.specs.Option.{option_map_or}
use Rattle.std.proofs.lemmas.Grind.{common_steps}
use Rattle.std.proofs.lemmas.List.{length-replicate, get_or_append_left, get_or-replicate, get_or-take, take-replicate, drop-replicate, drop_at, take_at}
use Rattle.hd_bytes.specs.Ranges.{bytes_at, with_bytes}
use Rattle.hd_bytes.specs.Numbers.{number_at}
use Rattle.hd_dbd.specs.Types.{SegmentType}
use Rattle.hd_dbd.specs.Lengths.{length_in}
use Rattle.hd_dbd.specs.Prefixes.{prefix_length, size_with}
use Rattle.hd_prefix.specs.declared.pointer.Pointer.{Pointer}
use Rattle.hd_prefix.specs.Pointers.{place_of}
use Rattle.hd_prefix.specs.Fields.{length_of, new_segment, IsNewSegment}
use Rattle.hd_prefix.proofs.Sizes.{size_long}

-- a number whose bytes are all 0
pub number_zero : (n p : ℕ) (b : List ℕ) → ((k : ℕ) → p ≤ k → k < p + n → slice_index b k ≡ 0) → number_at n b p ≡ 0
unfolding number_at
number_zero zero p b h = refl
number_zero (suc n) p b h =
    let here : slice_index b p ≡ 0 = h p (omega arith) (omega arith) in
    let rest : number_at n b (suc p) ≡ 0 = number_zero n (suc p) b (λ k l m. h k (omega arith) (omega arith)) in
    rw (here, rest) (none (256 ^ n))
  where
    none : (m : ℕ) → 0 * m + 0 ≡ 0
    none m = omega arith

-- bytes behind a code and zeros, with zeros behind them
abbrev laid_out : ℕ → ℕ → List ℕ → ℕ → List ℕ
laid_out c nulls bytes padding = c ∷ (replicate nulls 0 ++ (bytes ++ replicate padding 0))

length-laid_out : (c nulls : ℕ) (bytes : List ℕ) (padding : ℕ) → length (laid_out c nulls bytes padding) ≡ 1 + nulls + length bytes + padding
length-laid_out c nulls bytes padding = grind (arith, common_steps)

-- the bytes of the prefix behind the code are 0
nothing-laid_out : (c nulls : ℕ) (bytes : List ℕ) (padding k : ℕ) → 0 < k → k < 1 + nulls → slice_index (laid_out c nulls bytes padding) k ≡ 0
nothing-laid_out c nulls bytes padding zero some low = absurd (omega arith)
nothing-laid_out c nulls bytes padding (suc k) some low =
    get_or_append_left (replicate nulls 0) (bytes ++ replicate padding 0) 0 k (omega (arith, length-replicate {A = ℕ} nulls 0))
    ∙ get_or-replicate nulls k 0 0 (omega arith)

-- and the bytes stand behind it
bytes-laid_out : (c nulls : ℕ) (bytes : List ℕ) (padding : ℕ) → bytes_at (laid_out c nulls bytes padding) (suc nulls) (length bytes) ≡ bytes
bytes-laid_out c nulls bytes padding =
    ap (take (length bytes)) (drop_at (replicate nulls 0) (bytes ++ replicate padding 0) nulls (length-replicate nulls 0))
    ∙ take_at bytes (replicate padding 0) (length bytes) refl

pointers_zero : (n : ℕ) (segment : List ℕ) (o : Option ℕ) → ((k : ℕ) → 0 < k → k < n → slice_index segment k ≡ 0) → IfSome o (λ x. (2 ≤ x) × (x + 4 ≤ n))
    → option_map_or (λ place. number_at 4 segment place) o 0 ≡ 0
pointers_zero n segment None zeros inside = refl
pointers_zero n segment (Some x) zeros inside =
    let low = inside.0 in
    let high = inside.1 in
    number_zero 4 x segment (λ k l m. zeros k (omega arith) (omega arith))

pub new_segment_is : (types : List SegmentType) (c : ℕ) (bytes : List ℕ) → 2 ≤ prefix_length types c
    → ((behind : List ℕ) → ((k : ℕ) → k < length bytes → slice_index behind k ≡ slice_index bytes k) → length_in types c behind ≡ length bytes)
    → ((pointer : Pointer) → IfSome (place_of types c pointer) (λ x. (2 ≤ x) × (x + 4 ≤ prefix_length types c)))
    → IsNewSegment types c bytes (new_segment types c bytes)
new_segment_is types c bytes low len inside =
    let prefix : ℕ = prefix_length types c in
    let padding : ℕ = size_with types c (length bytes) - prefix - length bytes in
    let new : List ℕ = new_segment types c bytes in
    let whole : 1 + (prefix - 1) ≡ prefix = omega arith in
    let next : suc (prefix - 1) ≡ prefix = omega arith in
    let zeros : (k : ℕ) → 0 < k → k < prefix → slice_index (new_segment types c bytes) k ≡ 0 =
    λ (k : ℕ) (some : 0 < k) (below : k < prefix). nothing-laid_out c (prefix - 1) bytes padding k some (omega arith) in
    let there : bytes_at new prefix (length bytes) ≡ bytes = ap (λ (p : ℕ). bytes_at new p (length bytes)) (sym next) ∙ bytes-laid_out c (prefix - 1) bytes padding in
    let own : length_of types c new ≡ length bytes =
    len (drop prefix new) (λ k below. sym (get_or-take (length bytes) (drop prefix new) k 0 below) ∙ ap (λ (xs : List ℕ). slice_index xs k) there) in
    record {
      size = length-laid_out c (prefix - 1) bytes padding ∙ sums _ _ _ low (size_long types c (length bytes)).0;
      code = refl;
      delete_byte = zeros 1 (omega arith) (omega arith);
      pointers = λ pointer. pointers_zero prefix (new_segment types c bytes) (place_of types c pointer) zeros (inside pointer);
      bytes = ap (λ (n : ℕ). bytes_at new prefix n) own ∙ there;
    }
  where
    sums : (p s b : ℕ) → 2 ≤ p → p + b ≤ s → 1 + (p - 1) + b + (s - p - b) ≡ s
    sums p s b e f = omega arith

-- a code and bytes that are written over zeros
pub laid_over : (c prefix size : ℕ) (bytes : List ℕ) → 1 ≤ prefix → prefix + length bytes ≤ size
    → with_bytes (slice_set (replicate size 0) 0 c) prefix bytes ≡ c ∷ (replicate (prefix - 1) 0 ++ (bytes ++ replicate (size - prefix - length bytes) 0))
laid_over c zero size bytes some fits = absurd (omega arith)
laid_over c (suc q) zero bytes some fits = absurd (omega arith)
laid_over c (suc q) (suc n) bytes some fits = ap₂ (λ (x y : List ℕ). c ∷ (x ++ (bytes ++ y))) (front q n (omega arith)) (back q n (length bytes))
  where
    front : (q n : ℕ) → q ≤ n → take {A = ℕ} q (replicate n 0) ≡ replicate (suc q - 1) 0
    front q n low = take-replicate q n 0 low ∙ ap (λ (k : ℕ). replicate k 0) (nulls q)
      where
        nulls : (q : ℕ) → q ≡ suc q - 1
        nulls q = omega arith

    back : (q n l : ℕ) → drop {A = ℕ} (suc q + l) (c ∷ replicate n 0) ≡ replicate (suc n - suc q - l) 0
    back q n l = ap (λ (k : ℕ). drop k (c ∷ replicate n 0)) (next q l) ∙ drop-replicate (q + l) n 0 ∙ ap (λ (k : ℕ). replicate k 0) (rest q n l)
      where
        next : (q l : ℕ) → suc q + l ≡ suc (q + l)
        next q l = omega arith

        rest : (q n l : ℕ) → n - (q + l) ≡ suc n - suc q - l
        rest q n l = omega arith

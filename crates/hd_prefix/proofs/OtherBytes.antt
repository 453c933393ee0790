-- A stored segment with other bytes of its own.
use Rattle.std.proofs.Common.{◌≡◌, ℕ, ◌+◌, ◌-◌, ◌<◌, ◌≤◌, List, [], ◌∷◌, ◌++◌, length, take, drop, slice_index, arith, ap, ap₂, sym, ◌∙◌, refl, Option, Some, None}
use Rattle.std.specs.Prelude.{IfSome, replicate}
use Rattle.std.specs.Option.{option_map_or}
use Rattle.std.proofs.lemmas.List.{length-append, length-take-le, length-replicate, drop-drop, get_or_append_left, get_or-take, drop-replicate, drop_at, take_at}
use Rattle.hd_bytes.specs.Ranges.{bytes_at, with_bytes}
use Rattle.hd_bytes.specs.Numbers.{number_at}
use Rattle.hd_bytes.proofs.NumberLemmas.{number-same}
use Rattle.hd_dbd.specs.Types.{SegmentType}
use Rattle.hd_dbd.specs.Lengths.{length_in}
use Rattle.hd_dbd.specs.Prefixes.{prefix_length, size_with}
use Rattle.hd_prefix.specs.declared.pointer.Pointer.{Pointer}
use Rattle.hd_prefix.specs.Pointers.{place_of}
use Rattle.hd_prefix.specs.Fields.{length_of, segment_with, IsSegmentWith}
use Rattle.hd_prefix.proofs.Sizes.{size_long}

-- a prefix and bytes that are written over zeros
pub written_over : (prefix bytes : List ℕ) (p size : ℕ) → length prefix ≡ p → p + length bytes ≤ size
    → with_bytes (with_bytes (replicate size 0) 0 prefix) p bytes ≡ prefix ++ (bytes ++ replicate (size - p - length bytes) 0)
written_over prefix bytes p size long room =
    let first : with_bytes (replicate size 0) 0 prefix ≡ prefix ++ replicate (size - p) 0 =
    ap₂ (λ (xs : List ℕ) (n : ℕ). xs ++ (prefix ++ drop n (replicate size 0))) (none (replicate size 0)) (sum (length prefix) p long)
    ∙ ap (λ (xs : List ℕ). prefix ++ xs) (drop-replicate p size 0) in
    ap (λ (xs : List ℕ). with_bytes xs p bytes) first
    ∙ ap₂ (λ (xs ys : List ℕ). xs ++ (bytes ++ ys)) (take_at prefix (replicate (size - p) 0) p long)
    (behind_them prefix (size - p) p (length bytes) long ∙ drop-replicate (length bytes) (size - p) 0)
  where
    none : (xs : List ℕ) → take 0 xs ≡ []
    none [] = refl
    none (x ∷ xs) = refl

    sum : (a p : ℕ) → a ≡ p → 0 + a ≡ p
    sum a p e = omega arith

    behind_them : (xs : List ℕ) (n p k : ℕ) → length xs ≡ p → drop (p + k) (xs ++ replicate n 0) ≡ drop k (replicate n 0)
    behind_them xs n p k e = sym (drop-drop k p (xs ++ replicate n 0)) ∙ ap (drop k) (drop_at xs (replicate n 0) p e)

-- the prefix stays
prefix_stays : (prefix bytes segment : List ℕ) (p padding k : ℕ) → prefix ≡ take p segment → length prefix ≡ p → k < p
    → slice_index (prefix ++ (bytes ++ replicate padding 0)) k ≡ slice_index segment k
prefix_stays prefix bytes segment p padding k is long low =
    get_or_append_left prefix (bytes ++ replicate padding 0) 0 k (omega arith)
    ∙ ap (λ (xs : List ℕ). slice_index xs k) is ∙ get_or-take p segment k 0 low

pointers_stay : (p : ℕ) (new old : List ℕ) (o : Option ℕ) → ((k : ℕ) → k < p → slice_index new k ≡ slice_index old k) → IfSome o (λ x. (2 ≤ x) × (x + 4 ≤ p))
    → option_map_or (λ place. number_at 4 new place) o 0 ≡ option_map_or (λ place. number_at 4 old place) o 0
pointers_stay p new old None same inside = refl
pointers_stay p new old (Some x) same inside = let high = inside.1 in number-same 4 x new old (λ k low more. same k (omega arith))

pub segment_with_is : (types : List SegmentType) (c : ℕ) (bytes segment : List ℕ) → 2 ≤ prefix_length types c
    → ((behind : List ℕ) → ((k : ℕ) → k < length bytes → slice_index behind k ≡ slice_index bytes k) → length_in types c behind ≡ length bytes)
    → ((pointer : Pointer) → IfSome (place_of types c pointer) (λ x. (2 ≤ x) × (x + 4 ≤ prefix_length types c)))
    → prefix_length types c ≤ length segment → IsSegmentWith types c bytes segment (segment_with types c segment bytes)
segment_with_is types c bytes segment low len inside room =
    let p : ℕ = prefix_length types c in
    let prefix : List ℕ = take p segment in
    let size : ℕ = size_with types c (length bytes) in
    let padding : ℕ = size - p - length bytes in
    let new : List ℕ = segment_with types c segment bytes in
    let long : length prefix ≡ p = length-take-le p segment room in
    let same : (k : ℕ) → k < p → slice_index (segment_with types c segment bytes) k ≡ slice_index segment k =
    λ (k : ℕ) (below : k < p). prefix_stays prefix bytes segment p padding k refl long below in
    let there : bytes_at new p (length bytes) ≡ bytes =
    ap (take (length bytes)) (drop_at prefix (bytes ++ replicate padding 0) p long) ∙ take_at bytes (replicate padding 0) (length bytes) refl in
    let own : length_of types c new ≡ length bytes =
    len (drop p new) (λ k below. sym (get_or-take (length bytes) (drop p new) k 0 below) ∙ ap (λ (xs : List ℕ). slice_index xs k) there) in
    record {
      size = length-append prefix (bytes ++ replicate padding 0) ∙ sums _ _ _ p _ size long (length-append bytes (replicate padding 0)) (length-replicate padding 0) (size_long types c (length bytes)).0;
      is = ap (λ (n : ℕ). bytes_at new p n) own ∙ there;
      code = same 0 (omega arith);
      delete_byte = same 1 (omega arith);
      pointers = λ pointer. pointers_stay p (segment_with types c segment bytes) segment (place_of types c pointer) same (inside pointer);
    }
  where
    sums : (f r z p b s : ℕ) → f ≡ p → r ≡ b + z → z ≡ s - p - b → p + b ≤ s → f + r ≡ s
    sums f r z p b s d e h i = omega arith

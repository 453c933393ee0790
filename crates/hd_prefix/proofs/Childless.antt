-- A segment whose bytes name no children.
use Rattle.std.proofs.Common.{◌≡◌, ◌⊎◌, ℕ, zero, suc, ◌+◌, ◌*◌, ◌^◌, ◌<◌, ◌≤◌, List, [], ◌∷◌, Bool, true, false, arith, ap, ◌∙◌, refl, cond, Option, Some, None, inl, inr, IsTrue}
use Rattle.std.specs.Prelude.{IfSome, slice_index}
use Rattle.std.specs.Option.{option_map_or}
use Rattle.std.proofs.Math.Nat.{le-mul_of_pos_right, pow-suc}
use Rattle.std.proofs.lemmas.Bool.{cases_eq, cases_lt}
use Rattle.std.proofs.lemmas.List.Sums.{sum_by-cons}
use Rattle.hd_bytes.specs.Numbers.{number_at}
use Rattle.hd_dbd.specs.declared.hierarchy.FreeSpace.{FreeSpace}
use Rattle.hd_dbd.specs.Types.{SegmentType}
use Rattle.hd_dbd.specs.Hierarchy.{type_of}
use Rattle.hd_dbd.specs.Prefixes.{keeps_backward, twin_part, child_part, child_parts, is_child_of, prefix_length}
use Rattle.hd_dbd.specs.DatabaseRules.{types_fit_from, well_formed}
use Rattle.hd_dbd.proofs.Fitting.{types_fit}
use Rattle.hd_prefix.specs.declared.pointer.Pointer.TheVariants.{FirstChild, LastChild}
use Rattle.hd_prefix.specs.Pointers.{place_of}
use Rattle.hd_prefix.specs.Fields.{pointer_of, twins_end, NamesNoChildren}
use Rattle.hd_prefix.proofs.Children.{child_inside}
use Rattle.hd_prefix.proofs.NewSegments.{number_zero}
use Rattle.hd_prefix.proofs.Places.{placed, part_some}

-- what is left of a prefix from a place on is pointers, of four bytes each
abbrev pub AreFours : ℕ → ℕ → Type 0
AreFours place end = (end ≤ place) ⊎ ((n : ℕ) × (end ≡ place + 4 * n))

part-fours : (b last : Bool) → (n : ℕ) × (cond b (cond last 8 4) 0 ≡ 4 * n)
part-fours true true = (2, refl)
part-fours true false = (1, refl)
part-fours false last = (0, refl)

parts-fours : (c : ℕ) (types : List SegmentType) → (n : ℕ) × (child_parts c types ≡ 4 * n)
parts-fours c [] = (0, refl)
parts-fours c (t ∷ ts) =
    let rest = parts-fours c ts in
    let own = part-fours (is_child_of c t) t.last_pointer in
    let all : child_parts c (t ∷ ts) ≡ cond (is_child_of c t) (child_part t) 0 + child_parts c ts = sum_by-cons (λ s. cond (is_child_of c s) (child_part s) 0) t ts in
    (own.0 + rest.0, sums _ _ _ _ _ all own.1 rest.1)
  where
    sums : (a x y m n : ℕ) → a ≡ x + y → x ≡ 4 * m → y ≡ 4 * n → a ≡ 4 * (m + n)
    sums a x y m n e f g = omega arith

begin-by : (c : ℕ) (types : List SegmentType) (o : Option SegmentType)
    → AreFours (cond (option_map_or (λ t. keeps_backward c t) o false) 10 6) (option_map_or (λ t. twin_part c t + child_parts c types) o 0)
begin-by c types None = inl (omega arith)
begin-by c types (Some p) = inr (let parts = parts-fours c types in (parts.0, ap (λ (n : ℕ). twin_part c p + n) parts.1))

-- behind the twin pointers a prefix is pointers
pub fours-begin : (types : List SegmentType) (c : ℕ) → AreFours (twins_end types c) (prefix_length types c)
fours-begin types c = begin-by c types (type_of types c)

-- where a prefix goes on, there is one more pointer
pub fours-more : (place end : ℕ) → place < end → AreFours place end → (place + 4 ≤ end) × AreFours (place + 4) end
fours-more place end below (inl past) = absurd (omega arith)
fours-more place end below (inr (zero, is)) = absurd (omega arith)
fours-more place end below (inr (suc n, is)) = (omega arith, inr (n, omega arith))

sum-zero : (x m y : ℕ) → 0 < m → x * m + y ≡ 0 → (x ≡ 0) × (y ≡ 0)
sum-zero x m y some is = (let least : x ≤ x * m = le-mul_of_pos_right x some in omega arith, omega arith)

power-some : (n : ℕ) → 0 < 256 ^ n
power-some zero = omega arith
power-some (suc n) = (let rest = power-some n in let all : 256 ^ suc n ≡ 256 ^ n * 256 = pow-suc 256 n in omega arith)

-- a number that is 0 has no byte that is not
zero-bytes : (n p : ℕ) (b : List ℕ) → number_at n b p ≡ 0 → (k : ℕ) → p ≤ k → k < p + n → slice_index b k ≡ 0
unfolding number_at
zero-bytes zero p b is k low high = absurd (omega arith)
zero-bytes (suc n) p b is k low high =
    let parts : (slice_index b p ≡ 0) × (number_at n b (suc p) ≡ 0) = sum-zero (slice_index b p) (256 ^ n) (number_at n b (suc p)) (power-some n) is in
    elim (cases_eq k p) [
      | inl same ↦ ap (slice_index b) same ∙ parts.0
      | inr other ↦ zero-bytes n (suc p) b parts.1 k (omega arith) (omega arith)
    ]

-- bytes that are 0 up to a number that is 0 are 0 up to its end
pub zeros-more : (b : List ℕ) (start p : ℕ) → ((i : ℕ) → start ≤ i → i < p → slice_index b i ≡ 0) → number_at 4 b p ≡ 0
    → (i : ℕ) → start ≤ i → i < p + 4 → slice_index b i ≡ 0
zeros-more b start p zeros is i low high = elim (cases_lt i p) [
  | inl below ↦ zeros i low below
  | inr above ↦ zero-bytes 4 p b is i above high
]

twins-are : (types : List SegmentType) (c : ℕ) (p : SegmentType) → type_of types c ≡ Some p → twins_end types c ≡ twin_part c p
twins-are types c p is = ap (λ (o : Option SegmentType). cond (option_map_or (λ t. keeps_backward c t) o false) 10 6) is

-- a pointer, if it is kept, stands in the prefix behind the twin pointers
abbrev IsBehindTwins : List SegmentType → ℕ → Option ℕ → Type 0
IsBehindTwins types c o = IfSome o (λ x. (twins_end types c ≤ x) × (x + 4 ≤ prefix_length types c))

first-behind : (block_size : ℕ) (types : List SegmentType) (c t : ℕ) (o : Option ℕ) → types_fit_from block_size types 1 types ≡ true
    → place_of types c (FirstChild t) ≡ o → IsBehindTwins types c o
first-behind block_size types c t None fit is = tt
first-behind block_size types c t (Some x) fit is =
    let h = placed block_size types c (FirstChild t) x fit is in
    let in_prefix = child_inside types c t h.0 in
    bound _ _ _ _ _ _ in_prefix.0 in_prefix.1 (twins-are types c h.0.parent h.0.of) (part_some h.0.own) h.1
  where
    bound : (m p q x y e : ℕ) → m ≤ p → p + y ≤ q → e ≡ m → 4 ≤ y → x ≡ p → (e ≤ x) × (x + 4 ≤ q)
    bound m p q x y e f g h i j = (omega arith, omega arith)

last-behind : (block_size : ℕ) (types : List SegmentType) (c t : ℕ) (o : Option ℕ) → types_fit_from block_size types 1 types ≡ true
    → place_of types c (LastChild t) ≡ o → IsBehindTwins types c o
last-behind block_size types c t None fit is = tt
last-behind block_size types c t (Some x) fit is =
    let h = placed block_size types c (LastChild t) x fit is in
    let in_prefix = child_inside types c t h.0 in
    bound _ _ _ _ _ _ in_prefix.0 in_prefix.1 (twins-are types c h.0.parent h.0.of) h.1 h.2
  where
    bound : (m p q x y e : ℕ) → m ≤ p → p + y ≤ q → e ≡ m → y ≡ 8 → x ≡ p + 4 → (e ≤ x) × (x + 4 ≤ q)
    bound m p q x y e f g h i j = (omega arith, omega arith)

zero-behind : (types : List SegmentType) (c : ℕ) (segment : List ℕ) (o : Option ℕ) → NamesNoChildren types c segment → IsBehindTwins types c o
    → option_map_or (λ place. number_at 4 segment place) o 0 ≡ 0
zero-behind types c segment None none behind = refl
zero-behind types c segment (Some x) none behind =
    let low = behind.0 in
    let high = behind.1 in
    number_zero 4 x segment (λ k l m. none k (omega arith) (omega arith))

-- then no first child is named
pub first-none : (block_size : ℕ) (frspc : FreeSpace) (types : List SegmentType) (c : ℕ) (segment : List ℕ) (t : ℕ) → IsTrue (well_formed block_size frspc types)
    → NamesNoChildren types c segment → pointer_of types c (FirstChild t) segment ≡ 0
first-none block_size frspc types c segment t fit none =
    zero-behind types c segment (place_of types c (FirstChild t)) none (first-behind block_size types c t (place_of types c (FirstChild t)) (types_fit block_size frspc types fit) refl)

-- nor a last one
pub last-none : (block_size : ℕ) (frspc : FreeSpace) (types : List SegmentType) (c : ℕ) (segment : List ℕ) (t : ℕ) → IsTrue (well_formed block_size frspc types)
    → NamesNoChildren types c segment → pointer_of types c (LastChild t) segment ≡ 0
last-none block_size frspc types c segment t fit none =
    zero-behind types c segment (place_of types c (LastChild t)) none (last-behind block_size types c t (place_of types c (LastChild t)) (types_fit block_size frspc types fit) refl)

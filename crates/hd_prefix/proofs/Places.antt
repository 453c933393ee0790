-- The places of the pointers of one type.
use Rattle.std.proofs.Common.{◌≡◌, ℕ, ◌+◌, ◌<◌, ◌≤◌, ◌≢◌, List, Bool, true, false, arith, ap, sym, ◌∙◌, refl, cond, ◌&&◌, Option, Some, None, inl, inr}
use Rattle.std.specs.Prelude.{option_map, IfSome, IsTrue, ◌==◌, ◌||◌}
use Rattle.std.specs.Option.{option_map_or}
use Rattle.std.proofs.lemmas.Bool.{and_parts, ne_eqb, cases_eq, cases_lt, cond-true}
use Rattle.std.proofs.lemmas.Option.{cond_some, same_Some}
use Rattle.hd_dbd.specs.Types.{SegmentType}
use Rattle.hd_dbd.specs.Hierarchy.{type_of}
use Rattle.hd_dbd.specs.Prefixes.{keeps_backward, twin_part, child_part, prefix_length, pointers_at}
use Rattle.hd_dbd.specs.declared.hierarchy.FreeSpace.{FreeSpace}
use Rattle.hd_dbd.specs.DatabaseRules.{types_fit_from, well_formed}
use Rattle.hd_dbd.proofs.Fitting.{types_fit}
use Rattle.hd_dbd.proofs.TypeLengths.{prefix-low}
use Rattle.hd_prefix.specs.declared.pointer.Pointer.{Pointer}
use Rattle.hd_prefix.specs.declared.pointer.Pointer.TheVariants.{TwinForward, TwinBackward, FirstChild, LastChild}
use Rattle.hd_prefix.specs.Pointers.{is_child, place_of, IsApart}
use Rattle.hd_prefix.specs.Fields.{pointer_of, twin_forward_of}
use Rattle.hd_bytes.specs.Numbers.{number_at}
use Rattle.hd_dbd.specs.Prefixes.{is_backward_kept, is_last_kept}
use Rattle.hd_prefix.proofs.Children.{IsChild, child_is, prefix_is, child_before, child_inside}

-- What is known of a pointer that stands at a place.
abbrev pub IsPlaced : List SegmentType → ℕ → Pointer → ℕ → Type 0
IsPlaced types c TwinForward x = (p : SegmentType) × (type_of types c ≡ Some p) × (x ≡ 2)
IsPlaced types c TwinBackward x = (p : SegmentType) × (type_of types c ≡ Some p) × (keeps_backward c p ≡ true) × (x ≡ 6)
IsPlaced types c (FirstChild t) x = IsChild types c t × (x ≡ pointers_at types t)
IsPlaced types c (LastChild t) x = (k : IsChild types c t) × (child_part k.own ≡ 8) × (x ≡ pointers_at types t + 4)

forward_by : (o : Option SegmentType) (x : ℕ) → option_map (λ _. 2) o ≡ Some x → (p : SegmentType) × (o ≡ Some p) × (x ≡ 2)
forward_by None x is = absurd (no is)
  where
    no : None ≡ Some x → ⊥
    no e = cc
forward_by (Some p) x is = (p, refl, sym (same_Some 2 x is))

backward_by : (c : ℕ) (o : Option SegmentType) → option_map_or (λ t. keeps_backward c t) o false ≡ true → (p : SegmentType) × (o ≡ Some p) × (keeps_backward c p ≡ true)
backward_by c None h = absurd (no h)
  where
    no : false ≡ true → ⊥
    no e = cc
backward_by c (Some p) h = (p, refl, h)

-- the parents of a type that is not the root's keep last child where the type says so
last_by : (t : ℕ) (o : Option SegmentType) (s : SegmentType) → 1 < t → o ≡ Some s → (t == 1 || option_map_or (λ child. child.last_pointer) o false) ≡ true → s.last_pointer ≡ true
last_by t o s later is h =
    let other : t ≢ 1 = λ e. omega arith in
    sym (ap (λ (b : Bool). b || s.last_pointer) (ne_eqb t 1 other))
    ∙ sym (ap (λ (o : Option SegmentType). t == 1 || option_map_or (λ child. child.last_pointer) o false) is) ∙ h

-- a pointer that is kept stands where its type says
pub placed : (block_size : ℕ) (types : List SegmentType) (c : ℕ) (pointer : Pointer) (x : ℕ) → types_fit_from block_size types 1 types ≡ true
    → place_of types c pointer ≡ Some x → IsPlaced types c pointer x
placed block_size types c TwinForward x fit is = forward_by (type_of types c) x is
placed block_size types c TwinBackward x fit is =
    let both = cond_some (is_backward_kept types c) 6 x is in
    let kept = backward_by c (type_of types c) both.0 in
    (kept.0, kept.1, kept.2, sym both.1)
placed block_size types c (FirstChild t) x fit is =
    let both = cond_some (is_child types c t) (pointers_at types t) x is in
    (child_is block_size types c t fit both.0, sym both.1)
placed block_size types c (LastChild t) x fit is =
    let both = cond_some (is_child types c t && is_last_kept types t) (pointers_at types t + 4) x is in
    let parts = and_parts (is_child types c t) (is_last_kept types t) both.0 in
    let k = child_is block_size types c t fit parts.0 in
    (k, cond-true k.own.last_pointer 8 4 (last_by t (type_of types t) k.own k.later k.is parts.1), sym both.1)

-- four bytes at least for each child type
pub part_some : (s : SegmentType) → 4 ≤ child_part s
part_some s = by s.last_pointer
  where
    by : (b : Bool) → 4 ≤ cond b 8 4
    by true = omega arith
    by false = omega arith

-- the twin pointers are ten bytes or six
pub twins_some : (c : ℕ) (p : SegmentType) → 6 ≤ twin_part c p
twins_some c p = by (keeps_backward c p)
  where
    by : (b : Bool) → 6 ≤ cond b 10 6
    by true = omega arith
    by false = omega arith

twins_both : (c : ℕ) (p : SegmentType) → keeps_backward c p ≡ true → twin_part c p ≡ 10
twins_both c p kept = cond-true (keeps_backward c p) 10 6 kept

-- a pointer stands behind the delete byte and ends inside the prefix
pub place_inside : (types : List SegmentType) (c : ℕ) (pointer : Pointer) (x : ℕ) → IsPlaced types c pointer x → (2 ≤ x) × (x + 4 ≤ prefix_length types c)
place_inside types c TwinForward x h =
    let size = prefix_is types c h.0 h.1 in
    let twins = twins_some c h.0 in
    let at = h.2 in
    (omega arith, bound _ _ _ _ size twins (omega arith))
  where
    bound : (l m n k : ℕ) → l ≡ m + n → 6 ≤ m → k ≤ 6 → k ≤ l
    bound l m n k e f g = omega arith
place_inside types c TwinBackward x h =
    let size = prefix_is types c h.0 h.1 in
    let twins = twins_both c h.0 h.2 in
    let at = h.3 in
    (omega arith, bound _ _ _ _ size twins (omega arith))
  where
    bound : (l m n k : ℕ) → l ≡ m + n → m ≡ 10 → k ≤ 10 → k ≤ l
    bound l m n k e f g = omega arith
place_inside types c (FirstChild t) x h =
    let in_prefix = child_inside types c t h.0 in
    bound _ _ _ _ _ in_prefix.0 in_prefix.1 (twins_some c h.0.parent) (part_some h.0.own) h.1
  where
    bound : (m p q x y : ℕ) → m ≤ p → p + y ≤ q → 6 ≤ m → 4 ≤ y → x ≡ p → (2 ≤ x) × (x + 4 ≤ q)
    bound m p q x y e f g h i = (omega arith, omega arith)
place_inside types c (LastChild t) x h =
    let in_prefix = child_inside types c t h.0 in
    bound _ _ _ _ _ in_prefix.0 in_prefix.1 (twins_some c h.0.parent) h.1 h.2
  where
    bound : (m p q x y : ℕ) → m ≤ p → p + y ≤ q → 6 ≤ m → y ≡ 8 → x ≡ p + 4 → (2 ≤ x) × (x + 4 ≤ q)
    bound m p q x y e f g h i = (omega arith, omega arith)

turned : (x y : ℕ) → IsApart x y → IsApart y x
turned x y (inl h) = inr h
turned x y (inr h) = inl h

-- the pointers to child types stand behind twin forward, and behind twin backward
behind_forward : (types : List SegmentType) (c t y : ℕ) → IsChild types c t → pointers_at types t ≤ y → 2 + 4 ≤ y
behind_forward types c t y k low =
    let in_prefix = child_inside types c t k in
    let twins = twins_some c k.parent in
    bound _ _ _ in_prefix.0 twins low
  where
    bound : (m p y : ℕ) → m ≤ p → 6 ≤ m → p ≤ y → 2 + 4 ≤ y
    bound m p y e f g = omega arith

behind_backward : (types : List SegmentType) (c t y : ℕ) (p : SegmentType) → IsChild types c t → type_of types c ≡ Some p → keeps_backward c p ≡ true
    → pointers_at types t ≤ y → 6 + 4 ≤ y
behind_backward types c t y p k is kept low =
    let in_prefix = child_inside types c t k in
    let same : p ≡ k.parent = same_Some p k.parent (sym is ∙ k.of) in
    let twins = twins_both c k.parent (sym (ap (keeps_backward c) same) ∙ kept) in
    bound _ _ _ in_prefix.0 twins low
  where
    bound : (m p y : ℕ) → m ≤ p → m ≡ 10 → p ≤ y → 6 + 4 ≤ y
    bound m p y e f g = omega arith

-- the pointers of one child type, and those of two
abbrev AreWithin : List SegmentType → ℕ → ℕ → ℕ → Type 0
AreWithin types c t x = (k : IsChild types c t) × (pointers_at types t ≤ x) × (x + 4 ≤ pointers_at types t + child_part k.own)

first_within : (types : List SegmentType) (c t x : ℕ) → IsPlaced types c (FirstChild t) x → AreWithin types c t x
first_within types c t x h = let some = part_some h.0.own in let at = h.1 in (h.0, omega arith, omega arith)

last_within : (types : List SegmentType) (c t x : ℕ) → IsPlaced types c (LastChild t) x → AreWithin types c t x
last_within types c t x h = let both = h.1 in let at = h.2 in (h.0, omega arith, omega arith)

within_apart : (types : List SegmentType) (c t u x y : ℕ) → t ≢ u → AreWithin types c t x → AreWithin types c u y → IsApart x y
within_apart types c t u x y other h k = elim (cases_lt t u) [
  | inl below ↦ inl (let first = child_before types c t u h.0 k.0 below in bound _ _ _ _ _ h.2 k.1 first)
  | inr above ↦ inr (let first = child_before types c u t k.0 h.0 (omega arith) in bound _ _ _ _ _ k.2 h.1 first)
]
  where
    bound : (p q d x y : ℕ) → x + 4 ≤ p + d → q ≤ y → p + d ≤ q → x + 4 ≤ y
    bound p q d x y e f g = omega arith

firsts_apart : (types : List SegmentType) (c t u x y : ℕ) → FirstChild t ≢ FirstChild u → AreWithin types c t x → AreWithin types c u y → IsApart x y
firsts_apart types c t u x y other h k = within_apart types c t u x y (λ e. other (ap FirstChild e)) h k

lasts_apart : (types : List SegmentType) (c t u x y : ℕ) → LastChild t ≢ LastChild u → AreWithin types c t x → AreWithin types c u y → IsApart x y
lasts_apart types c t u x y other h k = within_apart types c t u x y (λ e. other (ap LastChild e)) h k

first_last_apart : (types : List SegmentType) (c t u x y : ℕ) → IsPlaced types c (FirstChild t) x → IsPlaced types c (LastChild u) y → IsApart x y
first_last_apart types c t u x y h k = elim (cases_eq t u) [
  | inl same ↦ inl (let at = ap (pointers_at types) same in bound _ _ _ _ h.1 k.2 at)
  | inr other ↦ within_apart types c t u x y other (first_within types c t x h) (last_within types c u y k)
]
  where
    bound : (p q x y : ℕ) → x ≡ p → y ≡ q + 4 → p ≡ q → x + 4 ≤ y
    bound p q x y e f g = omega arith

forward_first : (types : List SegmentType) (c t x y : ℕ) → x ≡ 2 → AreWithin types c t y → IsApart x y
forward_first types c t x y is h = let low = behind_forward types c t y h.0 h.1 in inl (omega arith)

backward_first : (types : List SegmentType) (c t x y : ℕ) → IsPlaced types c TwinBackward x → AreWithin types c t y → IsApart x y
backward_first types c t x y is h = let low = behind_backward types c t y is.0 h.0 is.1 is.2 h.1 in let at = is.3 in inl (omega arith)

-- two pointers of one type stand apart
pub places_apart : (types : List SegmentType) (c : ℕ) (p q : Pointer) (x y : ℕ) → p ≢ q → IsPlaced types c p x → IsPlaced types c q y → IsApart x y
places_apart types c TwinForward TwinForward x y other h k = absurd (other refl)
places_apart types c TwinForward TwinBackward x y other h k = let e = h.2 in let f = k.3 in inl (omega arith)
places_apart types c TwinForward (FirstChild u) x y other h k = forward_first types c u x y h.2 (first_within types c u y k)
places_apart types c TwinForward (LastChild u) x y other h k = forward_first types c u x y h.2 (last_within types c u y k)
places_apart types c TwinBackward TwinForward x y other h k = let e = h.3 in let f = k.2 in inr (omega arith)
places_apart types c TwinBackward TwinBackward x y other h k = absurd (other refl)
places_apart types c TwinBackward (FirstChild u) x y other h k = backward_first types c u x y h (first_within types c u y k)
places_apart types c TwinBackward (LastChild u) x y other h k = backward_first types c u x y h (last_within types c u y k)
places_apart types c (FirstChild t) TwinForward x y other h k = turned y x (forward_first types c t y x k.2 (first_within types c t x h))
places_apart types c (FirstChild t) TwinBackward x y other h k = turned y x (backward_first types c t y x k (first_within types c t x h))
places_apart types c (FirstChild t) (FirstChild u) x y other h k = firsts_apart types c t u x y other (first_within types c t x h) (first_within types c u y k)
places_apart types c (FirstChild t) (LastChild u) x y other h k = first_last_apart types c t u x y h k
places_apart types c (LastChild t) TwinForward x y other h k = turned y x (forward_first types c t y x k.2 (last_within types c t x h))
places_apart types c (LastChild t) TwinBackward x y other h k = turned y x (backward_first types c t y x k (last_within types c t x h))
places_apart types c (LastChild t) (FirstChild u) x y other h k = turned y x (first_last_apart types c u t y x k h)
places_apart types c (LastChild t) (LastChild u) x y other h k = lasts_apart types c t u x y other (last_within types c t x h) (last_within types c u y k)

-- the place of a pointer of a database's type, where it is kept
pub inside_some : (block_size : ℕ) (frspc : FreeSpace) (types : List SegmentType) (c : ℕ) (pointer : Pointer) (o : Option ℕ) → IsTrue (well_formed block_size frspc types)
    → o ≡ place_of types c pointer → IfSome o (λ x. (2 ≤ x) × (x + 4 ≤ prefix_length types c))
inside_some block_size frspc types c pointer None fit is = tt
inside_some block_size frspc types c pointer (Some x) fit is =
    place_inside types c pointer x (placed block_size types c pointer x (types_fit block_size frspc types fit) (sym is))

apart_other : (block_size : ℕ) (types : List SegmentType) (c : ℕ) (p q : Pointer) (x : ℕ) (o : Option ℕ) → types_fit_from block_size types 1 types ≡ true
    → q ≢ p → IsPlaced types c p x → place_of types c q ≡ o → IfSome o (λ y. IsApart x y)
apart_other block_size types c p q x None fit other at is = tt
apart_other block_size types c p q x (Some y) fit other at is = places_apart types c p q x y (λ e. other (sym e)) at (placed block_size types c q y fit is)

pub apart_some : (block_size : ℕ) (frspc : FreeSpace) (types : List SegmentType) (c : ℕ) (pointer : Pointer) (o : Option ℕ) → IsTrue (well_formed block_size frspc types)
    → o ≡ place_of types c pointer → IfSome o (λ x. (other : Pointer) → other ≢ pointer → IfSome (place_of types c other) (λ y. IsApart x y))
apart_some block_size frspc types c pointer None fit is = tt
apart_some block_size frspc types c pointer (Some x) fit is =
    let all = types_fit block_size frspc types fit in
    λ (other : Pointer) (ne : other ≢ pointer). apart_other block_size types c pointer other x (place_of types c other) all ne (placed block_size types c pointer x all (sym is)) refl

-- the pointers to a child type stand low enough for a number of two bytes
pub pointers_low : (block_size : ℕ) (frspc : FreeSpace) (types : List SegmentType) (c t : ℕ) → IsTrue (well_formed block_size frspc types)
    → is_child types c t ≡ true → pointers_at types t + 4 ≤ 65535
pointers_low block_size frspc types c t fit child =
    let all = types_fit block_size frspc types fit in
    let k = child_is block_size types c t all child in
    let in_prefix = child_inside types c t k in
    sums _ _ _ in_prefix.1 (part_some k.own) (prefix-low block_size frspc types c fit)
  where
    sums : (p y q : ℕ) → p + y ≤ q → 4 ≤ y → q ≤ 65535 → p + 4 ≤ 65535
    sums p y q e f g = omega arith

-- the segments of a type have twin forward in their prefix, behind the delete byte
pub forward_kept : (types : List SegmentType) (c : ℕ) (own : SegmentType) (segment : List ℕ) → type_of types c ≡ Some own
    → (6 ≤ prefix_length types c) × (pointer_of types c TwinForward segment ≡ twin_forward_of segment)
forward_kept types c own segment is = (
  bound _ _ _ (prefix_is types c own is) (twins_some c own),
  ap (λ (o : Option SegmentType). option_map_or (λ place. number_at 4 segment place) (option_map (λ _. 2) o) 0) is,
)
  where
    bound : (l m n : ℕ) → l ≡ m + n → 6 ≤ m → 6 ≤ l
    bound l m n e f = omega arith

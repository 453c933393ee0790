-- The first of a chain of twins whose key is not below a key.
use Rattle.std.proofs.Common.{◌≡◌, ℕ, zero, suc, ◌+◌, ◌-◌, ◌<◌, ◌≤◌, List, [], length, take, drop, Bool, true, false, cond, Option, Some, None, IsTrue, ap, sym, ◌∙◌, refl, subst, arith}
use Rattle.std.specs.Prelude.{option_map, option_and_then}
use Rattle.std.specs.Option.{option_map_or}
use Rattle.std.specs.Ordering.{nat_cmp, is_lt}
use Rattle.std.specs.Cmp.Lexicographic.{slice_cmp}
use Rattle.std.proofs.lemmas.List.{drop-drop, drop-take, take-take}
use Rattle.hd_bytes.specs.Ranges.{bytes_at}
use Rattle.hd_bytes.specs.Numbers.{number_at}
use Rattle.hd_dbd.specs.declared.hierarchy.FreeSpace.{FreeSpace}
use Rattle.hd_dbd.specs.declared.hierarchy.Key.{Key}
use Rattle.hd_dbd.specs.Types.{SegmentType}
use Rattle.hd_dbd.specs.Segment.{Segment}
use Rattle.hd_dbd.specs.Hierarchy.{type_of, part_of}
use Rattle.hd_dbd.specs.Rows.{key_of}
use Rattle.hd_dbd.specs.DatabaseRules.{well_formed}
use Rattle.hd_dbd.specs.Lengths.{least_length}
use Rattle.hd_dbd.specs.Paths.{is_twin}
use Rattle.hd_dbd.specs.Prefixes.{twin_part, child_parts, prefix_length, is_backward_kept}
use Rattle.hd_dbd.specs.Searches.{first_from, least_within}
use Rattle.hd_dbd.specs.Forest.{Forest}
use Rattle.hd_dbd.proofs.TypeLengths.{type-lengths}
use Rattle.hd_prefix.specs.declared.pointer.Pointer.TheVariants.{TwinForward, TwinBackward}
use Rattle.hd_prefix.specs.Fields.{pointer_of, bytes_of, length_of, IsWhole}
use Rattle.hd_links.specs.Links.{Links, IsSegment, segment_at}
use Rattle.hd_links.specs.Pointers.{PointersAreTyped}
use Rattle.hd_links.specs.Placed.{Placed}
use Rattle.hd_links.specs.Steps.{rows_of, address_at, RowsHaveAddresses, StepsAreRows}
use Rattle.hd_forest.specs.declared.twins.TwinPlaces.{TwinPlaces}
use Rattle.hd_forest.specs.Twins.{twin_after, is_key_below, AreTwinsBelow, IsTwinFrom}
use Rattle.hd_forest.specs.TwinPlaces.{places_of, twin_places}

-- ---- one segment

-- some of the bytes that stand at a place
pub range_in : (s : List ℕ) (place len start n : ℕ) → start + n ≤ len → bytes_at (bytes_at s place len) start n ≡ bytes_at s (place + start) n
range_in s place len start n within =
    let e : len ≡ start + (len - start) = omega arith in
    ap (λ (l : ℕ). take n (drop start (take l (drop place s)))) e
    ∙ ap (λ (xs : List ℕ). take n xs) (drop-take start (len - start) (drop place s))
    ∙ take-take n (len - start) (drop start (drop place s)) (omega arith)
    ∙ ap (λ (xs : List ℕ). take n xs) (drop-drop start place s)

-- a key lies inside the shortest of its segments
key_fits : (size : ℕ) (frspc : FreeSpace) (types : List SegmentType) (c : ℕ) (t : SegmentType) (k : Key) → IsTrue (well_formed size frspc types) → type_of types c ≡ Some t
    → t.key ≡ Some k → (k.start - 1) + k.length ≤ least_length t
key_fits size frspc types c t k fit is has =
    let key = (type-lengths size frspc types c t fit is).key k has in
    inner k.start k.length (least_length t) key.1 key.2
  where
    inner : (start n len : ℕ) → 0 < start → start + n ≤ len + 1 → (start - 1) + n ≤ len
    inner start n len low high = omega arith

-- What stands at the places of a type's twin pointers and key.
pub record IsRead (types : List SegmentType) (c : ℕ) (places : TwinPlaces) (key s : List ℕ) : Type 0 where
  pub key_is : is_lt (slice_cmp nat_cmp (bytes_at s places.key places.length) key) ≡ is_key_below types key (record { code = c; bytes = bytes_of types c s })
  pub has_key : bytes_at s places.key places.length ≡ key_of types (record { code = c; bytes = bytes_of types c s })
  pub forward : number_at 4 s places.forward ≡ pointer_of types c TwinForward s
  pub backward : (place : ℕ) → places.backward ≡ Some place → (number_at 4 s place ≡ pointer_of types c TwinBackward s) × (is_backward_kept types c ≡ true)
  pub long : places.forward + 4 ≤ length s
  pub key_long : places.key + places.length ≤ length s

module _ (size : ℕ) (frspc : FreeSpace) (types : List SegmentType) (fit : IsTrue (well_formed size frspc types)) (c : ℕ) (key s : List ℕ)
    (whole : IsWhole types c s) (least : (t : SegmentType) → type_of types c ≡ Some t → least_length t ≤ length_of types c s) where
  read_at : (t : SegmentType) (k : Key) → type_of types c ≡ Some t → t.key ≡ Some k → IsRead types c (places_of types c k 2) key s
  read_at t k is has =
      let inside : (k.start - 1) + k.length ≤ length_of types c s = (let low = key_fits size frspc types c t k fit is has in let enough = least t is in omega arith) in
      let prefix : prefix_length types c ≡ twin_part c t + child_parts c types = ap (λ (o : Option SegmentType). option_map_or (λ t. twin_part c t + child_parts c types) o 0) is in
      let some : 6 ≤ twin_part c t = least_part c t in
      record {
        key_is = sym (ap (λ (o : Option SegmentType). option_map_or (λ t. option_map_or (λ k. is_lt (slice_cmp nat_cmp (part_of (bytes_of types c s) k.start k.length) key)) t.key false) o false) is
            ∙ ap (λ (o : Option Key). option_map_or (λ k. is_lt (slice_cmp nat_cmp (part_of (bytes_of types c s) k.start k.length) key)) o false) has
            ∙ ap (λ (xs : List ℕ). is_lt (slice_cmp nat_cmp xs key)) (range_in s (prefix_length types c) (length_of types c s) (k.start - 1) k.length inside));
        has_key = sym (ap (λ (o : Option SegmentType). option_map_or (λ t. option_map_or (λ k. part_of (bytes_of types c s) k.start k.length) t.key []) o []) is
            ∙ ap (λ (o : Option Key). option_map_or (λ k. part_of (bytes_of types c s) k.start k.length) o []) has
            ∙ range_in s (prefix_length types c) (length_of types c s) (k.start - 1) k.length inside);
        forward = sym (ap (λ (o : Option SegmentType). option_map_or (λ place. number_at 4 s place) (option_map (λ _. 2) o) 0) is);
        backward = λ place kept. (
          sym (ap (λ (o : Option ℕ). option_map_or (λ place. number_at 4 s place) o 0) kept),
          is_kept (is_backward_kept types c) place kept,
        );
        long = omega arith;
        key_long = omega arith;
      }
    where
      is_kept : (b : Bool) (place : ℕ) → cond b (Some 6) None ≡ Some place → b ≡ true
      is_kept true place e = refl
      is_kept false place e = cc

      sizes : (b : Bool) → 6 ≤ cond b 10 6
      sizes true = omega arith
      sizes false = omega arith

      least_part : (c : ℕ) (t : SegmentType) → 6 ≤ twin_part c t
      least_part c t = sizes _

  -- the places of a type are where its segments have twin forward and the key
  pub places_read : (places : TwinPlaces) → twin_places types c ≡ Some places → IsRead types c places key s
  places_read places are = by_type (type_of types c) refl are
    where
      some_places : (a b : TwinPlaces) → Some a ≡ Some b → a ≡ b
      some_places a b e = cc

      by_key : (t : SegmentType) (o : Option Key) → type_of types c ≡ Some t → t.key ≡ o
          → option_and_then (λ k. option_map (λ place. places_of types c k place) (option_map (λ _. 2) (type_of types c))) o ≡ Some places
          → IsRead types c places key s
      by_key t None is has e = cc
      by_key t (Some k) is has e =
          subst (λ p. IsRead types c p key s)
          (some_places (places_of types c k 2) places
          (sym (ap (λ (o : Option SegmentType). option_map (λ place. places_of types c k place) (option_map (λ _. 2) o)) is) ∙ e)) (read_at t k is has)

      by_type : (o : Option SegmentType) → type_of types c ≡ o
          → option_and_then (λ t. option_and_then (λ k. option_map (λ place. places_of types c k place)
          (option_map (λ _. 2) (type_of types c))) t.key) o ≡ Some places → IsRead types c places key s
      by_type None is e = cc
      by_type (Some t) is e = by_key t t.key is refl e

-- where a type has no key, no key is below
pub no_places : (types : List SegmentType) (key : List ℕ) (r : Segment) → twin_places types r.code ≡ None → is_key_below types key r ≡ false
no_places types key r are = by_type (type_of types r.code) refl are
  where
    by_key : (t : SegmentType) (o : Option Key) → type_of types r.code ≡ Some t
        → option_and_then (λ k. option_map (λ place. places_of types r.code k place) (option_map (λ _. 2) (type_of types r.code))) o ≡ None
        → option_map_or (λ k. is_lt (slice_cmp nat_cmp (part_of r.bytes k.start k.length) key)) o false ≡ false
    by_key t None is e = refl
    by_key t (Some k) is e =
        (let wrong : Some (places_of types r.code k 2) ≡ None
        = sym (ap (λ (o : Option SegmentType). option_map (λ place. places_of types r.code k place) (option_map (λ _. 2) o)) is) ∙ e in cc)

    by_type : (o : Option SegmentType) → type_of types r.code ≡ o
        → option_and_then (λ t. option_and_then (λ k. option_map (λ place. places_of types r.code k place)
        (option_map (λ _. 2) (type_of types r.code))) t.key) o ≡ None
        → option_map_or (λ t. option_map_or (λ k. is_lt (slice_cmp nat_cmp (part_of r.bytes k.start k.length) key)) t.key false) o false ≡ false
    by_type None is e = refl
    by_type (Some t) is e = by_key t t.key is e

-- ---- the chain

-- one step more
after_more : (m : Links) (n p : ℕ) → twin_after m (suc n) p ≡ m.forward (twin_after m n p)
after_more m zero p = refl
after_more m (suc n) p = after_more m n (m.forward p)

below_more : (types : List SegmentType) (m : Links) (key : List ℕ) (n p : ℕ) → AreTwinsBelow types m key n p → IsSegment m (twin_after m n p)
    → is_key_below types key (segment_at m (twin_after m n p)) ≡ true → AreTwinsBelow types m key (suc n) p
below_more types m key zero p all there below = (there, below, tt)
below_more types m key (suc n) p all there below = (all.0, all.1, below_more types m key n (m.forward p) all.2 there below)

-- the least that passes lies where it is looked for
least_range : (test : ℕ → Bool) (n i j : ℕ) → least_within test n i ≡ Some j → (i ≤ j) × (j < i + n)
least_range test zero i j e = cc
least_range test (suc n) i j e = by (test i) e (λ h. least_range test n (i + 1) j h)
  where
    by : (b : Bool) → cond b (Some i) (least_within test n (i + 1)) ≡ Some j → (least_within test n (i + 1) ≡ Some j → (i + 1 ≤ j) × (j < i + 1 + n)) → (i ≤ j) × (j < i + suc n)
    by true h more = (let z : i ≡ j = cc in (omega arith, omega arith))
    by false h more = (let R = more h in let a : i + 1 ≤ j = R.0 in let b : j < i + 1 + n = R.1 in (omega arith, omega arith))

-- So many twins from p on have keys below a key; the next one, if there is one, is a segment of their type, of which as many rows at
-- least stand before.
pub record HasPassed (types : List SegmentType) (m : Links) (f : Forest Placed) (key : List ℕ) (p turns twin : ℕ) : Type 0 where
  pub is : twin_after m turns p ≡ twin
  pub below : AreTwinsBelow types m key turns p
  pub there : 0 < twin → IsSegment m twin
  pub code : 0 < twin → m.code twin ≡ m.code p
  pub far : 0 < twin → (k : ℕ) × (turns ≤ k) × (k < length (rows_of f)) × (address_at f k ≡ twin)

module _ (types : List SegmentType) (m : Links) (f : Forest Placed) (A : RowsHaveAddresses m f) (key : List ℕ) (p : ℕ) where
  pub passes_none : IsSegment m p → HasPassed types m f key p 0 p
  passes_none there = record {
    is = refl;
    below = tt;
    there = λ some. there;
    code = λ some. refl;
    far = λ some. (let E = A.each p there in (E.0, omega arith, E.1, E.2));
  }

  pub passes_more : PointersAreTyped types m → ((i : ℕ) → i < length (rows_of f) → StepsAreRows types m f i) → (turns twin next : ℕ) → HasPassed types m f key p turns twin → 0 < twin
      → is_key_below types key (segment_at m twin) ≡ true → next ≡ m.forward twin → HasPassed types m f key p (turns + 1) next
  passes_more typed steps turns twin next H some below is =
      let one : turns + 1 ≡ suc turns = omega arith in
      let behind : m.forward (twin_after m turns p) ≡ next = ap m.forward H.is ∙ sym is in
      subst (λ n. HasPassed types m f key p n next) (sym one) (record {
        is = after_more m turns p ∙ behind;
        below = below_more types m key turns p H.below (subst (IsSegment m) (sym H.is) (H.there some)) (ap (λ a. is_key_below types key (segment_at m a)) H.is ∙ below);
        there = λ more. subst (IsSegment m) (sym is) (record { some = subst (λ x. 0 < x) is more; here = (typed.forward twin (H.there some) (subst (λ x. 0 < x) is more)).0 });
        code = λ more. ap m.code is ∙ (typed.forward twin (H.there some) (subst (λ x. 0 < x) is more)).1 ∙ H.code some;
        far = λ more. farther turns twin next (H.far some) is more;
      })
    where
      by_twin : (k n : ℕ) (o : Option ℕ) → first_from (λ j. is_twin types (rows_of f) k j) (k + 1) (length (rows_of f)) ≡ o → option_map_or (λ j. address_at f j) o 0 ≡ n → 0 < n
          → (j : ℕ) × (k + 1 ≤ j) × (j < length (rows_of f)) × (address_at f j ≡ n)
      by_twin k n None e h more = absurd (omega arith)
      by_twin k n (Some j) e h more =
          (let R = least_range (λ j. is_twin types (rows_of f) k j) (length (rows_of f) - (k + 1)) (k + 1) j e in
          let a : k + 1 ≤ j = R.0 in
          let b : j < k + 1 + (length (rows_of f) - (k + 1)) = R.1 in (j, a, omega arith, h))

      farther : (turns twin next : ℕ) → (k : ℕ) × (turns ≤ k) × (k < length (rows_of f)) × (address_at f k ≡ twin) → next ≡ m.forward twin → 0 < next
          → (j : ℕ) × (suc turns ≤ j) × (j < length (rows_of f)) × (address_at f j ≡ next)
      farther turns twin next F is more =
          (let low : turns ≤ F.0 = F.1 in
          let step = (steps F.0 F.2).twin in
          let J = by_twin F.0 next (first_from (λ j. is_twin types (rows_of f) F.0 j) (F.0 + 1) (length (rows_of f))) refl (sym step ∙ ap m.forward F.3 ∙ sym is) more in
          let high : F.0 + 1 ≤ J.0 = J.1 in (J.0, omega arith, J.2, J.3))

  -- behind the last twin all are below
  pub passed_all : (turns : ℕ) → HasPassed types m f key p turns 0 → IsTwinFrom types m key p 0
  passed_all turns H = record {
    after = turns;
    is = H.is;
    below = H.below;
    there = λ some. absurd (omega arith);
    ends = λ some. absurd (omega arith);
  }

  -- one that is not below is the first
  pub passed_to : (turns twin : ℕ) → HasPassed types m f key p turns twin → is_key_below types key (segment_at m twin) ≡ false → IsTwinFrom types m key p twin
  passed_to turns twin H not_below = record { after = turns; is = H.is; below = H.below; there = H.there; ends = λ some. not_below }

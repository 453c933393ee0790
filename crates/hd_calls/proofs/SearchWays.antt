-- The child type on the way down to a type, and the first child of that type.
use Rattle.std.proofs.Common.{Bool, true, false, ◌≡◌, ℕ, zero, suc, ◌+◌, ◌-◌, ◌<◌, ◌≤◌, List, [], ◌∷◌, length, map, arith, ap, sym, ◌∙◌, refl, subst, inl, inr, Option, Some, None}
use Rattle.std.specs.Prelude.{◌==◌, ◌||◌, ◌&&◌, is_some, unwrap_or, option_and_then, slice_index}
use Rattle.std.specs.Option.{option_map_or}
use Rattle.std.proofs.lemmas.Bool.{eq-eqb, eqb-true, false≢true, and_parts, and_from, or_cases, or_left, or_right}
use Rattle.std.proofs.lemmas.Option.{slice_get_within}
use Rattle.hd_dbd.specs.Types.{SegmentType}
use Rattle.hd_dbd.specs.Hierarchy.{type_of, parent_of, level_of, is_under, is_under_within}
use Rattle.hd_dbd.specs.Segment.{Segment}
use Rattle.hd_dbd.specs.Paths.{row_at, parent_row, end_of}
use Rattle.hd_dbd.proofs.LevelLaw.{Leveled, leveled, depth_below}
use Rattle.hd_dbd.proofs.Levels.{type_within}
use Rattle.hd_dbd.proofs.Names.{option_eq-Decides}
use Rattle.hd_calls.specs.Ssas.{Ssa, target_code}
use Rattle.hd_calls.specs.Satisfies.{is_child}
use Rattle.hd_calls.specs.Gets.{first_child}
use Rattle.hd_calls.proofs.Resolving.{type_level, under_level}
use Rattle.hd_calls.proofs.Searches.{least_some, least_no}
use Rattle.hd_calls.specs.Admits.{is_on_way, AreOnWay, Descend, IsSearch}
use Rattle.hd_calls.specs.SearchWays.{is_way_down, way_down, WaysDownAreUnique, FirstChildrenFollow}
use Rattle.hd_calls.proofs.OnPaths.{levels_are, way_spans, child_under, spanned_within}
use Rattle.hd_calls.proofs.Failing.{unnamed}

-- ---- types below types

-- what the parent's type is, or has above it, the type has above it
up_by : (types : List SegmentType) (n c p above : ℕ) → parent_of types c ≡ Some p → (p == above || is_under_within types n p above) ≡ true → is_under_within types (suc n) c above ≡ true
up_by types n c p above is more = ap (λ o. option_map_or (λ p. p == above || is_under_within types n p above) o false) is ∙ more

-- a type with another above it has a parent, which is the other or has it above it
pub record HasAbove (types : List SegmentType) (n c above : ℕ) : Type 0 where
  pub parent : ℕ
  pub is : parent_of types c ≡ Some parent
  pub more : (parent == above || is_under_within types n parent above) ≡ true

above_is : (types : List SegmentType) (n c above : ℕ) → is_under_within types (suc n) c above ≡ true → HasAbove types n c above
above_is types n c above u = by_parent (parent_of types c) refl u
  where
    by_parent : (o : Option ℕ) → parent_of types c ≡ o → option_map_or (λ p. p == above || is_under_within types n p above) o false ≡ true → HasAbove types n c above
    by_parent None is v = cc
    by_parent (Some p) is v = record { parent = p; is = is; more = v }

-- looking through more types finds no less
more_types : (types : List SegmentType) (m n c above : ℕ) → m ≤ n → is_under_within types m c above ≡ true → is_under_within types n c above ≡ true
more_types types zero n c above few u = cc
more_types types (suc m) zero c above few u = absurd (omega arith)
more_types types (suc m) (suc n) c above few u =
    let H = above_is types m c above u in
    up_by types n c H.parent above H.is (elim (or_cases (H.parent == above) (is_under_within types m H.parent above) H.more) [
      | inl t ↦ or_left (H.parent == above) _ t
      | inr v ↦ or_right (H.parent == above) _ (more_types types m n H.parent above (omega arith) v)
    ])

module _ (types : List SegmentType) (levels : Leveled types) where
  parent_level : (c p : ℕ) → parent_of types c ≡ Some p → level_of types p < level_of types c
  parent_level c p is = under_level types levels 1 c p (up_by types 0 c p p is (or_left (p == p) _ (eq-eqb p p refl)))

  -- no more types stand above a type than its level says
  fewer_types : (n c a : ℕ) → is_under_within types n c a ≡ true → is_under types c a ≡ true
  fewer_types n c a u = at_level (level_of types c) c (omega arith) n u
    where
      at_level : (l c : ℕ) → level_of types c ≤ l → (n : ℕ) → is_under_within types n c a ≡ true → is_under types c a ≡ true
      at_level l c few zero u = cc
      at_level zero c few (suc n) u = absurd (let H = above_is types n c a u in let low : level_of types H.parent < level_of types c = parent_level c H.parent H.is in omega arith)
      at_level (suc l) c few (suc n) u =
          let H = above_is types n c a u in
          let low : level_of types H.parent < level_of types c = parent_level c H.parent H.is in
          let fuel : level_of types c ≡ suc (level_of types c - 1) = omega arith in
          ap (λ m. is_under_within types m c a) fuel
          ∙ up_by types (level_of types c - 1) c H.parent a H.is (elim (or_cases (H.parent == a) (is_under_within types n H.parent a) H.more) [
            | inl t ↦ or_left (H.parent == a) _ t
            | inr v ↦ or_right (H.parent == a) _ (more_types types (level_of types H.parent) (level_of types c - 1) H.parent a (omega arith) (at_level l H.parent (omega arith) n v))
          ])

  pub parent_under : (c p : ℕ) → parent_of types c ≡ Some p → is_under types c p ≡ true
  parent_under c p is =
      let low : level_of types p < level_of types c = parent_level c p is in
      let fuel : level_of types c ≡ suc (level_of types c - 1) = omega arith in
      ap (λ n. is_under_within types n c p) fuel ∙ up_by types (level_of types c - 1) c p p is (or_left (p == p) _ (eq-eqb p p refl))

  under_through : (n t b a : ℕ) → level_of types t ≤ n → (t == b || is_under_within types n t b) ≡ true → is_under types b a ≡ true → is_under_within types n t a ≡ true
  under_through zero t b a few way u = elim (or_cases (t == b) (is_under_within types 0 t b) way) [
    | inl same ↦ (let low : level_of types a < level_of types b = under_level types levels (level_of types b) b a u in
        let e : level_of types t ≡ level_of types b = ap (level_of types) (eqb-true t b same) in absurd (omega arith))
    | inr none ↦ cc
  ]
  under_through (suc n) t b a few way u = elim (or_cases (t == b) (is_under_within types (suc n) t b) way) [
    | inl same ↦ (let e : t ≡ b = eqb-true t b same in
        more_types types (level_of types t) (suc n) t a few (subst (λ c. is_under types c a ≡ true) (sym e) u))
    | inr below ↦ (let H = above_is types n t b below in
        let low : level_of types H.parent < level_of types t = parent_level t H.parent H.is in
        up_by types n t H.parent a H.is (or_right (H.parent == a) _ (under_through n H.parent b a (omega arith) H.more u)))
  ]

  -- a type that another depends on is on the way to the other's parent
  pub way_up : (t p a : ℕ) → parent_of types t ≡ Some p → is_under types t a ≡ true → is_on_way types p a ≡ true
  way_up t p a is u =
      let low : level_of types p < level_of types t = parent_level t p is in
      let fuel : level_of types t ≡ suc (level_of types t - 1) = omega arith in
      let H = above_is types (level_of types t - 1) t a (subst (λ n. is_under_within types n t a ≡ true) fuel u) in
      let same : Some H.parent ≡ Some p = sym H.is ∙ is in
      let one : H.parent ≡ p = cc in
      elim (or_cases (H.parent == a) (is_under_within types (level_of types t - 1) H.parent a) H.more) [
        | inl here ↦ or_left (p == a) _ (eq-eqb p a (sym one ∙ eqb-true H.parent a here))
        | inr below ↦ or_right (p == a) _ (fewer_types (level_of types t - 1) p a (subst (λ c. is_under_within types (level_of types t - 1) c a ≡ true) one below))
      ]

  -- what a type on the way depends on is on the way
  pub way_through : (t b a : ℕ) → is_on_way types t b ≡ true → is_under types b a ≡ true → is_under types t a ≡ true
  way_through t b a way u = under_through (level_of types t) t b a (omega arith) way u

  are_on_way : (above : Option ℕ) (a : Ssa) (ssas : List Ssa) → Descend types above (a ∷ ssas) → AreOnWay types (target_code (a ∷ ssas)) (a ∷ ssas)
  are_on_way above a [] d = (or_left (a.code == a.code) _ (eq-eqb a.code a.code refl), tt)
  are_on_way above a (b ∷ ssas) d =
      let I : AreOnWay types (target_code (b ∷ ssas)) (b ∷ ssas) = are_on_way (Some a.code) b ssas d.1 in
      let place : length (a ∷ b ∷ ssas) - 1 ≡ suc (length (b ∷ ssas) - 1) = omega arith in
      let same : target_code (a ∷ b ∷ ssas) ≡ target_code (b ∷ ssas) = ap (λ n. slice_index (map (λ c. c.code) (a ∷ b ∷ ssas)) n) place in
      subst (λ t. AreOnWay types t (a ∷ b ∷ ssas)) (sym same)
      (or_right (target_code (b ∷ ssas) == a.code) _ (way_through (target_code (b ∷ ssas)) b.code a.code I.0 d.1.0), I)

  -- ---- one way down

  way_stands : (n t code : ℕ) → is_under_within types n t code ≡ true → (c : ℕ) × (parent_of types c ≡ Some code) × ((t == c || is_under_within types n t c) ≡ true)
  way_stands zero t code u = cc
  way_stands (suc n) t code u =
      let H = above_is types n t code u in
      elim (or_cases (H.parent == code) (is_under_within types n H.parent code) H.more) [
        | inl same ↦ (t, H.is ∙ ap (λ (x : ℕ). Some x) (eqb-true H.parent code same), or_left (t == t) _ (eq-eqb t t refl))
        | inr below ↦ (let I = way_stands n H.parent code below in (I.0, I.1, or_right (t == I.0) _ (up_by types n t H.parent I.0 H.is I.2)))
      ]

  -- of the types on the way to a type only one is on a level
  first_is : (m t c d : ℕ) → t ≡ c → (t == d || is_under_within types m t d) ≡ true → level_of types c ≡ level_of types d → c ≡ d
  first_is m t c d first two level_is = elim (or_cases (t == d) (is_under_within types m t d) two) [
    | inl second ↦ sym first ∙ eqb-true t d second
    | inr below ↦ absurd
        (let low : level_of types d < level_of types t = under_level types levels m t d below in
        let same : level_of types t ≡ level_of types d = ap (level_of types) first ∙ level_is in omega arith)
  ]

  one_way : (n m t c d : ℕ) → (t == c || is_under_within types n t c) ≡ true → (t == d || is_under_within types m t d) ≡ true → level_of types c ≡ level_of types d → c ≡ d
  one_way zero m t c d one two level_is = elim (or_cases (t == c) (is_under_within types 0 t c) one) [
    | inl first ↦ first_is m t c d (eqb-true t c first) two level_is
    | inr none ↦ cc
  ]
  one_way (suc n) m t c d one two level_is = elim (or_cases (t == c) (is_under_within types (suc n) t c) one) [
    | inl first ↦ first_is m t c d (eqb-true t c first) two level_is
    | inr above ↦ elim (or_cases (t == d) (is_under_within types m t d) two) [
      | inl second ↦ sym (first_is (suc n) t d c (eqb-true t d second) one (sym level_is))
      | inr below ↦ both m above below (λ l p first second. one_way n l p c d first second level_is)
    ]
  ]
    where
      both : (m : ℕ) → is_under_within types (suc n) t c ≡ true → is_under_within types m t d ≡ true
          → ((l p : ℕ) → (p == c || is_under_within types n p c) ≡ true → (p == d || is_under_within types l p d) ≡ true → c ≡ d) → c ≡ d
      both zero above below more = cc
      both (suc m) above below more =
          let C = above_is types n t c above in
          let D = above_is types m t d below in
          let same : Some D.parent ≡ Some C.parent = sym D.is ∙ C.is in
          let p : D.parent ≡ C.parent = cc in
          more m C.parent C.more (subst (λ q. (q == d || is_under_within types m q d) ≡ true) p D.more)

  -- a type that has a parent stands
  stands : (c p : ℕ) → parent_of types c ≡ Some p → (t : SegmentType) × (type_of types c ≡ Some t)
  stands c p is = by_type (type_of types c) refl is
    where
      by_type : (o : Option SegmentType) → type_of types c ≡ o → option_and_then (λ t. t.parent) o ≡ Some p → (t : SegmentType) × (type_of types c ≡ Some t)
      by_type None e h = cc
      by_type (Some t) e h = (t, e)

  -- children of one type are on one level
  child_level : (c p : ℕ) → parent_of types c ≡ Some p → level_of types c ≡ level_of types p + 1
  child_level c p is = (let T = stands c p is in type_level types levels c T.0 T.1 ∙ ap (λ o. depth_below types o + 1) is)

  pub down_parts : (target code c : ℕ) → is_way_down types target code c ≡ true → (parent_of types c ≡ Some code) × (is_on_way types target c ≡ true)
  down_parts target code c is = (let P = and_parts _ _ is in ((option_eq-Decides (parent_of types c) (Some code)).0 P.0, P.1))

  -- a way down is one of the types
  down_within : (target code c : ℕ) → is_way_down types target code c ≡ true → (1 ≤ c) × (c < length types + 1)
  down_within target code c is =
      let T = stands c code (down_parts target code c is).0 in
      let W = type_within types c T.0 T.1 in
      let low : 0 < c = W.0 in
      let less : c - 1 < length types = slice_get_within types (c - 1) T.0 W.1 in
      (omega arith, omega arith)

  down_one : (target code c d : ℕ) → is_way_down types target code c ≡ true → is_way_down types target code d ≡ true → c ≡ d
  down_one target code c d one two =
      let C = down_parts target code c one in
      let D = down_parts target code d two in
      one_way (level_of types target) (level_of types target) target c d C.1 D.1 (child_level c code C.0 ∙ sym (child_level d code D.0))

  pub down_found : (target code c : ℕ) → way_down types target code ≡ Some c → is_way_down types target code c ≡ true
  down_found target code c is = (least_some (is_way_down types target code) (length types + 1 - 1) 1 c is).2

  pub down_of : (target code c : ℕ) → is_way_down types target code c ≡ true → way_down types target code ≡ Some c
  down_of target code c is = by_found (way_down types target code) refl
    where
      by_found : (o : Option ℕ) → way_down types target code ≡ o → o ≡ Some c
      by_found None none =
          (let W = down_within target code c is in
          let low : 1 ≤ c = W.0 in
          let high : c < length types + 1 = W.1 in
          let wrong : is_way_down types target code c ≡ false = least_no (is_way_down types target code) (length types + 1 - 1) 1 none c low (omega arith) in
          absurd (false≢true (sym wrong ∙ is)))
      by_found (Some d) found = ap (λ (x : ℕ). Some x) (down_one target code d c (down_found target code d found) is)

  pub down_some : (target code : ℕ) → is_some (way_down types target code) ≡ is_under types target code
  down_some target code = by_under (is_under types target code) refl
    where
      by_under : (b : Bool) → is_under types target code ≡ b → is_some (way_down types target code) ≡ b
      by_under true u =
          (let W = way_stands (level_of types target) target code u in
          ap is_some (down_of target code W.0 (and_from _ _ ((option_eq-Decides (parent_of types W.0) (Some code)).1 W.1) W.2)))
      by_under false u = by_found (way_down types target code) refl
        where
          by_found : (o : Option ℕ) → way_down types target code ≡ o → is_some o ≡ false
          by_found None none = refl
          by_found (Some c) found =
              (let P = down_parts target code c (down_found target code c found) in
              absurd (false≢true (sym u ∙ way_through target c code P.1 (parent_under c code P.0))))

pub ways_down : WaysDownAreUnique
ways_down block_size frspc types target code formed =
    let levels = leveled block_size frspc types formed in
    (down_some types levels target code, λ c. (down_found types levels target code c, down_of types levels target code c))

pub on_way_all : (types : List SegmentType) (rows : List Segment) (ssas : List Ssa) → IsSearch types rows ssas → AreOnWay types (target_code ssas) ssas
on_way_all types rows [] search_ = tt
on_way_all types rows (a ∷ ssas) search_ = are_on_way types (levels_are types rows search_.over) None a ssas search_.descend

-- ---- the first child on the way

pub first_children : FirstChildrenFollow
first_children types rows ssas i c over within way j from to =
    unnamed types rows ssas j (λ e.
    let levels = levels_are types rows over in
    let D = down_parts types levels (target_code ssas) (row_at rows i).code c (down_found types levels (target_code ssas) (row_at rows i).code c way) in
    let inside : j < end_of types rows i = in_span (first_child types rows c i) refl to in
    let jw : j < length rows = spanned_within types rows i j within inside in
    let K = way_spans types rows over j c jw (subst (λ t. is_on_way types t c ≡ true) (sym e) D.1) in
    let up : K.0 ≤ j = K.1.spans.from in
    let kw : K.0 < length rows = omega arith in
    let own : parent_of types (row_at rows K.0).code ≡ Some (row_at rows i).code = ap (parent_of types) K.1.code ∙ D.0 in
    let P = child_under types rows over i K.0 j jw (record { from = from; to = inside }) K.1.spans own in
    none_before (first_child types rows c i) refl to K.0 P.1 (omega (arith, K.1.spans.from, inside)) up
    (and_from _ _ (eq-eqb (row_at rows K.0).code c K.1.code) ((option_eq-Decides (parent_row types rows K.0) (Some i)).1 P.0)))
  where
    in_span : (o : Option ℕ) → first_child types rows c i ≡ o → j < unwrap_or o (end_of types rows i) → j < end_of types rows i
    in_span None is below = below
    in_span (Some t) is below =
        (let L = least_some (λ k. (row_at rows k).code == c && is_child types rows (Some i) k) (end_of types rows i - (i + 1)) (i + 1) t is in
        omega (arith, L.0, L.1))

    none_before : (o : Option ℕ) → first_child types rows c i ≡ o → j < unwrap_or o (end_of types rows i) → (k : ℕ) → i < k → k < end_of types rows i → k ≤ j
        → ((row_at rows k).code == c && is_child types rows (Some i) k) ≡ true → ⊥
    none_before None is below k low high up passes =
        absurd (false≢true (sym (least_no (λ k. (row_at rows k).code == c && is_child types rows (Some i) k) (end_of types rows i - (i + 1)) (i + 1) is k (omega arith) (omega arith)) ∙ passes))
    none_before (Some t) is below k low high up passes =
        (let L = least_some (λ k. (row_at rows k).code == c && is_child types rows (Some i) k) (end_of types rows i - (i + 1)) (i + 1) t is in
        absurd (false≢true (sym (L.3 k (omega arith) (omega arith)) ∙ passes)))

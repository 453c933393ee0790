-- In a well-formed list of types each type's level is one more than its parent's.
use Rattle.std.proofs.Common.{◌≡◌, ℕ, zero, suc, ◌+◌, ◌-◌, ◌<◌, List, [], ◌∷◌, ◌++◌, length, get_or, true, false, arith, ap, sym, ◌∙◌, Option, Some, None, refl, subst, IsTrue}
use Rattle.std.specs.Prelude.{slice_get, slice_index, option_and_then}
use Rattle.std.specs.Option.{option_map_or}
use Rattle.std.proofs.lemmas.List.{length-append, get_or_at}
use Rattle.std.proofs.lemmas.Option.{slice_get_within, slice_get-get_or}
use Rattle.hd_dbd.specs.declared.hierarchy.FreeSpace.{FreeSpace}
use Rattle.hd_dbd.specs.Types.{SegmentType}
use Rattle.hd_dbd.specs.Segment.{Segment}
use Rattle.hd_dbd.specs.Hierarchy.{type_of, parent_of, weights_from, levels_of, level_of}
use Rattle.hd_dbd.specs.DatabaseRules.{well_formed}
use Rattle.hd_dbd.specs.Lengths.{length_fits}
use Rattle.hd_dbd.specs.Rows.{level, row_fits}
use Rattle.hd_dbd.proofs.Levels.{weights_front, type_of-later, type_within, level_of-later}
use Rattle.hd_dbd.proofs.Fitting.{IsEarlier, parent_part, type_of-fits, types_fit}

-- a parent's place is before the type's
abbrev IsBefore : Option ℕ → ℕ → Type 0
IsBefore None n = Unit {0}
IsBefore (Some p) n = p - 1 < n

-- what a parent weighs is kept
parent_kept : (w : SegmentType → ℕ) (so_far : List ℕ) (ts : List SegmentType) (parent : Option ℕ) → IsBefore parent (length so_far)
    → option_map_or (λ p. slice_index so_far (p - 1)) parent 0 ≡ option_map_or (λ p. slice_index (weights_from w so_far ts) (p - 1)) parent 0
parent_kept w so_far ts None below = refl
parent_kept w so_far ts (Some p) below = sym (weights_front w so_far ts (p - 1) below)

-- each type weighs its own weight and that of its parent
weights_at : (w : SegmentType → ℕ) (so_far : List ℕ) (ts : List SegmentType) (j : ℕ) (t : SegmentType) → slice_get ts j ≡ Some t → IsBefore t.parent (length so_far + j)
    → slice_index (weights_from w so_far ts) (length so_far + j) ≡ w t + option_map_or (λ p. slice_index (weights_from w so_far ts) (p - 1)) t.parent 0
weights_at w so_far [] j t is below = cc
weights_at w so_far (u ∷ us) zero t is below =
    let own : ℕ = w u + option_map_or (λ p. slice_index so_far (p - 1)) u.parent 0 in
    let same : u ≡ t = cc in
    let here : length so_far + 0 ≡ length so_far = omega arith in
    let earlier : IsBefore u.parent (length so_far) =
    subst (λ (n : ℕ). IsBefore u.parent n) here (subst (λ (v : SegmentType). IsBefore v.parent (length so_far + 0)) (sym same) below) in
    ap (λ (n : ℕ). slice_index (weights_from w so_far (u ∷ us)) n) here
    ∙ weights_front w (so_far ++ own ∷ []) us (length so_far) (omega (arith, length-append so_far (own ∷ [])))
    ∙ get_or_at so_far own [] 0 (length so_far) refl
    ∙ ap (λ (n : ℕ). w u + n) (parent_kept w so_far (u ∷ us) u.parent earlier)
    ∙ ap (λ (v : SegmentType). w v + option_map_or (λ p. slice_index (weights_from w so_far (u ∷ us)) (p - 1)) v.parent 0) same
weights_at w so_far (u ∷ us) (suc j) t is below =
    let own : ℕ = w u + option_map_or (λ p. slice_index so_far (p - 1)) u.parent 0 in
    let place : length so_far + suc j ≡ length (so_far ++ own ∷ []) + j = omega (arith, length-append so_far (own ∷ [])) in
    ap (λ (n : ℕ). slice_index (weights_from w so_far (u ∷ us)) n) place
    ∙ weights_at w (so_far ++ own ∷ []) us j t is (subst (λ (n : ℕ). IsBefore t.parent n) place below)

-- every type of a well-formed list has an earlier parent, or none
pub parents_earlier : (block_size : ℕ) (frspc : FreeSpace) (types : List SegmentType) (c : ℕ) (t : SegmentType) → IsTrue (well_formed block_size frspc types)
    → type_of types c ≡ Some t → IsEarlier t.parent c
parents_earlier block_size frspc types c t formed is =
    parent_part block_size types c t (type_of-fits block_size types c t (types_fit block_size frspc types formed) is)

before : (parent : Option ℕ) (c : ℕ) → IsEarlier parent c → IsBefore parent (c - 1)
before None c early = tt
before (Some p) c early = omega arith

parent_level : (types : List SegmentType) (parent : Option ℕ) (c : ℕ) → IsEarlier parent c
    → option_map_or (λ p. slice_index (levels_of types) (p - 1)) parent 0 ≡ option_map_or (λ p. level_of types p) parent 0
parent_level types None c early = refl
parent_level types (Some p) c early = sym (level_of-later types p (λ none. omega arith))

-- a type with such a parent has a level one more than its parent's
pub level_above : (types : List SegmentType) (c : ℕ) (t : SegmentType) → IsEarlier t.parent c → type_of types c ≡ Some t → level_of types c ≡ option_map_or (λ p. level_of types p) t.parent 0 + 1
level_above types c t early is =
    let within = type_within types c t is in
    let early_place : IsBefore t.parent (0 + (c - 1)) = subst (λ (n : ℕ). IsBefore t.parent n) (omega arith) (before t.parent c early) in
    let place : c - 1 ≡ 0 + (c - 1) = omega arith in
    level_of-later types c (λ none. omega (arith, within.0))
    ∙ ap (λ (n : ℕ). slice_index (levels_of types) n) place
    ∙ weights_at (λ _. 1) [] types (c - 1) t within.1 early_place
    ∙ ap (λ (n : ℕ). 1 + n) (parent_level types t.parent c early)
    ∙ omega arith

-- how deep the rows below a parent are: 0 for the roots
abbrev pub depth_below : List SegmentType → Option ℕ → ℕ
depth_below types parent = option_map_or (λ p. level_of types p) parent 0

-- What the levels of types are: one more than that of the parent, which is not 0; and so of rows.
pub record Leveled (types : List SegmentType) : Type 0 where
  pub own : (c : ℕ) (t : SegmentType) → type_of types c ≡ Some t → level_of types c ≡ depth_below types (parent_of types c) + 1
  pub above : (c p : ℕ) → parent_of types c ≡ Some p → 0 < level_of types p
  pub law : (r : Segment) → row_fits types r ≡ true → level types r ≡ depth_below types (parent_of types r.code) + 1
  pub parents : (r : Segment) (p : ℕ) → row_fits types r ≡ true → parent_of types r.code ≡ Some p → 0 < level_of types p

-- a row that fits has a type
pub typed : (types : List SegmentType) (r : Segment) → row_fits types r ≡ true → (t : SegmentType) × (type_of types r.code ≡ Some t)
typed types r fits = some_type (type_of types r.code) fits
  where
    some_type : (o : Option SegmentType) → option_map_or (λ t. length_fits t r.bytes) o false ≡ true → (t : SegmentType) × (o ≡ Some t)
    some_type None h = cc
    some_type (Some t) h = (t, refl)

type_at : (types : List SegmentType) (p : ℕ) (d : SegmentType) → 0 < p → p - 1 < length types → (u : SegmentType) × (type_of types p ≡ Some u)
type_at types p d some within =
    (get_or types (p - 1) d, type_of-later types p (λ none. omega arith) ∙ slice_get-get_or types (p - 1) d within)

-- a type that has a parent is one
parent_typed : (types : List SegmentType) (c p : ℕ) (o : Option SegmentType) → type_of types c ≡ o → option_and_then (λ (t : SegmentType). t.parent) o ≡ Some p
    → (t : SegmentType) × (type_of types c ≡ Some t) × (t.parent ≡ Some p)
parent_typed types c p None is above = cc
parent_typed types c p (Some t) is above = (t, is, above)

module _ (block_size : ℕ) (frspc : FreeSpace) (types : List SegmentType) (formed : IsTrue (well_formed block_size frspc types)) where
  type_level : (c : ℕ) (t : SegmentType) → type_of types c ≡ Some t → level_of types c ≡ depth_below types (parent_of types c) + 1
  type_level c t is =
      level_above types c t (parents_earlier block_size frspc types c t formed is) is
      ∙ ap (λ (o : Option SegmentType). option_map_or (λ p. level_of types p) (option_and_then (λ (u : SegmentType). u.parent) o) 0 + 1) (sym is)

  parent_level_some : (c p : ℕ) → parent_of types c ≡ Some p → 0 < level_of types p
  parent_level_some c p is =
      let t = parent_typed types c p (type_of types c) refl is in
      let early : (0 < p) × (p < c) = subst (λ (o : Option ℕ). IsEarlier o c) t.2 (parents_earlier block_size frspc types c t.0 formed t.1) in
      let within : c - 1 < length types = slice_get_within types (c - 1) t.0 (type_within types c t.0 t.1).1 in
      let u = type_at types p t.0 early.0 (omega arith) in
      let above : level_of types p ≡ option_map_or (λ q. level_of types q) u.0.parent 0 + 1 =
      level_above types p u.0 (parents_earlier block_size frspc types p u.0 formed u.1) u.1 in
      omega arith

-- the types of a well-formed list, and their rows, have such levels
pub leveled : (block_size : ℕ) (frspc : FreeSpace) (types : List SegmentType) → IsTrue (well_formed block_size frspc types) → Leveled types
leveled block_size frspc types formed = record {
  own = type_level block_size frspc types formed;
  above = parent_level_some block_size frspc types formed;
  law = λ r fits. (let t = typed types r fits in type_level block_size frspc types formed r.code t.0 t.1);
  parents = λ r p fits is. parent_level_some block_size frspc types formed r.code p is;
}

-- The type and the level of a code.
use Rattle.std.proofs.Common.{◌≡◌, ℕ, ◌+◌, ◌-◌, ◌<◌, ◌≤◌, List, [], ◌∷◌, ◌++◌, length, arith, refl, sym, ◌∙◌, Some, None, inl, inr}
use Rattle.std.specs.Prelude.{slice_get, slice_index, ◌==◌}
use Rattle.std.specs.Option.{option_map_or}
use Rattle.std.proofs.lemmas.List.{length-append, get_or_append_left, get_or_past}
use Rattle.std.proofs.lemmas.Bool.{cond-true, cond-false, eq-eqb, ne_eqb, cases_eq}
use Rattle.std.proofs.lemmas.Option.{slice_get_past}
use Rattle.hd_dbd.specs.Types.{SegmentType}
use Rattle.hd_dbd.specs.Hierarchy.{weights_from, levels_of, level_of, type_of}

-- how many weights there are
length-weights_from : (weight : SegmentType → ℕ) (so_far : List ℕ) (types : List SegmentType) → length (weights_from weight so_far types) ≡ length so_far + length types
length-weights_from weight so_far [] = omega arith
length-weights_from weight so_far (t ∷ ts) =
    let own : ℕ = weight t + option_map_or (λ p. slice_index so_far (p - 1)) t.parent 0 in
    omega (arith, length-weights_from weight (so_far ++ own ∷ []) ts, length-append so_far (own ∷ []))

-- what a list of weights has at its front is kept
pub weights_front : (w : SegmentType → ℕ) (so_far : List ℕ) (ts : List SegmentType) (i : ℕ) → i < length so_far → slice_index (weights_from w so_far ts) i ≡ slice_index so_far i
weights_front w so_far [] i below = refl
weights_front w so_far (t ∷ ts) i below =
    let own : ℕ = w t + option_map_or (λ p. slice_index so_far (p - 1)) t.parent 0 in
    weights_front w (so_far ++ own ∷ []) ts i (omega (arith, length-append so_far (own ∷ [])))
    ∙ get_or_append_left so_far (own ∷ []) 0 i below

pub length-levels_of : (types : List SegmentType) → length (levels_of types) ≡ length types
length-levels_of types = omega (arith, length-weights_from (λ _. 1) [] types)

-- the code 0 is no type's
pub type_of-zero : (types : List SegmentType) (c : ℕ) → c ≡ 0 → type_of types c ≡ None
type_of-zero types c none = cond-true (c == 0) None (slice_get types (c - 1)) (eq-eqb c 0 none)

-- any other code is looked up
pub type_of-later : (types : List SegmentType) (c : ℕ) → (c ≡ 0 → ⊥) → type_of types c ≡ slice_get types (c - 1)
type_of-later types c some = cond-false (c == 0) None (slice_get types (c - 1)) (ne_eqb c 0 some)

-- a code past the last is no type's
pub type_of-past : (types : List SegmentType) (c : ℕ) → (c ≡ 0 → ⊥) → length types ≤ c - 1 → type_of types c ≡ None
type_of-past types c some past = type_of-later types c some ∙ slice_get_past types (c - 1) past

-- a code that has a type is not 0, and the type stands in the list
pub type_within : (types : List SegmentType) (c : ℕ) (t : SegmentType) → type_of types c ≡ Some t → (0 < c) × (slice_get types (c - 1) ≡ Some t)
type_within types c t is = elim (cases_eq c 0) [
  | inl none ↦ (let no_type : None ≡ Some t = sym (type_of-zero types c none) ∙ is in cc)
  | inr some ↦ (omega arith, sym (type_of-later types c some) ∙ is)
]

pub level_of-zero : (types : List SegmentType) (c : ℕ) → c ≡ 0 → level_of types c ≡ 0
level_of-zero types c none = cond-true (c == 0) 0 (slice_index (levels_of types) (c - 1)) (eq-eqb c 0 none)

pub level_of-later : (types : List SegmentType) (c : ℕ) → (c ≡ 0 → ⊥) → level_of types c ≡ slice_index (levels_of types) (c - 1)
level_of-later types c some = cond-false (c == 0) 0 (slice_index (levels_of types) (c - 1)) (ne_eqb c 0 some)

pub level_of-past : (types : List SegmentType) (c : ℕ) → (c ≡ 0 → ⊥) → length types ≤ c - 1 → level_of types c ≡ 0
level_of-past types c some past =
    level_of-later types c some
    ∙ get_or_past (levels_of types) (c - 1) 0 (omega (arith, length-levels_of types))

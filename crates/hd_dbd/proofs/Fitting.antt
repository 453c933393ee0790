-- What holds of the types of a well-formed database.
use Rattle.std.proofs.Common.{◌≡◌, ℕ, zero, suc, ◌+◌, ◌-◌, ◌<◌, ◌≤◌, List, [], ◌∷◌, Bool, true, false, arith, ap, sym, ◌∙◌, refl, ◌&&◌, cond, Option, Some, None, IsTrue, inl, inr}
use Rattle.std.specs.Prelude.{slice_get, nat_le, nat_lt, is_none, not, ◌||◌, ◌==◌, ◌⊎◌}
use Rattle.std.specs.Option.{option_map_or}
use Rattle.std.proofs.lemmas.Bool.{and_parts, leb-true, ltb-true, cases_eq}
use Rattle.std.proofs.lemmas.Option.{slice_get_cases}
use Rattle.hd_dbd.specs.declared.hierarchy.FreeSpace.{FreeSpace}
use Rattle.hd_dbd.specs.Types.{SegmentType}
use Rattle.hd_dbd.specs.Hierarchy.{type_of, level_of}
use Rattle.hd_dbd.specs.Prefixes.{prefix_length, rounded_up, stored_size}
use Rattle.hd_dbd.specs.DatabaseRules.{level_fits, parent_fits, block_size_fits, type_fits, types_fit_from, well_formed}
use Rattle.hd_dbd.proofs.Levels.{type_of-later, type_within, level_of-zero, level_of-past}

-- each of the last types of a list keeps to its rules
fits_at : (block_size : ℕ) (types : List SegmentType) (c : ℕ) (ts : List SegmentType) (i : ℕ) (t : SegmentType)
    → types_fit_from block_size types c ts ≡ true → slice_get ts i ≡ Some t → type_fits block_size types (c + i) t ≡ true
fits_at block_size types c [] i t fit here = cc
fits_at block_size types c (u ∷ us) zero t fit here =
    let same : u ≡ t = cc in
    let at : c + 0 ≡ c = omega arith in
    ap (λ (n : ℕ). type_fits block_size types n t) at ∙ ap (λ (v : SegmentType). type_fits block_size types c v) (sym same) ∙ (and_parts _ _ fit).0
fits_at block_size types c (u ∷ us) (suc i) t fit here =
    let at : c + suc i ≡ c + 1 + i = omega arith in
    ap (λ (n : ℕ). type_fits block_size types n t) at ∙ fits_at block_size types (c + 1) us i t (and_parts _ _ fit).1 here

-- the type of a code keeps to its rules
pub type_of-fits : (block_size : ℕ) (types : List SegmentType) (c : ℕ) (t : SegmentType)
    → types_fit_from block_size types 1 types ≡ true → type_of types c ≡ Some t → type_fits block_size types c t ≡ true
type_of-fits block_size types c t fit here =
    let within = type_within types c t here in
    let at : c ≡ 1 + (c - 1) = (let some : 0 < c = within.0 in omega arith) in
    ap (λ (n : ℕ). type_fits block_size types n t) at ∙ fits_at block_size types 1 types (c - 1) t fit within.1

-- what the rules say of the level and the parent of a type
placed : (block_size : ℕ) (types : List SegmentType) (c : ℕ) (t : SegmentType) → type_fits block_size types c t ≡ true
    → (level_fits types c t && parent_fits c t) ≡ true
placed block_size types c t fit =
    let all = and_parts _ _ fit in
    let to_sizes = and_parts _ _ all.0 in
    let to_names = and_parts _ _ to_sizes.0 in
    let to_root_key = and_parts _ _ to_names.0 in
    (and_parts _ _ to_root_key.0).0

level_part : (block_size : ℕ) (types : List SegmentType) (c : ℕ) (t : SegmentType) → type_fits block_size types c t ≡ true → level_of types c ≤ 15
level_part block_size types c t fit =
    let both = and_parts (level_fits types c t) (parent_fits c t) (placed block_size types c t fit) in
    leb-true (level_of types c) 15 (ap (λ (b : Bool). not b || nat_le (level_of types c) 15) (sym both.1) ∙ both.0)

-- a parent's code is below the type's, and not 0
abbrev pub IsEarlier : Option ℕ → ℕ → Type 0
IsEarlier None c = Unit {0}
IsEarlier (Some p) c = (0 < p) × (p < c)

earlier : (c : ℕ) (parent : Option ℕ) → cond (c == 1) (is_none parent) (option_map_or (λ p. nat_lt 0 p && nat_lt p c) parent false) ≡ true → IsEarlier parent c
earlier c None fits = tt
earlier c (Some p) fits =
    let both = and_parts (nat_lt 0 p) (nat_lt p c) (no_root (c == 1) fits) in
    (ltb-true 0 p both.0, ltb-true p c both.1)
  where
    no_root : (root : Bool) → cond root false (nat_lt 0 p && nat_lt p c) ≡ true → (nat_lt 0 p && nat_lt p c) ≡ true
    no_root true h = cc
    no_root false h = h

-- a type that fits has an earlier parent, or none
pub parent_part : (block_size : ℕ) (types : List SegmentType) (c : ℕ) (t : SegmentType) → type_fits block_size types c t ≡ true → IsEarlier t.parent c
parent_part block_size types c t fit = earlier c t.parent (and_parts _ _ (placed block_size types c t fit)).1

-- and its segments fit into a block
pub size_part : (block_size : ℕ) (types : List SegmentType) (c : ℕ) (t : SegmentType) → type_fits block_size types c t ≡ true → stored_size types c + 8 ≤ block_size
size_part block_size types c t fit =
    let sizes = and_parts _ _ (and_parts _ _ fit).0 in
    leb-true (stored_size types c + 8) block_size (and_parts _ _ sizes.1).0

size_by : (block_size : ℕ) (types : List SegmentType) (c : ℕ) (o : Option SegmentType)
    → types_fit_from block_size types 1 types ≡ true → type_of types c ≡ o → stored_size types c ≤ block_size
size_by block_size types c None fit is =
    let none : stored_size types c ≡ 0 = ap (λ (o : Option SegmentType). option_map_or (λ t. rounded_up (prefix_length types c + t.length)) o 0) is in
    omega arith
size_by block_size types c (Some t) fit is =
    let small : stored_size types c + 8 ≤ block_size = size_part block_size types c t (type_of-fits block_size types c t fit is) in
    omega arith

-- each stored segment fits into a block
pub size_bound : (block_size : ℕ) (types : List SegmentType) (c : ℕ)
    → types_fit_from block_size types 1 types ≡ true → block_size_fits block_size ≡ true → stored_size types c ≤ 65535
size_bound block_size types c fit size =
    let bounds : (nat_le 128 block_size && nat_le block_size 32768) ≡ true = (and_parts _ _ size).0 in
    let most : block_size ≤ 32768 = leb-true block_size 32768 (and_parts (nat_le 128 block_size) (nat_le block_size 32768) bounds).1 in
    let small : stored_size types c ≤ block_size = size_by block_size types c (type_of types c) fit refl in
    omega arith

level_by : (block_size : ℕ) (types : List SegmentType) (c : ℕ) (o : Option SegmentType)
    → types_fit_from block_size types 1 types ≡ true → type_of types c ≡ o → (c ≡ 0) ⊎ (c ≡ 0 → ⊥) → level_of types c ≤ 15
level_by block_size types c (Some t) fit is place = level_part block_size types c t (type_of-fits block_size types c t fit is)
level_by block_size types c None fit is (inl none) =
    let low : level_of types c ≡ 0 = level_of-zero types c none in
    omega arith
level_by block_size types c None fit is (inr some) = elim (slice_get_cases types (c - 1)).1 [
  | inl found ↦ (let a_type : type_of types c ≡ Some found.0 = type_of-later types c some ∙ found.2 in cc)
  | inr past ↦ (let low : level_of types c ≡ 0 = level_of-past types c some past.0 in omega arith)
]

-- no type is below level 15
pub level_of-at_most : (block_size : ℕ) (types : List SegmentType) (c : ℕ) → types_fit_from block_size types 1 types ≡ true → level_of types c ≤ 15
level_of-at_most block_size types c fit = level_by block_size types c (type_of types c) fit refl (cases_eq c 0)

-- what is asked of a database's block size and of its types
pub size_fits : (block_size : ℕ) (frspc : FreeSpace) (types : List SegmentType) → IsTrue (well_formed block_size frspc types) → block_size_fits block_size ≡ true
size_fits block_size frspc types fit = (and_parts _ _ (and_parts _ _ (and_parts _ _ (and_parts _ _ fit).0).0).0).0

pub types_fit : (block_size : ℕ) (frspc : FreeSpace) (types : List SegmentType) → IsTrue (well_formed block_size frspc types) → types_fit_from block_size types 1 types ≡ true
types_fit block_size frspc types fit = (and_parts _ _ fit).1

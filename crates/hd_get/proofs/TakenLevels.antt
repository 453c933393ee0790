-- The levels of the rows that a get returns.
use Rattle.std.proofs.Common.{◌≡◌, ℕ, zero, suc, ◌+◌, ◌-◌, ◌<◌, ◌≤◌, List, [], ◌∷◌, ◌++◌, length, take, map, Bool, true, false, cond, Option, Some, None, refl, sym, ap, ap₂, subst, ◌∙◌, arith, inl, inr}
use Rattle.std.specs.Prelude.{◌==◌, ◌||◌, filter_map, IsTrue}
use Rattle.std.specs.Option.{option_map_or}
use Rattle.std.specs.List.{cons_option, list_all}
use Rattle.std.proofs.lemmas.Bool.{and_parts, or_cases, eqb-true}
use Rattle.hd_dbd.specs.declared.hierarchy.FreeSpace.{FreeSpace}
use Rattle.hd_dbd.specs.Types.{SegmentType}
use Rattle.hd_dbd.specs.Hierarchy.{parent_of, level_of, is_under, is_under_within}
use Rattle.hd_dbd.specs.DatabaseRules.{well_formed}
use Rattle.hd_dbd.specs.Segment.{Segment}
use Rattle.hd_dbd.specs.Paths.{row_at, level_at, path_of}
use Rattle.hd_dbd.proofs.LevelLaw.{Leveled, leveled}
use Rattle.hd_dbd.proofs.Fitting.{types_fit, level_of-at_most}
use Rattle.hd_calls.specs.Ssas.{Ssa, target_code, above_target}
use Rattle.hd_calls.specs.Satisfies.{on_path, is_named, satisfies, meets_on_path}
use Rattle.hd_calls.specs.Gets.{path_rows}
use Rattle.hd_dbd.specs.Views.{Setting}
use Rattle.hd_calls.proofs.Resolving.{under_level}
use Rattle.hd_calls.proofs.SoundGets.{target_more, above_more}
use Rattle.hd_position.specs.Kept.{row_on, Ascend, AreRowsOn}
use Rattle.hd_calls.specs.Admits.{AreOnWay, Descend, AreRowsOf}
use Rattle.hd_calls.proofs.OnPaths.{IsOnPath, spans_self, on_path_of, way_spans, some_level, levels_are}
use Rattle.hd_calls.proofs.SearchWays.{on_way_all}
use Rattle.hd_get.specs.Gets.{levels_taken}
use Rattle.hd_get.proofs.KeptRows.{on_path_level}

-- ---- levels that go down

-- the levels of the arguments with D
abbrev pub levels_among : List SegmentType → List Ssa → List ℕ
levels_among types as_ = filter_map (λ a. cond a.commands.path (Some (level_of types a.code)) None) as_

-- a type's parent has a level
parent_some : (types : List SegmentType) (L : Leveled types) (c p : ℕ) → parent_of types c ≡ Some p → 0 < level_of types p
parent_some types L c p is = L.above c p is

-- so has each type above a type
above_some : (types : List SegmentType) (L : Leveled types) (n c above : ℕ) → is_under_within types n c above ≡ true → 0 < level_of types above
above_some types L zero c above is = cc
above_some types L (suc n) c above is = by (parent_of types c) refl is (λ p u. above_some types L n p above u)
  where
    by : (o : Option ℕ) → parent_of types c ≡ o → option_map_or (λ p. p == above || is_under_within types n p above) o false ≡ true
        → ((p : ℕ) → is_under_within types n p above ≡ true → 0 < level_of types above) → 0 < level_of types above
    by None e h more = cc
    by (Some p) e h more = elim (or_cases (p == above) (is_under_within types n p above) h) [
      | inl same ↦ subst (λ x. 0 < level_of types x) (eqb-true p above same) (parent_some types L c p e)
      | inr under ↦ more p under
    ]

module _ (types : List SegmentType) (L : Leveled types) where
  below_level : (c above : ℕ) → is_under types c above ≡ true → level_of types above < level_of types c
  below_level c above u = under_level types L (level_of types c) c above u

  -- arguments whose types descend are no more than the levels from the first one's down to the last one's
  few_from : (a : Ssa) (ssas : List Ssa) (above : Option ℕ) → Descend types above (a ∷ ssas) → level_of types a.code + length ssas ≤ level_of types (target_code (a ∷ ssas))
  few_from a [] above d = omega arith
  few_from a (b ∷ ssas) above d =
      let less : level_of types a.code < level_of types b.code = below_level b.code a.code d.1.0 in
      let I : level_of types b.code + length ssas ≤ level_of types (target_code (b ∷ ssas)) = few_from b ssas (Some a.code) d.1 in
      let same : level_of types (target_code (a ∷ (b ∷ ssas))) ≡ level_of types (target_code (b ∷ ssas)) = ap (level_of types) (target_more a b ssas) in omega arith

  -- the levels that a get returns ascend to the last one's
  ascends : (a : Ssa) (ssas : List Ssa) (above : Option ℕ) (low high : ℕ) → Descend types above (a ∷ ssas) → low < level_of types a.code
      → level_of types (target_code (a ∷ ssas)) ≡ high → Ascend low high (levels_taken types (a ∷ ssas) high)
  ascends a [] above low high d more is = (let z : level_of types a.code ≡ high = is in (omega arith, omega arith, tt))
  ascends a (b ∷ ssas) above low high d more is =
      let less : level_of types a.code < level_of types b.code = below_level b.code a.code d.1.0 in
      let same : level_of types (target_code (a ∷ (b ∷ ssas))) ≡ level_of types (target_code (b ∷ ssas)) = ap (level_of types) (target_more a b ssas) in
      let few : level_of types b.code + length ssas ≤ level_of types (target_code (b ∷ ssas)) = few_from b ssas (Some a.code) d.1 in
      subst (λ (xs : List Ssa). Ascend low high (levels_among types xs ++ high ∷ [])) (sym (above_more a b ssas))
      (by a.commands.path (omega arith) (ascends b ssas (Some a.code) low high d.1 (omega arith) (sym same ∙ is)) (ascends b ssas (Some a.code) (level_of types a.code) high d.1 less (sym same ∙ is)))
    where
      by : (r : Bool) → level_of types a.code ≤ high → Ascend low high (levels_among types (above_target (b ∷ ssas)) ++ high ∷ [])
          → Ascend (level_of types a.code) high (levels_among types (above_target (b ∷ ssas)) ++ high ∷ [])
          → Ascend low high (cons_option (cond r (Some (level_of types a.code)) None) (levels_among types (above_target (b ∷ ssas))) ++ high ∷ [])
      by true most skip on = (more, most, on)
      by false most skip on = skip

-- a call has at most 15 arguments whose types descend
pub few_ssas : (block_size : ℕ) (frspc : FreeSpace) (types : List SegmentType) → IsTrue (well_formed block_size frspc types) → (ssas : List Ssa) → Descend types None ssas → length ssas ≤ 15
few_ssas block_size frspc types formed [] d = omega arith
few_ssas block_size frspc types formed (a ∷ []) d = omega arith
few_ssas block_size frspc types formed (a ∷ (b ∷ ssas)) d =
    let L = leveled block_size frspc types formed in
    let some : 0 < level_of types a.code = above_some types L (level_of types b.code) b.code a.code d.1.0 in
    let few : level_of types a.code + length (b ∷ ssas) ≤ level_of types (target_code (a ∷ (b ∷ ssas))) = few_from types L a (b ∷ ssas) None d in
    let most : level_of types (target_code (a ∷ (b ∷ ssas))) ≤ 15 = level_of-at_most block_size types (target_code (a ∷ (b ∷ ssas))) (types_fit block_size frspc types formed) in omega arith

-- ---- lists of levels

-- one argument more
pub among_more : (types : List SegmentType) (xs : List Ssa) (a : Ssa) → levels_among types (xs ++ a ∷ []) ≡ levels_among types xs ++ cons_option (cond a.commands.path (Some (level_of types a.code)) None) []
among_more types [] a = refl
among_more types (x ∷ xs) a = by x.commands.path (among_more types xs a)
  where
    by : (r : Bool) → levels_among types (xs ++ a ∷ []) ≡ levels_among types xs ++ cons_option (cond a.commands.path (Some (level_of types a.code)) None) []
        → cons_option (cond r (Some (level_of types x.code)) None) (levels_among types (xs ++ a ∷ []))
        ≡ cons_option (cond r (Some (level_of types x.code)) None) (levels_among types xs) ++ cons_option (cond a.commands.path (Some (level_of types a.code)) None) []
    by true e = ap (λ (ys : List ℕ). level_of types x.code ∷ ys) e
    by false e = e

-- there are no more levels than arguments
pub among_few : (types : List SegmentType) (xs : List Ssa) → length (levels_among types xs) ≤ length xs
among_few types [] = omega arith
among_few types (x ∷ xs) = by x.commands.path (among_few types xs)
  where
    by : (r : Bool) → length (levels_among types xs) ≤ length xs → length (cons_option (cond r (Some (level_of types x.code)) None) (levels_among types xs)) ≤ length (x ∷ xs)
    by true e = omega arith
    by false e = omega arith

-- ---- the rows of the levels

module _ (types : List SegmentType) (rows : List Segment) (over : AreRowsOf types rows) (i : ℕ) (within : i < length rows) where
  -- the row itself stands at its level
  own_level : row_on (path_of types rows i) (level_at types rows i) ≡ Some i
  own_level = (on_path_level types rows over i (row_at rows i).code i within (on_path_of types rows (row_at rows i).code i i within (spans_self types rows i within) refl)).0

  -- the rows of arguments on the way are those of their levels
  rows_on : (as_ : List Ssa) → AreOnWay types (row_at rows i).code as_
      → map (λ (k : ℕ). Some k) (filter_map (λ a. cond a.commands.path (on_path types rows a.code i) None) as_ ++ i ∷ [])
      ≡ map (λ l. row_on (path_of types rows i) l) (levels_among types as_ ++ level_at types rows i ∷ [])
  rows_on [] way = ap (λ (o : Option ℕ). o ∷ []) (sym own_level)
  rows_on (a ∷ as_) way = by a.commands.path (rows_on as_ way.1)
    where
      K : (k : ℕ) × IsOnPath types rows a.code i k
      K = way_spans types rows over i a.code within way.0

      found : on_path types rows a.code i ≡ Some K.0
      found = on_path_of types rows a.code i K.0 within K.1.spans K.1.code

      at_level : row_on (path_of types rows i) (level_of types a.code) ≡ Some K.0
      at_level = (on_path_level types rows over i a.code K.0 within found).0

      by : (r : Bool)
          → map (λ (k : ℕ). Some k) (filter_map (λ a. cond a.commands.path (on_path types rows a.code i) None) as_ ++ i ∷ [])
          ≡ map (λ l. row_on (path_of types rows i) l) (levels_among types as_ ++ level_at types rows i ∷ [])
          → map (λ (k : ℕ). Some k) (cons_option (cond r (on_path types rows a.code i) None) (filter_map (λ a. cond a.commands.path (on_path types rows a.code i) None) as_) ++ i ∷ [])
          ≡ map (λ l. row_on (path_of types rows i) l) (cons_option (cond r (Some (level_of types a.code)) None) (levels_among types as_) ++ level_at types rows i ∷ [])
      by false e = e
      by true e =
          ap (λ (o : Option ℕ). map (λ (k : ℕ). Some k) (cons_option o (filter_map (λ a. cond a.commands.path (on_path types rows a.code i) None) as_) ++ i ∷ [])) found
          ∙ ap₂ (λ (o : Option ℕ) (os : List (Option ℕ)). o ∷ os) (sym at_level) e

  front_way : (c n : ℕ) (as_ : List Ssa) → AreOnWay types c as_ → AreOnWay types c (take n as_)
  front_way c zero as_ w = tt
  front_way c (suc n) [] w = tt
  front_way c (suc n) (a ∷ as_) w = (w.0, front_way c n as_ w.1)

  -- The rows that a get returns are those of the levels, which ascend.
  pub rows_taken : (ssas : List Ssa) → Descend types None ssas → (0 < length ssas → (row_at rows i).code ≡ target_code ssas)
      → AreRowsOn (path_of types rows i) (levels_taken types ssas (level_at types rows i)) (path_rows types rows ssas i)
  rows_taken [] d code = rows_on [] tt
  rows_taken (a ∷ ssas) d code =
      rows_on (above_target (a ∷ ssas)) (front_way (row_at rows i).code (length (a ∷ ssas) - 1) (a ∷ ssas)
      (subst (λ c. AreOnWay types c (a ∷ ssas)) (sym (code (omega arith))) (on_way_all types rows (a ∷ ssas) (record { over = over; descend = d }))))

  pub levels_ascend : (ssas : List Ssa) → Descend types None ssas → (0 < length ssas → (row_at rows i).code ≡ target_code ssas)
      → Ascend 0 (level_at types rows i) (levels_taken types ssas (level_at types rows i))
  levels_ascend [] d code = (let some : 0 < level_at types rows i = some_level types rows over i within in (some, omega arith, tt))
  levels_ascend (a ∷ ssas) d code =
      ascends types (levels_are types rows over) a ssas None 0 (level_at types rows i) d first_level (sym (ap (level_of types) (code (omega arith))))
    where
      way : AreOnWay types (row_at rows i).code (a ∷ ssas)
      way = subst (λ c. AreOnWay types c (a ∷ ssas)) (sym (code (omega arith))) (on_way_all types rows (a ∷ ssas) (record { over = over; descend = d }))

      first_level : 0 < level_of types a.code
      first_level =
          (let K = way_spans types rows over i a.code within way.0 in
          let from : K.0 ≤ i = K.1.spans.from in
          subst (λ c. 0 < level_of types c) K.1.code (some_level types rows over K.0 (omega arith)))

-- a row that satisfies arguments is of the last one's type
pub satisfying_code : (s : Setting) (rows : List Segment) (ssas : List Ssa) (i : ℕ) → satisfies s rows ssas i ≡ true → 0 < length ssas → (row_at rows i).code ≡ target_code ssas
satisfying_code s rows ssas i is some =
    let named : (length ssas == 0 || is_named s.types rows ssas i) ≡ true = (and_parts _ _ is).0 in
    elim (or_cases (length ssas == 0) (is_named s.types rows ssas i) named) [
      | inl none ↦ absurd (let z : length ssas ≡ 0 = eqb-true (length ssas) 0 none in omega arith)
      | inr own ↦ eqb-true (row_at rows i).code (target_code ssas) (and_parts ((row_at rows i).code == target_code ssas) (list_all (λ a. meets_on_path s.types rows i a) ssas) own).0
    ]

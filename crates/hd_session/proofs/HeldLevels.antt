-- The rows at the levels of a PCB's path.
use Rattle.std.proofs.Common.{◌≡◌, ℕ, zero, suc, ◌-◌, ◌<◌, ◌≤◌, List, [], ◌∷◌, length, map, take, Bool, true, false, Some, None, refl, sym, ap, ◌∙◌, subst, arith, inl, inr}
use Rattle.std.specs.Prelude.{◌==◌, ◌||◌, find, slice_get, slice_index}
use Rattle.std.proofs.lemmas.Bool.{cases_Bool, eqb-true, eq-eqb, cond-true, cond-false}
use Rattle.hd_dbd.specs.Hierarchy.{Database, level_of}
use Rattle.hd_dbd.specs.Paths.{row_at, path_of}
use Rattle.hd_dbd.specs.Positions.{Position}
use Rattle.hd_dbd.specs.Forest.{Forest}
use Rattle.hd_calls.specs.Ssas.{Ssa}
use Rattle.hd_calls.specs.Steps.{deleted_row, lowest}
use Rattle.hd_volume.specs.Volumes.{VolumeState}
use Rattle.hd_links.specs.Placed.{Placed}
use Rattle.hd_links.specs.Steps.{rows_of, address_at}
use Rattle.hd_image.specs.Records.{links_of}
use Rattle.hd_forest.specs.Rows.{IsOnRow}
use Rattle.hd_position.specs.Kept.{Kept, AreRowsOn, row_on, path_passed}
use Rattle.hd_position.proofs.Lists.{first, rest}
use Rattle.hd_get.specs.Gets.{IsPositionIn}
use Rattle.hd_get.proofs.Grounds.{held_rows}
use Rattle.hd_get.proofs.KeptRows.{level_on, on_level, last_passed, path_row_is}
use Rattle.hd_update.proofs.Levels.{as_many}
use Rattle.hd_session.specs.Giving.{is_among}
use Rattle.hd_session.specs.Sessions.{lowest_level, deleted_level}

-- ---- lists

take_mapped : (g : ℕ → ℕ) (n : ℕ) (xs : List ℕ) → take n (map g xs) ≡ map g (take n xs)
take_mapped g zero xs = refl
take_mapped g (suc n) [] = refl
take_mapped g (suc n) (x ∷ xs) = ap (λ (ys : List ℕ). g x ∷ ys) (take_mapped g n xs)

mapped_long : (g : ℕ → ℕ) (xs : List ℕ) → length (map g xs) ≡ length xs
mapped_long g [] = refl
mapped_long g (x ∷ xs) = ap suc (mapped_long g xs)

-- so much of a list as there is
pub take_as_far : (n : ℕ) (xs : List ℕ) → length xs ≤ n → take n xs ≡ take (length xs) xs
take_as_far zero [] most = refl
take_as_far zero (x ∷ xs) most = absurd (omega arith)
take_as_far (suc n) [] most = refl
take_as_far (suc n) (x ∷ xs) most = ap (λ (ys : List ℕ). x ∷ ys) (take_as_far n xs (omega arith))

row_there : (path levels rows : List ℕ) (n : ℕ) → AreRowsOn path levels rows → n < length levels → row_on path (slice_index levels n) ≡ Some (slice_index rows n)
row_there path [] rows n e within = absurd (omega arith)
row_there path (l ∷ ls) [] n e within = cc
row_there path (l ∷ ls) (i ∷ is) zero e within = sym (ap (first None) e)
row_there path (l ∷ ls) (i ∷ is) (suc n) e within = row_there path ls is n (ap rest e) (omega arith)

first_there : (path levels rows : List ℕ) (i : ℕ) → AreRowsOn path levels rows → slice_get rows 0 ≡ Some i → row_on path (slice_index levels 0) ≡ Some i
first_there path levels [] i e is = cc
first_there path [] (j ∷ js) i e is = cc
first_there path (l ∷ ls) (j ∷ js) i e is = sym (ap (first None) e) ∙ is

-- A row that was found among some stands at one of their levels.
record IsThere (path levels : List ℕ) (test : ℕ → Bool) (i : ℕ) : Type 0 where
  level : ℕ
  among : is_among levels level ≡ true
  on : row_on path level ≡ Some i
  passes : test i ≡ true

same_is : (l : ℕ) → (l == l) ≡ true
same_is l = eq-eqb l l refl

or_late : (b c : Bool) → c ≡ true → (b || c) ≡ true
or_late true c e = refl
or_late false c e = e

one_some : (a b : ℕ) → Some a ≡ Some b → a ≡ b
one_some a b e = cc

found_there : (path levels rows : List ℕ) (test : ℕ → Bool) (i : ℕ) → AreRowsOn path levels rows → find test rows ≡ Some i → IsThere path levels test i
found_there path levels [] test i e is = cc
found_there path [] (j ∷ js) test i e is = cc
found_there path (l ∷ ls) (j ∷ js) test i e is = elim (cases_Bool (test j)) [
  | inl here ↦ (let same : j ≡ i = one_some j i (sym (cond-true (test j) (Some j) (find test js) here) ∙ is) in
      record { level = l; among = ap (λ b. b || is_among ls l) (same_is l); on = sym (ap (first None) e) ∙ ap (λ (x : ℕ). Some x) same; passes = ap test (sym same) ∙ here })
  | inr later ↦ (let I = found_there path ls js test i (ap rest e) (sym (cond-false (test j) (Some j) (find test js) later) ∙ is) in
      record { level = I.level; among = or_late (l == I.level) (is_among ls I.level) I.among; on = I.on; passes = I.passes })
]

-- ---- of a position

module _ (d : Database) (v : VolumeState) (f : Forest Placed) (k : Kept) (q : Position) (at : IsPositionIn d v f k q) where
  -- a path down to a level is that of the row there
  pub down_to : (l x : ℕ) → row_on (path_passed d.types (rows_of f) q.passed) l ≡ Some x → IsOnRow d.types (links_of d.types v) f (take l k.path) x
  down_to l x on =
      let over = held_rows d v f at.holds.volume at.holds.records in
      let M = last_passed d.types (rows_of f) q.passed l x on in
      let few : q.passed ≡ suc M.0 = M.1 in
      let most : q.passed ≤ length (rows_of f) = at.stands.within in
      let P = path_row_is d.types (rows_of f) over M.0 l x (omega arith) (subst (λ n. row_on (path_passed d.types (rows_of f) n) l ≡ Some x) M.1 on) in
      let from : x ≤ M.0 = P.spans.from in
      record {
        holds = at.holds.records;
        within = omega arith;
        is =
            ap (take l) (at.stands.path ∙ ap (λ n. map (λ j. address_at f j) (path_passed d.types (rows_of f) n)) M.1)
            ∙ take_mapped (λ j. address_at f j) l (path_of d.types (rows_of f) M.0)
            ∙ ap (map (λ j. address_at f j)) (sym P.path);
      }

  -- at each of its levels there is one
  pub some_at : (l : ℕ) → 0 < l → l ≤ length k.path → (x : ℕ) × (row_on (path_passed d.types (rows_of f) q.passed) l ≡ Some x)
  some_at l some most =
      let long : length k.path ≡ length (path_passed d.types (rows_of f) q.passed)
      = ap (λ (xs : List ℕ). length xs) at.stands.path ∙ mapped_long (λ j. address_at f j) (path_passed d.types (rows_of f) q.passed) in
      on_level (path_passed d.types (rows_of f) q.passed) l some (omega arith)

  -- the lowest held row
  pub lowest_at : 0 < length k.held → row_on (path_passed d.types (rows_of f) q.passed) (lowest_level k.held) ≡ Some (lowest q.held)
  lowest_at some =
      let many : length q.held ≡ length k.held = as_many (path_passed d.types (rows_of f) q.passed) k.held q.held at.stands.held in
      row_there (path_passed d.types (rows_of f) q.passed) k.held q.held (length k.held - 1) at.stands.held (omega arith)
      ∙ ap (λ (n : ℕ). Some (slice_index q.held (n - 1))) (sym many)

  -- the row that DLET takes
  pub deleted_at : (ssas : List Ssa) (i : ℕ) → deleted_row (rows_of f) ssas q.held ≡ Some i → row_on (path_passed d.types (rows_of f) q.passed) (deleted_level d.types ssas k.held) ≡ Some i
  deleted_at [] i is = first_there (path_passed d.types (rows_of f) q.passed) k.held q.held i at.stands.held is
  deleted_at (a ∷ ssas) i is =
      let path : List ℕ = path_passed d.types (rows_of f) q.passed in
      let F = found_there path k.held q.held (λ j. (row_at (rows_of f) j).code == a.code) i at.stands.held is in
      let over = held_rows d v f at.holds.volume at.holds.records in
      let M = last_passed d.types (rows_of f) q.passed F.level i F.on in
      let few : q.passed ≡ suc M.0 = M.1 in
      let most : q.passed ≤ length (rows_of f) = at.stands.within in
      let P = path_row_is d.types (rows_of f) over M.0 F.level i (omega arith) (subst (λ n. row_on (path_passed d.types (rows_of f) n) F.level ≡ Some i) M.1 F.on) in
      let level : F.level ≡ level_of d.types a.code = sym P.level ∙ ap (level_of d.types) (eqb-true (row_at (rows_of f) i).code a.code F.passes) in
      let own : deleted_level d.types (a ∷ ssas) k.held ≡ level_of d.types a.code
      = cond-true (is_among k.held (level_of d.types a.code)) (level_of d.types a.code) 0 (subst (λ l. is_among k.held l ≡ true) level F.among) in
      ap (row_on path) (own ∙ sym level) ∙ F.on

  -- no row stands below the last
  pub at_most : (l x : ℕ) → row_on (path_passed d.types (rows_of f) q.passed) l ≡ Some x → l ≤ length k.path
  at_most l x on =
      let long : length k.path ≡ length (path_passed d.types (rows_of f) q.passed)
      = ap (λ (xs : List ℕ). length xs) at.stands.path ∙ mapped_long (λ j. address_at f j) (path_passed d.types (rows_of f) q.passed) in
      let few : l ≤ length (path_passed d.types (rows_of f) q.passed) = level_on (path_passed d.types (rows_of f) q.passed) l x on in
      omega arith

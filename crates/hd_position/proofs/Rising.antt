-- What is kept stands for moved numbers, where rows go in.
use Rattle.std.proofs.Common.{◌≡◌, ℕ, zero, suc, ◌+◌, ◌≤◌, List, [], ◌∷◌, length, arith, ap, ap₂, sym, ◌∙◌, refl, subst, inl, inr, Option, Some, None}
use Rattle.std.specs.Prelude.{nat_lt, map, slice_get, option_map}
use Rattle.std.proofs.lemmas.Bool.{cases_lt, cond-true, cond-false, lt-ltb, le-ltb}
use Rattle.hd_dbd.specs.Types.{SegmentType}
use Rattle.hd_dbd.specs.Segment.{Segment}
use Rattle.hd_dbd.specs.Paths.{path_of}
use Rattle.hd_dbd.specs.Positions.{Position}
use Rattle.hd_dbd.specs.Forest.{Forest}
use Rattle.hd_links.specs.Placed.{Placed}
use Rattle.hd_links.specs.Steps.{rows_of, address_at, path_at}
use Rattle.hd_calls.specs.Moves.{number_after_insert, passed_after_insert, position_after_insert}
use Rattle.hd_position.specs.Kept.{Kept, StandsFor, path_passed, row_on}
use Rattle.hd_position.proofs.Lists.{first, rest}
use Rattle.hd_position.proofs.Splices.{IsSpliced, path_rises, rises, stays}

-- ---- lists

pub get_map : (g : ℕ → ℕ) (xs : List ℕ) (i : ℕ) → slice_get (map g xs) i ≡ option_map g (slice_get xs i)
get_map g [] i = refl
get_map g (x ∷ xs) zero = refl
get_map g (x ∷ xs) (suc i) = get_map g xs i

pub row_on_map : (g : ℕ → ℕ) (path : List ℕ) (l : ℕ) → row_on (map g path) l ≡ option_map g (row_on path l)
row_on_map g path zero = refl
row_on_map g path (suc l) = get_map g path l

-- held rows, by their levels
pub held_map : (g : ℕ → ℕ) (path held levels : List ℕ) → map (λ (i : ℕ). Some i) held ≡ map (λ l. row_on path l) levels
    → map (λ (i : ℕ). Some i) (map g held) ≡ map (λ l. row_on (map g path) l) levels
held_map g path [] [] e = refl
held_map g path [] (l ∷ ls) e = cc
held_map g path (x ∷ xs) [] e = cc
held_map g path (x ∷ xs) (l ∷ ls) e =
    ap₂ (λ (o : Option ℕ) (os : List (Option ℕ)). o ∷ os)
    (ap (option_map g) (ap (first None) e) ∙ sym (row_on_map g path l))
    (held_map g path xs ls (ap rest e))

pub map_both_ways : (g h : ℕ → ℕ) (xs : List ℕ) (k : ℕ → ℕ) → ((x : ℕ) → g (k x) ≡ h x) → map g (map k xs) ≡ map h xs
map_both_ways g h [] k e = refl
map_both_ways g h (x ∷ xs) k e = ap₂ (λ (y : ℕ) (ys : List ℕ). y ∷ ys) (e x) (map_both_ways g h xs k e)

module _ (types : List SegmentType) (few many : List Segment) (n k : ℕ) (S : IsSpliced types few many n k) where
  pub passed_rises : (q : ℕ) → path_passed types many (passed_after_insert n k q) ≡ map (number_after_insert n k) (path_passed types few q)
  passed_rises zero = ap (path_passed types many) (cond-false (nat_lt n 0) (0 + k) 0 (le-ltb n 0 (omega arith)))
  passed_rises (suc i) = ap (path_passed types many) one ∙ path_rises types few many n k S i
    where
      one : passed_after_insert n k (suc i) ≡ suc (number_after_insert n k i)
      one = elim (cases_lt i n) [
        | inl l ↦ cond-false (nat_lt n (suc i)) (suc i + k) (suc i) (le-ltb n (suc i) (omega arith)) ∙ ap suc (sym (stays n k i l))
        | inr l ↦ cond-true (nat_lt n (suc i)) (suc i + k) (suc i) (lt-ltb n (suc i) (omega arith)) ∙ (let e : suc i + k ≡ suc (i + k) = omega arith in e) ∙ ap suc (sym (rises n k i l))
      ]

passed_within : (n k q b c : ℕ) → q ≤ b → c ≡ b + k → passed_after_insert n k q ≤ c
passed_within n k q b c l e = elim (cases_lt n q) [
  | inl w ↦ subst (λ x. x ≤ c) (sym (cond-true (nat_lt n q) (q + k) q (lt-ltb n q w))) (omega arith)
  | inr w ↦ subst (λ x. x ≤ c) (sym (cond-false (nat_lt n q) (q + k) q (le-ltb n q w))) (omega arith)
]

module _ (types : List SegmentType) (f f2 : Forest Placed) (n k : ℕ) (S : IsSpliced types (rows_of f) (rows_of f2) n k)
    (at_risen : (x : ℕ) → address_at f2 (number_after_insert n k x) ≡ address_at f x) (more : length (rows_of f2) ≡ length (rows_of f) + k) where
  -- the paths by addresses stay
  pub path_stays : (i : ℕ) → path_at types f2 (number_after_insert n k i) ≡ path_at types f i
  path_stays i =
      ap (map (λ j. address_at f2 j)) (path_rises types (rows_of f) (rows_of f2) n k S i)
      ∙ map_both_ways (λ j. address_at f2 j) (λ j. address_at f j) (path_of types (rows_of f) i) (number_after_insert n k) at_risen

  pub stands_rises : (K : Kept) (q : Position) → StandsFor types f K q → StandsFor types f2 K (position_after_insert n k q)
  stands_rises K q F =
      let path : path_passed types (rows_of f2) (passed_after_insert n k q.passed) ≡ map (number_after_insert n k) (path_passed types (rows_of f) q.passed) = passed_rises types (rows_of f) (rows_of f2) n k S q.passed in
      record {
        within = passed_within n k q.passed (length (rows_of f)) (length (rows_of f2)) F.within more;
        path = F.path ∙ sym (ap (map (λ j. address_at f2 j)) path ∙ map_both_ways (λ j. address_at f2 j) (λ j. address_at f j) (path_passed types (rows_of f) q.passed) (number_after_insert n k) at_risen);
        standing = ap (option_map (number_after_insert n k)) F.standing ∙ sym (row_on_map (number_after_insert n k) (path_passed types (rows_of f) q.passed) K.standing) ∙ sym (ap (λ p. row_on p K.standing) path);
        last = F.last;
        parent = ap (option_map (number_after_insert n k)) F.parent ∙ sym (row_on_map (number_after_insert n k) (path_passed types (rows_of f) q.passed) K.parent) ∙ sym (ap (λ p. row_on p K.parent) path);
        held = held_map (number_after_insert n k) (path_passed types (rows_of f) q.passed) q.held K.held F.held ∙ sym (ap (λ p. map (λ l. row_on p l) K.held) path);
        standing_level = F.standing_level;
        parent_level = F.parent_level;
        held_levels = F.held_levels;
      }

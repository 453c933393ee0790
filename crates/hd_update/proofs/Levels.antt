-- The rows at the levels of a PCB's path that it holds.
use Rattle.std.proofs.Common.{◌≡◌, ℕ, zero, suc, ◌+◌, ◌<◌, ◌≤◌, List, [], ◌∷◌, ◌++◌, length, take, refl, ap, sym, ◌∙◌, arith, Some, None}
use Rattle.std.specs.Prelude.{slice_index, option_map}
use Rattle.hd_dbd.specs.Types.{SegmentType}
use Rattle.hd_dbd.specs.Positions.{Position}
use Rattle.hd_dbd.specs.Forest.{Forest}
use Rattle.hd_links.specs.Links.{Links}
use Rattle.hd_links.specs.Placed.{Placed, Holds}
use Rattle.hd_links.specs.Steps.{rows_of, address_at}
use Rattle.hd_position.specs.Kept.{Kept, StandsFor, AreRowsOn, path_passed, row_on}
use Rattle.hd_position.proofs.Lists.{first, rest}
use Rattle.hd_position.proofs.Splices.{AllBelow, below_more}
use Rattle.hd_position.proofs.Rising.{row_on_map}
use Rattle.hd_position.proofs.Falling.{get_below}
use Rattle.hd_position.proofs.Leaving.{passed_below}
use Rattle.hd_update.specs.Held.{held_row, held_rows, IsAtLevel}

-- as many rows as levels
pub as_many : (path levels rows : List ℕ) → AreRowsOn path levels rows → length rows ≡ length levels
as_many path [] [] e = refl
as_many path [] (i ∷ is) e = cc
as_many path (l ∷ ls) [] e = cc
as_many path (l ∷ ls) (i ∷ is) e = (let more : length is ≡ length ls = as_many path ls is (ap rest e) in omega arith)

-- the row at a level
row_there : (path levels rows : List ℕ) (n : ℕ) → AreRowsOn path levels rows → n < length levels → row_on path (slice_index levels n) ≡ Some (slice_index rows n)
row_there path [] rows n e within = absurd (omega arith)
row_there path (l ∷ ls) [] n e within = cc
row_there path (l ∷ ls) (i ∷ is) zero e within = sym (ap (first None) e)
row_there path (l ∷ ls) (i ∷ is) (suc n) e within = row_there path ls is n (ap rest e) (omega arith)

-- what stands on the path of the rows passed is a row
pub row_below : (bound : ℕ) (path : List ℕ) (level i : ℕ) → AllBelow bound path → row_on path level ≡ Some i → i < bound
row_below bound path zero i below e = cc
row_below bound path (suc l) i below e = get_below bound path l i below e

-- at the level of a held row it stands on the path
pub at_level : (types : List SegmentType) (m : Links) (f : Forest Placed) (k : Kept) (q : Position) (n : ℕ) → Holds types m f → StandsFor types f k q → n < length k.held
    → IsAtLevel types m f k.path (slice_index k.held n) (slice_index q.held n)
at_level types m f k q n holds F within =
    let path : List ℕ = path_passed types (rows_of f) q.passed in
    let below : AllBelow (length (rows_of f)) path = below_more q.passed (length (rows_of f)) path F.within (passed_below types (rows_of f) q.passed) in
    let there : row_on path (slice_index k.held n) ≡ Some (slice_index q.held n) = row_there path k.held q.held n F.held within in
    record {
      holds = holds;
      within = row_below (length (rows_of f)) path (slice_index k.held n) (slice_index q.held n) below there;
      is =
          ap (λ (xs : List ℕ). row_on xs (slice_index k.held n)) F.path
          ∙ row_on_map (λ j. address_at f j) path (slice_index k.held n)
          ∙ ap (option_map (λ j. address_at f j)) there;
    }

-- all held rows are rows
held_below : (bound : ℕ) (path levels rows : List ℕ) → AllBelow bound path → AreRowsOn path levels rows → AllBelow bound rows
held_below bound path [] [] below e = tt
held_below bound path [] (i ∷ is) below e = cc
held_below bound path (l ∷ ls) [] below e = tt
held_below bound path (l ∷ ls) (i ∷ is) below e = (row_below bound path l i below (sym (ap (first None) e)), held_below bound path ls is below (ap rest e))

pub all_held_below : (types : List SegmentType) (f : Forest Placed) (k : Kept) (q : Position) → StandsFor types f k q → AllBelow (length (rows_of f)) q.held
all_held_below types f k q F =
    held_below (length (rows_of f)) (path_passed types (rows_of f) q.passed) k.held q.held
    (below_more q.passed (length (rows_of f)) (path_passed types (rows_of f) q.passed) F.within (passed_below types (rows_of f) q.passed)) F.held

-- one held row more
pub held_more : (f : Forest Placed) (held : List ℕ) (n : ℕ) → n < length held → held_rows f (take (n + 1) held) ≡ held_rows f (take n held) ++ held_row f (slice_index held n) ∷ []
held_more f held n within = ap (held_rows f) (let e : n + 1 ≡ suc n = omega arith in ap (λ (m : ℕ). take m held) e) ∙ more held n within
  where
    more : (held : List ℕ) (n : ℕ) → n < length held → held_rows f (take (suc n) held) ≡ held_rows f (take n held) ++ held_row f (slice_index held n) ∷ []
    more [] n within = absurd (omega arith)
    more (i ∷ is) zero within = refl
    more (i ∷ is) (suc n) within = ap (λ xs. held_row f i ∷ xs) (more is n (omega arith))

-- all of them
pub held_all : (n : ℕ) (held : List ℕ) → length held ≤ n → take n held ≡ held
held_all zero [] e = refl
held_all zero (i ∷ is) e = absurd (omega arith)
held_all (suc n) [] e = refl
held_all (suc n) (i ∷ is) e = ap (λ (xs : List ℕ). i ∷ xs) (held_all n is (omega arith))

-- so many at most
pub held_few : (f : Forest Placed) (n : ℕ) (held : List ℕ) → length (held_rows f (take n held)) ≤ n
held_few f zero held = omega arith
held_few f (suc n) [] = omega arith
held_few f (suc n) (i ∷ is) = (let few : length (held_rows f (take n is)) ≤ n = held_few f n is in omega arith)

-- The row that DLET takes, and its path.
use Rattle.std.proofs.Common.{◌≡◌, ℕ, zero, suc, List, [], ◌∷◌, Bool, true, false, cond, refl, ap, sym, subst, Some, None, inl, inr}
use Rattle.std.specs.Prelude.{find, slice_get, option_map, ◌==◌, is_some}
use Rattle.std.specs.List.{list_any}
use Rattle.std.proofs.lemmas.Bool.{or_cases, or_left, or_right, eqb-true, eq-eqb, false≢true}
use Rattle.hd_dbd.specs.Hierarchy.{Database}
use Rattle.hd_dbd.specs.Paths.{row_at}
use Rattle.hd_dbd.specs.Positions.{Position}
use Rattle.hd_dbd.specs.Forest.{Forest}
use Rattle.hd_calls.specs.Ssas.{Ssa}
use Rattle.hd_calls.specs.Steps.{deleted_row}
use Rattle.hd_calls.proofs.FairUpdates.{taken_held}
use Rattle.hd_volume.specs.Volumes.{VolumeState}
use Rattle.hd_links.specs.Placed.{Placed, Holds}
use Rattle.hd_links.specs.Steps.{rows_of, address_at}
use Rattle.hd_image.specs.Records.{links_of, IsVolumeOf}
use Rattle.hd_forest.specs.Rows.{IsOnRow}
use Rattle.hd_position.specs.Kept.{Kept, StandsFor, AreRowsOn, path_passed, row_on}
use Rattle.hd_position.proofs.Lists.{first, rest}
use Rattle.hd_update.specs.Deleting.{taken_row}
use Rattle.hd_update.specs.Paths.{path_up_to}
use Rattle.hd_update.specs.Held.{held_row, held_rows}
use Rattle.hd_update.proofs.CutPaths.{path_to_row}

-- ---- which row

find_mapped : (f : Forest Placed) (code : ℕ) (held : List ℕ) → find (λ h. h.code == code) (held_rows f held) ≡ option_map (held_row f) (find (λ i. (row_at (rows_of f) i).code == code) held)
find_mapped f code [] = refl
find_mapped f code (i ∷ is) = by_code ((row_at (rows_of f) i).code == code) (find_mapped f code is)
  where
    by_code : (b : Bool) → find (λ h. h.code == code) (held_rows f is) ≡ option_map (held_row f) (find (λ j. (row_at (rows_of f) j).code == code) is)
        → cond b (Some (held_row f i)) (find (λ h. h.code == code) (held_rows f is)) ≡ option_map (held_row f) (cond b (Some i) (find (λ j. (row_at (rows_of f) j).code == code) is))
    by_code true e = refl
    by_code false e = e

-- the row that is taken is the one that the definition deletes
pub taken_is : (f : Forest Placed) (ssas : List Ssa) (held : List ℕ) → taken_row ssas (held_rows f held) ≡ option_map (held_row f) (deleted_row (rows_of f) ssas held)
taken_is f [] [] = refl
taken_is f [] (i ∷ is) = refl
taken_is f (a ∷ ssas) held = find_mapped f a.code held

-- ---- where it stands

got_in : (xs : List ℕ) (l x : ℕ) → slice_get xs l ≡ Some x → list_any (λ y. y == x) xs ≡ true
got_in [] l x e = absurd (false≢true (ap is_some e))
got_in (y ∷ ys) zero x e = or_left (y == x) (list_any (λ z. z == x) ys) (eq-eqb y x (let s : y ≡ x = cc in s))
got_in (y ∷ ys) (suc l) x e = or_right (y == x) (list_any (λ z. z == x) ys) (got_in ys l x e)

pub row_in : (xs : List ℕ) (l x : ℕ) → row_on xs l ≡ Some x → list_any (λ y. y == x) xs ≡ true
row_in xs zero x e = absurd (false≢true (ap is_some e))
row_in xs (suc l) x e = got_in xs l x e

-- a held row stands on the path
held_on : (path levels held : List ℕ) (i : ℕ) → AreRowsOn path levels held → list_any (λ j. j == i) held ≡ true → list_any (λ y. y == i) path ≡ true
held_on path levels [] i e is = absurd (false≢true is)
held_on path [] (j ∷ js) i e is = cc
held_on path (l ∷ ls) (j ∷ js) i e is = elim (or_cases (j == i) (list_any (λ x. x == i) js) is) [
  | inl here ↦ subst (λ (x : ℕ). list_any (λ y. y == x) path ≡ true) (eqb-true j i here) (row_in path l j (sym (ap (first None) e)))
  | inr later ↦ held_on path ls js i (ap rest e) later
]

-- ---- its path

-- as far as to a held row a path is that row's path
pub path_to_held : (d : Database) (v : VolumeState) (f : Forest Placed) → IsVolumeOf d v → Holds d.types (links_of d.types v) f
    → (k : Kept) (q : Position) (ssas : List Ssa) (i : ℕ) → StandsFor d.types f k q → deleted_row (rows_of f) ssas q.held ≡ Some i
    → IsOnRow d.types (links_of d.types v) f (path_up_to (address_at f i) k.path) i
path_to_held d v f of holds k q ssas i F is =
    path_to_row d v f of holds k.path q.passed i F.within F.path (held_on (path_passed d.types (rows_of f) q.passed) k.held q.held i F.held (taken_held (rows_of f) ssas q.held i is))

-- A path as far as to an address on it.
use Rattle.std.proofs.Common.{◌≡◌, ℕ, zero, suc, ◌<◌, ◌≤◌, List, [], ◌∷◌, length, Bool, true, ◌||◌, ap, sym, ◌∙◌, subst, arith, inl, inr}
use Rattle.std.specs.Prelude.{map, ◌==◌}
use Rattle.std.specs.List.{list_any}
use Rattle.std.proofs.lemmas.Bool.{cases_Bool, cond-true, cond-false, or_cases, or_left, or_right, eqb-true, eq-eqb, false≢true}
use Rattle.hd_dbd.specs.Types.{SegmentType}
use Rattle.hd_dbd.specs.Hierarchy.{Database}
use Rattle.hd_dbd.specs.Forest.{Forest}
use Rattle.hd_volume.specs.Volumes.{VolumeState}
use Rattle.hd_links.specs.Links.{Links}
use Rattle.hd_links.specs.Placed.{Placed, Holds}
use Rattle.hd_links.specs.Steps.{rows_of, address_at, tip_from, LeadsDown}
use Rattle.hd_image.specs.Records.{links_of, IsVolumeOf}
use Rattle.hd_forest.specs.Rows.{IsOnRow}
use Rattle.hd_forest.specs.Walks.{tip}
use Rattle.hd_forest.proofs.RowSteps.{row-steps}
use Rattle.hd_forest.proofs.Walking.{steps-found}
use Rattle.hd_position.specs.Kept.{path_passed, path_before}
use Rattle.hd_position.proofs.Splices.{AllBelow, below_more}
use Rattle.hd_position.proofs.Leaving.{passed_below}
use Rattle.hd_update.specs.Paths.{path_up_to}

-- ---- the row there

mapped_on : (g : ℕ → ℕ) (path : List ℕ) (i : ℕ) → list_any (λ y. y == i) path ≡ true → list_any (λ y. y == g i) (map g path) ≡ true
mapped_on g [] i e = absurd (false≢true e)
mapped_on g (y ∷ ys) i e = elim (or_cases (y == i) (list_any (λ x. x == i) ys) e) [
  | inl here ↦ or_left (g y == g i) (list_any (λ x. x == g i) (map g ys)) (eq-eqb (g y) (g i) (ap g (eqb-true y i here)))
  | inr later ↦ or_right (g y == g i) (list_any (λ x. x == g i) (map g ys)) (mapped_on g ys i later)
]

below_in : (bound : ℕ) (xs : List ℕ) (i : ℕ) → AllBelow bound xs → list_any (λ j. j == i) xs ≡ true → i < bound
below_in bound [] i below e = absurd (false≢true e)
below_in bound (x ∷ xs) i below e = elim (or_cases (x == i) (list_any (λ j. j == i) xs) e) [
  | inl here ↦ subst (λ (y : ℕ). y < bound) (eqb-true x i here) below.0
  | inr later ↦ below_in bound xs i below.1 later
]

-- ---- its path

-- a path that leads down does so as far as to an address on it
cut_leads : (types : List SegmentType) (m : Links) (h a : ℕ) (path : List ℕ) → LeadsDown types m h path → list_any (λ b. b == a) path ≡ true
    → LeadsDown types m h (path_up_to a path) × (tip_from h (path_up_to a path) ≡ a)
cut_leads types m h a [] L e = absurd (false≢true e)
cut_leads types m h a (b ∷ path) L e = elim (cases_Bool (b == a)) [
  | inl here ↦ subst (λ (p : List ℕ). LeadsDown types m h (b ∷ p) × (tip_from h (b ∷ p) ≡ a)) (sym (cond-true (b == a) [] (path_up_to a path) here))
      ((L.0, L.1, tt), eqb-true b a here)
  | inr away ↦
      (let I = cut_leads types m b a path L.2 (ap (λ (x : Bool). x || list_any (λ c. c == a) path) (sym away) ∙ e) in
      subst (λ (p : List ℕ). LeadsDown types m h (b ∷ p) × (tip_from h (b ∷ p) ≡ a)) (sym (cond-false (b == a) [] (path_up_to a path) away))
      ((L.0, L.1, I.0), I.1))
]

module _ (d : Database) (v : VolumeState) (f : Forest Placed) (of : IsVolumeOf d v) (holds : Holds d.types (links_of d.types v) f) where
  -- the path of the last row passed leads down
  passed_leads : (n : ℕ) → n ≤ length (rows_of f) → LeadsDown d.types (links_of d.types v) 0 (path_before d.types f n)
  passed_leads zero within = tt
  passed_leads (suc i) within = (row-steps d v f of holds).down i (omega arith)

  module _ (path : List ℕ) (n i : ℕ) (few : n ≤ length (rows_of f)) (is : path ≡ path_before d.types f n) (member : list_any (λ j. j == i) (path_passed d.types (rows_of f) n) ≡ true) where
    row_within : i < length (rows_of f)
    row_within =
        below_in (length (rows_of f)) (path_passed d.types (rows_of f) n) i
        (below_more n (length (rows_of f)) (path_passed d.types (rows_of f) n) few (passed_below d.types (rows_of f) n)) member

    row_there : list_any (λ b. b == address_at f i) path ≡ true
    row_there = ap (list_any (λ b. b == address_at f i)) is ∙ mapped_on (λ j. address_at f j) (path_passed d.types (rows_of f) n) i member

    cut_at_row : LeadsDown d.types (links_of d.types v) 0 (path_up_to (address_at f i) path) × (tip_from 0 (path_up_to (address_at f i) path) ≡ address_at f i)
    cut_at_row = cut_leads d.types (links_of d.types v) 0 (address_at f i) path (subst (LeadsDown d.types (links_of d.types v) 0) (sym is) (passed_leads n few)) row_there

    -- the path of the last row passed leads down as far as to a row on it
    pub leads_to_row : (0 < length (path_up_to (address_at f i) path)) × LeadsDown d.types (links_of d.types v) 0 (path_up_to (address_at f i) path)
        × (tip (path_up_to (address_at f i) path) ≡ address_at f i)
    leads_to_row = (some_cut (address_at f i) path row_there, cut_at_row.0, cut_at_row.1)
      where
        some_cut : (a : ℕ) (path : List ℕ) → list_any (λ b. b == a) path ≡ true → 0 < length (path_up_to a path)
        some_cut a [] there = absurd (false≢true there)
        some_cut a (b ∷ path) there = omega arith

    -- it is that row's path
    pub path_to_row : IsOnRow d.types (links_of d.types v) f (path_up_to (address_at f i) path) i
    path_to_row = record {
      holds = holds;
      within = row_within;
      is = (steps-found d v f of.fit of holds i row_within).only (path_up_to (address_at f i) path) cut_at_row.0 cut_at_row.1;
    }

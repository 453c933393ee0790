-- The steps by paths are those from row to row.
use Rattle.std.proofs.Common.{◌≡◌, ℕ, zero, suc, ◌+◌, ◌-◌, ◌<◌, ◌≤◌, List, [], ◌∷◌, ◌++◌, length, take, sym, ap, subst, ◌∙◌, arith, inl, inr}
use Rattle.std.specs.Prelude.{nat_lt, map}
use Rattle.std.proofs.lemmas.Bool.{cases_lt, cond-true, cond-false, lt-ltb, le-ltb}
use Rattle.hd_dbd.specs.Types.{SegmentType}
use Rattle.hd_dbd.specs.Paths.{level_at, path_above, path_of, end_of}
use Rattle.hd_dbd.specs.Forest.{Forest}
use Rattle.hd_links.specs.Links.{Links, IsSegment}
use Rattle.hd_links.specs.Placed.{Placed}
use Rattle.hd_links.specs.Steps.{next_row, rows_of, address_at, path_at, RowsHaveAddresses, StepsAreRows}
use Rattle.hd_image.specs.Records.{links_of}
use Rattle.hd_forest.specs.Walks.{moved, AreSegments}
use Rattle.hd_forest.specs.Rows.{path_to}
use Rattle.hd_forest.specs.Laws.{VolumesStepFromRowToRow}
use Rattle.hd_forest.proofs.Walking.{take-none, moved-to, moved-past, addressed, steps-found, first-step}

module _ (types : List SegmentType) (m : Links) (f : Forest Placed) (R : RowsHaveAddresses m f) (steps : (i : ℕ) → i < length (rows_of f) → StepsAreRows types m f i)
    (first : next_row types m [] ≡ address_at f 0) where
  -- the rows on a path are segments
  segments-end : (xs : List ℕ) (x : ℕ) → AreSegments m (map (λ j. address_at f j) xs) → IsSegment m (address_at f x) → AreSegments m (map (λ j. address_at f j) (xs ++ x ∷ []))
  segments-end [] x a s = (s, tt)
  segments-end (y ∷ ys) x a s = (a.0, segments-end ys x a.1 s)

  above-there : (l n : ℕ) → n ≤ length (rows_of f) → AreSegments m (map (λ j. address_at f j) (path_above types (rows_of f) l n))
  above-there l zero w = tt
  above-there l (suc n) w = elim (cases_lt (level_at types (rows_of f) n) l) [
    | inl above ↦ subst (λ (xs : List ℕ). AreSegments m (map (λ j. address_at f j) xs)) (sym (cond-true (nat_lt (level_at types (rows_of f) n) l) (path_of types (rows_of f) n) (path_above types (rows_of f) l n) (lt-ltb (level_at types (rows_of f) n) l above)))
        (segments-end (path_above types (rows_of f) (level_at types (rows_of f) n) n) n (above-there (level_at types (rows_of f) n) n (omega arith)) (R.there n (omega arith)))
    | inr under ↦ subst (λ (xs : List ℕ). AreSegments m (map (λ j. address_at f j) xs)) (sym (cond-false (nat_lt (level_at types (rows_of f) n) l) (path_of types (rows_of f) n) (path_above types (rows_of f) l n) (le-ltb (level_at types (rows_of f) n) l under)))
        (above-there l n (omega arith))
  ]

  path-there : (i : ℕ) → i < length (rows_of f) → AreSegments m (path_at types f i)
  path-there i l = segments-end (path_above types (rows_of f) (level_at types (rows_of f) i) i) i (above-there (level_at types (rows_of f) i) i (omega arith)) (R.there i l)

  -- a step to row j, whose path is a path cut at its level and lengthened by it
  arrive : (path : List ℕ) (j : ℕ) → (j < length (rows_of f) → path_at types f j ≡ take (level_at types (rows_of f) j - 1) path ++ address_at f j ∷ [])
      → moved types m path (address_at f j) ≡ path_to types f j
  arrive path j on = elim (cases_lt j (length (rows_of f))) [
    | inl l ↦ moved-to types m f R steps first path j l ∙ sym (on l) ∙ sym (cond-true (nat_lt j (length (rows_of f))) (path_at types f j) [] (lt-ltb j (length (rows_of f)) l))
    | inr l ↦ moved-past types m f R steps first path j l ∙ sym (cond-false (nat_lt j (length (rows_of f))) (path_at types f j) [] (le-ltb j (length (rows_of f)) l))
  ]

-- the law of the steps
pub row-steps : VolumesStepFromRowToRow
row-steps d v f of holds =
    let types : List SegmentType = d.types in
    let m : Links = links_of types v in
    let R = addressed d v f of.fit of holds in
    let steps = steps-found d v f of.fit of holds in
    let first = first-step d v f of.fit of holds in
    record {
      segments = path-there types m f R steps first;
      down = λ i l. (steps i l).path;
      first = ap (moved types m []) first ∙ arrive types m f R steps first [] 0 (λ l. ap (λ (xs : List ℕ). xs ++ address_at f 0 ∷ []) (sym (take-none (level_at types (rows_of f) 0 - 1))));
      next = λ i l. ap (moved types m (path_at types f i)) (steps i l).next ∙ arrive types m f R steps first (path_at types f i) (i + 1) (steps i l).next_path;
      behind = λ i l. ap (moved types m (path_at types f i)) (steps i l).behind ∙ arrive types m f R steps first (path_at types f i) (end_of types (rows_of f) i) (steps i l).behind_path;
    }

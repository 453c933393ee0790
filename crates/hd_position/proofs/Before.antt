-- The row before, by pointers.
use Rattle.std.proofs.Common.{◌≡◌, ℕ, zero, suc, ◌+◌, ◌<◌, ◌≤◌, List, [], ◌∷◌, length, true, arith, ap, sym, ◌∙◌, subst, inl, inr}
use Rattle.std.specs.Prelude.{map, IsTrue}
use Rattle.std.proofs.lemmas.Bool.{cases_lt}
use Rattle.std.proofs.lemmas.List.{length-map, get_or_past}
use Rattle.hd_dbd.specs.Types.{SegmentType}
use Rattle.hd_dbd.specs.DatabaseRules.{well_formed}
use Rattle.hd_dbd.specs.Paths.{path_of, row_at}
use Rattle.hd_dbd.specs.Forest.{sequence}
use Rattle.hd_dbd.proofs.LevelLaw.{leveled}
use Rattle.hd_dbd.proofs.Fitting.{types_fit, level_of-at_most}
use Rattle.hd_links.specs.Links.{Links, IsSegment, IsLinkGraph}
use Rattle.hd_links.specs.Placed.{Placed, Holds}
use Rattle.hd_links.specs.Pointers.{PointersAreTyped, IsTwinAfter}
use Rattle.hd_links.specs.Steps.{rows_of, addresses, address_at, path_at, LeadsDown, next_row, tip_from}
use Rattle.hd_links.proofs.Types.{ordered}
use Rattle.hd_links.proofs.Numbers.{rows_addressed, rows_length}
use Rattle.hd_links.proofs.Following.{first_found}
use Rattle.hd_links.proofs.PathSteps.{path_length}
use Rattle.hd_links.proofs.RowBounds.{fewer_rows}
use Rattle.hd_links.proofs.Sound.{are_linked}
use Rattle.hd_position.specs.Kept.{path_passed}
use Rattle.hd_position.specs.Laws.{TheRowBeforeIsOne, PathsAreLevels, RowsAreFew}
use Rattle.hd_position.proofs.Leaves.{Grounds, grounds}

-- a twin in a chain is a segment
chain_segment : (types : List SegmentType) (m : Links) → PointersAreTyped types m → (n p a : ℕ) → (0 < p → m.here p ≡ true) → IsTwinAfter m n p a → IsSegment m a
chain_segment types m T zero p a here c = record { some = subst (λ x. 0 < x) c.1 c.0; here = subst (λ x. m.here x ≡ true) c.1 (here c.0) }
chain_segment types m T (suc n) p a here c = chain_segment types m T n (m.forward p) a (λ l. (T.forward p (record { some = c.0; here = here c.0 }) l).0) c.1

-- so is the last of a path that leads down
pub leads_segment : (types : List SegmentType) (m : Links) → PointersAreTyped types m → (h a : ℕ) (path : List ℕ) → m.here h ≡ true → LeadsDown types m h (a ∷ path) → IsSegment m (tip_from h (a ∷ path))
leads_segment types m T h a [] here L = chain_segment types m T L.1.0 (m.first_child h (m.code a)) a (λ l. (T.first h (m.code a) here L.0 l).0) L.1.1
leads_segment types m T h a (b ∷ path) here L =
    leads_segment types m T a b path (chain_segment types m T L.1.0 (m.first_child h (m.code a)) a (λ l. (T.first h (m.code a) here L.0 l).0) L.1.1).here L.2

pub row_before : TheRowBeforeIsOne
row_before block_size frspc types bound m f i path D within L next = go path i within L next
  where
    formed : IsTrue (well_formed block_size frspc types)
    formed = D.formed

    G : IsLinkGraph types bound m
    G = D.graph

    H : Holds types m f
    H = D.holds

    GR : Grounds types m f
    GR = grounds block_size frspc types bound m f formed G H

    behind_rows : (j : ℕ) → length (rows_of f) ≤ j → address_at f j ≡ 0
    behind_rows j l = get_or_past (addresses f) j 0 (let e : length (addresses f) ≡ length (rows_of f) = length-map (sequence f) (λ (p : Placed). p.address) ∙ sym (rows_length f) in omega arith)

    -- row i has just this number
    number : (i j : ℕ) → i < length (rows_of f) → address_at f j ≡ address_at f i → i ≡ j
    number i j l q = elim (cases_lt j (length (rows_of f))) [
      | inl w ↦ GR.addressed.once i j l w (sym q)
      | inr w ↦ absurd (let z : address_at f j ≡ 0 = behind_rows j w in let s : 0 < address_at f i = (GR.addressed.there i l).some in omega arith)
    ]

    go : (path : List ℕ) (i : ℕ) → i < length (rows_of f) → LeadsDown types m 0 path → next_row types m path ≡ address_at f i → path ≡ map (λ j. address_at f j) (path_passed types (rows_of f) i)
    go [] i l L next =
        ap (λ n. map (λ j. address_at f j) (path_passed types (rows_of f) n)) (sym (number i 0 l (sym (first_found types (ordered block_size frspc types formed) (leveled block_size frspc types formed) bound m G f H) ∙ next)))
    go (a ∷ path) i l L next =
        let T = (are_linked types (ordered block_size frspc types formed) bound m G f H).typed in
        let E = GR.addressed.each (tip_from 0 (a ∷ path)) (leads_segment types m T 0 a path G.header L) in
        let S = GR.steps E.0 E.1 in
        let is : a ∷ path ≡ path_at types f E.0 = S.only (a ∷ path) L (sym E.2) in
        let n : i ≡ E.0 + 1 = number i (E.0 + 1) l (sym S.next ∙ ap (next_row types m) (sym is) ∙ next) in
        is ∙ ap (λ n. map (λ j. address_at f j) (path_passed types (rows_of f) n)) (let s : suc E.0 ≡ i = omega arith in s)

pub path_levels : PathsAreLevels
path_levels block_size frspc types bound m f i D within = (
  length-map (path_of types (rows_of f) i) (λ k. address_at f k)
      ∙ path_length types (ordered block_size frspc types D.formed) (leveled block_size frspc types D.formed) bound m D.graph f D.holds i within,
  level_of-at_most block_size types (row_at (rows_of f) i).code (types_fit block_size frspc types D.formed),
)

pub few_rows : RowsAreFew
few_rows block_size frspc types bound m f D some = fewer_rows types bound m D.graph some f (rows_addressed types m f D.holds)

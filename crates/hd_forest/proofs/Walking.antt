-- The walk from row to row is the hierarchic sequence.
use Rattle.std.proofs.Common.{◌≡◌, ℕ, zero, suc, ◌+◌, ◌-◌, ◌<◌, ◌≤◌, List, [], ◌∷◌, ◌++◌, length, take, refl, sym, ap, subst, ◌∙◌, arith, ne_eqb}
use Rattle.std.specs.Prelude.{◌==◌}
use Rattle.std.proofs.lemmas.Bool.{cond-true, cond-false, eq-eqb}
use Rattle.std.proofs.lemmas.List.{get_or_past}
use Rattle.std.proofs.Math.ListN.{length-map}
use Rattle.hd_dbd.specs.Types.{SegmentType}
use Rattle.hd_dbd.specs.Hierarchy.{Database, level_of}
use Rattle.hd_dbd.specs.Segment.{Segment}
use Rattle.hd_dbd.specs.Paths.{row_at, level_at}
use Rattle.hd_dbd.specs.Forest.{Forest, sequence}
use Rattle.hd_dbd.proofs.LevelLaw.{leveled}
use Rattle.hd_volume.specs.Volumes.{VolumeState}
use Rattle.hd_links.specs.Links.{Links, IsSegment, segment_at}
use Rattle.hd_links.specs.Placed.{Placed, Holds}
use Rattle.hd_links.specs.Steps.{next_row, rows_of, addresses, address_at, path_at, RowsHaveAddresses, StepsAreRows}
use Rattle.hd_links.proofs.Numbers.{rows_addressed, rows_length}
use Rattle.hd_links.proofs.Types.{ordered}
use Rattle.hd_links.proofs.Standing.{row_found}
use Rattle.hd_links.proofs.Following.{stepped, first_found}
use Rattle.hd_image.specs.Records.{links_of, IsVolumeOf}
use Rattle.hd_image.specs.Laws.{IsDatabase}
use Rattle.hd_image.proofs.Found.{records-link}
use Rattle.hd_forest.specs.Walks.{tip, moved, next_on, walked}
use Rattle.hd_forest.specs.Laws.{WalkingGivesTheSequence}

-- of no row nothing is above
pub take-none : (n : ℕ) → take {A = ℕ} n [] ≡ []
take-none zero = refl
take-none (suc n) = refl

module _ (types : List SegmentType) (m : Links) (f : Forest Placed) (R : RowsHaveAddresses m f) (steps : (i : ℕ) → i < length (rows_of f) → StepsAreRows types m f i)
    (first : next_row types m [] ≡ address_at f 0) where
  -- the step to a row is the path on to it
  pub moved-to : (path : List ℕ) (j : ℕ) → j < length (rows_of f) → moved types m path (address_at f j) ≡ take (level_at types (rows_of f) j - 1) path ++ address_at f j ∷ []
  moved-to path j l =
      let a : ℕ = address_at f j in
      let some : 0 < a = (R.there j l).some in
      let code : level_of types (m.code a) ≡ level_at types (rows_of f) j = ap (λ (r : Segment). level_of types r.code) (R.same j l) in
      cond-false (a == 0) [] (take (level_of types (m.code a) - 1) path ++ a ∷ []) (ne_eqb a 0 (λ (e : a ≡ 0). omega arith))
      ∙ ap (λ n. take (n - 1) path ++ a ∷ []) code

  -- behind the last row is no address
  past-rows : (i : ℕ) → length (rows_of f) ≤ i → address_at f i ≡ 0
  past-rows i l = get_or_past (addresses f) i 0 (let e : length (addresses f) ≡ length (rows_of f) = length-map (sequence f) (λ (p : Placed). p.address) ∙ sym (rows_length f) in omega arith)

  -- and no path
  pub moved-past : (path : List ℕ) (i : ℕ) → length (rows_of f) ≤ i → moved types m path (address_at f i) ≡ []
  moved-past path i l = (let a : ℕ = address_at f i in cond-true (a == 0) [] (take (level_of types (m.code a) - 1) path ++ a ∷ []) (eq-eqb a 0 (past-rows i l)))

  -- after i steps the walk stands on the path of row i
  walked-path : (i : ℕ) → i < length (rows_of f) → walked types m i ≡ path_at types f i
  walked-path zero l = ap (moved types m []) first ∙ moved-to [] 0 l ∙ ap (λ (xs : List ℕ). xs ++ address_at f 0 ∷ []) (take-none (level_at types (rows_of f) 0 - 1))
  walked-path (suc i) l =
      let here : i < length (rows_of f) = omega arith in
      let next : suc i ≡ i + 1 = omega arith in
      let S = steps i here in
      ap (next_on types m) (walked-path i here)
      ∙ ap (moved types m (path_at types f i)) S.next
      ∙ moved-to (path_at types f i) (i + 1) (omega arith)
      ∙ sym (S.next_path (omega arith))
      ∙ ap (path_at types f) (sym next)

  -- whose segment is that row
  walked-row : (i : ℕ) → i < length (rows_of f) → segment_at m (tip (walked types m i)) ≡ row_at (rows_of f) i
  walked-row i l = ap (λ (p : List ℕ). segment_at m (tip p)) (walked-path i l) ∙ ap (segment_at m) (steps i l).tip ∙ R.same i l

  -- behind the last row the walk has no path
  walked-end : (n : ℕ) → length (rows_of f) ≡ n → walked types m n ≡ []
  walked-end zero e = ap (moved types m []) first ∙ moved-past [] 0 (omega arith)
  walked-end (suc i) e =
      let here : i < length (rows_of f) = omega arith in
      ap (next_on types m) (walked-path i here) ∙ ap (moved types m (path_at types f i)) (steps i here).next ∙ moved-past (path_at types f i) (i + 1) (omega arith)

module _ (d : Database) (v : VolumeState) (f : Forest Placed) (fit : IsDatabase d) (of : IsVolumeOf d v) (holds : Holds d.types (links_of d.types v) f) where
  abbrev m : Links
  m = links_of d.types v

  pub addressed : RowsHaveAddresses m f
  addressed = rows_addressed d.types m f holds

  pub steps-found : (i : ℕ) → i < length (rows_of f) → StepsAreRows d.types m f i
  steps-found i l =
      let O = ordered d.block_size d.frspc d.types fit in
      let G = records-link d v fit of in
      let levels = leveled d.block_size d.frspc d.types fit in
      stepped d.types O levels (length v.image) m G f holds i (row_found d.types O levels (length v.image) m G f holds i l) l

  pub first-step : next_row d.types m [] ≡ address_at f 0
  first-step = first_found d.types (ordered d.block_size d.frspc d.types fit) (leveled d.block_size d.frspc d.types fit) (length v.image) m (records-link d v fit of) f holds

  -- the walk comes to a segment at each row
  pub walked-there : (i : ℕ) → i < length (rows_of f) → IsSegment m (tip (walked d.types m i))
  walked-there i l =
      subst (IsSegment m) (sym (ap tip (walked-path d.types m f addressed steps-found first-step i l) ∙ (steps-found i l).tip)) (addressed.there i l)

-- the law of the walk
pub walking : WalkingGivesTheSequence
walking d v f fit of holds =
    let types : List SegmentType = d.types in
    let m : Links = links_of types v in
    let R = addressed d v f fit of holds in
    let steps = steps-found d v f fit of holds in
    let first = first-step d v f fit of holds in
    (λ i l. (walked-path types m f R steps first i l, walked-row types m f R steps first i l), walked-end types m f R steps first (length (rows_of f)) refl)

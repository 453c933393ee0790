-- Rows that go in below a parent: where they stand, and that they are on one path.
use Rattle.std.proofs.Common.{◌≡◌, ◌≢◌, ℕ, zero, suc, ◌+◌, ◌<◌, ◌≤◌, List, [], ◌∷◌, length, drop, true, Option, Some, None, refl, ap, sym, ◌∙◌, subst, arith}
use Rattle.std.specs.Prelude.{option_map, IfSome}
use Rattle.hd_dbd.specs.declared.hierarchy.Rule.{Rule}
use Rattle.hd_dbd.specs.Types.{SegmentType}
use Rattle.hd_dbd.specs.Hierarchy.{Database, parent_of, level_of}
use Rattle.hd_dbd.specs.Segment.{Segment}
use Rattle.hd_dbd.specs.Rows.{level, row_fits}
use Rattle.hd_dbd.specs.Paths.{row_at}
use Rattle.hd_dbd.specs.Forest.{Forest}
use Rattle.hd_dbd.proofs.Fitting.{level_of-at_most, types_fit}
use Rattle.hd_dbd.proofs.LevelLaw.{Leveled, depth_below, leveled}
use Rattle.hd_calls.specs.Places.{insertion_point}
use Rattle.hd_calls.specs.Steps.{front}
use Rattle.hd_calls.proofs.Inserting.{MayGoIn, parent_in}
use Rattle.hd_calls.proofs.SoundInserts.{ChainRows, IsPlace, place_between, before_new, behind_new, chain_fit, chain_next}
use Rattle.hd_volume.specs.Volumes.{VolumeState}
use Rattle.hd_links.specs.Links.{Links}
use Rattle.hd_links.specs.Placed.{Placed}
use Rattle.hd_links.specs.Steps.{rows_of, address_at}
use Rattle.hd_links.proofs.Types.{Ordered, ordered, above_some, code_some}
use Rattle.hd_image.specs.Records.{links_of}
use Rattle.hd_image.specs.Holding.{HoldsPlaced}
use Rattle.hd_index.specs.Changes.{IsLater}
use Rattle.hd_forest.specs.Walks.{tip}
use Rattle.hd_changes.proofs.RootTypes.{root-parent}
use Rattle.hd_position.specs.Laws.{IsHeld}
use Rattle.hd_position.proofs.Before.{path_levels}
use Rattle.hd_position.proofs.Leaves.{Grounds, grounds}
use Rattle.hd_position.proofs.VolumeMoves.{held}
use Rattle.hd_update.specs.Inserting.{StepDown, IsPlaceFor, StandBelow}
use Rattle.hd_update.specs.NewRows.{are_rows_in, rows_in, GoDown}
use Rattle.hd_update.specs.Places.{IsPathOfParent, IsTypeBelow, IsPlaceOf}
use Rattle.hd_update.proofs.RowsIn.{Begins, rows_begin}

-- ---- rows below each other

pub go_down : (types : List SegmentType) (code : ℕ) (codes area : List ℕ) → StepDown types code codes → are_rows_in types codes area ≡ true → GoDown types code (rows_in types codes area)
go_down types code [] area steps are = tt
go_down types code (c ∷ cs) area steps are =
    let B : Begins types c cs area (front types c area) = rows_begin types c cs area (front types c area) refl are in
    subst (GoDown types code) (sym B.rows) (steps.0, B.fits, go_down types c cs (drop (length (front types c area)) area) steps.1 B.rest)

pub chained : (types : List SegmentType) (O : Ordered types) (code : ℕ) (rows : List Segment) → 0 < code → GoDown types code rows → ChainRows types (Some code) rows
chained types O code [] some down = tt
chained types O code (r ∷ rows) some down =
    (O.parent code r down.1 down.0 ∙ above_some code some, down.1, chained types O r.code rows (code_some types r down.1) down.2)

-- they are not too many
pub few_chained : (types : List SegmentType) (L : Leveled types) (most : (c : ℕ) → level_of types c ≤ 15) (code : ℕ) (rows : List Segment) → ChainRows types (Some code) rows → level_of types code + length rows ≤ 15
few_chained types L most code [] chain = (let m : level_of types code ≤ 15 = most code in omega arith)
few_chained types L most code (r ∷ rows) chain =
    (let more : level_of types r.code + length rows ≤ 15 = few_chained types L most r.code rows chain.2 in
    let up : level types r ≡ level_of types code + 1 = L.law r chain.1 ∙ ap (λ (o : Option ℕ). depth_below types o + 1) chain.0 in
    omega arith)

-- ---- below a parent of a forest

module _ (d : Database) (v : VolumeState) (f : Forest Placed) (H : HoldsPlaced d v f) (above : List ℕ) (parent : Option ℕ) (row : Segment) (rest : List Segment)
    (path : IsPathOfParent d.types f parent above) (below : IsTypeBelow d.types (rows_of f) parent row.code) (fits : row_fits d.types row ≡ true) (down : GoDown d.types row.code rest) where
  abbrev m : Links
  m = links_of d.types v

  O : Ordered d.types
  O = ordered d.block_size d.frspc d.types H.volume.fit

  L : Leveled d.types
  L = leveled d.block_size d.frspc d.types H.volume.fit

  ground : IsHeld d.block_size d.frspc d.types (length v.image) m f
  ground = held d v f H.volume H.records

  G : Grounds d.types m f
  G = grounds d.block_size d.frspc d.types (length v.image) m f ground.formed ground.graph ground.holds

  there : IfSome parent (λ q. q < length (rows_of f))
  there = by parent path
    where
      by : (o : Option ℕ) → IsPathOfParent d.types f o above → IfSome o (λ q. q < length (rows_of f))
      by None p = tt
      by (Some q) p = p.0

  -- the parent is of the parent's type
  parent_typed : parent_of d.types row.code ≡ option_map (λ q. (row_at (rows_of f) q).code) parent
  parent_typed = by parent path below
    where
      by : (o : Option ℕ) → IsPathOfParent d.types f o above → IsTypeBelow d.types (rows_of f) o row.code → parent_of d.types row.code ≡ option_map (λ q. (row_at (rows_of f) q).code) o
      by None p b = ap (parent_of d.types) b ∙ root-parent d.block_size d.frspc d.types H.volume.fit
      by (Some q) p b = O.parent (row_at (rows_of f) q).code row fits b ∙ above_some (row_at (rows_of f) q).code (code_some d.types (row_at (rows_of f) q) (G.ordered.fit q p.0))

  chain : ChainRows d.types (Some row.code) rest
  chain = chained d.types O row.code rest (code_some d.types row fits) down

  whole : ChainRows d.types None (row ∷ rest)
  whole = (tt, fits, chain)

  level_above : level_of d.types row.code ≡ length above + 1
  level_above = by parent path parent_typed
    where
      law : level d.types row ≡ depth_below d.types (parent_of d.types row.code) + 1
      law = L.law row fits

      by : (o : Option ℕ) → IsPathOfParent d.types f o above → parent_of d.types row.code ≡ option_map (λ q. (row_at (rows_of f) q).code) o → level_of d.types row.code ≡ length above + 1
      by None p is = law ∙ ap (λ (x : Option ℕ). depth_below d.types x + 1) is ∙ ap (λ (xs : List ℕ). length xs + 1) (sym p)
      by (Some q) p is =
          law ∙ ap (λ (x : Option ℕ). depth_below d.types x + 1) is
          ∙ ap (λ (k : ℕ). k + 1) (sym (ap (λ (xs : List ℕ). length xs) p.1 ∙ (path_levels d.block_size d.frspc d.types (length v.image) m f q ground p.0).0))

  pub few_rows : length above + length (row ∷ rest) ≤ 15
  few_rows =
      (let most : level_of d.types row.code + length rest ≤ 15
      = few_chained d.types L (λ c. level_of-at_most d.block_size d.types c (types_fit d.block_size d.frspc d.types H.volume.fit)) row.code rest chain in
      let up : level_of d.types row.code ≡ length above + 1 = level_above in
      omega arith)

  module _ (standing : Option ℕ) (rule : Rule) (y : ℕ) (at : IsPlaceOf d v f parent standing rule row (tip above) y) where
    abbrev n : ℕ
    n = insertion_point d.types (rows_of f) parent standing rule row

    may : MayGoIn d.types (rows_of f) parent n (row ∷ rest)
    may =
        let place : IsPlace d.types (rows_of f) parent standing rule row n = place_between d.types L (rows_of f) G.ordered parent standing rule row there parent_typed fits in
        record {
          some = omega arith;
          fit = λ i within. chain_fit d.types None (row ∷ rest) i whole within;
          chain = λ i within. (let more : i + 1 ≡ suc i = omega arith in
              ap (λ (k : ℕ). parent_of d.types (row_at (row ∷ rest) k).code) more ∙ chain_next d.types None (row ∷ rest) i whole (omega arith));
          first = parent_typed;
          there = there;
          from = place.from;
          to = place.to;
          low = place.low;
          before = λ j less of. before_new d.types L (rows_of f) G.ordered parent standing rule row there parent_typed fits j at.free of (place.front j less of);
          behind = λ j more of. behind_new d.types L (rows_of f) G.ordered parent standing rule row there parent_typed fits j at.free of (place.back j more of);
        }

    stand : StandBelow d.types (rows_of f) parent n (row ∷ rest)
    stand zero low = parent_in d.types L (rows_of f) G.ordered parent n (row ∷ rest) may zero low
    stand (suc i) low = parent_in d.types L (rows_of f) G.ordered parent n (row ∷ rest) may (suc i) low

    root_alone : row.code ≡ 1 → above ≡ []
    root_alone one = by parent path parent_typed
      where
        by : (o : Option ℕ) → IsPathOfParent d.types f o above → parent_of d.types row.code ≡ option_map (λ q. (row_at (rows_of f) q).code) o → above ≡ []
        by None p is = p
        by (Some q) p is = (let none : parent_of d.types row.code ≡ None = ap (parent_of d.types) one ∙ root-parent d.block_size d.frspc d.types H.volume.fit in cc)

    tip_there : row.code ≢ 1 → tip above ≢ 0
    tip_there other none = by parent path below
      where
        by : (o : Option ℕ) → IsPathOfParent d.types f o above → IsTypeBelow d.types (rows_of f) o row.code → ⊥
        by None p b = other b
        by (Some q) p b =
            (let some : 0 < address_at f q = (G.addressed.there q p.0).some in
            let is : tip above ≡ address_at f q = ap tip p.1 ∙ (G.steps q p.0).tip in absurd (omega arith))

    pub placed_for : IsLater v → IsPlaceFor d v f above y (row ∷ rest) parent n
    placed_for later = record {
      path = path;
      may = (root_alone, tip_there, record { later = later; placed = f; holds = H; may = at.may }, down);
      at = at.at;
      stand = stand;
    }

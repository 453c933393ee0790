-- Where a get begins to look, and what it leaves, by paths.
use Rattle.std.specs.Prelude.{◌≡◌, ℕ, List, [], length, Bool, cond}
use Rattle.hd_dbd.specs.Types.{SegmentType}
use Rattle.hd_dbd.specs.Paths.{path_of}
use Rattle.hd_dbd.specs.Positions.{Position}
use Rattle.hd_dbd.specs.Forest.{Forest}
use Rattle.hd_calls.specs.declared.call.GetKind.{GetKind}
use Rattle.hd_calls.specs.declared.call.GetKind.TheVariants.{NextInParent}
use Rattle.hd_calls.specs.Gets.{onto}
use Rattle.hd_links.specs.Links.{Links}
use Rattle.hd_links.specs.Placed.{Placed, Holds}
use Rattle.hd_links.specs.Steps.{rows_of}
use Rattle.hd_forest.specs.Rows.{IsOnRow, LeadsTo}
use Rattle.hd_position.specs.Kept.{Kept, StandsFor, AreRowsOn, Ascend, row_on, path_before}

-- The records hold the forest, and what is kept stands for the position in it.
pub record IsAt (types : List SegmentType) (m : Links) (f : Forest Placed) (k : Kept) (q : Position) : Type 0 where
  pub holds : Holds types m f
  pub stands : StandsFor types f k q

-- The records hold a forest in which what is kept stands for a position.
abbrev pub IsSomewhere : List SegmentType → Links → Kept → Type 0
IsSomewhere types m k = (f : Forest Placed) × (q : Position) × IsAt types m f k q

-- Wherever what is kept stands for a position, the path leads to the row behind those passed.
abbrev pub LeadsOn : List SegmentType → Links → Kept → List ℕ → Type 0
LeadsOn types m k path = (f : Forest Placed) (q : Position) → IsAt types m f k q → LeadsTo types m f path q.passed

-- Wherever a path is that of a row, the other is that of the row before it, empty before the first.
abbrev pub IsPathBefore : List SegmentType → Links → List ℕ → List ℕ → Type 0
IsPathBefore types m path before = (f : Forest Placed) (i : ℕ) → IsOnRow types m f path i → before ≡ path_before types f i

-- Rows taken by a get that holds, if it does, are those of the levels on the path of row i.
pub record AreTaken (types : List SegmentType) (f : Forest Placed) (path levels : List ℕ) (i : ℕ) (hold : Bool) (taken : List ℕ) : Type 0 where
  pub rows : AreRowsOn (path_of types (rows_of f) i) levels (cond hold taken [])
  pub ascend : Ascend 0 (length path) levels

-- the parentage row stays on the path where a get keeps parentage
abbrev pub KeepsParent : GetKind → Kept → List ℕ → Type 0
KeepsParent kind k path = kind ≡ NextInParent → row_on path k.parent ≡ row_on k.path k.parent

-- Wherever what was kept stood for a position, and the path is that of a row, what is kept stands for what a get to that row leaves.
abbrev pub StandsOnto : List SegmentType → Links → GetKind → Kept → List ℕ → List ℕ → Kept → Type 0
StandsOnto types m kind old path levels new =
    (f : Forest Placed) (q : Position) (i : ℕ) (hold : Bool) (taken : List ℕ) → IsAt types m f old q → IsOnRow types m f path i
    → AreTaken types f path levels i hold taken → StandsFor types f new (onto types (rows_of f) q kind hold taken i)

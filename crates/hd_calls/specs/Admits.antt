-- What a search by segment search arguments asks of each row on a path.
use Rattle.std.specs.Prelude.{◌≡◌, ℕ, ◌<◌, ◌≤◌, List, [], ◌∷◌, Bool, true, false, not, ◌||◌, ◌==◌, Option, Some, None, IfSome, IsTrue}
use Rattle.std.specs.List.{list_all}
use Rattle.hd_dbd.specs.declared.hierarchy.FreeSpace.{FreeSpace}
use Rattle.hd_dbd.specs.Types.{SegmentType}
use Rattle.hd_dbd.specs.Hierarchy.{is_under}
use Rattle.hd_dbd.specs.DatabaseRules.{well_formed}
use Rattle.hd_dbd.specs.Segment.{Segment}
use Rattle.hd_dbd.specs.Rows.{valid}
use Rattle.hd_dbd.specs.Paths.{row_at, path_of}
use Rattle.hd_calls.specs.Ssas.{Ssa}
use Rattle.hd_calls.specs.Satisfies.{meets}

-- ---- rows

-- the row meets the SSA, where it is of the SSA's type
abbrev pub meets_own : List SegmentType → List Segment → ℕ → Ssa → Bool
meets_own types rows k a = not (a.code == (row_at rows k).code) || meets types rows a k

-- the row meets the SSAs of its type
abbrev pub admits : List SegmentType → List Segment → List Ssa → ℕ → Bool
admits types rows ssas k = list_all (λ a. meets_own types rows k a) ssas

-- each row on the path of row i meets the SSAs of its type
abbrev pub all_admitted : List SegmentType → List Segment → List Ssa → ℕ → Bool
all_admitted types rows ssas i = list_all (λ k. admits types rows ssas k) (path_of types rows i)

-- from one row to before another no row passes a test
abbrev pub NonePass : (ℕ → Bool) → ℕ → ℕ → Type 0
NonePass test i k = (j : ℕ) → i ≤ j → j < k → test j ≡ false

-- ---- types

-- a type is on the way to another: it is that type, or that type depends on it
abbrev pub is_on_way : List SegmentType → ℕ → ℕ → Bool
is_on_way types target code = target == code || is_under types target code

-- each SSA's type is on the way to a type
abbrev pub AreOnWay : List SegmentType → ℕ → List Ssa → Type 0
AreOnWay types target [] = Unit {0}
AreOnWay types target (a ∷ ssas) = (is_on_way types target a.code ≡ true) × AreOnWay types target ssas

-- each SSA's type depends on that of the SSA before it, and the first on the type above, if there is one
abbrev pub Descend : List SegmentType → Option ℕ → List Ssa → Type 0
Descend types above [] = Unit {0}
Descend types above (a ∷ ssas) = IfSome above (λ p. is_under types a.code p ≡ true) × Descend types (Some a.code) ssas

-- ---- searches

-- Rows of a database: its types are well formed, and the rows are valid.
pub record AreRowsOf (types : List SegmentType) (rows : List Segment) : Type 0 where
  pub block_size : ℕ
  pub free_space : FreeSpace
  pub formed : IsTrue (well_formed block_size free_space types)
  pub fit : valid types rows ≡ true

-- A search over rows of a database by SSAs whose types descend.
pub record IsSearch (types : List SegmentType) (rows : List Segment) (ssas : List Ssa) : Type 0 where
  pub over : AreRowsOf types rows
  pub descend : Descend types None ssas

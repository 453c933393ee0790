-- Where a get begins to look.
use Rattle.std.specs.Prelude.{◌≡◌, IsTrue, ℕ, ◌<◌, List, [], ◌∷◌, length, Bool, true, false, ◌==◌, cond, Option, None, is_some, IfSome, unwrap_or, option_and_then}
use Rattle.hd_dbd.specs.Types.{SegmentType}
use Rattle.hd_dbd.specs.Hierarchy.{Database, type_of}
use Rattle.hd_dbd.specs.Segment.{Segment}
use Rattle.hd_dbd.specs.Positions.{Position}
use Rattle.hd_dbd.specs.Searches.{first_from}
use Rattle.hd_dbd.specs.Forest.{Forest}
use Rattle.hd_volume.specs.Volumes.{VolumeState}
use Rattle.hd_volume.specs.Indexes.{key_less}
use Rattle.hd_links.specs.Placed.{Placed, Holds}
use Rattle.hd_links.specs.Steps.{rows_of}
use Rattle.hd_image.specs.Records.{links_of}
use Rattle.hd_image.specs.Holding.{HoldsPlaced}
use Rattle.hd_index.specs.Changes.{IsLater}
use Rattle.hd_changes.specs.Roots.{is_root, key_at, is_root_from, first_row}
use Rattle.hd_position.specs.Kept.{Kept}
use Rattle.hd_position.specs.Gets.{IsAt}
use Rattle.hd_calls.specs.declared.call.GetKind.{GetKind}
use Rattle.hd_calls.specs.declared.call.GetKind.TheVariants.{Next, NextInParent}
use Rattle.hd_calls.specs.Ssas.{Ssa}
use Rattle.hd_calls.specs.Satisfies.{is_named}
use Rattle.hd_calls.specs.Gets.{search_start, search_end}
use Rattle.hd_calls.specs.Admits.{admits}
use Rattle.hd_ssa.specs.LeastKeys.{least_key}
use Rattle.hd_get.specs.Searches.{LeadsWithin}

-- The sound volume holds the forest, and what is kept stands for the position in it.
pub record IsKeptIn (d : Database) (v : VolumeState) (f : Forest Placed) (k : Kept) (q : Position) : Type 0 where
  pub sound : IsTrue v.is_sound
  pub at : IsAt d.types (links_of d.types v) f k q

-- in each forest that the sound volume holds, the path leads to the first row, or to none where there is no row
abbrev pub LeadsToFirst : Database → VolumeState → List ℕ → Type 0
LeadsToFirst d v path =
    (f : Forest Placed) → IsTrue v.is_sound → Holds d.types (links_of d.types v) f → LeadsWithin d.types (links_of d.types v) f 0 (length (rows_of f)) path 0

-- The path leads to the row where a get of a kind begins from a position, or to none where that is behind its last.
abbrev pub LeadsToStart : GetKind → Database → VolumeState → List Ssa → Forest Placed → Position → ℕ → List ℕ → Type 0
LeadsToStart kind d v ssas f q parent path =
    LeadsWithin d.types (links_of d.types v) f parent (search_end d.types (rows_of f) q kind) path (search_start d.types (rows_of f) q kind ssas)

-- wherever what is kept stands for a position, the path leads to where GN begins from it
abbrev pub LeadsToNext : Database → VolumeState → List Ssa → Kept → List ℕ → Type 0
LeadsToNext d v ssas k path = (f : Forest Placed) (q : Position) → IsKeptIn d v f k q → LeadsToStart Next d v ssas f q 0 path

-- What GNP begins with from a position: the address of the parentage row and a path, just where there is such a row.
pub record IsStartBelow (d : Database) (v : VolumeState) (ssas : List Ssa) (f : Forest Placed) (q : Position) (start : Option (ℕ × List ℕ)) : Type 0 where
  pub parent : is_some start ≡ is_some q.parent
  pub leads : IfSome start (λ s. LeadsToStart NextInParent d v ssas f q s.0 s.1)

-- wherever what is kept stands for a position, GNP begins so from it
abbrev pub StartsBelow : Database → VolumeState → List Ssa → Kept → Option (ℕ × List ℕ) → Type 0
StartsBelow d v ssas k start = (f : Forest Placed) (q : Position) → IsKeptIn d v f k q → IsStartBelow d v ssas f q start

-- ---- where a key of the root is asked

-- the least key of the first SSA, where that is the root's
abbrev pub least_root_key : List SegmentType → List Ssa → Option (List ℕ)
least_root_key types [] = None
least_root_key types (a ∷ ssas) =
    cond (a.code == 1) (option_and_then (λ t. option_and_then (λ k. least_key k a) t.key) (type_of types 1)) None

-- the first root whose key is not below a key, or the number behind the last row
abbrev pub root_from : List SegmentType → List Segment → List ℕ → ℕ
root_from types rows key = unwrap_or (first_row rows (is_root_from types rows key)) (length rows)

-- the sound volume holds a forest, and its index, which is an index set, the forest's roots
abbrev pub HasRoots : Database → VolumeState → Type 0
HasRoots d v = IsTrue v.is_sound → (f : Forest Placed) × HoldsPlaced d v f × IsLater v

-- in each forest that the sound volume holds, the path leads to the first root from a key on
abbrev pub LeadsToRoot : Database → VolumeState → List ℕ → List ℕ → Type 0
LeadsToRoot d v key path =
    (f : Forest Placed) → IsTrue v.is_sound → HoldsPlaced d v f
    → LeadsWithin d.types (links_of d.types v) f 0 (length (rows_of f)) path (root_from d.types (rows_of f) key)

-- where there are SSAs, only rows that they name pass the test
abbrev pub AreNamed : (ℕ → Bool) → List SegmentType → List Segment → List Ssa → Type 0
AreNamed test types rows ssas = (j : ℕ) → 0 < length ssas → test j ≡ true → is_named types rows ssas j ≡ true

-- The search for the first row that passes a test may as well begin where the path leads, since none before that passes. Where it is told that the
-- SSAs name the row there, there is one, and they do.
pub record BeginsAt (test : ℕ → Bool) (d : Database) (v : VolumeState) (f : Forest Placed) (ssas : List Ssa) (path : List ℕ) (told : Bool) : Type 0 where
  pub number : ℕ
  pub same : first_from test 0 (length (rows_of f)) ≡ first_from test number (length (rows_of f))
  pub leads : LeadsWithin d.types (links_of d.types v) f 0 (length (rows_of f)) path number
  pub named : told ≡ true → (number < length (rows_of f)) × (is_named d.types (rows_of f) ssas number ≡ true)

-- in each forest that the sound volume holds, so may the search of GU, whose test only rows pass that the SSAs name
abbrev pub BeginsUnique : Database → VolumeState → List Ssa → List ℕ → Bool → Type 0
BeginsUnique d v ssas path told =
    (f : Forest Placed) (test : ℕ → Bool) → IsTrue v.is_sound → HoldsPlaced d v f → AreNamed test d.types (rows_of f) ssas → BeginsAt test d v f ssas path told

-- no root whose key is below a key has what the SSAs ask of it
abbrev pub RefusesRootsBelow : List SegmentType → List Ssa → List ℕ → Type 0
RefusesRootsBelow types ssas key =
    (rows : List Segment) (i : ℕ) → is_root rows i ≡ true → key_less (key_at types rows i) key ≡ true → admits types rows ssas i ≡ false

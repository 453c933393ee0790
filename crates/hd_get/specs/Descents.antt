-- Going down from a root by the keys and to the last twins that segment search arguments ask for.
use Rattle.std.specs.Prelude.{◌≡◌, IsTrue, ℕ, ◌<◌, ◌≤◌, List, [], ◌∷◌, length, Bool, true, false, not, ◌==◌, ◌&&◌, ◌||◌, Option, Some, None, IfSome, option_and_then}
use Rattle.std.specs.Option.{option_map_or}
use Rattle.std.specs.List.{list_all}
use Rattle.std.specs.Ordering.{nat_cmp, is_eq}
use Rattle.std.specs.Cmp.Lexicographic.{slice_cmp}
use Rattle.hd_dbd.specs.Types.{SegmentType}
use Rattle.hd_dbd.specs.Hierarchy.{Database, type_of}
use Rattle.hd_dbd.specs.Paths.{row_at}
use Rattle.hd_dbd.specs.Rows.{key_of}
use Rattle.hd_dbd.specs.Searches.{first_from}
use Rattle.hd_dbd.specs.Forest.{Forest}
use Rattle.hd_volume.specs.Volumes.{VolumeState}
use Rattle.hd_links.specs.Links.{segment_at}
use Rattle.hd_links.specs.Placed.{Placed}
use Rattle.hd_links.specs.Steps.{rows_of, path_at, is_child_row}
use Rattle.hd_image.specs.Records.{links_of}
use Rattle.hd_forest.specs.Rows.{IsOnRow}
use Rattle.hd_forest.specs.Walks.{tip}
use Rattle.hd_calls.specs.Ssas.{Ssa, target_code}
use Rattle.hd_calls.specs.Satisfies.{is_named}
use Rattle.hd_calls.specs.Gets.{first_child}
use Rattle.hd_calls.specs.Admits.{NonePass, is_on_way, admits, all_admitted}
use Rattle.hd_ssa.specs.EqualKeys.{key_asked}
use Rattle.hd_get.specs.Asking.{is_from}
use Rattle.hd_get.specs.Searches.{IsPathOf}

-- Row j is the first of the children of row i, of a type, whose key is not below a key.
pub record IsChildFrom (types : List SegmentType) (f : Forest Placed) (key : List ℕ) (i code j : ℕ) : Type 0 where
  pub first : ℕ
  pub is_first : first_child types (rows_of f) code i ≡ Some first
  pub from : first_from (is_from types (rows_of f) key first) first (length (rows_of f)) ≡ Some j

-- A path went down from row i to its first child of a type whose key is not below a key, where one is told of: that its key is equal only where
-- it is. Where none is told of, the path stayed.
pub record IsGoneBelow (types : List SegmentType) (f : Forest Placed) (key : List ℕ) (i code : ℕ) (old : List ℕ) (r : Option Bool) (new : List ℕ) : Type 0 where
  pub below : (e : Bool) → r ≡ Some e → (j : ℕ) × IsChildFrom types f key i code j × (new ≡ path_at types f j) × (e ≡ true → key_of types (row_at (rows_of f) j) ≡ key)
  pub stays : r ≡ None → new ≡ old

-- wherever the old path was that of a row, the new one went down from it, or stayed
abbrev pub GoesBelow : Database → VolumeState → List ℕ → ℕ → List ℕ → Option Bool → List ℕ → Type 0
GoesBelow d v key code old r new = (f : Forest Placed) (i : ℕ) → IsPathOf d v f old i → IsGoneBelow d.types f key i code old r new

-- the key that an argument's qualification asks its type's segments for, where it asks for nothing else; L aside
abbrev pub key_asked_of : List SegmentType → Ssa → Option (List ℕ)
key_asked_of types a = option_and_then (λ t. option_and_then (λ k. key_asked k a) t.key) (type_of types a.code)

-- an argument asks for a key, and neither its qualification nor L for anything else
abbrev pub asks_for : List SegmentType → List ℕ → Ssa → Bool
asks_for types key a = not a.commands.last && option_map_or (λ v. is_eq (slice_cmp nat_cmp v key)) (key_asked_of types a) false

-- so does each argument of a type
abbrev pub ask_for : List SegmentType → List Ssa → ℕ → List ℕ → Bool
ask_for types ssas code key = list_all (λ a. not (a.code == code) || asks_for types key a) ssas

-- The path is that of row i or of a later one, and of the rows from row i on none before it is named by the SSAs. Where the row is told of, it is a child
-- of row i, of a type, and where it is told that the SSAs admit it, they do.
pub record IsStepDown (types : List SegmentType) (f : Forest Placed) (ssas : List Ssa) (i code : ℕ) (told : Option Bool) (path : List ℕ) : Type 0 where
  pub number : ℕ
  pub later : i ≤ number
  pub within : number < length (rows_of f)
  pub none : NonePass (is_named types (rows_of f) ssas) i number
  pub is : path ≡ path_at types f number
  pub child : IfSome told (λ known. (is_child_row types (rows_of f) i code number ≡ true) × (known ≡ true → admits types (rows_of f) ssas number ≡ true))

-- wherever the old path was that of a row, and the type is on the way to the last SSA's, the new one is a step down from it
abbrev pub StepsDown : Database → VolumeState → List Ssa → ℕ → List ℕ → Option Bool → List ℕ → Type 0
StepsDown d v ssas code old told new =
    (f : Forest Placed) (i : ℕ) → IsPathOf d v f old i → is_on_way d.types (target_code ssas) code ≡ true → IsStepDown d.types f ssas i code told new

-- The path is that of row i or of a later one, and of the rows from row i on none before it is named by the SSAs. Where it is told that they name
-- it, they do, if all on row i's path are admitted.
pub record LeadsOnward (d : Database) (v : VolumeState) (f : Forest Placed) (ssas : List Ssa) (i : ℕ) (told : Bool) (path : List ℕ) : Type 0 where
  pub number : ℕ
  pub later : i ≤ number
  pub none : NonePass (is_named d.types (rows_of f) ssas) i number
  pub row : IsOnRow d.types (links_of d.types v) f path number
  pub named : told ≡ true → all_admitted d.types (rows_of f) ssas i ≡ true → is_named d.types (rows_of f) ssas number ≡ true

-- wherever the old path was that of a row, the new one leads on from it
abbrev pub GoesOnward : Database → VolumeState → List Ssa → List ℕ → Bool → List ℕ → Type 0
GoesOnward d v ssas old told new = (f : Forest Placed) (i : ℕ) → IsPathOf d v f old i → LeadsOnward d v f ssas i told new

-- the first SSA is the root's
abbrev pub is_root_first : List Ssa → Bool
is_root_first [] = false
is_root_first (a ∷ ssas) = a.code == 1

-- where the store is sound, the segment at the end of the path has the key
abbrev pub HasTipKey : Database → VolumeState → List ℕ → List ℕ → Type 0
HasTipKey d v key path = IsTrue v.is_sound → key_of d.types (segment_at (links_of d.types v) (tip path)) ≡ key

-- wherever the path is that of a row, the answer says whether that meets the arguments of its type
abbrev pub AdmitsTip : Database → VolumeState → List Ssa → List ℕ → Bool → Type 0
AdmitsTip d v ssas path r = (f : Forest Placed) (i : ℕ) → IsPathOf d v f path i → r ≡ admits d.types (rows_of f) ssas i

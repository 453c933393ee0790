-- The place of a row that goes in: the twin behind which it is linked.
use Rattle.std.specs.Prelude.{◌≡◌, ℕ, ◌-◌, ◌<◌, List, [], ◌∷◌, ◌++◌, length, take, Bool, true, false, ◌&&◌, ◌==◌, cond, Option, Some, None, is_some, option_map, IsTrue}
use Rattle.std.specs.Option.{option_map_or}
use Rattle.std.specs.Ordering.{nat_cmp, is_eq}
use Rattle.std.specs.declared.cmp.Ordering.{Ordering}
use Rattle.std.specs.declared.cmp.Ordering.TheVariants.{Less, Equal, Greater}
use Rattle.std.specs.Cmp.Lexicographic.{slice_cmp}
use Rattle.hd_dbd.specs.declared.hierarchy.Rule.{Rule}
use Rattle.hd_dbd.specs.Types.{SegmentType}
use Rattle.hd_dbd.specs.Hierarchy.{Database, type_of}
use Rattle.hd_dbd.specs.Segment.{Segment}
use Rattle.hd_dbd.specs.Rows.{key_of}
use Rattle.hd_dbd.specs.Loads.{has_unique_key}
use Rattle.hd_dbd.specs.Paths.{row_at}
use Rattle.hd_dbd.specs.Positions.{Position}
use Rattle.hd_dbd.specs.Forest.{Forest}
use Rattle.hd_calls.specs.Places.{is_equal_twin, is_key_taken, insertion_point}
use Rattle.hd_volume.specs.Volumes.{VolumeState}
use Rattle.hd_links.specs.Links.{Links, segment_at, is_child_type}
use Rattle.hd_links.specs.Placed.{Placed}
use Rattle.hd_links.specs.Pointers.{IsInChain}
use Rattle.hd_links.specs.Steps.{rows_of, address_at, path_at}
use Rattle.hd_links.specs.Numbers.{LeafGoesInAt}
use Rattle.hd_image.specs.Records.{links_of, IsVolumeOf}
use Rattle.hd_image.specs.Holding.{HoldsPlaced}
use Rattle.hd_forest.specs.Walks.{tip, parent_on, HasForest}
use Rattle.hd_forest.specs.Rows.{IsOnRow}
use Rattle.hd_forest.specs.declared.read.EndChildren.{EndChildren}
use Rattle.hd_forest.specs.declared.twins.TwinsAround.{TwinsAround}
use Rattle.hd_forest.specs.Twins.{IsBehind, IsLastBelow}
use Rattle.hd_forest.specs.Updates.{MayLink}
use Rattle.hd_index.specs.declared.search.RootFrom.{RootFrom}
use Rattle.hd_changes.specs.Found.{IsToldRoot}
use Rattle.hd_position.specs.Kept.{Kept, row_on}
use Rattle.hd_get.specs.Gets.{IsPositionIn}
use Rattle.hd_update.specs.declared.places.Side.{Side}
use Rattle.hd_update.specs.declared.places.Side.TheVariants.{Before, Behind, Taken}

-- ---- the place

-- the path is that of the row's parent, empty for a root
abbrev pub IsPathOfParent : List SegmentType → Forest Placed → Option ℕ → List ℕ → Type 0
IsPathOfParent types f None path = path ≡ []
IsPathOfParent types f (Some q) path = (q < length (rows_of f)) × (path ≡ path_at types f q)

-- a row of the type may stand below row q, or among the roots
abbrev pub IsTypeBelow : List SegmentType → List Segment → Option ℕ → ℕ → Type 0
IsTypeBelow types rows None code = code ≡ 1
IsTypeBelow types rows (Some q) code = is_child_type types (row_at rows q).code code ≡ true

-- In the forest a new row goes in at the insertion point, where it is linked below h behind its twin y, 0 for the first of its type.
pub record IsPlaceOf (d : Database) (v : VolumeState) (f : Forest Placed) (parent standing : Option ℕ) (rule : Rule) (row : Segment) (h y : ℕ) : Type 0 where
  pub free : is_key_taken d.types (rows_of f) parent row ≡ false
  pub may : MayLink d.types (links_of d.types v) h y row
  pub at : (a n : ℕ) → LeafGoesInAt d.types f h y (record { address = a; segment = row }) n → n ≡ insertion_point d.types (rows_of f) parent standing rule row

-- What is said of a place: none where the key is taken, else the twin behind which the row goes in.
abbrev pub IsPlaceFound : Database → VolumeState → Forest Placed → Option ℕ → Option ℕ → Rule → Segment → ℕ → Option ℕ → Type 0
IsPlaceFound d v f parent standing rule row h None = is_key_taken d.types (rows_of f) parent row ≡ true
IsPlaceFound d v f parent standing rule row h (Some y) = IsPlaceOf d v f parent standing rule row h y

-- Wherever what is kept stands for a position, and the path is that of a parent of the row's type, this is the row's place below it.
abbrev pub IsPlaceBelow : Database → VolumeState → List ℕ → Kept → Rule → Segment → Option ℕ → Type 0
IsPlaceBelow d v path k rule row place =
    (f : Forest Placed) (q : Position) (parent : Option ℕ) → IsPositionIn d v f k q → IsPathOfParent d.types f parent path → IsTypeBelow d.types (rows_of f) parent row.code
    → IsPlaceFound d v f parent q.standing rule row (tip path) place

-- where the store is sound, what is kept stands for a position, and the path is that of a parent of a row of the type
abbrev pub HasPlace : Database → VolumeState → List ℕ → Kept → ℕ → Type 0
HasPlace d v path k code =
    IsTrue v.is_sound → (f : Forest Placed) × (q : Position) × (parent : Option ℕ) × IsPositionIn d v f k q × IsPathOfParent d.types f parent path
    × IsTypeBelow d.types (rows_of f) parent code

-- ---- beside one twin

-- the segments of a type have a key
abbrev pub has_key : List SegmentType → ℕ → Bool
has_key types code = option_map_or (λ t. is_some t.key) (type_of types code) false

-- Where a new row goes beside a twin by how the twin's key stands to its own: behind a lesser key, before a greater; an equal key that
-- is unique is taken; beside one that is not the row goes behind where it goes last among its equals, else before.
abbrev pub side_of : Bool → Bool → Ordering → Side
side_of unique last Less = Behind
side_of unique last Equal = cond unique Taken (cond last Behind Before)
side_of unique last Greater = Before

-- where a new row goes beside the twin at an address
abbrev pub side_at : List SegmentType → Links → Bool → Segment → ℕ → Side
side_at types m last row a = side_of (has_unique_key types row.code) last (slice_cmp nat_cmp (key_of types (segment_at m a)) (key_of types row))

-- ---- among the twins of a chain

-- The new row goes in just between two twins of a chain, 0 for none: behind the one and before the other.
pub record IsGap (types : List SegmentType) (m : Links) (first : ℕ) (last : Bool) (row : Segment) (y z : ℕ) : Type 0 where
  pub chain : IsBehind m first y z
  pub behind : 0 < y → side_at types m last row y ≡ Behind
  pub before : 0 < z → side_at types m last row z ≡ Before

-- What is said of a chain of twins: none where a twin has the row's key, which is unique, else the twin behind which the row goes in.
abbrev pub IsGapFound : List SegmentType → Links → ℕ → Bool → Segment → Option ℕ → Type 0
IsGapFound types m first last row None = (a : ℕ) × IsInChain m first a × (side_at types m last row a ≡ Taken)
IsGapFound types m first last row (Some y) = (z : ℕ) × IsGap types m first last row y z

-- where the store is sound, these are the first and the last child of a type below h, each 0 for none, or the first and the last root
abbrev pub HasEnds : Database → VolumeState → ℕ → ℕ → EndChildren → Type 0
HasEnds d v h code ends =
    IsTrue v.is_sound → (ends.first ≡ (links_of d.types v).first_child h code) × (ends.last ≡ (links_of d.types v).last_child h code)

-- where the store is sound, these are the twins around a row's key below h, or the roots: the last whose key is below, and the one behind it
abbrev pub IsAroundKey : Database → VolumeState → ℕ → Segment → TwinsAround → Type 0
IsAroundKey d v h row around =
    IsTrue v.is_sound → IsLastBelow d.types (links_of d.types v) (key_of d.types row) ((links_of d.types v).first_child h row.code) around.before around.from

-- where the store is sound, that is said of the twins of a row's type below h, or of the roots
abbrev pub IsGapBelow : Database → VolumeState → ℕ → Bool → Segment → Option ℕ → Type 0
IsGapBelow d v h last row r =
    IsTrue v.is_sound → IsGapFound d.types (links_of d.types v) ((links_of d.types v).first_child h row.code) last row r

-- The volume holds a forest, and rows of the type may stand below what stands at h, or below the header.
pub record IsParent (d : Database) (v : VolumeState) (h code : ℕ) : Type 0 where
  pub volume : IsVolumeOf d v
  pub forest : HasForest d v
  pub here : (links_of d.types v).here h ≡ true
  pub typed : is_child_type d.types ((links_of d.types v).code h) code ≡ true

-- where the store is sound, it is such a parent
abbrev pub HasParent : Database → VolumeState → ℕ → ℕ → Type 0
HasParent d v h code = IsTrue v.is_sound → IsParent d v h code

-- ---- where the PCB stands

-- the row at an address is of the new row's type and has its key
abbrev pub is_equal_at : List SegmentType → Links → Segment → ℕ → Bool
is_equal_at types m row a = m.code a == row.code && is_eq (slice_cmp nat_cmp (key_of types (segment_at m a)) (key_of types row))

-- the path down to the row on which a PCB stands, if it stands on one
abbrev pub standing_path : Kept → Option (List ℕ)
standing_path k = option_map (λ a. take (k.standing - 1) k.path ++ a ∷ []) (row_on k.path k.standing)

-- the path of the row on which the PCB stands, where that is a twin of the new row with its key; else none
abbrev pub standing_twin : List SegmentType → Forest Placed → Option ℕ → Option ℕ → Segment → Option (List ℕ)
standing_twin types f parent standing row =
    option_map_or (λ i. cond (is_equal_twin types (rows_of f) parent row i) (Some (path_at types f i)) None) standing None

-- wherever what is kept stands for a position, and the path is that of the row's parent, it is this one
abbrev pub IsStandingTwin : Database → VolumeState → List ℕ → Kept → Segment → Option (List ℕ) → Type 0
IsStandingTwin d v path k row r =
    (f : Forest Placed) (q : Position) (parent : Option ℕ) → IsPositionIn d v f k q → IsPathOfParent d.types f parent path
    → r ≡ standing_twin d.types f parent q.standing row

-- where the store is sound, the path is that of a row of the type, of a forest that the volume holds
abbrev pub HasRowOf : Database → VolumeState → List ℕ → ℕ → Type 0
HasRowOf d v path code =
    IsTrue v.is_sound → (f : Forest Placed) × (i : ℕ) × HoldsPlaced d v f × IsOnRow d.types (links_of d.types v) f path i × ((row_at (rows_of f) i).code ≡ code)

-- What is said of the place before the last row of a path, an equal of the new one: none where the key is unique, else the twin before it.
abbrev pub IsBeforeEqual : Database → VolumeState → List ℕ → ℕ → Option ℕ → Type 0
IsBeforeEqual d v path code None = has_unique_key d.types code ≡ true
IsBeforeEqual d v path code (Some y) =
    (has_unique_key d.types code ≡ false)
    × (IsTrue v.is_sound → IsBehind (links_of d.types v) ((links_of d.types v).first_child (parent_on path) code) y (tip path))

-- ---- roots

-- where the store is sound, there stands the first root, of a forest that the volume holds, whose key is not below a new root's, and it is told whether that is equal
abbrev pub HasNextRoot : Database → VolumeState → Segment → RootFrom → Type 0
HasNextRoot d v row next =
    IsTrue v.is_sound → (f : Forest Placed) × HoldsPlaced d v f × IsToldRoot d.types f (key_of d.types row) next

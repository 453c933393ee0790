-- The tables that a check keeps of a volume's pointers: flat lists, in order of the segments' places.
use Rattle.std.specs.Prelude.{◌≡◌, ◌≢◌, ℕ, ◌<◌, List, true, length, slice_index, slice_index_or}
use Rattle.hd_dbd.specs.Types.{SegmentType}
use Rattle.hd_links.specs.Links.{Links, is_child_type}
use Rattle.hd_links.specs.Pointers.{Precedes, IsInChain}
use Rattle.hd_check_blocks.specs.declared.places.Place.{Place}
pub use Rattle.hd_check_blocks.specs.Places.{place_at}
use Rattle.hd_check_pointers.specs.declared.namings.Naming.{Naming}

-- the pointer of a number
abbrev pub naming_at : List Naming → ℕ → Naming
naming_at namings i = slice_index_or namings i (record { target = 0; holder = 0 })

-- These are the twin forward pointers of the segments at these places, one for each.
pub record AreForwards (m : Links) (places : List Place) (forwards : List ℕ) : Type 0 where
  pub as_many : length forwards ≡ length places
  pub names : (i : ℕ) → i < length places → slice_index forwards i ≡ m.forward (place_at places i).address

-- Each of the segments at these places has just one predecessor, and these are the pointers by which it is named, one for
-- each place.
pub record ArePredecessors (types : List SegmentType) (m : Links) (places : List Place) (namings : List Naming) : Type 0 where
  pub as_many : length namings ≡ length places
  pub target : (i : ℕ) → i < length places → (naming_at namings i).target ≡ (place_at places i).address
  pub holder : (i : ℕ) → i < length places → Precedes types m (naming_at namings i).holder (place_at places i).address

-- The record h is the parent of the chain of twins in which a is.
pub record IsOwner (types : List SegmentType) (m : Links) (h a : ℕ) : Type 0 where
  pub holder : m.here h ≡ true
  pub type_code : ℕ
  pub typed : is_child_type types (m.code h) type_code ≡ true
  pub chain : IsInChain m (m.first_child h type_code) a

-- the address of no owner: no record stands there
abbrev pub nobody : ℕ
nobody = 4294967295

-- These are the owners of the chains in which the segments at these places are, one for each place; `nobody` where a chain has none.
pub record AreOwners (types : List SegmentType) (m : Links) (places : List Place) (owners : List ℕ) : Type 0 where
  pub as_many : length owners ≡ length places
  pub owner : (i : ℕ) → i < length places → slice_index owners i ≢ nobody → IsOwner types m (slice_index owners i) (place_at places i).address
  pub no_owner : (i : ℕ) → i < length places → slice_index owners i ≡ nobody → (h : ℕ) → IsOwner types m h (place_at places i).address → ⊥

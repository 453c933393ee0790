-- What is known of the row that was given last.
use Rattle.std.specs.Prelude.{◌≡◌, ◌⊎◌, IsTrue, ℕ, ◌+◌, ◌-◌, List, [], length, take, Bool, true, ◌&&◌, ◌==◌, nat_lt, flat_map, Option, None, IfSome}
use Rattle.std.specs.List.{list_all, starts_with}
use Rattle.hd_dbd.specs.Types.{SegmentType}
use Rattle.hd_dbd.specs.Hierarchy.{Database}
use Rattle.hd_dbd.specs.Rows.{key_of}
use Rattle.hd_volume.specs.Volumes.{VolumeState}
use Rattle.hd_links.specs.Links.{Links, segment_at}
use Rattle.hd_image.specs.Records.{links_of}
use Rattle.hd_forest.specs.declared.walk.Ahead.{Ahead}
use Rattle.hd_forest.specs.Walks.{IsAhead}

-- The rows on a path, root first, and their keys one behind another; and a row, by its address, with what it names ahead of it.
pub record Given : Type 0 where
  pub path : List ℕ
  pub keys : List ℕ
  pub seen : Option (ℕ × Ahead)

-- no row is known
abbrev pub nothing_given : Given
nothing_given = record { path = []; keys = []; seen = None }

-- the keys are those of the segments at these places
abbrev pub AreKeysIn : List SegmentType → Links → Given → Type 0
AreKeysIn types m above = above.keys ≡ flat_map (λ a. key_of types (segment_at m a)) above.path

-- the row that was seen names this ahead of it
abbrev pub IsSeenIn : List SegmentType → Links → Given → Type 0
IsSeenIn types m above = IfSome above.seen (λ s. IsAhead types m s.0 s.1)

-- where the store is sound, the keys are those of the volume's segments at these places, and the segment that was seen names this ahead of it
abbrev pub AreKeysOf : Database → VolumeState → Given → Type 0
AreKeysOf d v above = IsTrue v.is_sound → AreKeysIn d.types (links_of d.types v) above × IsSeenIn d.types (links_of d.types v) above

-- a path begins with the rows, and goes on below them
abbrev pub is_begun_by : List ℕ → Given → Bool
is_begun_by path above = nat_lt (length above.path) (length path) && starts_with (λ a b. a == b) path above.path

-- a path leads to a row just below the rows
abbrev pub IsJustBelow : List ℕ → Given → Type 0
IsJustBelow path above = (length path ≡ length above.path + 1) × (is_begun_by path above ≡ true)

-- noted are the rows above the last of a path, with these keys, or none
abbrev pub AreNoted : List ℕ → List ℕ → Given → Type 0
AreNoted path keys above = (above ≡ nothing_given) ⊎ (above ≡ record { path = take (length path - 1) path; keys = keys; seen = None })

-- all of these levels are below one
abbrev pub are_below : List ℕ → ℕ → Bool
are_below levels level = list_all (λ l. nat_lt level l) levels

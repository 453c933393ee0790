-- Twins of one block, by its bytes alone.
use Rattle.std.specs.Prelude.{◌≡◌, ℕ, zero, suc, ◌+◌, ◌-◌, ◌*◌, ◌/◌, ◌<◌, ◌≤◌, max, List, length, Bool, true, false}
use Rattle.std.specs.Ordering.{nat_cmp, is_lt}
use Rattle.std.specs.Cmp.Lexicographic.{slice_cmp}
use Rattle.hd_bytes.specs.Ranges.{bytes_at}
use Rattle.hd_bytes.specs.Numbers.{number_at}
use Rattle.hd_volume.specs.Volumes.{VolumeState, block_at}
use Rattle.hd_forest.specs.declared.twins.TwinPlaces.{TwinPlaces}
use Rattle.hd_forest.specs.declared.block_twins.Walk.{Walk}

-- so many first bytes of a segment hold its twin forward and its key
abbrev pub end_of_places : TwinPlaces → ℕ
end_of_places places = max (places.forward + 4) (places.key + places.length)

-- A block, whose first byte has an address, has the twin at another, with its twin forward and its key.
pub record HasTwin (places : TwinPlaces) (block : List ℕ) (start a : ℕ) : Type 0 where
  pub behind : start ≤ a
  pub within : a - start + end_of_places places ≤ length block

-- A block of so many bytes has room at a place for a twin, and for eight bytes from where its key begins.
pub record HasRoom (places : TwinPlaces) (size place : ℕ) : Type 0 where
  pub whole : place + end_of_places places ≤ size
  pub eight : place + places.key + 8 ≤ size

-- the twin forward of a twin in a block
abbrev pub forward_in : TwinPlaces → List ℕ → ℕ → ℕ → ℕ
forward_in places block start a = number_at 4 block (a - start + places.forward)

-- the key of a twin in a block
abbrev pub key_in : TwinPlaces → List ℕ → ℕ → ℕ → List ℕ
key_in places block start a = bytes_at block (a - start + places.key) places.length

-- the key of a twin in a block is below another
abbrev pub is_below_in : TwinPlaces → List ℕ → ℕ → List ℕ → ℕ → Bool
is_below_in places block start key a = is_lt (slice_cmp nat_cmp (key_in places block start a) key)

-- what so many steps along the twins of a block from p come to
abbrev pub twin_in : TwinPlaces → List ℕ → ℕ → ℕ → ℕ → ℕ
twin_in places block start zero p = p
twin_in places block start (suc n) p = forward_in places block start (twin_in places block start n p)

-- the twin before that, and before p another
abbrev pub twin_before : TwinPlaces → List ℕ → ℕ → ℕ → ℕ → ℕ → ℕ
twin_before places block start zero before p = before
twin_before places block start (suc n) before p = twin_in places block start n p

-- so many twins from p on are in the block, with keys below another
abbrev pub AreBelowIn : TwinPlaces → List ℕ → ℕ → List ℕ → ℕ → ℕ → Type 0
AreBelowIn places block start key zero p = Unit {0}
AreBelowIn places block start key (suc n) p =
    AreBelowIn places block start key n p × HasTwin places block start (twin_in places block start n p)
    × (is_below_in places block start key (twin_in places block start n p) ≡ true)

-- Of the twins of a block from p on, before which another stands, some were passed over whose keys are below a key. One that was found is in the
-- block, and its key is not below.
pub record IsPassage (places : TwinPlaces) (block : List ℕ) (start : ℕ) (key : List ℕ) (other p : ℕ) (walk : Walk) : Type 0 where
  pub steps : ℕ
  pub below : AreBelowIn places block start key steps p
  pub twin : walk.twin ≡ twin_in places block start steps p
  pub before : walk.before ≡ twin_before places block start steps other p
  pub found : walk.is_found ≡ true → HasTwin places block start walk.twin × (is_below_in places block start key walk.twin ≡ false)

-- A walk along the twins of a block from p is such a passage, over one twin at least, where p is in the block and none was found.
pub record IsWalk (places : TwinPlaces) (block : List ℕ) (start : ℕ) (key : List ℕ) (other p : ℕ) (walk : Walk) : Type 0 where
  pub steps : ℕ
  pub below : AreBelowIn places block start key steps p
  pub twin : walk.twin ≡ twin_in places block start steps p
  pub before : walk.before ≡ twin_before places block start steps other p
  pub found : walk.is_found ≡ true → HasTwin places block start walk.twin × (is_below_in places block start key walk.twin ≡ false)
  pub moves : walk.is_found ≡ false → HasTwin places block start p → 0 < steps

-- such a walk in the block of p
abbrev pub IsWalkFrom : VolumeState → TwinPlaces → List ℕ → ℕ → ℕ → Walk → Type 0
IsWalkFrom v places key other p walk = IsWalk places (block_at v (p / v.size)) (p / v.size * v.size) key other p walk

-- a walk in the block of p found a twin whose key is equal
abbrev pub IsEqualFrom : VolumeState → TwinPlaces → List ℕ → ℕ → Walk → Type 0
IsEqualFrom v places key p walk = (walk.is_found ≡ true) × (key_in places (block_at v (p / v.size)) (p / v.size * v.size) walk.twin ≡ key)

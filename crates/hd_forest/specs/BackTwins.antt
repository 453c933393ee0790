-- Twins of one block, gone back over, by its bytes alone.
use Rattle.std.specs.Prelude.{◌≡◌, ℕ, zero, suc, ◌+◌, ◌-◌, ◌*◌, ◌/◌, List, true, false}
use Rattle.hd_bytes.specs.Numbers.{number_at}
use Rattle.hd_volume.specs.Volumes.{VolumeState, block_at}
use Rattle.hd_forest.specs.declared.twins.TwinPlaces.{TwinPlaces}
use Rattle.hd_forest.specs.declared.back_twins.Back.{Back}
use Rattle.hd_forest.specs.BlockTwins.{HasTwin, is_below_in}

-- the twin backward, at a place, of a twin in a block
abbrev pub backward_in : ℕ → List ℕ → ℕ → ℕ → ℕ
backward_in place block start a = number_at 4 block (a - start + place)

-- what so many steps back along the twins of a block from p come to
abbrev pub twin_back : ℕ → List ℕ → ℕ → ℕ → ℕ → ℕ
twin_back place block start zero p = p
twin_back place block start (suc n) p = backward_in place block start (twin_back place block start n p)

-- so many twins back from p are in the block, with keys not below another
abbrev pub AreNotBelowIn : TwinPlaces → ℕ → List ℕ → ℕ → List ℕ → ℕ → ℕ → Type 0
AreNotBelowIn places place block start key zero p = Unit {0}
AreNotBelowIn places place block start key (suc n) p =
    AreNotBelowIn places place block start key n p × HasTwin places block start (twin_back place block start n p)
    × (is_below_in places block start key (twin_back place block start n p) ≡ false)

-- the block has the twin at an address, and its key is below another
abbrev pub IsBelowIn : TwinPlaces → List ℕ → ℕ → List ℕ → ℕ → Type 0
IsBelowIn places block start key a = HasTwin places block start a × (is_below_in places block start key a ≡ true)

-- Some twins of a block back from p were passed over whose keys are not below a key. One that was found is in the block, and its key is below.
pub record IsBackWalk (places : TwinPlaces) (place : ℕ) (block : List ℕ) (start : ℕ) (key : List ℕ) (p : ℕ) (back : Back) : Type 0 where
  pub steps : ℕ
  pub passed : AreNotBelowIn places place block start key steps p
  pub twin : back.twin ≡ twin_back place block start steps p
  pub found : back.is_below ≡ true → IsBelowIn places block start key back.twin

-- such a walk in the block of p
abbrev pub IsBackWalkFrom : VolumeState → TwinPlaces → ℕ → List ℕ → ℕ → Back → Type 0
IsBackWalkFrom v places place key p back = IsBackWalk places place (block_at v (p / v.size)) (p / v.size * v.size) key p back

-- the block of a twin has it, and its key is below another
abbrev pub IsBelowAt : VolumeState → TwinPlaces → List ℕ → ℕ → Type 0
IsBelowAt v places key a = IsBelowIn places (block_at v (a / v.size)) (a / v.size * v.size) key a

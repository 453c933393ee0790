-- A new volume.
use Rattle.std.specs.Prelude.{◌≡◌, ◌⊎◌, ℕ, ◌-◌, ◌*◌, ◌/◌, ◌%◌, Bool, IsTrue, List, [], ◌∷◌, length, drop, replicate, slice_index, codes, None}
use Rattle.hd_dbd.specs.declared.answer.Refused.{Refused}
use Rattle.hd_dbd.specs.declared.answer.Refused.TheVariants.{Memory, Device}
use Rattle.hd_stores.specs.Stores.{Committed, CountsFor, SoundFor}
use Rattle.hd_volume.specs.declared.header.TheConstants.{NEWEST_VERSION}
use Rattle.hd_volume.specs.Headers.{Header, header_of}
use Rattle.hd_volume.specs.Volumes.{VolumeState, IsFormatted}
use Rattle.hd_volume.specs.Records.{find}

-- the header of a new volume: the newest version, one block, no roots and no index
abbrev pub new_header : List ℕ → ℕ → ℕ → Header
new_header name size largest = record {
  mark = codes "HDVOLUME";
  version = NEWEST_VERSION;
  block_size = size;
  count = 1;
  largest = largest;
  name = name;
  first_root = 0;
  last_root = 0;
  top = 0;
  height = 0;
}

-- the first 44 bytes of a new volume
abbrev pub head_list : List ℕ → ℕ → ℕ → List ℕ
head_list name size largest =
    72 ∷ 68 ∷ 86 ∷ 79 ∷ 76 ∷ 85 ∷ 77 ∷ 69 ∷ 0 ∷ 3 ∷ (size / 256) ∷ (size % 256) ∷ 0 ∷ 0 ∷ 0 ∷ 1
    ∷ (largest / 16777216) ∷ (largest / 65536 % 256) ∷ (largest / 256 % 256) ∷ (largest % 256)
    ∷ slice_index name 0 ∷ slice_index name 1 ∷ slice_index name 2 ∷ slice_index name 3 ∷ slice_index name 4 ∷ slice_index name 5 ∷ slice_index name 6 ∷ slice_index name 7
    ∷ 0 ∷ 0 ∷ 0 ∷ 0 ∷ 0 ∷ 0 ∷ 0 ∷ 0 ∷ 0 ∷ 0 ∷ 0 ∷ 0 ∷ 0 ∷ 0 ∷ 0 ∷ 0 ∷ []

-- A volume of one block with this header, and zeros behind it. Until it is flushed its store has one block of zeros, which no one takes for a
-- volume.
pub record IsCreated (name : List ℕ) (size largest : ℕ) (v : VolumeState) : Type 0 where
  pub formatted : IsFormatted v
  pub header : header_of v.image ≡ new_header name size largest
  pub one : length v.image ≡ size
  pub behind : drop 44 v.image ≡ replicate (size - 44) 0
  pub stored : v.stored ≡ replicate (1 * size) 0
  pub empty : (address : ℕ) → find v address ≡ None

-- A store that was empty is given back with a refusal: after Memory it is empty, or one block of zeros.
pub record IsGivenNew {S : Type 0} (size : S → ℕ) (contents : S → List ℕ) (is_sound : S → Bool) (failures : S → ℕ) (committed : S → Committed) (old : S) (given : S × Refused) : Type 0 where
  pub refusal : (given.1 ≡ Memory) ⊎ (given.1 ≡ Device)
  pub counts : CountsFor given.1 (failures old) (failures given.0)
  pub sound : SoundFor given.1 (is_sound old) (is_sound given.0)
  pub kept : given.1 ≡ Memory → IsTrue (is_sound old) → (contents given.0 ≡ []) ⊎ (contents given.0 ≡ replicate (1 * size old) 0)
  pub size_kept : size given.0 ≡ size old
  pub committed_kept : committed given.0 ≡ committed old

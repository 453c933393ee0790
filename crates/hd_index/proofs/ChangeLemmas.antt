-- The index of a volume of version 2 or later.
use Rattle.std.proofs.Common.{◌≡◌, ℕ, List, ap, sym, ◌∙◌}
use Rattle.hd_dbd.specs.Hierarchy.{Database}
use Rattle.hd_volume.specs.Headers.{Header, header_of}
use Rattle.hd_volume.specs.Volumes.{VolumeState}
use Rattle.hd_volume.specs.Indexes.{root_key_length}
use Rattle.hd_index_blocks.specs.IndexSets.{HasIndexOf}
use Rattle.hd_index_blocks.proofs.Versions.{set-of}
use Rattle.hd_index.specs.Changes.{IsLater, IsIndexOf, IsIndexChange}

-- the index of such a volume is an index set
pub set-index : (d : Database) (v : VolumeState) → v.size ≡ d.block_size → HasIndexOf (root_key_length d.types) v → IsLater v → IsIndexOf d v
set-index d v size index later = record { size = size; index = set-of (root_key_length d.types) v index later }

-- where the version stays, a volume is such a one still
pub later-same : (v w : VolumeState) → (header_of w.image).version ≡ (header_of v.image).version → IsLater v → IsLater w
later-same v w same later one = later (sym same ∙ one)

-- as it is where the image stays
pub later-image : (v w : VolumeState) → w.image ≡ v.image → IsLater v → IsLater w
later-image v w same = later-same v w (ap (λ (i : List ℕ). (header_of i).version) same)

-- a change of the index leaves the version
pub version-kept : (v w : VolumeState) (more : ℕ) → IsIndexChange v more w → (header_of w.image).version ≡ (header_of v.image).version
version-kept v w more change = ap (λ (h : Header). h.version) change.header

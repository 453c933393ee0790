-- What the version of a volume says of its index.
use Rattle.std.proofs.Common.{◌≡◌, ◌≢◌, inl, inr, ℕ, ◌+◌, ◌≤◌, ◌==◌, cond, List, refl}
use Rattle.std.proofs.lemmas.Bool.{eq-eqb}
use Rattle.hd_volume.specs.Headers.{header_of}
use Rattle.hd_volume.specs.Volumes.{VolumeState, IsFormatted}
use Rattle.hd_volume.specs.Entries.{entries}
use Rattle.hd_volume.specs.Indexes.{HasIndex}
use Rattle.hd_index_blocks.specs.IndexSets.{index_entries, HasIndexSet, HasIndexOf}
use Rattle.hd_index_blocks.proofs.Volumes.{entries-below}

-- of version 1 it is a chain
pub chain-of : (k : ℕ) (v : VolumeState) → HasIndexOf k v → (header_of v.image).version ≡ 1 → HasIndex k v
chain-of k v (inl x) one = x
chain-of k v (inr x) one = absurd (x.version one)

-- and else an index set
pub set-of : (k : ℕ) (v : VolumeState) → HasIndexOf k v → (header_of v.image).version ≢ 1 → HasIndexSet k v
set-of k v (inl x) other = absurd (other x.version)
set-of k v (inr x) other = x

pub formatted-of : (k : ℕ) (v : VolumeState) → HasIndexOf k v → IsFormatted v
formatted-of k v (inl x) = x.formatted
formatted-of k v (inr x) = x.formatted

-- its entries are then those of the chain
pub chain-entries : (k : ℕ) (v : VolumeState) → (header_of v.image).version ≡ 1 → index_entries k v ≡ entries k v
chain-entries k v one = (entries-below k v).0 one

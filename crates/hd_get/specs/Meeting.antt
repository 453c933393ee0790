-- Whether the row at an address meets a segment search argument.
use Rattle.std.specs.Prelude.{◌≡◌, IsTrue, ℕ, List, Bool, is_none}
use Rattle.hd_dbd.specs.Hierarchy.{Database}
use Rattle.hd_dbd.specs.Forest.{Forest}
use Rattle.hd_volume.specs.Volumes.{VolumeState}
use Rattle.hd_links.specs.Links.{IsSegment, segment_at}
use Rattle.hd_links.specs.Placed.{Placed}
use Rattle.hd_links.specs.Steps.{rows_of}
use Rattle.hd_image.specs.Records.{links_of}
use Rattle.hd_calls.specs.Ssas.{Ssa}
use Rattle.hd_calls.specs.Satisfies.{qualifies, is_last_so, meets}
use Rattle.hd_calls.specs.SearchTwins.{next_twin}
use Rattle.hd_get.specs.Searches.{IsPathOf}

-- where the store is sound, the address is that of a segment
abbrev pub IsStored : Database → VolumeState → ℕ → Type 0
IsStored d v a = IsTrue v.is_sound → IsSegment (links_of d.types v) a

-- where the store is sound, the answer says whether the segment at the address has the SSA's qualification
abbrev pub Qualifies : Database → VolumeState → Ssa → ℕ → Bool → Type 0
Qualifies d v ssa a r = IsTrue v.is_sound → r ≡ qualifies ssa (segment_at (links_of d.types v) a)

-- wherever the path is that of a row, the answer says whether that is the last of its twins
abbrev pub IsLastTwin : Database → VolumeState → List ℕ → Bool → Type 0
IsLastTwin d v path r = (f : Forest Placed) (i : ℕ) → IsPathOf d v f path i → r ≡ is_none (next_twin d.types (rows_of f) i)

-- wherever the path is that of a row, the answer says whether no later twin has the SSA's qualification
abbrev pub IsLastSo : Database → VolumeState → Ssa → List ℕ → Bool → Type 0
IsLastSo d v ssa path r = (f : Forest Placed) (i : ℕ) → IsPathOf d v f path i → r ≡ is_last_so d.types (rows_of f) ssa i

-- wherever the path is that of a row, the answer says whether that meets the SSA
abbrev pub Meets : Database → VolumeState → Ssa → List ℕ → Bool → Type 0
Meets d v ssa path r = (f : Forest Placed) (i : ℕ) → IsPathOf d v f path i → r ≡ meets d.types (rows_of f) ssa i

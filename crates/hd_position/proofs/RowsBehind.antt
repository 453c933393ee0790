-- The row just behind those passed, by what a path leads to.
use Rattle.std.proofs.Common.{ℕ, ◌∙◌}
use Rattle.hd_dbd.specs.Hierarchy.{Database}
use Rattle.hd_volume.specs.Volumes.{VolumeState}
use Rattle.hd_image.specs.Records.{links_of, IsVolumeOf}
use Rattle.hd_forest.specs.Walks.{IsNextOn}
use Rattle.hd_forest.proofs.RowSteps.{row-steps}
use Rattle.hd_position.specs.Kept.{Kept}
use Rattle.hd_position.specs.Behind.{IsBehind}
use Rattle.hd_position.proofs.Getting.{begins_behind}

-- what stands behind the last row passed stands behind all of them
pub is_behind : (d : Database) (v : VolumeState) → IsVolumeOf d v → (k : Kept) (a code : ℕ) → IsNextOn d.types (links_of d.types v) k.path a code → IsBehind d.types (links_of d.types v) k a code
is_behind d v of k a code next = (
  λ f q at. record {
    holds = at.holds;
    within = at.stands.within;
    is = next.0 ∙ begins_behind d.types (links_of d.types v) f (row-steps d v f of at.holds) k q at.stands;
  },
  next.1,
)

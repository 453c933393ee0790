-- What a volume's records are where they hold a forest.
use Rattle.std.proofs.Common.{◌≡◌, ℕ, ◌<◌, List, length, sym, subst}
use Rattle.hd_dbd.specs.Hierarchy.{Database}
use Rattle.hd_volume.specs.Volumes.{VolumeState}
use Rattle.hd_links.specs.Links.{Links, IsLinkGraph}
use Rattle.hd_links.specs.Pointers.{AreLinked}
use Rattle.hd_links.proofs.Types.{Ordered, ordered}
use Rattle.hd_links.proofs.Sound.{are_linked}
use Rattle.hd_image.specs.Records.{links_of, IsVolumeOf}
use Rattle.hd_image.specs.Laws.{IsDatabase}
use Rattle.hd_image.proofs.Found.{records-link}
use Rattle.hd_links.specs.Steps.{LeadsDown}
use Rattle.hd_forest.specs.Walks.{tip, parent_on, HasForest}
use Rattle.hd_forest.proofs.Tips.{IsBelow, tip-below}

-- The types are ordered, and the records are a link graph and linked.
pub record Held (d : Database) (v : VolumeState) : Type 0 where
  pub ordered : Ordered d.types
  pub graph : IsLinkGraph d.types (length v.image) (links_of d.types v)
  pub linked : AreLinked d.types (links_of d.types v)

-- where a forest is held, the pointers are linked
pub held : (d : Database) (v : VolumeState) → IsDatabase d → IsVolumeOf d v → HasForest d v → Held d v
held d v fit of h =
    let O = ordered d.block_size d.frspc d.types fit in
    let G = records-link d v fit of in
    record { ordered = O; graph = G; linked = are_linked d.types O (length v.image) (links_of d.types v) G h.0 h.1 }

-- the last row of a path that leads down stands below the one before it
pub last-below : (d : Database) (v : VolumeState) (path : List ℕ) (h a : ℕ) → Held d v → (0 < length path) × LeadsDown d.types (links_of d.types v) 0 path
    → h ≡ parent_on path → a ≡ tip path → IsBelow d.types (links_of d.types v) h a
last-below d v path h a held down above last =
    let m : Links = links_of d.types v in
    subst (λ x. IsBelow d.types m x a) (sym above)
    (subst (IsBelow d.types m (parent_on path)) (sym last) (tip-below d.types m held.linked.typed 0 path held.graph.header down.0 down.1))

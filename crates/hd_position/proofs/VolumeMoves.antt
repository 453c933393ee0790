-- How the calls that change a volume move what is kept of a PCB.
use Rattle.std.proofs.Common.{◌≡◌, ℕ, List, length, sym, ap, subst, ◌∙◌}
use Rattle.hd_dbd.specs.Paths.{level_at}
use Rattle.hd_links.specs.Links.{Links}
use Rattle.hd_links.specs.Placed.{Placed}
use Rattle.hd_links.specs.Changes.{CanUnlink, without_span}
use Rattle.hd_links.specs.Steps.{rows_of, address_at, tip_from}
use Rattle.hd_links.proofs.Types.{ordered}
use Rattle.hd_links.proofs.RowChanges.{leaf_in}
use Rattle.hd_dbd.proofs.LevelLaw.{leveled}
use Rattle.hd_image.specs.Records.{links_of}
use Rattle.hd_image.proofs.Found.{records-link}
use Rattle.hd_forest.specs.Walks.{tip, parent_on}
use Rattle.hd_forest.proofs.Walking.{steps-found}
use Rattle.hd_position.specs.Laws.{MovesDown}
use Rattle.hd_position.specs.Volumes.{ForestsOfVolumesAreHeld, LinkedRowsMovePositions, LinkedPathsGoInTogether, UnlinkedRowsMovePositions}
use Rattle.hd_position.proofs.Leaves.{linking_moves, leaves_below}
use Rattle.hd_position.proofs.Leaving.{unlinking_moves}
use Rattle.hd_position.proofs.Before.{path_levels}

pub held : ForestsOfVolumesAreHeld
held d v f of holds = record { formed = of.fit; graph = records-link d v of.fit of; holds = holds }

pub linked_move : LinkedRowsMovePositions
linked_move d old new h y row a f of may L holds =
    let m : Links = links_of d.types old in
    let p : Placed = record { address = a; segment = row } in
    let D = held d old f of holds in
    let I = leaf_in d.types (ordered d.block_size d.frspc d.types of.fit) (leveled d.block_size d.frspc d.types of.fit) (length old.image) m D.graph f holds h y p (may a L.free) in
    (I.0, I.1, linking_moves d.block_size d.frspc d.types (length old.image) m f h y p I.0 D (may a L.free) I.1)

pub linked_below : LinkedPathsGoInTogether
linked_below d old new h y row a lower f n k of may L holds at below =
    leaves_below d.block_size d.frspc d.types (length old.image) (links_of d.types old) f h y (record { address = a; segment = row }) lower n k (held d old f of holds) (may a L.free) at below

pub unlinked_move : UnlinkedRowsMovePositions
unlinked_move d old new path f i of U on =
    let m : Links = links_of d.types old in
    let D = held d old f of on.holds in
    let R = U.records f on.holds in
    let at : address_at f i ≡ tip path = sym (ap (tip_from 0) on.is ∙ (steps-found d old f of.fit of on.holds i on.within).tip) in
    let level : level_at d.types (rows_of f) i ≡ length path = sym (ap (λ (xs : List ℕ). length xs) on.is ∙ (path_levels d.block_size d.frspc d.types (length old.image) m f i D on.within).0) in
    subst (λ l. MovesDown d.types f (without_span (parent_on path) (tip path) f) (tip path) l i) level
    (subst (λ b. MovesDown d.types f (without_span (parent_on path) b f) b (level_at d.types (rows_of f) i) i) at
    (unlinking_moves d.block_size d.frspc d.types (length old.image) m f (parent_on path) R.0 i D on.within (subst (λ b. CanUnlink d.types m (parent_on path) R.0 b) (sym at) R.1)))

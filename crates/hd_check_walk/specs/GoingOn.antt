-- A walk along twins that stand one behind another in a block.
use Rattle.std.specs.Prelude.{◌≡◌, ◌≢◌, ℕ, List, true}
use Rattle.hd_dbd.specs.Types.{SegmentType}
use Rattle.hd_dbd.specs.Prefixes.{is_backward_kept}
use Rattle.hd_links.specs.Links.{Links}
use Rattle.hd_links.specs.Pointers.{IsParentOfFirst, IsReached}
use Rattle.hd_check_blocks.specs.declared.places.Place.{Place}
use Rattle.hd_check_walk.specs.declared.segments.Seen.{Seen}
use Rattle.hd_check_walk.specs.declared.twins.Twin.{Twin}
use Rattle.hd_check_walk.specs.declared.beside.Stand.{Stand}
use Rattle.hd_check_walk.specs.Reading.{IsChildless, IsAsSeen}
use Rattle.hd_check_walk.specs.Twins.{HasFront, HaveFronts, IsKeyBehind}
use Rattle.hd_check_walk.specs.Walks.{StaysHeld, IsOnChain, StepsOn}

-- What is seen of a segment is what it says; it names no children; and it is right as the twin of type t behind another: its twin backward, where it is
-- kept, names that one, and its key may come behind that one's, where both are twins of the type.
pub record IsPlainBehind (types : List SegmentType) (m : Links) (t : ℕ) (before : Twin) (a : ℕ) (seen : Seen) : Type 0 where
  pub is : IsAsSeen types m seen a
  pub childless : IsChildless types m a
  pub backward : is_backward_kept types t ≡ true → m.backward a ≡ before.address
  pub key : HaveFronts types m t before (record { address = a; front = seen.front }) → IsKeyBehind types m before.address a

-- A walk along the chain of the twins of type t from a first, which h holds, stands behind a twin, whose key has this front, and goes on to the next.
pub record IsStanding (types : List SegmentType) (m : Links) (places : List Place) (holders : List ℕ) (h t first : ℕ) (stand : Stand) : Type 0 where
  pub some : stand.twin.address ≢ 0
  pub chain : IsOnChain types m places holders h t first stand.twin.address stand.next
  pub twin : HasFront types m t stand.twin

-- A walk along a chain goes on from where it stands to where it stands then: what is held stays held, and nothing more waits.
pub record GoesOn (types : List SegmentType) (m : Links) (places : List Place) (t : ℕ) (from : Stand) (holders : List ℕ) (to : Stand) (holders2 : List ℕ) : Type 0 where
  pub kept : StaysHeld holders holders2
  pub stands : (h first : ℕ) → IsParentOfFirst types m h t first → ((n : ℕ) × IsReached types m n h) → IsStanding types m places holders h t first from
      → IsStanding types m places holders2 h t first to
  pub steps : (h first : ℕ) → IsParentOfFirst types m h t first → ((n : ℕ) × IsReached types m n h) → IsStanding types m places holders h t first from
      → (waiting : List ℕ) → StepsOn types m places from.twin.address to.twin.address waiting holders waiting holders2

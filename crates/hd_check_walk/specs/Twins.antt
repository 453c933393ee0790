-- Twins to which a walk comes, and the order of their keys.
use Rattle.std.specs.Prelude.{◌≡◌, ℕ, List, Bool, true}
use Rattle.hd_dbd.specs.Types.{SegmentType}
use Rattle.hd_dbd.specs.Rows.{key_of, twins_in_order}
use Rattle.hd_links.specs.Links.{Links, IsSegment, segment_at}
use Rattle.hd_check_walk.specs.declared.twins.Twin.{Twin}
use Rattle.hd_check_walk.specs.Reading.{key_front}

-- There is a segment of the type of a code at the address of the twin, which has the front of its key.
pub record HasFront (types : List SegmentType) (m : Links) (code : ℕ) (twin : Twin) : Type 0 where
  pub here : IsSegment m twin.address
  pub typed : m.code twin.address ≡ code
  pub front_is : twin.front ≡ key_front (key_of types (segment_at m twin.address))

-- both are twins of the type of a code
abbrev pub HaveFronts : List SegmentType → Links → ℕ → Twin → Twin → Type 0
HaveFronts types m code before twin = HasFront types m code before × HasFront types m code twin

-- the key of the segment a may come behind that of the segment h
abbrev pub IsKeyBehind : List SegmentType → Links → ℕ → ℕ → Type 0
IsKeyBehind types m h a = twins_in_order types (segment_at m h) (segment_at m a) ≡ true

-- where both are twins of the type of a code and it is told so, the key of the second may come behind that of the first
abbrev pub TellsOrder : List SegmentType → Links → ℕ → Twin → Twin → Bool → Type 0
TellsOrder types m code before twin told = HaveFronts types m code before twin → told ≡ true → IsKeyBehind types m before.address twin.address

-- How far a walk along the pointers of a volume has come.
use Rattle.std.specs.Prelude.{◌≡◌, ◌≢◌, ◌⊎◌, ℕ, ◌<◌, List, true, length, slice_index, Bool, Result, IfOk, IsTrue}
use Rattle.hd_dbd.specs.Types.{SegmentType}
use Rattle.hd_dbd.specs.Rows.{twins_in_order}
use Rattle.hd_dbd.specs.Prefixes.{is_backward_kept}
use Rattle.hd_volume.specs.Indexes.{IsAmong}
use Rattle.hd_links.specs.Links.{Links, IsSegment, segment_at, is_child_type}
use Rattle.hd_links.specs.Pointers.{IsTwinBefore, IsParentOfFirst, IsReached, IsInChain}
use Rattle.hd_check_blocks.specs.declared.places.Place.{Place}
use Rattle.hd_check_blocks.specs.Places.{place_at}
use Rattle.hd_check_pointers.specs.Tables.{nobody}
use Rattle.hd_check_pointers.specs.Twins.{AreLastsRight}
use Rattle.hd_dbd.specs.declared.answer.Refused.{Refused}
use Rattle.hd_volume.specs.Volumes.{VolumeState}
use Rattle.hd_dbd.specs.Hierarchy.{Database}
use Rattle.hd_image.specs.Records.{links_of}

-- by the table, the walk came to the segment of type t at address p from the record h, its holder
abbrev pub IsHeldBy : List Place → List ℕ → ℕ → ℕ → ℕ → Type 0
IsHeldBy places holders h t p = (i : ℕ) × (i < length places) × (place_at places i ≡ record { address = p; code = t }) × (slice_index holders i ≡ h) × (h ≢ nobody)

-- p, which is to name a segment of type t, is 0, or the walk came there from h
abbrev pub IsFollowed : List Place → List ℕ → ℕ → ℕ → ℕ → Type 0
IsFollowed places holders h t p = (p ≡ 0) ⊎ IsHeldBy places holders h t p

-- the number is that of the place of a segment of the type at an address, which nobody holds yet
abbrev pub IsUnheld : List Place → List ℕ → ℕ → ℕ → ℕ → Type 0
IsUnheld places holders i a t = (i < length places) × (place_at places i ≡ record { address = a; code = t }) × (slice_index holders i ≡ nobody)

-- what is held stays held, by the same record
abbrev pub StaysHeld : List ℕ → List ℕ → Type 0
StaysHeld holders holders2 = (i : ℕ) → slice_index holders i ≢ nobody → slice_index holders2 i ≡ slice_index holders i

-- The segment a is right as the twin that comes after h: h names it as twin forward, both are of one type, its twin backward, where it is
-- kept, names h, and its key, where the type has one, is in order after that of h.
pub record IsTwinRight (types : List SegmentType) (m : Links) (h a : ℕ) : Type 0 where
  pub names : IsTwinBefore m h a
  pub typed : m.code a ≡ m.code h
  pub backward : is_backward_kept types (m.code a) ≡ true → m.backward a ≡ h
  pub key : twins_in_order types (segment_at m h) (segment_at m a) ≡ true

-- The segment a is right as the first child of h: h names it so, it is of the type, and its twin backward, where it is kept, is 0.
pub record IsFirstRight (types : List SegmentType) (m : Links) (h t a : ℕ) : Type 0 where
  pub names : IsParentOfFirst types m h t a
  pub typed : m.code a ≡ t
  pub backward : is_backward_kept types (m.code a) ≡ true → m.backward a ≡ 0

-- The segment a is right as the walk came to it from h: its delete byte is 0, and it is right as the twin after h, or as the first child
-- of h.
pub record IsRightFrom (types : List SegmentType) (m : Links) (h a : ℕ) : Type 0 where
  pub delete_byte : m.delete_byte a ≡ 0
  pub way : IsTwinRight types m h a ⊎ ((t : ℕ) × IsFirstRight types m h t a)

-- The children of h are walked: each first child was followed, and each last child that is kept is the last twin of its chain, or 0
-- where first child is 0.
pub record AreChildrenWalked (types : List SegmentType) (m : Links) (places : List Place) (holders : List ℕ) (h : ℕ) : Type 0 where
  pub firsts : (t : ℕ) → is_child_type types (m.code h) t ≡ true → IsFollowed places holders h t (m.first_child h t)
  pub lasts : AreLastsRight types m h

-- Each segment to which the walk came is right as it came there, and reached from the header; its twin forward was followed, unless the
-- walk stands at it (`open_at`, an address); its children are walked, unless its number waits, or is the one in hand. To what waits the walk
-- came. Of the header's own children nothing is said.
pub record IsWalkedSoFar (types : List SegmentType) (m : Links) (places : List Place) (open_at in_hand : ℕ) (waiting holders : List ℕ) : Type 0 where
  pub right : (i : ℕ) → i < length places → slice_index holders i ≢ nobody → IsRightFrom types m (slice_index holders i) (place_at places i).address
  pub reached : (i : ℕ) → i < length places → slice_index holders i ≢ nobody → (n : ℕ) × IsReached types m n (place_at places i).address
  pub forward : (i : ℕ) → i < length places → slice_index holders i ≢ nobody → (place_at places i).address ≢ open_at
      → IsFollowed places holders (place_at places i).address (place_at places i).code (m.forward (place_at places i).address)
  pub children : (i : ℕ) → i < length places → slice_index holders i ≢ nobody → i ≢ in_hand → (IsAmong i waiting → ⊥)
      → AreChildrenWalked types m places holders (place_at places i).address
  pub waits : (i : ℕ) → IsAmong i waiting → (i < length places) × (slice_index holders i ≢ nobody)

-- A pointer of h names a, and its sort demands type t: twin forward, where `before` is not 0 and so is h, and else first child. And h is
-- reached from the header.
pub record LeadsTo (types : List SegmentType) (m : Links) (h t before a : ℕ) : Type 0 where
  pub first : before ≡ 0 → IsParentOfFirst types m h t a
  pub twin : before ≢ 0 → (before ≡ h) × IsTwinBefore m h a × (m.code h ≡ t)
  pub reached : (n : ℕ) × IsReached types m n h

-- the walk goes on from `before` to a, whichever children are in hand
abbrev pub StepsOn : List SegmentType → Links → List Place → ℕ → ℕ → List ℕ → List ℕ → List ℕ → List ℕ → Type 0
StepsOn types m places before a waiting holders waiting2 holders2 =
    (in_hand : ℕ) → IsWalkedSoFar types m places before in_hand waiting holders → IsWalkedSoFar types m places a in_hand waiting2 holders2

-- the same, of the links of a volume
abbrev pub StepsIn : Database → VolumeState → List Place → ℕ → ℕ → List ℕ → List ℕ → List ℕ → List ℕ → Type 0
StepsIn d v places before a waiting holders waiting2 holders2 = StepsOn d.types (links_of d.types v) places before a waiting holders waiting2 holders2

-- What is known of the twin at which a walk along the chain of h is: it is in the chain from the first, which h holds, and it is reached.
pub record IsAtTwin (types : List SegmentType) (m : Links) (ps : List Place) (xs : List ℕ) (h t first before next : ℕ) : Type 0 where
  pub chain : IsInChain m first before
  pub names : m.forward before ≡ next
  pub held : IsHeldBy ps xs h t first
  pub there : IsSegment m before × (m.code before ≡ t)
  pub reached : (n : ℕ) × IsReached types m n before

-- The walk is at the beginning of a chain, or at a twin, from where it goes on to the next.
pub record IsOnChain (types : List SegmentType) (m : Links) (ps : List Place) (xs : List ℕ) (h t first before next : ℕ) : Type 0 where
  pub start : before ≡ 0 → next ≡ first
  pub twin : before ≢ 0 → IsAtTwin types m ps xs h t first before next

-- The segment `end` is the last twin of the chain from a first, or 0 where that is 0.
pub record IsEnd (m : Links) (first end : ℕ) : Type 0 where
  pub some : 0 < first → IsInChain m first end × (m.forward end ≡ 0)
  pub none : first ≡ 0 → end ≡ 0

-- the fact holds where a test that read a sound volume passed
abbrev pub WhereTrue : VolumeState → Result Bool Refused → Type 0 → Type 0
WhereTrue v result fact = IfOk result (λ b. IsTrue v.is_sound → b ≡ true → fact)

-- the children of the record in hand were walked, and then none is in hand
abbrev pub WalksOn : List SegmentType → Links → List Place → ℕ → List ℕ → List ℕ → List ℕ → List ℕ → Type 0
WalksOn types m places in_hand waiting holders waiting2 holders2 =
    IsWalkedSoFar types m places 0 in_hand waiting holders → IsWalkedSoFar types m places 0 (length places) waiting2 holders2

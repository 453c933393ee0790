-- What the steps of a commit and of a recovery leave.
use Rattle.std.specs.Prelude.{Bool, true, ◌≡◌, ◌⊎◌, ℕ, ◌+◌, ◌*◌, ◌<◌, ◌≤◌, List, length, slice_index}
use Rattle.hd_journal.specs.Disk.{State, Torn, HasLog, HasVolume, Leaves}
use Rattle.hd_journal.specs.Log.{frame_at, block_no, gate_at, head_of, is_marked, image, recovered, written_from, IsShut, Ends, Fits, Spares, HasFrames}
use Rattle.hd_journal.specs.declared.head.Head.{Head}

-- the log is as it was, and the volume makes the same image with it
abbrev pub IsSpared : Head → Bool → List ℕ → List ℕ → List ℕ → List ℕ → Type 0
IsSpared head is_shut log first l v = (l ≡ log) × Spares head is_shut log first v

-- the image that a head makes of a disk's log and volume
abbrev pub image_on : Head → State → List ℕ
image_on head s = image head s.log s.volume

-- two volumes differ in their first byte at most
abbrev pub SameBehind : List ℕ → List ℕ → Type 0
SameBehind a b = (k : ℕ) → 1 ≤ k → slice_index b k ≡ slice_index a k

-- but for its first byte a volume is the first or the last, or that byte is 0
abbrev pub IsShutBetween : List ℕ → List ℕ → List ℕ → List ℕ → Type 0
IsShutBetween first last l v = SameBehind first v ⊎ (slice_index v 0 ≡ 0) ⊎ SameBehind last v

-- a crash in between leaves the old volume or the image that a head makes, but for the first byte, or a volume whose first byte is 0
abbrev pub LeavesShut : Head → State → State → Type 0
LeavesShut head old new = Leaves (IsShutBetween old.volume (image_on head old)) old new

-- the fact holds where the image has a byte, and a slot of its head has block 0
abbrev pub IfFirstFramed : Head → List ℕ → Type 0 → Type 0
IfFirstFramed head log fact = 0 < head.len → (i : ℕ) → i < head.count → block_no head.size log i ≡ 0 → fact

-- where a volume has the frames of the first i slots put in, the new one has those of the first n
abbrev pub PutsFrames : Head → Bool → ℕ → ℕ → State → State → Type 0
PutsFrames head is_shut i n old new =
    (first : List ℕ) → HasFrames head (written_from is_shut) old.log first i old.volume → HasFrames head (written_from is_shut) old.log first n new.volume

-- the fact holds of each byte of block i
abbrev pub OfBlock : ℕ → ℕ → (ℕ → Type 0) → Type 0
OfBlock size i fact = (k : ℕ) → i * size ≤ k → k < (i + 1) * size → fact k

-- a log whose gate is being shut
abbrev pub MayShut : List ℕ → List ℕ → Type 0
MayShut old new = (new ≡ old) ⊎ ((IsShut old → ⊥) × Torn 0 1 old new)

-- the pair stands for this image
abbrev pub StandsFor : List ℕ → List ℕ → List ℕ → Type 0
StandsFor image log volume = recovered log volume ≡ image

-- the pair stands for the one image or for the other
abbrev pub StandsForEither : List ℕ → List ℕ → List ℕ → List ℕ → Type 0
StandsForEither before after log volume = (recovered log volume ≡ before) ⊎ (recovered log volume ≡ after)

-- the volume is on the disk, and the gate is shut there, whatever else stands in the log
pub record IsSettled (s : State) : Type 0 where
  pub volume : HasVolume s
  pub shut : (l v : List ℕ) → s.may_leave l v → IsShut l

-- the volume and the log are on the disk
pub record IsStill (s : State) : Type 0 where
  pub volume : HasVolume s
  pub log : HasLog s

-- each outcome of a crash is spared, beside a first volume
abbrev pub IsSparing : Head → Bool → List ℕ → State → Type 0
IsSparing head is_shut first s = (l v : List ℕ) → s.may_leave l v → IsSpared head is_shut s.log first l v

-- The log stays, and a crash at any moment leaves a volume that makes the same image as the first.
pub record Redoes (head : Head) (is_shut : Bool) (first : List ℕ) (old new : State) : Type 0 where
  pub log : new.log ≡ old.log
  pub spares : (l v : List ℕ) → new.may_leave l v → IsSpared head is_shut old.log first l v
  pub leaves : Leaves (IsSpared head is_shut old.log first) old new

-- The log counts, under this head, on a still disk.
pub record IsOpened (head : Head) (s : State) : Type 0 where
  pub gate : slice_index s.log 0 ≡ 1
  pub marked : is_marked s.log ≡ true
  pub is_head : head_of s.log ≡ head
  pub fits : Fits head s.log s.volume
  pub still : IsStill s

-- A log is the same as another up to the gate behind the commits of this head, whose slot is there.
pub record Begins (head : Head) (log l : List ℕ) : Type 0 where
  pub there : frame_at head.size (head.count + 1) ≤ length l
  pub each : (i : ℕ) → i ≤ gate_at head → slice_index l i ≡ slice_index log i

-- The log is open and ends with this head, and as much of it is on the disk, and the volume, whatever else stands behind it in the log.
pub record IsPublished (head : Head) (s : State) : Type 0 where
  pub gate : slice_index s.log 0 ≡ 1
  pub ends : Ends head s.log
  pub fits : Fits head s.log s.volume
  pub volume : HasVolume s
  pub log : (l v : List ℕ) → s.may_leave l v → Begins head s.log l

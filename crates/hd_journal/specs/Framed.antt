-- The frames of a log over a volume, and where each block stands.
use Rattle.std.specs.Prelude.{◌≡◌, ◌≢◌, ◌⊎◌, ℕ, ◌-◌, ◌*◌, ◌<◌, ◌≤◌, List, [], ◌∷◌, length, slice_index}
use Rattle.hd_stores.specs.Stores.{Commit, Committed, commits_of}
use Rattle.hd_journal.specs.Disk.{State}
use Rattle.hd_journal.specs.Log.{block_no, no_block, Fits}
use Rattle.hd_journal.specs.States.{StandsFor}
use Rattle.hd_journal.specs.declared.head.Head.{Head}

-- Each block's place is one more than the slot of its last frame, or 0 where it has none.
pub record AreFrames (size count : ℕ) (log places : List ℕ) : Type 0 where
  pub placed : (i : ℕ) → i < count → (block_no size log i ≡ no_block) ⊎ (block_no size log i < length places) × (i < slice_index places (block_no size log i))
  pub there : (n : ℕ) → n < length places → slice_index places n ≢ 0 → (slice_index places n ≤ count) × (block_no size log (slice_index places n - 1) ≡ n)

-- the frames of a log over a volume that counts as it is
pub record IsFramed (s : State) (head : Head) (places : List ℕ) : Type 0 where
  pub fits : Fits head s.log s.volume
  pub whole : head.base ≡ length s.volume
  pub frames : AreFrames head.size head.count s.log places
  pub blocks : length places * head.size ≤ head.len

-- a head of no slots over a volume of so many bytes
abbrev pub fresh : Head → ℕ → Head
fresh head len = record head { count = 0; base = len; len = len }

-- a head without its last slot, which is the gate behind its commits
abbrev pub before : Head → Head
before last = record last { count = last.count - 1 }

-- the pair stands for one of these images
abbrev pub StandsForOneOf : List (List ℕ) → List ℕ → List ℕ → Type 0
StandsForOneOf [] log volume = ⊥
StandsForOneOf (image ∷ images) log volume = StandsFor image log volume ⊎ StandsForOneOf images log volume

-- a crash at any moment since this one, which has passed, leaves a pair that stands for one of these images
pub record LeavesOneOf (images : List (List ℕ)) (since : ℕ) (s : State) : Type 0 where
  pub past : since ≤ s.moment
  pub each : (l v : List ℕ) → s.left_since since l v → StandsForOneOf images l v

-- A crash at any moment since one of these commits, the later of which come first, leaves its image or a later one: that of another of them, or one of the
-- images that came behind all of them.
abbrev pub AreSafe : List (List ℕ) → List Commit → State → Type 0
AreSafe later [] s = Unit {0}
AreSafe later (commit ∷ earlier) s = LeavesOneOf (commit.image ∷ later) commit.since s × AreSafe (commit.image ∷ later) earlier s

-- since each commit a crash leaves its image or that of a later one, or, behind the last, that of one which was tried and failed
abbrev pub IsSafe : Committed → State → Type 0
IsSafe committed s = AreSafe (committed.tried ∷ []) (commits_of committed) s

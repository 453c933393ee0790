-- What the calls of a disk with a log and a volume do to the two files, and what a crash may make of them.
use Rattle.std.specs.Prelude.{◌≡◌, ◌⊎◌, ℕ, ◌+◌, ◌<◌, ◌≤◌, Bool, cond, min, max, List, [], ◌∷◌, length, slice_index}

-- What stood in the two files when a commit was done, and the moment.
pub record Mark : Type 0 where
  pub moment : ℕ
  pub log : List ℕ
  pub volume : List ℕ

-- The bytes that reads return; the pairs of contents that a crash at this moment may leave; the moment, which is a number that does not fall;
-- the pairs that a crash at some moment from a given one on might have left; and the marks of the commits, the last first.
pub record State : Type 1 where
  pub log : List ℕ
  pub volume : List ℕ
  pub may_leave : List ℕ → List ℕ → Type 0
  pub moment : ℕ
  pub left_since : ℕ → List ℕ → List ℕ → Type 0
  pub marks : List Mark

-- after a write of n bytes at a place: anything in that range and past the old end, the same elsewhere
pub record Torn (at n : ℕ) (old new : List ℕ) : Type 0 where
  pub no_shorter : length old ≤ length new
  pub no_longer : length new ≤ max (length old) (at + n)
  pub below : (i : ℕ) → i < length old → i < at → slice_index new i ≡ slice_index old i
  pub above : (i : ℕ) → i < length old → at + n ≤ i → slice_index new i ≡ slice_index old i

-- after a change of the length to n: any length in between, the same below both
pub record Cut (n : ℕ) (old new : List ℕ) : Type 0 where
  pub no_shorter : min (length old) n ≤ length new
  pub no_longer : length new ≤ max (length old) n
  pub below : (i : ℕ) → i < length old → i < n → slice_index new i ≡ slice_index old i

-- Time goes on, and no commit is done. A crash since an earlier moment might have left what it might have left before, or what it may leave now.
pub record Elapses (old new : State) : Type 0 where
  pub later : old.moment ≤ new.moment
  pub nothing_else : (t : ℕ) (l v : List ℕ) → t ≤ old.moment → new.left_since t l v → old.left_since t l v ⊎ new.may_leave l v
  pub keeps : (t : ℕ) (l v : List ℕ) → t ≤ old.moment → old.left_since t l v → new.left_since t l v
  pub marks : new.marks ≡ old.marks

-- a write of n bytes to the log, whether or not it succeeds
pub record WritesLog (at n : ℕ) (old new : State) : Type 0 where
  pub log : Torn at n old.log new.log
  pub volume : new.volume ≡ old.volume
  pub crash : (l v : List ℕ) → new.may_leave l v → (k : List ℕ) × old.may_leave k v × Torn at n k l
  pub time : Elapses old new

-- the same to the volume
pub record WritesVolume (at n : ℕ) (old new : State) : Type 0 where
  pub log : new.log ≡ old.log
  pub volume : Torn at n old.volume new.volume
  pub crash : (l v : List ℕ) → new.may_leave l v → (w : List ℕ) × old.may_leave l w × Torn at n w v
  pub time : Elapses old new

-- a change of the volume's length
pub record CutsVolume (n : ℕ) (old new : State) : Type 0 where
  pub log : new.log ≡ old.log
  pub volume : Cut n old.volume new.volume
  pub crash : (l v : List ℕ) → new.may_leave l v → (w : List ℕ) × old.may_leave l w × Cut n w v
  pub time : Elapses old new

-- from one place up to another there are zeros
abbrev pub HasZeros : ℕ → ℕ → List ℕ → Type 0
HasZeros from end bytes = (k : ℕ) → from ≤ k → k < end → slice_index bytes k ≡ 0

-- a sync of one of the files
pub record Syncs (old new : State) : Type 0 where
  pub log : new.log ≡ old.log
  pub volume : new.volume ≡ old.volume
  pub crash : (l v : List ℕ) → new.may_leave l v → old.may_leave l v
  pub time : Elapses old new

-- A commit is marked, the first of a journal or one more. Nothing else changes.
pub record Marks (is_first : Bool) (old new : State) : Type 0 where
  pub log : new.log ≡ old.log
  pub volume : new.volume ≡ old.volume
  pub moment : new.moment ≡ old.moment
  pub crash : (l v : List ℕ) → new.may_leave l v → old.may_leave l v
  pub nothing_else : (t : ℕ) (l v : List ℕ) → new.left_since t l v → old.left_since t l v
  pub keeps : (t : ℕ) (l v : List ℕ) → old.left_since t l v → new.left_since t l v
  pub marks : new.marks ≡ record { moment = old.moment; log = old.log; volume = old.volume } ∷ cond is_first [] old.marks

-- a crash leaves the log, or the volume, as reads return it
abbrev pub HasLog : State → Type 0
HasLog s = (l v : List ℕ) → s.may_leave l v → l ≡ s.log

abbrev pub HasVolume : State → Type 0
HasVolume s = (l v : List ℕ) → s.may_leave l v → v ≡ s.volume

-- A crash between the old state and the new, at any moment, leaves a pair that has P. Commits may be marked meanwhile.
pub record LeavesMeanwhile (P : List ℕ → List ℕ → Type 0) (old new : State) : Type 0 where
  pub later : old.moment ≤ new.moment
  pub each : (t : ℕ) (l v : List ℕ) → t ≤ old.moment → new.left_since t l v → old.left_since t l v ⊎ P l v

-- the same, and no commit is marked
pub record Leaves (P : List ℕ → List ℕ → Type 0) (old new : State) : Type 0 where
  pub later : old.moment ≤ new.moment
  pub each : (t : ℕ) (l v : List ℕ) → t ≤ old.moment → new.left_since t l v → old.left_since t l v ⊎ P l v
  pub marks : new.marks ≡ old.marks

-- what is said of a disk that is not honest
abbrev pub nothing : State
nothing = record { log = []; volume = []; may_leave = λ l v. Unit {0}; moment = 0; left_since = λ t l v. Unit {0}; marks = [] }

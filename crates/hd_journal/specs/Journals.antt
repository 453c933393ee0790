-- What a journal keeps.
use Rattle.std.specs.Prelude.{◌≡◌, ◌≢◌, ◌⊎◌, ℕ, ◌+◌, ◌<◌, ◌≤◌, Bool, false, IsTrue, List, [], ◌∷◌, map, length, slice_index, replicate, vec_len}
use Rattle.std.specs.Vec.{vec_capacity}
use Rattle.hd_stores.specs.Stores.{Commit, Committed, commits_of}
use Rattle.hd_journal.specs.Disk.{Mark, State}
use Rattle.hd_journal.specs.Log.{image, recovered}
use Rattle.hd_journal.specs.States.{IsSettled, IsPublished}
use Rattle.hd_journal.specs.Framed.{fresh, before, IsFramed, IsSafe}
use Rattle.hd_dbd.specs.declared.answer.Refused.{Refused}
use Rattle.hd_dbd.specs.declared.answer.Refused.TheVariants.{Memory}
use Rattle.hd_journal.specs.declared.head.Head.{Head}
use Rattle.hd_journal.specs.declared.journal.Stage.{Stage}
use Rattle.hd_journal.specs.declared.journal.Stage.TheVariants.{Collecting, Published, Doubtful}
use Rattle.hd_journal.specs.declared.journal.Journal.{Journal}

-- What a crash leaves stands for the last commit, whose frames are those of this head.
abbrev pub Holds : Stage → Head → State → Type 0
Holds Collecting last s = IsSettled s × (last ≡ fresh last (length s.volume))
Holds Published last s = (0 < last.count) × IsPublished (before last) s
Holds Doubtful last s = Unit {0}

-- all bytes as they are read
abbrev pub contents_of : {D : Type 0} → (D → State) → Journal D → List ℕ
contents_of state j = image j.head (state j.disk).log (state j.disk).volume

-- those of the last commit
abbrev pub last_of : {D : Type 0} → (D → State) → Journal D → List ℕ
last_of state j = image j.last (state j.disk).log (state j.disk).volume

-- the image of a commit that was tried since, where one was
abbrev pub tried_in : Stage → List ℕ → List ℕ → List ℕ
tried_in Collecting last whole = last
tried_in Published last whole = last
tried_in Doubtful last whole = whole

-- the commit of a mark
abbrev pub commit_of : Mark → Commit
commit_of m = record { image = recovered m.log m.volume; since = m.moment }

-- the moment of the last mark, and the commits of the marks before it
abbrev pub since_in : List Mark → ℕ
since_in [] = 0
since_in (m ∷ marks) = m.moment

abbrev pub before_in : List Mark → List Commit
before_in [] = []
before_in (m ∷ marks) = map commit_of marks

-- the last mark is of this image
abbrev pub IsMarked : List ℕ → List Mark → Type 0
IsMarked image [] = ⊥
IsMarked image (m ∷ marks) = recovered m.log m.volume ≡ image

-- what a crash leaves, where the last commit has the first image and a commit of the second was tried since
abbrev pub committed_in : List ℕ → List ℕ → List Mark → Committed
committed_in image tried marks = record { image = image; tried = tried; since = since_in marks; before = before_in marks }

-- a commit of these bytes is done, behind those that were
abbrev pub IsCommitted : List ℕ → Committed → Committed → Type 0
IsCommitted contents old new = (new.image ≡ contents) × (new.tried ≡ contents) × (new.before ≡ commits_of old)

-- a commit of these bytes failed: none was tried, or a crash may leave them too
abbrev pub IsTried : List ℕ → Committed → Committed → Type 0
IsTried contents old new = (new ≡ old) ⊎ (new ≡ record old { tried = contents })

-- what a crash leaves of a journal
abbrev pub committed_of : {D : Type 0} → (D → State) → Journal D → Committed
committed_of state j = committed_in (last_of state j) (tried_in j.stage (last_of state j) (contents_of state j)) (state j.disk).marks

-- A journal that has not failed has the frames of its blocks in its log, and before them those of the last commit, which a crash leaves.
-- Whether or not it has failed, that commit is the last that was marked, and it is safe.
pub record IsJournal {D : Type 0} (is_honest : Bool) (is_usable : D → Bool) (state : D → State) (j : Journal D) : Type 0 where
  pub some : 16 ≤ j.head.size
  pub small : j.head.size ≤ 32768
  pub zeros : j.zeros.items ≡ replicate j.head.size 0
  pub frame : vec_len j.frame ≡ j.head.size + 4
  pub room : vec_len j.places + j.reserved ≤ vec_capacity j.places
  pub kept_room : vec_len j.places + j.reserved ≤ vec_capacity j.kept
  pub fewer : vec_len j.kept ≤ vec_len j.places
  pub same : j.head ≡ record j.last { count = j.head.count; len = j.head.len }
  pub later : j.last.count ≤ j.head.count
  pub longer : j.last.len ≤ j.head.len
  pub usable : j.failed ≡ false → IsTrue (is_usable j.disk)
  pub sure : j.failed ≡ false → j.stage ≢ Doubtful
  pub framed : j.failed ≡ false → IsTrue is_honest → IsFramed (state j.disk) j.head j.places.items
  pub last : j.failed ≡ false → IsTrue is_honest → IsFramed (state j.disk) j.last j.kept.items
  pub holds : j.failed ≡ false → IsTrue is_honest → Holds j.stage j.last (state j.disk)
  pub first : j.failed ≡ false → j.stage ≡ Published → 0 < length j.kept.items → slice_index j.kept.items 0 ≢ 0
  pub marked : IsTrue is_honest → IsMarked (last_of state j) (state j.disk).marks
  pub safe : IsTrue is_honest → IsSafe (committed_of state j) (state j.disk)

-- A growth by so many blocks is refused for want of memory: fewer are reserved, and nothing changes that callers see.
abbrev pub IsOutOfMemory : {D : Type 0} → Bool → (D → State) → ℕ → Refused → Journal D → Journal D → Type 0
IsOutOfMemory is_honest state blocks refused old new =
    (refused ≡ Memory) × (old.reserved < blocks) × (new.failed ≡ old.failed) × (new.reserved ≡ old.reserved) × (IsTrue is_honest → contents_of state new ≡ contents_of state old)

-- What callers see of a journal.
use Rattle.std.specs.Prelude.{ℕ, ◌<◌, Bool, ◌&&◌, not, cond, List}
use Rattle.hd_stores.specs.Stores.{Committed, uncommitted}
use Rattle.hd_journal.specs.Disk.{State}
use Rattle.hd_journal.specs.Journals.{contents_of, committed_of, IsJournal}
use Rattle.hd_journal.specs.declared.journal.Journal.{Journal}

-- the bytes of a block, all bytes, what a crash leaves of them, the failed accesses so far, the blocks reserved, and the disk below
pub record Shown (D : Type 0) : Type 0 where
  pub size : ℕ
  pub contents : List ℕ
  pub committed : Committed
  pub is_sound : Bool
  pub failed : Bool
  pub failures : ℕ
  pub room : ℕ
  pub disk : D

-- what a journal shows, with so many failed accesses
abbrev pub shown_of : {D : Type 0} → Bool → (D → State) → Journal D → ℕ → Shown D
shown_of is_honest state j failures = record {
  size = j.head.size;
  contents = contents_of state j;
  committed = cond is_honest (committed_of state j) uncommitted;
  is_sound = is_honest && not j.failed;
  failed = j.failed;
  failures = failures;
  room = j.reserved;
  disk = j.disk;
}

-- A journal that keeps what it must, with a share in the count of failed accesses.
pub record Counts {D : Type 0} (is_honest : Bool) (is_usable : D → Bool) (state : D → State) (j : Journal D) (parts : ℕ) : Type 0 where
  pub journal : IsJournal is_honest is_usable state j
  pub share : 0 < parts

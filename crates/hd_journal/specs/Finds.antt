-- What a log is found to be, and what an opening tells of it.
use Rattle.std.specs.Prelude.{◌≡◌, ℕ, ◌≤◌, true, false, List, length, slice_index}
use Rattle.hd_journal.specs.Disk.{State}
use Rattle.hd_journal.specs.Log.{head_of, is_marked, is_open, IsForeign}
use Rattle.hd_journal.specs.declared.finding.Stamp.{Stamp}
use Rattle.hd_journal.specs.declared.finding.Stamp.TheVariants.{Absent, Foreign, Current}
use Rattle.hd_journal.specs.declared.finding.Found.{Found}
use Rattle.hd_journal.specs.declared.finding.Found.TheVariants.{Nothing, Other, Open}
use Rattle.hd_journal.specs.declared.recovery.Unopened.{Unopened}
use Rattle.hd_journal.specs.declared.recovery.Unopened.TheVariants.{Device, Memory, OtherVolume, OtherVersion}

-- what the gate, the mark and the version say of a log
abbrev pub Stamps : Stamp → List ℕ → List ℕ → Type 0
Stamps Absent log volume = (is_open log volume ≡ false) × (IsForeign log → ⊥)
Stamps Foreign log volume = IsForeign log
Stamps Current log volume = (11 ≤ length log) × (slice_index log 0 ≡ 1) × (is_marked log ≡ true)

-- what a log is, beside its volume
abbrev pub Finds : Found → List ℕ → List ℕ → Type 0
Finds Nothing log volume = (is_open log volume ≡ false) × (IsForeign log → ⊥)
Finds Other log volume = IsForeign log
Finds (Open head) log volume = (is_open log volume ≡ true) × (head ≡ head_of log)

-- the sizes of a head that was found
abbrev pub HasSizes : Found → Type 0
HasSizes Nothing = Unit {0}
HasSizes Other = Unit {0}
HasSizes (Open head) = (16 ≤ head.size) × (head.size ≤ 32768)

-- a log that is refused is as it was, and so is the volume
abbrev pub RefusesLog : Unopened → State → State → Type 0
RefusesLog Device old new = Unit {0}
RefusesLog Memory old new = Unit {0}
RefusesLog OtherVolume old new = (is_open old.log old.volume ≡ true) × (new.log ≡ old.log) × (new.volume ≡ old.volume)
RefusesLog OtherVersion old new = IsForeign old.log × (new.log ≡ old.log) × (new.volume ≡ old.volume)

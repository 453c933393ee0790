-- The contents that a disk in memory has had.
use Rattle.std.specs.Prelude.{◌≡◌, ◌⊎◌, ℕ, List, [], ◌∷◌, length, drop}
use mathlib.Core.Logic.{inl, inr}
use Rattle.hd_journal.specs.Disk.{Mark, State}
use Rattle.hd_journal.specs.declared.memory_disk.Pair.{Pair}
use Rattle.hd_journal.specs.declared.memory_disk.Stood.{Stood}

-- one of them is this pair
abbrev pub HadBeen : List Pair → List ℕ → List ℕ → Type 0
HadBeen [] l v = ⊥
HadBeen (p ∷ past) l v = ((l ≡ p.log.items) × (v ≡ p.volume.items)) ⊎ HadBeen past l v

-- what stood there when a commit was done
abbrev pub mark_shown : Stood → Mark
mark_shown s = record { moment = s.moment; log = s.log.items; volume = s.volume.items }

-- a crash leaves what is there, and each earlier moment is kept
abbrev pub state_in : List Pair → List ℕ → List ℕ → List Mark → State
state_in past log volume marks = record {
  log = log;
  volume = volume;
  may_leave = λ l v. (l ≡ log) × (v ≡ volume);
  moment = length past;
  left_since = λ t l v. ((l ≡ log) × (v ≡ volume)) ⊎ HadBeen (drop t past) l v;
  marks = marks;
}

none_left : (past : List Pair) (l v : List ℕ) → HadBeen (drop (length past) past) l v → ⊥
none_left [] l v had = had
none_left (p ∷ past) l v had = none_left past l v had

pub only_pair : (past : List Pair) (log volume l v : List ℕ) → ((l ≡ log) × (v ≡ volume)) ⊎ HadBeen (drop (length past) past) l v → (l ≡ log) × (v ≡ volume)
only_pair past log volume l v (inl now) = now
only_pair past log volume l v (inr had) = absurd (none_left past l v had)

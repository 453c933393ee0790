-- A run in which each row has a tag that nothing changes.
use Rattle.std.specs.Prelude.{ℕ, zero, suc, ◌+◌, List, [], ◌∷◌, length, map, slice_index}
use Rattle.hd_dbd.specs.Types.{SegmentType, View}
use Rattle.hd_dbd.specs.Logs.{Entry}
use Rattle.hd_calls.specs.Moves.{Change, unchanged, inserted, deleted, rewritten, put_in, taken_out}
use Rattle.hd_calls.specs.Steps.{Effect, State}
use Rattle.hd_calls.specs.Runs.{effect_in, change_made, next_state}

-- n numbers from a beginning on
abbrev pub numbers_from : ℕ → ℕ → List ℕ
numbers_from begin zero = []
numbers_from begin (suc n) = begin ∷ numbers_from (begin + 1) n

-- A state with its rows' tags, and the next unused one.
pub record TaggedState : Type 0 where
  pub state : State
  pub tags : List ℕ
  pub unused : ℕ

-- at the start each row has its number
abbrev pub tagged_at_start : State → TaggedState
tagged_at_start st = record { state = st; tags = numbers_from 0 (length st.rows); unused = length st.rows }

-- the tags behind a change; inserted rows get the next unused ones
abbrev pub tags_after : Change → ℕ → List ℕ → List ℕ
tags_after unchanged fresh tags = tags
tags_after (inserted p new) fresh tags = put_in p (numbers_from fresh (length new)) tags
tags_after (deleted from to) fresh tags = taken_out from to tags
tags_after (rewritten ws) fresh tags = tags

-- the next unused tag behind a change
abbrev pub unused_after : Change → ℕ → ℕ
unused_after unchanged fresh = fresh
unused_after (inserted p new) fresh = fresh + length new
unused_after (deleted from to) fresh = fresh
unused_after (rewritten ws) fresh = fresh

-- the tags of rows
abbrev pub tags_at : TaggedState → List ℕ → List ℕ
tags_at s numbers = map (λ i. slice_index s.tags i) numbers

-- An entry with the tagged state before it, and its effect there.
pub record Moment (Image : Type 0) : Type 0 where
  pub before : TaggedState
  pub entry : Entry Image
  pub effect : Effect

module _ {Image : Type 0} where
  -- the moment of an entry from a tagged state
  abbrev pub moment_of : List SegmentType → List View → TaggedState → Entry Image → Moment Image
  moment_of types pcbs s e = record { before = s; entry = e; effect = effect_in types pcbs s.state e }

  -- what a moment changed
  abbrev pub change_at : Moment Image → Change
  change_at m = change_made m.effect m.entry.outcome

  -- the tagged state behind a moment
  abbrev pub tagged_after : List SegmentType → List View → Moment Image → TaggedState
  tagged_after types pcbs m = record {
    state = next_state types pcbs m.before.state m.entry;
    tags = tags_after (change_at m) m.before.unused m.before.tags;
    unused = unused_after (change_at m) m.before.unused;
  }

  -- the moments of a run
  abbrev pub moments : List SegmentType → List View → TaggedState → List (Entry Image) → List (Moment Image)
  moments types pcbs s [] = []
  moments types pcbs s (e ∷ es) = moment_of types pcbs s e ∷ moments types pcbs (tagged_after types pcbs (moment_of types pcbs s e)) es

-- No update is lost: what a replace or delete works on is what its PCB's last hold returned, and nobody touched it since.
use Rattle.std.specs.Prelude.{◌≡◌, ℕ, List, ◌∷◌, ◌++◌, length, map, filter, Bool, true, false, not, ◌&&◌, ◌==◌, nat_le, nat_lt, Option, Some, None, IsSomeAnd}
use Rattle.std.specs.Option.{option_map_or}
use Rattle.std.specs.List.{list_any, AllByRecursion}
use Rattle.hd_dbd.specs.Types.{SegmentType, View}
use Rattle.hd_dbd.specs.declared.answer.Status.{Status}
use Rattle.hd_dbd.specs.declared.answer.Status.TheVariants.{Blank, GA, GK}
use Rattle.hd_calls.specs.declared.call.Function.{Function}
use Rattle.hd_calls.specs.declared.call.Function.TheVariants.{Get, Replace, Delete}
use Rattle.hd_dbd.specs.Segment.{Segment}
use Rattle.hd_dbd.specs.ProgramRules.{type_names, code_named}
use Rattle.hd_dbd.specs.Paths.{row_at, end_of}
use Rattle.hd_dbd.specs.Positions.{at_start}
use Rattle.hd_dbd.specs.Calls.{CallText, Reply}
use Rattle.hd_dbd.specs.Logs.{Outcome, replied, area, full, memory, Entry}
use Rattle.hd_calls.specs.Functions.{function_of}
use Rattle.hd_calls.specs.Gets.{bytes_of}
use Rattle.hd_calls.specs.Ssas.{read_heads}
use Rattle.hd_calls.specs.Moves.{Change, unchanged, inserted, deleted, rewritten, is_rewritten}
use Rattle.hd_calls.specs.Steps.{State, position_at}
use Rattle.hd_calls.specs.Runs.{IsRun}
use Rattle.hd_calls.specs.Tags.{TaggedState, tagged_at_start, Moment, moments, change_at, tagged_after, tags_at, numbers_from}

-- the answer, if a call came to one
abbrev pub answer_in : Outcome → Option Reply
answer_in (replied r) = Some r
answer_in area = None
answer_in full = None
answer_in memory = None

-- two blanks
abbrev pub is_blank : Status → Bool
is_blank Blank = true
is_blank _ = false

-- blank, GA and GK say that it is done
abbrev pub is_done : Status → Bool
is_done Blank = true
is_done GA = true
is_done GK = true
is_done _ = false

-- a get that holds what it returns
abbrev pub is_hold_form : Function → Bool
is_hold_form (Get kind hold) = hold
is_hold_form _ = false

-- REPL or DLET, which work on what is held
abbrev pub is_update_form : Function → Bool
is_update_form Replace = true
is_update_form Delete = true
is_update_form _ = false

-- row i is one to which a change gives new bytes, or which it takes out
abbrev pub touches : Change → ℕ → Bool
touches unchanged i = false
touches (inserted p new) i = false
touches (deleted from to) i = nat_le from i && nat_lt i to
touches (rewritten ws) i = is_rewritten ws i

-- one number at least is in both lists
abbrev pub share : List ℕ → List ℕ → Bool
share xs ys = list_any (λ x. list_any (λ y. y == x) ys) xs

-- an SSA of the call with N names the type of row i
abbrev pub excepts : List SegmentType → CallText → List Segment → ℕ → Bool
excepts types call rows i =
    option_map_or (λ heads. list_any (λ h. h.commands.excepted && option_map_or (λ c. c == (row_at rows i).code) (code_named (type_names types) h.name) false) heads)
    (read_heads call.ssas) false

-- just the held rows that are not excepted get new bytes
abbrev pub RewritesHeld : List ℕ → (ℕ → Bool) → Change → Type 0
RewritesHeld held excepted (rewritten ws) = (i : ℕ) → is_rewritten ws i ≡ (list_any (λ h. h == i) held && not (excepted i))
RewritesHeld held excepted _ = ⊥

-- one held row is taken out, with just its dependents
abbrev pub DeletesHeld : List SegmentType → List Segment → List ℕ → Change → Type 0
DeletesHeld types rows held (deleted from to) = (list_any (λ i. i == from) held ≡ true) × (to ≡ end_of types rows from)
DeletesHeld types rows held _ = ⊥

-- A REPL rewrites what is held, and a DLET deletes what is held.
abbrev pub UpdatesHeld : List SegmentType → List Segment → List ℕ → (ℕ → Bool) → Function → Change → Type 0
UpdatesHeld types rows held excepted Replace change = RewritesHeld held excepted change
UpdatesHeld types rows held excepted Delete change = DeletesHeld types rows held change
UpdatesHeld types rows held excepted _ change = ⊥

-- the tags of the rows that a PCB holds
abbrev pub tags_held : TaggedState → ℕ → List ℕ
tags_held s number = tags_at s (position_at s.state number).held

-- the bytes of the rows that a PCB holds, joined
abbrev pub held_bytes : TaggedState → ℕ → List ℕ
held_bytes s number = bytes_of s.state.rows (position_at s.state number).held

module _ {Image : Type 0} where
  -- the function that a moment's call names
  abbrev pub function_at : Moment Image → Option Function
  function_at m = function_of m.entry.call.function

  -- the answer of a moment, where it has one
  abbrev pub answer_at : Moment Image → Option Reply
  answer_at m = answer_in m.entry.outcome

  -- a hold form that was answered with a row
  abbrev pub is_hold : Moment Image → Bool
  is_hold m = option_map_or is_hold_form (function_at m) false && option_map_or (λ r. is_done r.status) (answer_at m) false

  -- a REPL or DLET that was answered blank
  abbrev pub is_update : Moment Image → Bool
  is_update n = option_map_or is_update_form (function_at n) false && option_map_or (λ r. is_blank r.status) (answer_at n) false

  -- the rows that its PCB holds before a moment
  abbrev pub held_at : Moment Image → List ℕ
  held_at m = (position_at m.before.state m.entry.pcb).held

  -- the tags of the rows that a moment touches
  abbrev pub tags_touched : Moment Image → List ℕ
  tags_touched m = tags_at m.before (filter (λ i. touches (change_at m) i) (numbers_from 0 (length m.before.state.rows)))

  -- A hold m of a PCB, with the moments since then, stands for what the PCB holds in a state: its own calls since then were
  -- refused, no other has touched what m held, and the rows held are those of m, with the bytes that m returned.
  pub record StandsSince (types : List SegmentType) (pcbs : List View) (s : TaggedState) (number : ℕ) (m : Moment Image) (between : List (Moment Image)) : Type 0 where
    pub holds : is_hold m ≡ true
    pub same_pcb : m.entry.pcb ≡ number
    pub own_refused : AllByRecursion (λ b. b.entry.pcb ≡ number → answer_at b ≡ None) between
    pub others_apart : AllByRecursion (λ b. share (tags_touched b) (tags_held (tagged_after types pcbs m) number) ≡ false) between
    pub same_rows : tags_held s number ≡ tags_held (tagged_after types pcbs m) number
    pub same_bytes : Some (held_bytes s number) ≡ option_map_or (λ r. Some r.area) (answer_at m) None

  -- An update n goes back to an earlier hold m of its PCB, and touches just what is held.
  pub record GoesBack (types : List SegmentType) (pcbs : List View) (m n : Moment Image) (between : List (Moment Image)) : Type 0 where
    pub stands : StandsSince types pcbs n.before n.entry.pcb m between
    pub updates_held : IsSomeAnd (function_at n) (λ f. UpdatesHeld types n.before.state.rows (held_at n) (λ i. excepts types n.entry.call n.before.state.rows i) f (change_at n))

-- all PCBs at the start
abbrev pub opened : List View → List Segment → State
opened pcbs rows = record { rows = rows; positions = map (λ _. at_start) pcbs }

-- In every run from the start, each REPL or DLET answered blank goes back to an earlier hold.
abbrev pub NoLostUpdate : (Image : Type 0) → Type 0
NoLostUpdate Image =
    (types : List SegmentType) (pcbs : List View) (rows : List Segment) (entries : List (Entry Image)) (before after : List (Moment Image)) (n : Moment Image)
    → IsRun types pcbs (opened pcbs rows) entries
    → moments types pcbs (tagged_at_start (opened pcbs rows)) entries ≡ before ++ n ∷ after
    → is_update n ≡ true
    → (first : List (Moment Image)) × (m : Moment Image) × (between : List (Moment Image)) × (before ≡ first ++ m ∷ between) × GoesBack types pcbs m n between

-- Calls over the sample, computed by the definitions themselves.
use Rattle.std.proofs.Common.{ℕ, List, [], ◌∷◌, Option, Some, None}
use Rattle.std.specs.Prelude.{codes, map, bytes_eq, cond}
use Rattle.hd_dbd.specs.declared.answer.Status.{Status}
use Rattle.hd_dbd.specs.declared.hierarchy.Rule.{Rule}
use Rattle.hd_dbd.specs.Types.{SegmentType, SeenType, View}
use Rattle.hd_dbd.specs.Segment.{Segment}
use Rattle.hd_dbd.specs.Positions.{at_start, Position, Place}
use Rattle.hd_dbd.specs.Calls.{CallText}
use Rattle.hd_dbd.specs.Sample.{sample_types, sample_pcbs, sample_rows, all_seen}
use Rattle.hd_calls.specs.Steps.{State, Effect, answered, wrong_area, state_after}
use Rattle.hd_calls.specs.Runs.{effect_by}

-- A call of a PCB.
pub record Asked : Type 0 where
  pub pcb : ℕ
  pub call : CallText

-- a call of a PCB: function, segment search arguments and area
abbrev pub ask : ℕ → List ℕ → List (List ℕ) → List ℕ → Asked
ask pcb function ssas area = record { pcb = pcb; call = record { function = function; ssas = ssas; area = area } }

-- What a call answered: status, level, key and area, or a wrong length.
pub data Got : Type 0 where
  got : Status → ℕ → List ℕ → List ℕ → Got
  area_refused : Got

-- what an effect answers
abbrev pub got_of : Effect → Got
got_of (answered r change own) = got r.status r.level r.key r.area
got_of wrong_area = area_refused

-- The answers of a list of calls, and the state behind them.
pub record Ended : Type 0 where
  pub answers : List Got
  pub after : State

-- the calls one after another, from a state
abbrev pub play : List SegmentType → List View → State → List Asked → Ended
play types pcbs st [] = record { answers = []; after = st }
play types pcbs st (c ∷ cs) =
    let e : Effect = effect_by types pcbs st c.pcb c.call in
    let rest : Ended = play types pcbs (state_after types st c.pcb e) cs in
    record rest { answers = got_of e ∷ rest.answers }

-- answers, rows and positions
abbrev pub ended : List Got → List Segment → List Position → Ended
ended answers rows positions = record { answers = answers; after = record { rows = rows; positions = positions } }

-- a position, by its parts in their order
abbrev pub at_place : ℕ → Option ℕ → Option Place → Option ℕ → List ℕ → Position
at_place passed standing last parent held = record { passed = passed; standing = standing; last = last; parent = parent; held = held }

-- three PCBs at the start
abbrev pub three : List Position
three = at_start ∷ at_start ∷ at_start ∷ []

-- calls over some rows of the sample's types
abbrev pub played_over : List Segment → List Asked → Ended
played_over rows calls = play sample_types sample_pcbs (record { rows = rows; positions = three }) calls

-- calls over the sample, and over no rows
abbrev pub played : List Asked → Ended
played calls = played_over sample_rows calls

abbrev pub played_empty : List Asked → Ended
played_empty calls = played_over [] calls

-- calls over the sample by one PCB
abbrev pub played_by : View → List Asked → Ended
played_by pcb calls = play sample_types (pcb ∷ []) (record { rows = sample_rows; positions = at_start ∷ [] }) calls

-- a PCB that may do all but with courses, which it may only get
abbrev pub own_rights : View
own_rights =
    let own : SeenType → SeenType = λ t. record t { procopt = cond (bytes_eq t.name (codes "COURSE  ")) (Some (codes "GP")) None } in
    record { procopt = codes "AP"; sens = map own all_seen }

-- calls over the sample with other types
abbrev pub played_with : List SegmentType → List Asked → Ended
played_with types calls = play types sample_pcbs (record { rows = sample_rows; positions = three }) calls

-- the sample's types, the one of this name with another rule
abbrev pub with_rule : List ℕ → Rule → List SegmentType
with_rule name rule = map (λ t. cond (bytes_eq t.name name) (record t { rule = rule }) t) sample_types

-- the sample's types, whose books have from 4 to 9 bytes
abbrev pub varying_types : List SegmentType
varying_types = map (λ t. cond (bytes_eq t.name (codes "BOOK    ")) (record t { length = 9; least = Some 4 }) t) sample_types

-- calls over some rows of these types
abbrev pub played_varying : List Segment → List Asked → Ended
played_varying rows calls = play varying_types sample_pcbs (record { rows = rows; positions = three }) calls

-- a book that says how many bytes it has, the two that say so counted
abbrev pub book : ℕ → List ℕ → List ℕ
book said text = 0 ∷ said ∷ text

-- calls by a PCB that loads, over no rows
abbrev pub played_load : List Asked → Ended
played_load calls = play sample_types (record { procopt = codes "L"; sens = all_seen } ∷ []) (record { rows = []; positions = at_start ∷ [] }) calls

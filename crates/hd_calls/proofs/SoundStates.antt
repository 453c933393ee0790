-- Each call leaves rows valid and positions in range.
use Rattle.std.proofs.Common.{◌≡◌, ℕ, zero, suc, ◌-◌, List, [], ◌∷◌, map, true, false, Bool, cond, Option, Some, None, refl}
use Rattle.std.specs.Prelude.{Result, Ok, Err, not, slice_index_or, slice_set}
use Rattle.std.specs.Option.{option_map_or, ok_or}
use Rattle.std.specs.List.{AllByRecursion}
use Rattle.hd_dbd.specs.Types.{SegmentType, View}
use Rattle.hd_dbd.specs.Segment.{Segment}
use Rattle.hd_dbd.specs.Rows.{valid}
use Rattle.hd_dbd.specs.Positions.{Position, at_start}
use Rattle.hd_dbd.specs.Laws.{IsInSequence}
use Rattle.hd_dbd.specs.Views.{Setting}
use Rattle.hd_dbd.specs.Calls.{CallText}
use Rattle.hd_dbd.specs.Logs.{Outcome, replied, area, full, memory, Entry}
use Rattle.hd_dbd.specs.declared.answer.Status.{Status}
use Rattle.hd_dbd.specs.declared.answer.Status.TheVariants.{AD, AM, AH, DJ, GP}
use Rattle.hd_dbd.proofs.LevelLaw.{Leveled, leveled}
use Rattle.hd_dbd.proofs.InSequence.{in_sequence, sequence_valid}
use Rattle.hd_calls.specs.declared.call.Function.{Function}
use Rattle.hd_calls.specs.declared.call.Function.TheVariants.{Get, Insert, Replace, Delete}
use Rattle.hd_calls.specs.Functions.{function_of, result_and_then}
use Rattle.hd_calls.specs.Ssas.{Ssa, resolve}
use Rattle.hd_calls.specs.Moves.{rows_after, position_after}
use Rattle.hd_calls.specs.Steps.{Effect, answered, wrong_area, is_allowed, names_enough, holds_enough, looks_below_parent, last_tests, own_step, after_tests, effect_of, State, position_at, state_after, step}
use Rattle.hd_calls.specs.Runs.{view_of, effect_by, state_after_outcome, next_state, last_state}
use Rattle.hd_calls.specs.NoLostUpdate.{opened}
use Rattle.hd_calls.specs.Laws.{IsInRange, IsSound, CallsKeepStatesSound, RunsStaySound}
use Rattle.hd_calls.proofs.Resolving.{IsResolvedCall, resolved_call}
use Rattle.hd_calls.proofs.SoundGets.{start_in_range, get_in_range}
use Rattle.hd_calls.proofs.SoundUpdates.{fine_in_sequence, fine_in_range, IsSoundEffect, bare_sound, replace_sound, delete_sound}
use Rattle.hd_calls.proofs.SoundInserts.{insert_sound}

module _ (s : Setting) (leveled : Leveled s.types) (rows : List Segment) (ordered : IsInSequence s.types rows) (p : Position) (fits : IsInRange s.types rows p) (call : CallText) where
  own_sound : (f : Function) (as_ : List Ssa) → IsResolvedCall s f as_ → IsSoundEffect s.types rows (own_step s rows p call.area f as_)
  own_sound (Get kind hold) as_ resolved = (tt, get_in_range s leveled rows p kind hold resolved.heads as_ resolved.resolved fits)
  own_sound Insert as_ resolved = insert_sound s leveled rows ordered p fits as_ call.area resolved
  own_sound Replace as_ resolved = replace_sound s rows p as_ call.area ordered fits
  own_sound Delete as_ resolved = delete_sound s rows p as_ fits

  pub effect_sound : IsSoundEffect s.types rows (effect_of s rows p call)
  effect_sound = by_function (function_of call.function)
    where
      by_function : (o : Option Function)
          → IsSoundEffect s.types rows (after_tests s rows p call.area (result_and_then (ok_or o AD) (λ f. result_and_then (resolve s f call.ssas) (λ ssas. last_tests s rows p f ssas))))
      by_function None = bare_sound s.types rows p AD fits
      by_function (Some f) = by_ssas (resolve s f call.ssas) refl
        where
          by_ssas : (r : Result (List Ssa) Status) → resolve s f call.ssas ≡ r → IsSoundEffect s.types rows (after_tests s rows p call.area (result_and_then r (λ ssas. last_tests s rows p f ssas)))
          by_ssas (Err status) is = bare_sound s.types rows p status fits
          by_ssas (Ok as_) is =
              by_tests (is_allowed s rows p.held f as_) (names_enough f as_) (holds_enough rows p.held f as_) (looks_below_parent s.types rows p.parent f as_)
            where
              by_tests : (a b c d : Bool) → IsSoundEffect s.types rows
                  (after_tests s rows p call.area (cond (not a) (Err AM) (cond (not b) (Err AH) (cond (not c) (Err DJ) (cond (not d) (Err GP) (Ok (record { function = f; ssas = as_ })))))))
              by_tests false b c d = bare_sound s.types rows p AM fits
              by_tests true false c d = bare_sound s.types rows p AH fits
              by_tests true true false d = bare_sound s.types rows p DJ fits
              by_tests true true true false = bare_sound s.types rows p GP fits
              by_tests true true true true = own_sound f as_ (resolved_call s f call.ssas as_ is)

-- ---- the positions of all PCBs

all_moved : (P Q : Position → Type 0) (f : Position → Position) → ((q : Position) → P q → Q (f q)) → (ps : List Position) → AllByRecursion P ps → AllByRecursion Q (map f ps)
all_moved P Q f g [] all = tt
all_moved P Q f g (p ∷ ps) all = (g p all.0, all_moved P Q f g ps all.1)

all_set : (P : Position → Type 0) (ps : List Position) (i : ℕ) (own : Position) → P own → AllByRecursion P ps → AllByRecursion P (slice_set ps i own)
all_set P [] i own fits all = tt
all_set P (p ∷ ps) zero own fits all = (fits, all.1)
all_set P (p ∷ ps) (suc i) own fits all = (all.0, all_set P ps i own fits all.1)

one_of : (P : Position → Type 0) (ps : List Position) (i : ℕ) → P at_start → AllByRecursion P ps → P (slice_index_or ps i at_start)
one_of P [] i start all = start
one_of P (p ∷ ps) zero start all = all.0
one_of P (p ∷ ps) (suc i) start all = one_of P ps i start all.1

state_sound : (types : List SegmentType) (leveled : Leveled types) (st : State) (number : ℕ) (effect : Effect) → IsSound types st → IsInSequence types st.rows → IsSoundEffect types st.rows effect → IsSound types (state_after types st number effect)
state_sound types leveled st number (answered reply change own) sound ordered fine = record {
  rows = sequence_valid types leveled (rows_after change st.rows) (fine_in_sequence types st.rows change fine.0 ordered);
  positions = all_set (IsInRange types (rows_after change st.rows)) (map (λ q. position_after types st.rows change q) st.positions) (number - 1) own fine.1
      (all_moved (IsInRange types st.rows) (IsInRange types (rows_after change st.rows)) (λ q. position_after types st.rows change q) (λ q fits. fine_in_range types st.rows change q fine.0 fits) st.positions sound.positions);
}
state_sound types leveled st number wrong_area sound ordered fine = sound

pub calls_keep_sound : CallsKeepStatesSound
calls_keep_sound block_size frspc types pcbs st number call outcome formed sound = by_outcome outcome
  where
    by_view : (levels : Leveled types) (ordered : IsInSequence types st.rows) (o : Option View) → IsSound types (state_after types st number (option_map_or (λ pcb. step types pcb st number call) o wrong_area))
    by_view levels ordered None = sound
    by_view levels ordered (Some pcb) =
        state_sound types levels st number (step types pcb st number call) sound ordered
        (effect_sound (record { types = types; pcb = pcb }) levels st.rows ordered (position_at st number)
        (one_of (IsInRange types st.rows) st.positions (number - 1) (start_in_range types st.rows) sound.positions) call)

    by_outcome : (o : Outcome) → IsSound types (state_after_outcome types st number (effect_by types pcbs st number call) o)
    by_outcome (replied r) = (let levels = leveled block_size frspc types formed in by_view levels (in_sequence types levels st.rows sound.rows) (view_of pcbs number))
    by_outcome area = sound
    by_outcome full = sound
    by_outcome memory = sound

-- ---- runs

opened_sound : (types : List SegmentType) (pcbs : List View) (rows : List Segment) → valid types rows ≡ true → IsSound types (opened pcbs rows)
opened_sound types pcbs rows fine = record { rows = fine; positions = all_start pcbs }
  where
    all_start : (vs : List View) → AllByRecursion (IsInRange types rows) (map (λ _. at_start) vs)
    all_start [] = tt
    all_start (v ∷ vs) = (start_in_range types rows, all_start vs)

pub runs_stay_sound : {Image : Type 0} → RunsStaySound Image
runs_stay_sound {Image = Image} block_size frspc types pcbs rows entries formed fine = on (opened pcbs rows) entries (opened_sound types pcbs rows fine)
  where
    on : (st : State) (es : List (Entry Image)) → IsSound types st → IsSound types (last_state types pcbs st es)
    on st [] sound = sound
    on st (e ∷ es) sound = on (next_state types pcbs st e) es (calls_keep_sound block_size frspc types pcbs st e.pcb e.call e.outcome formed sound)

-- What the tests of a call come to in a state.
use Rattle.std.proofs.Common.{◌≡◌, ℕ, ◌<◌, ◌≤◌, List, length, Bool, true, false, cond, Ok, Err, Option, Some, None, IsTrue, refl, sym, ap, ◌∙◌, subst, arith, inl, inr}
use Rattle.std.specs.Prelude.{◌==◌, not, Result}
use Rattle.std.specs.Option.{ok_or}
use Rattle.std.proofs.lemmas.Bool.{cases_lt, eq-eqb}
use Rattle.hd_dbd.specs.Types.{View}
use Rattle.hd_dbd.specs.Hierarchy.{Database}
use Rattle.hd_dbd.specs.Segment.{Segment}
use Rattle.hd_dbd.specs.Positions.{Position}
use Rattle.hd_dbd.specs.Calls.{CallText, Reply, bare}
use Rattle.hd_dbd.specs.Views.{Setting}
use Rattle.hd_dbd.specs.declared.answer.Status.{Status}
use Rattle.hd_dbd.specs.declared.answer.Status.TheVariants.{AD, AH, AM, DJ, GP}
use Rattle.hd_calls.specs.declared.call.Function.{Function}
use Rattle.hd_calls.specs.declared.call.Function.TheVariants.{Replace}
use Rattle.hd_calls.specs.Functions.{function_of, result_and_then}
use Rattle.hd_calls.specs.Ssas.{Ssa, resolve}
use Rattle.hd_calls.specs.Gets.{unheld}
use Rattle.hd_calls.specs.Moves.{unchanged}
use Rattle.hd_calls.specs.Runs.{Follows, LacksRoom, rows_stored, inserts_root}
use Rattle.hd_calls.specs.Steps.{State, Effect, AcceptedCall, accepted_call, last_tests, holds_enough, is_allowed, names_enough, looks_below_parent, own_step, after_tests, bare_answer, position_at, state_after}
use Rattle.hd_volume.specs.Volumes.{VolumeState}
use Rattle.hd_volume.specs.Calls.{IsRead}
use Rattle.hd_links.specs.Steps.{rows_of}
use Rattle.hd_forest.proofs.Reading.{after-read}
use Rattle.hd_changes.specs.VolumeImages.{images_of}
use Rattle.hd_position.specs.Kept.{Kept}
use Rattle.hd_update.specs.Positions.{unheld_at}
use Rattle.hd_update.specs.States.{Represents, LacksRoomFor}
use Rattle.hd_update.proofs.Reading.{held_read, later_read}
use Rattle.hd_update.proofs.Standing.{stay_unheld}
use Rattle.hd_session.specs.Sessions.{IsStep, own_in, call_in}
use Rattle.hd_session.proofs.OwnSteps.{same_follows, step_as}

-- ---- an accepted call

-- The function of an accepted call is the one that it names, PROCOPT allows it, and enough is held for it.
pub record IsAccepted (s : Setting) (rows : List Segment) (p : Position) (call : CallText) (a : AcceptedCall) : Type 0 where
  pub named : function_of call.function ≡ Some a.function
  pub allowed : is_allowed s rows p.held a.function a.ssas ≡ true
  pub held : holds_enough rows p.held a.function a.ssas ≡ true

last_ok : (s : Setting) (rows : List Segment) (p : Position) (f : Function) (ssas : List Ssa) (a : AcceptedCall) → last_tests s rows p f ssas ≡ Ok a
    → (record { function = f; ssas = ssas } ≡ a) × (is_allowed s rows p.held f ssas ≡ true) × (holds_enough rows p.held f ssas ≡ true)
last_ok s rows p f ssas a is = go (is_allowed s rows p.held f ssas) (not (names_enough f ssas)) (holds_enough rows p.held f ssas) (not (looks_below_parent s.types rows p.parent f ssas)) is
  where
    go : (m n h l : Bool) → cond (not m) (Err AM) (cond n (Err AH) (cond (not h) (Err DJ) (cond l (Err GP) (Ok (record { function = f; ssas = ssas }))))) ≡ Ok a
        → (record { function = f; ssas = ssas } ≡ a) × (m ≡ true) × (h ≡ true)
    go false n h l e = cc
    go true true h l e = cc
    go true false false l e = cc
    go true false true true e = cc
    go true false true false e = ((let same : record { function = f; ssas = ssas } ≡ a = cc in same), refl, refl)

pub accepted_ok : (s : Setting) (rows : List Segment) (p : Position) (call : CallText) (a : AcceptedCall) → accepted_call s rows p call ≡ Ok a → IsAccepted s rows p call a
accepted_ok s rows p call a is = by_function (function_of call.function) refl is
  where
    by_ssas : (f : Function) → function_of call.function ≡ Some f → (r : Result (List Ssa) Status) → result_and_then r (λ ssas. last_tests s rows p f ssas) ≡ Ok a → IsAccepted s rows p call a
    by_ssas f named (Err status) e = cc
    by_ssas f named (Ok ssas) e =
        (let L = last_ok s rows p f ssas a e in
        subst (λ (x : AcceptedCall). IsAccepted s rows p call x) L.0 (record { named = named; allowed = L.1; held = L.2 }))

    by_function : (o : Option Function) → function_of call.function ≡ o → result_and_then (ok_or o AD) (λ f. result_and_then (resolve s f call.ssas) (λ ssas. last_tests s rows p f ssas)) ≡ Ok a
        → IsAccepted s rows p call a
    by_function None named e = cc
    by_function (Some f) named e = by_ssas f named (resolve s f call.ssas) e

false_true : false ≡ true → ⊥
false_true e = cc

-- for a REPL a row is held
pub replace_held : (rows : List Segment) (p : Position) (a : AcceptedCall) → a.function ≡ Replace → holds_enough rows p.held a.function a.ssas ≡ true → 0 < length p.held
replace_held rows p a is held = elim (cases_lt 0 (length p.held)) [
  | inl some ↦ some
  | inr none ↦ absurd (let enough : not (length p.held == 0) ≡ true = subst (λ (f : Function). holds_enough rows p.held f a.ssas ≡ true) is held in
      let zero_ : length p.held ≡ 0 = omega arith in
      false_true (ap not (sym (eq-eqb (length p.held) 0 zero_)) ∙ enough))
]

-- ---- steps

-- a call's own work, by its parts
pub own_is : (d : Database) (pcb : View) (number : ℕ) (st : State) (area area2 : List ℕ) (f g : Function) (ss xs : List Ssa) (a : AcceptedCall) → area ≡ area2 → ss ≡ xs → g ≡ f
    → record { function = g; ssas = xs } ≡ a
    → own_step (record { types = d.types; pcb = pcb }) st.rows (position_at st number) area f ss ≡ own_in d pcb number area2 a st
own_is d pcb number st area area2 f g ss xs a areas args functions is =
    let s : Setting = record { types = d.types; pcb = pcb } in
    ap (λ (x : List ℕ). own_step s st.rows (position_at st number) x f ss) areas
    ∙ ap (λ (x : List Ssa). own_step s st.rows (position_at st number) area2 f x) args
    ∙ ap (λ (x : Function). own_step s st.rows (position_at st number) area2 x xs) (sym functions)
    ∙ ap (λ (x : AcceptedCall). own_in d pcb number area2 x st) is

-- a step after calls that only read is one before them
pub step_before : {reply : Reply} (d : Database) (v mid : VolumeState) (st : State) (number : ℕ) (e : Effect) (w : VolumeState) (kept : List Kept) → mid.image ≡ v.image
    → IsStep d mid st number e reply w kept → IsStep d v st number e reply w kept
step_before d v mid st number e w kept image S = record {
  change = S.change;
  own = S.own;
  is = S.is;
  represents = S.represents;
  follows = subst (λ (x : List ℕ). Follows (images_of d) st.rows x S.change (state_after d.types st number e).rows w.image) image S.follows;
}

-- and room that lacks after them lacked before
pub lacks_before : (d : Database) (v mid : VolumeState) (rows : List Segment) (e : Effect) → mid.image ≡ v.image → LacksRoomFor d mid rows e → LacksRoomFor d v rows e
lacks_before d v mid rows e image L = record {
  reply = L.reply;
  change = L.change;
  own = L.own;
  is = L.is;
  blank = L.blank;
  lacks = subst (λ (x : List ℕ). LacksRoom (images_of d) d.types x (rows_stored rows L.change) (inserts_root L.change)) image L.lacks;
}

-- a status that changes nothing
bare_step : {A : Type 0} {x : A} (d : Database) (v w : VolumeState) (old : List Kept) (st : State) (number : ℕ) (status : Status) → IsRead {T = A} v (Ok x) w → IsTrue v.is_sound
    → Represents d v old st → 0 < number → number ≤ length old → IsStep d v st number (bare_answer (position_at st number) status) (bare status) w (unheld_at number old)
bare_step d v w old st number status read sound R some within = record {
  change = unchanged;
  own = unheld (position_at st number);
  is = refl;
  represents = record {
    later = later_read d v w read sound R.later;
    placed = R.placed;
    holds = held_read d v w read sound R.placed R.holds;
    rows = R.rows;
    positions = stay_unheld d.types R.placed old st.positions number R.positions some within;
  };
  follows = same_follows d v R.placed st.rows w.image R.holds R.rows (after-read d v w read sound).image;
}

module _ (d : Database) (pcb : View) (number : ℕ) (call : CallText) (v : VolumeState) (old : List Kept) (st : State) (R : Represents d v old st) where
  abbrev s : Setting
  s = record { types = d.types; pcb = pcb }

  in_state : (r : Result AcceptedCall Status) → accepted_call (record { types = d.types; pcb = pcb }) (rows_of R.placed) (position_at st number) call ≡ r
      → after_tests (record { types = d.types; pcb = pcb }) st.rows (position_at st number) call.area r ≡ call_in d pcb number call st
  in_state r is = ap (after_tests (record { types = d.types; pcb = pcb }) st.rows (position_at st number) call.area)
      (sym (ap (λ (rows : List Segment). accepted_call (record { types = d.types; pcb = pcb }) rows (position_at st number) call) (sym R.rows) ∙ is))

  -- a call that passed its tests does its own work
  pub own_effect : (a : AcceptedCall) → accepted_call (record { types = d.types; pcb = pcb }) (rows_of R.placed) (position_at st number) call ≡ Ok a
      → own_in d pcb number call.area a st ≡ call_in d pcb number call st
  own_effect a is = in_state (Ok a) is

  -- a call that failed one answers its status
  pub failed_step : {A : Type 0} {x : A} (w : VolumeState) (status : Status) → IsRead {T = A} v (Ok x) w → IsTrue v.is_sound → 0 < number → number ≤ length old
      → accepted_call (record { types = d.types; pcb = pcb }) (rows_of R.placed) (position_at st number) call ≡ Err status
      → IsStep d v st number (call_in d pcb number call st) (bare status) w (unheld_at number old)
  failed_step w status read sound some within is =
      step_as d v st number (bare_answer (position_at st number) status) (call_in d pcb number call st) w (unheld_at number old) (in_state (Err status) is)
      (bare_step d v w old st number status read sound R some within)

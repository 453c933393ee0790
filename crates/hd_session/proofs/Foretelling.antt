-- What a call is foretold to answer: a get changes no row, and what it answers where it is made so often.
use Rattle.std.proofs.Common.{◌≡◌, ℕ, ◌-◌, ◌<◌, ◌≤◌, List, [], ◌∷◌, length, Bool, true, false, cond, Option, Some, None, Result, Ok, Err, IsTrue, refl, sym, ap, ◌∙◌, subst, arith}
use Rattle.std.specs.Prelude.{not, ◌&&◌, nat_le, slice_index_or}
use Rattle.std.proofs.lemmas.Bool.{and_parts, leb-true}
use Rattle.hd_calls.specs.Access.{loads}
use Rattle.std.specs.Option.{option_map_or, ok_or}
use Rattle.std.proofs.lemmas.List.{get_or_default}
use Rattle.hd_dbd.specs.declared.answer.Status.{Status}
use Rattle.hd_dbd.specs.declared.answer.Status.TheVariants.{AD, GP, AM, AH, DJ}
use Rattle.hd_dbd.specs.Types.{View}
use Rattle.hd_dbd.specs.Segment.{Segment}
use Rattle.hd_dbd.specs.Hierarchy.{Database}
use Rattle.hd_dbd.specs.Positions.{Position}
use Rattle.hd_dbd.specs.Views.{Setting}
use Rattle.hd_dbd.specs.Calls.{CallText, Reply, bare}
use Rattle.hd_calls.specs.declared.call.GetKind.{GetKind}
use Rattle.hd_calls.specs.declared.call.Function.{Function}
use Rattle.hd_calls.specs.declared.call.Function.TheVariants.{Get, Insert, Replace, Delete}
use Rattle.hd_calls.specs.Functions.{function_of, result_and_then}
use Rattle.hd_calls.specs.Gets.{unheld, get_step}
use Rattle.hd_calls.specs.Moves.{Change, unchanged}
use Rattle.hd_calls.specs.Ssas.{Ssa, resolve}
use Rattle.hd_calls.specs.Steps.{Effect, answered, State, position_at, is_allowed, names_enough, holds_enough, looks_below_parent, last_tests, after_tests, effect_of, state_after}
use Rattle.hd_volume.specs.Volumes.{VolumeState}
use Rattle.hd_position.specs.Kept.{Kept, StandsFor, kept_start}
use Rattle.hd_update.specs.States.{Represents}
use Rattle.hd_update.proofs.Standing.{own_stands}
use Rattle.hd_session.specs.Sessions.{IsStep, IsStepDone, call_in}
use Rattle.hd_session.specs.Foretelling.{is_get, is_get_call, can_be_foretold, StandsOver, HasOutlook, IsNextAnswer, IsNextForetold}

-- an effect that changes no row
abbrev pub IsReading : Effect → Type 0
IsReading e = (reply : Reply) × (own : Position) × (e ≡ answered reply unchanged own)

module _ (s : Setting) (rows : List Segment) (p : Position) (area : List ℕ) (kind : GetKind) (hold : Bool) where
  by_tests : (ssas : List Ssa) (a n h l : Bool)
      → IsReading (after_tests s rows p area (cond (not a) (Err AM) (cond (not n) (Err AH) (cond (not h) (Err DJ) (cond (not l) (Err GP) (Ok (record { function = Get kind hold; ssas = ssas })))))))
  by_tests ssas false n h l = (bare AM, unheld p, refl)
  by_tests ssas true false h l = (bare AH, unheld p, refl)
  by_tests ssas true true false l = (bare DJ, unheld p, refl)
  by_tests ssas true true true false = (bare GP, unheld p, refl)
  by_tests ssas true true true true = ((get_step s rows p kind hold ssas).0, (get_step s rows p kind hold ssas).1, refl)

  by_ssas : (r : Result (List Ssa) Status) → IsReading (after_tests s rows p area (result_and_then r (λ ssas. last_tests s rows p (Get kind hold) ssas)))
  by_ssas (Err status) = (bare status, unheld p, refl)
  by_ssas (Ok ssas) = by_tests ssas (is_allowed s rows p.held (Get kind hold) ssas) (names_enough (Get kind hold) ssas) (holds_enough rows p.held (Get kind hold) ssas)
      (looks_below_parent s.types rows p.parent (Get kind hold) ssas)

by_function : (s : Setting) (rows : List Segment) (p : Position) (area : List ℕ) (words : List (List ℕ)) (f : Option Function) → option_map_or is_get f false ≡ true
    → IsReading (after_tests s rows p area (result_and_then (ok_or f AD) (λ g. result_and_then (resolve s g words) (λ ssas. last_tests s rows p g ssas))))
by_function s rows p area words None e = cc
by_function s rows p area words (Some (Get kind hold)) e = by_ssas s rows p area kind hold (resolve s (Get kind hold) words)
by_function s rows p area words (Some Insert) e = cc
by_function s rows p area words (Some Replace) e = cc
by_function s rows p area words (Some Delete) e = cc

-- a get changes no row
pub gets_read : (s : Setting) (rows : List Segment) (p : Position) (call : CallText) → is_get_call call ≡ true → IsReading (effect_of s rows p call)
gets_read s rows p call get = by_function s rows p call.area call.ssas (function_of call.function) get

-- so the change of its effect is none
pub none_changed : (s : Setting) (rows : List Segment) (p : Position) (call : CallText) (reply : Reply) (change : Change) (own : Position) → is_get_call call ≡ true
    → effect_of s rows p call ≡ answered reply change own → change ≡ unchanged
none_changed s rows p call reply change own get is =
    let r : IsReading (effect_of s rows p call) = gets_read s rows p call get in
    same (sym is ∙ r.2)
  where
    same : {a b : Reply} {x y : Change} {q t : Position} → answered a x q ≡ answered b y t → x ≡ y
    same e = cc

-- what is kept of one PCB stands for its position, as if it were the only one
pub one_stands : (d : Database) (v : VolumeState) (kept : List Kept) (st : State) (number : ℕ) (k : Kept) → 0 < number → number ≤ length kept → k ≡ slice_index_or kept (number - 1) k
    → Represents d v kept st → StandsOver d v (k ∷ []) st.rows (position_at st number)
one_stands d v kept st number k some within is R = record {
  later = R.later;
  placed = R.placed;
  holds = R.holds;
  rows = R.rows;
  positions = (
    subst (λ (x : Kept). StandsFor d.types R.placed x (position_at st number))
        (get_or_default kept (number - 1) kept_start k (omega (arith, some, within)) ∙ sym is) (own_stands d v kept st number R some within),
    tt,
  );
}

-- what can be foretold is a get with few arguments
pub can_parts : (pcb : View) (call : CallText) → can_be_foretold pcb call ≡ true → (is_get_call call ≡ true) × (length call.ssas ≤ 4)
can_parts pcb call can =
    let parts = and_parts (not (loads pcb)) (is_get_call call && nat_le (length call.ssas) 4) can in
    let more = and_parts (is_get_call call) (nat_le (length call.ssas) 4) parts.1 in
    (more.0, leb-true (length call.ssas) 4 more.1)

-- a get as a call of the only PCB is the next that is foretold
pub next_foretold : (d : Database) (pcb : View) (call : CallText) (v : VolumeState) (old : List Kept) (reply : Reply) (w : VolumeState) (new : List Kept) → is_get_call call ≡ true
    → IsStepDone d v old 1 (call_in d pcb 1 call) reply w new → IsNextForetold d pcb call v old reply w new
next_foretold d pcb call v old reply w new get done rows q sound over =
    let s : Setting = record { types = d.types; pcb = pcb } in
    let st : State = record { rows = rows; positions = q ∷ [] } in
    let S : IsStep d v st 1 (call_in d pcb 1 call st) reply w new = done st sound over in
    let none : S.change ≡ unchanged = none_changed s rows q call reply S.change S.own get S.is in
    let is : effect_of s rows q call ≡ answered reply unchanged S.own = S.is ∙ ap (λ (c : Change). answered reply c S.own) none in
    record { own = S.own; is = is; stands = subst (λ (e : Effect). Represents d w new (state_after d.types st 1 e)) is S.represents }

-- so there is an outlook behind it
pub outlook_behind : (d : Database) (pcb : View) (call : CallText) (v : VolumeState) (old : List Kept) (reply : Reply) (w : VolumeState) (new : List Kept) → (IsTrue w.is_sound → IsTrue v.is_sound)
    → HasOutlook d v old → IsNextForetold d pcb call v old reply w new → HasOutlook d w new
outlook_behind d pcb call v old reply w new back there next sound =
    let before : IsTrue v.is_sound = back sound in
    let p = there before in
    let a : IsNextAnswer d pcb call p.0 p.1 reply w new = next p.0 p.1 before p.2 in
    (p.0, a.own, a.stands)

use Rattle.std.proofs.Common.{◌≡◌, true, ℕ, ◌-◌, ◌<◌, List, [], Ok, None, length, refl, ap, sym, subst, ◌∙◌, arith}
use Rattle.std.specs.Prelude.{slice_index_or}
use Rattle.std.proofs.lemmas.List.{get_or_default}
use Rattle.hd_dbd.specs.Calls.{CallText}
use Rattle.hd_dbd.specs.Types.{View}
use Rattle.hd_dbd.specs.Views.{Setting}
use Rattle.hd_volume.proofs.CallSteps.{if-ok}
use Rattle.hd_links.specs.Steps.{rows_of}
use Rattle.hd_image.specs.Records.{links_of}
use Rattle.hd_calls.specs.declared.call.Function.{Function}
use Rattle.hd_calls.specs.declared.call.Function.TheVariants.{Get}
use Rattle.hd_calls.specs.Ssas.{resolve}
use Rattle.hd_calls.specs.Steps.{AcceptedCall, position_at}
use Rattle.hd_position.specs.Kept.{Kept, kept_start}
use Rattle.hd_position.specs.Behind.{IsBehind}
use Rattle.hd_get.specs.Behind.{begins_behind}
use Rattle.hd_get.proofs.NextTwins.{some_told}
use Rattle.hd_update.proofs.Standing.{own_position}
use Rattle.hd_session.specs.LastGiven.{Given}
use Rattle.hd_session.specs.Onward.{IsReadable, IsKnownBehind}
use Rattle.hd_session.specs.Sessions.{own_in, call_in}
use Rattle.hd_session.proofs.BareGets.{bare_tests}
use Rattle.hd_session.proofs.Order.{none_mean, tested_call}
use Rattle.hd_session.proofs.OwnSteps.{step_as}
use Rattle.hd_session.proofs.TestedCalls.{own_effect}
use Rattle.hd_session.proofs.calls.answer_bare_get.Goals as goal

pub answer_behind-requires-clause-behind : goal.answer_behind-requires-clause-behind
answer_behind-requires-clause-behind g c sound =
    let d = c.args.dbd.now in
    let u = c.args.volume.now in
    let old : List Kept = c.args.positions.now in
    let above : Given = c.args.last_given.now in
    let n : ℕ = c.args.number in
    let number = c.requires.number in
    let within : n - 1 < length old = omega (arith, number.0, number.1) in
    let k : Kept = slice_index_or old (n - 1) c.index-positions-number.result in
    let T = c.requires.state sound in
    let at = own_position d u old T.0 n T.1 number.0 number.1 sound c.index-positions-number.result in
    let known = some_told (λ (r : ℕ × ℕ). IsKnownBehind d k above r.0 r.1) c.known_behind.result (c.in-Some.twin, c.in-Some.code) c.in-Some.is c.known_behind.ensures.behind in
    subst (λ (x : Kept). IsBehind d.types (links_of d.types u) x c.in-Some.twin c.in-Some.code) (sym (get_or_default old (n - 1) kept_start c.index-positions-number.result within))
    (known u (λ now. at.holds.volume) (λ now. (T.1.placed, position_at T.0 n, at)) c.requires.known sound)

pub returns-in-Some-clause-done : goal.returns-in-Some-clause-done
returns-in-Some-clause-done g c = if-ok c.answer_behind.result c.answer_behind.ensures.done (λ a done st sound R.
    let d = c.args.dbd.now in
    let u = c.args.volume.now in
    let old : List Kept = c.args.positions.now in
    let n : ℕ = c.args.number in
    let pcb : View = c.args.pcb.now in
    let call : CallText = c.args.call.now in
    let s : Setting = record { types = d.types; pcb = pcb } in
    let function : Function = Get c.args.kind c.args.hold in
    let k : Kept = slice_index_or old (n - 1) c.index-positions-number.result in
    let at = own_position d u old st n R c.requires.number.0 c.requires.number.1 sound c.index-positions-number.result in
    let begins = some_told (λ (r : ℕ × ℕ). begins_behind d.types c.args.kind k r.1 ≡ true) c.known_behind.result (c.in-Some.twin, c.in-Some.code) c.in-Some.is c.known_behind.ensures.begins in
    let readable = some_told (λ (r : ℕ × ℕ). IsReadable d.types pcb r.1) c.known_behind.result (c.in-Some.twin, c.in-Some.code) c.in-Some.is c.known_behind.ensures.readable in
    let last = bare_tests d R.placed k (position_at st n) at.stands pcb c.args.hold c.in-Some.code readable c.args.kind begins in
    let own : AcceptedCall = record { function = function; ssas = [] } in
    let resolved : resolve s function call.ssas ≡ Ok [] = ap (resolve s function) c.requires.bare ∙ none_mean s function in
    let tests = tested_call s (rows_of R.placed) (position_at st n) call function [] None None c.requires.named resolved last refl in
    step_as d u st n (own_in d pcb n call.area own st) (call_in d pcb n call st) c.answer_behind.new.volume c.answer_behind.new.positions (own_effect d pcb n call u old st R own tests) (done st sound R))

use Rattle.std.proofs.Common.{◌≡◌, ℕ, ◌-◌, ◌<◌, List, length, Err, Ok, Some, sym, ap, subst, ◌∙◌, arith}
use Rattle.std.specs.Prelude.{slice_index_or}
use Rattle.hd_dbd.specs.Calls.{CallText}
use Rattle.hd_volume.proofs.CallSteps.{if-ok, reads-join}
use Rattle.hd_volume.proofs.JoinLemmas.{calls-join, if-err-map}
use Rattle.hd_links.specs.Steps.{rows_of}
use Rattle.hd_calls.specs.Steps.{AcceptedCall, Effect, accepted_call, position_at}
use Rattle.hd_forest.proofs.Reading.{after-read, sound-before}
use Rattle.hd_position.specs.Kept.{Kept, kept_start}
use Rattle.hd_update.proofs.Answering.{represented}
use Rattle.hd_update.proofs.Levels.{as_many}
use Rattle.hd_update.proofs.Standing.{own_position, own_stands}
use Rattle.hd_update.specs.States.{LacksRoomFor, StoresSome}
use Rattle.hd_session.specs.Sessions.{own_in, call_in}
use Rattle.hd_session.proofs.KeysKnown.{keys_kept}
use Rattle.hd_session.proofs.OwnSteps.{step_as}
use Rattle.hd_session.proofs.Order.{tested_call}
use Rattle.hd_session.proofs.TestedCalls.{accepted_ok, replace_held, step_before, lacks_before, own_effect, failed_step}
use Rattle.hd_session.proofs.calls.answer_tested.Goals as goal

pub last_test-requires-clause-there : goal.last_test-requires-clause-there
last_test-requires-clause-there g c sound =
    let T = c.requires.state sound in (
      T.1.placed,
      position_at T.0 c.args.number,
      own_position c.args.dbd.now c.args.volume.now c.args.positions.now T.0 c.args.number T.1 c.requires.number.0 c.requires.number.1 sound c.index-positions-number.result,
    )

pub answer_accepted-requires-clause-state : goal.answer_accepted-requires-clause-state
answer_accepted-requires-clause-state g c now =
    let sound = sound-before c.args.volume.now c.last_test.new.volume c.in_ok-status.ensures.read now in
    let T = c.requires.state sound in
    (T.0, represented c.args.dbd.now c.args.volume.now c.last_test.new.volume c.args.positions.now T.0 c.in_ok-status.ensures.read sound T.1)

pub answer_accepted-requires-clause-size : goal.answer_accepted-requires-clause-size
answer_accepted-requires-clause-size g c = c.in_ok-status.ensures.read.call.size ∙ c.requires.size

pub answer_accepted-requires-clause-sizes : goal.answer_accepted-requires-clause-sizes
answer_accepted-requires-clause-sizes g c = c.in_ok-status.ensures.read.call.sizes ∙ c.requires.sizes

pub answer_accepted-requires-clause-loader : goal.answer_accepted-requires-clause-loader
answer_accepted-requires-clause-loader g c loader now =
    let sound = sound-before c.args.volume.now c.last_test.new.volume c.in_ok-status.ensures.read now in
    let T = c.requires.loader loader sound in
    (T.0, represented c.args.dbd.now c.args.volume.now c.last_test.new.volume c.args.positions.now T.0 c.in_ok-status.ensures.read sound T.1, T.2)

pub answer_accepted-requires-clause-held : goal.answer_accepted-requires-clause-held
answer_accepted-requires-clause-held g c is now =
    let d = c.args.dbd.now in
    let u = c.args.volume.now in
    let old : List Kept = c.args.positions.now in
    let n : ℕ = c.args.number in
    let sound = sound-before u c.last_test.new.volume c.in_ok-status.ensures.read now in
    let T = c.requires.state sound in
    let at = own_position d u old T.0 n T.1 c.requires.number.0 c.requires.number.1 sound c.index-positions-number.result in
    let S = own_stands d u old T.0 n T.1 c.requires.number.0 c.requires.number.1 in
    let call : CallText = c.args.call.now in
    let own : AcceptedCall = record { function = c.args.function; ssas = c.args.ssas.now } in
    let tests : accepted_call (record { types = d.types; pcb = c.args.pcb.now }) (rows_of T.1.placed) (position_at T.0 n) call ≡ Ok own
    = tested_call (record { types = d.types; pcb = c.args.pcb.now }) (rows_of T.1.placed) (position_at T.0 n) call c.args.function c.args.ssas.now c.in_ok-status.field-0 _ c.requires.named c.requires.resolved (c.in_ok-status.ensures.value T.1.placed (position_at T.0 n) at) c.in-None.is in
    let A = accepted_ok (record { types = d.types; pcb = c.args.pcb.now }) (rows_of T.1.placed) (position_at T.0 n) c.args.call.now own tests in
    let some : 0 < length (position_at T.0 n).held = replace_held (rows_of T.1.placed) (position_at T.0 n) own is A.held in
    let many = as_many _ (slice_index_or old (n - 1) kept_start).held (position_at T.0 n).held S.held in
    omega (arith, some, many)

pub returns-in-Some-clause-done : goal.returns-in-Some-clause-done
returns-in-Some-clause-done g c st sound R =
    let d = c.args.dbd.now in
    let u = c.args.volume.now in
    let old : List Kept = c.args.positions.now in
    let n : ℕ = c.args.number in
    let at = own_position d u old st n R c.requires.number.0 c.requires.number.1 sound c.index-positions-number.result in
    let call : CallText = c.args.call.now in
    let tests : accepted_call (record { types = d.types; pcb = c.args.pcb.now }) (rows_of R.placed) (position_at st n) call ≡ Err c.in-Some.status
    = tested_call (record { types = d.types; pcb = c.args.pcb.now }) (rows_of R.placed) (position_at st n) call c.args.function c.args.ssas.now c.in_ok-status.field-0 _ c.requires.named c.requires.resolved (c.in_ok-status.ensures.value R.placed (position_at st n) at) c.in-Some.is in
    rw (c.fail.ensures.reply, c.fail.ensures.positions)
    (failed_step d c.args.pcb.now n c.args.call.now u old st R c.last_test.new.volume c.in-Some.status c.in_ok-status.ensures.read sound c.requires.number.0 c.requires.number.1 tests)

pub returns-in-None-clause-done : goal.returns-in-None-clause-done
returns-in-None-clause-done g c = if-ok c.answer_accepted.result c.answer_accepted.ensures.done (λ a done st sound R.
    let d = c.args.dbd.now in
    let u = c.args.volume.now in
    let old : List Kept = c.args.positions.now in
    let n : ℕ = c.args.number in
    let same = after-read d u c.last_test.new.volume c.in_ok-status.ensures.read sound in
    let at = own_position d u old st n R c.requires.number.0 c.requires.number.1 sound c.index-positions-number.result in
    let call : CallText = c.args.call.now in
    let own : AcceptedCall = record { function = c.args.function; ssas = c.args.ssas.now } in
    let tests : accepted_call (record { types = d.types; pcb = c.args.pcb.now }) (rows_of R.placed) (position_at st n) call ≡ Ok own
    = tested_call (record { types = d.types; pcb = c.args.pcb.now }) (rows_of R.placed) (position_at st n) call c.args.function c.args.ssas.now c.in_ok-status.field-0 _ c.requires.named c.requires.resolved (c.in_ok-status.ensures.value R.placed (position_at st n) at) c.in-None.is in
    let effect : own_in d c.args.pcb.now n c.args.call.now.area own st ≡ call_in d c.args.pcb.now n c.args.call.now st
    = own_effect d c.args.pcb.now n c.args.call.now u old st R own tests in
    step_before d u c.last_test.new.volume st n (call_in d c.args.pcb.now n c.args.call.now st) c.answer_accepted.new.volume c.answer_accepted.new.positions same.image
    (step_as d c.last_test.new.volume st n (own_in d c.args.pcb.now n c.args.call.now.area own st) (call_in d c.args.pcb.now n c.args.call.now st) c.answer_accepted.new.volume c.answer_accepted.new.positions effect
    (done st same.sound (represented d u c.last_test.new.volume old st c.in_ok-status.ensures.read sound R))))

pub returns-in-None-clause-area : goal.returns-in-None-clause-area
returns-in-None-clause-area g c = if-err-map c.answer_accepted.result (λ e area st is sound R.
    let d = c.args.dbd.now in
    let u = c.args.volume.now in
    let old : List Kept = c.args.positions.now in
    let n : ℕ = c.args.number in
    let same = after-read d u c.last_test.new.volume c.in_ok-status.ensures.read sound in
    let at = own_position d u old st n R c.requires.number.0 c.requires.number.1 sound c.index-positions-number.result in
    let call : CallText = c.args.call.now in
    let own : AcceptedCall = record { function = c.args.function; ssas = c.args.ssas.now } in
    let tests : accepted_call (record { types = d.types; pcb = c.args.pcb.now }) (rows_of R.placed) (position_at st n) call ≡ Ok own
    = tested_call (record { types = d.types; pcb = c.args.pcb.now }) (rows_of R.placed) (position_at st n) call c.args.function c.args.ssas.now c.in_ok-status.field-0 _ c.requires.named c.requires.resolved (c.in_ok-status.ensures.value R.placed (position_at st n) at) c.in-None.is in
    let effect : own_in d c.args.pcb.now n c.args.call.now.area own st ≡ call_in d c.args.pcb.now n c.args.call.now st
    = own_effect d c.args.pcb.now n c.args.call.now u old st R own tests in
    sym effect ∙ area st is same.sound (represented d u c.last_test.new.volume old st c.in_ok-status.ensures.read sound R)) c.answer_accepted.ensures.area

pub returns-in-None-clause-full : goal.returns-in-None-clause-full
returns-in-None-clause-full g c = if-err-map c.answer_accepted.result (λ e full st is sound R.
    let d = c.args.dbd.now in
    let u = c.args.volume.now in
    let old : List Kept = c.args.positions.now in
    let n : ℕ = c.args.number in
    let same = after-read d u c.last_test.new.volume c.in_ok-status.ensures.read sound in
    let at = own_position d u old st n R c.requires.number.0 c.requires.number.1 sound c.index-positions-number.result in
    let call : CallText = c.args.call.now in
    let own : AcceptedCall = record { function = c.args.function; ssas = c.args.ssas.now } in
    let tests : accepted_call (record { types = d.types; pcb = c.args.pcb.now }) (rows_of R.placed) (position_at st n) call ≡ Ok own
    = tested_call (record { types = d.types; pcb = c.args.pcb.now }) (rows_of R.placed) (position_at st n) call c.args.function c.args.ssas.now c.in_ok-status.field-0 _ c.requires.named c.requires.resolved (c.in_ok-status.ensures.value R.placed (position_at st n) at) c.in-None.is in
    let effect : own_in d c.args.pcb.now n c.args.call.now.area own st ≡ call_in d c.args.pcb.now n c.args.call.now st
    = own_effect d c.args.pcb.now n c.args.call.now u old st R own tests in
    subst (λ (x : Effect). LacksRoomFor d u st.rows x) effect (lacks_before d u c.last_test.new.volume st.rows (own_in d c.args.pcb.now n c.args.call.now.area own st) same.image
    (full st is same.sound (represented d u c.last_test.new.volume old st c.in_ok-status.ensures.read sound R)))) c.answer_accepted.ensures.full

pub returns-in-None-clause-call : goal.returns-in-None-clause-call
returns-in-None-clause-call g c = calls-join c.answer_accepted.result c.in_ok-status.ensures.read.call c.answer_accepted.ensures.call

-- a get only reads
pub returns-in-None-clause-reads : goal.returns-in-None-clause-reads
returns-in-None-clause-reads g c get = reads-join c.answer_accepted.result c.in_ok-status.ensures.read (c.answer_accepted.ensures.reads get)

-- ---- what is known

pub answer_accepted-requires-clause-known : goal.answer_accepted-requires-clause-known
answer_accepted-requires-clause-known g c = keys_kept c.args.dbd.now c.args.volume.now c.last_test.new.volume c.in_ok-status.ensures.read c.args.last_given.now c.requires.known

pub returns-in-Some-clause-known : goal.returns-in-Some-clause-known
returns-in-Some-clause-known g c = keys_kept c.args.dbd.now c.args.volume.now c.last_test.new.volume c.in_ok-status.ensures.read c.args.last_given.now c.requires.known

-- ---- memory

pub returns-in-None-clause-memory : goal.returns-in-None-clause-memory
returns-in-None-clause-memory g c other few =
    let d = c.args.dbd.now in
    let n : ℕ = c.args.number in
    let u = c.args.volume.now in
    let old : List Kept = c.args.positions.now in
    if-err-map c.answer_accepted.result (λ e memory st is sound R.
    let same = after-read d u c.last_test.new.volume c.in_ok-status.ensures.read sound in
    let at = own_position d u old st n R c.requires.number.0 c.requires.number.1 sound c.index-positions-number.result in
    let call : CallText = c.args.call.now in
    let own : AcceptedCall = record { function = c.args.function; ssas = c.args.ssas.now } in
    let tests : accepted_call (record { types = d.types; pcb = c.args.pcb.now }) (rows_of R.placed) (position_at st n) call ≡ Ok own
    = tested_call (record { types = d.types; pcb = c.args.pcb.now }) (rows_of R.placed) (position_at st n) call c.args.function c.args.ssas.now c.in_ok-status.field-0 _ c.requires.named c.requires.resolved (c.in_ok-status.ensures.value R.placed (position_at st n) at) c.in-None.is in
    subst (λ (x : Effect). StoresSome st.rows x) (own_effect d c.args.pcb.now n c.args.call.now u old st R own tests)
    (memory st is same.sound (represented d u c.last_test.new.volume old st c.in_ok-status.ensures.read sound R)))
    (c.answer_accepted.ensures.memory (λ is. other (c.requires.named ∙ ap Some is)))

use Rattle.std.proofs.Common.{◌≡◌, ℕ, ◌-◌, ◌<◌, List, length, ap, subst, ◌∙◌, refl, arith, Ok}
use Rattle.std.specs.Prelude.{slice_index_or}
use Rattle.std.proofs.lemmas.List.{get_or_default}
use Rattle.hd_calls.specs.Steps.{position_at}
use Rattle.hd_forest.proofs.Reading.{after-read, sound-before}
use Rattle.hd_position.specs.Kept.{Kept, kept_start}
use Rattle.hd_update.specs.Calls.{replace_effect}
use Rattle.hd_update.proofs.Answering.{represented, lacks_before}
use Rattle.hd_update.proofs.Standing.{own_position}
use Rattle.hd_session.specs.Replies.{reply_of}
use Rattle.hd_session.specs.Sessions.{lowest_level}
use Rattle.hd_session.proofs.UpdateReplies.{replaced_step}
use Rattle.hd_volume.proofs.CallSteps.{call-ok}
use Rattle.hd_volume.proofs.JoinLemmas.{calls-join}
use Rattle.hd_session.proofs.update_answers.replace_held.Goals as goal

pub give_level-requires-clause-there : goal.give_level-requires-clause-there
give_level-requires-clause-there g c sound =
    let T = c.requires.state sound in (
      T.1.placed,
      position_at T.0 c.args.number,
      own_position c.args.dbd.now c.args.volume.now c.args.positions.now T.0 c.args.number T.1 c.requires.number.0 c.requires.number.1 sound c.index-positions-number-2.result,
    )

pub repl-requires-clause-state : goal.repl-requires-clause-state
repl-requires-clause-state g c now =
    let sound = sound-before c.args.volume.now c.give_level.new.volume c.in_ok-given.ensures.read now in
    let T = c.requires.state sound in (
      T.0,
      represented c.args.dbd.now c.args.volume.now c.give_level.new.volume c.args.positions.now T.0 c.in_ok-given.ensures.read sound T.1,
    )

pub returns-in-Ok-clause-done : goal.returns-in-Ok-clause-done
returns-in-Ok-clause-done g c =
    let old : List Kept = c.args.positions.now in
    let n : ℕ = c.args.number in
    let some : 0 < n = c.requires.number.0 in
    let within : n - 1 < length old = omega (arith, c.requires.number.1) in
    let k : Kept = c.index-positions-number-2.result in
    let level : c.lowest_level-level.result ≡ lowest_level (slice_index_or old (n - 1) k).held
    = c.lowest_level-level.ensures ∙ ap lowest_level (c.held.ensures ∙ ap (λ (x : Kept). x.held) (get_or_default old (n - 1) c.index-positions-number.result k within)) in
    let held : 0 < length (slice_index_or old (n - 1) k).held = subst (λ (x : Kept). 0 < length x.held) (get_or_default old (n - 1) kept_start k within) c.requires.held in
    replaced_step c.args.dbd.now c.args.volume.now c.give_level.new.volume c.repl.new.volume old c.repl.new.positions n c.args.ssas.now k c.lowest_level-level.result
    (reply_of c.in_ok-given.given c.give_level.new.io) (reply_of c.told.result c.told.new.io) c.in-Ok.outcome c.in_ok-given.ensures.read some c.requires.number.1 c.in_ok-given.ensures.given c.told.ensures.told
    c.args.area.now level held c.in-Ok.ensures.done

pub returns-in-Err-clause-full : goal.returns-in-Err-clause-full
returns-in-Err-clause-full g c pcb st is sound R =
    let d = c.args.dbd.now in
    let v = c.args.volume.now in
    let mid = c.give_level.new.volume in
    let same = after-read d v mid c.in_ok-given.ensures.read sound in
    let effect = replace_effect d pcb c.args.number c.args.ssas.now c.args.area.now st in
    lacks_before d v mid st.rows effect effect same.image refl (c.in-Err.ensures.full pcb st is same.sound (represented d v mid c.args.positions.now st c.in_ok-given.ensures.read sound R))

pub returns-in-Err-clause-memory : goal.returns-in-Err-clause-memory
returns-in-Err-clause-memory g c is pcb st sound R =
    let same = after-read c.args.dbd.now c.args.volume.now c.give_level.new.volume c.in_ok-given.ensures.read sound in
    c.in-Err.ensures.memory is pcb st same.sound (represented c.args.dbd.now c.args.volume.now c.give_level.new.volume c.args.positions.now st c.in_ok-given.ensures.read sound R)

pub returns-in-Err-clause-area : goal.returns-in-Err-clause-area
returns-in-Err-clause-area g c pcb st is sound R =
    let same = after-read c.args.dbd.now c.args.volume.now c.give_level.new.volume c.in_ok-given.ensures.read sound in
    c.in-Err.ensures.area pcb st is same.sound (represented c.args.dbd.now c.args.volume.now c.give_level.new.volume c.args.positions.now st c.in_ok-given.ensures.read sound R)

pub returns-in-Ok-clause-call : goal.returns-in-Ok-clause-call
returns-in-Ok-clause-call g c = calls-join (Ok c.told.result) c.in_ok-given.ensures.read.call (call-ok c.told.result c.in-Ok.ensures.call)

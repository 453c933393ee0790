use Rattle.std.proofs.Common.{◌≡◌, ℕ, ◌-◌, ◌<◌, List, length, Ok, ap, ◌∙◌, arith}
use Rattle.std.specs.Prelude.{slice_index_or}
use Rattle.std.proofs.lemmas.List.{get_or_default}
use Rattle.hd_calls.specs.Steps.{position_at}
use Rattle.hd_volume.proofs.CallSteps.{call-ok}
use Rattle.hd_volume.proofs.JoinLemmas.{calls-join, read-call}
use Rattle.hd_forest.proofs.Reading.{sound-before}
use Rattle.hd_position.specs.Kept.{Kept}
use Rattle.hd_update.proofs.Answering.{represented}
use Rattle.hd_update.proofs.Standing.{own_position}
use Rattle.hd_session.specs.Replies.{reply_of}
use Rattle.hd_session.specs.Sessions.{deleted_level}
use Rattle.hd_session.proofs.UpdateReplies.{deleted_step}
use Rattle.hd_session.proofs.update_answers.answer_dlet.Goals as goal

pub give_level-requires-clause-there : goal.give_level-requires-clause-there
give_level-requires-clause-there g c sound =
    let T = c.requires.state sound in (
      T.1.placed,
      position_at T.0 c.args.number,
      own_position c.args.dbd.now c.args.volume.now c.args.positions.now T.0 c.args.number T.1 c.requires.number.0 c.requires.number.1 sound c.index-positions-number-2.result,
    )

pub dlet-requires-clause-state : goal.dlet-requires-clause-state
dlet-requires-clause-state g c now =
    let sound = sound-before c.args.volume.now c.give_level.new.volume c.in_ok-given.ensures.read now in
    let T = c.requires.state sound in (
      T.0,
      represented c.args.dbd.now c.args.volume.now c.give_level.new.volume c.args.positions.now T.0 c.in_ok-given.ensures.read sound T.1,
    )

pub returns-in-Ok-clause-call : goal.returns-in-Ok-clause-call
returns-in-Ok-clause-call g c = calls-join (Ok c.told.result) (read-call c.in_ok-given.ensures.read) (call-ok c.told.result c.in-Ok.ensures.call)

pub returns-in-Ok-clause-done : goal.returns-in-Ok-clause-done
returns-in-Ok-clause-done g c =
    let d = c.args.dbd.now in
    let old : List Kept = c.args.positions.now in
    let n : ℕ = c.args.number in
    let some : 0 < n = c.requires.number.0 in
    let within : n - 1 < length old = omega (arith, c.requires.number.1) in
    let k : Kept = c.index-positions-number-2.result in
    let level : c.deleted_level-level.result ≡ deleted_level d.types c.args.ssas.now (slice_index_or old (n - 1) k).held
    = c.deleted_level-level.ensures ∙ ap (deleted_level d.types c.args.ssas.now) (c.held.ensures ∙ ap (λ (x : Kept). x.held) (get_or_default old (n - 1) c.index-positions-number.result k within)) in
    deleted_step d c.args.volume.now c.give_level.new.volume c.dlet.new.volume old c.dlet.new.positions n c.args.ssas.now k c.deleted_level-level.result
    (reply_of c.in_ok-given.given c.give_level.new.io) (reply_of c.told.result c.told.new.io) c.in-Ok.outcome c.in_ok-given.ensures.read some c.requires.number.1 c.in_ok-given.ensures.given c.told.ensures.told
    level c.in-Ok.ensures.done

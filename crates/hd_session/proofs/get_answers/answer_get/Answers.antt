use Rattle.std.proofs.Common.{List}
use Rattle.hd_calls.specs.Steps.{position_at}
use Rattle.hd_position.specs.Kept.{Kept}
use Rattle.hd_update.proofs.Standing.{own_position}
use Rattle.hd_session.proofs.OwnSteps.{if_ok_read, get_stepped}
use Rattle.hd_session.proofs.get_answers.answer_get.Goals as goal

pub get_at-requires-clause-there : goal.get_at-requires-clause-there
get_at-requires-clause-there g c sound =
    let T = c.requires.state sound in (
      T.1.placed,
      position_at T.0 c.args.number,
      own_position c.args.dbd.now c.args.volume.now c.args.positions.now T.0 c.args.number T.1 c.requires.number.0 c.requires.number.1 sound c.index-positions-number.result,
    )

pub returns-clause-done : goal.returns-clause-done
returns-clause-done g c = if_ok_read c.get_at.result c.get_at.ensures.read c.get_at.ensures.value (λ a read value st sound R.
    let d = c.args.dbd.now in
    let u = c.args.volume.now in
    let old : List Kept = c.args.positions.now in
    let at = own_position d u old st c.args.number R c.requires.number.0 c.requires.number.1 sound c.index-positions-number.result in
    let V = value R.placed (position_at st c.args.number) at in
    get_stepped d u c.get_at.new.volume old c.get_at.new.position st c.args.number c.args.call.now _ read sound R c.requires.number.0 c.requires.number.1 V.0 V.1)

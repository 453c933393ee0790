use Rattle.hd_volume.proofs.CallSteps.{if-ok}
use Rattle.std.proofs.Common.{refl}
use Rattle.hd_session.proofs.GotRows.{given_same}
use Rattle.hd_session.proofs.get_answers.give_found.Goals as goal

pub returns-then-is_empty-clause-given : goal.returns-then-is_empty-clause-given
returns-then-is_empty-clause-given g c = if-ok c.give_and_look.result c.give_and_look.ensures.given (λ a given.
    given_same c.args.dbd.now c.args.volume.now c.args.path.now c.args.path.now c.taken-levels.result _ c.args.status refl c.taken-levels.ensures given)

pub returns-clause-given : goal.returns-clause-given
returns-clause-given g c = if-ok c.give_known.result c.give_known.ensures.given (λ a given.
    given_same c.args.dbd.now c.args.volume.now c.args.path.now c.args.path.now c.taken-levels.result _ c.args.status refl c.taken-levels.ensures given)

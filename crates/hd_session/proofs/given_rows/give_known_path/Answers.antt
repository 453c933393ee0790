use Rattle.std.proofs.Common.{List, ℕ}
use Rattle.hd_session.proofs.KeysKnown.{added_all}
use Rattle.hd_session.proofs.given_rows.give_known_path.Goals as goal

pub returns-clause-given : goal.returns-clause-given
returns-clause-given g c f i taken pcb at =
    let d = c.args.dbd.now in
    let u = c.args.volume.now in
    let path : List ℕ = c.args.path.now in
    let levels : List ℕ = c.args.levels.now in
    let io = c.add_known.new.io in
    c.answer_of.ensures.given u c.requires.of c.in_ok-code.ensures.code levels io (added_all d u path levels io c.in_ok-code.ensures.added) f i taken pcb at

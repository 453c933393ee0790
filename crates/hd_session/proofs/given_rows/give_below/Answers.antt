use Rattle.std.proofs.Common.{List, ℕ, [], ◌∷◌, length}
use Rattle.hd_session.proofs.KeysKnown.{added_all}
use Rattle.hd_session.proofs.given_rows.give_below.Goals as goal

pub returns-in-Ok-clause-given : goal.returns-in-Ok-clause-given
returns-in-Ok-clause-given g c f i taken pcb at =
    let d = c.args.dbd.now in
    let u = c.args.volume.now in
    let path : List ℕ = c.args.path.now in
    let levels : List ℕ = length path ∷ [] in
    let io = c.add_below.new.io in
    c.answer_of.ensures.given u c.requires.of c.in-Ok.ensures.code levels io (added_all d u path levels io c.in-Ok.ensures.added) f i taken pcb at

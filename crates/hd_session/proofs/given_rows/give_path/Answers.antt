use Rattle.std.proofs.Common.{◌≡◌, ℕ, ◌<◌, List, length, ap, subst, arith}
use Rattle.hd_image.specs.Records.{links_of}
use Rattle.hd_session.specs.Giving.{IsCodeOn, HasAdded}
use Rattle.hd_session.proofs.GivenPaths.{path_some}
use Rattle.hd_session.proofs.KeysKnown.{none_added, added_all}
use Rattle.hd_session.proofs.given_rows.give_path.Goals as goal

pub add_path-requires-clause-before : goal.add_path-requires-clause-before
add_path-requires-clause-before g c sound = none_added c.args.dbd.now.types (links_of c.args.dbd.now.types c.args.volume.now) c.args.levels.now c.args.path.now c.args.io.now c.requires.empty

pub returns-clause-given : goal.returns-clause-given
returns-clause-given g c f i taken pcb at =
    let d = c.args.dbd.now in
    let u = c.args.volume.now in
    let path : List ℕ = c.args.path.now in
    let levels : List ℕ = c.args.levels.now in
    let io = c.add_path.new.io in
    let rows : length c.addresses.result.now ≡ length path = ap length c.addresses.ensures.value in
    let some : 0 < length path = path_some d u f path i (c.requires.of at.sound) at.row in
    let has : HasAdded d u path levels (length path) io = subst (λ n. HasAdded d u path levels n io) rows c.in_ok-code.ensures.added in
    let code : IsCodeOn d u path (length path) c.in_ok-code.code = subst (λ n. IsCodeOn d u path n c.in_ok-code.code) rows (c.in_ok-code.ensures.code (omega arith)) in
    c.answer_of.ensures.given u c.requires.of code levels io (added_all d u path levels io has) f i taken pcb at

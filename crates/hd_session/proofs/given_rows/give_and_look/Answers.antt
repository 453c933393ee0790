use Rattle.std.proofs.Common.{sym, subst}
use Rattle.hd_volume.proofs.CallSteps.{reads-join}
use Rattle.hd_links.specs.Links.{IsSegment}
use Rattle.hd_image.specs.Records.{links_of}
use Rattle.hd_forest.specs.Rows.{IsOnSomeRow}
use Rattle.hd_forest.proofs.Reading.{links-kept, volume-kept}
use Rattle.hd_get.proofs.Grounds.{grounds, tip_there}
use Rattle.hd_session.proofs.KeysKnown.{keys_kept, ahead_kept, seen, given_before}
use Rattle.hd_session.proofs.given_rows.give_and_look.Goals as goal

pub look_ahead-requires-clause-there : goal.look_ahead-requires-clause-there
look_ahead-requires-clause-there g c sound =
    let d = c.args.dbd.now in
    let u = c.args.volume.now in
    let T = c.requires.there sound in
    subst (IsSegment (links_of d.types u)) (sym c.tip_of-address.ensures) (tip_there d.types (links_of d.types u) T.0 (grounds d u T.0 (c.requires.of sound) T.2.holds) c.args.path.now T.1 T.2)

pub give_known-requires-clause-of : goal.give_known-requires-clause-of
give_known-requires-clause-of g c = volume-kept c.args.dbd.now c.args.volume.now c.look_ahead.new.volume c.in_ok-ahead.ensures.read c.requires.of

pub give_known-requires-clause-there : goal.give_known-requires-clause-there
give_known-requires-clause-there g c =
    links-kept c.args.dbd.now (λ m. IsOnSomeRow c.args.dbd.now.types m c.args.path.now) c.args.volume.now c.look_ahead.new.volume c.in_ok-ahead.ensures.read c.requires.there

pub give_known-requires-clause-known : goal.give_known-requires-clause-known
give_known-requires-clause-known g c = keys_kept c.args.dbd.now c.args.volume.now c.look_ahead.new.volume c.in_ok-ahead.ensures.read c.args.last_given.now c.requires.known

pub returns-clause-read : goal.returns-clause-read
returns-clause-read g c = reads-join _ c.in_ok-ahead.ensures.read c.in_ok-answer.ensures.read

pub returns-clause-given : goal.returns-clause-given
returns-clause-given g c f i taken pcb at =
    given_before c.args.dbd.now c.args.volume.now c.look_ahead.new.volume c.in_ok-ahead.ensures.read c.args.path.now c.args.levels.now c.args.status _ c.in_ok-answer.ensures.given f i taken pcb at

pub returns-clause-known : goal.returns-clause-known
returns-clause-known g c =
    let d = c.args.dbd.now in
    let u = c.args.volume.now in
    let mid = c.look_ahead.new.volume in
    let w = c.give_known.new.volume in
    seen d w c.give_known.new.last_given c.see.new.self c.tip_of-address.result c.in_ok-ahead.ahead c.see.ensures c.in_ok-answer.ensures.known
    (ahead_kept d mid w c.in_ok-answer.ensures.read c.tip_of-address.result c.in_ok-ahead.ahead (ahead_kept d u mid c.in_ok-ahead.ensures.read c.tip_of-address.result c.in_ok-ahead.ahead c.in_ok-ahead.ensures.ahead))

use Rattle.std.proofs.Common.{IsTrue, sym, subst}
use Rattle.hd_dbd.specs.Segment.{Segment}
use Rattle.hd_volume.proofs.CallSteps.{if-ok}
use Rattle.hd_forest.specs.Updates.{MayLink, IsLinked}
use Rattle.hd_image.specs.Records.{links_of}
use Rattle.hd_update.proofs.NewRows.{one_more, row_refused, room_left, if_ok_sound, if_err_all}
use Rattle.hd_update.proofs.new_rows.put_next.Goals as goal

pub link-requires-clause-of : goal.link-requires-clause-of
link-requires-clause-of g c sound = (c.requires.more sound).1.are.is_in.holds.volume

pub link-requires-clause-holds : goal.link-requires-clause-holds
link-requires-clause-holds g c sound = (let M = (c.requires.more sound).1 in (M.are.placed, M.are.is_in.holds.records))

pub link-requires-clause-place : goal.link-requires-clause-place
link-requires-clause-place g c sound =
    let M = (c.requires.more sound).1 in
    subst (λ h. MayLink c.args.dbd.now.types (links_of c.args.dbd.now.types c.args.volume.now) h 0 (record { code = c.args.code; bytes = c.args.bytes.now })) (sym M.is)
    (M.are.is_in.takes (record { code = c.args.code; bytes = c.args.bytes.now }) M.down.0 M.down.1)

pub returns-clause-put_in : goal.returns-clause-put_in
returns-clause-put_in g c = if-ok c.link.result c.link.ensures.linked (λ a linked u f n front last sound are is typed fits.
    let d = c.args.dbd.now in
    let v = c.args.volume.now in
    let w = c.link.new.volume in
    let row : Segment = record { code = c.args.code; bytes = c.args.bytes.now } in
    one_more d u v w f n front last row a are typed fits (subst (λ h. IsLinked d v h 0 row a w) is (linked sound)))

pub returns-clause-lasts : goal.returns-clause-lasts
returns-clause-lasts g c =
    if_ok_sound c.link.result c.args.volume.now.is_sound c.link.new.volume.is_sound c.link.ensures.call.sound c.link.ensures.linked (λ a same linked rows sound room memory.
    room_left c.args.dbd.now c.args.volume.now c.link.new.volume c.args.last 0 a (record { code = c.args.code; bytes = c.args.bytes.now }) rows (linked sound) (c.link.ensures.room (subst IsTrue (sym same) sound)) room memory)

pub returns-clause-only : goal.returns-clause-only
returns-clause-only g c = if_err_all c.link.result c.link.ensures.refusal c.link.ensures.full c.link.ensures.memory c.link.ensures.no_hole (λ e which full none hole sound.
    (let T = c.requires.more sound in
    row_refused c.args.dbd.now c.args.volume.now (record { code = c.args.code; bytes = c.args.bytes.now }) T.0 T.1.room T.1.memory e which (λ is. full is sound) none (λ is. hole is sound)))

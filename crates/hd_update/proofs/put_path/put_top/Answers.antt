use Rattle.std.proofs.Common.{◌≡◌, List, ◌∷◌, [], drop, IsTrue, Ok, sym, ap, subst, ◌∙◌, arith, inl}
use Rattle.hd_dbd.specs.Hierarchy.{Database}
use Rattle.hd_dbd.specs.Segment.{Segment}
use Rattle.hd_volume.specs.Volumes.{VolumeState}
use Rattle.hd_volume.proofs.CallSteps.{if-ok, call-ok, sound-back}
use Rattle.hd_volume.proofs.JoinLemmas.{if-err-map, calls-join}
use Rattle.hd_image.proofs.OneImage.{held-same}
use Rattle.hd_update.specs.NewRows.{codes_of, rows_in, IsRoomMade, HasRoomAndMemory, IsRoomLeft}
use Rattle.hd_update.specs.Putting.{AreFullFor}
use Rattle.hd_update.proofs.PathRows.{one_row, may_same}
use Rattle.hd_update.proofs.PutRoots.{put_before}
use Rattle.hd_update.proofs.put_path.put_top.Goals as goal

-- the room that was made is for the first row and those below it
room_made : (d : Database) (w : VolumeState) (row : Segment) (rows : List Segment) → rows ≡ row ∷ drop 1 rows → IsRoomMade d w rows → HasRoomAndMemory d w row (drop 1 rows)
room_made d w row rows is made = subst (IsRoomMade d w) is made

-- where there is no other row, there is room for the others
no_room_asked : (d : Database) (w : VolumeState) (rows : List Segment) → rows ≡ [] → IsRoomLeft d w rows
no_room_asked d w rows none = subst (IsRoomLeft d w) (sym none) (inl (omega arith), inl (omega arith))

pub returns-then-ssas-eq1-clause-lasts : goal.returns-then-ssas-eq1-clause-lasts
returns-then-ssas-eq1-clause-lasts g c = if-ok c.put_row.result c.put_row.ensures.put_in (λ a put sound.
    no_room_asked c.args.dbd.now c.put_row.new.volume (drop 1 (rows_in c.args.dbd.now.types (codes_of c.args.ssas.now) c.args.area.now))
    (one_row c.args.dbd.now.types c.args.ssas.now c.args.area.now c.if-ssas-eq1.true c.requires.long))

pub returns-then-ssas-eq1-clause-full : goal.returns-then-ssas-eq1-clause-full
returns-then-ssas-eq1-clause-full g c = if-err-map c.put_row.result (λ e full.
    (let d = c.args.dbd.now in
    let row : Segment = record { code = c.args.code; bytes = c.args.bytes.now } in
    let alone : rows_in d.types (codes_of c.args.ssas.now) c.args.area.now ≡ row ∷ []
    = c.requires.first ∙ ap (λ (rows : List Segment). row ∷ rows) (one_row d.types c.args.ssas.now c.args.area.now c.if-ssas-eq1.true c.requires.long) in
    subst (λ (rows : List Segment). AreFullFor d c.args.volume.now rows e) (sym alone) full)) c.put_row.ensures.full

pub make_room-requires-clause-holds : goal.make_room-requires-clause-holds
make_room-requires-clause-holds g c sound = (let M = c.requires.may sound in (M.placed, M.holds, M.later))

pub put_first-requires-clause-may : goal.put_first-requires-clause-may
put_first-requires-clause-may g c now =
    let v = c.args.volume.now in
    let w = c.make_room.new.volume in
    let o = c.in_ok-make_room.ensures in
    let sound : IsTrue v.is_sound = sound-back (Ok c.in_ok-make_room.field-0) v.is_sound w.is_sound o.call.sound now in
    may_same c.args.dbd.now v w c.args.parent c.args.after (record { code = c.args.code; bytes = c.args.bytes.now }) (o.image now) o.call.size o.call.sizes (c.requires.may sound)

pub put_first-requires-clause-room : goal.put_first-requires-clause-room
put_first-requires-clause-room g c now =
    let v = c.args.volume.now in
    let w = c.make_room.new.volume in
    let o = c.in_ok-make_room.ensures in
    let sound : IsTrue v.is_sound = sound-back (Ok c.in_ok-make_room.field-0) v.is_sound w.is_sound o.call.sound now in
    let rows : List Segment = rows_in c.args.dbd.now.types (codes_of c.args.ssas.now) c.args.area.now in
    (drop 1 rows, room_made c.args.dbd.now w (record { code = c.args.code; bytes = c.args.bytes.now }) rows c.requires.first (o.made sound))

pub returns-clause-call : goal.returns-clause-call
returns-clause-call g c = call-ok c.in_ok-address.address (calls-join _ c.in_ok-make_room.ensures.call c.in_ok-address.ensures.call)

pub returns-clause-put_in : goal.returns-clause-put_in
returns-clause-put_in g c f sound holds =
    let d = c.args.dbd.now in
    let v = c.args.volume.now in
    let w = c.make_room.new.volume in
    let o = c.in_ok-make_room.ensures in
    let now : IsTrue w.is_sound = subst IsTrue (sym o.call.sound) sound in
    put_before d v w c.put_first.new.volume f c.args.parent c.args.after (record { code = c.args.code; bytes = c.args.bytes.now }) c.in_ok-address.address
    (record { same = record { size = o.call.size; sizes = o.call.sizes }; image = o.image now }) holds
    (c.in_ok-address.ensures.put_in f now (held-same d v w (o.image now) o.call.size o.call.sizes f holds))

pub returns-clause-lasts : goal.returns-clause-lasts
returns-clause-lasts g c sound =
    let w = c.make_room.new.volume in
    let o = c.in_ok-make_room.ensures in
    let now : IsTrue w.is_sound = subst IsTrue (sym o.call.sound) sound in
    let rows : List Segment = rows_in c.args.dbd.now.types (codes_of c.args.ssas.now) c.args.area.now in
    c.in_ok-address.ensures.lasts (drop 1 rows) now (room_made c.args.dbd.now w (record { code = c.args.code; bytes = c.args.bytes.now }) rows c.requires.first (o.made sound))

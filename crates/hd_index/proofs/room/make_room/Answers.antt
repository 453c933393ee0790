use Rattle.std.proofs.Common.{IsTrue}
use Rattle.hd_volume.proofs.JoinLemmas.{read-one}
use Rattle.hd_index.proofs.CallLemmas.{on-ok-map}
use Rattle.hd_index.specs.Divisions.{IsRoomMade}
use Rattle.hd_index.proofs.Searching.{set-same}
use Rattle.hd_index.proofs.ReadSteps.{room-before}
use Rattle.hd_index.proofs.room.make_room.Goals as goal

pub take_room-requires-clause-index : goal.take_room-requires-clause-index
take_room-requires-clause-index g c now =
    let u = c.args.volume.now in
    let v = c.needed_for.new.volume in
    let read = c.in_ok-needed.ensures.read in
    let sound : IsTrue u.is_sound = rw (← read.call.sound) now in
    (set-same c.args.key_length u v (read-one read now) (c.requires.index sound)).0

pub returns-clause-changed : goal.returns-clause-changed
returns-clause-changed g c =
    let u = c.args.volume.now in
    let v = c.needed_for.new.volume in
    let w = c.take_room.new.volume in
    let read = c.in_ok-needed.ensures.read in
    on-ok-map c.take_room.result
    (λ (made : IsTrue v.is_sound → IsRoomMade c.args.key_length v c.args.by.now w) (sound : IsTrue u.is_sound).
    let now : IsTrue v.is_sound = rw read.call.sound sound in
    let all = room-before c.args.key_length u v w c.args.by.now (read-one read now) (c.requires.index sound) (made now) in
    all.changed)
    c.take_room.ensures.made

pub returns-clause-less : goal.returns-clause-less
returns-clause-less g c =
    let u = c.args.volume.now in
    let v = c.needed_for.new.volume in
    let w = c.take_room.new.volume in
    let read = c.in_ok-needed.ensures.read in
    on-ok-map c.take_room.result
    (λ (made : IsTrue v.is_sound → IsRoomMade c.args.key_length v c.args.by.now w) (sound : IsTrue u.is_sound).
    let now : IsTrue v.is_sound = rw read.call.sound sound in
    let all = room-before c.args.key_length u v w c.args.by.now (read-one read now) (c.requires.index sound) (made now) in
    all.less)
    c.take_room.ensures.made

-- A look for room leaves the volume as it is, and so does what is kept free.
use Rattle.std.proofs.Common.{IsTrue, List, [], ◌∷◌, ℕ, Ok, subst, ◌∙◌}
use Rattle.hd_dbd.specs.Hierarchy.{Database}
use Rattle.hd_dbd.specs.Segment.{Segment}
use Rattle.hd_volume.specs.Volumes.{VolumeState}
use Rattle.hd_volume.proofs.CallSteps.{if-ok}
use Rattle.hd_volume.proofs.JoinLemmas.{AreOne, calls-join, read-one, one-both}
use Rattle.hd_calls.specs.Runs.{LacksRoom, has_root}
use Rattle.hd_index.proofs.ChangeLemmas.{set-index}
use Rattle.hd_changes.specs.Rooms.{HasRootRoom}
use Rattle.hd_changes.specs.VolumeImages.{images_of}
use Rattle.hd_changes.proofs.RoomOf.{one_root_room}
use Rattle.hd_unload.specs.Steps.{row_of}
use Rattle.hd_unload.proofs.LoadedRoots.{lacks-beside}
use Rattle.hd_unload.proofs.OneVolume.{loaded-same, room-same, row-same, call-one}
use Rattle.hd_unload.proofs.row.load_root_with_room.Goals as goal

pub stop_spacing-requires-clause-index : goal.stop_spacing-requires-clause-index
stop_spacing-requires-clause-index g c sound = (let L = (c.requires.can sound).2 in set-index c.args.dbd.now c.args.volume.now c.requires.sizes.0 L.holds.index L.later)

pub returns-then-branch-clause-call : goal.returns-then-branch-clause-call
returns-then-branch-clause-call g c =
    let j = calls-join (Ok c.in_ok-lacks_room.field-0) c.in_ok-stop_spacing.ensures.call c.in_ok-lacks_room.ensures.read.call in
    record { counts = j.counts; sound = j.sound; committed = j.committed; size = j.size; sizes = j.sizes; first = j.first; plain = j.plain; space = j.space }

pub lacks_room-requires-clause-index : goal.lacks_room-requires-clause-index
lacks_room-requires-clause-index g c now =
    let d : Database = c.args.dbd.now in
    let v : VolumeState = c.args.volume.now in
    let m : VolumeState = c.stop_spacing.new.volume in
    let o = c.in_ok-stop_spacing.ensures in
    let sound : IsTrue v.is_sound = subst IsTrue o.call.sound now in
    let can = c.requires.can sound in
    let L = loaded-same d v m can.0 can.1 (call-one o.call.size o.call.sizes (o.image now)) can.2 in
    set-index d m (o.call.size ∙ c.requires.sizes.0) L.holds.index L.later

pub returns-then-branch-clause-full : goal.returns-then-branch-clause-full
returns-then-branch-clause-full g c = λ is sound.
    let d : Database = c.args.dbd.now in
    let v : VolumeState = c.args.volume.now in
    let m : VolumeState = c.stop_spacing.new.volume in
    let o = c.in_ok-stop_spacing.ensures in
    let now : IsTrue m.is_sound = rw o.call.sound sound in
    let can = c.requires.can sound in
    let L = loaded-same d v m can.0 can.1 (call-one o.call.size o.call.sizes (o.image now)) can.2 in
    let row : Segment = row_of 1 c.args.bytes.now in
    subst (λ (i : List ℕ). LacksRoom (images_of d) d.types i (row ∷ []) (has_root (row ∷ []))) (o.image now)
    (lacks-beside d m c.args.bytes.now L.holds.volume (c.in_ok-lacks_room.ensures.lacks now c.if-branch.true))

pub load_root-requires-clause-can : goal.load_root-requires-clause-can
load_root-requires-clause-can g c = λ last.
    let d : Database = c.args.dbd.now in
    let v : VolumeState = c.args.volume.now in
    let m : VolumeState = c.stop_spacing.new.volume in
    let w : VolumeState = c.lacks_room.new.volume in
    let o = c.in_ok-stop_spacing.ensures in
    let read = c.in_ok-lacks_room.ensures.read in
    let now : IsTrue m.is_sound = subst IsTrue read.call.sound last in
    let sound : IsTrue v.is_sound = subst IsTrue o.call.sound now in
    let can = c.requires.can sound in
    let one : AreOne v w = one-both (call-one o.call.size o.call.sizes (o.image now)) (read-one read last) in
    (can.0, can.1, loaded-same d v w can.0 can.1 one can.2, can.3, can.4)

pub load_root-requires-clause-room : goal.load_root-requires-clause-room
load_root-requires-clause-room g c = λ last.
    let d : Database = c.args.dbd.now in
    let m : VolumeState = c.stop_spacing.new.volume in
    let read = c.in_ok-lacks_room.ensures.read in
    let now : IsTrue m.is_sound = subst IsTrue read.call.sound last in
    let row : Segment = row_of 1 c.args.bytes.now in
    room-same d m c.lacks_room.new.volume row (read-one read last) read.call.plain
    (one_root_room d m _ row c.row_size.result c.row_size.ensures.value
    (subst (λ (key : List ℕ). HasRootRoom d key 1 c.row_size.result m) c.root_key.ensures.key (c.in_ok-lacks_room.ensures.room now c.if-branch.false)))

pub returns-clause-loaded : goal.returns-clause-loaded
returns-clause-loaded g c =
    let d : Database = c.args.dbd.now in
    let v : VolumeState = c.args.volume.now in
    let m : VolumeState = c.stop_spacing.new.volume in
    let w : VolumeState = c.lacks_room.new.volume in
    let o = c.in_ok-stop_spacing.ensures in
    let read = c.in_ok-lacks_room.ensures.read in
    if-ok c.load_root.result c.load_root.ensures.loaded
    (λ a loaded sound rows path before may twin.
    let now : IsTrue m.is_sound = rw o.call.sound sound in
    let last : IsTrue w.is_sound = rw read.call.sound now in
    let one : AreOne v w = one-both (call-one o.call.size o.call.sizes (o.image now)) (read-one read last) in
    row-same d v w c.load_root.new.volume rows (row_of 1 c.args.bytes.now) _ one
    (loaded last rows path (loaded-same d v w rows path one before) may twin))

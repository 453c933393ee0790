use Rattle.std.proofs.Common.{◌≡◌, ℕ, ◌+◌, ◌≤◌, [], ◌∷◌, List, length, IsTrue, sym, ap, subst, ◌∙◌, arith}
use Rattle.hd_dbd.specs.Segment.{Segment}
use Rattle.hd_index_blocks.specs.Needs.{entry_growth}
use Rattle.hd_index.proofs.NeedLemmas.{growth-same}
use Rattle.hd_index.proofs.ChangeLemmas.{set-index}
use Rattle.hd_volume.proofs.CallSteps.{if-ok}
use Rattle.hd_links.specs.Links.{Links}
use Rattle.hd_forest.specs.Updates.{MayLink}
use Rattle.hd_forest.proofs.Reading.{after-read, sound-before}
use Rattle.hd_changes.proofs.RootTypes.{root-key-long}
use Rattle.hd_changes.proofs.Rooms.{one-volume}
use Rattle.hd_update.proofs.Reading.{held_read, later_read}
use Rattle.hd_update.proofs.PutRoots.{no_root_room, put_before}
use Rattle.hd_changes.proofs.RoomOf.{one_root_room}
use Rattle.hd_update.proofs.puts.put_reserved_root.Goals as goal

pub lacks_room-requires-clause-index : goal.lacks_room-requires-clause-index
lacks_room-requires-clause-index g c sound = (let M = c.requires.may sound in set-index c.args.dbd.now c.args.volume.now c.requires.size M.holds.index M.later)

pub returns-then-branch-clause-full : goal.returns-then-branch-clause-full
returns-then-branch-clause-full g c is sound some =
    no_root_room c.args.dbd.now c.args.volume.now c.args.bytes.now (some sound).1.volume (c.in_ok-lacks_room.ensures.lacks sound c.if-branch.true)

pub link_root-requires-clause-whole : goal.link_root-requires-clause-whole
link_root-requires-clause-whole g c =
    ap (λ (key : List ℕ). length key) c.key_of-key.ensures.value
    ∙ root-key-long c.args.dbd.now.block_size c.args.dbd.now.frspc c.args.dbd.now.types c.args.bytes.now c.key_of-key.ensures.fit c.requires.fits

pub link_root-requires-clause-can : goal.link_root-requires-clause-can
link_root-requires-clause-can g c now =
    let d = c.args.dbd.now in
    let v = c.args.volume.now in
    let w = c.lacks_room.new.volume in
    let read = c.in_ok-lacks_room.ensures.read in
    let sound : IsTrue v.is_sound = sound-before v w read now in
    let same = after-read d v w read sound in
    let M = c.requires.may sound in
    let row : Segment = record { code = 1; bytes = c.args.bytes.now } in
    record {
      root = record {
        later = later_read d v w read sound M.later;
        placed = M.placed;
        holds = held_read d v w read sound M.placed M.holds;
        may = subst (λ (m : Links). MayLink d.types m 0 c.args.after row) (sym same.links) M.may;
      };
      others = [];
      room = (one-volume d v w (record { image = same.image; size = read.call.size; sizes = read.call.sizes; plain = read.call.plain })).2 c.key_of-key.result.now (row ∷ [])
          (one_root_room d v c.key_of-key.result.now row c.row_size.result c.row_size.ensures.value (c.in_ok-lacks_room.ensures.room sound c.if-branch.false));
      memory =
          (let own : length (row ∷ []) + entry_growth v ≤ v.room = c.requires.memory sound in
          let room : w.room ≡ v.room = read.room in
          let growth : entry_growth w ≡ entry_growth v = growth-same v w same.image in omega arith);
    }

pub returns-clause-put_in : goal.returns-clause-put_in
returns-clause-put_in g c = if-ok c.link_root.result c.link_root.ensures.put_in (λ a put f sound holds.
    let d = c.args.dbd.now in
    let v = c.args.volume.now in
    let w = c.lacks_room.new.volume in
    let read = c.in_ok-lacks_room.ensures.read in
    let same = after-read d v w read sound in
    put_before d v w c.link_root.new.volume f 0 c.args.after (record { code = 1; bytes = c.args.bytes.now }) a (record { same = record { size = read.call.size; sizes = read.call.sizes }; image = same.image }) holds
    (put f same.sound (held_read d v w read sound f holds)))

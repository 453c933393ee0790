use Rattle.std.proofs.Common.{◌⊎◌, ◌≤◌, false, IsTrue, sym, subst, arith, inl, inr}
use Rattle.std.proofs.lemmas.Result.{IfErr-weaker}
use Rattle.hd_dbd.proofs.StoredSizes.{block_size-bounds}
use Rattle.hd_calls.specs.Moves.{rewritten}
use Rattle.hd_calls.specs.Runs.{rows_stored}
use Rattle.hd_volume.specs.Rooms.{HasHole}
use Rattle.hd_links.specs.Steps.{rows_of}
use Rattle.hd_changes.proofs.Rooms.{one-volume}
use Rattle.hd_changes.proofs.VolumeImages.{lacking-room}
use Rattle.hd_update.proofs.NewRows.{on_ok_sound}
use Rattle.hd_changes.proofs.RoomOf.{room_of, memory_of, hole_kept}
use Rattle.hd_update.proofs.room.make_room_to_replace.Goals as goal

pub make_room_below-requires-clause-small : goal.make_room_below-requires-clause-small
make_room_below-requires-clause-small g c =
    let most = (block_size-bounds c.args.dbd.now.block_size c.args.dbd.now.frspc c.args.dbd.now.types c.types.ensures.fit).1 in
    let own = c.requires.size in
    omega arith

pub returns-clause-full : goal.returns-clause-full
returns-clause-full g c = IfErr-weaker c.make_room_below.result _ _ (λ e full is sound f ws V are.
    (let d = c.args.dbd.now in
    let v = c.args.volume.now in
    let rows = rows_stored (rows_of f) (rewritten ws) in
    let A = c.room_asked-count.ensures f ws are in
    let none = full is sound in
    (lacking-room d v rows false V).1 (
      inl (let many = A.0 in let few = none.0 in omega arith),
      inr (λ hole. none.1 (subst (HasHole v) (sym A.1) hole)),
    )))
    c.make_room_below.ensures.full

pub returns-clause-made : goal.returns-clause-made
returns-clause-made g c =
    let d = c.args.dbd.now in
    let v = c.args.volume.now in
    let w = c.make_room_below.new.volume in
    let made = c.make_room_below.ensures in
    on_ok_sound c.make_room_below.result v.is_sound w.is_sound made.call.sound made.room made.memory (λ same room memory sound f ws are.
    (let now : IsTrue w.is_sound = subst IsTrue (sym same) sound in
    let rows = rows_stored (rows_of f) (rewritten ws) in
    let A = c.room_asked-count.ensures f ws are in
    let count = c.room_asked-count.result.0 in
    let total = c.room_asked-count.result.1 in
    let kept : (count ≤ w.room) ⊎ HasHole w total = elim (memory sound) [ inl blocks ↦ inl blocks | inr hole ↦ inr (hole_kept v w total (made.image now) made.call.size made.call.sizes hole) ] in (
      (one-volume d v w (record { image = made.image now; size = made.call.size; sizes = made.call.sizes; plain = made.call.plain })).1 rows (room_of d v rows count total A.0 A.1 (room sound)),
      memory_of d w rows count total A.0 A.1 kept,
    )))

use Rattle.std.proofs.Common.{◌≡◌, ◌⊎◌, ℕ, ◌+◌, ◌<◌, ◌≤◌, List, ◌∷◌, length, drop, IsTrue, sym, ap, subst, ◌∙◌, arith, inl, inr}
use Rattle.hd_dbd.specs.Rows.{key_of}
use Rattle.hd_dbd.specs.Segment.{Segment}
use Rattle.hd_dbd.proofs.StoredSizes.{block_size-bounds}
use Rattle.hd_calls.specs.Runs.{LacksRoom, has_root, stored_sizes}
use Rattle.hd_calls.specs.Ssas.{Ssa}
use Rattle.hd_index_blocks.specs.Needs.{entry_growth, IsHighest}
use Rattle.hd_volume.specs.Rooms.{spare, HasHole}
use Rattle.hd_volume.proofs.JoinLemmas.{if-err-map}
use Rattle.hd_index.proofs.ChangeLemmas.{set-index}
use Rattle.hd_changes.specs.Rooms.{HasRootRoomFor}
use Rattle.hd_changes.specs.VolumeImages.{images_of}
use Rattle.hd_changes.proofs.Rooms.{one-volume}
use Rattle.hd_update.specs.NewRows.{codes_of, rows_in, IsRoomMade}
use Rattle.hd_update.proofs.NewRows.{on_ok_sound}
use Rattle.hd_update.proofs.PathRows.{first_and_others}
use Rattle.hd_changes.proofs.RoomOf.{room_of, memory_of, root_room_of, no_rows_room, no_root_rows_room, hole_kept}
use Rattle.hd_update.proofs.room.make_room.Goals as goal

pub make_room_below-requires-clause-small : goal.make_room_below-requires-clause-small
make_room_below-requires-clause-small g c =
    let most = (block_size-bounds c.args.dbd.now.block_size c.args.dbd.now.frspc c.args.dbd.now.types c.key_of-key.ensures.fit).1 in
    let own = c.requires.size in
    omega arith

pub make_root_room-requires-clause-small : goal.make_root_room-requires-clause-small
make_root_room-requires-clause-small g c =
    let most = (block_size-bounds c.args.dbd.now.block_size c.args.dbd.now.frspc c.args.dbd.now.types c.key_of-key.ensures.fit).1 in
    let own = c.requires.size in
    omega arith

pub make_root_room-requires-clause-index : goal.make_root_room-requires-clause-index
make_root_room-requires-clause-index g c sound = (let T = c.requires.holds sound in set-index c.args.dbd.now c.args.volume.now c.requires.size T.1.index T.2)

pub returns-then-code-eq1-clause-made : goal.returns-then-code-eq1-clause-made
returns-then-code-eq1-clause-made g c =
    let d = c.args.dbd.now in
    let v = c.args.volume.now in
    let w = c.make_root_room.new.volume in
    let ssas : List Ssa = c.args.ssas.now in
    let first : Segment = record { code = c.code-code.result; bytes = c.front.result.now } in
    let rest : List Segment = rows_in d.types (drop 1 (codes_of ssas)) (drop (length c.front.result.now) c.args.area.now) in
    let F = first_and_others d.types ssas c.args.area.now c.index-ssas-0.result c.code-code.result c.front.result.now c.requires.some c.index-ssas-0.is c.code-code.ensures c.front.ensures c.requires.long in
    let many : length ssas ≡ length (first ∷ rest) = sym F.many ∙ ap (λ (rows : List Segment). length rows) F.rows in
    let large : c.sizes_of-total.result ≡ stored_sizes d.types (first ∷ rest) = c.sizes_of-total.ensures ∙ ap (stored_sizes d.types) F.rows in
    let made = c.make_root_room.ensures in
    on_ok_sound c.make_root_room.result v.is_sound w.is_sound made.call.sound made.room made.memory (λ same room memory sound.
    (let now : IsTrue w.is_sound = subst IsTrue (sym same) sound in
    subst (IsRoomMade d w) (sym F.rows)
    (record {
      root = λ one. (
        (one-volume d v w (record { image = made.image now; size = made.call.size; sizes = made.call.sizes; plain = made.call.plain })).2 (key_of d.types first) (first ∷ rest)
            (subst (λ (k : List ℕ). HasRootRoomFor d v k (first ∷ rest)) c.key_of-key.ensures.value
            (root_room_of d v (first ∷ rest) (length ssas) c.sizes_of-total.result many large c.key_of-key.result.now (room sound))),
        subst (λ (n : ℕ). n + entry_growth w ≤ w.room) many (memory sound),
      );
      below = λ other. absurd (other c.if-code-eq1.true);
    })))

pub returns-then-code-eq1-clause-full : goal.returns-then-code-eq1-clause-full
returns-then-code-eq1-clause-full g c = if-err-map c.make_root_room.result (λ e full is sound some.
    (let d = c.args.dbd.now in
    let v = c.args.volume.now in
    let ssas : List Ssa = c.args.ssas.now in
    let first : Segment = record { code = c.code-code.result; bytes = c.front.result.now } in
    let rest : List Segment = rows_in d.types (drop 1 (codes_of ssas)) (drop (length c.front.result.now) c.args.area.now) in
    let F = first_and_others d.types ssas c.args.area.now c.index-ssas-0.result c.code-code.result c.front.result.now c.requires.some c.index-ssas-0.is c.code-code.ensures c.front.ensures c.requires.long in
    let many : length ssas ≡ length (first ∷ rest) = sym F.many ∙ ap (λ (rows : List Segment). length rows) F.rows in
    subst (λ (rows : List Segment). LacksRoom (images_of d) d.types v.image rows (has_root rows)) (sym F.rows)
    (no_root_rows_room d v first rest (some sound).1.volume c.if-code-eq1.true (subst (λ (n : ℕ). (spare v < n + entry_growth v) ⊎ IsHighest v) many (full is sound)))))
    c.make_root_room.ensures.full

pub returns-else-code-eq1-clause-made : goal.returns-else-code-eq1-clause-made
returns-else-code-eq1-clause-made g c =
    let d = c.args.dbd.now in
    let v = c.args.volume.now in
    let w = c.make_room_below.new.volume in
    let ssas : List Ssa = c.args.ssas.now in
    let total : ℕ = c.sizes_of-total.result in
    let first : Segment = record { code = c.code-code.result; bytes = c.front.result.now } in
    let rest : List Segment = rows_in d.types (drop 1 (codes_of ssas)) (drop (length c.front.result.now) c.args.area.now) in
    let F = first_and_others d.types ssas c.args.area.now c.index-ssas-0.result c.code-code.result c.front.result.now c.requires.some c.index-ssas-0.is c.code-code.ensures c.front.ensures c.requires.long in
    let many : length ssas ≡ length (first ∷ rest) = sym F.many ∙ ap (λ (rows : List Segment). length rows) F.rows in
    let large : total ≡ stored_sizes d.types (first ∷ rest) = c.sizes_of-total.ensures ∙ ap (stored_sizes d.types) F.rows in
    let made = c.make_room_below.ensures in
    on_ok_sound c.make_room_below.result v.is_sound w.is_sound made.call.sound made.room made.memory (λ same room memory sound.
    (let now : IsTrue w.is_sound = subst IsTrue (sym same) sound in
    let kept : (length ssas ≤ w.room) ⊎ HasHole w total = elim (memory sound) [ inl blocks ↦ inl blocks | inr hole ↦ inr (hole_kept v w total (made.image now) made.call.size made.call.sizes hole) ] in
    subst (IsRoomMade d w) (sym F.rows)
    (record {
      root = λ one. absurd (c.if-code-eq1.false one);
      below = λ other. (
        (one-volume d v w (record { image = made.image now; size = made.call.size; sizes = made.call.sizes; plain = made.call.plain })).1 (first ∷ rest)
            (room_of d v (first ∷ rest) (length ssas) total many large (room sound)),
        memory_of d w (first ∷ rest) (length ssas) total many large kept,
      );
    })))

pub returns-else-code-eq1-clause-full : goal.returns-else-code-eq1-clause-full
returns-else-code-eq1-clause-full g c = if-err-map c.make_room_below.result (λ e full is sound some.
    (let d = c.args.dbd.now in
    let v = c.args.volume.now in
    let ssas : List Ssa = c.args.ssas.now in
    let rows : List Segment = rows_in d.types (codes_of ssas) c.args.area.now in
    let F = first_and_others d.types ssas c.args.area.now c.index-ssas-0.result c.code-code.result c.front.result.now c.requires.some c.index-ssas-0.is c.code-code.ensures c.front.ensures c.requires.long in
    let none = full is sound in
    no_rows_room d v rows (some sound).1.volume (let many : length rows ≡ length ssas = F.many in omega (arith, many, none.0))
    (λ hole. none.1 (subst (HasHole v) (sym c.sizes_of-total.ensures) hole))))
    c.make_room_below.ensures.full

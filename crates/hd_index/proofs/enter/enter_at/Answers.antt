use Rattle.std.proofs.Common.{◌≡◌, ◌<◌, ℕ, List, IsTrue, OnOk, length, sym, ap, ◌∙◌, subst, arith}
use Rattle.hd_volume.specs.Volumes.{VolumeState, IsFormatted, block_at}
use Rattle.hd_volume.specs.Entries.{Entry, entries_in}
use Rattle.hd_volume.specs.Indexes.{entry_room}
use Rattle.hd_index_blocks.specs.IndexSets.{next_in}
use Rattle.hd_index_blocks.specs.Needs.{needed_by}
use Rattle.hd_index.specs.EditedBlocks.{IsIndexBlock, with_entry_at}
use Rattle.hd_index.specs.Edits.{HasNewEntries, IsEntryAdded}
use Rattle.hd_index.proofs.CallLemmas.{on-ok-map}
use Rattle.hd_index.specs.Comings.{MayCome}
use Rattle.hd_index.proofs.Comings.{known-block, leaf-entered, leaf-room}
use Rattle.hd_index.proofs.enter.enter_at.Goals as goal

pub add_entry-requires-clause-formatted : goal.add_entry-requires-clause-formatted
add_entry-requires-clause-formatted g c =
    let F : VolumeState → Type 0 = λ v. IsTrue v.is_sound → IsFormatted v in
    subst F (sym c.note_end.ensures.same) (λ sound. (c.requires.index sound).formatted)

pub add_entry-requires-clause-block : goal.add_entry-requires-clause-block
add_entry-requires-clause-block g c =
    let k : ℕ = length c.args.key.now in
    let B : VolumeState → Type 0 = λ v. IsTrue v.is_sound → IsIndexBlock k v c.args.n in
    subst B (sym c.note_end.ensures.same) (λ sound. known-block k c.args.volume.now c.args.n (c.requires.index sound) (c.requires.block sound))

pub returns-then-gap-room-clause-changed : goal.returns-then-gap-room-clause-changed
returns-then-gap-room-clause-changed g c =
    let u = c.args.volume.now in
    let w = c.add_entry.new.volume in
    let key = c.args.key.now in
    let k : ℕ = length key in
    let n : ℕ = c.args.n in
    let e : Entry = record { key = key; address = c.args.address } in
    let E : ℕ → Type 0 = λ i. HasNewEntries k u n (with_entry_at i e (entries_in k (block_at u n))) (next_in u n) w in
    let A : VolumeState → Type 0 = λ v. OnOk c.add_entry.result (IsTrue v.is_sound → IsEntryAdded v n c.args.gap.index key c.args.address w) in
    on-ok-map c.add_entry.result
    (λ (added : IsTrue u.is_sound → IsEntryAdded u n c.args.gap.index key c.args.address w) (sound : IsTrue u.is_sound) (by : List ℕ) (m : MayCome k u key by 0 n) (none : needed_by k u by ≡ 0).
    leaf-entered k u w key by n c.args.address m (subst E (c.requires.place sound) (added sound)))
    (subst A c.note_end.ensures.same c.add_entry.ensures.added)

pub returns-clause-changed : goal.returns-clause-changed
returns-clause-changed g c sound by m none =
    let u = c.args.volume.now in
    let key = c.args.key.now in
    let k : ℕ = length key in
    let room : c.entry_room-room.result ≡ entry_room k u.size = c.entry_room-room.ensures.value ∙ ap (entry_room k) c.block_size.ensures.value in
    let less : c.args.gap.count < c.entry_room-room.result = leaf-room k u key by c.args.n c.args.gap.count c.entry_room-room.result m none (c.requires.count sound) room in
    let more = c.if-gap-room.false in
    absurd (omega arith)

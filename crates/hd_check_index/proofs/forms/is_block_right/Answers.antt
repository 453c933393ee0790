use Rattle.std.proofs.Common.{◌≡◌, ◌-◌, ℕ, suc, List, refl, ap, subst, ◌∙◌, arith}
use Rattle.hd_volume.specs.Volumes.{VolumeState, block_at}
use Rattle.hd_volume.specs.Entries.{entries_in}
use Rattle.hd_volume.specs.Indexes.{entry_room}
use Rattle.hd_index_blocks.specs.Levels.{named}
use Rattle.hd_check_index.specs.declared.table.NotedBlock.{NotedBlock}
use Rattle.hd_check_index.specs.NotedBlocks.{AreOfLevel, HasStray}
use Rattle.hd_check_index.proofs.BlockForms.{wrong-noted, wrong-names, right-form, count-fits}
use Rattle.hd_check_index.proofs.forms.is_block_right.Goals as goal

pub returns-then-not-is_noted_right-clause-wrong : goal.returns-then-not-is_noted_right-clause-wrong
returns-then-not-is_noted_right-clause-wrong g c = λ sound e.
    let v : VolumeState = c.args.volume.now in
    let k : ℕ = c.args.key_length in
    let h = c.requires.table sound in
    let room : c.entry_room-room.result ≡ entry_room k v.size = c.entry_room-room.ensures.value ∙ ap (λ (z : ℕ). entry_room k z) c.block_size.ensures.value in
    wrong-noted k v c.args.blocks.now c.args.block h (c.requires.noted sound) (c.if-not-is_noted_right.ensures.wrong refl k v h (c.requires.height sound) room)

pub returns-then-block-eq0-clause-right : goal.returns-then-block-eq0-clause-right
returns-then-block-eq0-clause-right g c = λ sound e.
    let v : VolumeState = c.args.volume.now in
    let k : ℕ = c.args.key_length in
    let h = c.requires.table sound in
    let room : c.entry_room-room.result ≡ entry_room k v.size = c.entry_room-room.ensures.value ∙ ap (λ (z : ℕ). entry_room k z) c.block_size.ensures.value in
    right-form k v c.args.blocks.now c.args.block h (c.requires.noted sound) (c.if-not-is_noted_right.ensures.right refl k v h (c.requires.height sound) room)
    (λ l up. (let z = c.if-block-eq0.true in absurd (omega arith)))

pub returns-clause-right : goal.returns-clause-right
returns-clause-right g c = λ sound e.
    let v : VolumeState = c.args.volume.now in
    let k : ℕ = c.args.key_length in
    let b : NotedBlock = c.args.block in
    let h = c.requires.table sound in
    let room : c.entry_room-room.result ≡ entry_room k v.size = c.entry_room-room.ensures.value ∙ ap (λ (z : ℕ). entry_room k z) c.block_size.ensures.value in
    let right = c.if-not-is_noted_right.ensures.right refl k v h (c.requires.height sound) room in
    let own : c.in_ok-bytes.bytes.now ≡ block_at v b.number = c.in_ok-bytes.ensures.value sound in
    let names = c.are_of_level.ensures.right e v h (count-fits k v c.args.blocks.now b h (c.requires.noted sound) right c.in_ok-bytes.bytes.now own) in
    right-form k v c.args.blocks.now b h (c.requires.noted sound) right
    (λ l up.
    (let step : b.level - 1 ≡ l = omega arith in
    subst (λ (x : ℕ). AreOfLevel v x (named (entries_in k (block_at v b.number)))) step (subst (λ (bytes : List ℕ). AreOfLevel v (b.level - 1) (named (entries_in k bytes))) own names)))

pub returns-clause-wrong : goal.returns-clause-wrong
returns-clause-wrong g c = λ sound e.
    let v : VolumeState = c.args.volume.now in
    let k : ℕ = c.args.key_length in
    let b : NotedBlock = c.args.block in
    let h = c.requires.table sound in
    let room : c.entry_room-room.result ≡ entry_room k v.size = c.entry_room-room.ensures.value ∙ ap (λ (z : ℕ). entry_room k z) c.block_size.ensures.value in
    let right = c.if-not-is_noted_right.ensures.right refl k v h (c.requires.height sound) room in
    let own : c.in_ok-bytes.bytes.now ≡ block_at v b.number = c.in_ok-bytes.ensures.value sound in
    let stray = c.are_of_level.ensures.wrong e v h (count-fits k v c.args.blocks.now b h (c.requires.noted sound) right c.in_ok-bytes.bytes.now own) in
    let up : b.level ≡ suc (b.level - 1) = (let some = c.if-block-eq0.false in omega arith) in
    wrong-names k v c.args.blocks.now b h (c.requires.noted sound) (b.level - 1) up (subst (λ (bytes : List ℕ). HasStray v (b.level - 1) (named (entries_in k bytes))) own stray)

use Rattle.std.proofs.Common.{◌≡◌, ℕ, ap, subst, arith}
use Rattle.hd_volume.specs.Indexes.{root_key_length}
use Rattle.hd_index_blocks.specs.Needs.{set_blocks_needed}
use Rattle.hd_index_blocks.proofs.Needs.{few-needed}
use Rattle.hd_index.specs.Rooms.{IsRefusedFor}
use Rattle.hd_index.proofs.Inserting.{if-err, insert-full, insert-memory}
use Rattle.hd_index.proofs.insertion.insert.Goals as goal

pub returns-clause-full : goal.returns-clause-full
returns-clause-full g c =
    let v = c.args.volume.now in
    if-err c.insert_key.result c.insert_key.ensures.refused
    (λ e r is sound.
    insert-full (root_key_length c.args.dbd.now.types) v c.args.key.now e (c.requires.index sound).index
    (subst (λ (k : ℕ). IsRefusedFor (set_blocks_needed k v c.args.key.now) v e) c.root_key_length-key_length.ensures.value (r sound)) is)

pub returns-clause-memory : goal.returns-clause-memory
returns-clause-memory g c =
    let v = c.args.volume.now in
    if-err c.insert_key.result c.insert_key.ensures.refused
    (λ e r is sound.
    (insert-memory (root_key_length c.args.dbd.now.types) v c.args.key.now e (c.requires.index sound).index
    (subst (λ (k : ℕ). IsRefusedFor (set_blocks_needed k v c.args.key.now) v e) c.root_key_length-key_length.ensures.value (r sound)) is).0)

pub returns-clause-few : goal.returns-clause-few
returns-clause-few g c =
    let v = c.args.volume.now in
    if-err c.insert_key.result c.insert_key.ensures.refused
    (λ e r is sound.
    (insert-memory (root_key_length c.args.dbd.now.types) v c.args.key.now e (c.requires.index sound).index
    (subst (λ (k : ℕ). IsRefusedFor (set_blocks_needed k v c.args.key.now) v e) c.root_key_length-key_length.ensures.value (r sound)) is).1)

pub returns-clause-room : goal.returns-clause-room
returns-clause-room g c sound now =
    let v = c.args.volume.now in
    let k = c.root_key_length-key_length.ensures.value in
    let most = few-needed (root_key_length c.args.dbd.now.types) v c.args.key.now (c.requires.index sound).index in
    let room = c.insert_key.ensures.room sound now in
    let same : set_blocks_needed c.root_key_length-key_length.result v c.args.key.now ≡ set_blocks_needed (root_key_length c.args.dbd.now.types) v c.args.key.now = ap (λ (i : ℕ). set_blocks_needed i v c.args.key.now) k in
    omega arith

use Rattle.std.proofs.Common.{◌≡◌, ◌≢◌, ℕ, true, false, IsTrue, sym, ◌∙◌}
use Rattle.std.proofs.lemmas.Bool.{not-true}
use Rattle.hd_volume.specs.Indexes.{entry_room}
use Rattle.hd_index_blocks.specs.IndexSets.{index_blocks}
use Rattle.hd_index_blocks.specs.Needs.{is_full}
use Rattle.hd_volume.proofs.JoinLemmas.{read-one}
use Rattle.hd_index.proofs.Searching.{set-same}
use Rattle.hd_index.proofs.Filling.{needed-same}
use Rattle.hd_index.proofs.Leaves.{leaf-order, leaf-needs}
use Rattle.hd_index.proofs.need.needed_at.Goals as goal

pub returns-then-room-clause-value : goal.returns-then-room-clause-value
returns-then-room-clause-value g c sound x =
    let v = c.args.volume.now in
    let k : ℕ = c.args.key_length in
    let known = c.requires.leaf sound x in
    let some : c.args.leaf ≢ 0 = λ e. (let f : false ≡ true = sym (c.in_ok-room.ensures.none e) ∙ c.if-room.true in cc) in
    let room = c.in_ok-room.ensures.value sound some (leaf-order k v c.args.by.now c.args.leaf x known some) in
    leaf-needs k v c.args.by.now c.args.leaf x known some (not-true (is_full (index_blocks k v) (entry_room k v.size) c.args.leaf) (sym room ∙ c.if-room.true))

pub returns-clause-value : goal.returns-clause-value
returns-clause-value g c sound x =
    let v = c.args.volume.now in
    let w = c.has_room.new.volume in
    let k : ℕ = c.args.key_length in
    let now : IsTrue w.is_sound = rw c.in_ok-room.ensures.read.call.sound sound in
    let one = read-one c.in_ok-room.ensures.read now in
    c.in_ok-needed.ensures.value now (set-same k v w one x).0 ∙ needed-same k v w c.args.by.now one

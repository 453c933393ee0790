use Rattle.std.proofs.Common.{◌-◌, ℕ, List, IsTrue, subst, arith}
use Rattle.hd_volume.specs.Entries.{Entry}
use Rattle.hd_index_blocks.specs.Maps.{with_entry}
use Rattle.hd_index_blocks.specs.IndexSets.{index_entries}
use Rattle.hd_index.specs.Changes.{IsChanged}
use Rattle.hd_index.proofs.Inserting.{on-ok, changed-join}
use Rattle.hd_index.proofs.insertion.enter_prepared.Goals as goal

pub returns-clause-changed : goal.returns-clause-changed
returns-clause-changed g c =
    let k : ℕ = c.args.key_length in
    let u = c.args.volume.now in
    let v = c.make_rooms.new.volume in
    let w = c.enter_one.new.volume in
    let e : Entry = record { key = c.args.key.now; address = c.args.address } in
    on-ok c.enter_one.result c.enter_one.ensures.changed
    (λ last sound.
    let now : IsTrue v.is_sound = rw c.in_ok-make_rooms.ensures.call.sound sound in
    let made = c.in_ok-make_rooms.ensures.changed sound in
    let three = c.requires.three in
    let some = c.if-needed-eq0.false in
    let C : List Entry → Type 0 = λ es. IsChanged k v (with_entry e es) 1 w in
    changed-join k u v w (index_entries k u) (with_entry e (index_entries k u)) (c.args.needed - 1) 1 c.args.needed (c.requires.index sound) (omega arith) (omega arith) made (subst C made.entries (last now)))

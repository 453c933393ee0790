use Rattle.std.proofs.Common.{ℕ, List, IsTrue, subst}
use Rattle.hd_volume.specs.Entries.{Entry}
use Rattle.hd_volume.proofs.JoinLemmas.{read-one}
use Rattle.hd_index_blocks.specs.Maps.{with_entry}
use Rattle.hd_index_blocks.specs.IndexSets.{index_entries}
use Rattle.hd_index.specs.Changes.{IsChanged}
use Rattle.hd_index.proofs.Searching.{set-same}
use Rattle.hd_index.proofs.Inserting.{on-ok}
use Rattle.hd_index.proofs.ReadSteps.{changed-before}
use Rattle.hd_index.proofs.insertion.enter_one.Goals as goal

pub enter_behind-requires-clause-index : goal.enter_behind-requires-clause-index
enter_behind-requires-clause-index g c now =
    let read = c.in_ok-above.ensures.read in
    let sound : IsTrue c.args.volume.now.is_sound = rw (← read.call.sound) now in
    (set-same c.args.key_length c.args.volume.now c.is_above_all.new.volume (read-one read now) (c.requires.index sound)).0

pub returns-then-above-clause-changed : goal.returns-then-above-clause-changed
returns-then-above-clause-changed g c =
    let k : ℕ = c.args.key_length in
    let u = c.args.volume.now in
    let v = c.is_above_all.new.volume in
    let w = c.enter_behind.new.volume in
    let read = c.in_ok-above.ensures.read in
    let e : Entry = record { key = c.args.key.now; address = c.args.address } in
    on-ok c.enter_behind.result c.enter_behind.ensures.changed
    (λ last sound.
    let now : IsTrue v.is_sound = rw read.call.sound sound in
    let one = read-one read now in
    let C : List Entry → Type 0 = λ es. IsChanged k u (with_entry e es) 1 w in
    subst C (set-same k u v one (c.requires.index sound)).1 (changed-before k u v w (with_entry e (index_entries k v)) 1 one (last now)))

pub divide_and_enter-requires-clause-index : goal.divide_and_enter-requires-clause-index
divide_and_enter-requires-clause-index g c now =
    let read = c.in_ok-above.ensures.read in
    let sound : IsTrue c.args.volume.now.is_sound = rw (← read.call.sound) now in
    (set-same c.args.key_length c.args.volume.now c.is_above_all.new.volume (read-one read now) (c.requires.index sound)).0

pub returns-clause-changed : goal.returns-clause-changed
returns-clause-changed g c =
    let k : ℕ = c.args.key_length in
    let u = c.args.volume.now in
    let v = c.is_above_all.new.volume in
    let w = c.divide_and_enter.new.volume in
    let read = c.in_ok-above.ensures.read in
    let e : Entry = record { key = c.args.key.now; address = c.args.address } in
    on-ok c.divide_and_enter.result c.divide_and_enter.ensures.changed
    (λ last sound.
    let now : IsTrue v.is_sound = rw read.call.sound sound in
    let one = read-one read now in
    let C : List Entry → Type 0 = λ es. IsChanged k u (with_entry e es) 1 w in
    subst C (set-same k u v one (c.requires.index sound)).1 (changed-before k u v w (with_entry e (index_entries k v)) 1 one (last now)))

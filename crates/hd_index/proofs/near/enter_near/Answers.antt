use Rattle.std.proofs.Common.{◌≡◌, ◌<◌, ℕ, List, IsTrue, length, take, sym, ap, subst, ◌∙◌, arith}
use Rattle.hd_volume.specs.Volumes.{VolumeState}
use Rattle.hd_volume.specs.Entries.{Entry}
use Rattle.hd_volume.proofs.JoinLemmas.{read-one}
use Rattle.hd_index_blocks.specs.Maps.{address_of, greatest_below}
use Rattle.hd_index_blocks.specs.IndexSets.{index_entries}
use Rattle.hd_index_blocks.specs.Needs.{needed_by, set_blocks_needed}
use Rattle.hd_index.specs.Edits.{IsEntryAdded}
use Rattle.hd_index.specs.Changes.{IsKeyEntered}
use Rattle.hd_index.proofs.CallLemmas.{on-ok-map}
use Rattle.hd_index.proofs.Searching.{set-same}
use Rattle.hd_index.proofs.Filling.{needed-same}
use Rattle.hd_index.proofs.Comings.{known-block, known-order}
use Rattle.hd_index.proofs.Nearness.{IsTold, near-entered, last-told, entered-before}
use Rattle.hd_index.proofs.near.enter_near.Goals as goal

pub add_entry-requires-clause-block : goal.add_entry-requires-clause-block
add_entry-requires-clause-block g c sound = known-block (length c.args.key.now) c.args.volume.now c.args.n (c.requires.index sound) (c.requires.near sound).0

pub add_entry-requires-clause-count : goal.add_entry-requires-clause-count
add_entry-requires-clause-count g c sound = sym (c.requires.near sound).1.count_is

pub returns-then-place-clause-changed : goal.returns-then-place-clause-changed
returns-then-place-clause-changed g c =
    let u = c.args.volume.now in
    let w = c.add_entry.new.volume in
    let key = c.args.key.now in
    let k : ℕ = length key in
    on-ok-map c.add_entry.result
    (λ (added : IsTrue u.is_sound → IsEntryAdded u c.args.n c.args.place.index key c.args.address w) (sound : IsTrue u.is_sound).
    near-entered k u w key c.args.n c.args.address c.args.place (c.requires.index sound) (c.requires.new sound) (c.requires.near sound) c.if-place.true c.requires.room (added sound))
    c.add_entry.ensures.added

pub enter_key-requires-clause-index : goal.enter_key-requires-clause-index
enter_key-requires-clause-index g c now =
    let read = c.in_ok-last_in.ensures.read in
    let sound : IsTrue c.args.volume.now.is_sound = rw (← read.call.sound) now in
    (set-same (length c.args.key.now) c.args.volume.now c.last_in.new.volume (read-one read now) (c.requires.index sound)).0

pub enter_key-requires-clause-new : goal.enter_key-requires-clause-new
enter_key-requires-clause-new g c now =
    let read = c.in_ok-last_in.ensures.read in
    let sound : IsTrue c.args.volume.now.is_sound = rw (← read.call.sound) now in
    ap (address_of c.args.key.now) (set-same (length c.args.key.now) c.args.volume.now c.last_in.new.volume (read-one read now) (c.requires.index sound)).1 ∙ c.requires.new sound

pub enter_key-requires-clause-by : goal.enter_key-requires-clause-by
enter_key-requires-clause-by g c now =
    let u = c.args.volume.now in
    let key = c.args.key.now in
    let k : ℕ = length key in
    let read = c.in_ok-last_in.ensures.read in
    let sound : IsTrue u.is_sound = rw (← read.call.sound) now in
    let x = c.requires.index sound in
    let near = c.requires.near sound in
    let end : c.args.place.index ≡ c.args.place.count = (let f = c.if-place.false in let w = c.requires.within in omega arith) in
    let told = last-told k u key c.args.n c.args.place c.in_ok-last_in.field-0 c.last_in.new.found x near end c.requires.room (c.in_ok-last_in.ensures.value sound (known-order k u c.args.n x near.0).0) in
    told.greatest ∙ ap (greatest_below key key) (sym (set-same k u c.last_in.new.volume (read-one read now) x).1)

pub enter_key-requires-clause-needed : goal.enter_key-requires-clause-needed
enter_key-requires-clause-needed g c now =
    let u = c.args.volume.now in
    let v = c.last_in.new.volume in
    let key = c.args.key.now in
    let k : ℕ = length key in
    let read = c.in_ok-last_in.ensures.read in
    let sound : IsTrue u.is_sound = rw (← read.call.sound) now in
    let x = c.requires.index sound in
    let near = c.requires.near sound in
    let end : c.args.place.index ≡ c.args.place.count = (let f = c.if-place.false in let w = c.requires.within in omega arith) in
    let told = last-told k u key c.args.n c.args.place c.in_ok-last_in.field-0 c.last_in.new.found x near end c.requires.room (c.in_ok-last_in.ensures.value sound (known-order k u c.args.n x near.0).0) in
    needed-same k u v (take k c.last_in.new.found) (read-one read now) ∙ ap (needed_by k u) told.greatest ∙ sym told.needed

pub returns-clause-changed : goal.returns-clause-changed
returns-clause-changed g c =
    let u = c.args.volume.now in
    let v = c.last_in.new.volume in
    let w = c.enter_key.new.volume in
    let key = c.args.key.now in
    let k : ℕ = length key in
    let read = c.in_ok-last_in.ensures.read in
    on-ok-map c.enter_key.result
    (λ (entered : IsTrue v.is_sound → IsKeyEntered k v key c.args.address 0 w) (sound : IsTrue u.is_sound).
    let now : IsTrue v.is_sound = rw read.call.sound sound in
    let one = read-one read now in
    let x = c.requires.index sound in
    let near = c.requires.near sound in
    let end : c.args.place.index ≡ c.args.place.count = (let f = c.if-place.false in let w = c.requires.within in omega arith) in
    let told = last-told k u key c.args.n c.args.place c.in_ok-last_in.field-0 c.last_in.new.found x near end c.requires.room (c.in_ok-last_in.ensures.value sound (known-order k u c.args.n x near.0).0) in
    let K : ℕ → Type 0 = λ i. IsKeyEntered k v key c.args.address i w in
    entered-before k u v w key (record { key = key; address = c.args.address }) x one (subst K (told.needed ∙ sym ((set-same k u v one x).3 key)) (entered now)))
    c.enter_key.ensures.changed

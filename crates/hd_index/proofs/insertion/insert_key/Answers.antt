use Rattle.std.proofs.Common.{◌≡◌, ℕ, List, Option, IsTrue, IfSome, length, None, sym, ap, subst, ◌∙◌, arith}
use Rattle.hd_volume.specs.Headers.{header_of}
use Rattle.hd_volume.specs.Entries.{Entry}
use Rattle.hd_volume.proofs.JoinLemmas.{read-one}
use Rattle.hd_index_blocks.specs.Maps.{address_of}
use Rattle.hd_index_blocks.specs.IndexSets.{index_entries, HasIndexSet}
use Rattle.hd_index.specs.declared.address.Place.{Place}
use Rattle.hd_index.specs.Nearness.{IsNear}
use Rattle.hd_index.specs.Changes.{IsKeyEntered}
use Rattle.hd_index_blocks.specs.Needs.{set_blocks_needed}
use Rattle.hd_index.proofs.Searching.{set-same}
use Rattle.hd_index.proofs.Inserting.{on-ok, if-err, first-refused}
use Rattle.hd_index.proofs.Nearness.{entered-before, near-same, refused-before}
use Rattle.hd_index.proofs.insertion.insert_key.Goals as goal

pub returns-then-top-eq0-clause-refused : goal.returns-then-top-eq0-clause-refused
returns-then-top-eq0-clause-refused g c =
    let v = c.args.volume.now in
    if-err c.insert_first.result c.insert_first.ensures.refused
    (λ e r sound.
    let f = (c.requires.index sound).formatted in
    let top : (header_of v.image).top ≡ 0 = (let t = c.top.ensures sound f.header.first in let z = c.if-top-eq0.true in omega arith) in
    first-refused c.args.key_length v c.insert_first.new.volume c.args.key.now e f sound top r)

pub insert_below-requires-clause-index : goal.insert_below-requires-clause-index
insert_below-requires-clause-index g c now =
    let read = c.in_ok-place.ensures.read in
    let sound : IsTrue c.args.volume.now.is_sound = rw (← read.call.sound) now in
    (set-same c.args.key_length c.args.volume.now c.near.new.volume (read-one read now) (c.requires.index sound)).0

pub insert_below-requires-clause-new : goal.insert_below-requires-clause-new
insert_below-requires-clause-new g c now =
    let read = c.in_ok-place.ensures.read in
    let sound : IsTrue c.args.volume.now.is_sound = rw (← read.call.sound) now in
    ap (address_of c.args.key.now) (set-same c.args.key_length c.args.volume.now c.near.new.volume (read-one read now) (c.requires.index sound)).1 ∙ c.requires.new sound

pub returns-in_default-clause-changed : goal.returns-in_default-clause-changed
returns-in_default-clause-changed g c =
    let u = c.args.volume.now in
    let v = c.near.new.volume in
    let read = c.in_ok-place.ensures.read in
    on-ok c.insert_below.result c.insert_below.ensures.changed
    (λ last sound.
    let now : IsTrue v.is_sound = rw read.call.sound sound in
    entered-before c.args.key_length u v c.insert_below.new.volume c.args.key.now (record { key = c.args.key.now; address = c.args.address }) (c.requires.index sound) (read-one read now) (last now))

pub returns-in_default-clause-refused : goal.returns-in_default-clause-refused
returns-in_default-clause-refused g c =
    let u = c.args.volume.now in
    let v = c.near.new.volume in
    let read = c.in_ok-place.ensures.read in
    if-err c.insert_below.result c.insert_below.ensures.refused
    (λ e r sound.
    let now : IsTrue v.is_sound = rw read.call.sound sound in
    refused-before c.args.key_length u v c.args.key.now e (c.requires.index sound) (read-one read now) read.room (r now))

pub enter_near-requires-clause-index : goal.enter_near-requires-clause-index
enter_near-requires-clause-index g c now =
    let u = c.args.volume.now in
    let v = c.near.new.volume in
    let read = c.in_ok-place.ensures.read in
    let sound : IsTrue u.is_sound = rw (← read.call.sound) now in
    let H : ℕ → Type 0 = λ i. HasIndexSet i v in
    subst H (sym c.requires.whole) (set-same c.args.key_length u v (read-one read now) (c.requires.index sound)).0

pub enter_near-requires-clause-new : goal.enter_near-requires-clause-new
enter_near-requires-clause-new g c now =
    let u = c.args.volume.now in
    let v = c.near.new.volume in
    let key = c.args.key.now in
    let read = c.in_ok-place.ensures.read in
    let sound : IsTrue u.is_sound = rw (← read.call.sound) now in
    let N : ℕ → Type 0 = λ i. address_of key (index_entries i v) ≡ None in
    subst N (sym c.requires.whole) (ap (address_of key) (set-same c.args.key_length u v (read-one read now) (c.requires.index sound)).1 ∙ c.requires.new sound)

pub enter_near-requires-clause-near : goal.enter_near-requires-clause-near
enter_near-requires-clause-near g c now =
    let u = c.args.volume.now in
    let v = c.near.new.volume in
    let key = c.args.key.now in
    let k : ℕ = length key in
    let read = c.in_ok-place.ensures.read in
    let sound : IsTrue u.is_sound = rw (← read.call.sound) now in
    let H : ℕ → Type 0 = λ i. HasIndexSet i u in
    let F : Option Place → Type 0 = λ found. IfSome found (λ place. IsTrue u.is_sound → HasIndexSet k u → IsNear k u key c.noted_block-noted.result place) in
    near-same k u v key c.noted_block-noted.result c.in-Some.place (read-one read now) (subst F c.in-Some.is c.in_ok-place.ensures.near sound (subst H (sym c.requires.whole) (c.requires.index sound)))

pub returns-clause-changed : goal.returns-clause-changed
returns-clause-changed g c =
    let u = c.args.volume.now in
    let v = c.near.new.volume in
    let w = c.enter_near.new.volume in
    let key = c.args.key.now in
    let read = c.in_ok-place.ensures.read in
    let K : ℕ → Type 0 = λ i. IsKeyEntered i v key c.args.address (set_blocks_needed i v key) w in
    on-ok c.enter_near.result c.enter_near.ensures.changed
    (λ last sound.
    let now : IsTrue v.is_sound = rw read.call.sound sound in
    entered-before c.args.key_length u v w key (record { key = key; address = c.args.address }) (c.requires.index sound) (read-one read now) (subst K c.requires.whole (last now)))

pub returns-in_default-clause-room : goal.returns-in_default-clause-room
returns-in_default-clause-room g c sound last =
    let u = c.args.volume.now in
    let v = c.near.new.volume in
    let read = c.in_ok-place.ensures.read in
    let now : IsTrue v.is_sound = rw read.call.sound sound in
    let room = c.insert_below.ensures.room now last in
    let kept : v.room ≡ u.room = read.room in
    let needed : set_blocks_needed c.args.key_length v c.args.key.now ≡ set_blocks_needed c.args.key_length u c.args.key.now = (set-same c.args.key_length u v (read-one read now) (c.requires.index sound)).3 c.args.key.now in
    omega arith

use Rattle.std.proofs.Common.{◌≡◌, ℕ, List, Option, IsTrue, IfSome, sym, ap, subst, ◌∙◌, arith}
use Rattle.hd_bytes.specs.Numbers.{number_at}
use Rattle.hd_volume.specs.Volumes.{block_at}
use Rattle.hd_volume.proofs.JoinLemmas.{read-one}
use Rattle.hd_index_blocks.specs.Maps.{without_key}
use Rattle.hd_index_blocks.specs.IndexSets.{index_entries, HasIndexSet}
use Rattle.hd_index.specs.declared.address.Place.{Place}
use Rattle.hd_index.specs.Edits.{IsEntryRemoved}
use Rattle.hd_index.specs.Nearness.{IsSpare}
use Rattle.hd_index.specs.Changes.{IsChanged}
use Rattle.hd_index.proofs.CallLemmas.{on-ok-map}
use Rattle.hd_index.proofs.Searching.{set-same}
use Rattle.hd_index.proofs.Comings.{known-block}
use Rattle.hd_index.proofs.Trims.{removed-read}
use Rattle.hd_index.proofs.Spares.{spare-same, spare-removed}
use Rattle.hd_index.proofs.leave.remove_key.Goals as goal

pub remove_down-requires-clause-index : goal.remove_down-requires-clause-index
remove_down-requires-clause-index g c now =
    let read = c.in_ok-place.ensures.read in
    let sound : IsTrue c.args.volume.now.is_sound = rw (← read.call.sound) now in
    (set-same c.args.key_length c.args.volume.now c.spare.new.volume (read-one read now) (c.requires.index sound)).0

pub returns-in_default-clause-changed : goal.returns-in_default-clause-changed
returns-in_default-clause-changed g c =
    let u = c.args.volume.now in
    let v = c.spare.new.volume in
    let w = c.remove_down.new.volume in
    let k : ℕ = c.args.key_length in
    let key = c.args.key.now in
    let read = c.in_ok-place.ensures.read in
    on-ok-map c.remove_down.result
    (λ (changed : IsTrue v.is_sound → IsChanged k v (without_key key (index_entries k v)) 0 w) (sound : IsTrue u.is_sound).
    let now : IsTrue v.is_sound = rw read.call.sound sound in
    removed-read k u v w key (read-one read now) (c.requires.index sound) (changed now))
    c.remove_down.ensures.changed

pub remove_entry-requires-clause-formatted : goal.remove_entry-requires-clause-formatted
remove_entry-requires-clause-formatted g c now =
    let read = c.in_ok-place.ensures.read in
    let sound : IsTrue c.args.volume.now.is_sound = rw (← read.call.sound) now in
    (set-same c.args.key_length c.args.volume.now c.spare.new.volume (read-one read now) (c.requires.index sound)).0.formatted

pub remove_entry-requires-clause-block : goal.remove_entry-requires-clause-block
remove_entry-requires-clause-block g c now =
    let u = c.args.volume.now in
    let v = c.spare.new.volume in
    let k : ℕ = c.args.key_length in
    let key = c.args.key.now in
    let n : ℕ = c.noted_block-noted.result in
    let read = c.in_ok-place.ensures.read in
    let sound : IsTrue u.is_sound = rw (← read.call.sound) now in
    let one = read-one read now in
    let x = c.requires.index sound in
    let F : Option Place → Type 0 = λ found. IfSome found (λ place. IsTrue u.is_sound → HasIndexSet k u → IsSpare k u key n place) in
    let h = spare-same k u v key n c.in-Some.place one (subst F c.in-Some.is c.in_ok-place.ensures.spare sound x) in
    known-block k v n (set-same k u v one x).0 h.0

pub remove_entry-requires-clause-count : goal.remove_entry-requires-clause-count
remove_entry-requires-clause-count g c now =
    let u = c.args.volume.now in
    let v = c.spare.new.volume in
    let k : ℕ = c.args.key_length in
    let key = c.args.key.now in
    let n : ℕ = c.noted_block-noted.result in
    let read = c.in_ok-place.ensures.read in
    let sound : IsTrue u.is_sound = rw (← read.call.sound) now in
    let F : Option Place → Type 0 = λ found. IfSome found (λ place. IsTrue u.is_sound → HasIndexSet k u → IsSpare k u key n place) in
    let h = spare-same k u v key n c.in-Some.place (read-one read now) (subst F c.in-Some.is c.in_ok-place.ensures.spare sound (c.requires.index sound)) in
    sym h.1.count_is

pub returns-clause-changed : goal.returns-clause-changed
returns-clause-changed g c =
    let u = c.args.volume.now in
    let v = c.spare.new.volume in
    let w = c.remove_entry.new.volume in
    let k : ℕ = c.args.key_length in
    let key = c.args.key.now in
    let n : ℕ = c.noted_block-noted.result in
    let read = c.in_ok-place.ensures.read in
    on-ok-map c.remove_entry.result
    (λ (removed : IsTrue v.is_sound → IsEntryRemoved k v n c.in-Some.place.index w) (sound : IsTrue u.is_sound).
    let now : IsTrue v.is_sound = rw read.call.sound sound in
    let one = read-one read now in
    let x = c.requires.index sound in
    let F : Option Place → Type 0 = λ found. IfSome found (λ place. IsTrue u.is_sound → HasIndexSet k u → IsSpare k u key n place) in
    let h = spare-same k u v key n c.in-Some.place one (subst F c.in-Some.is c.in_ok-place.ensures.spare sound x) in
    removed-read k u v w key one x (spare-removed k v w key n c.in-Some.place (set-same k u v one x).0 h (removed now)))
    c.remove_entry.ensures.taken

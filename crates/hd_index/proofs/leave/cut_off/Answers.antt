use Rattle.std.proofs.Common.{◌≡◌, ◌-◌, ℕ, suc, List, length, IsTrue, ap, subst, arith}
use Rattle.hd_volume.specs.Volumes.{block_at}
use Rattle.hd_volume.specs.Entries.{entries_in}
use Rattle.hd_volume.proofs.JoinLemmas.{read-one}
use Rattle.hd_index_blocks.specs.Maps.{without_key}
use Rattle.hd_index_blocks.specs.IndexSets.{index_blocks, index_entries}
use Rattle.hd_index.proofs.EditLemmas.{one-block-at}
use Rattle.hd_index.specs.Changes.{IsChanged}
use Rattle.hd_index.specs.Stands.{front_of}
use Rattle.hd_index.specs.Removals.{IsThinBelow, IsOnWayIn}
use Rattle.hd_index.proofs.Searching.{order-same}
use Rattle.hd_index.proofs.Forks.{on-stand, on-order}
use Rattle.hd_index.proofs.Drops.{removed-before}
use Rattle.hd_index.proofs.Trims.{fork-trimmed}
use Rattle.hd_index.proofs.leave.cut_off.Goals as goal

pub take_out-requires-clause-order : goal.take_out-requires-clause-order
take_out-requires-clause-order g c now =
    let u = c.args.volume.now in
    let v = c.step_down.new.volume in
    let k : ℕ = c.args.key_length in
    let read = c.in_ok-below.ensures.read in
    let sound : IsTrue u.is_sound = rw (← read.call.sound) now in
    let one = read-one read now in
    order-same k u v c.args.fork.stand.block one.same.size one.image (on-order k u c.args.key.now c.args.fork.level c.args.fork.stand (c.requires.index sound) (c.requires.stands sound))

pub drop_way-requires-clause-cut : goal.drop_way-requires-clause-cut
drop_way-requires-clause-cut g c last =
    let u = c.args.volume.now in
    let v = c.step_down.new.volume in
    let w = c.take_out.new.volume in
    let k : ℕ = c.args.key_length in
    let key = c.args.key.now in
    let n : ℕ = c.args.fork.stand.block in
    let read = c.in_ok-below.ensures.read in
    let now : IsTrue v.is_sound = rw (← c.in_ok-take_out.ensures.call.sound) last in
    let sound : IsTrue u.is_sound = rw (← read.call.sound) now in
    let one = read-one read now in
    let x = c.requires.index sound in
    let less : ℕ = c.args.fork.level - 1 in
    let up = c.requires.upper in
    let more : c.args.fork.level ≡ suc less = omega arith in
    let S : ℕ → Type 0 = λ l. IsOnWayIn k u key l c.args.fork.stand in
    let T : ℕ → Type 0 = λ l. IsThinBelow (index_blocks k u) key l n in
    let on = subst S more (c.requires.stands sound) in
    let taken = removed-before k u v w n (length (front_of key (entries_in k (block_at u n)))) (length (front_of key (entries_in k (block_at v n)))) one
    (ap (λ (b : List ℕ). length (front_of key (entries_in k b))) (one-block-at one n)) (c.in_ok-take_out.ensures.taken now) in
    let r = fork-trimmed k u w key less c.args.fork.stand c.in_ok-below.below x on (c.requires.more sound) (subst T more (c.requires.thin sound))
    (c.in_ok-below.ensures.below sound x less (on-stand k u key (suc less) c.args.fork.stand x on)) (c.requires.there sound) taken in
    (u, r.0, _, r.2)

pub returns-clause-changed : goal.returns-clause-changed
returns-clause-changed g c sound =
    let u = c.args.volume.now in
    let v = c.step_down.new.volume in
    let w = c.take_out.new.volume in
    let k : ℕ = c.args.key_length in
    let key = c.args.key.now in
    let n : ℕ = c.args.fork.stand.block in
    let read = c.in_ok-below.ensures.read in
    let now : IsTrue v.is_sound = rw read.call.sound sound in
    let last : IsTrue w.is_sound = rw c.in_ok-take_out.ensures.call.sound now in
    let one = read-one read now in
    let x = c.requires.index sound in
    let less : ℕ = c.args.fork.level - 1 in
    let up = c.requires.upper in
    let more : c.args.fork.level ≡ suc less = omega arith in
    let S : ℕ → Type 0 = λ l. IsOnWayIn k u key l c.args.fork.stand in
    let T : ℕ → Type 0 = λ l. IsThinBelow (index_blocks k u) key l n in
    let on = subst S more (c.requires.stands sound) in
    let taken = removed-before k u v w n (length (front_of key (entries_in k (block_at u n)))) (length (front_of key (entries_in k (block_at v n)))) one
    (ap (λ (b : List ℕ). length (front_of key (entries_in k b))) (one-block-at one n)) (c.in_ok-take_out.ensures.taken now) in
    let r = fork-trimmed k u w key less c.args.fork.stand c.in_ok-below.below x on (c.requires.more sound) (subst T more (c.requires.thin sound))
    (c.in_ok-below.ensures.below sound x less (on-stand k u key (suc less) c.args.fork.stand x on)) (c.requires.there sound) taken in
    let K : List ℕ → Type 0 = λ t. IsChanged k u (without_key t (index_entries k u)) 0 c.drop_way.new.volume in
    subst K r.1 (c.in_ok-drop_way.ensures.changed last u r.0 _ r.2)

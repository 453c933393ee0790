use Rattle.std.proofs.Common.{◌≡◌, ℕ, IsTrue, length, arith}
use Rattle.hd_bytes.specs.Numbers.{number_at}
use Rattle.hd_volume.specs.Volumes.{block_at}
use Rattle.hd_volume.specs.Entries.{entries_in}
use Rattle.hd_volume.proofs.JoinLemmas.{read-one}
use Rattle.hd_index_blocks.proofs.BlockLemmas.{length-entries}
use Rattle.hd_index.specs.Stands.{front_of}
use Rattle.hd_index.proofs.Fronts.{front-fewer}
use Rattle.hd_index.proofs.Drops.{removed-before}
use Rattle.hd_index.proofs.leave.take_out.Goals as goal

pub returns-then-spot-clause-taken : goal.returns-then-spot-clause-taken
returns-then-spot-clause-taken g c sound =
    let u = c.args.volume.now in
    let k : ℕ = c.args.key_length in
    let order = c.requires.order sound in
    let index = c.in_ok-spot.ensures.index sound order in
    let count = c.in_ok-spot.ensures.count sound order in
    let len : length (entries_in k (block_at u c.args.n)) ≡ number_at 2 (block_at u c.args.n) 4 = length-entries k (block_at u c.args.n) 12 (number_at 2 (block_at u c.args.n) 4) in
    let fewer = front-fewer c.args.key.now (entries_in k (block_at u c.args.n)) (c.requires.some sound) in
    let past = c.if-spot.true in
    absurd (omega arith)

pub returns-clause-taken : goal.returns-clause-taken
returns-clause-taken g c sound =
    let u = c.args.volume.now in
    let v = c.spot_at.new.volume in
    let w = c.remove_entry.new.volume in
    let k : ℕ = c.args.key_length in
    let order = c.requires.order sound in
    let read = c.in_ok-spot.ensures.read in
    let now : IsTrue v.is_sound = rw read.call.sound sound in
    removed-before k u v w c.args.n (length (front_of c.args.key.now (entries_in k (block_at u c.args.n)))) c.in_ok-spot.spot.index (read-one read now) (c.in_ok-spot.ensures.index sound order)
    (c.in_ok-remove_entry.ensures.taken now)

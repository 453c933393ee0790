use Rattle.std.proofs.Common.{◌≡◌, ℕ, IsTrue, length, sym, ap, ◌∙◌}
use Rattle.hd_bytes.specs.Numbers.{number_at}
use Rattle.hd_volume.specs.Volumes.{block_at}
use Rattle.hd_volume.specs.Entries.{entries_in}
use Rattle.hd_volume.proofs.JoinLemmas.{read-one, one-formatted, one-kind}
use Rattle.hd_index_blocks.proofs.BlockLemmas.{length-entries}
use Rattle.hd_index.proofs.EditLemmas.{one-block-at}
use Rattle.hd_index.proofs.Searching.{set-same}
use Rattle.hd_index.proofs.Comings.{known-order, known-block, step-come}
use Rattle.hd_index.proofs.enter.step_by.Goals as goal

pub raise-requires-clause-formatted : goal.raise-requires-clause-formatted
raise-requires-clause-formatted g c sound =
    let u = c.args.volume.now in
    let read = c.in_ok-turn.ensures.read in
    let was : IsTrue u.is_sound = rw (← read.call.sound) sound in
    one-formatted (read-one read sound) (c.requires.index was).formatted

pub raise-requires-clause-block : goal.raise-requires-clause-block
raise-requires-clause-block g c sound =
    let u = c.args.volume.now in
    let v = c.turn_at.new.volume in
    let k : ℕ = length c.args.key.now in
    let n : ℕ = c.args.n in
    let read = c.in_ok-turn.ensures.read in
    let was : IsTrue u.is_sound = rw (← read.call.sound) sound in
    let one = read-one read sound in
    known-block k v n (set-same k u v one (c.requires.index was)).0 (one-kind one 2 n (c.requires.block was))

pub raise-requires-clause-count : goal.raise-requires-clause-count
raise-requires-clause-count g c sound =
    let u = c.args.volume.now in
    let k : ℕ = length c.args.key.now in
    let n : ℕ = c.args.n in
    let read = c.in_ok-turn.ensures.read in
    let was : IsTrue u.is_sound = rw (← read.call.sound) sound in
    let order = known-order k u n (c.requires.index was) (c.requires.block was) in
    let t = c.in_ok-turn.ensures.turn was order.0 order.1 in
    let len : length (entries_in k (block_at u n)) ≡ number_at 2 (block_at u n) 4 = length-entries k (block_at u n) 12 (number_at 2 (block_at u n) 4) in
    ap (λ b. number_at 2 b 4) (one-block-at (read-one read sound) n) ∙ sym len ∙ sym t.count_is

pub returns-clause-come : goal.returns-clause-come
returns-clause-come g c sound l m =
    let u = c.args.volume.now in
    let v = c.turn_at.new.volume in
    let w = c.raise.new.volume in
    let key = c.args.key.now in
    let k : ℕ = length key in
    let n : ℕ = c.args.n in
    let read = c.in_ok-turn.ensures.read in
    let now : IsTrue v.is_sound = rw read.call.sound sound in
    let order = known-order k u n (c.requires.index sound) (c.requires.block sound) in
    let t = c.in_ok-turn.ensures.turn sound order.0 order.1 in
    step-come u v w key c.args.by.now l n c.in_ok-turn.turn (read-one read now) m t (c.in_ok-raise.ensures.raised now)

use Rattle.std.proofs.Common.{ℕ, subst}
use Rattle.hd_index.specs.Removals.{IsOnWayIn}
use Rattle.hd_index.proofs.Forks.{on-order, no-fork, some-fork}
use Rattle.hd_index.proofs.Trims.{leaf-trimmed}
use Rattle.hd_index.proofs.leave.remove_on.Goals as goal

pub clear-requires-clause-thin : goal.clear-requires-clause-thin
clear-requires-clause-thin g c sound =
    no-fork c.args.key_length c.args.volume.now c.args.key.now c.args.levels c.args.top c.args.way.fork (c.requires.index sound) (c.requires.way sound).fork c.if-way-eq0.true

pub take_out-requires-clause-order : goal.take_out-requires-clause-order
take_out-requires-clause-order g c sound =
    let k : ℕ = c.args.key_length in
    let u = c.args.volume.now in
    let f = some-fork k u c.args.key.now c.args.levels c.args.top c.args.way.fork (c.requires.way sound).fork (λ z. (let h = c.if-way-eq0.false in h z)) in
    on-order k u c.args.key.now c.args.way.fork.level c.args.way.fork.stand (c.requires.index sound) f.0

pub returns-then-way-eq0-2-clause-changed : goal.returns-then-way-eq0-2-clause-changed
returns-then-way-eq0-2-clause-changed g c sound =
    let k : ℕ = c.args.key_length in
    let u = c.args.volume.now in
    let key = c.args.key.now in
    let f = some-fork k u key c.args.levels c.args.top c.args.way.fork (c.requires.way sound).fork (λ z. (let h = c.if-way-eq0.false in h z)) in
    let S : ℕ → Type 0 = λ l. IsOnWayIn k u key l c.args.way.fork.stand in
    leaf-trimmed k u c.take_out.new.volume key c.args.way.fork.stand (c.requires.index sound) (subst S c.if-way-eq0-2.true f.0) f.1 (c.requires.there sound) (c.in_ok-take_out.ensures.taken sound)

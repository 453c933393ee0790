use Rattle.hd_volume.specs.Buffers.{IsTurned}
use Rattle.hd_volume.proofs.AsideLemmas.{other-turned}
use Rattle.hd_volume.proofs.slots.turn_to.Goals as goal

pub returns-clause-none : goal.returns-clause-none
returns-clause-none c other slots =
    let t : IsTurned c.args.n c.args.hand.now c.args.aside.now c.exchange-2.new.hand c.exchange-2.new.aside =
    record { between = c.exchange.new.hand; beside = c.exchange.new.aside; first = c.exchange.ensures; second = c.exchange-2.ensures } in
    (c.is_held.ensures.other other, other-turned t slots)

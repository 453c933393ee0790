use Rattle.std.proofs.Common.{arith}
use Rattle.hd_check_pointers.proofs.Arranging.{names-at}
use Rattle.hd_check_pointers.proofs.predecessors.name_their_places.Goals as goal

pub returns : goal.returns
returns c = λ _. names-at c.args.places.now c.args.namings.now c.requires (λ i l. c.loop-number.invariant i (omega (arith, c.loop-number-test.false)))

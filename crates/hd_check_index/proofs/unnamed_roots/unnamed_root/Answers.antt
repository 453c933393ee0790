use Rattle.std.proofs.Common.{arith}
use Rattle.hd_check_index.proofs.UnnamedRoots.{all-among, first-unnamed}
use Rattle.hd_check_index.proofs.unnamed_roots.unnamed_root.Goals as goal

pub returns-in-None-clause-some : goal.returns-in-None-clause-some
returns-in-None-clause-some c = λ up ascend.
    first-unnamed c.args.places.now c.args.named.now c.loop-place.place-index ascend c.loop-place-test.true c.if-place-eq1.true (c.in-None.ensures.wrong up) (c.loop-place.invariant up)

pub returns-clause-none : goal.returns-clause-none
returns-clause-none c = λ up.
    let end = c.loop-place-test.false in
    all-among c.args.places.now c.args.named.now (λ j low one. c.loop-place.invariant up j (omega arith) one)

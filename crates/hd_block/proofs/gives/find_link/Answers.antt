use Rattle.std.proofs.Common.{◌≢◌, inl, inr, refl, arith}
use Rattle.hd_block.specs.Found.{SeeksOffset}
use Rattle.hd_block.proofs.Walk.{begins, stands, passes-offset, passes-before, arrives}
use Rattle.hd_block.proofs.gives.find_link.Goals as goal

pub walk-init : goal.walk-init
walk-init c = record {
  link = omega arith;
  head = inr refl;
  end = (omega arith, omega arith);
  progress = λ sizes xs n h u. rw c.read_u16-next.ensures (begins sizes c.args.bytes.now (SeeksOffset c.args.offset n) xs h u);
}

pub walk-preserved : goal.walk-preserved
walk-preserved c =
    let some : c.walk.next ≢ 0 = λ z. omega (arith, c.walk.invariant.end) in
    record {
      link = omega arith;
      head = inl (omega (arith, c.walk.invariant.end));
      end = (omega arith, omega arith);
      progress = λ sizes xs n h u. rw c.read_u16-next-in-walk.ensures (passes-before (stands (c.walk.invariant.progress sizes xs n h u) (passes-offset c.args.offset n c.walk.next (omega arith)) some));
    }

pub returns-else-next-offset-clause-found : goal.returns-else-next-offset-clause-found
returns-else-next-offset-clause-found c sizes xs n h u =
    arrives (record { link = c.walk.link; next = c.walk.next }) (omega (arith, c.walk.invariant.end)) (c.walk.invariant.progress sizes xs n h u) (inr (omega arith))

pub returns-after-walk-clause-found : goal.returns-after-walk-clause-found
returns-after-walk-clause-found c sizes xs n h u =
    arrives (record { link = c.walk.link; next = c.walk.next }) (omega (arith, c.walk.invariant.end)) (c.walk.invariant.progress sizes xs n h u) (inl (omega arith))

use Rattle.std.proofs.Common.{◌≢◌, inl, inr, refl, arith}
use Rattle.hd_block.proofs.Walk.{begins, stands, passes-hole, passes-small, none-past, fill-within}
use Rattle.hd_block.specs.Found.{SeeksHole}
use Rattle.hd_block.proofs.holes.find_hole.Goals as goal

pub walk-init : goal.walk-init
walk-init c = record {
  link = omega arith;
  head = inr refl;
  end = omega arith;
  small = omega arith;
  progress = λ sizes xs h. rw c.read_u16-place.ensures (begins sizes c.args.bytes.now (SeeksHole c.args.size xs) xs h (refl, refl));
}

pub returns-then-size-len-clause-found : goal.returns-then-size-len-clause-found
returns-then-size-len-clause-found c sizes xs h =
    let some : c.walk.place ≢ 0 = λ z. omega (arith, c.walk.invariant.end) in
    record {
      end = c.walk.end;
      stands = rw c.read_u16-len.ensures (stands (c.walk.invariant.progress sizes xs h) (passes-hole c.args.size xs c.walk.place) some);
      next = c.read_u16-next.ensures;
      large = c.if-size-len.true;
      far = c.walk.invariant.end;
    }

pub walk-preserved : goal.walk-preserved
walk-preserved c =
    let some : c.walk.place ≢ 0 = λ z. omega (arith, c.walk.invariant.end) in
    record {
      link = omega arith;
      head = inl (omega (arith, c.walk.invariant.end));
      end = omega arith;
      small = omega arith;
      progress = λ sizes xs h. rw c.read_u16-next.ensures (passes-small (stands (c.walk.invariant.progress sizes xs h) (passes-hole c.args.size xs c.walk.place) some) (omega (arith, c.read_u16-len.ensures, c.if-size-len.false)));
    }

pub returns-else-place-bytes-clause-found : goal.returns-else-place-bytes-clause-found
returns-else-place-bytes-clause-found c sizes xs h =
    let some : c.walk.place ≢ 0 = λ z. omega (arith, c.walk.invariant.end) in
    let s = stands (c.walk.invariant.progress sizes xs h) (passes-hole c.args.size xs c.walk.place) some in
    let within = fill-within sizes c.args.bytes.now _ _ s.behind s.fill in
    let large = s.hole.element.some in
    absurd (omega arith)

pub returns-after-walk-clause-found : goal.returns-after-walk-clause-found
returns-after-walk-clause-found c sizes xs h = none-past c.args.size (c.walk.invariant.progress sizes xs h) (omega (arith, c.walk.invariant.end)) (omega arith)

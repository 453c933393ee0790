use Rattle.std.proofs.Common.{◌≡◌, ◌≢◌, inl, inr, ◌+◌, ◌-◌, ◌≤◌, length, max, arith, rules}
use Rattle.hd_bytes.specs.Numbers.{number_at}
use Rattle.hd_block.proofs.FreeParts.{none-free, free-behind}
use Rattle.hd_block.proofs.Walk.{begins, stands, passes-others, passes-free, all-seen, fill-within}
use Rattle.hd_block.specs.Found.{SeeksLargest}
use Rattle.hd_block.proofs.holes.largest_free.Goals as goal

pub walk-init : goal.walk-init
walk-init c = record {
  end = omega arith;
  small = omega arith;
  parts = λ sizes b least all. let first = all (length c.args.bytes.now - 8) 8 (omega arith) in rw (← c.read_u16-place.ensures) first;
  progress = λ sizes xs h. (0, rw c.read_u16-place.ensures (begins sizes c.args.bytes.now (SeeksLargest 0 xs) xs h (omega arith)));
}

pub walk-preserved : goal.walk-preserved
walk-preserved c =
    let some : c.walk.place ≢ 0 = λ z. omega (arith, c.walk.invariant.end) in
    record {
      end = omega arith;
      small = omega arith;
      parts = λ sizes b least all.
          let larger : c.max-largest.result ≡ max c.walk.largest (number_at 2 c.args.bytes.now (c.walk.place + 2)) = rw (← c.read_u16-len.ensures) (search rules) in
          let few : number_at 2 c.args.bytes.now (c.walk.place + 2) ≤ b = omega arith in
          c.walk.invariant.parts sizes b (omega arith)
          (free-behind sizes c.args.bytes.now b c.walk.end c.walk.place few (λ more q low. let found = all more q low in rw (← c.read_u16-next.ensures) found));
      progress = λ sizes xs h.
          let p = c.walk.invariant.progress sizes xs h in
          let larger : c.max-largest.result ≡ max c.walk.largest (number_at 2 c.args.bytes.now (c.walk.place + 2)) = rw (← c.read_u16-len.ensures) (search rules) in
          (c.walk.place, rw (c.read_u16-next.ensures, larger) (passes-free c.walk.largest (stands p.1 (passes-others c.walk.largest xs c.walk.place) some)));
    }

pub returns-else-place-bytes-clause-parts : goal.returns-else-place-bytes-clause-parts
returns-else-place-bytes-clause-parts c sizes =
    c.walk.invariant.parts sizes c.walk.largest (omega arith) (none-free sizes c.args.bytes.now c.walk.largest c.walk.end c.walk.place (inr (omega arith)))

pub returns-after-walk-clause-parts : goal.returns-after-walk-clause-parts
returns-after-walk-clause-parts c sizes =
    c.walk.invariant.parts sizes c.walk.largest (omega arith) (none-free sizes c.args.bytes.now c.walk.largest c.walk.end c.walk.place (inl (omega arith)))

pub returns-else-place-bytes-clause-largest : goal.returns-else-place-bytes-clause-largest
returns-else-place-bytes-clause-largest c sizes xs h =
    let some : c.walk.place ≢ 0 = λ z. omega (arith, c.walk.invariant.end) in
    let p = c.walk.invariant.progress sizes xs h in
    let s = stands p.1 (passes-others c.walk.largest xs c.walk.place) some in
    let within = fill-within sizes c.args.bytes.now _ _ s.behind s.fill in
    let large = s.hole.element.some in
    absurd (omega arith)

pub returns-after-walk-clause-largest : goal.returns-after-walk-clause-largest
returns-after-walk-clause-largest c sizes xs h =
    let p = c.walk.invariant.progress sizes xs h in
    all-seen p.1 (omega (arith, c.walk.invariant.end)) (omega arith)

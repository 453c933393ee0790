use Rattle.std.proofs.Common.{◌≡◌, ◌≢◌, ◌+◌, arith}
use Rattle.hd_bytes.specs.Numbers.{number_at}
use Rattle.hd_block.proofs.Walk.{begins, stands, passes-unsummed, passes-summed, all-summed, fill-within, free-within}
use Rattle.hd_block.specs.Parts.{free_bytes}
use Rattle.hd_block.specs.Found.{SumsFree}
use Rattle.hd_block.proofs.holes.free_bytes.Goals as goal

pub walk-init : goal.walk-init
walk-init c = record {
  end = omega arith;
  small = omega arith;
  progress = λ sizes xs h. (0, rw c.read_u16-place.ensures (begins sizes c.args.bytes.now (SumsFree 0 xs) xs h (omega arith)));
}

pub walk-preserved : goal.walk-preserved
walk-preserved c =
    let some : c.walk.place ≢ 0 = λ z. omega (arith, c.walk.invariant.end) in
    record {
      end = omega arith;
      small = omega arith;
      progress = λ sizes xs h.
          let p = c.walk.invariant.progress sizes xs h in
          let s = stands p.1 (passes-unsummed c.walk.total xs c.walk.place) some in
          let within = free-within sizes c.args.bytes.now 8 _ xs h in
          let keeps : free_bytes xs ≡ c.walk.total + (number_at 2 c.args.bytes.now (c.walk.place + 2) + free_bytes s.behind) = s.keeps in
          let len = c.read_u16-len.ensures in
          let small = c.requires.1 in
          let sum : c.saturating_add-total.result ≡ c.walk.total + number_at 2 c.args.bytes.now (c.walk.place + 2) = omega arith in
          (c.walk.place, rw (c.read_u16-next.ensures, sum) (passes-summed c.walk.total s));
    }

pub returns-else-place-bytes : goal.returns-else-place-bytes
returns-else-place-bytes c sizes xs h =
    let some : c.walk.place ≢ 0 = λ z. omega (arith, c.walk.invariant.end) in
    let p = c.walk.invariant.progress sizes xs h in
    let s = stands p.1 (passes-unsummed c.walk.total xs c.walk.place) some in
    let within = fill-within sizes c.args.bytes.now _ _ s.behind s.fill in
    let large = s.hole.element.some in
    absurd (omega arith)

pub returns-after-walk : goal.returns-after-walk
returns-after-walk c sizes xs h =
    let p = c.walk.invariant.progress sizes xs h in
    all-summed p.1 (omega (arith, c.walk.invariant.end)) (omega arith)

use Rattle.std.proofs.Common.{◌≡◌, ◌≤◌, ◌+◌, ◌-◌, ℕ, take, drop, sym, ap, ◌∙◌, arith}
use Rattle.std.specs.List.{list_all}
use Rattle.hd_deck.specs.Printing.{is_plain}
use Rattle.hd_deck.proofs.Plain.{plain_more, plain_fewer}
use Rattle.hd_deck.proofs.lines.are_blocks_plain.Goals as goal

pub loop-first-preserved : goal.loop-first-preserved
loop-first-preserved c =
    let before = c.loop-first.invariant in
    let first : ℕ = c.loop-first.first in
    let low : c.args.start ≤ first = before.0 in
    let block = ap (λ (n : ℕ). list_all is_plain (take n (drop first c.args.line.now))) (let e : 32 ≡ first + 32 - first = omega arith in e) ∙ sym c.are_plain.ensures.plain ∙ c.if-not-are_plain.false in
    (omega (arith, low), plain_more c.args.line.now c.args.start first low before.1 block)

pub returns : goal.returns
returns c same =
    let before = c.loop-first.invariant in
    plain_fewer (drop c.args.start c.args.line.now) (c.args.end - c.args.start) (c.loop-first.first - c.args.start) (omega (arith, c.loop-first-test.false)) before.1

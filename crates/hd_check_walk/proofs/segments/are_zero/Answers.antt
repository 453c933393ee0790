use Rattle.std.proofs.Common.{◌+◌, ◌*◌, sym, ◌∙◌, arith}
use Rattle.hd_bytes.proofs.BlockLemmas.{place-of}
use Rattle.hd_prefix.proofs.Childless.{zeros-more}
use Rattle.hd_check_walk.proofs.segments.are_zero.Goals as goal

pub loop-index-init : goal.loop-index-init
loop-index-init c = λ i low high. absurd (omega arith)

pub read_u32-requires : goal.read_u32-requires
read_u32-requires c =
    let fours = place-of 4 c.saturating_sub-length.result (omega arith) in
    let length = c.saturating_sub-length.ensures in
    let below = c.loop-index-test.true in
    let within = c.requires in
    omega arith

pub loop-index-preserved : goal.loop-index-preserved
loop-index-preserved c = λ i low high.
    zeros-more c.args.segment.now c.args.start (c.args.start + 4 * c.loop-index.index) c.loop-index.invariant (sym c.read_u32.ensures ∙ c.if-read_u32-ne0.false) i low (omega arith)

pub returns : goal.returns
returns c = λ yes i low high.
    let fours = place-of 4 c.saturating_sub-length.result (omega arith) in
    let length = c.saturating_sub-length.ensures in
    let past = c.loop-index-test.false in
    c.loop-index.invariant i low (omega arith)

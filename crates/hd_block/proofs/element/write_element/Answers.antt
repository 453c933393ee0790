use Rattle.std.proofs.Common.{◌+◌, ◌∙◌, arith}
use Rattle.hd_bytes.proofs.NumberLemmas.{halves-with, number-below}
use Rattle.hd_block.proofs.element.write_element.Goals as goal

pub returns-clause-next : goal.returns-clause-next
returns-clause-next c =
    number-below 2 c.args.place c.write_u32-2.ensures.changes (omega arith)
    ∙ rw c.write_u32.ensures.value (halves-with c.args.bytes.now c.from.result c.from-2.result c.args.place (omega arith) (omega (arith, c.from.ensures)) (omega (arith, c.from-2.ensures))).0
    ∙ c.from.ensures

pub returns-clause-len : goal.returns-clause-len
returns-clause-len c =
    number-below 2 (c.args.place + 2) c.write_u32-2.ensures.changes (omega arith)
    ∙ rw c.write_u32.ensures.value (halves-with c.args.bytes.now c.from.result c.from-2.result c.args.place (omega arith) (omega (arith, c.from.ensures)) (omega (arith, c.from-2.ensures))).1
    ∙ c.from-2.ensures

pub returns-clause-changes : goal.returns-clause-changes
returns-clause-changes c = record {
  len = c.write_u32-2.ensures.changes.len ∙ c.write_u32.ensures.changes.len;
  below = λ k h. c.write_u32-2.ensures.changes.below k (omega arith) ∙ c.write_u32.ensures.changes.below k h;
  above = λ k h. c.write_u32-2.ensures.changes.above k (omega arith) ∙ c.write_u32.ensures.changes.above k (omega arith);
}

use Rattle.std.proofs.Common.{◌&&◌, not, inl, inr, ◌+◌, Bool, None, drop, is_lt, sym, ap, ◌∙◌, arith}
use Rattle.hd_index_blocks.specs.LevelFaults.{first_entry}
use Rattle.hd_check_index.specs.EntryOrders.{is_below_least}
use Rattle.hd_check_index.proofs.EntryOrders.{bounds-judged, bounds-short, bounds-lowest}
use Rattle.hd_check_index.proofs.order.is_within.Goals as goal

pub returns-then-level-eq0 : goal.returns-then-level-eq0
returns-then-level-eq0 c = λ b fs e rest h is key. elim c.then-level-eq0.either [
  | inl z ↦ sym (bounds-lowest b c.args.level e (first_entry rest None) z)
  | inr past ↦ (let up = past.0 in absurd (bounds-short c.args.key_length b c.args.level fs c.args.below.now c.args.index e rest (omega arith) h is past.1))
]

pub returns-then-is_lt : goal.returns-then-is_lt
returns-then-is_lt c = λ b fs e rest h is key.
    let up = c.if-level-eq0.false in
    let least : Bool = is_below_least c.args.key_length c.args.key.now (drop (c.args.index + 1) c.args.below.now) in
    ap (λ (x : Bool). not x && least) (sym c.if-is_lt.true)
    ∙ bounds-judged c.args.key_length b c.args.level fs c.args.below.now c.args.index e rest _ c.args.key.now c.is_lt.result (omega arith) h is c.if-index-below.false key (c.is_lt.ensures ∙ ap is_lt c.compare_keys.ensures)

pub returns : goal.returns
returns c = λ b fs e rest h is key.
    let up = c.if-level-eq0.false in
    let least : Bool = is_below_least c.args.key_length c.args.key.now (drop (c.args.index + 1) c.args.below.now) in
    c.is_below_least.ensures
    ∙ ap (λ (x : Bool). not x && least) (sym c.if-is_lt.false)
    ∙ bounds-judged c.args.key_length b c.args.level fs c.args.below.now c.args.index e rest _ c.args.key.now c.is_lt.result (omega arith) h is c.if-index-below.false key (c.is_lt.ensures ∙ ap is_lt c.compare_keys.ensures)

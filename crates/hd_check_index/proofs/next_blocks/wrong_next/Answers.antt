use Rattle.std.proofs.Common.{◌≡◌, ◌+◌, ℕ, length, Option, sym, subst, arith}
use Rattle.hd_check_index.proofs.Followers.{IsLeastTo, least-past, least-more, standing-kind, next-found}
use Rattle.hd_check_index.proofs.next_blocks.wrong_next.Goals as goal
use Rattle.hd_check_index.proofs.next_blocks.wrong_next.Goals.{then-is_next_wrong, else-is_next_wrong}

pub loop-i-preserved : goal.loop-i-preserved
loop-i-preserved c = λ v table kinds.
    let rows = c.args.rows.now in
    let i : ℕ = c.loop-i.i in
    let L : Option ℕ → Type 0 = λ o. IsLeastTo v rows (i + 1) o in
    let before = c.loop-i.invariant v table kinds in
    elim c.if-is_next_wrong.branch [
      | then-is_next_wrong w ↦ subst L (sym w.found-is) (least-more v rows i c.loop-i.found w.lesser.result before (c.is_next_wrong.ensures.wrong w.if-is_next_wrong.true v table) w.lesser.ensures)
      | else-is_next_wrong w ↦
          subst L (sym w.found-is) (least-past v rows i c.loop-i.found before (λ wrong. wrong (c.is_next_wrong.ensures.right w.if-is_next_wrong.false v table (kinds i c.loop-i-test.true))))
    ]

pub returns : goal.returns
returns c = record {
  found = λ k v table right is.
      (let rows = c.args.rows.now in
      let end : c.loop-i.i ≡ length rows = (let high = c.loop-i-test.false in let low = c.loop-i.auto.i-end in omega arith) in
      let L : ℕ → Type 0 = λ i. IsLeastTo v rows i c.loop-i.found in
      next-found k v right rows is c.loop-i.found (subst L end (c.loop-i.invariant v table (standing-kind k v right rows is))));
}

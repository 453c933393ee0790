use Rattle.std.proofs.Common.{rules, ◌≡◌, ◌+◌, ℕ, List, Bool, length, take, true, slice_set, length-set, sym, ap, ◌∙◌, subst}
use Rattle.hd_check_index.specs.Standings.{numbers_of, AreMarks}
use Rattle.hd_check_index.proofs.Reached.{mark-more, mark-none}
use Rattle.hd_check_index.proofs.reach.mark_standing.Goals as goal
use Rattle.hd_check_index.proofs.reach.mark_standing.Goals.{in-Some, in_default}

pub loop-i-preserved : goal.loop-i-preserved
loop-i-preserved c =
    let i = c.loop-i.invariant in
    let bs = c.args.blocks.now in
    let rows = c.args.rows.now in
    let n : ℕ = c.loop-i.i in
    elim c.match-position_of.branch [
      | in-Some w ↦
          (let items : c.match-position_of.marks.items ≡ slice_set c.loop-i.marks.items w.in-Some.at true = search rules in
          let M : List Bool → Type 0 = λ ms. AreMarks bs (numbers_of (take (n + 1) rows)) ms in
          record {
            as_many = ap length items ∙ length-set c.loop-i.marks.items w.in-Some.at true ∙ i.as_many;
            marks_are = λ up. subst M (sym items) (mark-more bs up rows n c.loop-i-test.true c.loop-i.marks.items (i.marks_are up) i.as_many w.in-Some.at w.in-Some.ensures.some.0 w.in-Some.ensures.some.1);
          })
      | in_default w ↦
          (let items : c.match-position_of.marks.items ≡ c.loop-i.marks.items = search rules in
          let M : List Bool → Type 0 = λ ms. AreMarks bs (numbers_of (take (n + 1) rows)) ms in
          record {
            as_many = ap length items ∙ i.as_many;
            marks_are = λ up. subst M (sym items) (mark-none bs up rows n c.loop-i-test.true c.loop-i.marks.items (i.marks_are up) (w.in_default.ensures.none up));
          })
    ]

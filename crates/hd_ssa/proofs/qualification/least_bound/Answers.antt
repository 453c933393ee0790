use Rattle.std.proofs.Common.{◌≡◌, ℕ, suc, ◌+◌, ◌-◌, List, length, drop, arith, ◌∙◌, sym, ap, is_ok, true, false, Option, None}
use Rattle.std.specs.Prelude.{not, option_copied, option_map}
use Rattle.hd_calls.specs.Ssas.{read_groups}
use Rattle.hd_ssa.specs.Texts.{groups_within}
use Rattle.hd_ssa.specs.LeastKeys.{bound_of, greater_of, lesser_of, least_behind}
use Rattle.hd_ssa.proofs.Groups.{read_cut_fault, read_unconnected, bounds_close, bounds_and, bounds_or, copied_some, group_more, group_without, rest_ok, must_part, not_ok}
use Rattle.hd_ssa.proofs.qualification.least_bound.Goals as goal

pub returns-in-Err : goal.returns-in-Err
returns-in-Err c =
    let one : length c.args.text.now - c.loop-step.step ≡ suc (length c.args.text.now - (c.loop-step.step + 1)) = omega arith in
    let wrong : true ≡ false = not_ok _ _ (read_cut_fault c.args.segment.now _ _ c.loop-step.rest.now _ one (sym c.read.ensures ∙ c.in-Err.is)) c.loop-step.invariant.ok in
    cc

pub returns-then-closes : goal.returns-then-closes
returns-then-closes c =
    let one : length c.args.text.now - c.loop-step.step ≡ suc (length c.args.text.now - (c.loop-step.step + 1)) = omega arith in
    let least : Option (List ℕ) = option_copied c.loop-step.least in
    c.with_group.ensures
    ∙ ap (λ (o : Option (List ℕ)). option_map (λ b. lesser_of least b) o) c.with_comparison-bound.ensures
    ∙ sym (bounds_close c.args.segment.now _ _ c.loop-step.rest.now c.in-Ok.read c.args.key least (option_copied c.loop-step.bound) one (sym c.read.ensures ∙ c.in-Ok.is) (sym c.closes.ensures ∙ c.if-closes.true))
    ∙ c.loop-step.invariant.same

pub returns-then-not-connects : goal.returns-then-not-connects
returns-then-not-connects c =
    let one : length c.args.text.now - c.loop-step.step ≡ suc (length c.args.text.now - (c.loop-step.step + 1)) = omega arith in
    let wrong : true ≡ false = not_ok _ _ (read_unconnected c.args.segment.now _ _ c.loop-step.rest.now c.in-Ok.read one (sym c.read.ensures ∙ c.in-Ok.is) (sym c.closes.ensures ∙ c.if-closes.false) (sym c.connects.ensures ∙ c.if-not-connects.true)) c.loop-step.invariant.ok in
    cc

pub loop-step-preserved-then-joins : goal.loop-step-preserved-then-joins
loop-step-preserved-then-joins c =
    let t = c.args.segment.now in
    let m : ℕ = length c.args.text.now - (c.loop-step.step + 1) in
    let one : length c.args.text.now - c.loop-step.step ≡ suc m = omega arith in
    let least : Option (List ℕ) = option_copied c.loop-step.least in
    let cut = sym c.read.ensures ∙ c.in-Ok.is in
    let closes = sym c.closes.ensures ∙ c.if-closes.false in
    let connects = sym c.connects.ensures ∙ c.if-not-connects.false in
    record {
      ok = ap (λ (xs : List ℕ). is_ok (read_groups t m xs)) c.rest-rest.ensures ∙ sym (rest_ok t _ m c.loop-step.rest.now c.in-Ok.read one cut closes connects) ∙ c.loop-step.invariant.ok;
      same = ap (λ (xs : List ℕ). least_behind c.args.key least (option_copied c.with_comparison-bound.result) (groups_within t m xs)) c.rest-rest.ensures
          ∙ ap (λ (o : Option (List ℕ)). least_behind c.args.key least o (groups_within t m (drop 1 c.in-Ok.read.behind))) c.with_comparison-bound.ensures
          ∙ sym (bounds_and t _ m c.loop-step.rest.now c.in-Ok.read c.args.key least (option_copied c.loop-step.bound) one cut closes (sym c.joins.ensures ∙ c.if-joins.true))
          ∙ c.loop-step.invariant.same;
    }

pub returns-then-is_none : goal.returns-then-is_none
returns-then-is_none c =
    let t = c.args.segment.now in
    let m : ℕ = length c.args.text.now - (c.loop-step.step + 1) in
    let one : length c.args.text.now - c.loop-step.step ≡ suc m = omega arith in
    let least : Option (List ℕ) = option_copied c.loop-step.least in
    let bound : Option (List ℕ) = option_copied c.loop-step.bound in
    let cut = sym c.read.ensures ∙ c.in-Ok.is in
    let closes = sym c.closes.ensures ∙ c.if-closes.false in
    let connects = sym c.connects.ensures ∙ c.if-not-connects.false in
    let joins = sym c.joins.ensures ∙ c.if-joins.false in
    let rest_is = sym (rest_ok t _ m c.loop-step.rest.now c.in-Ok.read one cut closes connects) ∙ c.loop-step.invariant.ok in
    let none = copied_some c.with_group-least.result false (c.is_none.ensures ∙ ap not c.if-is_none.true) in
    sym (sym c.loop-step.invariant.same
    ∙ bounds_or t _ m c.loop-step.rest.now c.in-Ok.read c.args.key least bound one cut closes joins (must_part _ _ connects joins) rest_is
    ∙ group_without c.args.key least (greater_of bound (bound_of c.args.key c.in-Ok.read.comparison)) (option_copied c.with_group-least.result) (groups_within t m (drop 1 c.in-Ok.read.behind))
    (c.with_group-least.ensures ∙ ap (λ (o : Option (List ℕ)). option_map (λ b. lesser_of least b) o) c.with_comparison-bound.ensures) none)

pub loop-step-preserved : goal.loop-step-preserved
loop-step-preserved c =
    let t = c.args.segment.now in
    let m : ℕ = length c.args.text.now - (c.loop-step.step + 1) in
    let one : length c.args.text.now - c.loop-step.step ≡ suc m = omega arith in
    let least : Option (List ℕ) = option_copied c.loop-step.least in
    let bound : Option (List ℕ) = option_copied c.loop-step.bound in
    let cut = sym c.read.ensures ∙ c.in-Ok.is in
    let closes = sym c.closes.ensures ∙ c.if-closes.false in
    let connects = sym c.connects.ensures ∙ c.if-not-connects.false in
    let joins = sym c.joins.ensures ∙ c.if-joins.false in
    let rest_is = sym (rest_ok t _ m c.loop-step.rest.now c.in-Ok.read one cut closes connects) ∙ c.loop-step.invariant.ok in
    record {
      ok = ap (λ (xs : List ℕ). is_ok (read_groups t m xs)) c.rest-rest-in-loop-step.ensures ∙ rest_is;
      same = ap (λ (xs : List ℕ). least_behind c.args.key (option_copied c.with_group-least.result) None (groups_within t m xs)) c.rest-rest-in-loop-step.ensures
          ∙ group_more c.args.key least (greater_of bound (bound_of c.args.key c.in-Ok.read.comparison)) (option_copied c.with_group-least.result) (groups_within t m (drop 1 c.in-Ok.read.behind))
          (c.with_group-least.ensures ∙ ap (λ (o : Option (List ℕ)). option_map (λ b. lesser_of least b) o) c.with_comparison-bound.ensures)
          (copied_some c.with_group-least.result true (c.is_none.ensures ∙ ap not c.if-is_none.false))
          ∙ sym (bounds_or t _ m c.loop-step.rest.now c.in-Ok.read c.args.key least bound one cut closes joins (must_part _ _ connects joins) rest_is)
          ∙ c.loop-step.invariant.same;
    }

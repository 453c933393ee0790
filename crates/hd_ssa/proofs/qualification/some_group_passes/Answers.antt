use Rattle.std.proofs.Common.{◌≡◌, ℕ, suc, ◌+◌, ◌-◌, List, length, drop, arith, ◌∙◌, sym, ap, is_ok, Bool, true, false, ◌||◌}
use Rattle.hd_calls.specs.Ssas.{Comparison, read_groups}
use Rattle.hd_ssa.specs.Questions.{passes}
use Rattle.hd_ssa.specs.Texts.{passes_behind, groups_within}
use Rattle.hd_ssa.proofs.Groups.{read_cut_fault, read_unconnected, groups_close, groups_and, groups_or, rest_ok, must_part, not_ok}
use Rattle.hd_ssa.proofs.qualification.some_group_passes.Goals as goal

pub returns-in-Err : goal.returns-in-Err
returns-in-Err c =
    let one : length c.args.text.now - c.loop-step.step ≡ suc (length c.args.text.now - (c.loop-step.step + 1)) = omega arith in
    let wrong : true ≡ false = not_ok _ _ (read_cut_fault c.args.segment.now _ _ c.loop-step.rest.now _ one (sym c.read.ensures ∙ c.in-Err.is)) c.loop-step.invariant.ok in
    cc

pub returns-then-closes : goal.returns-then-closes
returns-then-closes c =
    let one : length c.args.text.now - c.loop-step.step ≡ suc (length c.args.text.now - (c.loop-step.step + 1)) = omega arith in
    c.is_passed-so_far.ensures
    ∙ sym (groups_close c.args.segment.now _ _ c.loop-step.rest.now c.in-Ok.read (passes c.args.question) c.loop-step.so_far one (sym c.read.ensures ∙ c.in-Ok.is) (sym c.closes.ensures ∙ c.if-closes.true))
    ∙ c.loop-step.invariant.same

pub returns-then-not-connects : goal.returns-then-not-connects
returns-then-not-connects c =
    let one : length c.args.text.now - c.loop-step.step ≡ suc (length c.args.text.now - (c.loop-step.step + 1)) = omega arith in
    let wrong : true ≡ false = not_ok _ _ (read_unconnected c.args.segment.now _ _ c.loop-step.rest.now c.in-Ok.read one (sym c.read.ensures ∙ c.in-Ok.is) (sym c.closes.ensures ∙ c.if-closes.false) (sym c.connects.ensures ∙ c.if-not-connects.true)) c.loop-step.invariant.ok in
    cc

pub loop-step-preserved-then-joins : goal.loop-step-preserved-then-joins
loop-step-preserved-then-joins c =
    let t = c.args.segment.now in
    let m : ℕ = length c.args.text.now - (c.loop-step.step + 1) in
    let one : length c.args.text.now - c.loop-step.step ≡ suc m = omega arith in
    let test : Comparison → Bool = passes c.args.question in
    let cut = sym c.read.ensures ∙ c.in-Ok.is in
    let closes = sym c.closes.ensures ∙ c.if-closes.false in
    let connects = sym c.connects.ensures ∙ c.if-not-connects.false in
    record {
      ok = ap (λ (xs : List ℕ). is_ok (read_groups t m xs)) c.rest-rest.ensures ∙ sym (rest_ok t _ m c.loop-step.rest.now c.in-Ok.read one cut closes connects) ∙ c.loop-step.invariant.ok;
      same = ap (λ (xs : List ℕ). passes_behind test c.is_passed-so_far.result (groups_within t m xs)) c.rest-rest.ensures
          ∙ ap (λ (b : Bool). passes_behind test b (groups_within t m (drop 1 c.in-Ok.read.behind))) c.is_passed-so_far.ensures
          ∙ sym (groups_and t _ m c.loop-step.rest.now c.in-Ok.read test c.loop-step.so_far one cut closes (sym c.joins.ensures ∙ c.if-joins.true))
          ∙ c.loop-step.invariant.same;
    }

pub returns-then-so_far : goal.returns-then-so_far
returns-then-so_far c =
    let t = c.args.segment.now in
    let m : ℕ = length c.args.text.now - (c.loop-step.step + 1) in
    let one : length c.args.text.now - c.loop-step.step ≡ suc m = omega arith in
    let test : Comparison → Bool = passes c.args.question in
    let cut = sym c.read.ensures ∙ c.in-Ok.is in
    let closes = sym c.closes.ensures ∙ c.if-closes.false in
    let connects = sym c.connects.ensures ∙ c.if-not-connects.false in
    let joins = sym c.joins.ensures ∙ c.if-joins.false in
    let rest_is = sym (rest_ok t _ m c.loop-step.rest.now c.in-Ok.read one cut closes connects) ∙ c.loop-step.invariant.ok in
    sym (sym c.loop-step.invariant.same
    ∙ groups_or t _ m c.loop-step.rest.now c.in-Ok.read test c.loop-step.so_far one cut closes joins (must_part _ _ connects joins) rest_is
    ∙ ap (λ (b : Bool). b || passes_behind test true (groups_within t m (drop 1 c.in-Ok.read.behind))) (sym c.is_passed-so_far.ensures ∙ c.if-so_far.true))

pub loop-step-preserved : goal.loop-step-preserved
loop-step-preserved c =
    let t = c.args.segment.now in
    let m : ℕ = length c.args.text.now - (c.loop-step.step + 1) in
    let one : length c.args.text.now - c.loop-step.step ≡ suc m = omega arith in
    let test : Comparison → Bool = passes c.args.question in
    let cut = sym c.read.ensures ∙ c.in-Ok.is in
    let closes = sym c.closes.ensures ∙ c.if-closes.false in
    let connects = sym c.connects.ensures ∙ c.if-not-connects.false in
    let joins = sym c.joins.ensures ∙ c.if-joins.false in
    let rest_is = sym (rest_ok t _ m c.loop-step.rest.now c.in-Ok.read one cut closes connects) ∙ c.loop-step.invariant.ok in
    record {
      ok = ap (λ (xs : List ℕ). is_ok (read_groups t m xs)) c.rest-rest-in-loop-step.ensures ∙ rest_is;
      same = ap (λ (xs : List ℕ). passes_behind test true (groups_within t m xs)) c.rest-rest-in-loop-step.ensures
          ∙ sym (groups_or t _ m c.loop-step.rest.now c.in-Ok.read test c.loop-step.so_far one cut closes joins (must_part _ _ connects joins) rest_is
          ∙ ap (λ (b : Bool). b || passes_behind test true (groups_within t m (drop 1 c.in-Ok.read.behind))) (sym c.is_passed-so_far.ensures ∙ c.if-so_far.false))
          ∙ c.loop-step.invariant.same;
    }

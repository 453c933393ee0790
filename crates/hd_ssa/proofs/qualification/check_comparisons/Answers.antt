use Rattle.std.proofs.Common.{◌≡◌, ℕ, suc, ◌+◌, ◌-◌, List, length, arith, ◌∙◌, sym, ap, is_ok}
use Rattle.hd_calls.specs.Ssas.{read_groups}
use Rattle.hd_ssa.proofs.Groups.{read_close, read_unconnected, read_cut_fault, rest_ok, rest_fault, ok_groups}
use Rattle.hd_ssa.proofs.qualification.check_comparisons.Goals as goal

pub returns-in-Err-clause-fault : goal.returns-in-Err-clause-fault
returns-in-Err-clause-fault c =
    let one : length c.args.text.now - c.loop-step.step ≡ suc (length c.args.text.now - (c.loop-step.step + 1)) = omega arith in
    c.loop-step.invariant.fault _ (read_cut_fault c.args.segment.now _ _ c.loop-step.rest.now _ one (sym c.read.ensures ∙ c.in-Err.is))

pub returns-then-closes-clause-ok : goal.returns-then-closes-clause-ok
returns-then-closes-clause-ok c =
    let one : length c.args.text.now - c.loop-step.step ≡ suc (length c.args.text.now - (c.loop-step.step + 1)) = omega arith in
    ok_groups c.args.segment.now c.args.text.now (c.loop-step.invariant.ok (ap is_ok (read_close c.args.segment.now _ _ c.loop-step.rest.now c.in-Ok.read one (sym c.read.ensures ∙ c.in-Ok.is) (sym c.closes.ensures ∙ c.if-closes.true))))

pub returns-then-not-connects-clause-fault : goal.returns-then-not-connects-clause-fault
returns-then-not-connects-clause-fault c =
    let one : length c.args.text.now - c.loop-step.step ≡ suc (length c.args.text.now - (c.loop-step.step + 1)) = omega arith in
    c.loop-step.invariant.fault _ (read_unconnected c.args.segment.now _ _ c.loop-step.rest.now c.in-Ok.read one (sym c.read.ensures ∙ c.in-Ok.is) (sym c.closes.ensures ∙ c.if-closes.false) (sym c.connects.ensures ∙ c.if-not-connects.true))

pub loop-step-preserved : goal.loop-step-preserved
loop-step-preserved c =
    let t = c.args.segment.now in
    let m : ℕ = length c.args.text.now - (c.loop-step.step + 1) in
    let one : length c.args.text.now - c.loop-step.step ≡ suc m = omega arith in
    let cut = sym c.read.ensures ∙ c.in-Ok.is in
    let closes = sym c.closes.ensures ∙ c.if-closes.false in
    let connects = sym c.connects.ensures ∙ c.if-not-connects.false in
    record {
      ok = λ h. c.loop-step.invariant.ok (rest_ok t _ m c.loop-step.rest.now c.in-Ok.read one cut closes connects ∙ ap (λ (xs : List ℕ). is_ok (read_groups t m xs)) (sym c.rest-rest.ensures) ∙ h);
      fault = λ e h. c.loop-step.invariant.fault e (rest_fault t _ m c.loop-step.rest.now c.in-Ok.read e one cut closes connects (ap (λ (xs : List ℕ). read_groups t m xs) (sym c.rest-rest.ensures) ∙ h));
    }

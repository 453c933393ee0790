use Rattle.std.proofs.Common.{◌≡◌, ◌-◌, length, is_ok, true, Err}
use Rattle.hd_dbd.specs.declared.answer.Status.{Status}
use Rattle.hd_calls.specs.Ssas.{read_groups, read_qualification}
use Rattle.hd_ssa.proofs.qualification.check_comparisons.Given as goal

-- the whole text is a qualification where the rest is, and has the rest's fault
abbrev pub invariant-loop-step : goal.invariant-loop-step
invariant-loop-step l = record {
  ok : is_ok (read_groups l.segment (length l.text - l.step) l.rest) ≡ true → is_ok (read_qualification l.segment l.text) ≡ true;
  fault : (e : Status) → read_groups l.segment (length l.text - l.step) l.rest ≡ Err e → read_qualification l.segment l.text ≡ Err e;
}

use Rattle.std.proofs.Common.{◌≡◌, ◌-◌, length, is_ok, true, None}
use Rattle.std.specs.Prelude.{option_copied}
use Rattle.hd_calls.specs.Ssas.{read_groups}
use Rattle.hd_ssa.specs.Texts.{groups_in, groups_within}
use Rattle.hd_ssa.specs.LeastKeys.{least_bound, least_behind}
use Rattle.hd_ssa.proofs.qualification.least_bound.Given as goal

-- the least bound so far, with the groups that are left, gives that of all
abbrev pub invariant-loop-step : goal.invariant-loop-step
invariant-loop-step l = record {
  ok : is_ok (read_groups l.segment (length l.text - l.step) l.rest) ≡ true;
  same : least_behind l.key (option_copied l.least) (option_copied l.bound) (groups_within l.segment (length l.text - l.step) l.rest)
      ≡ least_bound l.key None (groups_in l.segment l.text);
}

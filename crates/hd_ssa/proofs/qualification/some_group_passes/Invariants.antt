use Rattle.std.proofs.Common.{◌≡◌, ◌-◌, length, is_ok, true}
use Rattle.std.specs.List.{list_all, list_any}
use Rattle.hd_calls.specs.Ssas.{read_groups}
use Rattle.hd_ssa.specs.Questions.{passes}
use Rattle.hd_ssa.specs.Texts.{passes_behind, groups_in, groups_within}
use Rattle.hd_ssa.proofs.qualification.some_group_passes.Given as goal

-- the answer so far, with the groups that are left, gives that of all
abbrev pub invariant-loop-step : goal.invariant-loop-step
invariant-loop-step l = record {
  ok : is_ok (read_groups l.segment (length l.text - l.step) l.rest) ≡ true;
  same : passes_behind (passes l.question) l.so_far (groups_within l.segment (length l.text - l.step) l.rest)
      ≡ list_any (λ g. list_all (λ c. passes l.question c) g) (groups_in l.segment l.text);
}

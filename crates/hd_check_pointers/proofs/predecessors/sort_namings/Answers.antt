use Rattle.std.proofs.Common.{rules}
use Rattle.std.proofs.lemmas.List.Sorted.{answers_always, IsNonDecreasingBy-from_sort_by_key}
use Rattle.hd_check_pointers.proofs.predecessors.sort_namings.Goals as goal

pub returns-in-Ok-clause-sorted : goal.returns-in-Ok-clause-sorted
returns-in-Ok-clause-sorted c = IsNonDecreasingBy-from_sort_by_key (λ n. n.target) _ c.in-Ok.ensures.sorted (λ a r q k. search rules)

pub returns-in-Ok-clause-stable : goal.returns-in-Ok-clause-stable
returns-in-Ok-clause-stable c = c.sort_by_key.ensures.stable (λ n. n.target) (answers_always _ _ _ (λ f a r next called. search rules))

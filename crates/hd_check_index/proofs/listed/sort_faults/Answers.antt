use Rattle.std.proofs.Common.{rules, ◌+◌, inl, inr, slice_index_or, arith}
use Rattle.std.proofs.lemmas.Bool.{cases_eq}
use Rattle.std.proofs.lemmas.List.Sorted.{answers_always, IsNonDecreasingBy-from_sort_by_key, ties_still_rise, IsPermutation-trans}
use Rattle.hd_image.specs.Standing.{number_of}
use Rattle.hd_check_blocks.specs.declared.fault.Fault.{Fault}
use Rattle.hd_check_index.proofs.listed.sort_faults.Goals as goal

pub returns-clause-sorted : goal.returns-clause-sorted
returns-clause-sorted c = λ i d l.
    let up = IsNonDecreasingBy-from_sort_by_key (λ (f : Fault). f.address) _ c.in-Ok-sort_by_key.ensures.sorted (λ a r q k. search rules) i (i + 1) d (omega arith) l in
    let ties = ties_still_rise (λ (f : Fault). number_of f.line f.address) (λ (f : Fault). f.address) _ _
    (c.in-Ok.ensures.sorted (λ (f : Fault). number_of f.line f.address) (answers_always _ _ _ (λ f a r next called. search rules)))
    (c.sort_by_key-2.ensures.stable (λ (f : Fault). f.address) (answers_always _ _ _ (λ f a r next called. search rules))) i d l in
    elim (cases_eq (slice_index_or c.sort_by_key-2.new.self.items i d).address (slice_index_or c.sort_by_key-2.new.self.items (i + 1) d).address) [
      | inl same ↦ inr (same, ties same)
      | inr other ↦ inl (omega arith)
    ]

pub returns-clause-moved : goal.returns-clause-moved
returns-clause-moved c = IsPermutation-trans _ _ _ c.sort_by_key.ensures.permutation c.sort_by_key-2.ensures.permutation

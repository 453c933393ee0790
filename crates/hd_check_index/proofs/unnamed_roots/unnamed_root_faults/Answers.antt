use Rattle.std.proofs.Common.{◌≡◌, ℕ, List, sym, subst}
use Rattle.std.specs.List.Sorted.{IsPermutation, IsNonDecreasing}
use Rattle.std.proofs.lemmas.List.Sorted.{IsNonDecreasingBy-from_sort}
use Rattle.hd_check_index.proofs.unnamed_roots.unnamed_root_faults.Goals as goal

pub returns-clause-faults : goal.returns-clause-faults
returns-clause-faults c = λ d v places named.
    let s : List ℕ = c.sort_unstable.new.self.items in
    let view : c.deref.result.now ≡ s = c.deref.ensures.value in
    let up : IsNonDecreasing c.deref.result.now = subst (λ (xs : List ℕ). IsNonDecreasing xs) (sym view) (IsNonDecreasingBy-from_sort (λ x. x) s c.sort_unstable.ensures.sorted) in
    c.root_faults.ensures.faults up c.args.named.now.items d v places named (subst (λ (xs : List ℕ). IsPermutation c.args.named.now.items xs) (sym view) c.sort_unstable.ensures.permutation)

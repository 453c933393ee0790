use Rattle.std.proofs.Common.{◌≡◌, ℕ, List, sym, subst}
use Rattle.std.specs.List.Sorted.{IsPermutation, IsNonDecreasing}
use Rattle.std.proofs.lemmas.List.Sorted.{IsNonDecreasingBy-from_sort}
use Rattle.hd_check_index.specs.declared.noted_blocks.ChainedBlock.{ChainedBlock}
use Rattle.hd_check_index.specs.IndexPhases.{names_of}
use Rattle.hd_check_index.proofs.block_names.twice_named_faults.Goals as goal

pub returns-clause-faults : goal.returns-clause-faults
returns-clause-faults c = λ d v h top right of size.
    let bs : List ChainedBlock = c.args.blocks.now in
    let s : List ℕ = c.sort_unstable.new.self.items in
    let view : c.deref.result.now ≡ s = c.deref.ensures.value in
    let up : IsNonDecreasing s = IsNonDecreasingBy-from_sort (λ x. x) s c.sort_unstable.ensures.sorted in
    let moved : IsPermutation (names_of c.args.top bs) s = subst (λ (xs : List ℕ). IsPermutation xs s) c.in_ok-names.ensures.value c.sort_unstable.ensures.permutation in
    c.twice_faults.ensures.faults (subst (λ (xs : List ℕ). IsNonDecreasing xs) (sym view) up) c.args.top d v h top right of size (subst (λ (xs : List ℕ). IsPermutation (names_of c.args.top bs) xs) (sym view) moved)

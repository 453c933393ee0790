use Rattle.std.proofs.Common.{◌≡◌, ℕ, List, sym, subst}
use Rattle.std.specs.List.Sorted.{IsNonDecreasing}
use Rattle.std.proofs.lemmas.List.Sorted.{IsNonDecreasingBy-from_sort}
use Rattle.hd_check_blocks.specs.Phases.{IsLeastOf}
use Rattle.hd_check_index.specs.IndexPhases.{AreRootsAmong, IsFirstUnnamed}
use Rattle.hd_check_index.proofs.UnnamedRoots.{each-named, unnamed-least}
use Rattle.hd_check_index.proofs.unnamed_roots.unnamed_root_fault.Goals as goal

pub returns-in-None-clause-none : goal.returns-in-None-clause-none
returns-in-None-clause-none c = λ d v h n.
    let s : List ℕ = c.sort_unstable.new.self.items in
    let view : c.deref.result.now ≡ s = c.deref.ensures.value in
    let up : IsNonDecreasing c.deref.result.now = subst (λ (xs : List ℕ). IsNonDecreasing xs) (sym view) (IsNonDecreasingBy-from_sort (λ x. x) s c.sort_unstable.ensures.sorted) in
    each-named d v c.args.places.now c.args.named.now.items s h n c.sort_unstable.ensures.permutation (subst (λ (xs : List ℕ). AreRootsAmong c.args.places.now xs) view (c.in-None.ensures.none up))

pub returns-in-Some-clause-some : goal.returns-in-Some-clause-some
returns-in-Some-clause-some c = λ d v h n.
    let s : List ℕ = c.sort_unstable.new.self.items in
    let view : c.deref.result.now ≡ s = c.deref.ensures.value in
    let up : IsNonDecreasing c.deref.result.now = subst (λ (xs : List ℕ). IsNonDecreasing xs) (sym view) (IsNonDecreasingBy-from_sort (λ x. x) s c.sort_unstable.ensures.sorted) in
    subst (IsLeastOf d v 13) (sym c.at.ensures)
    (unnamed-least d v c.args.places.now c.args.named.now.items s h n c.sort_unstable.ensures.permutation c.in-Some.address
    (subst (λ (xs : List ℕ). IsFirstUnnamed c.args.places.now xs c.in-Some.address) view (c.in-Some.ensures.some up h.ascend)))

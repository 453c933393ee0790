use Rattle.std.proofs.Common.{◌≡◌, ◌*◌, ◌<◌, ℕ, List, sym, ap, subst, ◌∙◌}
use Rattle.std.specs.List.Sorted.{IsPermutation, IsNonDecreasing}
use Rattle.std.proofs.lemmas.List.Sorted.{IsNonDecreasingBy-from_sort, IsPermutation-sym}
use Rattle.hd_volume.specs.Indexes.{root_key_length}
use Rattle.hd_check_index.specs.declared.noted_blocks.ChainedBlock.{ChainedBlock}
use Rattle.hd_check_blocks.specs.Phases.{IsLeastOf}
use Rattle.hd_check_index.specs.Marks.{IsTwice}
use Rattle.hd_check_index.specs.IndexPhases.{names_of}
use Rattle.hd_check_index.proofs.FormFaults.{place-fits}
use Rattle.hd_check_index.proofs.TwiceNumbers.{twice-moved}
use Rattle.hd_check_index.proofs.TwiceNamed.{named-once, twice-kind, twice-least}
use Rattle.hd_check_index.proofs.block_names.twice_named_fault.Goals as goal
use Rattle.hd_image.specs.declared.line.Line.TheVariants.{NamedTwice}

pub returns-in-None-clause-none : goal.returns-in-None-clause-none
returns-in-None-clause-none c = λ d v h top right of.
    let bs : List ChainedBlock = c.args.blocks.now in
    let s : List ℕ = c.sort_unstable.new.self.items in
    let view : c.deref.result.now ≡ s = c.deref.ensures.value in
    let up : IsNonDecreasing s = IsNonDecreasingBy-from_sort (λ x. x) s c.sort_unstable.ensures.sorted in
    let moved : IsPermutation (names_of c.args.top bs) s = subst (λ (xs : List ℕ). IsPermutation xs s) c.in_ok-names.ensures.value c.sort_unstable.ensures.permutation in
    named-once v bs c.args.top h top
    (λ n some t. c.in-None.ensures.none (subst (λ (xs : List ℕ). IsNonDecreasing xs) (sym view) up) n some (subst (IsTwice n) (sym view) (twice-moved n (names_of c.args.top bs) s moved t)))

pub returns-clause-some : goal.returns-clause-some
returns-clause-some c = λ d v h top right of size.
    let bs : List ChainedBlock = c.args.blocks.now in
    let n : ℕ = c.in-Some.n in
    let s : List ℕ = c.sort_unstable.new.self.items in
    let view : c.deref.result.now ≡ s = c.deref.ensures.value in
    let up : IsNonDecreasing s = IsNonDecreasingBy-from_sort (λ x. x) s c.sort_unstable.ensures.sorted in
    let moved : IsPermutation (names_of c.args.top bs) s = subst (λ (xs : List ℕ). IsPermutation xs s) c.in_ok-names.ensures.value c.sort_unstable.ensures.permutation in
    let found = c.in-Some.ensures.some (subst (λ (xs : List ℕ). IsNonDecreasing xs) (sym view) up) in
    let twice : IsTwice n (names_of c.args.top bs) = twice-moved n s (names_of c.args.top bs) (IsPermutation-sym _ _ moved) (subst (IsTwice n) view found.1) in
    let kind = twice-kind v bs c.args.top h top (root_key_length d.types) n right found.0 twice in
    let same : n * c.args.size ≡ n * v.size = ap (λ (z : ℕ). n * z) size in
    let place : c.block_address.result ≡ n * v.size = c.block_address.ensures (subst (λ (x : ℕ). x < 4294967296) (sym same) (place-fits d v n of kind.there)) ∙ same in
    subst (IsLeastOf d v 9) (sym (c.at.ensures ∙ ap (λ (a : ℕ). record { line = NamedTwice; address = a; other = 0 }) place))
    (twice-least v bs c.args.top h top d n right found.0 twice
    (λ m some less t. found.2 m some less (subst (IsTwice m) (sym view) (twice-moved m (names_of c.args.top bs) s moved t))))

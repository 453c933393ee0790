use Rattle.std.proofs.Common.{◌≡◌, ℕ, List, sym, subst}
use Rattle.std.specs.List.Sorted.{IsPermutation, IsNonDecreasing}
use Rattle.std.proofs.lemmas.List.Sorted.{IsNonDecreasingBy-from_sort}
use Rattle.hd_volume.specs.Volumes.{VolumeState}
use Rattle.hd_check_index.specs.declared.table.NotedBlock.{NotedBlock}
use Rattle.hd_check_index.specs.NamedBlocks.{names_of}
use Rattle.hd_check_index.proofs.TwiceNamedBelow.{found-twice}
use Rattle.hd_check_index.proofs.names.twice_named.Goals as goal

pub returns-clause-found : goal.returns-clause-found
returns-clause-found g c = λ sound.
    let v : VolumeState = c.args.volume.now in
    let k : ℕ = c.args.key_length in
    let bs : List NotedBlock = c.args.blocks.now in
    let s : List ℕ = c.sort_unstable.new.self.items in
    let view : c.deref.result.now ≡ s = c.deref.ensures.value in
    let up : IsNonDecreasing s = IsNonDecreasingBy-from_sort (λ x. x) s c.sort_unstable.ensures.sorted in
    let moved : IsPermutation (names_of k v c.args.top bs) s = subst (λ (xs : List ℕ). IsPermutation xs s) (c.in_ok-names.ensures.value sound) c.sort_unstable.ensures.permutation in
    let there : IsNonDecreasing c.deref.result.now = subst (λ (xs : List ℕ). IsNonDecreasing xs) (sym view) up in
    found-twice k v bs c.args.top (c.requires.blocks sound) (c.requires.top sound) (c.requires.forms sound) c.deref.result.now
    (subst (λ (xs : List ℕ). IsPermutation (names_of k v c.args.top bs) xs) (sym view) moved) c.first_twice.result (c.first_twice.ensures.none there) (c.first_twice.ensures.some there)

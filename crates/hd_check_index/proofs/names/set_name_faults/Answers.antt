use Rattle.std.proofs.Common.{◌≡◌, ℕ, List, sym, subst, ap, ◌∙◌}
use Rattle.std.specs.List.Sorted.{IsPermutation, IsNonDecreasing}
use Rattle.std.proofs.lemmas.List.Sorted.{IsNonDecreasingBy-from_sort}
use Rattle.hd_dbd.specs.Hierarchy.{Database}
use Rattle.hd_volume.specs.Headers.{header_of}
use Rattle.hd_volume.specs.Volumes.{VolumeState}
use Rattle.hd_volume.specs.Indexes.{root_key_length}
use Rattle.hd_check_index.specs.declared.table.NotedBlock.{NotedBlock}
use Rattle.hd_check_index.specs.NamedBlocks.{names_of}
use Rattle.hd_check_blocks.specs.Listing.{AreStanding}
use Rattle.hd_check_index.proofs.PassedBlocks.{where-ok}
use Rattle.hd_check_index.proofs.names.set_name_faults.Goals as goal

pub returns-clause-faults : goal.returns-clause-faults
returns-clause-faults g c = where-ok (λ l. AreStanding c.args.dbd.now c.args.volume.now 9 l.items) c.twice_faults.result (λ sound.
    let d : Database = c.args.dbd.now in
    let v : VolumeState = c.args.volume.now in
    let k : ℕ = root_key_length d.types in
    let bs : List NotedBlock = c.args.blocks.now in
    let of = c.requires.of sound in
    let s : List ℕ = c.sort_unstable.new.self.items in
    let view : c.deref.result.now ≡ s = c.deref.ensures.value in
    let up : IsNonDecreasing s = IsNonDecreasingBy-from_sort (λ x. x) s c.sort_unstable.ensures.sorted in
    let top : c.top-top.result ≡ (header_of v.image).top = c.top-top.ensures sound of.formatted.header.first in
    let own : c.in_ok-names.names.items ≡ names_of k v (header_of v.image).top bs =
    c.in_ok-names.ensures.value sound ∙ ap (λ (y : ℕ). names_of y v c.top-top.result bs) c.root_key_length.ensures.value ∙ ap (λ (t : ℕ). names_of k v t bs) top in
    let moved : IsPermutation (names_of k v (header_of v.image).top bs) s = subst (λ (xs : List ℕ). IsPermutation xs s) own c.sort_unstable.ensures.permutation in
    c.twice_faults.ensures.faults (subst (λ (xs : List ℕ). IsNonDecreasing xs) (sym view) up) d v of (c.requires.later sound) (c.requires.blocks sound) (c.requires.forms sound) c.block_size-size.ensures.value
    (subst (λ (xs : List ℕ). IsPermutation (names_of k v (header_of v.image).top bs) xs) (sym view) moved))

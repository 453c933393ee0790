use Rattle.std.proofs.Common.{◌≡◌, ℕ, true, sym, ◌∙◌, arith}
use Rattle.std.specs.List.{list_all}
use Rattle.hd_dbd.specs.Hierarchy.{Database}
use Rattle.hd_volume.specs.Volumes.{VolumeState}
use Rattle.hd_volume.specs.Indexes.{root_key_length}
use Rattle.hd_volume.proofs.CallSteps.{read-ok}
use Rattle.hd_volume.proofs.PutLemmas.{if-none-map}
use Rattle.hd_index_blocks.specs.IndexSets.{index_entries}
use Rattle.hd_image.specs.Records.{links_of}
use Rattle.hd_image.specs.IndexFaults.{names_a_root}
use Rattle.hd_check_index.specs.IndexPhases.{AreNamed}
use Rattle.hd_check.specs.Joining.{NoneBefore, HasRightBlocks}
use Rattle.hd_check_pointers.proofs.RecordSteps.{from-none}
use Rattle.hd_check.proofs.EarlierFaults.{none-of-all, none-13}
use Rattle.hd_check.proofs.Joined.{found-here}
use Rattle.hd_check.proofs.phases.entries_fault.Goals as goal

pub returns-then-is_some-clause-some : goal.returns-then-is_some-clause-some
returns-then-is_some-clause-some g c = λ sound. found-here c.args.dbd.now c.args.volume.now 12 c.in_ok-found.found (c.requires.before sound) (c.in_ok-found.ensures.some sound)

pub returns-clause-read : goal.returns-clause-read
returns-clause-read g c = read-ok c.unnamed_root_fault.result c.in_ok-found.ensures.read

pub returns-clause-none : goal.returns-clause-none
returns-clause-none g c = λ sound.
    let d : Database = c.args.dbd.now in
    let v : VolumeState = c.args.volume.now in
    let k : ℕ = root_key_length d.types in
    let R : HasRightBlocks d v c.args.places.now = c.requires.right sound in
    let is-none = sym c.is_some.ensures ∙ c.if-is_some.false in
    let all : list_all (λ x. names_a_root d (links_of d.types v) x) (index_entries k v) ≡ true = from-none c.in_ok-found.found is-none (c.in_ok-found.ensures.none sound) in
    let named : AreNamed k v c.wrong_entry_fault.new.named.items = from-none c.in_ok-found.found is-none (c.in_ok-found.ensures.named sound) in
    if-none-map c.unnamed_root_fault.result (λ each. record { name = all; each = each }) (c.unnamed_root_fault.ensures.none d v R.stand named)

pub returns-clause-some : goal.returns-clause-some
returns-clause-some g c = λ sound.
    let d : Database = c.args.dbd.now in
    let v : VolumeState = c.args.volume.now in
    let k : ℕ = root_key_length d.types in
    let R : HasRightBlocks d v c.args.places.now = c.requires.right sound in
    let is-none = sym c.is_some.ensures ∙ c.if-is_some.false in
    let all : list_all (λ x. names_a_root d (links_of d.types v) x) (index_entries k v) ≡ true = from-none c.in_ok-found.found is-none (c.in_ok-found.ensures.none sound) in
    let named : AreNamed k v c.wrong_entry_fault.new.named.items = from-none c.in_ok-found.found is-none (c.in_ok-found.ensures.named sound) in
    let before : NoneBefore d v 12 = c.requires.before sound in
    found-here d v 13 c.unnamed_root_fault.result (none-of-all d v 12 13 (omega arith) before (none-13 d v (λ k a o high less s. before k a o less s) all))
    (c.unnamed_root_fault.ensures.some d v R.stand named)

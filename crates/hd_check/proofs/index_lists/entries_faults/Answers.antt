use Rattle.std.proofs.Common.{◌≡◌, ℕ, List, true, sym, subst, ◌∙◌, arith}
use Rattle.std.specs.List.{list_all}
use Rattle.hd_dbd.specs.Hierarchy.{Database}
use Rattle.hd_volume.specs.Volumes.{VolumeState}
use Rattle.hd_volume.specs.Indexes.{root_key_length}
use Rattle.hd_volume.proofs.CallSteps.{if-ok, read-ok, reads-join}
use Rattle.hd_index_blocks.specs.IndexSets.{index_entries}
use Rattle.hd_image.specs.Records.{links_of}
use Rattle.hd_image.specs.IndexFaults.{names_a_root}
use Rattle.hd_check_blocks.specs.declared.fault.Fault.{Fault}
use Rattle.hd_check_blocks.specs.Listing.{AreStanding}
use Rattle.hd_check_index.specs.IndexPhases.{AreNamed}
use Rattle.hd_check.specs.Joining.{HasRightBlocks}
use Rattle.hd_check_pointers.proofs.RecordSteps.{from-none}
use Rattle.hd_check.proofs.OneStore.{IsOne, right-same, sequence-same}
use Rattle.hd_check.proofs.EarlierFaults.{none-13}
use Rattle.hd_check.proofs.Joined.{still-sound, was-sound, read-one}
use Rattle.hd_check.proofs.IndexLists.{found-index, last-faults, roots-named}
use Rattle.hd_check.proofs.index_lists.entries_faults.Goals as goal

pub wrong_entry_faults-requires-clause-of : goal.wrong_entry_faults-requires-clause-of
wrong_entry_faults-requires-clause-of g c = λ now.
    let sound = was-sound c.in_ok-found.ensures.read now in
    (right-same c.args.volume.now c.wrong_entry_fault.new.volume (read-one c.in_ok-found.ensures.read sound) c.args.dbd.now c.args.places.now (c.requires.right sound)).volume

pub wrong_entry_faults-requires-clause-places : goal.wrong_entry_faults-requires-clause-places
wrong_entry_faults-requires-clause-places g c = λ now.
    let sound = was-sound c.in_ok-found.ensures.read now in
    (right-same c.args.volume.now c.wrong_entry_fault.new.volume (read-one c.in_ok-found.ensures.read sound) c.args.dbd.now c.args.places.now (c.requires.right sound)).stand

pub wrong_entry_faults-requires-clause-blocks : goal.wrong_entry_faults-requires-clause-blocks
wrong_entry_faults-requires-clause-blocks g c = λ now.
    let sound = was-sound c.in_ok-found.ensures.read now in
    sequence-same c.args.volume.now c.wrong_entry_fault.new.volume (read-one c.in_ok-found.ensures.read sound) (root_key_length c.args.dbd.now.types) c.args.sequence.now (c.requires.sequence sound)

pub returns-then-is_some-clause-read : goal.returns-then-is_some-clause-read
returns-then-is_some-clause-read g c = reads-join c.wrong_entry_faults.result c.in_ok-found.ensures.read c.wrong_entry_faults.ensures.read

pub returns-then-is_some-clause-faults : goal.returns-then-is_some-clause-faults
returns-then-is_some-clause-faults g c = if-ok c.wrong_entry_faults.result c.wrong_entry_faults.ensures.faults
    (λ l all sound.
    let v : VolumeState = c.args.volume.now in
    let w : VolumeState = c.wrong_entry_fault.new.volume in
    let e : IsOne v w = read-one c.in_ok-found.ensures.read sound in
    (found-index c.args.dbd.now v w 12 c.in_ok-found.found l.items e (omega arith) (c.requires.before sound) (sym c.is_some.ensures ∙ c.if-is_some.true) (c.in_ok-found.ensures.some sound)
    (all (still-sound c.in_ok-found.ensures.read sound))).0)

pub returns-then-is_some-clause-none : goal.returns-then-is_some-clause-none
returns-then-is_some-clause-none g c = if-ok c.wrong_entry_faults.result c.wrong_entry_faults.ensures.faults
    (λ l all sound empty.
    let v : VolumeState = c.args.volume.now in
    let w : VolumeState = c.wrong_entry_fault.new.volume in
    let e : IsOne v w = read-one c.in_ok-found.ensures.read sound in
    absurd ((found-index c.args.dbd.now v w 12 c.in_ok-found.found l.items e (omega arith) (c.requires.before sound) (sym c.is_some.ensures ∙ c.if-is_some.true) (c.in_ok-found.ensures.some sound)
    (all (still-sound c.in_ok-found.ensures.read sound))).1 empty))

pub returns-clause-read : goal.returns-clause-read
returns-clause-read g c = read-ok c.in_ok-faults.faults c.in_ok-found.ensures.read

pub returns-clause-faults : goal.returns-clause-faults
returns-clause-faults g c = λ sound.
    let d : Database = c.args.dbd.now in
    let v : VolumeState = c.args.volume.now in
    let k : ℕ = root_key_length d.types in
    let R : HasRightBlocks d v c.args.places.now = c.requires.right sound in
    let is-none = sym c.is_some.ensures ∙ c.if-is_some.false in
    let all : list_all (λ x. names_a_root d (links_of d.types v) x) (index_entries k v) ≡ true = from-none c.in_ok-found.found is-none (c.in_ok-found.ensures.none sound) in
    let named : AreNamed k v c.wrong_entry_fault.new.named.items = from-none c.in_ok-found.found is-none (c.in_ok-found.ensures.named sound) in
    last-faults d v c.in_ok-faults.faults.items (none-13 d v (c.requires.before sound) all) (c.in_ok-faults.ensures.faults d v R.stand named)

pub returns-clause-none : goal.returns-clause-none
returns-clause-none g c = λ sound empty.
    let d : Database = c.args.dbd.now in
    let v : VolumeState = c.args.volume.now in
    let k : ℕ = root_key_length d.types in
    let R : HasRightBlocks d v c.args.places.now = c.requires.right sound in
    let is-none = sym c.is_some.ensures ∙ c.if-is_some.false in
    let all : list_all (λ x. names_a_root d (links_of d.types v) x) (index_entries k v) ≡ true = from-none c.in_ok-found.found is-none (c.in_ok-found.ensures.none sound) in
    let named : AreNamed k v c.wrong_entry_fault.new.named.items = from-none c.in_ok-found.found is-none (c.in_ok-found.ensures.named sound) in
    let S : List Fault → Type 0 = λ fs. AreStanding d v 13 fs in
    record { name = all; each = roots-named d v (subst S empty (c.in_ok-faults.ensures.faults d v R.stand named)) }

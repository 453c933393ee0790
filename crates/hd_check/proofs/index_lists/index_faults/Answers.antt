use Rattle.std.proofs.Common.{◌≢◌, ℕ, List, [], Option, IfNone, IfSome, sym, subst}
use Rattle.std.specs.declared.alloc.Global.{Global}
use Rattle.std.specs.declared.vec.Vec.{Vec}
use Rattle.hd_dbd.specs.Hierarchy.{Database}
use Rattle.hd_volume.specs.Volumes.{VolumeState}
use Rattle.hd_volume.specs.Indexes.{root_key_length}
use Rattle.hd_volume.proofs.CallSteps.{if-ok}
use Rattle.hd_image.specs.Right.{IndexIsFormed, IndexIsInOrder}
use Rattle.hd_check_blocks.specs.declared.fault.Fault.{Fault}
use Rattle.hd_check_index.specs.IndexPhases.{IsSequence}
use Rattle.hd_check.specs.Joining.{HasRightBlocks}
use Rattle.hd_check.specs.Lists.{AreIndexFaults}
use Rattle.hd_check.proofs.OneStore.{IsOne, turned, right-same, sequence-same, names-right-same}
use Rattle.hd_check.proofs.LevelPhases.{index-12}
use Rattle.hd_check.proofs.Joined.{still-sound, was-sound, read-one}
use Rattle.hd_check.proofs.IndexLists.{none-of-index-same, index-faults-same}
use Rattle.hd_check.proofs.index_lists.index_faults.Goals as goal

pub index_blocks_faults-requires-clause-of : goal.index_blocks_faults-requires-clause-of
index_blocks_faults-requires-clause-of g c = λ sound. (c.requires.right sound).volume

pub entries_faults-requires-clause-right : goal.entries_faults-requires-clause-right
entries_faults-requires-clause-right g c = λ now.
    let sound = was-sound c.in_ok-index_blocks_faults.ensures.read now in
    right-same c.args.volume.now c.index_blocks_faults.new.volume (read-one c.in_ok-index_blocks_faults.ensures.read sound) c.args.dbd.now c.args.places.now (c.requires.right sound)

pub entries_faults-requires-clause-sequence : goal.entries_faults-requires-clause-sequence
entries_faults-requires-clause-sequence g c = λ now.
    let v : VolumeState = c.args.volume.now in
    let w : VolumeState = c.index_blocks_faults.new.volume in
    let k : ℕ = root_key_length c.args.dbd.now.types in
    let sound = was-sound c.in_ok-index_blocks_faults.ensures.read now in
    let N : Option (Vec Fault Global) → Type 0 = λ o. IfNone o (IsSequence k v c.index_blocks_faults.new.sequence.items) in
    let all : IsSequence k v c.index_blocks_faults.new.sequence.items = subst N c.in-None.is (c.in_ok-index_blocks_faults.ensures.sequence sound) in
    sequence-same v w (read-one c.in_ok-index_blocks_faults.ensures.read sound) k c.deref.result.now (subst (λ (l : List ℕ). IsSequence k v l) (sym c.deref.ensures.value) all)

pub entries_faults-requires-clause-before : goal.entries_faults-requires-clause-before
entries_faults-requires-clause-before g c = λ now.
    let d : Database = c.args.dbd.now in
    let v : VolumeState = c.args.volume.now in
    let w : VolumeState = c.index_blocks_faults.new.volume in
    let k : ℕ = root_key_length d.types in
    let sound = was-sound c.in_ok-index_blocks_faults.ensures.read now in
    let R : HasRightBlocks d v c.args.places.now = c.requires.right sound in
    let N : Option (Vec Fault Global) → Type 0 = λ o. IfNone o (IndexIsFormed k v × IndexIsInOrder k v) in
    let index : IndexIsFormed k v × IndexIsInOrder k v = subst N c.in-None.is (c.in_ok-index_blocks_faults.ensures.none sound) in
    none-of-index-same v w (read-one c.in_ok-index_blocks_faults.ensures.read sound) d 12 (index-12 d v R.volume index.0 index.1)

pub returns-in-None-clause-faults : goal.returns-in-None-clause-faults
returns-in-None-clause-faults g c = if-ok c.entries_faults.result c.entries_faults.ensures.faults
    (λ l all sound.
    let v : VolumeState = c.args.volume.now in
    let w : VolumeState = c.index_blocks_faults.new.volume in
    let e : IsOne w v = turned (read-one c.in_ok-index_blocks_faults.ensures.read sound) in
    index-faults-same w v e c.args.dbd.now l.items (all (still-sound c.in_ok-index_blocks_faults.ensures.read sound)))

pub returns-in-None-clause-none : goal.returns-in-None-clause-none
returns-in-None-clause-none g c = if-ok c.entries_faults.result c.entries_faults.ensures.none
    (λ l names sound empty.
    let d : Database = c.args.dbd.now in
    let v : VolumeState = c.args.volume.now in
    let w : VolumeState = c.index_blocks_faults.new.volume in
    let k : ℕ = root_key_length d.types in
    let e : IsOne w v = turned (read-one c.in_ok-index_blocks_faults.ensures.read sound) in
    let N : Option (Vec Fault Global) → Type 0 = λ o. IfNone o (IndexIsFormed k v × IndexIsInOrder k v) in
    let index : IndexIsFormed k v × IndexIsInOrder k v = subst N c.in-None.is (c.in_ok-index_blocks_faults.ensures.none sound) in
    let own = names-right-same w v e d (names (still-sound c.in_ok-index_blocks_faults.ensures.read sound) empty) in
    (index.0, record { order = index.1; name = own.name; each = own.each }))

pub returns-clause-faults : goal.returns-clause-faults
returns-clause-faults g c = λ sound.
    let S : Option (Vec Fault Global) → Type 0 = λ o. IfSome o (λ l. AreIndexFaults c.args.dbd.now c.args.volume.now l.items × (l.items ≢ [])) in
    (subst S c.in-Some.is (c.in_ok-index_blocks_faults.ensures.some sound)).0

pub returns-clause-none : goal.returns-clause-none
returns-clause-none g c = λ sound empty.
    let S : Option (Vec Fault Global) → Type 0 = λ o. IfSome o (λ l. AreIndexFaults c.args.dbd.now c.args.volume.now l.items × (l.items ≢ [])) in
    absurd ((subst S c.in-Some.is (c.in_ok-index_blocks_faults.ensures.some sound)).1 empty)

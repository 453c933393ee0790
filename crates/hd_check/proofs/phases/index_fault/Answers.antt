use Rattle.std.proofs.Common.{ℕ, List, sym, subst, ◌∙◌, arith}
use Rattle.hd_dbd.specs.Hierarchy.{Database}
use Rattle.hd_volume.specs.Volumes.{VolumeState}
use Rattle.hd_volume.specs.Indexes.{root_key_length}
use Rattle.hd_volume.proofs.CallSteps.{if-ok}
use Rattle.hd_volume.proofs.PutLemmas.{if-none-map}
use Rattle.hd_check_index.specs.IndexPhases.{IsSequence}
use Rattle.hd_check.specs.Joining.{HasRightBlocks}
use Rattle.hd_check_pointers.proofs.RecordSteps.{from-none}
use Rattle.hd_check.proofs.OneStore.{IsOne, turned, right-same, sequence-same, names-right-same}
use Rattle.hd_check.proofs.EarlierFaults.{none-of-all}
use Rattle.hd_check.proofs.LevelPhases.{index-12}
use Rattle.hd_check.proofs.Joined.{still-sound, was-sound, read-one, firsts-same, none-same}
use Rattle.hd_check.proofs.phases.index_fault.Goals as goal

pub index_blocks_fault-requires-clause-of : goal.index_blocks_fault-requires-clause-of
index_blocks_fault-requires-clause-of g c = λ sound. (c.requires.right sound).volume

pub entries_fault-requires-clause-right : goal.entries_fault-requires-clause-right
entries_fault-requires-clause-right g c = λ now.
    let sound = was-sound c.in_ok-found.ensures.read now in
    right-same c.args.volume.now c.index_blocks_fault.new.volume (read-one c.in_ok-found.ensures.read sound) c.args.dbd.now c.args.places.now (c.requires.right sound)

pub entries_fault-requires-clause-sequence : goal.entries_fault-requires-clause-sequence
entries_fault-requires-clause-sequence g c = λ now.
    let v : VolumeState = c.args.volume.now in
    let w : VolumeState = c.index_blocks_fault.new.volume in
    let k : ℕ = root_key_length c.args.dbd.now.types in
    let sound = was-sound c.in_ok-found.ensures.read now in
    let all : IsSequence k v c.index_blocks_fault.new.sequence.items = from-none c.in_ok-found.found (sym c.is_some.ensures ∙ c.if-is_some.false) (c.in_ok-found.ensures.sequence sound) in
    sequence-same v w (read-one c.in_ok-found.ensures.read sound) k c.deref.result.now (subst (λ (l : List ℕ). IsSequence k v l) (sym c.deref.ensures.value) all)

pub entries_fault-requires-clause-before : goal.entries_fault-requires-clause-before
entries_fault-requires-clause-before g c = λ now.
    let d : Database = c.args.dbd.now in
    let v : VolumeState = c.args.volume.now in
    let w : VolumeState = c.index_blocks_fault.new.volume in
    let sound = was-sound c.in_ok-found.ensures.read now in
    let R : HasRightBlocks d v c.args.places.now = c.requires.right sound in
    let index = from-none c.in_ok-found.found (sym c.is_some.ensures ∙ c.if-is_some.false) (c.in_ok-found.ensures.none sound) in
    none-same d 12 v w (read-one c.in_ok-found.ensures.read sound) (none-of-all d v 8 12 (omega arith) (c.requires.before sound) (index-12 d v R.volume index.0 index.1))

pub returns-clause-none : goal.returns-clause-none
returns-clause-none g c = if-ok c.entries_fault.result c.entries_fault.ensures.none
    (λ o none sound.
    let d : Database = c.args.dbd.now in
    let v : VolumeState = c.args.volume.now in
    let w : VolumeState = c.index_blocks_fault.new.volume in
    let e : IsOne v w = read-one c.in_ok-found.ensures.read sound in
    let index = from-none c.in_ok-found.found (sym c.is_some.ensures ∙ c.if-is_some.false) (c.in_ok-found.ensures.none sound) in
    if-none-map o (λ names. (let own = names-right-same w v (turned e) d names in (index.0, record { order = index.1; name = own.name; each = own.each }))) (none (still-sound c.in_ok-found.ensures.read sound)))

pub returns-clause-some : goal.returns-clause-some
returns-clause-some g c = if-ok c.entries_fault.result c.entries_fault.ensures.some
    (λ o some sound.
    firsts-same c.args.dbd.now c.args.volume.now c.index_blocks_fault.new.volume o (read-one c.in_ok-found.ensures.read sound) (some (still-sound c.in_ok-found.ensures.read sound)))

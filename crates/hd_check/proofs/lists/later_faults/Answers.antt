use Rattle.std.proofs.Common.{◌<◌, Ok, ℕ, List, Option, IfNone, IfSome, sym, subst}
use Rattle.std.specs.declared.alloc.Global.{Global}
use Rattle.std.specs.declared.vec.Vec.{Vec}
use Rattle.hd_dbd.specs.Hierarchy.{Database}
use Rattle.hd_volume.specs.Volumes.{VolumeState}
use Rattle.hd_volume.specs.Indexes.{root_key_length}
use Rattle.hd_volume.proofs.CallSteps.{read-ok, reads-join}
use Rattle.hd_links.specs.Pointers.{AreLinked}
use Rattle.hd_image.specs.Records.{links_of}
use Rattle.hd_image.specs.Standing.{phase_of}
use Rattle.hd_check_blocks.specs.declared.fault.Fault.{Fault}
use Rattle.hd_check.specs.Lists.{BeginsWith, AreFirstFaults, AreFaultsOf, AreIndexFaults, AreFaultsBehind}
use Rattle.hd_check.proofs.OneStore.{IsOne, turned, right-same, formed-same, entries-same}
use Rattle.hd_check.proofs.Joined.{still-sound, was-sound, read-one}
use Rattle.hd_check.proofs.FirstFaults.{faults-of}
use Rattle.hd_check.proofs.IndexLists.{index-faults-same}
use Rattle.hd_check.proofs.Behind.{index-alone, none-behind-index, index-behind}
use Rattle.hd_check.proofs.lists.later_faults.Goals as goal

pub index_faults-requires : goal.index_faults-requires
index_faults-requires g c = record {
  right = λ now.
      let sound = was-sound c.in_ok-pointers.ensures.read now in
      right-same c.args.volume.now c.pointers_faults.new.volume (read-one c.in_ok-pointers.ensures.read sound) c.args.dbd.now c.args.places.now (c.requires.right sound);
}

pub returns-in-None-clause-read : goal.returns-in-None-clause-read
returns-in-None-clause-read g c = read-ok _ (reads-join (Ok c.in_ok-index.index) c.in_ok-pointers.ensures.read c.in_ok-index.ensures.read)

pub returns-in-None-clause-first : goal.returns-in-None-clause-first
returns-in-None-clause-first g c = λ sound.
    let d : Database = c.args.dbd.now in
    let v : VolumeState = c.args.volume.now in
    let w : VolumeState = c.pointers_faults.new.volume in
    let k : ℕ = root_key_length d.types in
    let e : IsOne w v = turned (read-one c.in_ok-pointers.ensures.read sound) in
    let now = still-sound c.in_ok-pointers.ensures.read sound in
    let linked : AreLinked d.types (links_of d.types v) = subst (λ (o : Option (Vec Fault Global)). IfNone o (AreLinked d.types (links_of d.types v))) c.in-None.is (c.in_ok-pointers.ensures.none sound) in
    let all : AreIndexFaults d v c.in_ok-index.index.items = index-faults-same w v e d c.in_ok-index.index.items (c.in_ok-index.ensures.faults now) in
    subst (AreFaultsOf d v) (sym c.alone.ensures.first) (index-alone d v c.args.places.now c.in_ok-index.index.items (c.requires.right sound) linked all
    (λ empty. (let right = c.in_ok-index.ensures.none now empty in (formed-same w v e k right.0, entries-same w v e d right.1))))

pub returns-in-None-clause-index : goal.returns-in-None-clause-index
returns-in-None-clause-index g c = λ sound.
    let d : Database = c.args.dbd.now in
    let v : VolumeState = c.args.volume.now in
    let w : VolumeState = c.pointers_faults.new.volume in
    let e : IsOne w v = turned (read-one c.in_ok-pointers.ensures.read sound) in
    let all : AreIndexFaults d v c.in_ok-index.index.items = index-faults-same w v e d c.in_ok-index.index.items (c.in_ok-index.ensures.faults (still-sound c.in_ok-pointers.ensures.read sound)) in
    subst (λ (fs : List Fault). AreFaultsBehind d v fs c.alone.result.index.items) (sym c.alone.ensures.first)
    (subst (AreFaultsBehind d v c.in_ok-index.index.items) (sym c.alone.ensures.index) (none-behind-index d v c.in_ok-index.index.items all))

pub returns-clause-read : goal.returns-clause-read
returns-clause-read g c = read-ok _ (reads-join (Ok c.in_ok-index.index) c.in_ok-pointers.ensures.read c.in_ok-index.ensures.read)

pub returns-clause-first : goal.returns-clause-first
returns-clause-first g c = λ sound.
    let d : Database = c.args.dbd.now in
    let v : VolumeState = c.args.volume.now in
    let S : Option (Vec Fault Global) → Type 0 = λ o. IfSome o (λ l. AreFirstFaults d v l.items) in
    faults-of d v c.in-Some.first.items (c.requires.right sound).volume.fit (subst S c.in-Some.is (c.in_ok-pointers.ensures.some sound))

pub returns-clause-index : goal.returns-clause-index
returns-clause-index g c = λ sound.
    let d : Database = c.args.dbd.now in
    let v : VolumeState = c.args.volume.now in
    let w : VolumeState = c.pointers_faults.new.volume in
    let e : IsOne w v = turned (read-one c.in_ok-pointers.ensures.read sound) in
    let S : Option (Vec Fault Global) → Type 0 = λ o. IfSome o (λ l. BeginsWith (λ f. (2 < phase_of f.line) × (phase_of f.line < 8)) l.items) in
    index-behind d v c.in-Some.first.items c.in_ok-index.index.items (subst S c.in-Some.is (c.in_ok-pointers.ensures.within sound))
    (index-faults-same w v e d c.in_ok-index.index.items (c.in_ok-index.ensures.faults (still-sound c.in_ok-pointers.ensures.read sound)))

use Rattle.std.proofs.Common.{◌<◌, List, Option, IfNone, IfSome, sym, subst}
use Rattle.std.specs.declared.alloc.Global.{Global}
use Rattle.std.specs.declared.vec.Vec.{Vec}
use Rattle.hd_dbd.specs.Hierarchy.{Database}
use Rattle.hd_volume.specs.Volumes.{VolumeState}
use Rattle.hd_volume.proofs.CallSteps.{if-ok}
use Rattle.hd_image.specs.Standing.{phase_of}
use Rattle.hd_check_blocks.specs.declared.fault.Fault.{Fault}
use Rattle.hd_check_blocks.specs.declared.places.Place.{Place}
use Rattle.hd_check.specs.Joining.{HasRightBlocks}
use Rattle.hd_check.specs.Lists.{BeginsWith, AreFirstFaults, AreFaultsOf, AreFaultsBehind}
use Rattle.hd_check.proofs.OneStore.{IsOne, turned, right-same}
use Rattle.hd_check.proofs.Joined.{still-sound, was-sound, read-one}
use Rattle.hd_check.proofs.FirstFaults.{faults-of}
use Rattle.hd_check.proofs.Behind.{none-behind-image, faults-of-same, behind-same}
use Rattle.hd_check.proofs.lists.all_faults.Goals as goal

pub later_faults-requires : goal.later_faults-requires
later_faults-requires g c = record {
  right = λ now.
      let d : Database = c.args.dbd.now in
      let v : VolumeState = c.args.volume.now in
      let w : VolumeState = c.image_faults.new.volume in
      let sound = was-sound c.in_ok-image_faults.ensures.read now in
      let N : Option (Vec Fault Global) → Type 0 = λ o. IfNone o (HasRightBlocks d v c.image_faults.new.places.items) in
      let B : HasRightBlocks d v c.image_faults.new.places.items = subst N c.in-None.is (c.in_ok-image_faults.ensures.none sound c.types-types.ensures.fit) in
      right-same v w (read-one c.in_ok-image_faults.ensures.read sound) d c.deref.result.now (subst (λ (l : List Place). HasRightBlocks d v l) (sym c.deref.ensures.value) B);
}

pub returns-in-None-clause-first : goal.returns-in-None-clause-first
returns-in-None-clause-first g c = if-ok c.later_faults.result c.later_faults.ensures.first
    (λ all h sound.
    let w : VolumeState = c.image_faults.new.volume in
    let e : IsOne w c.args.volume.now = turned (read-one c.in_ok-image_faults.ensures.read sound) in
    faults-of-same w c.args.volume.now e c.args.dbd.now all.first.items (h (still-sound c.in_ok-image_faults.ensures.read sound)))

pub returns-in-None-clause-index : goal.returns-in-None-clause-index
returns-in-None-clause-index g c = if-ok c.later_faults.result c.later_faults.ensures.index
    (λ all h sound.
    let w : VolumeState = c.image_faults.new.volume in
    let e : IsOne w c.args.volume.now = turned (read-one c.in_ok-image_faults.ensures.read sound) in
    behind-same w c.args.volume.now e c.args.dbd.now all.first.items all.index.items (h (still-sound c.in_ok-image_faults.ensures.read sound)))

pub returns-clause-first : goal.returns-clause-first
returns-clause-first g c = λ sound.
    let d : Database = c.args.dbd.now in
    let v : VolumeState = c.args.volume.now in
    let S : Option (Vec Fault Global) → Type 0 = λ o. IfSome o (λ l. AreFirstFaults d v l.items) in
    subst (AreFaultsOf d v) (sym c.alone.ensures.first) (faults-of d v c.in-Some.first.items c.types-types.ensures.fit (subst S c.in-Some.is (c.in_ok-image_faults.ensures.some sound)))

pub returns-clause-index : goal.returns-clause-index
returns-clause-index g c = λ sound.
    let d : Database = c.args.dbd.now in
    let v : VolumeState = c.args.volume.now in
    let S : Option (Vec Fault Global) → Type 0 = λ o. IfSome o (λ l. BeginsWith (λ f. phase_of f.line < 3) l.items) in
    subst (λ (fs : List Fault). AreFaultsBehind d v fs c.alone.result.index.items) (sym c.alone.ensures.first)
    (subst (AreFaultsBehind d v c.in-Some.first.items) (sym c.alone.ensures.index) (none-behind-image d v c.in-Some.first.items (subst S c.in-Some.is (c.in_ok-image_faults.ensures.early sound))))

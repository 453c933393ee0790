use Rattle.std.proofs.Common.{◌<◌, List, length, Option, IfNone, IfSome, sym, subst}
use Rattle.hd_dbd.specs.Hierarchy.{Database}
use Rattle.hd_volume.specs.Volumes.{VolumeState}
use Rattle.hd_check_blocks.specs.declared.fault.Fault.{Fault}
use Rattle.hd_check_blocks.specs.declared.places.Place.{Place}
use Rattle.hd_check.specs.Joining.{IsFirstFault, IsFoundRight}
use Rattle.hd_check.proofs.OneStore.{IsOne}
use Rattle.hd_check.proofs.Joined.{still-sound, read-one, header-says}
use Rattle.hd_check.proofs.Passing.{few, passes, fails}
use Rattle.hd_check.proofs.checks.check.Goals as goal

pub returns-in-Ok-None-clause-passed : goal.returns-in-Ok-None-clause-passed
returns-in-Ok-None-clause-passed g c = λ sound.
    let d : Database = c.args.dbd.now in
    let v : VolumeState = c.args.volume.now in
    let w : VolumeState = c.first_fault.new.volume in
    let e : IsOne v w = read-one c.in-Ok-None.ensures.read sound in
    let found : IsFoundRight d v c.deref.result.now = subst (λ (l : List Place). IsFoundRight d v l) (sym c.deref.ensures.value)
    (subst (λ (o : Option Fault). IfNone o (IsFoundRight d v c.first_fault.new.places.items)) c.in-Ok-None.field-0-is (c.in-Ok-None.ensures.none sound)) in
    let small : length c.deref.result.now < 4294967296 = few d v c.deref.result.now found in
    passes d v c.deref.result.now found c.counts_of.result
    (header-says (λ h. h.count) v w c.counts_of.result.blocks e found.blocks.volume.formatted.header.first (still-sound c.in-Ok-None.ensures.read sound) c.counts_of.ensures.blocks)
    (c.counts_of.ensures.segments small) (c.counts_of.ensures.roots small)

pub returns-in-Ok-Some-clause-fault : goal.returns-in-Ok-Some-clause-fault
returns-in-Ok-Some-clause-fault g c = λ sound.
    fails c.args.dbd.now c.args.volume.now c.in-Ok-Some.fault c.in-Ok-Some.ensures.fit
    (subst (λ (o : Option Fault). IfSome o (λ f. IsFirstFault c.args.dbd.now c.args.volume.now f)) c.in-Ok-Some.field-0-is (c.in-Ok-Some.ensures.some sound))

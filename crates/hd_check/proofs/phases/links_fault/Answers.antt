use Rattle.hd_dbd.specs.Hierarchy.{Database}
use Rattle.hd_volume.specs.Volumes.{VolumeState}
use Rattle.hd_volume.proofs.CallSteps.{if-ok}
use Rattle.hd_volume.proofs.PutLemmas.{if-none-map}
use Rattle.hd_links.specs.Pointers.{AreLinked}
use Rattle.hd_check.proofs.OneStore.{IsOne, turned, right-same}
use Rattle.hd_check.proofs.Joined.{still-sound, was-sound, read-one, links-one, firsts-same}
use Rattle.hd_check.proofs.phases.links_fault.Goals as goal

pub pointers_fault-requires : goal.pointers_fault-requires
pointers_fault-requires g c = record {
  right = λ now.
      let read = c.in_ok-are_linked.ensures.read in
      let sound = was-sound read now in
      right-same c.args.volume.now c.are_linked.new.volume (read-one read sound) c.args.dbd.now c.args.places.now (c.requires.right sound);
}

pub returns-clause-none : goal.returns-clause-none
returns-clause-none g c = if-ok c.pointers_fault.result c.pointers_fault.ensures.none
    (λ o none sound.
    let d : Database = c.args.dbd.now in
    let v : VolumeState = c.args.volume.now in
    let w : VolumeState = c.are_linked.new.volume in
    let read = c.in_ok-are_linked.ensures.read in
    let e : IsOne v w = read-one read sound in
    if-none-map o (λ l. links-one d.types (AreLinked d.types) w v (turned e) l) (none (still-sound read sound)))

pub returns-clause-some : goal.returns-clause-some
returns-clause-some g c = if-ok c.pointers_fault.result c.pointers_fault.ensures.some
    (λ o some sound.
    let read = c.in_ok-are_linked.ensures.read in
    firsts-same c.args.dbd.now c.args.volume.now c.are_linked.new.volume o (read-one read sound) (some (still-sound read sound)))

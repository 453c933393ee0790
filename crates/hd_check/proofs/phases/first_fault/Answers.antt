use Rattle.std.proofs.Common.{Ok, List, sym, subst, ◌∙◌}
use Rattle.hd_dbd.specs.Hierarchy.{Database}
use Rattle.hd_volume.specs.Volumes.{VolumeState}
use Rattle.hd_volume.proofs.CallSteps.{reads-join, if-ok}
use Rattle.hd_volume.proofs.PutLemmas.{if-none-map}
use Rattle.hd_links.specs.Pointers.{AreLinked}
use Rattle.hd_image.specs.Records.{links_of}
use Rattle.hd_volume.specs.Indexes.{root_key_length}
use Rattle.hd_check_blocks.specs.declared.places.Place.{Place}
use Rattle.hd_check.specs.Joining.{HasRightBlocks}
use Rattle.hd_check_pointers.proofs.RecordSteps.{from-none}
use Rattle.hd_check.proofs.OneStore.{IsOne, turned, right-same, formed-same, entries-same}
use Rattle.hd_check.proofs.Joined.{still-sound, was-sound, read-one, links-one, firsts-same, none-same, before-index}
use Rattle.hd_check.proofs.phases.first_fault.Goals as goal

pub links_fault-requires : goal.links_fault-requires
links_fault-requires g c = record {
  right = λ now.
      let d : Database = c.args.dbd.now in
      let v : VolumeState = c.args.volume.now in
      let w : VolumeState = c.image_fault.new.volume in
      let sound = was-sound c.in_ok-found.ensures.read now in
      let B : HasRightBlocks d v c.image_fault.new.places.items = from-none c.in_ok-found.found (sym c.is_some.ensures ∙ c.if-is_some.false) (c.in_ok-found.ensures.none sound c.types-types.ensures.fit) in
      right-same v w (read-one c.in_ok-found.ensures.read sound) d c.deref-2.result.now (subst (λ (l : List Place). HasRightBlocks d v l) (sym c.deref-2.ensures.value) B);
}

pub returns-then-is_some-2-clause-some : goal.returns-then-is_some-2-clause-some
returns-then-is_some-2-clause-some g c = λ sound.
    firsts-same c.args.dbd.now c.args.volume.now c.image_fault.new.volume c.in_ok-found-2.found (read-one c.in_ok-found.ensures.read sound) (c.in_ok-found-2.ensures.some (still-sound c.in_ok-found.ensures.read sound))

pub index_fault-requires-clause-right : goal.index_fault-requires-clause-right
index_fault-requires-clause-right g c = λ now.
    let d : Database = c.args.dbd.now in
    let v : VolumeState = c.args.volume.now in
    let w : VolumeState = c.links_fault.new.volume in
    let read = reads-join (Ok c.in_ok-found-2.found) c.in_ok-found.ensures.read c.in_ok-found-2.ensures.read in
    let sound = was-sound read now in
    let B : HasRightBlocks d v c.image_fault.new.places.items = from-none c.in_ok-found.found (sym c.is_some.ensures ∙ c.if-is_some.false) (c.in_ok-found.ensures.none sound c.types-types.ensures.fit) in
    right-same v w (read-one read sound) d c.deref-3.result.now (subst (λ (l : List Place). HasRightBlocks d v l) (sym c.deref-3.ensures.value) B)

pub index_fault-requires-clause-before : goal.index_fault-requires-clause-before
index_fault-requires-clause-before g c = λ now.
    let d : Database = c.args.dbd.now in
    let v : VolumeState = c.args.volume.now in
    let u : VolumeState = c.image_fault.new.volume in
    let w : VolumeState = c.links_fault.new.volume in
    let read = reads-join (Ok c.in_ok-found-2.found) c.in_ok-found.ensures.read c.in_ok-found-2.ensures.read in
    let sound = was-sound read now in
    let e : IsOne v u = read-one c.in_ok-found.ensures.read sound in
    let B : HasRightBlocks d v c.image_fault.new.places.items = from-none c.in_ok-found.found (sym c.is_some.ensures ∙ c.if-is_some.false) (c.in_ok-found.ensures.none sound c.types-types.ensures.fit) in
    let L : AreLinked d.types (links_of d.types u) = from-none c.in_ok-found-2.found (sym c.is_some-2.ensures ∙ c.if-is_some-2.false) (c.in_ok-found-2.ensures.none (still-sound c.in_ok-found.ensures.read sound)) in
    none-same d 8 v w (read-one read sound) (before-index d v c.image_fault.new.places.items B (links-one d.types (AreLinked d.types) u v (turned e) L))

pub returns-clause-none : goal.returns-clause-none
returns-clause-none g c = if-ok c.index_fault.result c.index_fault.ensures.none
    (λ o none sound.
    let d : Database = c.args.dbd.now in
    let v : VolumeState = c.args.volume.now in
    let u : VolumeState = c.image_fault.new.volume in
    let w : VolumeState = c.links_fault.new.volume in
    let read = reads-join (Ok c.in_ok-found-2.found) c.in_ok-found.ensures.read c.in_ok-found-2.ensures.read in
    let e : IsOne v w = read-one read sound in
    let B : HasRightBlocks d v c.image_fault.new.places.items = from-none c.in_ok-found.found (sym c.is_some.ensures ∙ c.if-is_some.false) (c.in_ok-found.ensures.none sound c.types-types.ensures.fit) in
    let L : AreLinked d.types (links_of d.types u) = from-none c.in_ok-found-2.found (sym c.is_some-2.ensures ∙ c.if-is_some-2.false) (c.in_ok-found-2.ensures.none (still-sound c.in_ok-found.ensures.read sound)) in
    if-none-map o
    (λ x. record {
      blocks = B;
      pointers = links-one d.types (AreLinked d.types) u v (turned (read-one c.in_ok-found.ensures.read sound)) L;
      index = formed-same w v (turned e) (root_key_length d.types) x.0;
      entries = entries-same w v (turned e) d x.1;
    }) (none (still-sound read sound)))

pub returns-clause-some : goal.returns-clause-some
returns-clause-some g c = if-ok c.index_fault.result c.index_fault.ensures.some
    (λ o some sound.
    let read = reads-join (Ok c.in_ok-found-2.found) c.in_ok-found.ensures.read c.in_ok-found-2.ensures.read in
    firsts-same c.args.dbd.now c.args.volume.now c.links_fault.new.volume o (read-one read sound) (some (still-sound read sound)))

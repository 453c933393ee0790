use Rattle.std.proofs.Common.{ℕ, List, sym, subst, ◌∙◌}
use Rattle.hd_dbd.specs.Types.{SegmentType}
use Rattle.hd_dbd.specs.Hierarchy.{Database}
use Rattle.hd_volume.specs.Volumes.{VolumeState}
use Rattle.hd_volume.proofs.CallSteps.{if-ok}
use Rattle.hd_volume.proofs.PutLemmas.{if-none-map}
use Rattle.hd_links.specs.Pointers.{PointersAreTyped, PredecessorsAreOne, AreLinked}
use Rattle.hd_image.specs.Records.{links_of}
use Rattle.hd_check_pointers.specs.declared.namings.Naming.{Naming}
use Rattle.hd_check_pointers.specs.Tables.{ArePredecessors, AreForwards}
use Rattle.hd_check_pointers.specs.Namings.{AreNamings}
use Rattle.hd_check.specs.Joining.{HasRightBlocks}
use Rattle.hd_check_pointers.proofs.RecordSteps.{from-none}
use Rattle.hd_check_pointers.proofs.PlaceNumbers.{matched-same}
use Rattle.hd_check.proofs.OneStore.{IsOne, turned}
use Rattle.hd_check.proofs.EarlierFaults.{none-4, none-5}
use Rattle.hd_check.proofs.Joined.{still-sound, was-sound, read-one, links-one, found-here, firsts-same, none-same, before-pointers}
use Rattle.hd_check.proofs.phases.pointers_fault.Goals as goal

pub returns-then-is_some-clause-some : goal.returns-then-is_some-clause-some
returns-then-is_some-clause-some g c = λ sound.
    let d : Database = c.args.dbd.now in
    let v : VolumeState = c.args.volume.now in
    found-here d v 3 c.in_ok-found.found (before-pointers d v c.args.places.now (c.requires.right sound)) (c.in_ok-found.ensures.some sound)

pub returns-then-is_some-2-clause-some : goal.returns-then-is_some-2-clause-some
returns-then-is_some-2-clause-some g c = λ sound.
    let d : Database = c.args.dbd.now in
    let v : VolumeState = c.args.volume.now in
    let R : HasRightBlocks d v c.args.places.now = c.requires.right sound in
    let is-none = sym c.is_some.ensures ∙ c.if-is_some.false in
    let typed : PointersAreTyped d.types (links_of d.types v) = from-none c.in_ok-found.found is-none (c.in_ok-found.ensures.none sound) in
    let namings : AreNamings d.types (links_of d.types v) c.args.places.now c.records_fault.new.namings.items = from-none c.in_ok-found.found is-none (c.in_ok-found.ensures.namings sound) in
    found-here d v 4 c.in_ok-found-2.found (none-4 d v (before-pointers d v c.args.places.now R) typed) (c.in_ok-found-2.ensures.some d v R.volume R.stand typed namings)

pub twin_chains_fault-requires-clause-matched : goal.twin_chains_fault-requires-clause-matched
twin_chains_fault-requires-clause-matched g c = λ now.
    let d : Database = c.args.dbd.now in
    let v : VolumeState = c.args.volume.now in
    let w : VolumeState = c.records_fault.new.volume in
    let sound = was-sound c.in_ok-found.ensures.read now in
    let e : IsOne v w = read-one c.in_ok-found.ensures.read sound in
    let R : HasRightBlocks d v c.args.places.now = c.requires.right sound in
    let is-none = sym c.is_some.ensures ∙ c.if-is_some.false in
    let typed : PointersAreTyped d.types (links_of d.types v) = from-none c.in_ok-found.found is-none (c.in_ok-found.ensures.none sound) in
    let namings : AreNamings d.types (links_of d.types v) c.args.places.now c.records_fault.new.namings.items = from-none c.in_ok-found.found is-none (c.in_ok-found.ensures.namings sound) in
    let single : PredecessorsAreOne d.types (links_of d.types v) = from-none c.in_ok-found-2.found (sym c.is_some-2.ensures ∙ c.if-is_some-2.false) (c.in_ok-found-2.ensures.none d v R.volume R.stand typed namings) in
    matched-same d v w c.args.places.now e.image e.size e.sizes (record { volume = R.volume; stand = R.stand; typed = typed; single = single })

pub twin_chains_fault-requires-clause-predecessors : goal.twin_chains_fault-requires-clause-predecessors
twin_chains_fault-requires-clause-predecessors g c = λ now.
    let d : Database = c.args.dbd.now in
    let v : VolumeState = c.args.volume.now in
    let w : VolumeState = c.records_fault.new.volume in
    let sound = was-sound c.in_ok-found.ensures.read now in
    let e : IsOne v w = read-one c.in_ok-found.ensures.read sound in
    let R : HasRightBlocks d v c.args.places.now = c.requires.right sound in
    let is-none = sym c.is_some.ensures ∙ c.if-is_some.false in
    let typed : PointersAreTyped d.types (links_of d.types v) = from-none c.in_ok-found.found is-none (c.in_ok-found.ensures.none sound) in
    let namings : AreNamings d.types (links_of d.types v) c.args.places.now c.records_fault.new.namings.items = from-none c.in_ok-found.found is-none (c.in_ok-found.ensures.namings sound) in
    let table : ArePredecessors d.types (links_of d.types v) c.args.places.now c.predecessors_fault.new.namings.items =
    from-none c.in_ok-found-2.found (sym c.is_some-2.ensures ∙ c.if-is_some-2.false) (c.in_ok-found-2.ensures.table d v R.volume R.stand typed namings) in
    links-one d.types (λ m. ArePredecessors d.types m c.args.places.now c.deref.result.now) v w e
    (subst (λ (l : List Naming). ArePredecessors d.types (links_of d.types v) c.args.places.now l) (sym c.deref.ensures.value) table)

pub twin_chains_fault-requires-clause-forwards : goal.twin_chains_fault-requires-clause-forwards
twin_chains_fault-requires-clause-forwards g c = λ now.
    let d : Database = c.args.dbd.now in
    let v : VolumeState = c.args.volume.now in
    let w : VolumeState = c.records_fault.new.volume in
    let sound = was-sound c.in_ok-found.ensures.read now in
    let e : IsOne v w = read-one c.in_ok-found.ensures.read sound in
    let table : AreForwards (links_of d.types v) c.args.places.now c.records_fault.new.forwards.items = from-none c.in_ok-found.found (sym c.is_some.ensures ∙ c.if-is_some.false) (c.in_ok-found.ensures.forwards sound) in
    links-one d.types (λ m. AreForwards m c.args.places.now c.deref-2.result.now) v w e
    (subst (λ (l : List ℕ). AreForwards (links_of d.types v) c.args.places.now l) (sym c.deref-2.ensures.value) table)

pub twin_chains_fault-requires-clause-before : goal.twin_chains_fault-requires-clause-before
twin_chains_fault-requires-clause-before g c = λ now.
    let d : Database = c.args.dbd.now in
    let v : VolumeState = c.args.volume.now in
    let w : VolumeState = c.records_fault.new.volume in
    let sound = was-sound c.in_ok-found.ensures.read now in
    let e : IsOne v w = read-one c.in_ok-found.ensures.read sound in
    let R : HasRightBlocks d v c.args.places.now = c.requires.right sound in
    let is-none = sym c.is_some.ensures ∙ c.if-is_some.false in
    let typed : PointersAreTyped d.types (links_of d.types v) = from-none c.in_ok-found.found is-none (c.in_ok-found.ensures.none sound) in
    let namings : AreNamings d.types (links_of d.types v) c.args.places.now c.records_fault.new.namings.items = from-none c.in_ok-found.found is-none (c.in_ok-found.ensures.namings sound) in
    let single : PredecessorsAreOne d.types (links_of d.types v) = from-none c.in_ok-found-2.found (sym c.is_some-2.ensures ∙ c.if-is_some-2.false) (c.in_ok-found-2.ensures.none d v R.volume R.stand typed namings) in
    none-same d 5 v w e (none-5 d v (none-4 d v (before-pointers d v c.args.places.now R) typed) single)

pub returns-clause-none : goal.returns-clause-none
returns-clause-none g c = if-ok c.twin_chains_fault.result c.twin_chains_fault.ensures.none
    (λ o none sound.
    let types : List SegmentType = c.args.dbd.now.types in
    let v : VolumeState = c.args.volume.now in
    let w : VolumeState = c.records_fault.new.volume in
    let e : IsOne v w = read-one c.in_ok-found.ensures.read sound in
    if-none-map o (λ l. links-one types (AreLinked types) w v (turned e) l) (none (still-sound c.in_ok-found.ensures.read sound)))

pub returns-clause-some : goal.returns-clause-some
returns-clause-some g c = if-ok c.twin_chains_fault.result c.twin_chains_fault.ensures.some
    (λ o some sound.
    firsts-same c.args.dbd.now c.args.volume.now c.records_fault.new.volume o (read-one c.in_ok-found.ensures.read sound) (some (still-sound c.in_ok-found.ensures.read sound)))

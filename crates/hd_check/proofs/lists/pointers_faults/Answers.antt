use Rattle.std.proofs.Common.{◌<◌, Ok, Some, ℕ, List, refl, sym, subst, ◌∙◌, arith}
use Rattle.hd_dbd.specs.Types.{SegmentType}
use Rattle.hd_dbd.specs.Hierarchy.{Database}
use Rattle.hd_volume.specs.Volumes.{VolumeState}
use Rattle.hd_volume.proofs.CallSteps.{if-ok, read-ok, reads-join}
use Rattle.hd_volume.proofs.PutLemmas.{if-none-map, if-some-map}
use Rattle.hd_links.specs.Pointers.{PointersAreTyped, PredecessorsAreOne, AreLinked}
use Rattle.hd_image.specs.Records.{links_of}
use Rattle.hd_check_pointers.specs.declared.namings.Naming.{Naming}
use Rattle.hd_check_pointers.specs.Tables.{ArePredecessors, AreForwards}
use Rattle.hd_check_pointers.specs.Namings.{AreNamings}
use Rattle.hd_check_pointers.specs.Listed.{AreSorted}
use Rattle.hd_check.specs.Joining.{HasRightBlocks}
use Rattle.hd_check_pointers.proofs.RecordSteps.{from-none}
use Rattle.hd_check_pointers.proofs.PlaceNumbers.{matched-same}
use Rattle.hd_check.proofs.OneStore.{IsOne, turned, right-same}
use Rattle.hd_check.proofs.EarlierFaults.{none-4, none-5}
use Rattle.hd_check.proofs.Joined.{still-sound, was-sound, read-one, links-one, none-same, before-pointers}
use Rattle.hd_check.proofs.FirstFaults.{found-first, found-in, faults-found, first-faults-same, from-some}
use Rattle.hd_check.proofs.lists.pointers_faults.Goals as goal

pub returns-then-is_some-clause-read : goal.returns-then-is_some-clause-read
returns-then-is_some-clause-read g c = read-ok (Some c.in_ok-faults.faults) (reads-join (Ok c.in_ok-faults.faults) c.in_ok-found.ensures.read c.in_ok-faults.ensures.read)

pub returns-then-is_some-clause-some : goal.returns-then-is_some-clause-some
returns-then-is_some-clause-some g c = λ sound.
    let d : Database = c.args.dbd.now in
    let v : VolumeState = c.args.volume.now in
    let w : VolumeState = c.records_fault.new.volume in
    found-first d v v w 3 c.in_ok-found.found c.in_ok-faults.faults.items (record { image = refl; size = refl; sizes = refl }) (read-one c.in_ok-found.ensures.read sound) (before-pointers d v c.args.places.now (c.requires.right sound))
    (sym c.is_some.ensures ∙ c.if-is_some.true) (c.in_ok-found.ensures.some sound) (c.in_ok-faults.ensures.faults (still-sound c.in_ok-found.ensures.read sound))

pub returns-then-is_some-clause-within : goal.returns-then-is_some-clause-within
returns-then-is_some-clause-within g c = λ sound.
    let v : VolumeState = c.args.volume.now in
    let w : VolumeState = c.records_fault.new.volume in
    found-in (λ p. (2 < p) × (p < 8)) c.args.dbd.now v v w 3 c.in_ok-found.found c.in_ok-faults.faults.items (omega arith, omega arith) (record { image = refl; size = refl; sizes = refl }) (read-one c.in_ok-found.ensures.read sound)
    (sym c.is_some.ensures ∙ c.if-is_some.true) (c.in_ok-found.ensures.some sound) (c.in_ok-faults.ensures.faults (still-sound c.in_ok-found.ensures.read sound))

pub records_faults-requires-clause-of : goal.records_faults-requires-clause-of
records_faults-requires-clause-of g c = λ now.
    let sound = was-sound c.in_ok-found.ensures.read now in
    (right-same c.args.volume.now c.records_fault.new.volume (read-one c.in_ok-found.ensures.read sound) c.args.dbd.now c.args.places.now (c.requires.right sound)).volume

pub records_faults-requires-clause-places : goal.records_faults-requires-clause-places
records_faults-requires-clause-places g c = λ now.
    let sound = was-sound c.in_ok-found.ensures.read now in
    (right-same c.args.volume.now c.records_fault.new.volume (read-one c.in_ok-found.ensures.read sound) c.args.dbd.now c.args.places.now (c.requires.right sound)).stand

pub returns-then-is_some-2-clause-read : goal.returns-then-is_some-2-clause-read
returns-then-is_some-2-clause-read g c = read-ok (Some c.in_ok-faults-2.faults) c.in_ok-found.ensures.read

pub returns-then-is_some-2-clause-some : goal.returns-then-is_some-2-clause-some
returns-then-is_some-2-clause-some g c = λ sound.
    let d : Database = c.args.dbd.now in
    let v : VolumeState = c.args.volume.now in
    let R : HasRightBlocks d v c.args.places.now = c.requires.right sound in
    let is-none = sym c.is_some.ensures ∙ c.if-is_some.false in
    let typed : PointersAreTyped d.types (links_of d.types v) = from-none c.in_ok-found.found is-none (c.in_ok-found.ensures.none sound) in
    let namings : AreNamings d.types (links_of d.types v) c.args.places.now c.records_fault.new.namings.items = from-none c.in_ok-found.found is-none (c.in_ok-found.ensures.namings sound) in
    let sorted : AreSorted c.records_fault.new.namings.items c.predecessors_fault.new.namings.items = from-some c.in_ok-found-2.found (sym c.is_some-2.ensures ∙ c.if-is_some-2.true) c.in_ok-found-2.ensures.sorted in
    faults-found d v 4 (none-4 d v (before-pointers d v c.args.places.now R) typed) c.in_ok-found-2.found c.in_ok-faults-2.faults.items (sym c.is_some-2.ensures ∙ c.if-is_some-2.true)
    (c.in_ok-found-2.ensures.some d v R.volume R.stand typed namings)
    (c.in_ok-faults-2.ensures.faults c.records_fault.new.namings.items (subst (AreSorted c.records_fault.new.namings.items) (sym c.deref.ensures.value) sorted) d v R.volume R.stand typed namings)

pub returns-then-is_some-2-clause-within : goal.returns-then-is_some-2-clause-within
returns-then-is_some-2-clause-within g c = λ sound.
    let d : Database = c.args.dbd.now in
    let v : VolumeState = c.args.volume.now in
    let same : IsOne v v = record { image = refl; size = refl; sizes = refl } in
    let R : HasRightBlocks d v c.args.places.now = c.requires.right sound in
    let is-none = sym c.is_some.ensures ∙ c.if-is_some.false in
    let typed : PointersAreTyped d.types (links_of d.types v) = from-none c.in_ok-found.found is-none (c.in_ok-found.ensures.none sound) in
    let namings : AreNamings d.types (links_of d.types v) c.args.places.now c.records_fault.new.namings.items = from-none c.in_ok-found.found is-none (c.in_ok-found.ensures.namings sound) in
    let sorted : AreSorted c.records_fault.new.namings.items c.predecessors_fault.new.namings.items = from-some c.in_ok-found-2.found (sym c.is_some-2.ensures ∙ c.if-is_some-2.true) c.in_ok-found-2.ensures.sorted in
    found-in (λ p. (2 < p) × (p < 8)) d v v v 4 c.in_ok-found-2.found c.in_ok-faults-2.faults.items (omega arith, omega arith) same same (sym c.is_some-2.ensures ∙ c.if-is_some-2.true) (c.in_ok-found-2.ensures.some d v R.volume R.stand typed namings)
    (c.in_ok-faults-2.ensures.faults c.records_fault.new.namings.items (subst (AreSorted c.records_fault.new.namings.items) (sym c.deref.ensures.value) sorted) d v R.volume R.stand typed namings)

pub twin_chains_faults-requires-clause-matched : goal.twin_chains_faults-requires-clause-matched
twin_chains_faults-requires-clause-matched g c = λ now.
    let d : Database = c.args.dbd.now in
    let v : VolumeState = c.args.volume.now in
    let w : VolumeState = c.records_fault.new.volume in
    let sound = was-sound c.in_ok-found.ensures.read now in
    let e : IsOne v w = read-one c.in_ok-found.ensures.read sound in
    let R : HasRightBlocks d v c.args.places.now = c.requires.right sound in
    let is-none = sym c.is_some.ensures ∙ c.if-is_some.false in
    let typed : PointersAreTyped d.types (links_of d.types v) = from-none c.in_ok-found.found is-none (c.in_ok-found.ensures.none sound) in
    let namings : AreNamings d.types (links_of d.types v) c.args.places.now c.records_fault.new.namings.items = from-none c.in_ok-found.found is-none (c.in_ok-found.ensures.namings sound) in
    let single : PredecessorsAreOne d.types (links_of d.types v) = from-none c.in_ok-found-2.found (sym c.is_some-2.ensures ∙ c.if-is_some-2.false) (c.in_ok-found-2.ensures.none d v R.volume R.stand typed namings) in
    matched-same d v w c.args.places.now e.image e.size e.sizes (record { volume = R.volume; stand = R.stand; typed = typed; single = single })

pub twin_chains_faults-requires-clause-predecessors : goal.twin_chains_faults-requires-clause-predecessors
twin_chains_faults-requires-clause-predecessors g c = λ now.
    let d : Database = c.args.dbd.now in
    let v : VolumeState = c.args.volume.now in
    let w : VolumeState = c.records_fault.new.volume in
    let sound = was-sound c.in_ok-found.ensures.read now in
    let e : IsOne v w = read-one c.in_ok-found.ensures.read sound in
    let R : HasRightBlocks d v c.args.places.now = c.requires.right sound in
    let is-none = sym c.is_some.ensures ∙ c.if-is_some.false in
    let typed : PointersAreTyped d.types (links_of d.types v) = from-none c.in_ok-found.found is-none (c.in_ok-found.ensures.none sound) in
    let namings : AreNamings d.types (links_of d.types v) c.args.places.now c.records_fault.new.namings.items = from-none c.in_ok-found.found is-none (c.in_ok-found.ensures.namings sound) in
    let table : ArePredecessors d.types (links_of d.types v) c.args.places.now c.predecessors_fault.new.namings.items =
    from-none c.in_ok-found-2.found (sym c.is_some-2.ensures ∙ c.if-is_some-2.false) (c.in_ok-found-2.ensures.table d v R.volume R.stand typed namings) in
    links-one d.types (λ m. ArePredecessors d.types m c.args.places.now c.deref-2.result.now) v w e
    (subst (λ (l : List Naming). ArePredecessors d.types (links_of d.types v) c.args.places.now l) (sym c.deref-2.ensures.value) table)

pub twin_chains_faults-requires-clause-forwards : goal.twin_chains_faults-requires-clause-forwards
twin_chains_faults-requires-clause-forwards g c = λ now.
    let d : Database = c.args.dbd.now in
    let v : VolumeState = c.args.volume.now in
    let w : VolumeState = c.records_fault.new.volume in
    let sound = was-sound c.in_ok-found.ensures.read now in
    let e : IsOne v w = read-one c.in_ok-found.ensures.read sound in
    let table : AreForwards (links_of d.types v) c.args.places.now c.records_fault.new.forwards.items = from-none c.in_ok-found.found (sym c.is_some.ensures ∙ c.if-is_some.false) (c.in_ok-found.ensures.forwards sound) in
    links-one d.types (λ m. AreForwards m c.args.places.now c.deref-3.result.now) v w e
    (subst (λ (l : List ℕ). AreForwards (links_of d.types v) c.args.places.now l) (sym c.deref-3.ensures.value) table)

pub twin_chains_faults-requires-clause-before : goal.twin_chains_faults-requires-clause-before
twin_chains_faults-requires-clause-before g c = λ now.
    let d : Database = c.args.dbd.now in
    let v : VolumeState = c.args.volume.now in
    let w : VolumeState = c.records_fault.new.volume in
    let sound = was-sound c.in_ok-found.ensures.read now in
    let e : IsOne v w = read-one c.in_ok-found.ensures.read sound in
    let R : HasRightBlocks d v c.args.places.now = c.requires.right sound in
    let is-none = sym c.is_some.ensures ∙ c.if-is_some.false in
    let typed : PointersAreTyped d.types (links_of d.types v) = from-none c.in_ok-found.found is-none (c.in_ok-found.ensures.none sound) in
    let namings : AreNamings d.types (links_of d.types v) c.args.places.now c.records_fault.new.namings.items = from-none c.in_ok-found.found is-none (c.in_ok-found.ensures.namings sound) in
    let single : PredecessorsAreOne d.types (links_of d.types v) = from-none c.in_ok-found-2.found (sym c.is_some-2.ensures ∙ c.if-is_some-2.false) (c.in_ok-found-2.ensures.none d v R.volume R.stand typed namings) in
    none-same d 5 v w e (none-5 d v (none-4 d v (before-pointers d v c.args.places.now R) typed) single)

pub returns-clause-none : goal.returns-clause-none
returns-clause-none g c = if-ok c.twin_chains_faults.result c.twin_chains_faults.ensures.none
    (λ o none sound.
    let types : List SegmentType = c.args.dbd.now.types in
    let v : VolumeState = c.args.volume.now in
    let w : VolumeState = c.records_fault.new.volume in
    let e : IsOne v w = read-one c.in_ok-found.ensures.read sound in
    if-none-map o (λ l. links-one types (AreLinked types) w v (turned e) l) (none (still-sound c.in_ok-found.ensures.read sound)))

pub returns-clause-some : goal.returns-clause-some
returns-clause-some g c = if-ok c.twin_chains_faults.result c.twin_chains_faults.ensures.some
    (λ o some sound.
    let v : VolumeState = c.args.volume.now in
    let w : VolumeState = c.records_fault.new.volume in
    let e : IsOne v w = read-one c.in_ok-found.ensures.read sound in
    if-some-map o (λ l h. first-faults-same w v (turned e) c.args.dbd.now l.items h) (some (still-sound c.in_ok-found.ensures.read sound)))

pub returns-clause-within : goal.returns-clause-within
returns-clause-within g c = if-ok c.twin_chains_faults.result c.twin_chains_faults.ensures.within (λ o within sound. within (still-sound c.in_ok-found.ensures.read sound))

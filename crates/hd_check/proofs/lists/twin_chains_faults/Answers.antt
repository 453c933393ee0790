use Rattle.std.proofs.Common.{◌<◌, Ok, Some, ℕ, List, None, refl, sym, subst, ◌∙◌, arith}
use Rattle.hd_dbd.specs.Types.{SegmentType}
use Rattle.hd_dbd.specs.Hierarchy.{Database}
use Rattle.hd_volume.specs.Volumes.{VolumeState}
use Rattle.hd_volume.proofs.CallSteps.{read-ok, reads-join}
use Rattle.hd_links.specs.Pointers.{TwinsLinkBack, KeysAscend}
use Rattle.hd_image.specs.Records.{links_of}
use Rattle.hd_check_pointers.specs.Tables.{ArePredecessors, AreForwards, AreOwners}
use Rattle.hd_check_pointers.specs.Matched.{IsMatched}
use Rattle.hd_check_pointers.proofs.RecordSteps.{from-none}
use Rattle.hd_check_pointers.proofs.PlaceNumbers.{matched-same}
use Rattle.hd_check.proofs.OneStore.{IsOne, turned}
use Rattle.hd_check.proofs.EarlierFaults.{none-6, none-7}
use Rattle.hd_check.proofs.Joined.{still-sound, read-one, carried, links-one}
use Rattle.hd_check.proofs.FirstFaults.{found-first, found-in, faults-found}
use Rattle.hd_check.proofs.lists.twin_chains_faults.Goals as goal

pub twins_fault-requires-clause-owners : goal.twins_fault-requires-clause-owners
twins_fault-requires-clause-owners g c = λ sound.
    subst (λ (owners : List ℕ). AreOwners c.args.dbd.now.types (links_of c.args.dbd.now.types c.args.volume.now) c.args.places.now owners) (sym c.deref.ensures.value)
    (c.in_ok-owners.ensures.owners c.args.dbd.now c.args.volume.now (c.requires.matched sound) (c.requires.predecessors sound) (c.requires.forwards sound))

pub twins_faults-requires-clause-matched : goal.twins_faults-requires-clause-matched
twins_faults-requires-clause-matched g c =
    let d : Database = c.args.dbd.now in
    carried (λ v. IsMatched d v c.args.places.now) c.in_ok-found.ensures.read
    (λ e M. matched-same d c.args.volume.now c.twins_fault.new.volume c.args.places.now e.image e.size e.sizes M) c.requires.matched

pub twins_faults-requires-clause-predecessors : goal.twins_faults-requires-clause-predecessors
twins_faults-requires-clause-predecessors g c =
    let types : List SegmentType = c.args.dbd.now.types in
    carried (λ v. ArePredecessors types (links_of types v) c.args.places.now c.args.namings.now) c.in_ok-found.ensures.read
    (λ e h. links-one types (λ m. ArePredecessors types m c.args.places.now c.args.namings.now) c.args.volume.now c.twins_fault.new.volume e h) c.requires.predecessors

pub twins_faults-requires-clause-forwards : goal.twins_faults-requires-clause-forwards
twins_faults-requires-clause-forwards g c =
    let types : List SegmentType = c.args.dbd.now.types in
    carried (λ v. AreForwards (links_of types v) c.args.places.now c.args.forwards.now) c.in_ok-found.ensures.read
    (λ e h. links-one types (λ m. AreForwards m c.args.places.now c.args.forwards.now) c.args.volume.now c.twins_fault.new.volume e h) c.requires.forwards

pub twins_faults-requires-clause-owners : goal.twins_faults-requires-clause-owners
twins_faults-requires-clause-owners g c =
    let types : List SegmentType = c.args.dbd.now.types in
    carried (λ v. AreOwners types (links_of types v) c.args.places.now c.deref-then-is_some.result.now) c.in_ok-found.ensures.read
    (λ e h. links-one types (λ m. AreOwners types m c.args.places.now c.deref-then-is_some.result.now) c.args.volume.now c.twins_fault.new.volume e h)
    (λ sound. subst (λ (owners : List ℕ). AreOwners types (links_of types c.args.volume.now) c.args.places.now owners) (sym c.deref-then-is_some.ensures.value)
    (c.in_ok-owners.ensures.owners c.args.dbd.now c.args.volume.now (c.requires.matched sound) (c.requires.predecessors sound) (c.requires.forwards sound)))

pub returns-then-is_some-clause-read : goal.returns-then-is_some-clause-read
returns-then-is_some-clause-read g c = read-ok (Some c.in_ok-faults.faults) (reads-join (Ok c.in_ok-faults.faults) c.in_ok-found.ensures.read c.in_ok-faults.ensures.read)

pub returns-then-is_some-clause-some : goal.returns-then-is_some-clause-some
returns-then-is_some-clause-some g c = λ sound.
    let d : Database = c.args.dbd.now in
    let v : VolumeState = c.args.volume.now in
    let w : VolumeState = c.twins_fault.new.volume in
    let e : IsOne v w = read-one c.in_ok-found.ensures.read sound in
    found-first d v v w 5 c.in_ok-found.found c.in_ok-faults.faults.items (record { image = refl; size = refl; sizes = refl }) e (c.requires.before sound) (sym c.is_some.ensures ∙ c.if-is_some.true)
    (c.in_ok-found.ensures.some sound) (c.in_ok-faults.ensures.faults (still-sound c.in_ok-found.ensures.read sound))

pub returns-then-is_some-clause-within : goal.returns-then-is_some-clause-within
returns-then-is_some-clause-within g c = λ sound.
    let v : VolumeState = c.args.volume.now in
    let w : VolumeState = c.twins_fault.new.volume in
    found-in (λ p. (2 < p) × (p < 8)) c.args.dbd.now v v w 5 c.in_ok-found.found c.in_ok-faults.faults.items (omega arith, omega arith) (record { image = refl; size = refl; sizes = refl }) (read-one c.in_ok-found.ensures.read sound)
    (sym c.is_some.ensures ∙ c.if-is_some.true) (c.in_ok-found.ensures.some sound) (c.in_ok-faults.ensures.faults (still-sound c.in_ok-found.ensures.read sound))

pub twin_keys_fault-requires-clause-matched : goal.twin_keys_fault-requires-clause-matched
twin_keys_fault-requires-clause-matched g c =
    let d : Database = c.args.dbd.now in
    carried (λ v. IsMatched d v c.args.places.now) c.in_ok-found.ensures.read
    (λ e M. matched-same d c.args.volume.now c.twins_fault.new.volume c.args.places.now e.image e.size e.sizes M) c.requires.matched

pub twin_keys_fault-requires-clause-predecessors : goal.twin_keys_fault-requires-clause-predecessors
twin_keys_fault-requires-clause-predecessors g c =
    let types : List SegmentType = c.args.dbd.now.types in
    carried (λ v. ArePredecessors types (links_of types v) c.args.places.now c.args.namings.now) c.in_ok-found.ensures.read
    (λ e h. links-one types (λ m. ArePredecessors types m c.args.places.now c.args.namings.now) c.args.volume.now c.twins_fault.new.volume e h) c.requires.predecessors

pub twin_keys_faults-requires-clause-matched : goal.twin_keys_faults-requires-clause-matched
twin_keys_faults-requires-clause-matched g c =
    let d : Database = c.args.dbd.now in
    carried (λ v. IsMatched d v c.args.places.now) (reads-join (Ok c.in_ok-found-2.found) c.in_ok-found.ensures.read c.in_ok-found-2.ensures.read)
    (λ e M. matched-same d c.args.volume.now c.twin_keys_fault.new.volume c.args.places.now e.image e.size e.sizes M) c.requires.matched

pub twin_keys_faults-requires-clause-predecessors : goal.twin_keys_faults-requires-clause-predecessors
twin_keys_faults-requires-clause-predecessors g c =
    let types : List SegmentType = c.args.dbd.now.types in
    carried (λ v. ArePredecessors types (links_of types v) c.args.places.now c.args.namings.now) (reads-join (Ok c.in_ok-found-2.found) c.in_ok-found.ensures.read c.in_ok-found-2.ensures.read)
    (λ e h. links-one types (λ m. ArePredecessors types m c.args.places.now c.args.namings.now) c.args.volume.now c.twin_keys_fault.new.volume e h) c.requires.predecessors

pub returns-then-is_some-2-clause-read : goal.returns-then-is_some-2-clause-read
returns-then-is_some-2-clause-read g c =
    let read = reads-join (Ok c.in_ok-found-2.found) c.in_ok-found.ensures.read c.in_ok-found-2.ensures.read in
    read-ok (Some c.in_ok-faults-2.faults) (reads-join (Ok c.in_ok-faults-2.faults) read c.in_ok-faults-2.ensures.read)

pub returns-then-is_some-2-clause-some : goal.returns-then-is_some-2-clause-some
returns-then-is_some-2-clause-some g c = λ sound.
    let d : Database = c.args.dbd.now in
    let v : VolumeState = c.args.volume.now in
    let read = reads-join (Ok c.in_ok-found-2.found) c.in_ok-found.ensures.read c.in_ok-found-2.ensures.read in
    let back : TwinsLinkBack d.types (links_of d.types v) = from-none c.in_ok-found.found (sym c.is_some.ensures ∙ c.if-is_some.false) (c.in_ok-found.ensures.none sound) in
    found-first d v c.twins_fault.new.volume c.twin_keys_fault.new.volume 6 c.in_ok-found-2.found c.in_ok-faults-2.faults.items (read-one c.in_ok-found.ensures.read sound) (read-one read sound)
    (none-6 d v (c.requires.before sound) back) (sym c.is_some-2.ensures ∙ c.if-is_some-2.true) (c.in_ok-found-2.ensures.some (still-sound c.in_ok-found.ensures.read sound)) (c.in_ok-faults-2.ensures.faults (still-sound read sound))

pub returns-then-is_some-2-clause-within : goal.returns-then-is_some-2-clause-within
returns-then-is_some-2-clause-within g c = λ sound.
    let u : VolumeState = c.twins_fault.new.volume in
    let w : VolumeState = c.twin_keys_fault.new.volume in
    let read = reads-join (Ok c.in_ok-found-2.found) c.in_ok-found.ensures.read c.in_ok-found-2.ensures.read in
    found-in (λ p. (2 < p) × (p < 8)) c.args.dbd.now c.args.volume.now u w 6 c.in_ok-found-2.found c.in_ok-faults-2.faults.items (omega arith, omega arith) (read-one c.in_ok-found.ensures.read sound) (read-one read sound)
    (sym c.is_some-2.ensures ∙ c.if-is_some-2.true) (c.in_ok-found-2.ensures.some (still-sound c.in_ok-found.ensures.read sound)) (c.in_ok-faults-2.ensures.faults (still-sound read sound))

pub returns-then-is_some-3-clause-read : goal.returns-then-is_some-3-clause-read
returns-then-is_some-3-clause-read g c = read-ok (Some c.in_ok-faults-3.faults) (reads-join (Ok c.in_ok-found-2.found) c.in_ok-found.ensures.read c.in_ok-found-2.ensures.read)

pub returns-then-is_some-3-clause-some : goal.returns-then-is_some-3-clause-some
returns-then-is_some-3-clause-some g c = λ sound.
    let d : Database = c.args.dbd.now in
    let v : VolumeState = c.args.volume.now in
    let w : VolumeState = c.twins_fault.new.volume in
    let M : IsMatched d v c.args.places.now = c.requires.matched sound in
    let e : IsOne v w = read-one c.in_ok-found.ensures.read sound in
    let back : TwinsLinkBack d.types (links_of d.types v) = from-none c.in_ok-found.found (sym c.is_some.ensures ∙ c.if-is_some.false) (c.in_ok-found.ensures.none sound) in
    let keys-there : KeysAscend d.types (links_of d.types w) = from-none c.in_ok-found-2.found (sym c.is_some-2.ensures ∙ c.if-is_some-2.false) (c.in_ok-found-2.ensures.none (still-sound c.in_ok-found.ensures.read sound)) in
    let keys : KeysAscend d.types (links_of d.types v) = links-one d.types (KeysAscend d.types) w v (turned e) keys-there in
    let known = c.in_ok-owners.ensures.owners d v M (c.requires.predecessors sound) (c.requires.forwards sound) in
    let one = subst (λ (owners : List ℕ). AreOwners d.types (links_of d.types v) c.args.places.now owners) (sym c.deref-2.ensures.value) known in
    let two = subst (λ (owners : List ℕ). AreOwners d.types (links_of d.types v) c.args.places.now owners) (sym c.deref-then-is_some-3.ensures.value) known in
    faults-found d v 7 (none-7 d v (none-6 d v (c.requires.before sound) back) keys) c.reached_fault.result c.in_ok-faults-3.faults.items (sym c.is_some-3.ensures ∙ c.if-is_some-3.true)
    (c.reached_fault.ensures.some d v M one) (c.in_ok-faults-3.ensures.faults d v M two)

pub returns-then-is_some-3-clause-within : goal.returns-then-is_some-3-clause-within
returns-then-is_some-3-clause-within g c = λ sound.
    let d : Database = c.args.dbd.now in
    let v : VolumeState = c.args.volume.now in
    let same : IsOne v v = record { image = refl; size = refl; sizes = refl } in
    let M : IsMatched d v c.args.places.now = c.requires.matched sound in
    let known = c.in_ok-owners.ensures.owners d v M (c.requires.predecessors sound) (c.requires.forwards sound) in
    let one = subst (λ (owners : List ℕ). AreOwners d.types (links_of d.types v) c.args.places.now owners) (sym c.deref-2.ensures.value) known in
    let two = subst (λ (owners : List ℕ). AreOwners d.types (links_of d.types v) c.args.places.now owners) (sym c.deref-then-is_some-3.ensures.value) known in
    found-in (λ p. (2 < p) × (p < 8)) d v v v 7 c.reached_fault.result c.in_ok-faults-3.faults.items (omega arith, omega arith) same same (sym c.is_some-3.ensures ∙ c.if-is_some-3.true) (c.reached_fault.ensures.some d v M one)
    (c.in_ok-faults-3.ensures.faults d v M two)

pub returns-clause-read : goal.returns-clause-read
returns-clause-read g c = read-ok None (reads-join (Ok c.in_ok-found-2.found) c.in_ok-found.ensures.read c.in_ok-found-2.ensures.read)

pub returns-clause-none : goal.returns-clause-none
returns-clause-none g c = λ sound.
    let d : Database = c.args.dbd.now in
    let v : VolumeState = c.args.volume.now in
    let w : VolumeState = c.twins_fault.new.volume in
    let M : IsMatched d v c.args.places.now = c.requires.matched sound in
    let e : IsOne v w = read-one c.in_ok-found.ensures.read sound in
    let back : TwinsLinkBack d.types (links_of d.types v) = from-none c.in_ok-found.found (sym c.is_some.ensures ∙ c.if-is_some.false) (c.in_ok-found.ensures.none sound) in
    let keys-there : KeysAscend d.types (links_of d.types w) = from-none c.in_ok-found-2.found (sym c.is_some-2.ensures ∙ c.if-is_some-2.false) (c.in_ok-found-2.ensures.none (still-sound c.in_ok-found.ensures.read sound)) in
    let keys : KeysAscend d.types (links_of d.types v) = links-one d.types (KeysAscend d.types) w v (turned e) keys-there in
    let owners = subst (λ (owners : List ℕ). AreOwners d.types (links_of d.types v) c.args.places.now owners) (sym c.deref-2.ensures.value)
    (c.in_ok-owners.ensures.owners d v M (c.requires.predecessors sound) (c.requires.forwards sound)) in
    record { typed = M.typed; single = M.single; back = back; keys = keys; reached = from-none c.reached_fault.result (sym c.is_some-3.ensures ∙ c.if-is_some-3.false) (c.reached_fault.ensures.none d v M owners) }

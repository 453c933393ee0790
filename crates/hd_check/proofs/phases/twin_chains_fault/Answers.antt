use Rattle.std.proofs.Common.{Ok, ℕ, List, sym, subst, ◌∙◌}
use Rattle.hd_dbd.specs.Types.{SegmentType}
use Rattle.hd_dbd.specs.Hierarchy.{Database}
use Rattle.hd_volume.specs.Volumes.{VolumeState}
use Rattle.hd_volume.proofs.CallSteps.{read-ok, reads-join}
use Rattle.hd_volume.proofs.PutLemmas.{if-none-map}
use Rattle.hd_links.specs.Pointers.{TwinsLinkBack, KeysAscend}
use Rattle.hd_image.specs.Records.{links_of}
use Rattle.hd_check_pointers.specs.Tables.{ArePredecessors, AreOwners}
use Rattle.hd_check_pointers.specs.Matched.{IsMatched}
use Rattle.hd_check_pointers.proofs.RecordSteps.{from-none}
use Rattle.hd_check_pointers.proofs.PlaceNumbers.{matched-same}
use Rattle.hd_check.proofs.OneStore.{IsOne, turned}
use Rattle.hd_check.proofs.EarlierFaults.{none-6, none-7}
use Rattle.hd_check.proofs.Joined.{still-sound, read-one, carried, links-one, found-here, found-there}
use Rattle.hd_check.proofs.phases.twin_chains_fault.Goals as goal

pub twins_fault-requires-clause-owners : goal.twins_fault-requires-clause-owners
twins_fault-requires-clause-owners g c = λ sound.
    subst (λ (owners : List ℕ). AreOwners c.args.dbd.now.types (links_of c.args.dbd.now.types c.args.volume.now) c.args.places.now owners) (sym c.deref.ensures.value)
    (c.in_ok-owners.ensures.owners c.args.dbd.now c.args.volume.now (c.requires.matched sound) (c.requires.predecessors sound) (c.requires.forwards sound))

pub returns-then-is_some-clause-some : goal.returns-then-is_some-clause-some
returns-then-is_some-clause-some g c = λ sound.
    found-here c.args.dbd.now c.args.volume.now 5 c.in_ok-found.found (c.requires.before sound) (c.in_ok-found.ensures.some sound)

pub twin_keys_fault-requires-clause-matched : goal.twin_keys_fault-requires-clause-matched
twin_keys_fault-requires-clause-matched g c =
    let d : Database = c.args.dbd.now in
    carried (λ v. IsMatched d v c.args.places.now) c.in_ok-found.ensures.read
    (λ e M. matched-same d c.args.volume.now c.twins_fault.new.volume c.args.places.now e.image e.size e.sizes M) c.requires.matched

pub twin_keys_fault-requires-clause-predecessors : goal.twin_keys_fault-requires-clause-predecessors
twin_keys_fault-requires-clause-predecessors g c =
    let types : List SegmentType = c.args.dbd.now.types in
    carried (λ v. ArePredecessors types (links_of types v) c.args.places.now c.args.namings.now) c.in_ok-found.ensures.read
    (λ e h. links-one types (λ m. ArePredecessors types m c.args.places.now c.args.namings.now) c.args.volume.now c.twins_fault.new.volume e h) c.requires.predecessors

pub returns-then-is_some-2-clause-read : goal.returns-then-is_some-2-clause-read
returns-then-is_some-2-clause-read g c = reads-join (Ok c.in_ok-found-2.found) c.in_ok-found.ensures.read c.in_ok-found-2.ensures.read

pub returns-then-is_some-2-clause-some : goal.returns-then-is_some-2-clause-some
returns-then-is_some-2-clause-some g c = λ sound.
    let d : Database = c.args.dbd.now in
    let v : VolumeState = c.args.volume.now in
    let back : TwinsLinkBack d.types (links_of d.types v) = from-none c.in_ok-found.found (sym c.is_some.ensures ∙ c.if-is_some.false) (c.in_ok-found.ensures.none sound) in
    found-there d v c.twins_fault.new.volume 6 c.in_ok-found-2.found (read-one c.in_ok-found.ensures.read sound) (none-6 d v (c.requires.before sound) back)
    (c.in_ok-found-2.ensures.some (still-sound c.in_ok-found.ensures.read sound))

pub returns-clause-read : goal.returns-clause-read
returns-clause-read g c = read-ok c.reached_fault.result (reads-join (Ok c.in_ok-found-2.found) c.in_ok-found.ensures.read c.in_ok-found-2.ensures.read)

pub returns-clause-none : goal.returns-clause-none
returns-clause-none g c = λ sound.
    let d : Database = c.args.dbd.now in
    let v : VolumeState = c.args.volume.now in
    let w : VolumeState = c.twins_fault.new.volume in
    let M : IsMatched d v c.args.places.now = c.requires.matched sound in
    let e : IsOne v w = read-one c.in_ok-found.ensures.read sound in
    let back : TwinsLinkBack d.types (links_of d.types v) = from-none c.in_ok-found.found (sym c.is_some.ensures ∙ c.if-is_some.false) (c.in_ok-found.ensures.none sound) in
    let keys-there : KeysAscend d.types (links_of d.types w) = from-none c.in_ok-found-2.found (sym c.is_some-2.ensures ∙ c.if-is_some-2.false) (c.in_ok-found-2.ensures.none (still-sound c.in_ok-found.ensures.read sound)) in
    let keys : KeysAscend d.types (links_of d.types v) = links-one d.types (KeysAscend d.types) w v (turned e) keys-there in
    let owners = subst (λ (owners : List ℕ). AreOwners d.types (links_of d.types v) c.args.places.now owners) (sym c.deref-2.ensures.value)
    (c.in_ok-owners.ensures.owners d v M (c.requires.predecessors sound) (c.requires.forwards sound)) in
    if-none-map c.reached_fault.result (λ reached. record { typed = M.typed; single = M.single; back = back; keys = keys; reached = reached }) (c.reached_fault.ensures.none d v M owners)

pub returns-clause-some : goal.returns-clause-some
returns-clause-some g c = λ sound.
    let d : Database = c.args.dbd.now in
    let v : VolumeState = c.args.volume.now in
    let w : VolumeState = c.twins_fault.new.volume in
    let M : IsMatched d v c.args.places.now = c.requires.matched sound in
    let e : IsOne v w = read-one c.in_ok-found.ensures.read sound in
    let back : TwinsLinkBack d.types (links_of d.types v) = from-none c.in_ok-found.found (sym c.is_some.ensures ∙ c.if-is_some.false) (c.in_ok-found.ensures.none sound) in
    let keys-there : KeysAscend d.types (links_of d.types w) = from-none c.in_ok-found-2.found (sym c.is_some-2.ensures ∙ c.if-is_some-2.false) (c.in_ok-found-2.ensures.none (still-sound c.in_ok-found.ensures.read sound)) in
    let keys : KeysAscend d.types (links_of d.types v) = links-one d.types (KeysAscend d.types) w v (turned e) keys-there in
    let owners = subst (λ (owners : List ℕ). AreOwners d.types (links_of d.types v) c.args.places.now owners) (sym c.deref-2.ensures.value)
    (c.in_ok-owners.ensures.owners d v M (c.requires.predecessors sound) (c.requires.forwards sound)) in
    found-here d v 7 c.reached_fault.result (none-7 d v (none-6 d v (c.requires.before sound) back) keys) (c.reached_fault.ensures.some d v M owners)

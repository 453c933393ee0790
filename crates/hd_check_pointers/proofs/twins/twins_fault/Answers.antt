use Rattle.std.proofs.Common.{◌≡◌, ◌<◌, ℕ, List, Ok, IsTrue, length, inl, inr, sym, subst, ◌∙◌, arith}
use Rattle.std.proofs.lemmas.Bool.{cases_lt}
use Rattle.hd_dbd.specs.Types.{SegmentType}
use Rattle.hd_dbd.specs.Hierarchy.{Database}
use Rattle.hd_volume.specs.Volumes.{VolumeState}
use Rattle.hd_volume.proofs.CallSteps.{read-none, read-ok, reads-join}
use Rattle.hd_volume.proofs.PutLemmas.{if-some-map}
use Rattle.hd_links.specs.Links.{Links}
use Rattle.hd_links.specs.Pointers.{Precedes}
use Rattle.hd_image.specs.Records.{links_of}
use Rattle.hd_image.proofs.OneImage.{links-same}
use Rattle.hd_check_blocks.specs.declared.places.Place.{Place}
use Rattle.hd_check_pointers.specs.Tables.{place_at, naming_at, AreOwners}
use Rattle.hd_check_pointers.specs.Twins.{AreTwinsRight, AreTwinsWrong}
use Rattle.hd_check_pointers.proofs.RecordSteps.{from-none, some-none}
use Rattle.hd_check_pointers.proofs.PlaceNumbers.{matched-same}
use Rattle.hd_check_pointers.proofs.TwinFaults.{wrong-least, link-back, before-right, all-right}
use Rattle.hd_check_pointers.proofs.twins.twins_fault.Goals as goal

pub returns-then-is_some-clause-some : goal.returns-then-is_some-clause-some
returns-then-is_some-clause-some g c = λ sound.
    let d : Database = c.args.dbd.now in
    let v : VolumeState = c.args.volume.now in
    let M = c.requires.matched sound in
    let first = M.volume.formatted.header.first in
    if-some-map c.last_root_fault-roots.result (λ f w. wrong-least d v 0 (λ a less. absurd (omega arith)) f w)
    (c.last_root_fault-roots.ensures.some d v M (c.requires.forwards sound) (c.requires.owners sound) (c.first_root.ensures sound first) (c.last_root.ensures sound first))

pub loop-number-init : goal.loop-number-init
loop-number-init g c = record {
  read = read-none c.args.volume.now 0;
  roots = λ sound.
      (let M = c.requires.matched sound in
      let first = M.volume.formatted.header.first in
      from-none c.last_root_fault-roots.result (sym c.is_some.ensures ∙ c.if-is_some.false)
      (c.last_root_fault-roots.ensures.none c.args.dbd.now c.args.volume.now M (c.requires.forwards sound) (c.requires.owners sound) (c.first_root.ensures sound first) (c.last_root.ensures sound first)));
  right = λ sound j low. absurd (omega arith);
}

pub twin_links_fault-requires-clause-matched : goal.twin_links_fault-requires-clause-matched
twin_links_fault-requires-clause-matched g c = λ now.
    let i = c.loop-number.invariant in
    let sound : IsTrue c.args.volume.now.is_sound = rw (← i.read.call.sound) now in
    matched-same c.args.dbd.now c.args.volume.now c.loop-number.volume c.args.places.now (i.read.image now) i.read.call.size i.read.call.sizes (c.requires.matched sound)

pub twin_links_fault-requires-clause-owners : goal.twin_links_fault-requires-clause-owners
twin_links_fault-requires-clause-owners g c = λ now.
    let i = c.loop-number.invariant in
    let types : List SegmentType = c.args.dbd.now.types in
    let sound : IsTrue c.args.volume.now.is_sound = rw (← i.read.call.sound) now in
    let same = links-same types c.args.volume.now c.loop-number.volume (i.read.image now) i.read.call.size i.read.call.sizes in
    subst (λ (m : Links). AreOwners types m c.args.places.now c.args.owners.now) (sym same) (c.requires.owners sound)

pub twin_links_fault-requires-clause-precedes : goal.twin_links_fault-requires-clause-precedes
twin_links_fault-requires-clause-precedes g c = λ now.
    let i = c.loop-number.invariant in
    let types : List SegmentType = c.args.dbd.now.types in
    let sound : IsTrue c.args.volume.now.is_sound = rw (← i.read.call.sound) now in
    let same = links-same types c.args.volume.now c.loop-number.volume (i.read.image now) i.read.call.size i.read.call.sizes in
    let n : ℕ = c.loop-number.number in
    let test = c.loop-number-test.true in
    let least = c.min-number-end.ensures in
    let within : n < length c.args.places.now = omega arith in
    subst (λ (m : Links). Precedes types m (naming_at c.args.namings.now n).holder (place_at c.args.places.now n).address) (sym same) ((c.requires.predecessors sound).holder n within)

pub returns-then-is_some-2-clause-none : goal.returns-then-is_some-2-clause-none
returns-then-is_some-2-clause-none g c = λ sound. some-none _ c.in_ok-found.found (sym c.is_some-in-loop-number.ensures ∙ c.if-is_some-2.true)

pub returns-then-is_some-2-clause-read : goal.returns-then-is_some-2-clause-read
returns-then-is_some-2-clause-read g c = reads-join (Ok c.in_ok-found.found) c.loop-number.invariant.read c.in_ok-found.ensures.read

pub returns-then-is_some-2-clause-some : goal.returns-then-is_some-2-clause-some
returns-then-is_some-2-clause-some g c = λ sound.
    let d : Database = c.args.dbd.now in
    let v : VolumeState = c.args.volume.now in
    let w : VolumeState = c.loop-number.volume in
    let i = c.loop-number.invariant in
    let ps : List Place = c.args.places.now in
    let n : ℕ = c.loop-number.number in
    let now : IsTrue w.is_sound = rw i.read.call.sound sound in
    let same = links-same d.types v w (i.read.image now) i.read.call.size i.read.call.sizes in
    let test = c.loop-number-test.true in
    let least = c.min-number-end.ensures in
    let within : n < length ps = omega arith in
    let M = c.requires.matched sound in
    if-some-map c.in_ok-found.found
    (λ f x. wrong-least d v (place_at ps n).address (before-right d v ps M (i.roots sound) n within (i.right sound)) f
    (subst (λ (m : Links). AreTwinsWrong d.types m (place_at ps n).address f) same x))
    (c.in_ok-found.ensures.some now)

pub loop-number-preserved : goal.loop-number-preserved
loop-number-preserved g c =
    let types : List SegmentType = c.args.dbd.now.types in
    let v : VolumeState = c.args.volume.now in
    let w : VolumeState = c.loop-number.volume in
    let i = c.loop-number.invariant in
    let ps : List Place = c.args.places.now in
    let n : ℕ = c.loop-number.number in
    record {
      read = read-ok 0 (reads-join (Ok c.in_ok-found.found) i.read c.in_ok-found.ensures.read);
      roots = i.roots;
      right = λ sound j low. elim (cases_lt j n) [
        | inl before ↦ i.right sound j before
        | inr high ↦
            (let now : IsTrue w.is_sound = rw i.read.call.sound sound in
            let same = links-same types v w (i.read.image now) i.read.call.size i.read.call.sizes in
            let at : j ≡ n = omega arith in
            let own : AreTwinsRight types (links_of types w) (place_at ps n).address =
            from-none {P = AreTwinsRight types (links_of types w) (place_at ps n).address} c.in_ok-found.found (sym c.is_some-in-loop-number.ensures ∙ c.if-is_some-2.false) (c.in_ok-found.ensures.none now) in
            subst (λ (k : ℕ). AreTwinsRight types (links_of types v) (place_at ps k).address) (sym at) (subst (λ (m : Links). AreTwinsRight types m (place_at ps n).address) same own))
      ];
    }

pub returns-clause-none : goal.returns-clause-none
returns-clause-none g c = λ sound.
    let d : Database = c.args.dbd.now in
    let v : VolumeState = c.args.volume.now in
    let i = c.loop-number.invariant in
    let end = c.loop-number-test.false in
    let least = c.min-number-end.ensures in
    let many = (c.requires.predecessors sound).as_many in
    link-back d v (all-right d v c.args.places.now (c.requires.matched sound) (i.roots sound) (λ j within. i.right sound j (omega arith)))

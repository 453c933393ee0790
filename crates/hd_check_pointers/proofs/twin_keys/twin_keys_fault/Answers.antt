use Rattle.std.proofs.Common.{◌≡◌, ◌<◌, ℕ, List, Ok, IsTrue, length, inl, inr, sym, subst, ◌∙◌, arith}
use Rattle.std.proofs.lemmas.Bool.{cases_lt}
use Rattle.hd_dbd.specs.Types.{SegmentType}
use Rattle.hd_dbd.specs.Hierarchy.{Database}
use Rattle.hd_volume.specs.Volumes.{VolumeState}
use Rattle.hd_volume.proofs.CallSteps.{read-ok, reads-join}
use Rattle.hd_volume.proofs.PutLemmas.{if-some-map}
use Rattle.hd_links.specs.Links.{Links}
use Rattle.hd_image.specs.Records.{links_of}
use Rattle.hd_image.specs.PointerFaults.{IsOutOfOrder}
use Rattle.hd_image.proofs.OneImage.{links-same}
use Rattle.hd_check_blocks.specs.declared.places.Place.{Place}
use Rattle.hd_check_blocks.specs.Phases.{IsLeastOf}
use Rattle.hd_check_pointers.specs.Tables.{place_at, naming_at}
use Rattle.hd_check_pointers.specs.Keys.{IsLastKey, IsKeyRight}
use Rattle.hd_check_pointers.proofs.RecordSteps.{from-none}
use Rattle.hd_check_pointers.proofs.PlaceNumbers.{matched-same}
use Rattle.hd_check_pointers.proofs.KeyOrder.{order-least, keys-ascend}
use Rattle.hd_check_pointers.proofs.twin_keys.twin_keys_fault.Goals as goal

pub key_fault-requires-clause-matched : goal.key_fault-requires-clause-matched
key_fault-requires-clause-matched g c = λ now.
    let i = c.loop-number.invariant in
    let sound : IsTrue c.args.volume.now.is_sound = rw (← i.read.call.sound) now in
    matched-same c.args.dbd.now c.args.volume.now c.loop-number.volume c.args.places.now (i.read.image now) i.read.call.size i.read.call.sizes (c.requires.matched sound)

pub key_fault-requires-clause-known : goal.key_fault-requires-clause-known
key_fault-requires-clause-known g c = λ now.
    let i = c.loop-number.invariant in
    let types : List SegmentType = c.args.dbd.now.types in
    let sound : IsTrue c.args.volume.now.is_sound = rw (← i.read.call.sound) now in
    subst (λ (m : Links). IsLastKey types m c.loop-number.last) (sym (links-same types c.args.volume.now c.loop-number.volume (i.read.image now) i.read.call.size i.read.call.sizes)) (i.known sound)

pub returns-then-is_some-clause-read : goal.returns-then-is_some-clause-read
returns-then-is_some-clause-read g c = reads-join (Ok c.in_ok-found.found) c.loop-number.invariant.read c.in_ok-found.ensures.read

pub returns-then-is_some-clause-some : goal.returns-then-is_some-clause-some
returns-then-is_some-clause-some g c = λ sound.
    let d : Database = c.args.dbd.now in
    let v : VolumeState = c.args.volume.now in
    let w : VolumeState = c.loop-number.volume in
    let i = c.loop-number.invariant in
    let ps : List Place = c.args.places.now in
    let n : ℕ = c.loop-number.number in
    let now : IsTrue w.is_sound = rw i.read.call.sound sound in
    let same = links-same d.types v w (i.read.image now) i.read.call.size i.read.call.sizes in
    let test = c.loop-number-test.true in
    let least = c.min-number-end.ensures in
    let within : n < length ps = omega arith in
    let holder : ℕ = (naming_at c.args.namings.now n).holder in
    if-some-map c.in_ok-found.found
    (λ f x. subst (IsLeastOf d v 6) (sym x.0) (order-least d v ps (c.requires.matched sound) n holder within (i.right sound)
    (subst (λ (m : Links). IsOutOfOrder d.types m (place_at ps n).address holder) same x.1)))
    (c.in_ok-found.ensures.some now)

pub loop-number-preserved : goal.loop-number-preserved
loop-number-preserved g c =
    let types : List SegmentType = c.args.dbd.now.types in
    let v : VolumeState = c.args.volume.now in
    let w : VolumeState = c.loop-number.volume in
    let i = c.loop-number.invariant in
    let ps : List Place = c.args.places.now in
    let n : ℕ = c.loop-number.number in
    record {
      read = read-ok 0 (reads-join (Ok c.in_ok-found.found) i.read c.in_ok-found.ensures.read);
      right = λ sound j low. elim (cases_lt j n) [
        | inl before ↦ i.right sound j before
        | inr high ↦
            (let now : IsTrue w.is_sound = rw i.read.call.sound sound in
            let same = links-same types v w (i.read.image now) i.read.call.size i.read.call.sizes in
            let at : j ≡ n = omega arith in
            let own : IsKeyRight types (links_of types w) (place_at ps n).address = from-none c.in_ok-found.found (sym c.is_some.ensures ∙ c.if-is_some.false) (c.in_ok-found.ensures.none now) in
            subst (λ (k : ℕ). IsKeyRight types (links_of types v) (place_at ps k).address) (sym at) (subst (λ (m : Links). IsKeyRight types m (place_at ps n).address) same own))
      ];
      known = λ sound.
          (let now : IsTrue w.is_sound = rw i.read.call.sound sound in
          let same = links-same types v w (i.read.image now) i.read.call.size i.read.call.sizes in
          let own : IsLastKey types (links_of types w) c.key_fault.new.last = from-none c.in_ok-found.found (sym c.is_some.ensures ∙ c.if-is_some.false) (c.in_ok-found.ensures.known now) in
          subst (λ (m : Links). IsLastKey types m c.key_fault.new.last) same own);
    }

pub returns-clause-none : goal.returns-clause-none
returns-clause-none g c = λ sound.
    let i = c.loop-number.invariant in
    let end = c.loop-number-test.false in
    let least = c.min-number-end.ensures in
    let many = (c.requires.predecessors sound).as_many in
    keys-ascend c.args.dbd.now c.args.volume.now c.args.places.now (c.requires.matched sound) (λ j within. i.right sound j (omega arith))

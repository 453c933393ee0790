use Rattle.std.proofs.Common.{◌≡◌, ◌<◌, ◌+◌, ◌++◌, [], ℕ, List, Ok, Err, Result, Vec, Global, IsTrue, IfNone, IfSome, length, sym, ap, subst, ◌∙◌, arith}
use Rattle.std.proofs.lemmas.Result.{err_from_is_err_and}
use Rattle.hd_dbd.specs.declared.answer.Refused.{Refused}
use Rattle.hd_volume.specs.Calls.{IsRead}
use Rattle.hd_links.specs.Pointers.{Precedes}
use Rattle.hd_check_blocks.specs.declared.fault.Fault.{Fault}
use Rattle.hd_dbd.specs.Types.{SegmentType}
use Rattle.hd_dbd.specs.Hierarchy.{Database}
use Rattle.hd_volume.specs.Volumes.{VolumeState}
use Rattle.hd_volume.proofs.CallSteps.{read-none, read-ok, reads-join}
use Rattle.hd_links.specs.Links.{Links}
use Rattle.hd_image.specs.Records.{links_of}
use Rattle.hd_image.proofs.OneImage.{links-same}
use Rattle.hd_check_blocks.specs.declared.places.Place.{Place}
use Rattle.hd_check_blocks.specs.Listing.{faults_of}
use Rattle.hd_check_blocks.proofs.Listing.{AreStandingAmong, IsSeen, seen-more, seen-all}
use Rattle.hd_check_pointers.specs.Tables.{place_at, naming_at}
use Rattle.hd_check_pointers.specs.Keys.{IsLastKey, IsKeyRight, IsKeyWrong}
use Rattle.hd_check_pointers.proofs.PlaceNumbers.{matched-same}
use Rattle.hd_check_pointers.proofs.RecordLists.{none-seen}
use Rattle.hd_check_pointers.proofs.TwinLists.{key-standing, sixth-segment, last-kept, read-memory}
use Rattle.hd_check_pointers.proofs.twin_keys.twin_keys_faults.Goals as goal

pub loop-number-init : goal.loop-number-init
loop-number-init g c = record {
  read = read-none c.args.volume.now 0;
  listed = λ sound. subst (AreStandingAmong c.args.dbd.now c.args.volume.now 6 (λ k a. IsSeen c.args.places.now 0 a)) (sym c.new-faults.ensures.items)
      (none-seen c.args.dbd.now c.args.volume.now 6 c.args.places.now (sixth-segment c.args.dbd.now c.args.volume.now));
  known = λ sound some. absurd (some c.no_key-last.ensures);
}

pub key_fault-requires-clause-matched : goal.key_fault-requires-clause-matched
key_fault-requires-clause-matched g c = λ now.
    let i = c.loop-number.invariant in
    let sound : IsTrue c.args.volume.now.is_sound = rw (← i.read.call.sound) now in
    matched-same c.args.dbd.now c.args.volume.now c.loop-number.volume c.args.places.now (i.read.image now) i.read.call.size i.read.call.sizes (c.requires.matched sound)

pub key_fault-requires-clause-known : goal.key_fault-requires-clause-known
key_fault-requires-clause-known g c = λ now.
    let i = c.loop-number.invariant in
    let types : List SegmentType = c.args.dbd.now.types in
    let sound : IsTrue c.args.volume.now.is_sound = rw (← i.read.call.sound) now in
    subst (λ (m : Links). IsLastKey types m c.loop-number.last) (sym (links-same types c.args.volume.now c.loop-number.volume (i.read.image now) i.read.call.size i.read.call.sizes)) (i.known sound)

pub key_fault-requires-clause-precedes : goal.key_fault-requires-clause-precedes
key_fault-requires-clause-precedes g c = λ now.
    let i = c.loop-number.invariant in
    let types : List SegmentType = c.args.dbd.now.types in
    let sound : IsTrue c.args.volume.now.is_sound = rw (← i.read.call.sound) now in
    let same = links-same types c.args.volume.now c.loop-number.volume (i.read.image now) i.read.call.size i.read.call.sizes in
    let n : ℕ = c.loop-number.number in
    let test = c.loop-number-test.true in
    let least = c.min-number-end.ensures in
    let within : n < length c.args.places.now = omega arith in
    subst (λ (m : Links). Precedes types m (naming_at c.args.namings.now n).holder (place_at c.args.places.now n).address) (sym same) ((c.requires.predecessors sound).holder n within)

pub returns-in_err-list_fault-clause-read : goal.returns-in_err-list_fault-clause-read
returns-in_err-list_fault-clause-read g c =
    let p = err_from_is_err_and c.from_residual-in_err-list_fault.result c.from_residual-in_err-list_fault.ensures.1 in
    subst (λ (r : Result (Vec Fault Global) Refused). IsRead {T = Vec Fault Global} c.args.volume.now r c.key_fault.new.volume) (sym (p.1 ∙ ap Err (p.2 ∙ c.in_err-list_fault.ensures.refusal)))
    (read-memory (reads-join (Ok c.in_ok-found.found) c.loop-number.invariant.read c.in_ok-found.ensures.read))

pub loop-number-preserved : goal.loop-number-preserved
loop-number-preserved g c =
    let d : Database = c.args.dbd.now in
    let types : List SegmentType = d.types in
    let v : VolumeState = c.args.volume.now in
    let w : VolumeState = c.loop-number.volume in
    let i = c.loop-number.invariant in
    let ps : List Place = c.args.places.now in
    let n : ℕ = c.loop-number.number in
    let holder : ℕ = (naming_at c.args.namings.now n).holder in
    record {
      read = read-ok 0 (reads-join (Ok c.in_ok-found.found) i.read c.in_ok-found.ensures.read);
      listed = λ sound.
          (let now : IsTrue w.is_sound = rw i.read.call.sound sound in
          let same = links-same types v w (i.read.image now) i.read.call.size i.read.call.sizes in
          let test = c.loop-number-test.true in
          let least = c.min-number-end.ensures in
          let within : n < length ps = omega arith in
          let none : IfNone c.in_ok-found.found (IsKeyRight types (links_of types v) (place_at ps n).address) =
          subst (λ (m : Links). IfNone c.in_ok-found.found (IsKeyRight types m (place_at ps n).address)) same (c.in_ok-found.ensures.none now) in
          let some : IfSome c.in_ok-found.found (λ f. IsKeyWrong types (links_of types v) (place_at ps n).address holder f) =
          subst (λ (m : Links). IfSome c.in_ok-found.found (λ f. IsKeyWrong types m (place_at ps n).address holder f)) same (c.in_ok-found.ensures.some now) in
          subst (AreStandingAmong d v 6 (λ k a. IsSeen ps (n + 1) a)) (sym c.in_ok-list_fault.ensures.faults)
          (seen-more d v 6 ps (c.requires.matched sound).stand n c.loop-number.faults.items (faults_of c.in_ok-found.found) within (i.listed sound)
          (key-standing d v (place_at ps n).address holder c.in_ok-found.found none some)));
      known = λ sound.
          (let now : IsTrue w.is_sound = rw i.read.call.sound sound in
          let same = links-same types v w (i.read.image now) i.read.call.size i.read.call.sizes in
          let own : IfNone c.in_ok-found.found (IsLastKey types (links_of types v) c.key_fault.new.last) =
          subst (λ (m : Links). IfNone c.in_ok-found.found (IsLastKey types m c.key_fault.new.last)) same (c.in_ok-found.ensures.known now) in
          last-kept types (links_of types v) c.in_ok-found.found c.key_fault.new.last c.forget_where_some.new.last own c.forget_where_some.ensures.none c.forget_where_some.ensures.some);
    }

pub returns-clause-faults : goal.returns-clause-faults
returns-clause-faults g c = λ sound.
    let end = c.loop-number-test.false in
    let least = c.min-number-end.ensures in
    let many = (c.requires.predecessors sound).as_many in
    seen-all c.args.dbd.now c.args.volume.now 6 c.args.places.now (c.requires.matched sound).stand c.loop-number.number c.loop-number.faults.items (omega arith)
    (λ k a o of s. (sixth-segment c.args.dbd.now c.args.volume.now k a o of s).here) (c.loop-number.invariant.listed sound)

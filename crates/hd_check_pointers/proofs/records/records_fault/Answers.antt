use Rattle.std.proofs.Common.{◌≡◌, ◌<◌, ◌+◌, ◌++◌, ◌∷◌, [], ℕ, List, Ok, IsTrue, length, drop, inl, inr, refl, sym, ap, subst, ◌∙◌, arith}
use Rattle.std.proofs.lemmas.List.{drop_more, append-nil}
use Rattle.std.proofs.Math.ListN.{drop_of_length-le}
use Rattle.std.proofs.lemmas.Bool.{cases_lt}
use Rattle.hd_dbd.specs.Types.{SegmentType}
use Rattle.hd_dbd.specs.Hierarchy.{Database}
use Rattle.hd_volume.specs.Volumes.{VolumeState}
use Rattle.hd_volume.proofs.CallSteps.{read-ok, reads-join}
use Rattle.hd_volume.proofs.PutLemmas.{if-some-map}
use Rattle.hd_links.specs.Links.{Links, IsSegment}
use Rattle.hd_image.specs.Records.{links_of}
use Rattle.hd_image.proofs.OneImage.{links-same, volume-same}
use Rattle.hd_image.proofs.Roots.{header-code}
use Rattle.hd_check_blocks.specs.declared.places.Place.{Place}
use Rattle.hd_check_pointers.specs.Judging.{IsRecordRight, IsWrongRecord}
use Rattle.hd_check_pointers.specs.declared.namings.Naming.{Naming}
use Rattle.hd_check_pointers.specs.Namings.{segment_namings, namings_at, forwards_of}
use Rattle.hd_check_pointers.proofs.Noting.{forward-noted, place-noted, forwards-are}
use Rattle.hd_check_blocks.proofs.Lookups.{among}
use Rattle.hd_check_blocks.specs.Places.{place_at}
use Rattle.hd_check_blocks.proofs.PlaceLemmas.{places-same}
use Rattle.hd_check_pointers.proofs.RecordSteps.{from-none, some-none, before-right, all-right}
use Rattle.hd_check_pointers.proofs.TypedRecords.{typed, wrong-least}
use Rattle.hd_check_pointers.proofs.records.records_fault.Goals as goal

pub returns-then-is_some-clause-some : goal.returns-then-is_some-clause-some
returns-then-is_some-clause-some g c = λ sound.
    let d : Database = c.args.dbd.now in
    let v : VolumeState = c.args.volume.now in
    let first = (c.requires.of sound).formatted.header.first in
    if-some-map c.root_pointers_fault-roots.result (λ f w. wrong-least d v 0 refl (λ a less. absurd (omega arith)) f w)
    (c.root_pointers_fault-roots.ensures.some d v (c.requires.places sound) (c.first_root-first.ensures sound first) (c.last_root.ensures sound first))

pub record_fault-requires-clause-there : goal.record_fault-requires-clause-there
record_fault-requires-clause-there g c = λ now.
    let v : VolumeState = c.args.volume.now in
    let w : VolumeState = c.loop-place.volume in
    let i = c.loop-place.invariant in
    let types : List SegmentType = c.args.dbd.now.types in
    let sound : IsTrue v.is_sound = rw (← i.read.call.sound) now in
    let same = links-same types v w (i.read.image now) i.read.call.size i.read.call.sizes in
    let at = (c.requires.places sound).there (place_at c.args.places.now c.loop-place.place-index) (among c.args.places.now c.loop-place.place-index c.loop-place-test.true) in
    subst (λ (m : Links). IsSegment m (place_at c.args.places.now c.loop-place.place-index).address) (sym same) at.0

pub record_fault-requires-clause-of : goal.record_fault-requires-clause-of
record_fault-requires-clause-of g c = λ now.
    let i = c.loop-place.invariant in
    let sound : IsTrue c.args.volume.now.is_sound = rw (← i.read.call.sound) now in
    volume-same c.args.dbd.now c.args.volume.now c.loop-place.volume (i.read.image now) i.read.call.size i.read.call.sizes (c.requires.of sound)

pub returns-then-is_some-2-clause-none : goal.returns-then-is_some-2-clause-none
returns-then-is_some-2-clause-none g c = λ sound. some-none _ c.in_ok-found.found (sym c.is_some-in-loop-place.ensures ∙ c.if-is_some-2.true)

pub returns-then-is_some-2-clause-read : goal.returns-then-is_some-2-clause-read
returns-then-is_some-2-clause-read g c = reads-join (Ok c.in_ok-found.found) c.loop-place.invariant.read c.in_ok-found.ensures.read

pub returns-then-is_some-2-clause-some : goal.returns-then-is_some-2-clause-some
returns-then-is_some-2-clause-some g c = λ sound.
    let d : Database = c.args.dbd.now in
    let types : List SegmentType = d.types in
    let v : VolumeState = c.args.volume.now in
    let w : VolumeState = c.loop-place.volume in
    let i = c.loop-place.invariant in
    let ps : List Place = c.args.places.now in
    let n : ℕ = c.loop-place.place-index in
    let now : IsTrue w.is_sound = rw i.read.call.sound sound in
    let same = links-same types v w (i.read.image now) i.read.call.size i.read.call.sizes in
    let places = c.requires.places sound in
    let within : n < length ps = c.loop-place-test.true in
    let at = places.there (place_at ps n) (among ps n within) in
    if-some-map c.in_ok-found.found
    (λ f x. wrong-least d v (place_at ps n).address at.0.here (before-right types v ps places (i.roots sound) n within (i.right sound)) f
    (subst (λ (m : Links). IsWrongRecord types m (place_at ps n).address f) same x))
    (c.in_ok-found.ensures.some now (places-same types v w ps same places))

pub loop-place-preserved : goal.loop-place-preserved
loop-place-preserved g c =
    let types : List SegmentType = c.args.dbd.now.types in
    let v : VolumeState = c.args.volume.now in
    let w : VolumeState = c.loop-place.volume in
    let i = c.loop-place.invariant in
    let ps : List Place = c.args.places.now in
    let n : ℕ = c.loop-place.place-index in
    record {
      read = read-ok 0 (reads-join (Ok c.in_ok-found.found) i.read c.in_ok-found.ensures.read);
      roots = i.roots;
      right = λ sound j low. elim (cases_lt j n) [
        | inl before ↦ i.right sound j before
        | inr high ↦
            (let now : IsTrue w.is_sound = rw i.read.call.sound sound in
            let same = links-same types v w (i.read.image now) i.read.call.size i.read.call.sizes in
            let at : j ≡ n = omega arith in
            let own : IsRecordRight types (links_of types w) (place_at ps n).address =
            from-none c.in_ok-found.found (sym c.is_some-in-loop-place.ensures ∙ c.if-is_some-2.false) (c.in_ok-found.ensures.none now (places-same types v w ps same (c.requires.places sound))) in
            subst (λ (k : ℕ). IsRecordRight types (links_of types v) (place_at ps k).address) (sym at) (subst (λ (m : Links). IsRecordRight types m (place_at ps n).address) same own))
      ];
      forwards = λ sound.
          (let now : IsTrue w.is_sound = rw i.read.call.sound sound in
          let same = links-same types v w (i.read.image now) i.read.call.size i.read.call.sizes in
          let a : ℕ = (place_at ps n).address in
          let items : List ℕ = c.loop-place.forwards.items in
          let more : c.record_fault.new.forwards.items ≡ items ++ (links_of types v).forward a ∷ [] =
          c.in_ok-found.ensures.forwards now ∙ ap (λ (m : Links). items ++ m.forward a ∷ []) same in
          forward-noted (links_of types v) (place_at ps n) items c.record_fault.new.forwards.items (drop (n + 1) ps) more
          ∙ ap (λ (l : List Place). items ++ forwards_of (links_of types v) l) (sym (drop_more ps n (record { address = 0; code = 0 }) c.loop-place-test.true))
          ∙ i.forwards sound);
      namings = λ sound.
          (let now : IsTrue w.is_sound = rw i.read.call.sound sound in
          let same = links-same types v w (i.read.image now) i.read.call.size i.read.call.sizes in
          let a : ℕ = (place_at ps n).address in
          let items : List Naming = c.loop-place.namings.items in
          let more : c.record_fault.new.namings.items ≡ items ++ segment_namings types (links_of types v) a =
          c.in_ok-found.ensures.namings now ∙ ap (λ (m : Links). items ++ segment_namings types m a) same in
          place-noted types (links_of types v) (place_at ps n) items c.record_fault.new.namings.items (drop (n + 1) ps) more
          ∙ ap (λ (l : List Place). items ++ namings_at types (links_of types v) l) (sym (drop_more ps n (record { address = 0; code = 0 }) c.loop-place-test.true))
          ∙ i.namings sound);
    }

pub returns-clause-none : goal.returns-clause-none
returns-clause-none g c = λ sound.
    let types : List SegmentType = c.args.dbd.now.types in
    let v : VolumeState = c.args.volume.now in
    let i = c.loop-place.invariant in
    let end = c.loop-place-test.false in
    typed types (links_of types v) (header-code types v)
    (all-right types v c.args.places.now (c.requires.places sound) (i.roots sound) (λ j low. i.right sound j (omega arith)))

pub returns-then-is_some-2-clause-forwards : goal.returns-then-is_some-2-clause-forwards
returns-then-is_some-2-clause-forwards g c = λ sound. some-none _ c.in_ok-found.found (sym c.is_some-in-loop-place.ensures ∙ c.if-is_some-2.true)

pub returns-then-is_some-2-clause-namings : goal.returns-then-is_some-2-clause-namings
returns-then-is_some-2-clause-namings g c = λ sound. some-none _ c.in_ok-found.found (sym c.is_some-in-loop-place.ensures ∙ c.if-is_some-2.true)

pub returns-clause-forwards : goal.returns-clause-forwards
returns-clause-forwards g c = λ sound.
    let ps : List Place = c.args.places.now in
    let m : Links = links_of c.args.dbd.now.types c.args.volume.now in
    let items : List ℕ = c.loop-place.forwards.items in
    let end : drop c.loop-place.place-index ps ≡ [] = drop_of_length-le ps c.loop-place-test.false in
    forwards-are m ps items (sym (append-nil items) ∙ ap (λ (l : List Place). items ++ forwards_of m l) (sym end) ∙ c.loop-place.invariant.forwards sound)

pub returns-clause-namings : goal.returns-clause-namings
returns-clause-namings g c = λ sound.
    let ps : List Place = c.args.places.now in
    let types : List SegmentType = c.args.dbd.now.types in
    let m : Links = links_of types c.args.volume.now in
    let items : List Naming = c.loop-place.namings.items in
    let end : drop c.loop-place.place-index ps ≡ [] = drop_of_length-le ps c.loop-place-test.false in
    sym (append-nil items) ∙ ap (λ (l : List Place). items ++ namings_at types m l) (sym end) ∙ c.loop-place.invariant.namings sound

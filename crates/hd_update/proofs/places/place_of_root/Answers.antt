use Rattle.std.proofs.Common.{◌≡◌, ℕ, List, true, false, IsTrue, Ok, Option, Some, None, refl, ap, sym, subst, ◌∙◌}
use Rattle.std.specs.Prelude.{IfSome, is_some, option_map}
use Rattle.hd_dbd.specs.Hierarchy.{Database}
use Rattle.hd_dbd.specs.Segment.{Segment}
use Rattle.hd_dbd.specs.Rows.{key_of}
use Rattle.hd_dbd.specs.Forest.{Forest}
use Rattle.hd_volume.specs.Volumes.{VolumeState}
use Rattle.hd_volume.proofs.CallSteps.{read-ok, reads-join, if-ok}
use Rattle.hd_links.specs.Links.{Links, is_child_type}
use Rattle.hd_links.specs.Placed.{Placed, Holds}
use Rattle.hd_image.specs.Records.{links_of}
use Rattle.hd_image.specs.Holding.{HoldsPlaced}
use Rattle.hd_index.specs.Maps.{address_of, address_from}
use Rattle.hd_index.specs.declared.search.RootFrom.{RootFrom}
use Rattle.hd_index.specs.Changes.{IsLater, IsIndexOf, entries_for}
use Rattle.hd_index.proofs.ChangeLemmas.{set-index}
use Rattle.hd_changes.proofs.RootRows.{told-root}
use Rattle.hd_forest.specs.Twins.{IsBehind}
use Rattle.hd_forest.proofs.Reading.{after-read, sound-before, volume-kept, links-kept}
use Rattle.hd_update.proofs.Reading.{held_read}
use Rattle.hd_update.proofs.TwinGaps.{parent_of_type}
use Rattle.hd_update.proofs.PlaceChains.{gap_told}
use Rattle.hd_update.proofs.PlaceRoots.{next_none, behind_all}
use Rattle.hd_update.proofs.places.place_of_root.Goals as goal

-- what the index answered for the key of a new root
answered : (d : Database) (v : VolumeState) (f : Forest Placed) (new : Segment) (key : List ℕ) (r : Option RootFrom) → HoldsPlaced d v f → IsLater v → key ≡ key_of d.types new
    → (IsIndexOf d v → option_map (λ root. root.address) r ≡ address_from key (entries_for d v)) → address_from (key_of d.types new) (entries_for d v) ≡ option_map (λ root. root.address) r
answered d v f new key r H later same value =
    sym (value (set-index d v H.volume.size H.index later) ∙ ap (λ (k : List ℕ). address_from k (entries_for d v)) same)

pub place_before_root-requires : goal.place_before_root-requires
place_before_root-requires g c = record {
  next = λ now.
      (let d = c.args.dbd.now in
      let v = c.args.volume.now in
      let new : Segment = record { code = 1; bytes = c.args.bytes.now } in
      let read = c.in_ok-next.ensures.read in
      let sound = sound-before v c.next_from.new.volume read now in
      let T = c.requires.holds sound in
      let at = answered d v T.0 new c.key_of.result.now c.in_ok-next.field-0 T.1 T.2 c.key_of.ensures.value (c.in_ok-next.ensures.value sound)
      ∙ ap (option_map (λ (root : RootFrom). root.address)) c.in-Some.is in
      let equal = subst (λ (o : Option RootFrom). IfSome o (λ root. IsTrue v.is_sound → IsIndexOf d v → root.is_equal ≡ is_some (address_of c.key_of.result.now (entries_for d v)))) c.in-Some.is c.in_ok-next.ensures.equal in
      let told = equal sound (set-index d v T.1.volume.size T.1.index T.2) ∙ ap (λ (key : List ℕ). is_some (address_of key (entries_for d v))) c.key_of.ensures.value in
      (T.0, held_read d v c.next_from.new.volume read sound T.0 T.1, told-root d v T.0 (key_of d.types new) c.in-Some.next T.1 at told));
}

pub last_twin-requires-clause-of : goal.last_twin-requires-clause-of
last_twin-requires-clause-of g c =
    volume-kept c.args.dbd.now c.args.volume.now c.next_from.new.volume c.in_ok-next.ensures.read (λ sound. (let T = c.requires.holds sound in T.1.volume))

pub last_twin-requires-clause-holds : goal.last_twin-requires-clause-holds
last_twin-requires-clause-holds g c =
    links-kept c.args.dbd.now (λ m. (f : Forest Placed) × Holds c.args.dbd.now.types m f) c.args.volume.now c.next_from.new.volume c.in_ok-next.ensures.read
    (λ sound. (let T = c.requires.holds sound in (T.0, T.1.records)))

pub last_twin-requires-clause-typed : goal.last_twin-requires-clause-typed
last_twin-requires-clause-typed g c =
    links-kept c.args.dbd.now (λ m. is_child_type c.args.dbd.now.types (m.code 0) 1 ≡ true) c.args.volume.now c.next_from.new.volume c.in_ok-next.ensures.read
    (λ sound. (let T = c.requires.holds sound in (parent_of_type c.args.dbd.now c.args.volume.now T.0 T.1 None 1 tt refl).typed))

pub returns-in-Some-clause-value : goal.returns-in-Some-clause-value
returns-in-Some-clause-value g c =
    let new : Segment = record { code = 1; bytes = c.args.bytes.now } in
    if-ok c.place_before_root.result c.place_before_root.ensures.value (λ r value.
    gap_told c.args.dbd.now c.args.volume.now c.next_from.new.volume c.in_ok-next.ensures.read 0 false new r value)

pub returns-in_ok-twin-in-None-clause-read : goal.returns-in_ok-twin-in-None-clause-read
returns-in_ok-twin-in-None-clause-read g c =
    reads-join (Ok (Some c.in_ok-twin-in-None.twin)) c.in_ok-next.ensures.read (read-ok (Some c.in_ok-twin-in-None.twin) c.in_ok-twin-in-None.ensures.read)

pub returns-in_ok-twin-in-None-clause-value : goal.returns-in_ok-twin-in-None-clause-value
returns-in_ok-twin-in-None-clause-value g c sound =
    let d = c.args.dbd.now in
    let v = c.args.volume.now in
    let new : Segment = record { code = 1; bytes = c.args.bytes.now } in
    let T = c.requires.holds sound in
    let same = after-read d v c.next_from.new.volume c.in_ok-next.ensures.read sound in
    let lesser = next_none d v T.0 T.1 (key_of d.types new)
    (answered d v T.0 new c.key_of.result.now c.in_ok-next.field-0 T.1 T.2 c.key_of.ensures.value (c.in_ok-next.ensures.value sound)
    ∙ ap (option_map (λ (root : RootFrom). root.address)) c.in-None.is) in
    let chain : IsBehind (links_of d.types v) ((links_of d.types v).first_child 0 1) c.in_ok-twin-in-None.twin 0
    = subst (λ (k : Links). IsBehind k (k.first_child 0 1) c.in_ok-twin-in-None.twin 0) same.links (c.in_ok-twin-in-None.ensures.value same.sound) in
    (0, behind_all d v T.0 T.1 new refl lesser c.in_ok-twin-in-None.twin chain)

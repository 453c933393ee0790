use Rattle.std.proofs.Common.{ℕ, List, IsTrue, Ok, false, sym, subst, ◌∙◌}
use Rattle.hd_dbd.specs.Types.{SegmentType}
use Rattle.hd_volume.proofs.CallSteps.{read-ok, reads-join}
use Rattle.hd_links.specs.Links.{Links}
use Rattle.hd_links.specs.Pointers.{IsParentOfFirst, IsReached}
use Rattle.hd_image.specs.Records.{links_of}
use Rattle.hd_image.proofs.OneImage.{links-same, volume-same}
use Rattle.hd_check_blocks.specs.declared.places.Place.{Place}
use Rattle.hd_check_blocks.proofs.PlaceLemmas.{places-same}
use Rattle.hd_check_pointers.specs.Keys.{IsLastKey}
use Rattle.hd_check_walk.specs.Notes.{AreNoted}
use Rattle.hd_check_walk.specs.Walks.{IsFollowed, IsWalkedSoFar, IsEnd}
use Rattle.hd_check_walk.proofs.Chains.{when-some}
use Rattle.hd_check_walk.proofs.Children.{end-right}
use Rattle.hd_check_walk.proofs.walk.walk_type.Goals as goal

pub walk_twins-requires-clause-of : goal.walk_twins-requires-clause-of
walk_twins-requires-clause-of g c = λ now.
    let read = c.in_ok-pair.ensures.read in
    let sound : IsTrue c.args.volume.now.is_sound = rw (← read.call.sound) now in
    volume-same c.args.dbd.now c.args.volume.now c.children_named.new.volume (read.image now) read.call.size read.call.sizes (c.requires.of sound)

pub walk_twins-requires-clause-places : goal.walk_twins-requires-clause-places
walk_twins-requires-clause-places g c = λ now.
    let types : List SegmentType = c.args.dbd.now.types in
    let read = c.in_ok-pair.ensures.read in
    let sound : IsTrue c.args.volume.now.is_sound = rw (← read.call.sound) now in
    places-same types c.args.volume.now c.children_named.new.volume c.args.places.now (links-same types c.args.volume.now c.children_named.new.volume (read.image now) read.call.size read.call.sizes) (c.requires.places sound)

pub walk_twins-requires-clause-known : goal.walk_twins-requires-clause-known
walk_twins-requires-clause-known g c = λ now.
    let types : List SegmentType = c.args.dbd.now.types in
    let read = c.in_ok-pair.ensures.read in
    let sound : IsTrue c.args.volume.now.is_sound = rw (← read.call.sound) now in
    subst (λ (m : Links). IsLastKey types m c.args.last.now) (sym (links-same types c.args.volume.now c.children_named.new.volume (read.image now) read.call.size read.call.sizes)) (c.requires.known sound)

pub walk_twins-requires-clause-noted : goal.walk_twins-requires-clause-noted
walk_twins-requires-clause-noted g c = λ now.
    let types : List SegmentType = c.args.dbd.now.types in
    let read = c.in_ok-pair.ensures.read in
    let sound : IsTrue c.args.volume.now.is_sound = rw (← read.call.sound) now in
    subst (λ (m : Links). AreNoted types m c.args.places.now c.args.notes.now) (sym (links-same types c.args.volume.now c.children_named.new.volume (read.image now) read.call.size read.call.sizes)) (c.requires.noted sound)

pub walk_twins-requires-clause-parent : goal.walk_twins-requires-clause-parent
walk_twins-requires-clause-parent g c = λ now.
    let types : List SegmentType = c.args.dbd.now.types in
    let read = c.in_ok-pair.ensures.read in
    let sound : IsTrue c.args.volume.now.is_sound = rw (← read.call.sound) now in
    let same = links-same types c.args.volume.now c.children_named.new.volume (read.image now) read.call.size read.call.sizes in
    let parent : IsParentOfFirst types (links_of types c.args.volume.now) c.args.place.address c.args.child c.in-Some.pair.first = record {
      holder = (c.requires.there sound).0.here;
      typed = c.requires.typed sound;
      names = sym (when-some _ c.in_ok-pair.field-0 c.in-Some.pair c.in-Some.is (c.in_ok-pair.ensures.first sound));
    } in
    subst (λ (m : Links). IsParentOfFirst types m c.args.place.address c.args.child c.in-Some.pair.first) (sym same) parent

pub walk_twins-requires-clause-reached : goal.walk_twins-requires-clause-reached
walk_twins-requires-clause-reached g c = λ now.
    let types : List SegmentType = c.args.dbd.now.types in
    let read = c.in_ok-pair.ensures.read in
    let sound : IsTrue c.args.volume.now.is_sound = rw (← read.call.sound) now in
    let same = links-same types c.args.volume.now c.children_named.new.volume (read.image now) read.call.size read.call.sizes in
    subst (λ (m : Links). (n : ℕ) × IsReached types m n c.args.place.address) (sym same) (c.requires.reached sound)

pub returns-in-None-clause-read : goal.returns-in-None-clause-read
returns-in-None-clause-read g c = read-ok false (reads-join (Ok c.in_ok-found.found) c.in_ok-pair.ensures.read c.in_ok-found.ensures.read)

pub returns-in-Some-found-clause-read : goal.returns-in-Some-found-clause-read
returns-in-Some-found-clause-read g c = read-ok c.is_last_named.result (reads-join (Ok c.in_ok-found.found) c.in_ok-pair.ensures.read c.in_ok-found.ensures.read)

pub returns-in-Some-found-clause-known : goal.returns-in-Some-found-clause-known
returns-in-Some-found-clause-known g c = λ sound yes_is.
    let types : List SegmentType = c.args.dbd.now.types in
    let read = c.in_ok-pair.ensures.read in
    let now : IsTrue c.children_named.new.volume.is_sound = rw read.call.sound sound in
    let same = links-same types c.args.volume.now c.children_named.new.volume (read.image now) read.call.size read.call.sizes in
    subst (λ (m : Links). IsLastKey types m c.walk_twins.new.last) same (when-some _ c.in_ok-found.found c.in-Some-found.end c.in-Some-found.is (c.in_ok-found.ensures.known now))

pub returns-in-Some-found-clause-kept : goal.returns-in-Some-found-clause-kept
returns-in-Some-found-clause-kept g c = λ sound yes_is.
    let now : IsTrue c.children_named.new.volume.is_sound = rw c.in_ok-pair.ensures.read.call.sound sound in
    when-some _ c.in_ok-found.found c.in-Some-found.end c.in-Some-found.is (c.in_ok-found.ensures.kept now)

pub returns-in-Some-found-clause-first : goal.returns-in-Some-found-clause-first
returns-in-Some-found-clause-first g c = λ sound yes_is.
    let now : IsTrue c.children_named.new.volume.is_sound = rw c.in_ok-pair.ensures.read.call.sound sound in
    subst (IsFollowed c.args.places.now c.walk_twins.new.holders.items c.args.place.address c.args.child)
    (when-some _ c.in_ok-pair.field-0 c.in-Some.pair c.in-Some.is (c.in_ok-pair.ensures.first sound))
    (when-some _ c.in_ok-found.found c.in-Some-found.end c.in-Some-found.is (c.in_ok-found.ensures.first now))

pub returns-in-Some-found-clause-last : goal.returns-in-Some-found-clause-last
returns-in-Some-found-clause-last g c = λ sound yes_is kept.
    let types : List SegmentType = c.args.dbd.now.types in
    let read = c.in_ok-pair.ensures.read in
    let now : IsTrue c.children_named.new.volume.is_sound = rw read.call.sound sound in
    let same = links-same types c.args.volume.now c.children_named.new.volume (read.image now) read.call.size read.call.sizes in
    let end : IsEnd (links_of types c.args.volume.now) c.in-Some.pair.first c.in-Some-found.end =
    subst (λ (m : Links). IsEnd m c.in-Some.pair.first c.in-Some-found.end) same (when-some _ c.in_ok-found.found c.in-Some-found.end c.in-Some-found.is (c.in_ok-found.ensures.end now)) in
    end-right (links_of types c.args.volume.now) c.args.place.address c.args.child c.in-Some.pair.first c.in-Some-found.end
    (when-some _ c.in_ok-pair.field-0 c.in-Some.pair c.in-Some.is (c.in_ok-pair.ensures.first sound))
    (c.is_last_named.ensures yes_is kept ∙ when-some _ c.in_ok-pair.field-0 c.in-Some.pair c.in-Some.is (c.in_ok-pair.ensures.last sound)) end

pub returns-in-Some-found-clause-walked : goal.returns-in-Some-found-clause-walked
returns-in-Some-found-clause-walked g c = λ sound yes_is.
    let types : List SegmentType = c.args.dbd.now.types in
    let ps : List Place = c.args.places.now in
    let read = c.in_ok-pair.ensures.read in
    let now : IsTrue c.children_named.new.volume.is_sound = rw read.call.sound sound in
    let same = links-same types c.args.volume.now c.children_named.new.volume (read.image now) read.call.size read.call.sizes in
    subst (λ (m : Links). (in_hand : ℕ) → IsWalkedSoFar types m ps 0 in_hand c.args.waiting.now.items c.args.holders.now.items → IsWalkedSoFar types m ps 0 in_hand c.walk_twins.new.waiting.items c.walk_twins.new.holders.items) same
    (when-some _ c.in_ok-found.found c.in-Some-found.end c.in-Some-found.is (c.in_ok-found.ensures.walked now))

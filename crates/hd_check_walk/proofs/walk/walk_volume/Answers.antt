use Rattle.std.proofs.Common.{◌≡◌, ◌≢◌, ◌<◌, ◌++◌, ◌∷◌, [], ℕ, Bool, false, List, Result, Ok, Err, IsTrue, length, sym, ap, subst, ◌∙◌}
use Rattle.std.specs.Prelude.{slice_index}
use Rattle.std.proofs.lemmas.List.{nil_from_length}
use Rattle.std.proofs.lemmas.Result.{err_from_is_err_and}
use Rattle.hd_dbd.specs.declared.answer.Refused.{Refused}
use Rattle.hd_dbd.specs.Types.{SegmentType}
use Rattle.hd_dbd.specs.Hierarchy.{Database}
use Rattle.hd_volume.specs.Volumes.{VolumeState}
use Rattle.hd_volume.specs.Calls.{IsRead}
use Rattle.hd_volume.proofs.CallSteps.{read-ok, reads-join}
use Rattle.hd_links.specs.Links.{Links}
use Rattle.hd_links.specs.Pointers.{IsReached}
use Rattle.hd_image.specs.Records.{links_of}
use Rattle.hd_image.proofs.OneImage.{links-same, volume-same}
use Rattle.hd_check_blocks.specs.declared.places.Place.{Place}
use Rattle.hd_check_blocks.specs.Places.{place_at}
use Rattle.hd_check_blocks.proofs.PlaceLemmas.{places-same}
use Rattle.hd_check_pointers.specs.Tables.{nobody}
use Rattle.hd_check_pointers.specs.Keys.{IsLastKey}
use Rattle.hd_check_walk.specs.Notes.{AreNoted, AreChildrenNoted}
use Rattle.hd_check_walk.specs.Walks.{IsWalkedSoFar}
use Rattle.hd_check_walk.proofs.Staying.{children-stay}
use Rattle.hd_check_walk.proofs.Waiting.{none-walked, in-hand, waiting-reached}
use Rattle.hd_check_walk.proofs.Linked.{walked-linked}
use Rattle.hd_check_walk.proofs.walk.walk_volume.Goals as goal
use Rattle.hd_check_walk.proofs.walk.walk_volume.Goals.{else-loop-turn-test, then-loop-turn-test+in-Some+in_ok-walk_children+else-not-branch-2+else-turn-turn-end}

pub loop-turn-init : goal.loop-turn-init
loop-turn-init g c =
    let types : List SegmentType = c.args.dbd.now.types in
    let m : Links = links_of types c.args.volume.now in
    let ps : List Place = c.args.places.now in
    let e = c.in_ok-walk_roots.ensures in
    let yes = c.if-not-branch.false in
    record {
      as_many = e.as_many;
      read = read-ok 0 e.read;
      known = λ sound. e.known sound yes;
      roots = λ sound. e.header sound yes;
      walked = λ sound. e.walked sound yes (length ps) (none-walked types m ps c.in_ok-holders.holders.items 0 (length ps) c.new-waiting.result.items c.in_ok-holders.ensures.none c.new-waiting.ensures.items);
    }

pub returns-in_default-clause-read : goal.returns-in_default-clause-read
returns-in_default-clause-read g c = read-ok c.all_held.result c.loop-turn.invariant.read

pub returns-in_default-clause-linked : goal.returns-in_default-clause-linked
returns-in_default-clause-linked g c = λ sound all.
    let d : Database = c.args.dbd.now in
    let v : VolumeState = c.args.volume.now in
    let ps : List Place = c.args.places.now in
    let i = c.loop-turn.invariant in
    let hs : List ℕ = c.loop-turn.holders.items in
    let held = subst (λ (xs : List ℕ). (k : ℕ) → k < length xs → slice_index xs k ≢ nobody) c.deref-in_default.ensures.value (c.all_held.ensures all) in
    let empty : c.loop-turn.waiting.items ≡ [] = nil_from_length c.loop-turn.waiting.items (sym c.loop-turn.waiting.ok.0 ∙ c.in_default.ensures.cases.0) in
    walked-linked d v ps hs (c.requires.of sound) (c.requires.places sound) i.as_many held (i.roots sound)
    (subst (λ (ws : List ℕ). IsWalkedSoFar d.types (links_of d.types v) ps 0 (length ps) ws hs) empty (i.walked sound))

pub walk_children-requires-clause-as_many : goal.walk_children-requires-clause-as_many
walk_children-requires-clause-as_many g c = c.loop-turn.invariant.as_many

pub walk_children-requires-clause-of : goal.walk_children-requires-clause-of
walk_children-requires-clause-of g c = λ now.
    let i = c.loop-turn.invariant in
    let sound : IsTrue c.args.volume.now.is_sound = rw (← i.read.call.sound) now in
    volume-same c.args.dbd.now c.args.volume.now c.loop-turn.volume (i.read.image now) i.read.call.size i.read.call.sizes (c.requires.of sound)

pub walk_children-requires-clause-places : goal.walk_children-requires-clause-places
walk_children-requires-clause-places g c = λ now.
    let types : List SegmentType = c.args.dbd.now.types in
    let v : VolumeState = c.args.volume.now in
    let w : VolumeState = c.loop-turn.volume in
    let i = c.loop-turn.invariant in
    let sound : IsTrue v.is_sound = rw (← i.read.call.sound) now in
    places-same types v w c.args.places.now (links-same types v w (i.read.image now) i.read.call.size i.read.call.sizes) (c.requires.places sound)

pub walk_children-requires-clause-known : goal.walk_children-requires-clause-known
walk_children-requires-clause-known g c = λ now.
    let types : List SegmentType = c.args.dbd.now.types in
    let v : VolumeState = c.args.volume.now in
    let w : VolumeState = c.loop-turn.volume in
    let i = c.loop-turn.invariant in
    let sound : IsTrue v.is_sound = rw (← i.read.call.sound) now in
    subst (λ (m : Links). IsLastKey types m c.loop-turn.last) (sym (links-same types v w (i.read.image now) i.read.call.size i.read.call.sizes)) (i.known sound)

pub walk_children-requires-clause-noted : goal.walk_children-requires-clause-noted
walk_children-requires-clause-noted g c = λ now.
    let types : List SegmentType = c.args.dbd.now.types in
    let v : VolumeState = c.args.volume.now in
    let w : VolumeState = c.loop-turn.volume in
    let i = c.loop-turn.invariant in
    let sound : IsTrue v.is_sound = rw (← i.read.call.sound) now in
    subst (λ (m : Links). AreNoted types m c.args.places.now c.args.notes.now) (sym (links-same types v w (i.read.image now) i.read.call.size i.read.call.sizes)) (c.requires.noted sound)

pub walk_children-requires-clause-children : goal.walk_children-requires-clause-children
walk_children-requires-clause-children g c = λ now.
    let types : List SegmentType = c.args.dbd.now.types in
    let v : VolumeState = c.args.volume.now in
    let w : VolumeState = c.loop-turn.volume in
    let i = c.loop-turn.invariant in
    let sound : IsTrue v.is_sound = rw (← i.read.call.sound) now in
    subst (λ (m : Links). AreChildrenNoted types m c.args.places.now c.args.notes.now c.args.named.now) (sym (links-same types v w (i.read.image now) i.read.call.size i.read.call.sizes)) (c.requires.children sound)

pub walk_children-requires-clause-reached : goal.walk_children-requires-clause-reached
walk_children-requires-clause-reached g c = λ now.
    let types : List SegmentType = c.args.dbd.now.types in
    let v : VolumeState = c.args.volume.now in
    let w : VolumeState = c.loop-turn.volume in
    let ps : List Place = c.args.places.now in
    let i = c.loop-turn.invariant in
    let n : ℕ = c.in-Some.number in
    let hs : List ℕ = c.loop-turn.holders.items in
    let rest : List ℕ = c.pop.new.self.items in
    let sound : IsTrue v.is_sound = rw (← i.read.call.sound) now in
    let walked : IsWalkedSoFar types (links_of types v) ps 0 (length ps) (rest ++ n ∷ []) hs = subst (λ (ws : List ℕ). IsWalkedSoFar types (links_of types v) ps 0 (length ps) ws hs) c.in-Some.ensures.items (i.walked sound) in
    subst (λ (m : Links). (k : ℕ) × IsReached types m k (place_at ps n).address) (sym (links-same types v w (i.read.image now) i.read.call.size i.read.call.sizes))
    (waiting-reached types (links_of types v) ps hs n 0 (length ps) rest walked)

pub returns-in_err-walk_children-clause-read : goal.returns-in_err-walk_children-clause-read
returns-in_err-walk_children-clause-read g c =
    let p = err_from_is_err_and c.from_residual-in_err-walk_children.result c.from_residual-in_err-walk_children.ensures.1 in
    subst (λ (r : Result Bool Refused). IsRead {T = Bool} c.args.volume.now r c.walk_children.new.volume) (sym (p.1 ∙ ap Err p.2))
    (reads-join (Err c.in_err-walk_children.field-0.0) c.loop-turn.invariant.read c.in_err-walk_children.ensures.read)

pub returns-then-not-branch-2-clause-read : goal.returns-then-not-branch-2-clause-read
returns-then-not-branch-2-clause-read g c = read-ok false (reads-join (Ok c.in_ok-walk_children.field-0) c.loop-turn.invariant.read c.in_ok-walk_children.ensures.read)

pub loop-turn-preserved : goal.loop-turn-preserved
loop-turn-preserved g c =
    let types : List SegmentType = c.args.dbd.now.types in
    let v : VolumeState = c.args.volume.now in
    let w : VolumeState = c.loop-turn.volume in
    let ps : List Place = c.args.places.now in
    let i = c.loop-turn.invariant in
    let n : ℕ = c.in-Some.number in
    let hs : List ℕ = c.loop-turn.holders.items in
    let hs2 : List ℕ = c.walk_children.new.holders.items in
    let rest : List ℕ = c.pop.new.self.items in
    let e = c.in_ok-walk_children.ensures in
    let yes = c.if-not-branch-2.false in
    record {
      as_many = e.as_many;
      read = read-ok 0 (reads-join (Ok c.in_ok-walk_children.field-0) i.read e.read);
      known = λ sound.
          (let now : IsTrue w.is_sound = rw i.read.call.sound sound in
          let same = links-same types v w (i.read.image now) i.read.call.size i.read.call.sizes in
          subst (λ (m : Links). IsLastKey types m c.walk_children.new.last) same (e.known now yes));
      roots = λ sound.
          (let now : IsTrue w.is_sound = rw i.read.call.sound sound in
          children-stay types (links_of types v) ps hs hs2 0 (e.kept now yes) (i.roots sound));
      walked = λ sound.
          (let now : IsTrue w.is_sound = rw i.read.call.sound sound in
          let same = links-same types v w (i.read.image now) i.read.call.size i.read.call.sizes in
          let before : IsWalkedSoFar types (links_of types v) ps 0 (length ps) (rest ++ n ∷ []) hs = subst (λ (ws : List ℕ). IsWalkedSoFar types (links_of types v) ps 0 (length ps) ws hs) c.in-Some.ensures.items (i.walked sound) in
          let own : IsWalkedSoFar types (links_of types w) ps 0 n rest hs = subst (λ (m : Links). IsWalkedSoFar types m ps 0 n rest hs) (sym same) (in-hand types (links_of types v) ps hs n 0 rest before) in
          subst (λ (m : Links). IsWalkedSoFar types m ps 0 (length ps) c.walk_children.new.waiting.items hs2) same (e.walked now yes own));
    }

pub returns-clause-read : goal.returns-clause-read
returns-clause-read g c = elim c.loop-turn-test.branch [
  | else-loop-turn-test u ↦ subst (λ (w : VolumeState). IsRead {T = Bool} c.args.volume.now (Ok false) w) (sym u.volume-is) (read-ok false c.loop-turn.invariant.read)
  | then-loop-turn-test+in-Some+in_ok-walk_children+else-not-branch-2+else-turn-turn-end u ↦
      subst (λ (w : VolumeState). IsRead {T = Bool} c.args.volume.now (Ok false) w) (sym u.volume-is)
      (read-ok false (reads-join (Ok u.in_ok-walk_children.field-0) c.loop-turn.invariant.read u.in_ok-walk_children.ensures.read))
]

use Rattle.std.proofs.Common.{◌≡◌, ℕ, List, IsTrue, Option, Result, Ok, Err, None, refl, sym, ap, subst, ◌∙◌}
use Rattle.std.proofs.lemmas.Result.{err_from_is_err_and}
use Rattle.hd_dbd.specs.declared.answer.Refused.{Refused}
use Rattle.hd_dbd.specs.Types.{SegmentType}
use Rattle.hd_volume.specs.Volumes.{VolumeState}
use Rattle.hd_volume.specs.Calls.{IsRead}
use Rattle.hd_volume.proofs.CallSteps.{read-none, read-ok, read-err, reads-join}
use Rattle.hd_links.specs.Links.{Links}
use Rattle.hd_image.specs.Records.{links_of}
use Rattle.hd_image.proofs.OneImage.{links-same, volume-same}
use Rattle.hd_check_blocks.specs.declared.places.Place.{Place}
use Rattle.hd_check_blocks.proofs.PlaceLemmas.{places-same}
use Rattle.hd_check_pointers.specs.Keys.{IsLastKey}
use Rattle.hd_check_walk.specs.Notes.{AreNoted}
use Rattle.hd_check_walk.specs.Twins.{HasFront}
use Rattle.hd_check_walk.specs.declared.beside.Stand.{Stand}
use Rattle.hd_check_walk.specs.GoingOn.{IsStanding, GoesOn}
use Rattle.hd_check_walk.specs.Walks.{IsWalkedSoFar, IsOnChain, LeadsTo}
use Rattle.hd_check_walk.proofs.Chains.{when-some, stays-join, on-first, leads-on, on-next, end-first, end-last, end-shut}
use Rattle.hd_check_walk.proofs.twins.walk_twins.Goals as goal

pub loop-turn-init : goal.loop-turn-init
loop-turn-init g c = record {
  read = read-none c.args.volume.now 0;
  as_many = c.requires.as_many;
  known = c.requires.known;
  kept = λ sound i known. refl;
  chain = λ sound. subst (λ (b : ℕ). IsOnChain c.args.dbd.now.types (links_of c.args.dbd.now.types c.args.volume.now) c.args.places.now c.args.holders.now.items c.args.parent c.args.code c.args.first b c.args.first)
      (sym c.no_twin-before.ensures) (on-first c.args.dbd.now.types (links_of c.args.dbd.now.types c.args.volume.now) c.args.places.now c.args.holders.now.items c.args.parent c.args.code c.args.first);
  twin = λ sound not. absurd (not c.no_twin-before.ensures);
  walked = λ sound in_hand walked. subst (λ (b : ℕ). IsWalkedSoFar c.args.dbd.now.types (links_of c.args.dbd.now.types c.args.volume.now) c.args.places.now b in_hand c.args.waiting.now.items c.args.holders.now.items)
      (sym c.no_twin-before.ensures) walked;
}

pub returns-then-next-eq0-clause-first : goal.returns-then-next-eq0-clause-first
returns-then-next-eq0-clause-first g c = λ sound.
    let i = c.loop-turn.invariant in
    end-first c.args.dbd.now.types c.args.volume.now c.args.places.now (c.requires.places sound) c.args.parent c.args.code c.args.first (c.requires.parent sound) (c.requires.reached sound) c.loop-turn.holders.items
    c.loop-turn.before.address c.loop-turn.next c.if-next-eq0.true (i.chain sound)

pub returns-then-next-eq0-clause-end : goal.returns-then-next-eq0-clause-end
returns-then-next-eq0-clause-end g c = λ sound.
    let i = c.loop-turn.invariant in
    end-last c.args.dbd.now.types c.args.volume.now c.args.places.now (c.requires.places sound) c.args.parent c.args.code c.args.first (c.requires.parent sound) (c.requires.reached sound) c.loop-turn.holders.items
    c.loop-turn.before.address c.loop-turn.next c.if-next-eq0.true (i.chain sound)

pub returns-then-next-eq0-clause-walked : goal.returns-then-next-eq0-clause-walked
returns-then-next-eq0-clause-walked g c = λ sound in_hand walked.
    let i = c.loop-turn.invariant in
    end-shut c.args.dbd.now.types c.args.volume.now c.args.places.now (c.requires.places sound) c.args.parent c.args.code c.args.first (c.requires.parent sound) (c.requires.reached sound) c.loop-turn.holders.items
    c.loop-turn.waiting.items c.loop-turn.before.address c.loop-turn.next in_hand c.if-next-eq0.true (i.chain sound) (i.walked sound in_hand walked)

pub step_to-requires-clause-of : goal.step_to-requires-clause-of
step_to-requires-clause-of g c = λ now.
    let i = c.loop-turn.invariant in
    let sound : IsTrue c.args.volume.now.is_sound = rw (← i.read.call.sound) now in
    volume-same c.args.dbd.now c.args.volume.now c.loop-turn.volume (i.read.image now) i.read.call.size i.read.call.sizes (c.requires.of sound)

pub step_to-requires-clause-places : goal.step_to-requires-clause-places
step_to-requires-clause-places g c = λ now.
    let i = c.loop-turn.invariant in
    let types : List SegmentType = c.args.dbd.now.types in
    let sound : IsTrue c.args.volume.now.is_sound = rw (← i.read.call.sound) now in
    places-same types c.args.volume.now c.loop-turn.volume c.args.places.now (links-same types c.args.volume.now c.loop-turn.volume (i.read.image now) i.read.call.size i.read.call.sizes) (c.requires.places sound)

pub step_to-requires-clause-known : goal.step_to-requires-clause-known
step_to-requires-clause-known g c = λ now.
    let i = c.loop-turn.invariant in
    let types : List SegmentType = c.args.dbd.now.types in
    let sound : IsTrue c.args.volume.now.is_sound = rw (← i.read.call.sound) now in
    subst (λ (m : Links). IsLastKey types m c.loop-turn.last) (sym (links-same types c.args.volume.now c.loop-turn.volume (i.read.image now) i.read.call.size i.read.call.sizes)) (i.known sound)

pub step_to-requires-clause-noted : goal.step_to-requires-clause-noted
step_to-requires-clause-noted g c = λ now.
    let i = c.loop-turn.invariant in
    let types : List SegmentType = c.args.dbd.now.types in
    let sound : IsTrue c.args.volume.now.is_sound = rw (← i.read.call.sound) now in
    subst (λ (m : Links). AreNoted types m c.args.places.now c.args.notes.now) (sym (links-same types c.args.volume.now c.loop-turn.volume (i.read.image now) i.read.call.size i.read.call.sizes)) (c.requires.noted sound)

pub step_to-requires-clause-leads : goal.step_to-requires-clause-leads
step_to-requires-clause-leads g c = λ now.
    let i = c.loop-turn.invariant in
    let types : List SegmentType = c.args.dbd.now.types in
    let v : VolumeState = c.args.volume.now in
    let sound : IsTrue v.is_sound = rw (← i.read.call.sound) now in
    let before : ℕ = c.loop-turn.before.address in
    let next : ℕ = c.loop-turn.next in
    let holder : ℕ = c.holder_of-holder.result in
    subst (λ (m : Links). LeadsTo types m holder c.args.code before next) (sym (links-same types v c.loop-turn.volume (i.read.image now) i.read.call.size i.read.call.sizes))
    (leads-on types v c.args.places.now (c.requires.places sound) c.args.parent c.args.code c.args.first (c.requires.parent sound) (c.requires.reached sound) c.loop-turn.holders.items before next holder (i.chain sound)
    c.holder_of-holder.ensures.parent c.holder_of-holder.ensures.twin)

pub step_to-requires-clause-before : goal.step_to-requires-clause-before
step_to-requires-clause-before g c = λ now some.
    let i = c.loop-turn.invariant in
    let types : List SegmentType = c.args.dbd.now.types in
    let sound : IsTrue c.args.volume.now.is_sound = rw (← i.read.call.sound) now in
    subst (λ (m : Links). HasFront types m c.args.code c.loop-turn.before) (sym (links-same types c.args.volume.now c.loop-turn.volume (i.read.image now) i.read.call.size i.read.call.sizes)) (i.twin sound some)

pub returns-in_default-clause-read : goal.returns-in_default-clause-read
returns-in_default-clause-read g c = read-ok None (reads-join (Ok c.in_ok-found.found) c.loop-turn.invariant.read c.in_ok-found.ensures.read)

pub walk_beside-requires-clause-of : goal.walk_beside-requires-clause-of
walk_beside-requires-clause-of g c = λ now.
    let i = c.loop-turn.invariant in
    let v : VolumeState = c.args.volume.now in
    let read : IsRead {T = ℕ} v (Ok 0) c.step_to.new.volume = read-ok 0 (reads-join (Ok c.in_ok-found.found) i.read c.in_ok-found.ensures.read) in
    let sound : IsTrue v.is_sound = rw (← read.call.sound) now in
    volume-same c.args.dbd.now v c.step_to.new.volume (read.image now) read.call.size read.call.sizes (c.requires.of sound)

pub walk_beside-requires-clause-places : goal.walk_beside-requires-clause-places
walk_beside-requires-clause-places g c = λ now.
    let i = c.loop-turn.invariant in
    let types : List SegmentType = c.args.dbd.now.types in
    let v : VolumeState = c.args.volume.now in
    let read : IsRead {T = ℕ} v (Ok 0) c.step_to.new.volume = read-ok 0 (reads-join (Ok c.in_ok-found.found) i.read c.in_ok-found.ensures.read) in
    let sound : IsTrue v.is_sound = rw (← read.call.sound) now in
    places-same types v c.step_to.new.volume c.args.places.now (links-same types v c.step_to.new.volume (read.image now) read.call.size read.call.sizes) (c.requires.places sound)

pub loop-turn-preserved : goal.loop-turn-preserved
loop-turn-preserved g c =
    let types : List SegmentType = c.args.dbd.now.types in
    let v : VolumeState = c.args.volume.now in
    let w : VolumeState = c.loop-turn.volume in
    let m : Links = links_of types v in
    let ps : List Place = c.args.places.now in
    let i = c.loop-turn.invariant in
    let xs : List ℕ = c.loop-turn.holders.items in
    let ys : List ℕ = c.step_to.new.holders.items in
    let zs : List ℕ = c.walk_beside.new.holders.items in
    let before : ℕ = c.loop-turn.before.address in
    let next : ℕ = c.loop-turn.next in
    let holder : ℕ = c.holder_of-holder.result in
    let found = c.in_ok-found.found in
    let step = c.in-Some.step in
    let stand : Stand = record { twin = step.twin; next = step.forward; near = c.behind.result } in
    let on : Stand = c.in_ok-on.on in
    let read : IsRead {T = ℕ} v (Ok 0) c.step_to.new.volume = read-ok 0 (reads-join (Ok found) i.read c.in_ok-found.ensures.read) in
    let now : IsTrue v.is_sound → IsTrue w.is_sound = λ sound. rw i.read.call.sound sound in
    let same : IsTrue v.is_sound → links_of types w ≡ m = λ sound. links-same types v w (i.read.image (now sound)) i.read.call.size i.read.call.sizes in
    let at : IsTrue v.is_sound → step.twin.address ≡ next = λ sound. (when-some _ found step c.in-Some.is (c.in_ok-found.ensures.twin (now sound))).0 in
    let goes : IsTrue v.is_sound → GoesOn types m ps c.args.code stand ys on zs = λ sound.
    (let later : IsTrue c.step_to.new.volume.is_sound = rw read.call.sound sound in
    subst (λ (l : Links). GoesOn types l ps c.args.code stand ys on zs) (links-same types v c.step_to.new.volume (read.image later) read.call.size read.call.sizes) (c.in_ok-on.ensures.goes later)) in
    let standing : IsTrue v.is_sound → IsStanding types m ps ys c.args.parent c.args.code c.args.first stand = λ sound. record {
      some = λ z. c.if-next-eq0.false (sym (at sound) ∙ z);
      chain =
          (let forward : step.forward ≡ m.forward next = subst (λ (l : Links). step.forward ≡ l.forward next) (same sound) (when-some _ found step c.in-Some.is (c.in_ok-found.ensures.forward (now sound))) in
          subst (λ (b : ℕ). IsOnChain types m ps ys c.args.parent c.args.code c.args.first b step.forward) (sym (at sound))
          (on-next types v ps (c.requires.places sound) c.args.parent c.args.code c.args.first (c.requires.parent sound) (c.requires.reached sound) xs ys before next holder step.forward c.if-next-eq0.false
          (i.chain sound) c.holder_of-holder.ensures.parent c.holder_of-holder.ensures.twin (when-some _ found step c.in-Some.is (c.in_ok-found.ensures.kept (now sound)))
          (when-some _ found step c.in-Some.is (c.in_ok-found.ensures.held (now sound))) forward));
      twin = subst (λ (l : Links). HasFront types l c.args.code step.twin) (same sound) (when-some _ found step c.in-Some.is (c.in_ok-found.ensures.twin (now sound))).1;
    } in
    record {
      read = read-ok 0 (reads-join (Ok on) read c.in_ok-on.ensures.read);
      as_many = c.in_ok-on.ensures.as_many;
      known = λ sound. subst (λ (l : Links). IsLastKey types l c.step_to.new.last) (same sound) (when-some _ found step c.in-Some.is (c.in_ok-found.ensures.known (now sound)));
      kept = λ sound.
          stays-join c.args.holders.now.items ys zs (stays-join c.args.holders.now.items xs ys (i.kept sound) (when-some _ found step c.in-Some.is (c.in_ok-found.ensures.kept (now sound)))) (goes sound).kept;
      chain = λ sound. ((goes sound).stands c.args.parent c.args.first (c.requires.parent sound) (c.requires.reached sound) (standing sound)).chain;
      twin = λ sound not. ((goes sound).stands c.args.parent c.args.first (c.requires.parent sound) (c.requires.reached sound) (standing sound)).twin;
      walked = λ sound in_hand walked.
          (let step_on : (in_hand : ℕ) → IsWalkedSoFar types m ps before in_hand c.loop-turn.waiting.items xs → IsWalkedSoFar types m ps next in_hand c.step_to.new.waiting.items ys =
          subst (λ (l : Links). (in_hand : ℕ) → IsWalkedSoFar types l ps before in_hand c.loop-turn.waiting.items xs → IsWalkedSoFar types l ps next in_hand c.step_to.new.waiting.items ys)
          (same sound) (when-some _ found step c.in-Some.is (c.in_ok-found.ensures.walked (now sound))) in
          (goes sound).steps c.args.parent c.args.first (c.requires.parent sound) (c.requires.reached sound) (standing sound) c.step_to.new.waiting.items in_hand
          (subst (λ (b : ℕ). IsWalkedSoFar types m ps b in_hand c.step_to.new.waiting.items ys) (sym (at sound)) (step_on in_hand (i.walked sound in_hand walked))));
    }

pub returns-in_err-on-clause-read : goal.returns-in_err-on-clause-read
returns-in_err-on-clause-read g c =
    let read : IsRead {T = ℕ} c.args.volume.now (Ok 0) c.step_to.new.volume = read-ok 0 (reads-join (Ok c.in_ok-found.found) c.loop-turn.invariant.read c.in_ok-found.ensures.read) in
    let p = err_from_is_err_and c.from_residual-in_err-on.result c.from_residual-in_err-on.ensures.1 in
    subst (λ (r : Result (Option ℕ) Refused). IsRead {T = Option ℕ} c.args.volume.now r c.walk_beside.new.volume) (sym (p.1 ∙ ap Err p.2))
    (read-err (reads-join (Err c.in_err-on.field-0.0) read c.in_err-on.ensures.read))

pub returns-in_ok-on-clause-read : goal.returns-in_ok-on-clause-read
returns-in_ok-on-clause-read g c =
    let read : IsRead {T = ℕ} c.args.volume.now (Ok 0) c.step_to.new.volume = read-ok 0 (reads-join (Ok c.in_ok-found.found) c.loop-turn.invariant.read c.in_ok-found.ensures.read) in
    read-ok None (reads-join (Ok c.in_ok-on.on) read c.in_ok-on.ensures.read)

pub returns-in_err-found-clause-read : goal.returns-in_err-found-clause-read
returns-in_err-found-clause-read g c =
    let p = err_from_is_err_and c.from_residual.result c.from_residual.ensures.1 in
    subst (λ (r : Result (Option ℕ) Refused). IsRead {T = Option ℕ} c.args.volume.now r c.step_to.new.volume) (sym (p.1 ∙ ap Err p.2))
    (read-err (reads-join (Err c.in_err-found.field-0.0) c.loop-turn.invariant.read c.in_err-found.ensures.read))

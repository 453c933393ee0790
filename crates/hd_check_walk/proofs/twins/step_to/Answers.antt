use Rattle.std.proofs.Common.{inl, inr, ℕ, List, Option, Result, Err, refl, sym, ap, subst, ◌∙◌}
use Rattle.std.proofs.lemmas.Bool.{cases_Bool}
use Rattle.std.proofs.lemmas.Result.{err_from_is_err_and}
use Rattle.hd_dbd.specs.declared.answer.Refused.{Refused}
use Rattle.hd_volume.specs.Calls.{IsRead}
use Rattle.hd_volume.specs.Volumes.{VolumeState}
use Rattle.hd_links.specs.Links.{Links}
use Rattle.hd_image.specs.Records.{links_of}
use Rattle.hd_check_blocks.specs.declared.places.Place.{Place}
use Rattle.hd_check_walk.specs.declared.twins.Step.{Step}
use Rattle.hd_check_walk.specs.Walks.{StaysHeld, IsWalkedSoFar}
use Rattle.hd_check_walk.proofs.Chains.{when-some}
use Rattle.hd_check_walk.proofs.Noted.{read-memory}
use Rattle.hd_check_walk.proofs.Steps.{WaitsOrNot, there, there-noted, set-stays, step-walked}
use Rattle.hd_check_walk.proofs.twins.step_to.Goals as goal

pub look_behind-requires-clause-there : goal.look_behind-requires-clause-there
look_behind-requires-clause-there g c = λ sound.
    there c.args.dbd.now.types c.args.volume.now c.args.places.now (c.requires.places sound) c.args.holders.now.items c.in-Some.number c.args.address c.args.code c.in-Some.ensures.unheld

pub look_behind-requires-clause-noted : goal.look_behind-requires-clause-noted
look_behind-requires-clause-noted g c = λ sound.
    there-noted c.args.dbd.now.types c.args.volume.now c.args.places.now (c.requires.places sound) c.args.notes.now c.args.holders.now.items c.in-Some.number c.args.address c.args.code (c.requires.noted sound)
    c.in-Some.ensures.unheld

pub returns-clause-known : goal.returns-clause-known
returns-clause-known g c = λ sound. when-some _ c.in_ok-seen.field-0 c.in-Some-2.seen c.in-Some-2.is (c.in_ok-seen.ensures.known sound)

pub returns-clause-kept : goal.returns-clause-kept
returns-clause-kept g c = λ sound.
    subst (StaysHeld c.args.holders.now.items) (sym c.in-Some.ensures.held) (set-stays c.args.holders.now.items c.in-Some.number c.args.holder c.in-Some.ensures.unheld.2)

pub returns-clause-forward : goal.returns-clause-forward
returns-clause-forward g c = λ sound. (when-some _ c.in_ok-seen.field-0 c.in-Some-2.seen c.in-Some-2.is (c.in_ok-seen.ensures.seen sound)).forward

pub returns-clause-twin : goal.returns-clause-twin
returns-clause-twin g c = λ sound.
    let own = there c.args.dbd.now.types c.args.volume.now c.args.places.now (c.requires.places sound) c.args.holders.now.items c.in-Some.number c.args.address c.args.code c.in-Some.ensures.unheld in (
      refl,
      record {
        here = own.0;
        typed = own.1;
        front_is = (when-some _ c.in_ok-seen.field-0 c.in-Some-2.seen c.in-Some-2.is (c.in_ok-seen.ensures.seen sound)).front;
      },
    )

pub returns-clause-walked : goal.returns-clause-walked
returns-clause-walked g c = λ sound in_hand walked.
    let d = c.args.dbd.now in
    let v : VolumeState = c.args.volume.now in
    let m : Links = links_of d.types v in
    let ps : List Place = c.args.places.now in
    let n : ℕ = c.in-Some.number in
    let a : ℕ = c.args.address in
    let looked = c.in_ok-seen.field-0 in
    let e = c.in_ok-seen.ensures in
    let seen = when-some _ looked c.in-Some-2.seen c.in-Some-2.is (e.seen sound) in
    let waits : WaitsOrNot d.types m a n c.args.waiting.now.items c.note_waiting.new.waiting.items = elim (cases_Bool c.in-Some-2.seen.is_childless) [
      | inl none ↦ inl (c.in_ok-note_waiting.ensures.childless none, seen.childless none)
      | inr some ↦ inr (c.in_ok-note_waiting.ensures.waits some)
    ] in
    subst (IsWalkedSoFar d.types m ps a in_hand c.note_waiting.new.waiting.items) (sym c.in-Some.ensures.held)
    (step-walked d.types v ps (c.requires.places sound) c.args.holders.now.items n c.args.holder c.args.code c.args.before.address a c.requires.as_many c.in-Some.ensures.unheld c.in-Some.ensures.some (c.requires.leads sound)
    in_hand c.args.waiting.now.items c.note_waiting.new.waiting.items seen.delete_byte (when-some _ looked c.in-Some-2.seen c.in-Some-2.is (e.backward sound))
    (when-some _ looked c.in-Some-2.seen c.in-Some-2.is (e.key sound)) waits walked)

pub returns-in_err-note_waiting-clause-read : goal.returns-in_err-note_waiting-clause-read
returns-in_err-note_waiting-clause-read g c =
    let p = err_from_is_err_and c.from_residual-in_err-note_waiting.result c.from_residual-in_err-note_waiting.ensures.1 in
    subst (λ (r : Result (Option Step) Refused). IsRead {T = Option Step} c.args.volume.now r c.look_behind.new.volume) (sym (p.1 ∙ ap Err (p.2 ∙ c.in_err-note_waiting.ensures.refusal)))
    (read-memory c.in_ok-seen.ensures.read)

use Rattle.std.proofs.Common.{ℕ, Result, Ok, Err, sym, ap, subst, ◌∙◌}
use Rattle.std.proofs.lemmas.Result.{err_from_is_err_and}
use Rattle.hd_volume.specs.Calls.{IsRead}
use Rattle.hd_volume.proofs.CallSteps.{read-ok, reads-join}
use Rattle.hd_salvage.specs.declared.fault.SalvageFault.{SalvageFault}
use Rattle.hd_salvage.specs.Streams.{as_call}
use Rattle.hd_salvage.proofs.OneVolume.{after-read, sound-before, noted-one, keeps-one, fault-err}
use Rattle.hd_salvage.proofs.salvages.write_rows.Goals as goal

pub write_next-requires-clause-size : goal.write_next-requires-clause-size
write_next-requires-clause-size g c = (let i = c.loop-turn.invariant in (i.read.call.size ∙ c.requires.size.0, i.read.call.sizes ∙ c.requires.size.1))

pub write_next-requires-clause-noted : goal.write_next-requires-clause-noted
write_next-requires-clause-noted g c = λ now.
    let u = c.args.volume.now in
    let v = c.loop-turn.volume in
    let read = c.loop-turn.invariant.read in
    let sound = sound-before u v read now in
    λ k d l. noted-one u v (after-read u v read sound).1 _ (c.requires.noted sound k d l)

pub loop-turn-preserved : goal.loop-turn-preserved
loop-turn-preserved g c =
    let u = c.args.volume.now in
    let v = c.loop-turn.volume in
    let i = c.loop-turn.invariant in
    let e = c.in_ok-goes_on.ensures in
    record {
      read = read-ok 0 (reads-join (Ok c.in_ok-goes_on.goes_on) i.read e.read);
      kept = λ sound. (let now = after-read u v i.read sound in
          λ before k. keeps-one c.args.dbd.now u v now.1 _ _ _ _ _ _ _ _ (e.kept now.0) before (i.kept sound before k));
    }

pub returns-after-loop-turn-clause-read : goal.returns-after-loop-turn-clause-read
returns-after-loop-turn-clause-read g c = read-ok _ c.loop-turn.invariant.read

pub returns-after-loop-turn-clause-kept : goal.returns-after-loop-turn-clause-kept
returns-after-loop-turn-clause-kept g c = c.loop-turn.invariant.kept

pub returns-then-not-goes_on-clause-read : goal.returns-then-not-goes_on-clause-read
returns-then-not-goes_on-clause-read g c = read-ok _ (reads-join (Ok c.in_ok-goes_on.goes_on) c.loop-turn.invariant.read c.in_ok-goes_on.ensures.read)

pub returns-then-not-goes_on-clause-kept : goal.returns-then-not-goes_on-clause-kept
returns-then-not-goes_on-clause-kept g c = λ sound.
    let u = c.args.volume.now in
    let v = c.loop-turn.volume in
    let i = c.loop-turn.invariant in
    let now = after-read u v i.read sound in
    λ before k. keeps-one c.args.dbd.now u v now.1 _ _ _ _ _ _ _ _ (c.in_ok-goes_on.ensures.kept now.0) before (i.kept sound before k)

pub returns-in_err-goes_on-clause-read : goal.returns-in_err-goes_on-clause-read
returns-in_err-goes_on-clause-read g c =
    let p = err_from_is_err_and c.from_residual.result c.from_residual.ensures.1 in
    subst (λ (r : Result ℕ SalvageFault). IsRead {T = ℕ} c.args.volume.now (as_call r) c.write_next.new.volume) (sym (p.1 ∙ ap Err p.2))
    (reads-join (as_call (Err c.in_err-goes_on.field-0.0)) c.loop-turn.invariant.read (fault-err c.in_err-goes_on.field-0.0 c.in_err-goes_on.ensures.read))

use Rattle.std.proofs.Common.{◌≡◌, ℕ, ◌*◌, List, length, take, Result, Ok, Err, sym, ap, subst, ◌∙◌, arith}
use Rattle.std.proofs.lemmas.Result.{err_from_is_err_and}
use Rattle.std.specs.Io.KnownBytes.{Appends}
use Rattle.std.proofs.lemmas.List.{take_all}
use Rattle.hd_volume.specs.Headers.{header_of}
use Rattle.hd_volume.specs.Calls.{IsRead}
use Rattle.hd_volume.proofs.CallSteps.{read-ok, reads-join}
use Rattle.hd_unload.specs.declared.unloads.UnloadFault.{UnloadFault}
use Rattle.hd_unload.specs.Unloads.{unload_call}
use Rattle.hd_check.specs.declared.checks.Passed.{Passed}
use Rattle.hd_salvage.proofs.OneVolume.{after-read, unload-err}
use Rattle.hd_salvage.proofs.copies.copy_volume.Goals as goal

pub returns-in_err-put_blocks-in-Ok-clause-read : goal.returns-in_err-put_blocks-in-Ok-clause-read
returns-in_err-put_blocks-in-Ok-clause-read g c =
    let p = err_from_is_err_and c.from_residual.result c.from_residual.ensures.1 in
    subst (λ (r : Result Passed UnloadFault). IsRead {T = Passed} c.args.volume.now (unload_call r) c.put_blocks.new.volume) (sym (p.1 ∙ ap Err p.2))
    (reads-join (unload_call (Err c.in_err-put_blocks-in-Ok.field-0.0)) c.in-Ok.ensures.read (unload-err c.in_err-put_blocks-in-Ok.field-0.0 c.in_err-put_blocks-in-Ok.ensures.read))

pub returns-in_ok-put_blocks-in-Ok-clause-read : goal.returns-in_ok-put_blocks-in-Ok-clause-read
returns-in_ok-put_blocks-in-Ok-clause-read g c = read-ok c.in-Ok.passed (reads-join (Ok tt) c.in-Ok.ensures.read c.in_ok-put_blocks-in-Ok.ensures.read)

pub returns-in_ok-put_blocks-in-Ok-clause-copied : goal.returns-in_ok-put_blocks-in-Ok-clause-copied
returns-in_ok-put_blocks-in-Ok-clause-copied g c = λ sound.
    let u = c.args.volume.now in
    let v = c.check.new.volume in
    let now = after-read u v c.in-Ok.ensures.read sound in
    let passed = c.in-Ok.ensures.passed sound in
    let count : length u.image ≡ c.in-Ok.passed.blocks * u.size = passed.holds.volume.formatted.header.whole ∙ ap (λ (n : ℕ). n * u.size) (sym passed.blocks) in (
      passed,
      subst (λ (bytes : List ℕ). Appends (g.W.Write.contents c.args.out.now) (g.W.Write.contents c.put_blocks.new.out) bytes) (take_all (c.in-Ok.passed.blocks * u.size) u.image (omega arith))
          (subst (λ (size : ℕ). Appends (g.W.Write.contents c.args.out.now) (g.W.Write.contents c.put_blocks.new.out) (take (c.in-Ok.passed.blocks * size) u.image)) now.1.size
          (subst (λ (image : List ℕ). Appends (g.W.Write.contents c.args.out.now) (g.W.Write.contents c.put_blocks.new.out) (take (c.in-Ok.passed.blocks * v.size) image)) now.1.image (c.in_ok-put_blocks-in-Ok.ensures.blocks now.0))),
    )

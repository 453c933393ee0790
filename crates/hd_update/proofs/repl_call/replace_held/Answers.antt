use Rattle.std.proofs.Common.{◌≡◌, ℕ, List, false, Ok, Err, IsTrue, IfErr, Result, sym, ap, subst, ◌∙◌}
use Rattle.std.proofs.lemmas.Result.{err_from_is_err_and}
use Rattle.hd_dbd.specs.declared.answer.Refused.{Refused}
use Rattle.hd_dbd.specs.declared.answer.Refused.TheVariants.{Memory}
use Rattle.hd_volume.proofs.CallSteps.{call-ok, sound-back}
use Rattle.hd_volume.proofs.JoinLemmas.{calls-join, read-call}
use Rattle.hd_links.specs.Steps.{rows_of}
use Rattle.hd_volume.specs.Calls.{IsCall}
use Rattle.hd_forest.proofs.Reading.{after-read, sound-before}
use Rattle.hd_changes.specs.VolumeImages.{images_of}
use Rattle.hd_position.specs.Kept.{Kept}
use Rattle.hd_calls.specs.Moves.{rewritten}
use Rattle.hd_calls.specs.Runs.{LacksRoom, rows_stored}
use Rattle.hd_get.specs.declared.outcome.Outcome.{Outcome}
use Rattle.hd_get.specs.declared.outcome.Outcome.TheVariants.{Found, Missing}
use Rattle.hd_dbd.specs.declared.answer.Status.TheVariants.{Blank, DA}
use Rattle.hd_update.specs.Calls.{rewrites_effect, AreRewritesFull, RewritesLengthen}
use Rattle.hd_update.specs.States.{IsAnswered}
use Rattle.hd_update.specs.Positions.{all_after_rewrites, unheld_at}
use Rattle.hd_update.specs.declared.replaced.ReplacedRow.{ReplacedRow}
use Rattle.hd_update.proofs.Reading.{held_read, later_read}
use Rattle.hd_update.proofs.AskedStates.{may_replace_asked, own_path}
use Rattle.hd_update.proofs.Answering.{key_changes, rows_replaced, replace_lacks, replace_stores}
use Rattle.hd_update.proofs.repl_call.replace_held.Goals as goal

pub returns-then-not-branch-clause-done : goal.returns-then-not-branch-clause-done
returns-then-not-branch-clause-done g c pcb st ws sound R A =
    let d = c.args.dbd.now in
    let v = c.args.volume.now in
    let w = c.keep_keys.new.volume in
    let old : List Kept = c.args.positions.now in
    subst (λ (kept : List Kept). IsAnswered d v st c.args.number (rewrites_effect d pcb c.args.number st ws) (Missing DA) w kept)
    (sym c.end_hold.ensures)
    (key_changes d pcb v old st c.args.number ws R c.requires.number.0 c.requires.number.1 w c.in_ok-keep_keys.ensures.read sound
    (sym c.if-not-branch.true ∙ c.in_ok-keep_keys.ensures.value R.placed ws sound R.holds A.are))

pub make_room_to_replace-requires-clause-formatted : goal.make_room_to_replace-requires-clause-formatted
make_room_to_replace-requires-clause-formatted g c now =
    let v = c.args.volume.now in
    let mid = c.keep_keys.new.volume in
    let sound : IsTrue v.is_sound = sound-before v mid c.in_ok-keep_keys.ensures.read now in
    let T = c.requires.state sound in
    ((after-read c.args.dbd.now v mid c.in_ok-keep_keys.ensures.read sound).volume T.2.holds.volume).formatted

pub returns-in_err-make_room_to_replace-clause-call : goal.returns-in_err-make_room_to_replace-clause-call
returns-in_err-make_room_to_replace-clause-call g c =
    let p = err_from_is_err_and c.from_residual-in_err-make_room_to_replace.result c.from_residual-in_err-make_room_to_replace.ensures.1 in
    subst (λ (r : Result Outcome Refused). IsCall c.args.volume.now r c.make_room_to_replace.new.volume) (sym (p.1 ∙ ap Err p.2))
    (let I = calls-join (Err c.in_err-make_room_to_replace.field-0.0) (read-call c.in_ok-keep_keys.ensures.read) c.in_err-make_room_to_replace.ensures.call in
    record { counts = I.counts; sound = I.sound; committed = I.committed; size = I.size; sizes = I.sizes; first = I.first; plain = I.plain; space = I.space })

pub returns-in_err-make_room_to_replace-clause-full : goal.returns-in_err-make_room_to_replace-clause-full
returns-in_err-make_room_to_replace-clause-full g c =
    let d = c.args.dbd.now in
    let v = c.args.volume.now in
    let mid = c.keep_keys.new.volume in
    let old : List Kept = c.args.positions.now in
    let p = err_from_is_err_and c.from_residual-in_err-make_room_to_replace.result c.from_residual-in_err-make_room_to_replace.ensures.1 in
    subst (λ (r : Result Outcome Refused). IfErr r (λ e. AreRewritesFull d v old c.args.number c.args.area.now c.args.news.now e)) (sym (p.1 ∙ ap Err p.2))
    (λ pcb st ws is sound R A.
    let same = after-read d v mid c.in_ok-keep_keys.ensures.read sound in
    let keys = sym c.if-not-branch.false ∙ c.in_ok-keep_keys.ensures.value R.placed ws sound R.holds A.are in
    let lacks = c.in_err-make_room_to_replace.ensures.full is same.sound R.placed ws (same.volume R.holds.volume) A.are in
    replace_lacks d pcb v old st c.args.number ws R c.requires.number.0 c.requires.number.1 keys
    (subst (λ (x : List ℕ). LacksRoom (images_of d) d.types x (rows_stored (rows_of R.placed) (rewritten ws)) false) same.image lacks))

pub returns-in_err-make_room_to_replace-clause-memory : goal.returns-in_err-make_room_to_replace-clause-memory
returns-in_err-make_room_to_replace-clause-memory g c =
    let d = c.args.dbd.now in
    let v = c.args.volume.now in
    let old : List Kept = c.args.positions.now in
    let p = err_from_is_err_and c.from_residual-in_err-make_room_to_replace.result c.from_residual-in_err-make_room_to_replace.ensures.1 in
    subst (λ (r : Result Outcome Refused). IfErr r (λ e. e ≡ Memory → RewritesLengthen d v old c.args.number c.args.area.now c.args.news.now)) (sym (p.1 ∙ ap Err p.2))
    (λ is pcb st ws sound R A.
    let keys = sym c.if-not-branch.false ∙ c.in_ok-keep_keys.ensures.value R.placed ws sound R.holds A.are in
    replace_stores d pcb v old st c.args.number ws R c.requires.number.0 c.requires.number.1 keys (c.in_err-make_room_to_replace.ensures.longer R.placed ws A.are))

pub replace_rows-requires-clause-may : goal.replace_rows-requires-clause-may
replace_rows-requires-clause-may g c now =
    let d = c.args.dbd.now in
    let v = c.args.volume.now in
    let mid = c.keep_keys.new.volume in
    let w = c.make_room_to_replace.new.volume in
    let o = c.in_ok-make_room_to_replace.ensures in
    let after : IsTrue mid.is_sound = sound-back (Ok c.in_ok-make_room_to_replace.field-0) mid.is_sound w.is_sound o.call.sound now in
    let sound : IsTrue v.is_sound = sound-before v mid c.in_ok-keep_keys.ensures.read after in
    let T = c.requires.state sound in
    let keys = sym c.if-not-branch.false ∙ c.in_ok-keep_keys.ensures.value T.2.placed T.1 sound T.2.holds T.3.are in (
      T.2.placed,
      T.1,
      may_replace_asked d v c.args.positions.now T.0 c.args.number T.2 c.requires.number.0 c.requires.number.1 c.args.area.now c.args.news.now T.1 T.3 mid w c.path.result.now
          (held_read d v mid c.in_ok-keep_keys.ensures.read sound T.2.placed T.2.holds) (later_read d v mid c.in_ok-keep_keys.ensures.read sound T.2.later) (o.image now) o.call.size o.call.sizes keys
          (own_path c.args.positions.now c.args.number c.index-positions-number.result c.path.result.now c.requires.number.0 c.requires.number.1 c.path.ensures) (o.made after),
    )

pub returns-clause-call : goal.returns-clause-call
returns-clause-call g c =
    call-ok (Found Blank) (calls-join (Ok c.in_ok-rows.rows) (read-call c.in_ok-keep_keys.ensures.read)
    (calls-join (Ok c.in_ok-rows.rows) c.in_ok-make_room_to_replace.ensures.call c.in_ok-rows.ensures.call))

pub returns-clause-done : goal.returns-clause-done
returns-clause-done g c pcb st ws sound R A =
    let d = c.args.dbd.now in
    let v = c.args.volume.now in
    let mid = c.keep_keys.new.volume in
    let x = c.make_room_to_replace.new.volume in
    let w = c.replace_rows.new.volume in
    let old : List Kept = c.args.positions.now in
    let o = c.in_ok-make_room_to_replace.ensures in
    let same = after-read d v mid c.in_ok-keep_keys.ensures.read sound in
    let now : IsTrue x.is_sound = rw o.call.sound same.sound in
    let keys = sym c.if-not-branch.false ∙ c.in_ok-keep_keys.ensures.value R.placed ws sound R.holds A.are in
    let may = may_replace_asked d v old st c.args.number R c.requires.number.0 c.requires.number.1 c.args.area.now c.args.news.now ws A mid x c.path.result.now
    (held_read d v mid c.in_ok-keep_keys.ensures.read sound R.placed R.holds) (later_read d v mid c.in_ok-keep_keys.ensures.read sound R.later) (o.image now) o.call.size o.call.sizes keys
    (own_path old c.args.number c.index-positions-number.result c.path.result.now c.requires.number.0 c.requires.number.1 c.path.ensures) (o.made same.sound) in
    subst (λ (kept : List Kept). IsAnswered d v st c.args.number (rewrites_effect d pcb c.args.number st ws) (Found Blank) w kept)
    (sym (subst (λ (kept : List Kept). c.end_hold-2.new.positions ≡ unheld_at c.args.number kept) (c.follow_all.ensures ∙ ap (λ (rows : List ReplacedRow). all_after_rewrites rows old) c.as_slice.ensures.value) c.end_hold-2.ensures))
    (rows_replaced d pcb v old st c.args.number ws R c.requires.number.0 c.requires.number.1 keys x w c.in_ok-rows.rows (o.image now ∙ same.image)
    (c.in_ok-rows.ensures.replaced R.placed ws now may))

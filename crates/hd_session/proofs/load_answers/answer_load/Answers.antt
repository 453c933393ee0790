use Rattle.std.proofs.Common.{◌≡◌, ℕ, IsTrue, ◌≤◌, List, length, Ok, sym, subst, arith}
use Rattle.hd_image.specs.Records.{links_of}
use Rattle.hd_forest.specs.Rows.{IsOnSomeRow}
use Rattle.hd_volume.proofs.CallSteps.{sound-back}
use Rattle.hd_get.specs.declared.outcome.Outcome.{Outcome}
use Rattle.hd_get.specs.declared.outcome.Outcome.TheVariants.{Found, Missing}
use Rattle.hd_position.specs.Kept.{Kept}
use Rattle.hd_update.specs.Loading.{IsLoadDone}
use Rattle.hd_session.specs.Replies.{reply_of}
use Rattle.hd_session.proofs.OwnSteps.{if_ok_read}
use Rattle.hd_session.proofs.LoadedRows.{loaded_in, loaded_step, missed_step}
use Rattle.hd_session.proofs.load_answers.answer_load.Goals as goal

pub give-requires-clause-of : goal.give-requires-clause-of
give-requires-clause-of g c now =
    let d = c.args.dbd.now in
    let v = c.args.volume.now in
    let w = c.load_row.new.volume in
    let old : List Kept = c.args.positions.now in
    let new : List Kept = c.load_row.new.positions in
    let sound = sound-back (Ok c.in_ok-load_row.field-0) v.is_sound w.is_sound c.in_ok-load_row.ensures.call.sound now in
    let done : IsLoadDone d v old c.args.number c.args.code c.args.area.now (Found c.in-Found.field-0) w new
    = subst (λ (o : Outcome). IsLoadDone d v old c.args.number c.args.code c.args.area.now o w new) c.in-Found.is c.in_ok-load_row.ensures.done in
    let many : length new ≡ length old = c.load_row.auto.positions in
    let most : c.args.number ≤ length old = c.requires.number.1 in
    let within : c.args.number ≤ length new = omega arith in
    (loaded_in d v old c.args.number c.args.code c.args.area.now c.in-Found.field-0 w new c.index-positions-number.result c.requires.typed c.requires.number.0 within c.requires.last sound done).volume

pub give-requires-clause-there : goal.give-requires-clause-there
give-requires-clause-there g c now =
    let d = c.args.dbd.now in
    let v = c.args.volume.now in
    let w = c.load_row.new.volume in
    let old : List Kept = c.args.positions.now in
    let new : List Kept = c.load_row.new.positions in
    let sound = sound-back (Ok c.in_ok-load_row.field-0) v.is_sound w.is_sound c.in_ok-load_row.ensures.call.sound now in
    let done : IsLoadDone d v old c.args.number c.args.code c.args.area.now (Found c.in-Found.field-0) w new
    = subst (λ (o : Outcome). IsLoadDone d v old c.args.number c.args.code c.args.area.now o w new) c.in-Found.is c.in_ok-load_row.ensures.done in
    let many : length new ≡ length old = c.load_row.auto.positions in
    let most : c.args.number ≤ length old = c.requires.number.1 in
    let within : c.args.number ≤ length new = omega arith in
    subst (λ (path : List ℕ). IsOnSomeRow d.types (links_of d.types w) path) (sym c.path-path.ensures)
    (loaded_in d v old c.args.number c.args.code c.args.area.now c.in-Found.field-0 w new c.index-positions-number.result c.requires.typed c.requires.number.0 within c.requires.last sound done).there

pub returns-in-Found-clause-done : goal.returns-in-Found-clause-done
returns-in-Found-clause-done g c = if_ok_read c.give.result c.give.ensures.read c.give.ensures.given (λ a read given pcb ssas I st sound R.
    let d = c.args.dbd.now in
    let v = c.args.volume.now in
    let w = c.load_row.new.volume in
    let old : List Kept = c.args.positions.now in
    let new : List Kept = c.load_row.new.positions in
    let now : IsTrue w.is_sound = rw c.in_ok-load_row.ensures.call.sound sound in
    let done : IsLoadDone d v old c.args.number c.args.code c.args.area.now (Found c.in-Found.field-0) w new
    = subst (λ (o : Outcome). IsLoadDone d v old c.args.number c.args.code c.args.area.now o w new) c.in-Found.is c.in_ok-load_row.ensures.done in
    let many : length new ≡ length old = c.load_row.auto.positions in
    let most : c.args.number ≤ length old = c.requires.number.1 in
    let within : c.args.number ≤ length new = omega arith in
    loaded_step d pcb ssas c.args.code c.args.area.now I c.requires.typed v st c.args.number c.in-Found.field-0 w new c.index-positions-number.result c.requires.number.0 within
    (done pcb ssas I st sound R) c.give.new.volume c.path-path.result.now c.new.result (reply_of a c.give.new.io) read now c.path-path.ensures c.new.ensures given)

pub returns-in-Missing-clause-done : goal.returns-in-Missing-clause-done
returns-in-Missing-clause-done g c pcb ssas I st sound R =
    let d = c.args.dbd.now in
    let v = c.args.volume.now in
    let w = c.load_row.new.volume in
    let old : List Kept = c.args.positions.now in
    let new : List Kept = c.load_row.new.positions in
    let done : IsLoadDone d v old c.args.number c.args.code c.args.area.now (Missing c.in-Missing.status) w new
    = subst (λ (o : Outcome). IsLoadDone d v old c.args.number c.args.code c.args.area.now o w new) c.in-Missing.is c.in_ok-load_row.ensures.done in
    missed_step d pcb ssas c.args.code c.args.area.now I c.requires.typed v st c.args.number c.in-Missing.status w new (reply_of c.give_none.result c.give_none.new.io) c.give_none.ensures.reply
    (done pcb ssas I st sound R)

use Rattle.std.proofs.Common.{◌-◌, ◌+◌, length, IsTrue, Ok, subst, arith}
use Rattle.hd_volume.proofs.CallSteps.{sound-back, call-ok}
use Rattle.hd_volume.proofs.JoinLemmas.{calls-join}
use Rattle.hd_image.specs.Records.{links_of}
use Rattle.hd_position.specs.Inserts.{StandsOnNew}
use Rattle.hd_position.specs.Kept.{Kept, kept_start}
use Rattle.std.proofs.lemmas.List.{get_or_default}
use Rattle.hd_update.specs.NewRows.{codes_of, rows_in}
use Rattle.hd_update.proofs.InsertedStates.{on_last, rows_inserted}
use Rattle.hd_update.proofs.isrt_call.insert_rows.Goals as goal

pub stand_on_new-requires-clause-of : goal.stand_on_new-requires-clause-of
stand_on_new-requires-clause-of g c now =
    let sound = sound-back (Ok c.in_ok-own.own) c.args.volume.now.is_sound c.put_path.new.volume.is_sound c.in_ok-own.ensures.call.sound now in
    let T = c.requires.place sound in
    (c.in_ok-own.ensures.put_in T.3.placed sound T.3.holds).are.is_in.holds.volume

pub stand_on_new-requires-clause-there : goal.stand_on_new-requires-clause-there
stand_on_new-requires-clause-there g c now =
    let d = c.args.dbd.now in
    let v = c.args.volume.now in
    let w = c.put_path.new.volume in
    let sound = sound-back (Ok c.in_ok-own.own) v.is_sound w.is_sound c.in_ok-own.ensures.call.sound now in
    let T = c.requires.place sound in
    let rows = rows_in d.types (codes_of c.args.ssas.now) c.args.area.now in
    let A = c.in_ok-own.ensures.put_in T.3.placed sound T.3.holds in
    (A.are.placed, T.2 + length rows - 1, on_last d v T.3.placed c.args.parent.now c.args.after rows c.in_ok-own.own w A T.1 T.2 T.4)

pub returns-clause-call : goal.returns-clause-call
returns-clause-call g c = call-ok _ (calls-join _ c.in_ok-own.ensures.call c.in_ok-stand_on_new.ensures.read.call)

pub returns-clause-done : goal.returns-clause-done
returns-clause-done g c pcb st parent n sound R P =
    let d = c.args.dbd.now in
    let v = c.args.volume.now in
    let w = c.put_path.new.volume in
    let own = c.in_ok-own.own in
    let rows = rows_in d.types (codes_of c.args.ssas.now) c.args.area.now in
    let A = c.in_ok-own.ensures.put_in R.placed sound R.holds in
    let now : IsTrue w.is_sound = rw c.in_ok-own.ensures.call.sound sound in
    rows_inserted d pcb v c.args.positions.now st c.args.number R c.requires.number.0 c.requires.number.1 c.args.parent.now c.args.after rows own w A parent n P
    c.stand_on_new.new.volume c.stand_on_new.new.position c.in_ok-stand_on_new.ensures.read now
    (subst (λ (k : Kept). StandsOnNew d.types (links_of d.types w) k own c.stand_on_new.new.position)
    (get_or_default c.args.positions.now (c.args.number - 1) c.index-positions-number.result kept_start (let low = c.requires.number.0 in let high = c.requires.number.1 in omega arith))
    (c.in_ok-stand_on_new.ensures.value now))

use Rattle.std.proofs.Common.{◌≡◌, ℕ, List, IsTrue, Result, Err, ap, sym, ◌∙◌, subst, refl, arith}
use Rattle.std.specs.Prelude.{IfErr}
use Rattle.std.proofs.lemmas.Result.{err_from_is_err_and}
use Rattle.hd_dbd.specs.declared.answer.Refused.{Refused}
use Rattle.hd_dbd.specs.declared.answer.Refused.TheVariants.{Device}
use Rattle.hd_volume.specs.Entries.{Entry}
use Rattle.hd_index_blocks.specs.Maps.{with_entry}
use Rattle.hd_index_blocks.specs.IndexSets.{index_entries}
use Rattle.hd_index.specs.Changes.{IsChanged}
use Rattle.hd_index.proofs.Inserting.{on-ok, changed-join, ready-device}
use Rattle.hd_index.proofs.insertion.divide_and_enter.Goals as goal

pub returns-in_err-make_room-clause-device : goal.returns-in_err-make_room-clause-device
returns-in_err-make_room-clause-device g c =
    let v = c.args.volume.now in
    let p = err_from_is_err_and c.from_residual.result c.from_residual.ensures.1 in
    subst (λ (r : Result (Unit {0}) Refused). IfErr r (λ e. IsTrue v.is_sound → e ≡ Device)) (sym (p.1 ∙ ap Err p.2))
    (λ s. ready-device 0 v c.make_room.new.volume c.in_err-make_room.field-0.0 (c.requires.index s).formatted (c.requires.ready s) s c.in_err-make_room.ensures.refused)

pub returns-clause-changed : goal.returns-clause-changed
returns-clause-changed g c =
    let k : ℕ = c.args.key_length in
    let u = c.args.volume.now in
    let v = c.make_room.new.volume in
    let w = c.enter_key.new.volume in
    let e : Entry = record { key = c.args.key.now; address = c.args.address } in
    on-ok c.enter_key.result c.enter_key.ensures.changed
    (λ last sound.
    let now : IsTrue v.is_sound = rw c.in_ok-make_room.ensures.call.sound sound in
    let made = c.in_ok-make_room.ensures.changed sound in
    let three = c.requires.three in
    let C : List Entry → Type 0 = λ es. IsChanged k v (with_entry e es) 0 w in
    changed-join k u v w (index_entries k u) (with_entry e (index_entries k u)) 1 0 1 (c.requires.index sound) (omega arith) refl made (subst C made.entries (last now)))

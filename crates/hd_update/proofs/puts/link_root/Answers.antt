use Rattle.std.proofs.Common.{◌≡◌, ℕ, List, IsTrue, Result, Err, sym, ap, subst, ◌∙◌}
use Rattle.std.specs.Prelude.{IfErr}
use Rattle.std.proofs.lemmas.Result.{err_from_is_err_and}
use Rattle.hd_dbd.specs.Segment.{Segment}
use Rattle.hd_dbd.specs.declared.answer.Refused.{Refused}
use Rattle.hd_dbd.specs.declared.answer.Refused.TheVariants.{Device}
use Rattle.hd_volume.specs.Indexes.{root_key_length}
use Rattle.hd_volume.proofs.CallSteps.{call-ok}
use Rattle.hd_volume.proofs.JoinLemmas.{calls-join}
use Rattle.hd_index.specs.Changes.{entries_for}
use Rattle.hd_index.specs.Places.{blocks_needed}
use Rattle.hd_index.specs.Maps.{address_of, with_entry}
use Rattle.hd_changes.proofs.Rooms.{root-room-lasts}
use Rattle.hd_changes.proofs.Volumes.{linked-new}
use Rattle.hd_update.proofs.PutRoots.{put_root_in, link_refused, entry_refused}
use Rattle.hd_update.proofs.puts.link_root.Goals as goal

pub link-requires-clause-place : goal.link-requires-clause-place
link-requires-clause-place g c sound = (c.requires.can sound).root.may

pub insert-requires-clause-index : goal.insert-requires-clause-index
insert-requires-clause-index g c sound =
    let o = c.in_ok-address.ensures in
    let before : IsTrue c.args.volume.now.is_sound = subst IsTrue o.call.sound sound in
    let C = c.requires.can before in
    (linked-new c.args.dbd.now c.args.volume.now c.link.new.volume C.root.placed c.args.after c.in_ok-address.address (record { code = 1; bytes = c.args.bytes.now }) C.root.holds C.root.later C.root.may (o.linked before)).0

pub insert-requires-clause-new : goal.insert-requires-clause-new
insert-requires-clause-new g c sound =
    let o = c.in_ok-address.ensures in
    let before : IsTrue c.args.volume.now.is_sound = subst IsTrue o.call.sound sound in
    let C = c.requires.can before in
    ap (λ (k : List ℕ). address_of k (entries_for c.args.dbd.now c.link.new.volume)) c.requires.key
    ∙ (linked-new c.args.dbd.now c.args.volume.now c.link.new.volume C.root.placed c.args.after c.in_ok-address.address (record { code = 1; bytes = c.args.bytes.now }) C.root.holds C.root.later C.root.may (o.linked before)).1

pub returns-in_err-insert-clause-only : goal.returns-in_err-insert-clause-only
returns-in_err-insert-clause-only g c =
    let o = c.in_ok-address.ensures in
    let d = c.args.dbd.now in
    let v = c.args.volume.now in
    let w = c.link.new.volume in
    let p = err_from_is_err_and c.from_residual-in_err-insert.result c.from_residual-in_err-insert.ensures.1 in
    subst (λ (r : Result ℕ Refused). IfErr r (λ e. IsTrue v.is_sound → e ≡ Device)) (sym (p.1 ∙ ap Err p.2))
    (λ sound.
    let after : IsTrue w.is_sound = subst IsTrue (sym o.call.sound) sound in
    entry_refused d v c.args.after c.args.bytes.now c.args.key.now (c.requires.can sound) w c.in_ok-address.address (o.linked sound) (o.room after)
    _ c.in_err-insert.ensures.refusal (λ full. c.in_err-insert.ensures.full full after) (λ few. c.in_err-insert.ensures.memory few after))

pub returns-in_err-address-clause-only : goal.returns-in_err-address-clause-only
returns-in_err-address-clause-only g c =
    let d = c.args.dbd.now in
    let v = c.args.volume.now in
    let p = err_from_is_err_and c.from_residual.result c.from_residual.ensures.1 in
    subst (λ (r : Result ℕ Refused). IfErr r (λ e. IsTrue v.is_sound → e ≡ Device)) (sym (p.1 ∙ ap Err p.2))
    (λ sound. link_refused d v c.args.after c.args.bytes.now c.args.key.now (c.requires.can sound) _ c.in_err-address.ensures.refusal (λ full. c.in_err-address.ensures.full full sound)
    (λ few. c.in_err-address.ensures.memory few) (λ few. c.in_err-address.ensures.no_hole few sound))

pub returns-clause-lasts : goal.returns-clause-lasts
returns-clause-lasts g c rows sound room memory =
    let o = c.in_ok-address.ensures in
    let e = c.in_ok-insert.ensures in
    let d = c.args.dbd.now in
    let v = c.args.volume.now in
    let w = c.link.new.volume in
    let x = c.insert.new.volume in
    let after : IsTrue w.is_sound = subst IsTrue (sym o.call.sound) sound in
    let last : IsTrue x.is_sound = subst IsTrue (sym e.call.sound) after in
    let C = c.requires.can sound in
    let row : Segment = record { code = 1; bytes = c.args.bytes.now } in
    let lasts = root-room-lasts d v w x C.root.placed (with_entry (record { key = c.args.key.now; address = c.in_ok-address.address }) (entries_for d w))
    (blocks_needed (root_key_length d.types) w c.args.key.now) c.args.key.now c.args.after c.in_ok-address.address row rows C.root.holds (o.linked sound)
    (record { size = e.call.size; sizes = e.call.sizes; index = e.index after; entries = e.entries after; change = e.changed after }) in
    (lasts.0 (e.spares after) room, lasts.1 (o.room after) (e.room after last) memory)

pub returns-clause-call : goal.returns-clause-call
returns-clause-call g c = call-ok c.in_ok-address.address (calls-join _ c.in_ok-address.ensures.call c.in_ok-insert.ensures.call)

pub returns-clause-put_in : goal.returns-clause-put_in
returns-clause-put_in g c f sound holds =
    let o = c.in_ok-address.ensures in
    let e = c.in_ok-insert.ensures in
    let after : IsTrue c.link.new.volume.is_sound = subst IsTrue (sym o.call.sound) sound in
    let C = c.requires.can sound in
    put_root_in c.args.dbd.now c.args.volume.now c.link.new.volume c.insert.new.volume f c.args.after c.in_ok-address.address
    (blocks_needed (root_key_length c.args.dbd.now.types) c.link.new.volume c.args.key.now) c.args.bytes.now c.args.key.now holds C.root.may (o.linked sound) c.requires.key
    (record { size = e.call.size; sizes = e.call.sizes; index = e.index after; entries = e.entries after; change = e.changed after }) (e.spares after)

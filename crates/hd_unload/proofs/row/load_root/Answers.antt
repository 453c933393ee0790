use Rattle.std.proofs.Common.{◌≡◌, ◌⊎◌, ◌<◌, ℕ, List, IsTrue, IfErr, Result, Err, sym, ap, subst, ◌∙◌}
use Rattle.std.proofs.lemmas.Result.{err_from_is_err_and}
use Rattle.hd_dbd.specs.declared.answer.Refused.{Refused}
use Rattle.hd_dbd.specs.declared.answer.Refused.TheVariants.{Full}
use Rattle.hd_volume.specs.Rooms.{spare}
use Rattle.hd_volume.specs.Calls.{IsCall}
use Rattle.hd_volume.specs.Indexes.{root_key_length}
use Rattle.hd_index_blocks.specs.Needs.{IsHighest}
use Rattle.hd_volume.proofs.CallSteps.{call-ok, call-err}
use Rattle.hd_volume.proofs.JoinLemmas.{calls-join}
use Rattle.hd_index.specs.Changes.{entries_for}
use Rattle.hd_index.specs.Places.{blocks_needed}
use Rattle.hd_index.specs.Maps.{address_of}
use Rattle.hd_index.proofs.NeedLemmas.{needed-most}
use Rattle.hd_unload.proofs.LoadedRoots.{may-link-root, root-linked, root-loaded, room-links, room-enters}
use Rattle.hd_unload.proofs.row.load_root.Goals as goal

pub link-requires-clause-place : goal.link-requires-clause-place
link-requires-clause-place g c = λ sound.
    may-link-root c.args.dbd.now c.args.volume.now c.args.bytes.now c.args.after c.requires.fits (c.requires.can sound)

pub insert-requires-clause-index : goal.insert-requires-clause-index
insert-requires-clause-index g c = λ sound.
    let o = c.in_ok-address.ensures in
    let before : IsTrue c.args.volume.now.is_sound = subst IsTrue o.call.sound sound in
    let ready = root-linked c.args.dbd.now c.args.volume.now c.link.new.volume c.args.after c.in_ok-address.address c.args.bytes.now c.requires.fits (c.requires.can before) (o.linked before) in
    record { size = o.call.size ∙ c.requires.sizes.0; index = ready.0.index }

pub insert-requires-clause-new : goal.insert-requires-clause-new
insert-requires-clause-new g c = λ sound.
    let o = c.in_ok-address.ensures in
    let before : IsTrue c.args.volume.now.is_sound = subst IsTrue o.call.sound sound in
    let ready = root-linked c.args.dbd.now c.args.volume.now c.link.new.volume c.args.after c.in_ok-address.address c.args.bytes.now c.requires.fits (c.requires.can before) (o.linked before) in
    ap (λ (k : List ℕ). address_of k (entries_for c.args.dbd.now c.link.new.volume)) c.root_key.ensures.key ∙ ready.1

pub returns-in_err-address-clause-not_full : goal.returns-in_err-address-clause-not_full
returns-in_err-address-clause-not_full g c =
    let p = err_from_is_err_and c.from_residual.result c.from_residual.ensures.1 in
    subst (λ (r : Result ℕ Refused). IfErr r (λ e. e ≡ Full → IsTrue c.args.volume.now.is_sound → ⊥)) (sym (p.1 ∙ ap Err p.2))
    (λ full sound.
    let none = c.in_err-address.ensures.full full sound in
    room-links c.args.dbd.now c.args.volume.now c.args.bytes.now (c.requires.room sound) none.0 none.1)

pub returns-in_err-insert-clause-not_full : goal.returns-in_err-insert-clause-not_full
returns-in_err-insert-clause-not_full g c =
    let o = c.in_ok-address.ensures in
    let d = c.args.dbd.now in
    let v = c.args.volume.now in
    let w = c.link.new.volume in
    let p = err_from_is_err_and c.from_residual-in_err-insert.result c.from_residual-in_err-insert.ensures.1 in
    subst (λ (r : Result ℕ Refused). IfErr r (λ e. e ≡ Full → IsTrue v.is_sound → ⊥)) (sym (p.1 ∙ ap Err p.2))
    (λ full sound.
    let after : IsTrue w.is_sound = subst IsTrue (sym o.call.sound) sound in
    let few = subst (λ (key : List ℕ). (spare w < blocks_needed (root_key_length d.types) w key) ⊎ IsHighest w) c.root_key.ensures.key (c.in_err-insert.ensures.full full after) in
    room-enters d v w c.args.after c.in_ok-address.address c.args.bytes.now (c.requires.can sound) (c.requires.room sound) (o.linked sound) few)

pub returns-clause-call : goal.returns-clause-call
returns-clause-call g c = call-ok c.in_ok-address.address (calls-join _ c.in_ok-address.ensures.call c.in_ok-insert.ensures.call)

pub returns-clause-loaded : goal.returns-clause-loaded
returns-clause-loaded g c = λ sound.
    let o = c.in_ok-address.ensures in
    let e = c.in_ok-insert.ensures in
    let after : IsTrue c.link.new.volume.is_sound = subst IsTrue (sym o.call.sound) sound in
    let ready = root-linked c.args.dbd.now c.args.volume.now c.link.new.volume c.args.after c.in_ok-address.address c.args.bytes.now c.requires.fits (c.requires.can sound) (o.linked sound) in
    let key_length : ℕ = root_key_length c.args.dbd.now.types in
    let key : List ℕ = c.root_key.result.now in
    root-loaded c.args.dbd.now c.args.volume.now c.link.new.volume c.insert.new.volume c.args.after c.in_ok-address.address
    (blocks_needed key_length c.link.new.volume key) c.args.bytes.now key c.requires.fits (o.linked sound)
    e.call.size e.call.sizes (e.index after) c.root_key.ensures.key (e.entries after) (e.changed after) (e.spares after) (needed-most key_length c.link.new.volume key ready.0.index)

pub returns-in_err-insert-clause-call : goal.returns-in_err-insert-clause-call
returns-in_err-insert-clause-call g c =
    let p = err_from_is_err_and c.from_residual-in_err-insert.result c.from_residual-in_err-insert.ensures.1 in
    subst (λ (r : Result ℕ Refused). IsCall {T = ℕ} c.args.volume.now r c.insert.new.volume) (sym (p.1 ∙ ap Err p.2))
    (calls-join _ c.in_ok-address.ensures.call (call-err c.in_err-insert.ensures.call))

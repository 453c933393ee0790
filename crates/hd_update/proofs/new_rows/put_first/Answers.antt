use Rattle.std.proofs.Common.{◌≡◌, ℕ, List, true, IsTrue, sym, ap, subst, ◌∙◌, length}
use Rattle.hd_dbd.specs.Rows.{row_fits}
use Rattle.hd_dbd.specs.Segment.{Segment}
use Rattle.hd_volume.proofs.CallSteps.{if-ok}
use Rattle.hd_changes.proofs.RootTypes.{root-key-long}
use Rattle.hd_update.specs.Putting.{MayPut, IsPutIn}
use Rattle.hd_update.proofs.FirstRows.{root_room, lasts_root, lasts_below}
use Rattle.hd_update.proofs.NewRows.{row_refused, room_left, if_ok_sound, if_err_all}
use Rattle.hd_update.proofs.PutRows.{put_below}
use Rattle.hd_update.proofs.new_rows.put_first.Goals as goal

pub link_root-requires-clause-fits : goal.link_root-requires-clause-fits
link_root-requires-clause-fits g c = subst (λ (k : ℕ). row_fits c.args.dbd.now.types (record { code = k; bytes = c.args.bytes.now }) ≡ true) c.if-code-eq1.true c.requires.fits

pub link_root-requires-clause-whole : goal.link_root-requires-clause-whole
link_root-requires-clause-whole g c =
    ap (λ (key : List ℕ). length key) c.key_of-key.ensures.value
    ∙ root-key-long c.args.dbd.now.block_size c.args.dbd.now.frspc c.args.dbd.now.types c.args.bytes.now c.key_of-key.ensures.fit
    (subst (λ (k : ℕ). row_fits c.args.dbd.now.types (record { code = k; bytes = c.args.bytes.now }) ≡ true) c.if-code-eq1.true c.requires.fits)

pub link_root-requires-clause-can : goal.link_root-requires-clause-can
link_root-requires-clause-can g c sound =
    let d = c.args.dbd.now in
    let v = c.args.volume.now in
    let T = c.requires.room sound in
    let room = root_room d v c.args.code c.args.bytes.now c.key_of-key.result.now T.0 c.if-code-eq1.true c.key_of-key.ensures.value T.1 in
    record {
      root =
          subst (λ (k : ℕ). MayPut d v 0 c.args.after (record { code = k; bytes = c.args.bytes.now })) c.if-code-eq1.true
          (subst (λ (h : ℕ). MayPut d v h c.args.after (record { code = c.args.code; bytes = c.args.bytes.now })) (c.requires.root sound c.if-code-eq1.true) (c.requires.may sound));
      others = T.0;
      room = room.0;
      memory = room.1;
    }

pub returns-then-code-eq1-clause-put_in : goal.returns-then-code-eq1-clause-put_in
returns-then-code-eq1-clause-put_in g c = if-ok c.link_root.result c.link_root.ensures.put_in (λ a put f sound holds.
    subst (λ (k : ℕ). IsPutIn c.args.dbd.now c.args.volume.now f c.args.parent c.args.after (record { code = k; bytes = c.args.bytes.now }) a c.link_root.new.volume) (sym c.if-code-eq1.true)
    (subst (λ (h : ℕ). IsPutIn c.args.dbd.now c.args.volume.now f h c.args.after (record { code = 1; bytes = c.args.bytes.now }) a c.link_root.new.volume) (sym (c.requires.root sound c.if-code-eq1.true))
    (put f sound holds)))

pub returns-then-code-eq1-clause-lasts : goal.returns-then-code-eq1-clause-lasts
returns-then-code-eq1-clause-lasts g c = if-ok c.link_root.result c.link_root.ensures.lasts (λ a lasts.
    lasts_root c.args.dbd.now c.args.volume.now c.link_root.new.volume c.args.code c.args.bytes.now c.key_of-key.result.now c.if-code-eq1.true c.key_of-key.ensures.value lasts)

pub link-requires-clause-of : goal.link-requires-clause-of
link-requires-clause-of g c sound = (c.requires.may sound).holds.volume

pub link-requires-clause-holds : goal.link-requires-clause-holds
link-requires-clause-holds g c sound = (let M = c.requires.may sound in (M.placed, M.holds.records))

pub link-requires-clause-place : goal.link-requires-clause-place
link-requires-clause-place g c sound = (c.requires.may sound).may

pub returns-clause-put_in : goal.returns-clause-put_in
returns-clause-put_in g c = if-ok c.link.result c.link.ensures.linked (λ a linked f sound holds.
    put_below c.args.dbd.now c.args.volume.now c.link.new.volume f c.args.parent c.args.after a (record { code = c.args.code; bytes = c.args.bytes.now }) holds (c.requires.below sound c.if-code-eq1.false) (c.requires.may sound).may (linked sound))

pub returns-clause-lasts : goal.returns-clause-lasts
returns-clause-lasts g c =
    let row : Segment = record { code = c.args.code; bytes = c.args.bytes.now } in
    if_ok_sound c.link.result c.args.volume.now.is_sound c.link.new.volume.is_sound c.link.ensures.call.sound c.link.ensures.linked (λ a same linked.
    lasts_below c.args.dbd.now c.args.volume.now c.link.new.volume row c.if-code-eq1.false (λ rows sound room memory.
    room_left c.args.dbd.now c.args.volume.now c.link.new.volume c.args.parent c.args.after a row rows (linked sound) (c.link.ensures.room (subst IsTrue (sym same) sound)) room memory))

pub returns-clause-only : goal.returns-clause-only
returns-clause-only g c = if_err_all c.link.result c.link.ensures.refusal c.link.ensures.full c.link.ensures.memory c.link.ensures.no_hole (λ e which full none hole sound.
    (let T = c.requires.room sound in
    let R = T.1.below c.if-code-eq1.false in
    row_refused c.args.dbd.now c.args.volume.now (record { code = c.args.code; bytes = c.args.bytes.now }) T.0 R.0 R.1 e which (λ is. full is sound) none (λ is. hole is sound)))

use Rattle.hd_volume.proofs.CallSteps.{if-ok}
use Rattle.hd_volume.proofs.JoinLemmas.{if-err-map}
use Rattle.hd_update.proofs.PutRows.{put_below, no_room}
use Rattle.hd_update.proofs.puts.put_dependent.Goals as goal

pub link-requires-clause-of : goal.link-requires-clause-of
link-requires-clause-of g c sound = (c.requires.may sound).holds.volume

pub link-requires-clause-holds : goal.link-requires-clause-holds
link-requires-clause-holds g c sound = (let M = c.requires.may sound in (M.placed, M.holds.records))

pub returns-clause-put_in : goal.returns-clause-put_in
returns-clause-put_in g c = if-ok c.link.result c.link.ensures.linked (λ a linked f sound holds.
    put_below c.args.dbd.now c.args.volume.now c.link.new.volume f c.args.parent c.args.after a (record { code = c.args.code; bytes = c.args.bytes.now }) holds (c.requires.below sound) (c.requires.may sound).may (linked sound))

pub returns-clause-full : goal.returns-clause-full
returns-clause-full g c = if-err-map c.link.result (λ e full is sound some.
    (let none = full is sound in
    no_room c.args.dbd.now c.args.volume.now (record { code = c.args.code; bytes = c.args.bytes.now }) (some sound).1.volume none.0 none.1)) c.link.ensures.full

pub link-requires-clause-place : goal.link-requires-clause-place
link-requires-clause-place g c sound = (c.requires.may sound).may

use Rattle.std.proofs.lemmas.Result.{IfErr-weaker, IfOk-weaker}
use Rattle.hd_unload.proofs.Reading.{fault-sound}
use Rattle.hd_unload.proofs.Finishing.{given-up}
use Rattle.hd_unload.proofs.reloads.reload.Goals as goal

pub returns-in-Ok-create_keeping-clause-fault : goal.returns-in-Ok-create_keeping-clause-fault
returns-in-Ok-create_keeping-clause-fault g c =
    let o = c.in-Ok-create_keeping.ensures in
    IfErr-weaker c.fill.result _ _
    (λ e h. fault-sound c.args.dbd.now c.args.stream.now c.args.largest c.in-Ok-create_keeping.volume.is_sound (g.S.BlockStore.is_sound c.args.store) e.1 o.store.0
    (h c.args.stream.now c.in-Ok.ensures.ok c.args.largest (λ sound. o.created (rw (← o.store.0) sound)))) c.fill.ensures.fault

pub returns-in-Ok-create_keeping-clause-given : goal.returns-in-Ok-create_keeping-clause-given
returns-in-Ok-create_keeping-clause-given g c =
    let o = c.in-Ok-create_keeping.ensures in
    IfErr-weaker c.fill.result _ _
    (λ e h. given-up c.args.dbd.now c.args.largest c.in-Ok-create_keeping.volume c.args.store _ _ _ _ e o.store.0 o.store.1 (o.store.3, o.store.4) c.requires.size o.created h) c.fill.ensures.given

pub returns-in-Ok-create_keeping-clause-records : goal.returns-in-Ok-create_keeping-clause-records
returns-in-Ok-create_keeping-clause-records g c =
    let o = c.in-Ok-create_keeping.ensures in
    IfOk-weaker c.fill.result _ _
    (λ r h. h c.args.stream.now c.in-Ok.ensures.ok c.args.largest (λ sound. o.created (rw (← o.store.0) sound))) c.fill.ensures.records

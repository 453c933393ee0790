use Rattle.std.proofs.Common.{List, subst}
use Rattle.hd_volume.proofs.CallSteps.{if-ok, sound-back}
use Rattle.hd_position.specs.Kept.{Kept}
use Rattle.hd_session.specs.Replies.{reply_of}
use Rattle.hd_session.specs.Sessions.{IsStepDone, call_in}
use Rattle.hd_session.proofs.Foretelling.{can_parts, next_foretold, outlook_behind}
use Rattle.hd_session.proofs.outlook.foretell_call.Goals as goal

pub returns-clause-foretold : goal.returns-clause-foretold
returns-clause-foretold g c = if-ok c.call_step.result c.call_step.ensures.done (λ a done.
    let d = c.args.dbd.now in
    next_foretold d c.args.pcb.now c.args.call.now c.args.volume.now c.args.outlook.now (reply_of a c.call_step.new.io) c.call_step.new.volume c.call_step.new.positions
    (can_parts c.args.pcb.now c.args.call.now c.requires.can).0
    (subst (λ (ks : List Kept). IsStepDone d c.args.volume.now ks 1 (call_in d c.args.pcb.now 1 c.args.call.now) (reply_of a c.call_step.new.io) c.call_step.new.volume c.call_step.new.positions) c.outlook.view_is done))

pub returns-clause-read : goal.returns-clause-read
returns-clause-read g c = c.call_step.ensures.reads (can_parts c.args.pcb.now c.args.call.now c.requires.can).0

pub returns-clause-there : goal.returns-clause-there
returns-clause-there g c = if-ok c.call_step.result (returns-clause-foretold g c) (λ a next.
    outlook_behind c.args.dbd.now c.args.pcb.now c.args.call.now c.args.volume.now c.args.outlook.now (reply_of a c.call_step.new.io) c.call_step.new.volume c.call_step.new.positions
    (sound-back c.call_step.result c.args.volume.now.is_sound c.call_step.new.volume.is_sound (returns-clause-read g c).call.sound) c.requires.there next)

pub returns-clause-refusal : goal.returns-clause-refusal
returns-clause-refusal g c = (let can = can_parts c.args.pcb.now c.args.call.now c.requires.can in c.call_step.ensures.refuses can.0 can.1)

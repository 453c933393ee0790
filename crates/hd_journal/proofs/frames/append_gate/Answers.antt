use Rattle.std.proofs.Common.{◌∙◌}
use Rattle.std.proofs.lemmas.Result.{on_ok_weaker}
use Rattle.hd_journal.proofs.FrameLemmas.{gate-written}
use Rattle.hd_journal.proofs.frames.append_gate.Goals as goal

pub returns-clause-gate : goal.returns-clause-gate
returns-clause-gate g c =
    on_ok_weaker c.append_frame.result
    (λ value h. gate-written c.args.head (g.D.Disk.state c.append_frame.new.disk).log c.args.zeros.now c.append_frame.new.frame c.requires.some c.requires.zeros (value h) (c.append_frame.ensures.frame ∙ c.requires.frame) c.append_frame.ensures.number c.append_frame.ensures.block)
    c.append_frame.ensures.value

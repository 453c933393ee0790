use Rattle.std.proofs.Common.{refl, ◌∙◌, arith}
use Rattle.std.proofs.lemmas.Result.{on_ok_weaker}
use Rattle.hd_journal.specs.States.{StandsFor}
use Rattle.hd_journal.proofs.Moments.{started, goes_on}
use Rattle.hd_journal.proofs.Opens.{shut}
use Rattle.hd_journal.proofs.Publishes.{behind}
use Rattle.hd_journal.proofs.Steps.{inside}
use Rattle.hd_journal.proofs.opening.lengthen.Goals as goal

pub returns-clause-long : goal.returns-clause-long
returns-clause-long g c =
    on_ok_weaker c.write_log.result (λ value h. let e = inside (g.D.Disk.state c.write_log.new.self).log _ 1 50 (value h) refl (omega arith) in omega arith) c.write_log.ensures.value

pub returns-clause-leaves : goal.returns-clause-leaves
returns-clause-leaves g c h =
    let a = g.D.Disk.state c.args.disk.now in
    let b = g.D.Disk.state c.write_log.new.self in
    goes_on (StandsFor a.volume) (started (StandsFor a.volume) a) (c.write_log.ensures.writes h).time
    (λ l v may. let is = behind a b 1 50 (omega arith) (c.requires.settled h) (c.write_log.ensures.writes h) l v may in shut l v is.0.gate ∙ is.1)

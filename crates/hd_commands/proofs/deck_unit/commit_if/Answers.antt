use Rattle.std.proofs.Common.{◌≡◌, Bool, ap, ◌∙◌}
use Rattle.std.specs.Prelude.{◌&&◌, not}
use Rattle.hd_commands.proofs.Units.{may-commit}
use Rattle.hd_commands.proofs.deck_unit.commit_if.Goals as goal

pub returns-clause-commits : goal.returns-clause-commits
returns-clause-commits g c honest =
    let old = c.args.store.now in
    let new = c.commit-committed.new.self in
    let e = c.commit-committed.ensures in
    let sound : old.is_sound ≡ not old.failed = c.assure.ensures.sound ∙ ap (λ (b : Bool). b && not old.failed) honest in
    may-commit c.args.wanted old.is_sound old.failed old.contents new.contents old.committed new.committed c.commit-committed.result c.if-not-wanted.false sound e.committed e.fails (λ dead. (e.dead dead).1)

use Rattle.hd_deck.specs.Runs.{turns_of}
use Rattle.hd_deck.specs.Commits.{stored_in, requests_from}
use Rattle.hd_deck.proofs.Closing.{on_ok}
use Rattle.hd_deck.proofs.CommitsClosing.{requests_out, leaves_until, any_broken}
use Rattle.hd_deck.proofs.runs.commit_and_close.Goals as goal

pub returns-in-Ok-clause-plays : goal.returns-in-Ok-clause-plays
returns-in-Ok-clause-plays g c =
    requests_out c.args.session c.play_and_commit_steps-played.new.session (stored_in g.S.BlockStore.contents g.S.BlockStore.committed c.close-store.result.0) c.close-store.ensures.committed
    (on_ok c.close-store.result.1 c.if-is_err.ensures.value c.close-store.ensures.closed) c.in-Ok.ensures.whole (requests_from c.args.every 1 (turns_of c.args.steps.now))
    (g.W.Write.contents c.args.out.now) (g.W.Write.contents c.play_and_commit_steps-played.new.out) c.in-Ok.count.memory c.in-Ok.ensures.plays

pub returns-in-Err-clause-leaves : goal.returns-in-Err-clause-leaves
returns-in-Err-clause-leaves g c =
    leaves_until c.args.session c.play_and_commit_steps-played.new.session (stored_in g.S.BlockStore.contents g.S.BlockStore.committed c.close-store.result.0) c.close-store.ensures.committed
    (on_ok c.close-store.result.1 c.if-is_err.ensures.value c.close-store.ensures.closed) (requests_from c.args.every 1 (turns_of c.args.steps.now)) c.in-Err.stop c.in-Err.ensures.stops c.in-Err.ensures.until

pub returns-then-is_err-clause-leaves : goal.returns-then-is_err-clause-leaves
returns-then-is_err-clause-leaves g c =
    any_broken c.args.session c.play_and_commit_steps-played.new.session (stored_in g.S.BlockStore.contents g.S.BlockStore.committed c.close-store.result.0) c.close-store.ensures.committed
    (requests_from c.args.every 1 (turns_of c.args.steps.now)) (g.W.Write.contents c.args.out.now) (g.W.Write.contents c.play_and_commit_steps-played.new.out) c.play_and_commit_steps-played.result
    c.play_and_commit_steps-played.ensures.plays c.play_and_commit_steps-played.ensures.until

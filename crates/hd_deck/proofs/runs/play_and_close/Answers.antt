use Rattle.hd_deck.specs.Runs.{turns_of}
use Rattle.hd_deck.proofs.Closing.{played_out, left_at, on_ok}
use Rattle.hd_deck.proofs.runs.play_and_close.Goals as goal

pub returns-in-Ok-clause-plays : goal.returns-in-Ok-clause-plays
returns-in-Ok-clause-plays g c =
    played_out c.args.session c.play_steps-played.new.session (turns_of c.args.steps.now) (g.S.BlockStore.contents c.close-store.result.0)
    (on_ok c.close-store.result.1 c.if-is_err.ensures.value c.close-store.ensures.closed)
    (g.W.Write.contents c.args.out.now) (g.W.Write.contents c.play_steps-played.new.out) c.in-Ok.count.memory c.in-Ok.ensures.whole c.in-Ok.ensures.plays

pub returns-in-Err-clause-leaves : goal.returns-in-Err-clause-leaves
returns-in-Err-clause-leaves g c =
    left_at c.args.session c.play_steps-played.new.session (turns_of c.args.steps.now) (g.S.BlockStore.contents c.close-store.result.0)
    (on_ok c.close-store.result.1 c.if-is_err.ensures.value c.close-store.ensures.closed) c.in-Err.stop c.in-Err.ensures.stops c.in-Err.ensures.until

use Rattle.std.proofs.Common.{List, length, sym, subst, inr, arith}
use Rattle.std.proofs.KnownBytes.{Appends-kept}
use Rattle.std.proofs.lemmas.List.{take_all}
use Rattle.hd_session.specs.Turns.{Turn}
use Rattle.hd_deck.specs.Printing.{print}
use Rattle.hd_deck.specs.Runs.{turns_of, IsPlayed}
use Rattle.hd_commands.proofs.Saying.{play-says}
use Rattle.hd_commands.proofs.deck_command.play_and_print.Goals as goal

pub returns-in-Ok-flush-clause-played : goal.returns-in-Ok-flush-clause-played
returns-in-Ok-flush-clause-played g c = λ sound.
    let run = c.in-Ok.ensures.played sound in
    record { log = run.log; played = run.played; printed = Appends-kept (g.O.Write.contents c.args.out.now) _ _ (print run.log) run.printed c.flush.ensures.bytes; memory = run.memory }

-- all calls were made, and it was a write that failed
pub returns-in-Err-flush-clause-refused : goal.returns-in-Err-flush-clause-refused
returns-in-Err-flush-clause-refused g c = inr (λ sound.
    let run = c.in-Ok.ensures.played sound in
    let turns : List Turn = turns_of c.args.steps.now in
    record {
      made = length turns;
      some = omega arith;
      log = run.log;
      played = subst (λ (made : List Turn). IsPlayed c.args.dbd.now c.args.psb.now.pcbs (g.S.BlockStore.contents c.args.store) made run.log (g.S.BlockStore.contents c.in-Ok.end.store))
          (sym (take_all (length turns) turns (omega arith))) run.played;
    })

pub returns-after-matches-clause-refused : goal.returns-after-matches-clause-refused
returns-after-matches-clause-refused g c =
    rw c.of_run.ensures
    (play-says g.S.BlockStore.is_sound g.S.BlockStore.failures g.S.BlockStore.contents c.args.dbd.now c.args.psb.now.pcbs c.args.steps.now c.args.store c.in-Err.store c.in-Err.fault
    c.in-Err.ensures.fault c.in-Err.ensures.counts c.in-Err.ensures.stays_sound)

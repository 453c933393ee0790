use Rattle.std.proofs.Common.{inr}
use Rattle.hd_deck.specs.Runs.{turns_of}
use Rattle.hd_deck.specs.Commits.{stored_in, requests_from}
use Rattle.hd_commands.proofs.UnitSaying.{if-ok}
use Rattle.hd_commands.proofs.UnitCommits.{all_in_part, broken_part, same-refusal, if-err}
use Rattle.hd_commands.proofs.deck_commits.play_and_commit.Goals as goal

pub returns-in-Ok-clause-commits : goal.returns-in-Ok-clause-commits
returns-in-Ok-clause-commits g c = λ sound.
    let printed = c.commit_and_print-store in
    let store = stored_in g.S.BlockStore.contents g.S.BlockStore.committed c.args.store in
    let left = stored_in g.S.BlockStore.contents g.S.BlockStore.committed printed.result.0 in
    let requests = requests_from c.args.every 1 (turns_of c.args.steps.now) in
    let done = if-ok _ printed.result.1 c.in-Ok.memory c.in-Ok.is printed.ensures.played sound in
    inr (broken_part c.args.dbd.now c.args.psb.now.pcbs store left requests (all_in_part c.args.dbd.now c.args.psb.now.pcbs store left requests done.done))

pub returns-in-Err-clause-commits : goal.returns-in-Err-clause-commits
returns-in-Err-clause-commits g c =
    let printed = c.commit_and_print-store in
    if-err _ printed.result.1 c.in-Err.refusal c.in-Err.is printed.ensures.commits

pub returns-in-Err-clause-part : goal.returns-in-Err-clause-part
returns-in-Err-clause-part g c = λ device.
    let printed = c.commit_and_print-store in
    if-err _ printed.result.1 c.in-Err.refusal c.in-Err.is printed.ensures.part (same-refusal _ _ _ c.refuse.ensures.named device)

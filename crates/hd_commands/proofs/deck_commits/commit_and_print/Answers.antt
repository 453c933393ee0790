use Rattle.std.proofs.Common.{sym, ◌∙◌, inr}
use Rattle.std.proofs.KnownBytes.{Appends-kept}
use Rattle.hd_deck.specs.Printing.{print}
use Rattle.hd_deck.specs.Runs.{turns_of}
use Rattle.hd_deck.specs.Commits.{stored_in, requests_from}
use Rattle.hd_commands.proofs.UnitCommits.{all_in_part, broken_part, played_part, commit-says, part-at-write, commits-until}
use Rattle.hd_commands.proofs.deck_commits.commit_and_print.Goals as goal

pub returns-in-Ok-flush-clause-played : goal.returns-in-Ok-flush-clause-played
returns-in-Ok-flush-clause-played g c = λ sound.
    let run = c.in-Ok.ensures.done sound in
    record { done = run.done; printed = Appends-kept (g.O.Write.contents c.args.out.now) _ _ (print run.done.log) run.printed c.flush.ensures.bytes; memory = run.memory }

-- all calls were made, and it was a write that failed
pub returns-in-Err-flush-clause-refused : goal.returns-in-Err-flush-clause-refused
returns-in-Err-flush-clause-refused g c = inr (λ sound.
    let store = stored_in g.S.BlockStore.contents g.S.BlockStore.committed c.args.store in
    let left = stored_in g.S.BlockStore.contents g.S.BlockStore.committed c.in-Ok.end.store in
    let turns = turns_of c.args.steps.now in
    played_part c.args.dbd.now c.args.psb.now.pcbs store left c.args.every turns
    (all_in_part c.args.dbd.now c.args.psb.now.pcbs store left (requests_from c.args.every 1 turns) (c.in-Ok.ensures.done sound).done))

pub returns-in-Err-flush-clause-part : goal.returns-in-Err-flush-clause-part
returns-in-Err-flush-clause-part g c = λ device sound now.
    all_in_part c.args.dbd.now c.args.psb.now.pcbs (stored_in g.S.BlockStore.contents g.S.BlockStore.committed c.args.store)
    (stored_in g.S.BlockStore.contents g.S.BlockStore.committed c.in-Ok.end.store) (requests_from c.args.every 1 (turns_of c.args.steps.now)) (c.in-Ok.ensures.done sound).done

pub returns-in-Err-flush-clause-commits : goal.returns-in-Err-flush-clause-commits
returns-in-Err-flush-clause-commits g c = λ sound.
    let store = stored_in g.S.BlockStore.contents g.S.BlockStore.committed c.args.store in
    let left = stored_in g.S.BlockStore.contents g.S.BlockStore.committed c.in-Ok.end.store in
    let requests = requests_from c.args.every 1 (turns_of c.args.steps.now) in
    inr (broken_part c.args.dbd.now c.args.psb.now.pcbs store left requests (all_in_part c.args.dbd.now c.args.psb.now.pcbs store left requests (c.in-Ok.ensures.done sound).done))

pub returns-after-matches-clause-refused : goal.returns-after-matches-clause-refused
returns-after-matches-clause-refused g c =
    rw c.of_run.ensures
    (commit-says g.S.BlockStore.is_sound g.S.BlockStore.failures g.S.BlockStore.contents g.S.BlockStore.committed c.args.dbd.now c.args.psb.now.pcbs c.args.steps.now c.args.every c.args.store
    c.in-Err.store c.in-Err.fault c.in-Err.ensures.fault c.in-Err.ensures.counts c.in-Err.ensures.stays_sound)

pub returns-after-matches-clause-part : goal.returns-after-matches-clause-part
returns-after-matches-clause-part g c = λ device sound now.
    part-at-write c.args.dbd.now c.args.psb.now.pcbs (stored_in g.S.BlockStore.contents g.S.BlockStore.committed c.args.store)
    (stored_in g.S.BlockStore.contents g.S.BlockStore.committed c.in-Err.store) (requests_from c.args.every 1 (turns_of c.args.steps.now)) c.in-Err.fault _ _
    (c.in-Err.ensures.fault sound) c.in-Err.ensures.stays_sound (sym c.of_run.ensures ∙ device) now

pub returns-after-matches-clause-commits : goal.returns-after-matches-clause-commits
returns-after-matches-clause-commits g c = λ sound.
    commits-until c.args.dbd.now c.args.psb.now.pcbs (stored_in g.S.BlockStore.contents g.S.BlockStore.committed c.args.store)
    (stored_in g.S.BlockStore.contents g.S.BlockStore.committed c.in-Err.store) (requests_from c.args.every 1 (turns_of c.args.steps.now)) c.in-Err.fault (c.in-Err.ensures.fault sound)

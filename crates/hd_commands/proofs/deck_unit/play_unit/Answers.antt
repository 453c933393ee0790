use Rattle.std.proofs.Common.{IsTrue, inl, refl, sym, subst}
use Rattle.hd_deck.specs.Runs.{turns_of}
use Rattle.hd_deck.specs.Commits.{stored_in, requests_from}
use Rattle.hd_commands.proofs.UnitSaying.{accesses-on, says-on, refused-as, no-fewer, unwritten, device-refused, on-ok, if-ok, on-err}
use Rattle.hd_commands.proofs.UnitCommits.{unit-commits, wanted-part, unit-done, stays-sound}
use Rattle.hd_commands.proofs.deck_unit.play_unit.Goals as goal

pub returns-in-Err-clause-commits : goal.returns-in-Err-clause-commits
returns-in-Err-clause-commits g c sound honest =
    let through = c.play_through-store in
    let store = stored_in (λ s. s.contents) (λ s. s.committed) c.args.store in
    let mid = stored_in (λ s. s.contents) (λ s. s.committed) through.result.0 in
    let turns = turns_of c.args.steps.now in
    unit-commits c.args.dbd.now c.args.psb.now.pcbs store mid c.args.every turns c.is_wanted-wanted.result through.result.0.is_sound c.commit_if-committed.new.store.committed (through.ensures.commits sound)
    (λ want now. wanted-part c.args.dbd.now c.args.psb.now.pcbs store mid (requests_from c.args.every 1 turns) through.result.1 _ _ c.args.store.is_sound through.result.0.is_sound sound now
    (c.is_wanted-wanted.ensures.played want) through.ensures.played through.ensures.part)
    (c.commit_if-committed.ensures.commits honest)

pub returns-in-Err-clause-accesses : goal.returns-in-Err-clause-accesses
returns-in-Err-clause-accesses g c =
    let through = c.play_through-store in
    let commit = c.commit_if-committed in
    accesses-on (λ s. s.is_sound) (λ s. s.failures) (λ s. s.is_sound) (λ s. s.failures) c.args.store through.result.0 c.args.store commit.new.store through.result.0.contents commit.new.store.contents
    commit.result refl refl (record { refusal = commit.ensures.refusal; counts = commit.ensures.counts; sound = commit.ensures.sound; contents_kept = commit.ensures.contents })
    through.ensures.accesses

pub returns-in-Err-committed-clause-commits : goal.returns-in-Err-committed-clause-commits
returns-in-Err-committed-clause-commits g c sound honest =
    let through = c.play_through-store in
    let store = stored_in (λ s. s.contents) (λ s. s.committed) c.args.store in
    let mid = stored_in (λ s. s.contents) (λ s. s.committed) through.result.0 in
    let turns = turns_of c.args.steps.now in
    unit-commits c.args.dbd.now c.args.psb.now.pcbs store mid c.args.every turns c.is_wanted-wanted.result through.result.0.is_sound c.commit_if-committed.new.store.committed (through.ensures.commits sound)
    (λ want now. wanted-part c.args.dbd.now c.args.psb.now.pcbs store mid (requests_from c.args.every 1 turns) through.result.1 _ _ c.args.store.is_sound through.result.0.is_sound sound now
    (c.is_wanted-wanted.ensures.played want) through.ensures.played through.ensures.part)
    (c.commit_if-committed.ensures.commits honest)

pub returns-in-Err-committed-clause-accesses : goal.returns-in-Err-committed-clause-accesses
returns-in-Err-committed-clause-accesses g c =
    let through = c.play_through-store in
    let commit = c.commit_if-committed in
    accesses-on (λ s. s.is_sound) (λ s. s.failures) (λ s. s.is_sound) (λ s. s.failures) c.args.store through.result.0 c.args.store commit.new.store through.result.0.contents commit.new.store.contents
    commit.result refl refl (record { refusal = commit.ensures.refusal; counts = commit.ensures.counts; sound = commit.ensures.sound; contents_kept = commit.ensures.contents })
    through.ensures.accesses

pub returns-in-Ok-committed-clause-commits : goal.returns-in-Ok-committed-clause-commits
returns-in-Ok-committed-clause-commits g c sound honest =
    let through = c.play_through-store in
    let store = stored_in (λ s. s.contents) (λ s. s.committed) c.args.store in
    let mid = stored_in (λ s. s.contents) (λ s. s.committed) through.result.0 in
    let turns = turns_of c.args.steps.now in
    unit-commits c.args.dbd.now c.args.psb.now.pcbs store mid c.args.every turns c.is_wanted-wanted.result through.result.0.is_sound c.commit_if-committed.new.store.committed (through.ensures.commits sound)
    (λ want now. wanted-part c.args.dbd.now c.args.psb.now.pcbs store mid (requests_from c.args.every 1 turns) through.result.1 _ _ c.args.store.is_sound through.result.0.is_sound sound now
    (c.is_wanted-wanted.ensures.played want) through.ensures.played through.ensures.part)
    (c.commit_if-committed.ensures.commits honest)

pub returns-in-Ok-committed-clause-accesses : goal.returns-in-Ok-committed-clause-accesses
returns-in-Ok-committed-clause-accesses g c =
    let through = c.play_through-store in
    let commit = c.commit_if-committed in
    accesses-on (λ s. s.is_sound) (λ s. s.failures) (λ s. s.is_sound) (λ s. s.failures) c.args.store through.result.0 c.args.store commit.new.store through.result.0.contents commit.new.store.contents
    commit.result refl refl (record { refusal = commit.ensures.refusal; counts = commit.ensures.counts; sound = commit.ensures.sound; contents_kept = commit.ensures.contents })
    through.ensures.accesses

pub returns-in-Err-clause-refused : goal.returns-in-Err-clause-refused
returns-in-Err-clause-refused g c =
    let through = c.play_through-store in
    let commit = c.commit_if-committed in
    refused-as through.result.1 c.in-Err.ended _ _ _ _ c.in-Err.is
    (λ r says. says-on (λ s. s.is_sound) (λ s. s.failures) (λ s. s.contents) (λ s. s.is_sound) (λ s. s.failures) (λ s. s.contents) c.args.dbd.now c.args.psb.now.pcbs c.args.steps.now
    c.args.store through.result.0 c.args.store commit.new.store commit.result r refl refl (λ now. refl)
    (record { refusal = commit.ensures.refusal; counts = commit.ensures.counts; sound = commit.ensures.sound; contents_kept = commit.ensures.contents }) through.ensures.accesses says)
    through.ensures.refused

pub returns-in-Ok-committed-clause-played : goal.returns-in-Ok-committed-clause-played
returns-in-Ok-committed-clause-played g c = λ sound.
    let through = c.play_through-store in
    let commit = c.commit_if-committed in
    let none = on-ok through.result.1 _ c.in-Ok.is through.ensures.failures in
    let now = subst IsTrue (sym (stays-sound (λ s. s.is_sound) (λ s. s.failures) c.args.store through.result.0 through.ensures.accesses none)) sound in
    let wanted = on-ok through.result.1 _ c.in-Ok.is c.is_wanted-wanted.ensures.all in
    unit-done c.args.dbd.now c.args.psb.now.pcbs (stored_in (λ s. s.contents) (λ s. s.committed) c.args.store) (stored_in (λ s. s.contents) (λ s. s.committed) through.result.0) c.args.every
    (turns_of c.args.steps.now) _ _ c.in-Ok.memory through.result.0.is_sound commit.new.store.contents commit.new.store.committed now
    (if-ok _ through.result.1 c.in-Ok.memory c.in-Ok.is through.ensures.played sound)
    (on-ok commit.result _ c.in-Ok-committed.is commit.ensures.lasts wanted)

pub returns-in-Err-committed-clause-refused : goal.returns-in-Err-committed-clause-refused
returns-in-Err-committed-clause-refused g c =
    let through = c.play_through-store in
    let commit = c.commit_if-committed in
    device-refused g.E.Write.contents _ _ _ _ _ c.refuse.ensures.status c.refuse.ensures.named c.refuse.ensures.line (on-ok through.result.1 _ c.in-Ok.is through.ensures.quiet)
    (inl (on-err commit.result _ c.in-Err-committed.is
    (unwritten commit.result _ _ _ _ _ _ c.args.store.failures (no-fewer (λ s. s.is_sound) (λ s. s.failures) c.args.store through.result.0 through.ensures.accesses) (record { refusal = commit.ensures.refusal; counts = commit.ensures.counts; sound = commit.ensures.sound; contents_kept = commit.ensures.contents }))))

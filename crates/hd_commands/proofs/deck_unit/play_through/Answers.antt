use Rattle.std.proofs.Common.{ap, sym, ◌∙◌, arith}
use Rattle.hd_commands.proofs.UnitSaying.{unit-of-play, says-alike, refused-on}
use Rattle.hd_commands.proofs.deck_unit.play_through.Goals as goal

pub returns-clause-played : goal.returns-clause-played
returns-clause-played g c =
    let old = ap (λ s. s.inner) c.new-counted.ensures ∙ c.new.ensures in
    let new = c.into_store.ensures ∙ c.into_inner.ensures in
    rw (new, ← old) c.play_and_commit-counted.ensures.played

pub returns-clause-refused : goal.returns-clause-refused
returns-clause-refused g c =
    let d = c.args.dbd.now in
    let pcbs = c.args.psb.now.pcbs in
    let steps = c.args.steps.now in
    let played = c.play_and_commit-counted in
    let old = ap (λ s. s.inner) c.new-counted.ensures ∙ c.new.ensures in
    let new = c.into_store.ensures ∙ c.into_inner.ensures in
    let before = ap (λ s. s.failures) old in
    let behind = ap (λ s. s.failures) new in
    refused-on played.result.1 _ _ _ _
    (λ r says. says-alike (λ s. s.inner.is_sound) (λ s. s.inner.failures) (λ s. s.inner.contents) (λ s. s.is_sound) (λ s. s.failures) (λ s. s.contents)
    d pcbs steps c.new-counted.result played.result.0 c.args.store c.into_store.result r
    (ap (λ s. s.is_sound) (sym old)) (λ now. (ap (λ s. s.contents) (sym old), ap (λ s. s.contents) new))
    (λ fails. (omega (arith, before, behind, fails.0), ap (λ s. s.is_sound) new ∙ fails.1))
    (unit-of-play (λ s. s.inner.is_sound) (λ s. s.inner.failures) (λ s. s.inner.contents) d pcbs steps c.new-counted.result played.result.0 r says))
    played.ensures.refused

pub returns-clause-part : goal.returns-clause-part
returns-clause-part g c =
    let old = ap (λ s. s.inner) c.new-counted.ensures ∙ c.new.ensures in
    let new = c.into_store.ensures ∙ c.into_inner.ensures in
    rw (new, ← old) c.play_and_commit-counted.ensures.part

pub returns-clause-commits : goal.returns-clause-commits
returns-clause-commits g c =
    let old = ap (λ s. s.inner) c.new-counted.ensures ∙ c.new.ensures in
    let new = c.into_store.ensures ∙ c.into_inner.ensures in
    rw (new, ← old) c.play_and_commit-counted.ensures.commits

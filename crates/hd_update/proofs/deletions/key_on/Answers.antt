use Rattle.std.proofs.Common.{◌≡◌, ℕ, ap, sym, subst, ◌∙◌}
use Rattle.hd_dbd.specs.Rows.{key_of}
use Rattle.hd_volume.proofs.CallSteps.{if-ok}
use Rattle.hd_links.specs.Links.{Links, IsSegment, segment_at}
use Rattle.hd_image.specs.Records.{links_of}
use Rattle.hd_forest.proofs.Reading.{after-read, links-kept, volume-kept}
use Rattle.hd_update.proofs.Unlinked.{tip_stored}
use Rattle.hd_update.proofs.deletions.key_on.Goals as goal

pub code_at-requires-clause-there : goal.code_at-requires-clause-there
code_at-requires-clause-there g c sound =
    let T = c.requires.there sound in
    subst (IsSegment (links_of c.args.dbd.now.types c.args.volume.now)) (sym c.tip_of-address.ensures) (tip_stored c.args.dbd.now c.args.volume.now T.0 c.args.path.now T.1 T.2)

pub key_at-requires-clause-of : goal.key_at-requires-clause-of
key_at-requires-clause-of g c = volume-kept c.args.dbd.now c.args.volume.now c.code_at.new.volume c.in_ok-code.ensures.read (λ sound. (c.requires.there sound).2.holds.volume)

pub key_at-requires-clause-there : goal.key_at-requires-clause-there
key_at-requires-clause-there g c = links-kept c.args.dbd.now (λ m. IsSegment m c.tip_of-address.result) c.args.volume.now c.code_at.new.volume c.in_ok-code.ensures.read (λ sound.
    let T = c.requires.there sound in
    subst (IsSegment (links_of c.args.dbd.now.types c.args.volume.now)) (sym c.tip_of-address.ensures) (tip_stored c.args.dbd.now c.args.volume.now T.0 c.args.path.now T.1 T.2))

pub key_at-requires-clause-typed : goal.key_at-requires-clause-typed
key_at-requires-clause-typed g c = links-kept c.args.dbd.now (λ (m : Links). m.code c.tip_of-address.result ≡ c.in_ok-code.code) c.args.volume.now c.code_at.new.volume c.in_ok-code.ensures.read (λ sound.
    sym (c.in_ok-code.ensures.value sound))

pub returns-clause-value : goal.returns-clause-value
returns-clause-value g c = if-ok c.key_at.result c.key_at.ensures.value (λ key value sound.
    let d = c.args.dbd.now in
    let same = after-read d c.args.volume.now c.code_at.new.volume c.in_ok-code.ensures.read sound in
    value same.sound
    ∙ ap (λ (m : Links). key_of d.types (segment_at m c.tip_of-address.result)) same.links
    ∙ ap (λ (a : ℕ). key_of d.types (segment_at (links_of d.types c.args.volume.now) a)) c.tip_of-address.ensures)

use Rattle.std.proofs.Common.{◌≡◌, sym, ap, ◌∙◌}
use Rattle.std.specs.Prelude.{◌&&◌}
use Rattle.std.specs.Ordering.{nat_cmp, is_eq}
use Rattle.std.specs.Cmp.Lexicographic.{slice_cmp}
use Rattle.std.proofs.lemmas.Bool.{eq-eqb}
use Rattle.hd_dbd.specs.Rows.{key_of}
use Rattle.hd_dbd.specs.Segment.{Segment}
use Rattle.hd_links.specs.Links.{Links, segment_at}
use Rattle.hd_image.specs.Records.{links_of}
use Rattle.hd_forest.proofs.Reading.{after-read}
use Rattle.hd_update.proofs.here.is_equal_at.Goals as goal

pub returns-clause-value : goal.returns-clause-value
returns-clause-value g c sound =
    let d = c.args.dbd.now in
    let v = c.args.volume.now in
    let m : Links = links_of d.types v in
    let a = c.args.address in
    let new : Segment = record { code = c.args.code; bytes = c.args.bytes.now } in
    let same = after-read d v c.code_at.new.volume c.in_ok-code_at.ensures.read sound in
    let code : m.code a ≡ c.args.code = sym (c.in_ok-code_at.ensures.value sound) ∙ c.if-branch-code.false in
    c.is_eq.ensures
    ∙ ap is_eq (c.in_ok-order.ensures.value same.sound ∙ ap (λ (k : Links). slice_cmp nat_cmp (key_of d.types (segment_at k a)) (key_of d.types new)) same.links)
    ∙ sym (ap (λ b. b && is_eq (slice_cmp nat_cmp (key_of d.types (segment_at m a)) (key_of d.types new))) (eq-eqb (m.code a) c.args.code code))

use Rattle.std.proofs.Common.{sym, subst, ◌∙◌}
use Rattle.std.proofs.lemmas.Result.{IfOk-weaker, IfErr-weaker}
use Rattle.hd_dbd.specs.Segment.{Segment}
use Rattle.hd_volume.proofs.RewriteLemmas.{rewritten-after}
use Rattle.hd_links.specs.Links.{Links, IsSegment}
use Rattle.hd_forest.proofs.Keeping.{free-seen}
use Rattle.hd_forest.proofs.Reading.{after-read, sound-before}
use Rattle.hd_forest.proofs.SegmentsSet.{row-whole, stands, row-longer, segment-set}
use Rattle.hd_forest.proofs.replacements.set_laid_out.Goals as goal

pub rewrite-requires-clause-there : goal.rewrite-requires-clause-there
rewrite-requires-clause-there g c now =
    let d = c.args.dbd.now in
    let u = c.args.volume.now in
    let v = c.lay_out_over.new.volume in
    let read = c.in_ok-lay_out_over.ensures.read in
    let sound = sound-before u v read now in
    let same = after-read d u v read sound in
    stands d v c.args.address c.in_ok-lay_out_over.ensures.fit (same.volume (c.requires.of sound)) (subst (λ (m : Links). IsSegment m c.args.address) (sym same.links) (c.requires.there sound))

pub rewrite-requires-clause-whole : goal.rewrite-requires-clause-whole
rewrite-requires-clause-whole g c =
    let d = c.args.dbd.now in
    let row : Segment = record { code = c.args.code; bytes = c.args.bytes.now } in
    row-whole d.block_size d.frspc d.types c.in_ok-lay_out_over.ensures.fit row c.requires.fits c.lay_out_over.new.room c.lay_out_over.new.volume.sizes
    c.in_ok-lay_out_over.ensures.row (c.in_ok-lay_out_over.ensures.read.call.sizes ∙ c.requires.sizes)

pub returns-clause-set : goal.returns-clause-set
returns-clause-set g c =
    IfOk-weaker c.rewrite.result _ _ (λ to rewritten sound.
    let d = c.args.dbd.now in
    let u = c.args.volume.now in
    let v = c.lay_out_over.new.volume in
    let w = c.rewrite.new.self in
    let row : Segment = record { code = c.args.code; bytes = c.args.bytes.now } in
    let read = c.in_ok-lay_out_over.ensures.read in
    let same = after-read d u v read sound in
    segment-set d u w c.args.address to row c.lay_out_over.new.room c.in_ok-lay_out_over.ensures.fit (c.requires.of sound)
    (c.rewrite.ensures.call.size ∙ read.call.size) (c.rewrite.ensures.call.sizes ∙ read.call.sizes) (c.requires.there sound) (c.requires.typed sound) (c.in_ok-lay_out_over.ensures.laid sound)
    (rewritten-after (record { same = record { size = read.call.size; sizes = read.call.sizes }; image = same.image }) read.call.plain c.args.address to c.lay_out_over.new.room (rewritten same.sound)))
    c.rewrite.ensures.rewritten

pub returns-clause-outgrown : goal.returns-clause-outgrown
returns-clause-outgrown g c =
    IfErr-weaker c.rewrite.result _ _ (λ e longer other sound.
    let d = c.args.dbd.now in
    let u = c.args.volume.now in
    let v = c.lay_out_over.new.volume in
    let row : Segment = record { code = c.args.code; bytes = c.args.bytes.now } in
    let read = c.in_ok-lay_out_over.ensures.read in
    let same = after-read d u v read sound in
    row-longer d u v c.args.address row c.lay_out_over.new.room c.in_ok-lay_out_over.ensures.fit (c.requires.of sound)
    (record { same = record { size = read.call.size; sizes = read.call.sizes }; image = same.image }) (c.requires.there sound) c.in_ok-lay_out_over.ensures.row.size (longer other same.sound))
    c.rewrite.ensures.longer

pub returns-clause-no_free : goal.returns-clause-no_free
returns-clause-no_free g c =
    IfErr-weaker c.rewrite.result _ _ (λ e none memory sound free.
    let d = c.args.dbd.now in
    let u = c.args.volume.now in
    let v = c.lay_out_over.new.volume in
    let read = c.in_ok-lay_out_over.ensures.read in
    let same = after-read d u v read sound in
    none memory same.sound (free-seen u v same.image read.call.size free))
    c.rewrite.ensures.no_free

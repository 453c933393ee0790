use Rattle.std.proofs.Common.{ℕ, List, ap₂, ◌∙◌}
use Rattle.hd_dbd.specs.Types.{SegmentType}
use Rattle.hd_dbd.specs.Segment.{Segment}
use Rattle.hd_prefix.specs.Fields.{new_segment, segment_with}
use Rattle.hd_forest.proofs.SegmentsSet.{laid-with, laid-new}
use Rattle.hd_forest.proofs.replacements.lay_out_with.Goals as goal

pub returns-then-prefix_length-segment-clause-laid : goal.returns-then-prefix_length-segment-clause-laid
returns-then-prefix_length-segment-clause-laid c = λ own some long.
    let d = c.args.dbd.now in
    let row : Segment = record { code = c.args.code; bytes = c.args.bytes.now } in
    laid-with d.block_size d.frspc d.types c.types.ensures.fit row c.requires.fits c.args.segment.now c.write_with.new.room long
    (c.write_with.ensures ∙ ap₂ (λ (ts : List SegmentType) (k : ℕ). segment_with ts k c.args.segment.now c.args.bytes.now) c.of-layout.ensures.types c.of-layout.ensures.code)

pub returns-else-eq-clause-row : goal.returns-else-eq-clause-row
returns-else-eq-clause-row c =
    let d = c.args.dbd.now in
    let row : Segment = record { code = c.args.code; bytes = c.args.bytes.now } in
    laid-new d.block_size d.frspc d.types c.types.ensures.fit row c.requires.fits c.write_new.new.segment
    (c.write_new.ensures ∙ ap₂ (λ (ts : List SegmentType) (k : ℕ). new_segment ts k c.args.bytes.now) c.of-layout.ensures.types c.of-layout.ensures.code)

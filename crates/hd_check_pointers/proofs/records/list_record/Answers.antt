use Rattle.hd_volume.proofs.CallSteps.{if-ok}
use Rattle.hd_check_blocks.proofs.Lent.{has-segment, lent}
use Rattle.hd_check_pointers.proofs.records.list_record.Goals as goal

pub segment_at-requires-clause-there : goal.segment_at-requires-clause-there
segment_at-requires-clause-there g c = λ sound. has-segment c.args.dbd.now c.args.volume.now c.args.address (c.requires.of sound).fit (c.requires.of sound) (c.requires.there sound)

pub returns-clause-faults : goal.returns-clause-faults
returns-clause-faults g c = if-ok c.list_segment.result c.list_segment.ensures.faults (λ x listed sound places.
    listed c.args.volume.now places
    (lent c.args.dbd.now c.args.volume.now c.args.address c.in_ok-segment.segment.now (c.requires.of sound).fit (c.requires.of sound) (c.requires.there sound) (c.in_ok-segment.ensures.value sound)))

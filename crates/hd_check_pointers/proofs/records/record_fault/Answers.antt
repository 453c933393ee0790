use Rattle.hd_check_blocks.proofs.Lent.{has-segment, lent}
use Rattle.hd_check_pointers.proofs.records.record_fault.Goals as goal

pub segment_at-requires-clause-there : goal.segment_at-requires-clause-there
segment_at-requires-clause-there g c = λ sound. has-segment c.args.dbd.now c.args.volume.now c.args.address (c.requires.of sound).fit (c.requires.of sound) (c.requires.there sound)

pub returns-clause-none : goal.returns-clause-none
returns-clause-none g c = λ sound places.
    c.segment_pointers_fault-fault.ensures.none c.args.volume.now places
    (lent c.args.dbd.now c.args.volume.now c.args.address c.in_ok-segment.segment.now (c.requires.of sound).fit (c.requires.of sound) (c.requires.there sound) (c.in_ok-segment.ensures.value sound))

pub returns-clause-some : goal.returns-clause-some
returns-clause-some g c = λ sound places.
    c.segment_pointers_fault-fault.ensures.some c.args.volume.now places
    (lent c.args.dbd.now c.args.volume.now c.args.address c.in_ok-segment.segment.now (c.requires.of sound).fit (c.requires.of sound) (c.requires.there sound) (c.in_ok-segment.ensures.value sound))

pub returns-clause-forwards : goal.returns-clause-forwards
returns-clause-forwards g c = λ sound.
    c.in_ok-note_pointers.ensures.forwards c.args.volume.now
    (lent c.args.dbd.now c.args.volume.now c.args.address c.in_ok-segment.segment.now (c.requires.of sound).fit (c.requires.of sound) (c.requires.there sound) (c.in_ok-segment.ensures.value sound))

pub returns-clause-namings : goal.returns-clause-namings
returns-clause-namings g c = λ sound.
    c.in_ok-note_pointers.ensures.namings c.args.volume.now
    (lent c.args.dbd.now c.args.volume.now c.args.address c.in_ok-segment.segment.now (c.requires.of sound).fit (c.requires.of sound) (c.requires.there sound) (c.in_ok-segment.ensures.value sound))

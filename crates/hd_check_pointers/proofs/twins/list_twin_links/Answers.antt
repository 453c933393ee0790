use Rattle.hd_volume.proofs.CallSteps.{if-ok}
use Rattle.hd_check_pointers.specs.Tables.{place_at}
use Rattle.hd_check_blocks.proofs.Lent.{has-segment, lent}
use Rattle.hd_check_pointers.proofs.PlaceNumbers.{stands}
use Rattle.hd_check_pointers.proofs.twins.list_twin_links.Goals as goal

pub segment_at-requires-clause-formatted : goal.segment_at-requires-clause-formatted
segment_at-requires-clause-formatted g c = λ sound. (c.requires.matched sound).volume.formatted

pub segment_at-requires-clause-there : goal.segment_at-requires-clause-there
segment_at-requires-clause-there g c = λ sound.
    let M = c.requires.matched sound in
    has-segment c.args.dbd.now c.args.volume.now (place_at c.args.places.now c.args.number).address M.volume.fit M.volume (stands c.args.dbd.now c.args.volume.now c.args.places.now M c.args.number c.requires.within)

pub returns-clause-faults : goal.returns-clause-faults
returns-clause-faults g c = if-ok c.list_twin_pointers.result c.list_twin_pointers.ensures.faults (λ x listed sound.
    let M = c.requires.matched sound in
    listed c.args.volume.now M (c.requires.forwards sound) (c.requires.owners sound)
    (lent c.args.dbd.now c.args.volume.now (place_at c.args.places.now c.args.number).address c.in_ok-segment.segment.now M.volume.fit M.volume
    (stands c.args.dbd.now c.args.volume.now c.args.places.now M c.args.number c.requires.within) (c.in_ok-segment.ensures.value sound)) (c.requires.precedes sound))

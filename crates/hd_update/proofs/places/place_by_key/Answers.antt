use Rattle.hd_dbd.specs.Segment.{Segment}
use Rattle.hd_volume.proofs.CallSteps.{if-ok}
use Rattle.hd_update.proofs.PlaceChains.{parent_kept, ends_kept, gap_told}
use Rattle.hd_update.proofs.places.place_by_key.Goals as goal

pub returns-then-not-has_key-clause-value : goal.returns-then-not-has_key-clause-value
returns-then-not-has_key-clause-value g c = if-ok c.place_without_key.result c.place_without_key.ensures.value (λ r value. value c.args.bytes.now)

pub place_among-requires-clause-parent : goal.place_among-requires-clause-parent
place_among-requires-clause-parent g c =
    parent_kept c.args.dbd.now c.args.volume.now c.first_and_last_child.new.volume c.in_ok-ends.ensures.read c.args.parent c.args.code c.requires.parent

pub place_among-requires-clause-ends : goal.place_among-requires-clause-ends
place_among-requires-clause-ends g c =
    ends_kept c.args.dbd.now c.args.volume.now c.first_and_last_child.new.volume c.in_ok-ends.ensures.read c.args.parent c.args.code c.in_ok-ends.ends
    (λ sound. (c.in_ok-ends.ensures.first sound, c.in_ok-ends.ensures.last sound))

pub returns-then-ends-eq0-clause-value : goal.returns-then-ends-eq0-clause-value
returns-then-ends-eq0-clause-value g c =
    let new : Segment = record { code = c.args.code; bytes = c.args.bytes.now } in
    if-ok c.place_among.result c.place_among.ensures.value
    (λ r value. gap_told c.args.dbd.now c.args.volume.now c.first_and_last_child.new.volume c.in_ok-ends.ensures.read c.args.parent c.args.last new r value)

pub place_from_last-requires-clause-parent : goal.place_from_last-requires-clause-parent
place_from_last-requires-clause-parent g c =
    parent_kept c.args.dbd.now c.args.volume.now c.first_and_last_child.new.volume c.in_ok-ends.ensures.read c.args.parent c.args.code c.requires.parent

pub place_from_last-requires-clause-ends : goal.place_from_last-requires-clause-ends
place_from_last-requires-clause-ends g c =
    ends_kept c.args.dbd.now c.args.volume.now c.first_and_last_child.new.volume c.in_ok-ends.ensures.read c.args.parent c.args.code c.in_ok-ends.ends
    (λ sound. (c.in_ok-ends.ensures.first sound, c.in_ok-ends.ensures.last sound))

pub returns-clause-value : goal.returns-clause-value
returns-clause-value g c =
    let new : Segment = record { code = c.args.code; bytes = c.args.bytes.now } in
    if-ok c.place_from_last.result c.place_from_last.ensures.value
    (λ r value. gap_told c.args.dbd.now c.args.volume.now c.first_and_last_child.new.volume c.in_ok-ends.ensures.read c.args.parent c.args.last new r value)

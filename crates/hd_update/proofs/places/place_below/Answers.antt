use Rattle.std.proofs.Common.{true, false, sym, ap, subst}
use Rattle.hd_dbd.specs.declared.hierarchy.Rule.{Rule}
use Rattle.hd_dbd.specs.Segment.{Segment}
use Rattle.hd_calls.specs.Places.{equal_after}
use Rattle.hd_volume.proofs.CallSteps.{if-ok}
use Rattle.hd_links.specs.Steps.{rows_of}
use Rattle.hd_update.specs.Places.{IsGapBelow}
use Rattle.hd_update.proofs.PlaceBelow.{has_parent, found_below, root_below}
use Rattle.hd_update.proofs.places.place_below.Goals as goal

pub returns-then-code-eq1-clause-value : goal.returns-then-code-eq1-clause-value
returns-then-code-eq1-clause-value g c =
    let d = c.args.dbd.now in
    let v = c.args.volume.now in
    let new : Segment = record { code = c.args.code; bytes = c.args.bytes.now } in
    if-ok c.place_of_root.result c.place_of_root.ensures.value (λ r value.
    root_below d v c.args.parent.now c.args.position.now c.args.rule new c.if-code-eq1.true c.requires.fits r
    (subst (λ code. IsGapBelow d v 0 false (record { code = code; bytes = c.args.bytes.now }) r) (sym c.if-code-eq1.true) value))

pub place_by_key-requires : goal.place_by_key-requires
place_by_key-requires g c = record {
  parent = has_parent c.args.dbd.now c.args.volume.now c.args.parent.now c.args.position.now c.args.code c.tip_of.result c.requires.there c.tip_of.ensures;
}

pub place_by_key-requires-in-Last : goal.place_by_key-requires-in-Last
place_by_key-requires-in-Last g c = record {
  parent = has_parent c.args.dbd.now c.args.volume.now c.args.parent.now c.args.position.now c.args.code c.tip_of-in-Last.result c.requires.there c.tip_of-in-Last.ensures;
}

pub returns-in-First-clause-value : goal.returns-in-First-clause-value
returns-in-First-clause-value g c =
    let d = c.args.dbd.now in
    let new : Segment = record { code = c.args.code; bytes = c.args.bytes.now } in
    if-ok c.place_by_key.result c.place_by_key.ensures.value (λ r value.
    found_below d c.args.volume.now c.args.parent.now c.args.position.now c.args.rule false new c.tip_of.result c.tip_of.ensures c.requires.fits
    (λ f q parent at at_parent below j equal many. ap (λ (rule : Rule). equal_after d.types (rows_of f) parent q.standing rule new j) c.in-First.is) r value)

pub returns-in-Last-clause-value : goal.returns-in-Last-clause-value
returns-in-Last-clause-value g c =
    let d = c.args.dbd.now in
    let new : Segment = record { code = c.args.code; bytes = c.args.bytes.now } in
    if-ok c.place_by_key-in-Last.result c.place_by_key-in-Last.ensures.value (λ r value.
    found_below d c.args.volume.now c.args.parent.now c.args.position.now c.args.rule true new c.tip_of-in-Last.result c.tip_of-in-Last.ensures c.requires.fits
    (λ f q parent at at_parent below j equal many. ap (λ (rule : Rule). equal_after d.types (rows_of f) parent q.standing rule new j) c.in-Last.is) r value)

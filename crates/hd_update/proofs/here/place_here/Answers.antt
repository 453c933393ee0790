use Rattle.std.proofs.Common.{false, sym, subst, ◌∙◌}
use Rattle.hd_dbd.specs.declared.hierarchy.Rule.TheVariants.{Here}
use Rattle.hd_dbd.specs.Segment.{Segment}
use Rattle.hd_calls.specs.Places.{is_equal_twin}
use Rattle.hd_volume.proofs.CallSteps.{if-ok}
use Rattle.hd_links.specs.Steps.{rows_of, path_at}
use Rattle.hd_update.specs.Places.{IsStandingTwin}
use Rattle.hd_update.proofs.PlaceBelow.{has_parent, found_below}
use Rattle.hd_update.proofs.PlaceChains.{parent_kept, gap_told}
use Rattle.hd_update.proofs.PlaceEqual.{equal_there, before_equal}
use Rattle.hd_update.proofs.PlaceStanding.{none_found_before}
use Rattle.hd_volume.proofs.CallSteps.{reads-join}
use Rattle.hd_update.proofs.here.place_here.Goals as goal

pub place_before_equal-requires : goal.place_before_equal-requires
place_before_equal-requires g c = record {
  there =
      (let new : Segment = record { code = c.args.code; bytes = c.args.bytes.now } in
      equal_there c.args.dbd.now c.args.volume.now c.standing_twin.new.volume c.in_ok-equal.ensures.read c.args.parent.now c.args.position.now new c.in-Some.equal c.requires.there
      (subst (IsStandingTwin c.args.dbd.now c.args.volume.now c.args.parent.now c.args.position.now new) c.in-Some.is c.in_ok-equal.ensures.value));
}

pub place_by_key-requires : goal.place_by_key-requires
place_by_key-requires g c = record {
  parent =
      parent_kept c.args.dbd.now c.args.volume.now c.standing_twin.new.volume c.in_ok-equal.ensures.read c.tip_of.result c.args.code
      (has_parent c.args.dbd.now c.args.volume.now c.args.parent.now c.args.position.now c.args.code c.tip_of.result c.requires.there c.tip_of.ensures);
}

pub returns-in-Some-clause-value : goal.returns-in-Some-clause-value
returns-in-Some-clause-value g c =
    let new : Segment = record { code = c.args.code; bytes = c.args.bytes.now } in
    if-ok c.place_before_equal.result c.place_before_equal.ensures.value (λ r value.
    before_equal c.args.dbd.now c.args.volume.now c.standing_twin.new.volume c.in_ok-equal.ensures.read c.args.parent.now c.args.position.now new c.in-Some.equal c.requires.fits
    (subst (IsStandingTwin c.args.dbd.now c.args.volume.now c.args.parent.now c.args.position.now new) c.in-Some.is c.in_ok-equal.ensures.value) r value)

pub returns-in-None-clause-value : goal.returns-in-None-clause-value
returns-in-None-clause-value g c =
    let d = c.args.dbd.now in
    let new : Segment = record { code = c.args.code; bytes = c.args.bytes.now } in
    if-ok c.place_by_key.result c.place_by_key.ensures.value (λ r value.
    found_below d c.args.volume.now c.args.parent.now c.args.position.now Here false new c.tip_of.result c.tip_of.ensures c.requires.fits
    (λ f q parent at at_parent below j equal many.
    none_found_before (λ i. is_equal_twin d.types (rows_of f) parent new i) (λ i. path_at d.types f i) j q.standing (sym c.in-None.is ∙ c.in_ok-equal.ensures.value f q parent at at_parent)) r
    (gap_told d c.args.volume.now c.standing_twin.new.volume c.in_ok-equal.ensures.read c.tip_of.result false new r value))

pub returns-in-Some-clause-read : goal.returns-in-Some-clause-read
returns-in-Some-clause-read g c = reads-join c.place_before_equal.result c.in_ok-equal.ensures.read c.place_before_equal.ensures.read

use Rattle.std.proofs.Common.{sym, ap, subst, ◌∙◌}
use Rattle.std.specs.Prelude.{length}
use Rattle.std.proofs.lemmas.Bool.{eqb-true}
use Rattle.hd_volume.proofs.JoinLemmas.{if-ok-map}
use Rattle.hd_volume.proofs.CallSteps.{reads-join}
use Rattle.hd_position.specs.Kept.{Kept}
use Rattle.hd_get.specs.Gets.{GetCall, IsPositionIn, HasPosition}
use Rattle.hd_get.proofs.NextTwins.{none_are, none_told}
use Rattle.hd_get.proofs.Seeking.{position_told, position_kept}
use Rattle.hd_get.proofs.answers.get.Goals as goal

pub get_next_twin-requires-clause-bare : goal.get_next_twin-requires-clause-bare
get_next_twin-requires-clause-bare g c =
    sym (ap (λ (call : GetCall). call.ssas) c.call.view_is)
    ∙ sym (none_are c.call.inside.ssas.now (eqb-true (length c.call.inside.ssas.now) 0 (sym c.if-not-is_empty.ensures)))

pub get_by_search-requires-in-None-clause-there : goal.get_by_search-requires-in-None-clause-there
get_by_search-requires-in-None-clause-there g c =
    let d = c.args.dbd.now in
    let u = c.args.volume.now in
    position_kept d u c.get_next_twin.new.volume c.in_ok-status.ensures.read c.get_next_twin.new.position
    (subst (HasPosition d u) (sym (none_told c.in_ok-status.field-0 c.in-None.is c.in_ok-status.ensures.stays)) c.requires.there)

pub returns-in-None-clause-read : goal.returns-in-None-clause-read
returns-in-None-clause-read g c = reads-join c.get_by_search-in-None.result c.in_ok-status.ensures.read c.get_by_search-in-None.ensures.read

pub returns-in-None-clause-value : goal.returns-in-None-clause-value
returns-in-None-clause-value g c = if-ok-map c.get_by_search-in-None.result (λ o got f q at.
    let d = c.args.dbd.now in
    let u = c.args.volume.now in
    let k : Kept = c.get_next_twin.new.position in
    got f q (position_told d u c.get_next_twin.new.volume c.in_ok-status.ensures.read f k q
    (subst (λ (k : Kept). IsPositionIn d u f k q) (sym (none_told c.in_ok-status.field-0 c.in-None.is c.in_ok-status.ensures.stays)) at))) c.get_by_search-in-None.ensures.value

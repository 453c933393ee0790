use Rattle.std.proofs.Common.{sym, subst, ◌∙◌}
use Rattle.hd_dbd.specs.Positions.{Position}
use Rattle.hd_dbd.specs.Calls.{Reply}
use Rattle.hd_volume.proofs.JoinLemmas.{if-ok-map}
use Rattle.hd_links.specs.Steps.{rows_of}
use Rattle.hd_position.specs.Kept.{StandsFor}
use Rattle.hd_get.specs.Gets.{IsOutcomeOf}
use Rattle.hd_get.specs.Found.{sought_by}
use Rattle.hd_get.proofs.Seeking.{position_told, position_back, position_kept, none_found, answer_missing}
use Rattle.hd_volume.proofs.CallSteps.{reads-join}
use Rattle.hd_get.proofs.answers.get_by_search.Goals as goal

pub found-requires-clause-there : goal.found-requires-clause-there
found-requires-clause-there g c = position_kept c.args.dbd.now c.args.volume.now c.seek.new.volume c.in_ok-path.ensures.read c.args.position.now c.requires.there

pub found-requires-clause-sought : goal.found-requires-clause-sought
found-requires-clause-sought g c f q at =
    sym c.in-Some.is ∙ c.in_ok-path.ensures.value f q (position_back c.args.dbd.now c.args.volume.now c.seek.new.volume c.in_ok-path.ensures.read f c.args.position.now q at)

pub returns-in-Some-clause-value : goal.returns-in-Some-clause-value
returns-in-Some-clause-value g c = if-ok-map c.found.result (λ o got f q at.
    got f q (position_told c.args.dbd.now c.args.volume.now c.seek.new.volume c.in_ok-path.ensures.read f c.args.position.now q at)) c.found.ensures.value

pub returns-in-None-clause-value : goal.returns-in-None-clause-value
returns-in-None-clause-value g c f q at =
    let types = c.args.dbd.now.types in
    let none = none_found types f (sought_by c.args.call.now types (rows_of f) q) (sym c.in-None.is ∙ c.in_ok-path.ensures.value f q at) in
    subst (λ (r : Reply × Position). IsOutcomeOf c.missing.result r.0 × StandsFor types f c.missing.new.position r.1) (sym (answer_missing c.args.call.now types (rows_of f) q none))
    (c.missing.ensures types f q at.stands)

pub returns-in-Some-clause-read : goal.returns-in-Some-clause-read
returns-in-Some-clause-read g c = reads-join c.found.result c.in_ok-path.ensures.read c.found.ensures.read

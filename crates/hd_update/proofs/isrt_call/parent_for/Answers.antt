use Rattle.std.proofs.Common.{List, ℕ, Some, sym, subst, ◌∙◌}
use Rattle.hd_volume.proofs.JoinLemmas.{if-ok-map}
use Rattle.hd_update.specs.Inserting.{IsParentAsked}
use Rattle.hd_update.proofs.ParentsAsked.{asked_below, asked_root}
use Rattle.hd_update.proofs.isrt_call.parent_for.Goals as goal

pub returns-in-Some-clause-value : goal.returns-in-Some-clause-value
returns-in-Some-clause-value g c = if-ok-map c.insert_parent.result (λ path found.
    asked_below c.args.dbd.now c.args.volume.now c.args.above.now c.args.code c.in-Some.parent c.args.position.now path c.requires.typed (sym c.parent_of.ensures ∙ c.in-Some.is) c.requires.target found) c.insert_parent.ensures.value

pub returns-in-None-clause-value : goal.returns-in-None-clause-value
returns-in-None-clause-value g c =
    subst (λ (path : List ℕ). IsParentAsked c.args.dbd.now c.args.volume.now c.args.above.now c.args.code c.args.position.now (Some path)) (sym c.new.ensures)
    (asked_root c.args.dbd.now c.args.volume.now c.args.above.now c.args.code c.args.position.now c.requires.typed (sym c.parent_of.ensures ∙ c.in-None.is))

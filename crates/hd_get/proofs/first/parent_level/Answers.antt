use Rattle.std.proofs.Common.{ℕ, Option, sym, ap, ◌∙◌}
use Rattle.std.specs.Prelude.{option_and_then}
use Rattle.hd_volume.proofs.JoinLemmas.{if-ok-map}
use Rattle.hd_links.specs.Steps.{rows_of}
use Rattle.hd_get.specs.First.{type_level}
use Rattle.hd_get.proofs.first.parent_level.Goals as goal

pub returns-in-Some-clause-value : goal.returns-in-Some-clause-value
returns-in-Some-clause-value g c = if-ok-map c.type_level.result (λ level is f q at.
    is f q at ∙ ap (λ (o : Option ℕ). option_and_then (λ p. type_level c.args.dbd.now.types (rows_of f) q p) o) (sym c.in-Some.is ∙ c.parent_of.ensures)) c.type_level.ensures.value

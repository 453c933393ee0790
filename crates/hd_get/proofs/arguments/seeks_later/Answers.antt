use Rattle.std.proofs.Common.{ap, sym, ◌∙◌}
use Rattle.std.specs.Prelude.{◌&&◌, not, is_none}
use Rattle.hd_links.specs.Steps.{rows_of}
use Rattle.hd_calls.specs.SearchTwins.{next_twin}
use Rattle.hd_get.proofs.arguments.seeks_later.Goals as goal

pub returns-clause-value : goal.returns-clause-value
returns-clause-value g c f i at =
    ap not (c.in_ok-is_last_twin.ensures.value f i at)
    ∙ sym (ap (λ b. b && not (is_none (next_twin c.args.dbd.now.types (rows_of f) i))) (sym c.wants_last.ensures ∙ c.if-not-wants_last.false))

use Rattle.std.proofs.Common.{◌≡◌, false, List, None, Some, Option, sym, ◌∙◌, refl}
use Rattle.std.specs.Prelude.{not, is_none}
use Rattle.hd_volume.proofs.CallSteps.{if-ok}
use Rattle.hd_links.specs.Steps.{rows_of}
use Rattle.hd_calls.specs.Ssas.{Comparison}
use Rattle.hd_get.proofs.LastTwins.{last_so_unqualified}
use Rattle.hd_get.proofs.twin_tests.is_last_so.Goals as goal

-- an SSA that is not qualified has no groups
no_groups : (o : Option (List (List Comparison))) → not (is_none o) ≡ false → o ≡ None
no_groups None e = refl
no_groups (Some groups) e = cc

pub returns-else-is_qualified-clause-value : goal.returns-else-is_qualified-clause-value
returns-else-is_qualified-clause-value g c =
    if-ok c.is_last_twin.result c.is_last_twin.ensures.value (λ r value f i at.
    value f i at
    ∙ sym (last_so_unqualified c.args.dbd.now.types (rows_of f) c.args.ssa.now i (no_groups c.args.ssa.now.groups (sym c.is_qualified.ensures ∙ c.if-is_qualified.false))))

use Rattle.std.proofs.Common.{sym, ap, ◌∙◌}
use Rattle.std.specs.Prelude.{◌||◌, not}
use Rattle.std.proofs.lemmas.Bool.{eq-eqb, ne_eqb}
use Rattle.hd_dbd.specs.Paths.{row_at}
use Rattle.hd_links.specs.Steps.{rows_of}
use Rattle.hd_volume.proofs.CallSteps.{if-ok}
use Rattle.hd_calls.specs.Satisfies.{meets}
use Rattle.hd_get.proofs.arguments.meets_own.Goals as goal

pub returns-then-code-clause-value : goal.returns-then-code-clause-value
returns-then-code-clause-value g c f i at code =
    sym (ap (λ b. not b || meets c.args.dbd.now.types (rows_of f) c.args.ssa.now i)
    (ne_eqb c.args.ssa.now.code (row_at (rows_of f) i).code (λ e. c.if-code.true (c.code.ensures ∙ e ∙ code))))

pub returns-clause-value : goal.returns-clause-value
returns-clause-value g c =
    if-ok c.meets.result c.meets.ensures.value (λ r value f i at code. value f i at
    ∙ sym (ap (λ b. not b || meets c.args.dbd.now.types (rows_of f) c.args.ssa.now i)
    (eq-eqb c.args.ssa.now.code (row_at (rows_of f) i).code (sym c.code.ensures ∙ c.if-code.false ∙ sym code))))

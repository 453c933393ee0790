use Rattle.std.proofs.Common.{◌≡◌, ◌≢◌, arith, subst, sym, ◌∙◌, Result, Ok, Err, IfOk, IfErr}
use Rattle.hd_macro.specs.Source.{Step}
use Rattle.hd_macro.specs.Views.{open_of, step_of}
use Rattle.hd_macro.specs.declared.source.LineFault.{LineFault}
use Rattle.hd_macro.specs.declared.source.LineFault.TheVariants.{Memory}
use Rattle.hd_macro.proofs.Columns.{read_by_columns}
use Rattle.hd_macro.proofs.line.read_line.Goals as goal

pub returns-clause-step : goal.returns-clause-step
returns-clause-step c =
    let same = read_by_columns (open_of c.args.standing) c.args.number c.args.line.now c.card.result (omega arith) (sym c.has_other_byte.ensures ∙ c.if-has_other_byte.false) c.card.ensures.value c.card.ensures.len in
    subst (λ (r : Result Step LineFault). IfOk c.read_open.result (λ s. r ≡ Ok (step_of s))) same c.read_open.ensures.step

pub returns-clause-fault : goal.returns-clause-fault
returns-clause-fault c =
    let same = read_by_columns (open_of c.args.standing) c.args.number c.args.line.now c.card.result (omega arith) (sym c.has_other_byte.ensures ∙ c.if-has_other_byte.false) c.card.ensures.value c.card.ensures.len in
    subst (λ (r : Result Step LineFault). IfErr c.read_open.result (λ e. e ≢ Memory → r ≡ Err e)) same c.read_open.ensures.fault

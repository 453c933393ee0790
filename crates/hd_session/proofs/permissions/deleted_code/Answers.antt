use Rattle.std.proofs.Common.{ap, sym, ◌∙◌}
use Rattle.std.specs.Prelude.{option_map}
use Rattle.hd_update.specs.declared.held.HeldRow.{HeldRow}
use Rattle.hd_session.proofs.Held.{code_taken}
use Rattle.hd_session.proofs.permissions.deleted_code.Goals as goal

pub returns-in-Some : goal.returns-in-Some
returns-in-Some c = λ rows numbers of.
    ap (option_map (λ h. h.code)) (sym c.in-Some.is ∙ c.taken_row.ensures) ∙ code_taken rows numbers c.args.held.now c.args.ssas.now of

pub returns-in-None : goal.returns-in-None
returns-in-None c = λ rows numbers of.
    ap (option_map (λ (h : HeldRow). h.code)) (sym c.in-None.is ∙ c.taken_row.ensures) ∙ code_taken rows numbers c.args.held.now c.args.ssas.now of

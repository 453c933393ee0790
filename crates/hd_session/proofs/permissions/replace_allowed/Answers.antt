use Rattle.std.proofs.Common.{List, Bool, ap, sym, ◌∙◌}
use Rattle.std.specs.Prelude.{not, ◌&&◌}
use Rattle.std.specs.List.{list_all}
use Rattle.hd_dbd.specs.Paths.{row_at}
use Rattle.hd_dbd.specs.Views.{Setting, may}
use Rattle.hd_dbd.specs.Letters.{gives_replace}
use Rattle.hd_calls.specs.Steps.{replaced_rows}
use Rattle.hd_update.specs.declared.held.HeldRow.{HeldRow}
use Rattle.hd_session.specs.Tests.{all_replaceable}
use Rattle.hd_session.proofs.Held.{all_replaced}
use Rattle.hd_session.proofs.permissions.replace_allowed.Goals as goal

pub returns-then-not-loads : goal.returns-then-not-loads
returns-then-not-loads c = λ rows numbers of.
    let s : Setting = record { types = c.args.dbd.now.types; pcb = c.args.pcb.now } in
    c.all_replaceable.ensures
    ∙ ap (λ (hs : List HeldRow). all_replaceable s c.args.ssas.now hs) of.1
    ∙ all_replaced s c.args.ssas.now of.0 rows numbers
    ∙ ap (λ (b : Bool). not b && list_all (λ i. may s gives_replace (row_at rows i).code) (replaced_rows rows c.args.ssas.now numbers)) (sym c.if-not-loads.true ∙ c.loads.ensures)

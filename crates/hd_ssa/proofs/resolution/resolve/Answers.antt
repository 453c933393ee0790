use Rattle.std.proofs.Common.{◌≡◌, List, Bool, true, Some, None, ap, ◌∙◌, sym, cond, map, arith}
use Rattle.std.proofs.lemmas.Grind.{common_steps}
use Rattle.hd_dbd.specs.Views.{Setting}
use Rattle.hd_calls.specs.Ssas.{Ssa}
use Rattle.hd_ssa.specs.AtOnce.{read_down, suits}
use Rattle.hd_ssa.proofs.AtOnce.{resolve_few}
use Rattle.hd_ssa.proofs.resolution.resolve.Goals as goal

pub returns-then-suits-clause-ok : goal.returns-then-suits-clause-ok
returns-then-suits-clause-ok c =
    let s : Setting = record { types = c.args.dbd.now.types; pcb = c.args.pcb.now } in
    let few : List Ssa = c.read_down.new.ssas.items in
    let slice : c.as_slice.result.now ≡ c.read_down.new.ssas.items = grind (arith, common_steps) in
    let down : read_down s None (map (λ t. t.items) c.args.ssas.now) ≡ Some few = sym c.read_down.ensures ∙ ap (λ (b : Bool). cond b (Some few) None) c.if-read_down.true in
    let suit : suits s c.args.function few ≡ true = ap (λ (ssas : List Ssa). suits s c.args.function ssas) (sym slice) ∙ sym c.suits.ensures ∙ c.if-suits.true in
    resolve_few s c.args.function c.args.ssas.now few suit c.if-ssas-le4.true down

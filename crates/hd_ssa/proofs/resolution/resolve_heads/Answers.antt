use Rattle.std.proofs.Common.{◌≡◌, ℕ, List, true, ap, ◌∙◌, sym, refl, arith}
use Rattle.std.proofs.lemmas.Grind.{common_steps}
use Rattle.hd_dbd.specs.Views.{Setting}
use Rattle.hd_calls.specs.Ssas.{heads_suit, types_suit, read_ssas}
use Rattle.hd_ssa.specs.Named.{heads_in}
use Rattle.hd_ssa.proofs.Resolving.{resolve_through}
use Rattle.hd_ssa.proofs.resolution.resolve_heads.Goals as goal

pub returns-clause-status : goal.returns-clause-status
returns-clause-status c =
    let s : Setting = record { types = c.args.dbd.now.types; pcb = c.args.pcb.now } in
    let suit : heads_suit s c.args.function (heads_in c.args.heads.now) ≡ true = sym (c.heads_suit.ensures s refl) ∙ c.if-not-heads_suit.false in
    let first : c.as_slice.result.now ≡ c.in-Ok.codes.items = grind (arith, common_steps) in
    let second : c.as_slice-2.result.now ≡ c.in-Ok.codes.items = grind (arith, common_steps) in
    let types : types_suit s c.args.function (heads_in c.args.heads.now) c.in-Ok.codes.items ≡ true
    = ap (λ (cs : List ℕ). types_suit s c.args.function (heads_in c.args.heads.now) cs) (sym first) ∙ sym (c.types_suit.ensures s refl) ∙ c.if-not-types_suit.false in
    λ st e.
    resolve_through s c.args.function c.args.heads.now c.in-Ok.codes.items suit c.if-heads-gt15.false c.in-Ok.ensures.ok types
    ∙ ap (λ (cs : List ℕ). read_ssas s cs (heads_in c.args.heads.now)) (sym second) ∙ c.read_ssas.ensures.status s st refl e

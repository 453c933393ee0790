use Rattle.std.proofs.Common.{◌≡◌, List, map, ap, ◌∙◌, sym, subst, arith, Result, Ok, Err}
use Rattle.std.specs.Prelude.{IfOk}
use Rattle.std.proofs.lemmas.Grind.{common_steps}
use Rattle.hd_dbd.specs.Views.{Setting}
use Rattle.hd_dbd.specs.declared.answer.Status.{Status}
use Rattle.hd_calls.specs.Ssas.{Ssa, resolve}
use Rattle.hd_ssa.specs.declared.fault.SsaFault.{SsaFault}
use Rattle.hd_ssa.specs.declared.fault.SsaFault.TheVariants as fault
use Rattle.hd_ssa.specs.Named.{Named, resolve_named}
use Rattle.hd_ssa.proofs.Resolving.{resolve_heads, resolve_no_heads}
use Rattle.hd_ssa.proofs.resolution.resolve_texts.Goals as goal

pub returns-in-Err-clause-status : goal.returns-in-Err-clause-status
returns-in-Err-clause-status c =
    let s : Setting = record { types = c.args.dbd.now.types; pcb = c.args.pcb.now } in
    λ st e.
    let same : c.in-Err.fault ≡ fault.Status st = cc in
    let none = c.in-Err.ensures.status st (ap (λ (x : SsaFault). Err x) same) in
    resolve_no_heads s c.args.function (map (λ t. t.items) c.args.ssas.now) none.1 ∙ ap (λ (x : Status). Err x) (sym none.0)

pub returns-clause-ok : goal.returns-clause-ok
returns-clause-ok c =
    let s : Setting = record { types = c.args.dbd.now.types; pcb = c.args.pcb.now } in
    let heads : c.as_slice.result.now ≡ c.in-Ok.heads.items = grind (arith, common_steps) in
    let whole : resolve_named s c.args.function c.as_slice.result.now ≡ resolve s c.args.function (map (λ t. t.items) c.args.ssas.now)
    = ap (λ (ns : List Named). resolve_named s c.args.function ns) heads
    ∙ sym (resolve_heads s c.args.function (map (λ t. t.items) c.args.ssas.now) c.in-Ok.heads.items c.in-Ok.ensures.ok) in
    subst (λ (x : Result (List Ssa) Status). IfOk c.resolve_heads.result (λ r. x ≡ Ok r)) whole c.resolve_heads.ensures.ok

pub returns-clause-status : goal.returns-clause-status
returns-clause-status c =
    let s : Setting = record { types = c.args.dbd.now.types; pcb = c.args.pcb.now } in
    let heads : c.as_slice.result.now ≡ c.in-Ok.heads.items = grind (arith, common_steps) in
    λ st e. resolve_heads s c.args.function (map (λ t. t.items) c.args.ssas.now) c.in-Ok.heads.items c.in-Ok.ensures.ok
    ∙ ap (λ (ns : List Named). resolve_named s c.args.function ns) (sym heads) ∙ c.resolve_heads.ensures.status st e

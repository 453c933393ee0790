use Rattle.std.proofs.Common.{◌≡◌, ℕ, ◌+◌, ◌-◌, List, [], ◌∷◌, ◌++◌, map, suc, ap, ◌∙◌, arith}
use Rattle.std.proofs.lemmas.List.{map-append}
use Rattle.hd_serve.specs.Frames.{ssas_in}
use Rattle.hd_serve.proofs.Ssas.{behind, one-more}
use Rattle.hd_serve.proofs.call.read_ssas.Goals as goal

pub ssas-preserved : goal.ssas-preserved
ssas-preserved c =
    let left : c.args.count - c.ssas.counter ≡ suc (c.args.count - (c.ssas.counter + 1)) = omega (arith, c.ssas-test.true) in
    let items = ap (λ xs. map (λ v. v.items) xs) c.in_ok-push.ensures.items ∙ map-append (λ v. v.items) c.ssas.ssas.items (c.in_ok-from_slice.field-0 ∷ []) in
    ap (λ (xs : List (List ℕ)). behind xs (ssas_in (c.args.count - (c.ssas.counter + 1)) c.in-Some.after.now))
    (items ∙ ap (λ (xs : List ℕ). map (λ v. v.items) c.ssas.ssas.items ++ xs ∷ []) c.in_ok-from_slice.ensures.items)
    ∙ one-more (map (λ v. v.items) c.ssas.ssas.items) c.ssas.rest.now c.in-Some.ssa.now c.in-Some.after.now (c.args.count - c.ssas.counter) (c.args.count - (c.ssas.counter + 1))
    (ssas_in c.args.count c.args.bytes.now) left c.in-Some.ensures.some c.ssas.invariant

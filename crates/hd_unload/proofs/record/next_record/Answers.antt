use Rattle.std.proofs.Common.{◌≡◌, ℕ, ◌∷◌, ap, sym, ◌∙◌, arith}
use Rattle.hd_unload.proofs.Spelling.{end-right, next-right, behind-first}
use Rattle.hd_unload.proofs.record.next_record.Goals as goal

pub returns-in-None-clause-end : goal.returns-in-None-clause-end
returns-in-None-clause-end c =
    let first : c.args.left.now ≡ c.in-Some.code.now ∷ c.in-Some.rest.now = c.in-Some.ensures.cases.0 in
    let e = end-right c.args.count c.in-Some.rest.now (behind-first c.args.left.now c.in-Some.code.now c.in-Some.rest.now first (λ i. let f = c.type_inv.left i in omega arith)) (sym c.end_fault.ensures ∙ c.in-None.is) in
    (first ∙ ap (λ (n : ℕ). n ∷ c.in-Some.rest.now) c.if-code-eq0.true ∙ e.0, e.1)

pub returns-clause-some : goal.returns-clause-some
returns-clause-some c =
    let ok = c.in_ok-record.ensures.ok in
    next-right c.args.types.now c.args.left.now c.in-Some.code.now c.in-Some.rest.now c.in-Some-type_of.segment.now _ _ _
    c.in-Some.ensures.cases.0 (λ i. let f = c.type_inv.left i in omega arith)
    (sym c.in-Some-type_of.ensures) c.in_ok-record.ensures.fits c.in_ok-record.ensures.long ok.1 ok.2 ok.3

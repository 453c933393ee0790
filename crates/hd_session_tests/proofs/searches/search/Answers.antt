use Rattle.std.proofs.Common.{◌≡◌, ◌<◌, ℕ, List, length, Bool, None, false, sym, subst, ◌∙◌, arith, inl, inr}
use Rattle.std.specs.Prelude.{◌==◌, map}
use Rattle.std.proofs.lemmas.Bool.{cases_lt, eq-eqb, false≢true}
use Rattle.hd_calls.specs.declared.call.Function.TheVariants.{Get}
use Rattle.hd_calls.specs.declared.call.GetKind.TheVariants.{Unique}
use Rattle.hd_calls.specs.Ssas.{Ssa}
use Rattle.hd_calls.specs.Admits.{Descend}
use Rattle.hd_calls.proofs.Admitting.{resolved_descend}
use Rattle.hd_session_tests.proofs.searches.search.Goals as goal

-- a list that is not said to be empty has an element
some : (n : ℕ) (b : Bool) → b ≡ (n == 0) → b ≡ false → 0 < n
some n b is no_ = elim (cases_lt 0 n) [
  | inl w ↦ w
  | inr w ↦ absurd (false≢true (sym no_ ∙ is ∙ eq-eqb n 0 (let z : n ≡ 0 = omega arith in z)))
]

pub insert_parent-requires-clause-descend : goal.insert_parent-requires-clause-descend
insert_parent-requires-clause-descend c =
    subst (λ (ssas : List Ssa). Descend c.args.trial.now.dbd.now.types None ssas) (sym c.ssas-ssas.ensures)
    (resolved_descend (record { types = c.args.trial.now.dbd.now.types; pcb = c.in-Some.pcb.now }) (Get Unique false) (map (λ s. s.items) c.deref-2.result.now) c.in-Ok-resolve.resolved c.in-Ok-resolve.ensures.ok)

pub first_named-requires-clause-descend : goal.first_named-requires-clause-descend
first_named-requires-clause-descend c =
    subst (λ (ssas : List Ssa). Descend c.args.trial.now.dbd.now.types None ssas) (sym c.ssas-ssas.ensures)
    (resolved_descend (record { types = c.args.trial.now.dbd.now.types; pcb = c.in-Some.pcb.now }) (Get Unique false) (map (λ s. s.items) c.deref-2.result.now) c.in-Ok-resolve.resolved c.in-Ok-resolve.ensures.ok)

pub unique_by_key-requires-clause-descend : goal.unique_by_key-requires-clause-descend
unique_by_key-requires-clause-descend c =
    subst (λ (ssas : List Ssa). Descend c.args.trial.now.dbd.now.types None ssas) (sym c.ssas-ssas.ensures)
    (resolved_descend (record { types = c.args.trial.now.dbd.now.types; pcb = c.in-Some.pcb.now }) (Get Unique false) (map (λ s. s.items) c.deref-2.result.now) c.in-Ok-resolve.resolved c.in-Ok-resolve.ensures.ok)

pub find-requires-clause-suits : goal.find-requires-clause-suits
find-requires-clause-suits c = (
  some (length c.ssas-ssas.result.now) c.is_empty.result c.is_empty.ensures c.if-is_empty.false,
  subst (λ (ssas : List Ssa). Descend c.args.trial.now.dbd.now.types None ssas) (sym c.ssas-ssas.ensures)
      (resolved_descend (record { types = c.args.trial.now.dbd.now.types; pcb = c.in-Some.pcb.now }) (Get Unique false) (map (λ s. s.items) c.deref-2.result.now) c.in-Ok-resolve.resolved c.in-Ok-resolve.ensures.ok),
)

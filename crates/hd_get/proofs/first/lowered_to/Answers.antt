use Rattle.std.proofs.Common.{◌≡◌, true, Bool, List, [], ◌∷◌, Option, Some, sym, ap, subst, ◌∙◌, inl, inr}
use Rattle.std.specs.Prelude.{find, option_map, option_and_then}
use Rattle.std.proofs.lemmas.Bool.{cases_Bool, cond-true, cond-false}
use Rattle.hd_volume.proofs.JoinLemmas.{if-ok-map}
use Rattle.hd_links.specs.Steps.{rows_of, path_at}
use Rattle.hd_calls.specs.Ssas.{Ssa}
use Rattle.hd_calls.specs.SearchStarts.{has_first}
use Rattle.hd_get.specs.First.{first_passed}
use Rattle.hd_get.proofs.first.lowered_to.Goals as goal

-- what is found passes
find_passes : (test : Ssa → Bool) (xs : List Ssa) (a : Ssa) → find test xs ≡ Some a → test a ≡ true
find_passes test [] a is = cc
find_passes test (x ∷ xs) a is = elim (cases_Bool (test x)) [
  | inl here ↦ (let same : Some x ≡ Some a = sym (cond-true (test x) (Some x) (find test xs) here) ∙ is in
      let eq : x ≡ a = cc in subst (λ (y : Ssa). test y ≡ true) eq here)
  | inr none ↦ find_passes test xs a (sym (cond-false (test x) (Some x) (find test xs) none) ∙ is)
]

pub first_passed-requires-clause-first : goal.first_passed-requires-clause-first
first_passed-requires-clause-first g c = find_passes has_first c.args.ssas.now c.in-Some.ssa.now (sym c.in-Some.ensures)

pub returns-in-Some-clause-value : goal.returns-in-Some-clause-value
returns-in-Some-clause-value g c = if-ok-map c.first_passed.result (λ path made f q at.
    let d = c.args.dbd.now in
    made f q at ∙ ap (λ (o : Option Ssa). option_map (λ j. path_at d.types f j) (option_and_then (λ a. first_passed d.types (rows_of f) q a) o)) c.in-Some.ensures) c.first_passed.ensures.value

use Rattle.std.proofs.Common.{◌≡◌, ℕ, Bool, true, false, Option, Some, refl, sym, ap, ◌∙◌}
use Rattle.std.specs.Prelude.{◌==◌, not}
use Rattle.std.specs.Option.{option_eq}
use Rattle.hd_get.proofs.Spans.{one_option}
use Rattle.hd_get.proofs.by_key.step_down.Goals as goal

-- what does not differ is the same
same_by : (differs : Bool) (p q : Option ℕ) → differs ≡ not (option_eq (λ a b. a == b) p q) → differs ≡ false → p ≡ q
same_by differs p q is no_ = one_option p q (by (option_eq (λ a b. a == b) p q) (sym is ∙ no_))
  where
    by : (b : Bool) → not b ≡ false → b ≡ true
    by true e = refl
    by false e = cc

pub step_to_key-requires-clause-parent : goal.step_to_key-requires-clause-parent
step_to_key-requires-clause-parent g c sound =
    sym c.parent_of.ensures ∙ same_by c.ne.result c.parent_of.result (Some c.args.above) c.ne.ensures c.if-ne.false ∙ ap (λ (p : ℕ). Some p) (sym (c.requires.above sound))

pub step_to_last-requires-clause-parent : goal.step_to_last-requires-clause-parent
step_to_last-requires-clause-parent g c sound =
    sym c.parent_of.ensures ∙ same_by c.ne.result c.parent_of.result (Some c.args.above) c.ne.ensures c.if-ne.false ∙ ap (λ (p : ℕ). Some p) (sym (c.requires.above sound))

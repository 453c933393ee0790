use Rattle.std.proofs.Common.{List, ℕ, ap, ◌∙◌}
use Rattle.std.specs.Prelude.{bytes_eq}
use Rattle.std.specs.Ordering.{is_eq}
use Rattle.std.proofs.lemmas.Map.Text.{is_eq-slice_cmp}
use Rattle.hd_check_index.proofs.wrong_entries.has_key.Goals as goal

pub returns : goal.returns
returns c = λ whole.
    c.is_eq.ensures ∙ ap is_eq c.order_of.ensures ∙ is_eq-slice_cmp c.key_at.result.now c.args.key.now
    ∙ ap (λ (own : List ℕ). bytes_eq own c.args.key.now) (c.key_at.ensures whole)

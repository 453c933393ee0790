use Rattle.std.proofs.Common.{List, ℕ, sym, ap, ◌∙◌}
use Rattle.std.specs.Prelude.{bytes_eq}
use Rattle.std.specs.Ordering.{is_eq}
use Rattle.std.proofs.lemmas.Map.Text.{is_eq-slice_cmp}
use Rattle.hd_check_blocks.proofs.KeyPlaces.{placed-key}
use Rattle.hd_check_index.proofs.wrong_entries.has_own_key.Goals as goal

pub returns-in-Some : goal.returns-in-Some
returns-in-Some c = λ yes.
    let d = c.args.dbd.now in
    let own = c.in-Some.ensures ∙ placed-key d.block_size d.frspc d.types c.types-types.ensures.fit 1 c.args.bytes.now c.args.place c.requires in
    sym (c.is_eq.ensures ∙ ap is_eq c.order_of.ensures ∙ is_eq-slice_cmp c.in-Some.own.now c.args.key.now ∙ ap (λ (k : List ℕ). bytes_eq k c.args.key.now) own) ∙ yes

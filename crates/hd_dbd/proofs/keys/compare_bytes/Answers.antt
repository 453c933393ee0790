use Rattle.std.proofs.Common.{ap, refl, ◌∙◌}
use Rattle.std.specs.Option.{unwrap_or}
use Rattle.std.specs.Cmp.Lexicographic.{lists_agrees}
use Rattle.std.specs.declared.cmp.Ordering.TheVariants.{Equal}
use Rattle.hd_dbd.proofs.keys.compare_bytes.Goals as goal

pub returns : goal.returns
returns c = c.unwrap_or.ensures ∙ ap (λ o. unwrap_or o Equal) (c.partial_cmp.ensures ∙ lists_agrees (λ x y. refl) c.args.one.now c.args.other.now)

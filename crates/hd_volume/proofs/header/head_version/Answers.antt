use Rattle.std.proofs.Common.{ℕ, List, ap, ◌∙◌}
use Rattle.hd_bytes.specs.Numbers.{number_at}
use Rattle.hd_volume.proofs.SpaceLemmas.{number-in-first}
use Rattle.hd_volume.proofs.header.head_version.Goals as goal

pub returns : goal.returns
returns g c sound there =
    c.read_u16.ensures ∙ ap (λ (b : List ℕ). number_at 2 b 8) (c.head.ensures.value sound there)
    ∙ number-in-first c.args.blocks.now.size 2 8 c.args.blocks.now.image there c.requires

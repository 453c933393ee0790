use Rattle.std.proofs.Common.{ℕ, List, ap, ◌∙◌}
use Rattle.hd_bytes.specs.Numbers.{number_at}
use Rattle.hd_volume.proofs.SpaceLemmas.{number-in-first}
use Rattle.hd_volume.proofs.volume.head_number.Goals as goal

pub returns : goal.returns
returns g c sound there =
    c.read_u32.ensures ∙ ap (λ (b : List ℕ). number_at 4 b c.args.place) (c.head.ensures.value sound there)
    ∙ number-in-first c.args.blocks.now.size 4 c.args.place c.args.blocks.now.image there c.requires

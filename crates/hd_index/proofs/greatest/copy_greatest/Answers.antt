use Rattle.std.proofs.Common.{ℕ, take, ap, sym, ◌∙◌}
use Rattle.hd_volume.specs.Entries.{entries_in}
use Rattle.hd_index_blocks.specs.Maps.{last_key}
use Rattle.hd_index.proofs.Fronts.{greatest-taken}
use Rattle.hd_index.proofs.greatest.copy_greatest.Goals as goal

pub returns : goal.returns
returns c fits ascend other =
    let b = c.args.block.now.bytes.now in
    let k = c.args.block.now.key_length in
    c.copy_key_before.ensures fits other ∙ ap (λ (i : ℕ). last_key other (take i (entries_in k b))) (c.place_of.ensures.value fits ascend) ∙ sym (greatest-taken other c.args.key.now (entries_in k b))

use Rattle.std.proofs.Common.{◌<◌, ℕ, List, sym, ap, subst, ◌∙◌, refl, arith}
use Rattle.hd_bytes.specs.Numbers.{number_at}
use Rattle.hd_volume.specs.Entries.{entries_in}
use Rattle.hd_volume.specs.Indexes.{IsAmong}
use Rattle.hd_index_blocks.specs.Levels.{named}
use Rattle.hd_index_blocks.specs.IndexSets.{level_in}
use Rattle.hd_check_index.proofs.BlockForms.{of-level-more, named-in}
use Rattle.hd_check_index.proofs.forms.are_of_level.Goals as goal

pub returns-then-not-is_of_level-clause-wrong : goal.returns-then-not-is_of_level-clause-wrong
returns-then-not-is_of_level-clause-wrong c = λ e v h fits.
    let k : ℕ = c.args.upper.now.key_length in
    let b : List ℕ = c.args.upper.now.bytes.now in
    let i : ℕ = c.loop-index.index in
    let within : i < number_at 2 b 4 = (let count = c.count-index-end.ensures.value in let low = c.loop-index-test.true in omega arith) in
    (c.address.result, subst (λ (m : ℕ). IsAmong m (named (entries_in k b))) (sym c.address.ensures) (named-in k b 12 i (number_at 2 b 4) within), c.if-not-is_of_level.ensures.wrong refl v h)

pub loop-index-preserved : goal.loop-index-preserved
loop-index-preserved c = λ v h.
    of-level-more v c.args.upper.now.key_length c.args.upper.now.bytes.now c.args.level c.loop-index.index (c.loop-index.invariant v h)
    (ap (λ (m : ℕ). level_in v m) (sym c.address.ensures) ∙ c.if-not-is_of_level.ensures.right refl v h)

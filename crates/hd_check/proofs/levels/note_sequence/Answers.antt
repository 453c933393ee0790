use Rattle.std.proofs.Common.{inl, inr, ℕ, List, ap, ◌∙◌}
use Rattle.std.proofs.lemmas.Bool.{cases_eq}
use Rattle.std.proofs.lemmas.List.{take_all}
use Rattle.hd_check_index.specs.declared.table.NotedBlock.{NotedBlock}
use Rattle.hd_check_index.specs.NotedBlocks.{noted_at}
use Rattle.hd_check.proofs.NotedSequence.{low_numbers, low-more, high-more, low-sequence}
use Rattle.hd_check.proofs.levels.note_sequence.Goals as goal

pub loop-block-preserved : goal.loop-block-preserved
loop-block-preserved c =
    let bs : List NotedBlock = c.args.blocks.now in
    let i : ℕ = c.loop-block.block-index in
    let own = c.in_ok-note_low.ensures in
    elim (cases_eq (noted_at bs i).level 0) [
      | inl low ↦ low-more bs i c.loop-block.sequence.items c.note_low.new.sequence.items c.loop-block-test.true c.loop-block.invariant low (own.low low)
      | inr high ↦ own.high high ∙ high-more bs i c.loop-block.sequence.items c.loop-block-test.true c.loop-block.invariant high
    ]

pub returns-clause-value : goal.returns-clause-value
returns-clause-value c = λ k v table later formed.
    let bs : List NotedBlock = c.args.blocks.now in
    low-sequence k v bs c.loop-block.sequence.items (c.loop-block.invariant ∙ ap (λ (t : List NotedBlock). low_numbers t) (take_all c.loop-block.block-index bs c.loop-block-test.false)) table later formed

use Rattle.std.proofs.Common.{◌≡◌, ◌<◌, [], IsTrue, subst, sym, ◌∙◌}
use Rattle.hd_bytes.specs.Blocks.{block_of}
use Rattle.hd_volume.specs.Buffers.{Buffered}
use Rattle.hd_volume.proofs.AsideLemmas.{buffers-of}
use Rattle.hd_volume.proofs.BufferLemmas.{hand-block}
use Rattle.hd_volume.proofs.blocks.Blocks.hand.Goals as goal

pub returns-clause-value : goal.returns-clause-value
returns-clause-value g c =
    let P : Buffered → Type 0 = λ b. IsTrue b.is_sound → 0 < b.hand → c.deref.result.now ≡ block_of b.size b.image b.hand in
    subst P c.self.view_is (λ sound some. c.deref.ensures.value ∙ sym (hand-block (buffers-of c.self.invariant sound) [] some))

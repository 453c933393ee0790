use Rattle.std.proofs.Common.{◌≡◌, IsTrue, subst, sym, ◌∙◌, arith}
use Rattle.hd_bytes.specs.Blocks.{block_of, HasBlock}
use Rattle.hd_volume.specs.Buffers.{Buffered, put_all}
use Rattle.hd_volume.proofs.AsideLemmas.{buffers-of}
use Rattle.hd_volume.proofs.BufferLemmas.{image-head, image-length}
use Rattle.hd_volume.proofs.blocks.Blocks.head.Goals as goal

pub returns-clause-value : goal.returns-clause-value
returns-clause-value g c =
    let P : Buffered → Type 0 = λ b. IsTrue b.is_sound → HasBlock b.size b.image 0 → c.deref.result.now ≡ block_of b.size b.image 0 in
    subst P c.self.view_is
    (λ sound there.
    let k = buffers-of c.self.invariant sound in
    let first : HasBlock c.self.inside.block_size (put_all c.self.inside.block_size (g.S.BlockStore.contents c.self.inside.store) c.self.inside.aside.items) 0 = let len = image-length k in omega arith in
    c.deref.ensures.value ∙ sym (image-head k first))

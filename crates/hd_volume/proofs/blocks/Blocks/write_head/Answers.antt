use Rattle.std.proofs.Common.{◌≡◌, ℕ, List, length, IsTrue, subst, sym, ap, ◌∙◌, arith}
use Rattle.hd_bytes.specs.Blocks.{block_of, HasBlock}
use Rattle.hd_bytes.specs.Ranges.{with_bytes}
use Rattle.hd_volume.specs.Buffers.{Buffered, put_all, image_of}
use Rattle.hd_volume.specs.Images.{ChangesBlock}
use Rattle.byteorder.specs.Endian.{big_bytes}
use Rattle.hd_volume.proofs.AsideLemmas.{buffers-of}
use Rattle.hd_volume.proofs.BufferLemmas.{image-head, image-length, head-changes, head-new, edited}
use Rattle.hd_volume.proofs.blocks.Blocks.write_head.Goals as goal

pub returns-clause-others : goal.returns-clause-others
returns-clause-others g c =
    let P : Buffered → Type 0 = λ b. IsTrue b.is_sound → HasBlock b.size b.image 0 → ChangesBlock b.size 0 b.image (image_of c.self.inside.block_size (put_all c.self.inside.block_size (g.S.BlockStore.contents c.self.inside.store) c.self.inside.aside.items) (edited c.self.inside.head c.write_u32.new.bytes) c.self.inside.hand) in
    subst P c.self.view_is (λ sound there. head-changes (buffers-of c.self.invariant sound) c.write_u32.new.bytes)

pub returns-clause-block : goal.returns-clause-block
returns-clause-block g c =
    let P : Buffered → Type 0 = λ b. IsTrue b.is_sound → HasBlock b.size b.image 0 → block_of b.size (image_of c.self.inside.block_size (put_all c.self.inside.block_size (g.S.BlockStore.contents c.self.inside.store) c.self.inside.aside.items) (edited c.self.inside.head c.write_u32.new.bytes) c.self.inside.hand) 0 ≡ with_bytes (block_of b.size b.image 0) c.args.place (big_bytes 4 c.args.number) in
    subst P c.self.view_is
    (λ sound there.
    let k = buffers-of c.self.invariant sound in
    let first : HasBlock c.self.inside.block_size (put_all c.self.inside.block_size (g.S.BlockStore.contents c.self.inside.store) c.self.inside.aside.items) 0 = let len = image-length k in omega arith in
    head-new k c.write_u32.new.bytes first (c.write_u32.ensures.changes.len ∙ ap length c.deref_mut.ensures.value ∙ sym c.self.inside.head.bytes.ok.0 ∙ c.self.invariant.head_len)
    ∙ c.write_u32.ensures.value ∙ ap (λ (t : List ℕ). with_bytes t c.args.place (big_bytes 4 c.args.number)) (c.deref_mut.ensures.value ∙ sym (image-head k first)))

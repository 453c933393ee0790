use Rattle.std.proofs.Common.{◌<◌, [], length, IsTrue, subst, sym, ap, ◌∙◌}
use Rattle.hd_bytes.specs.Blocks.{block_of}
use Rattle.hd_volume.specs.Buffers.{Buffered, put_all, image_of}
use Rattle.hd_volume.specs.Images.{ChangesBlock}
use Rattle.hd_volume.specs.Edits.{IsGiven}
use Rattle.hd_volume.proofs.AsideLemmas.{buffers-of}
use Rattle.hd_volume.proofs.BufferLemmas.{hand-block, hand-changes, hand-new, edited}
use Rattle.hd_volume.proofs.blocks.Blocks.give.Goals as goal

pub returns-clause-others : goal.returns-clause-others
returns-clause-others g c =
    let P : Buffered → Type 0 = λ b. IsTrue b.is_sound → 0 < b.hand → ChangesBlock b.size b.hand b.image (image_of c.self.inside.block_size (put_all c.self.inside.block_size (g.S.BlockStore.contents c.self.inside.store) c.self.inside.aside.items) c.self.inside.head (edited c.self.inside.hand c.give_to.new.bytes)) in
    subst P c.self.view_is (λ sound some. hand-changes (buffers-of c.self.invariant sound) c.give_to.new.bytes some)

pub returns-clause-block : goal.returns-clause-block
returns-clause-block g c =
    let P : Buffered → Type 0 = λ b. IsTrue b.is_sound → 0 < b.hand → IsGiven c.args.sizes.now c.args.offset c.args.size (block_of b.size b.image b.hand) (block_of b.size (image_of c.self.inside.block_size (put_all c.self.inside.block_size (g.S.BlockStore.contents c.self.inside.store) c.self.inside.aside.items) c.self.inside.head (edited c.self.inside.hand c.give_to.new.bytes)) b.hand) in
    subst P c.self.view_is
    (λ sound some.
    let k = buffers-of c.self.invariant sound in
    rw (hand-new k c.give_to.new.bytes some (c.give_to.ensures.len ∙ ap length c.deref_mut.ensures.value ∙ sym c.self.inside.hand.bytes.ok.0 ∙ c.self.invariant.hand_len), hand-block k [] some, ← c.deref_mut.ensures.value)
    c.give_to.ensures.given)

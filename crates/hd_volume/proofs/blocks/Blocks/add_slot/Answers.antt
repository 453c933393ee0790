use Rattle.std.proofs.Common.{◌≡◌, ℕ, ◌+◌, ◌*◌, ◌<◌, length, IsTrue, subst, sym, ap, ◌∙◌, arith}
use Rattle.hd_volume.specs.Buffers.{Buffered}
use Rattle.hd_volume.proofs.BufferLemmas.{number-held}
use Rattle.hd_volume.proofs.AsideLemmas.{kept-length}
use Rattle.hd_volume.proofs.SlotLemmas.{more-kept, put-more}
use Rattle.hd_volume.proofs.blocks.Blocks.add_slot.Goals as goal

pub invariant_of-self : goal.invariant_of-self
invariant_of-self g c =
    let P : Buffered → Type 0 = λ b. IsTrue b.is_sound → (0 < b.hand) × (length b.image ≡ b.hand * b.size + b.size) in
    let is : c.self.inside.hand.number ≡ length c.self.inside.aside.items = omega arith in
    more-kept c.self.invariant c.add_buffer.ensures.added
    (λ sound.
    let last = subst P (sym c.self.view_is) c.requires.last sound in
    let held = number-held c.self.inside.hand.holds c.self.inside.hand.number last.0 in
    (held.0, sym (kept-length c.self.invariant sound) ∙ last.1 ∙ ap (λ (n : ℕ). n * c.self.inside.block_size + c.self.inside.block_size) (sym held.1)))
    is

pub returns-then-count-self : goal.returns-then-count-self
returns-then-count-self g c =
    let same = put-more c.add_buffer.ensures.added (g.S.BlockStore.contents c.self.inside.store) in
    rw same c.self.view_is

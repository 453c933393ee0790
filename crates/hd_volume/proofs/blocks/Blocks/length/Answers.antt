use Rattle.std.proofs.Common.{◌≡◌, length, IsTrue, subst, sym, ◌∙◌}
use Rattle.hd_volume.specs.Buffers.{Buffered}
use Rattle.hd_volume.proofs.AsideLemmas.{kept-length}
use Rattle.hd_volume.proofs.blocks.Blocks.length.Goals as goal

pub returns : goal.returns
returns g c =
    let P : Buffered → Type 0 = λ b. IsTrue b.is_sound → c.length.result ≡ length b.image in
    subst P c.self.view_is (λ sound. c.length.ensures sound ∙ sym (kept-length c.self.invariant sound))

use Rattle.std.proofs.Common.{◌≡◌, ℕ, ◌*◌, ◌%◌, sym, ap, ◌∙◌}
use Rattle.std.proofs.Math.Nat.{mul-mod_left}
use Rattle.hd_volume.specs.Buffers.{Buffered}
use Rattle.hd_volume.proofs.blocks.Blocks.next_number.Goals as goal

pub returns-then-length-size-ne0-clause-none : goal.returns-then-length-size-ne0-clause-none
returns-then-length-size-ne0-clause-none g c _ sound n small same =
    let size : ℕ = c.self.inside.block_size in
    let long : c.length-length.result ≡ n * size = c.length-length.ensures sound ∙ same ∙ ap (λ (b : Buffered). n * b.size) (sym c.self.view_is) in
    let none : c.length-length.result % size ≡ 0 = rw long (mul-mod_left n size) in
    c.if-length-size-ne0.true none

use Rattle.std.proofs.Common.{◌<◌, ℕ, IsTrue, Ok}
use Rattle.hd_volume.specs.Calls.{IsRead}
use Rattle.hd_index_blocks.specs.Faultless.{IsFormRight}
use Rattle.hd_check_index.specs.NotedBlocks.{noted_at}
use Rattle.hd_check_index.proofs.forms.wrong_form.Given as goal

-- the blocks before are right
abbrev pub invariant-loop-block : goal.invariant-loop-block
invariant-loop-block g l = record {
  read : IsRead {T = ℕ} l.fn.volume (Ok 0) l.volume;
  right : IsTrue l.fn.volume.is_sound → (j : ℕ) → j < l.block-index → IsFormRight l.key_length l.fn.volume (noted_at l.blocks j).level (noted_at l.blocks j).number;
}

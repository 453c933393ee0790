use Rattle.std.proofs.Common.{◌≡◌, ℕ, take, IsTrue, Ok}
use Rattle.hd_volume.specs.Calls.{IsRead}
use Rattle.hd_check_index.specs.NamedBlocks.{names_of}
use Rattle.hd_check_index.proofs.names.names_of.Given as goal

-- the names of the blocks before are noted
abbrev pub invariant-loop-block : goal.invariant-loop-block
invariant-loop-block g l = record {
  read : IsRead {T = ℕ} l.fn.volume (Ok 0) l.volume;
  names : IsTrue l.fn.volume.is_sound → l.names.items ≡ names_of l.key_length l.fn.volume l.fn.top (take l.block-index l.blocks);
}

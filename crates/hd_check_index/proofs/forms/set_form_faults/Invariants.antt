use Rattle.std.proofs.Common.{ℕ, IsTrue, Ok}
use Rattle.hd_volume.specs.Calls.{IsRead}
use Rattle.hd_check_index.proofs.SetLists.{AreListedTo}
use Rattle.hd_check_index.proofs.forms.set_form_faults.Given as goal

-- what is wrong with the header and the blocks before is listed
abbrev pub invariant-loop-block : goal.invariant-loop-block
invariant-loop-block g l = record {
  read : IsRead {T = ℕ} l.fn.volume (Ok 0) l.volume;
  listed : IsTrue l.fn.volume.is_sound → AreListedTo l.dbd l.fn.volume 8 l.blocks l.block-index l.faults.items;
}

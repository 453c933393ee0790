use Rattle.std.proofs.Common.{◌≡◌, ◌<◌, ℕ, true, IsTrue, Ok, slice_index}
use Rattle.std.specs.List.{list_all}
use Rattle.hd_volume.specs.Volumes.{block_at}
use Rattle.hd_volume.specs.Entries.{Entry, entries_in}
use Rattle.hd_volume.specs.Indexes.{root_key_length}
use Rattle.hd_volume.specs.Calls.{IsRead}
use Rattle.hd_image.specs.IndexFaults.{names_a_root}
use Rattle.hd_image.specs.Records.{links_of}
use Rattle.hd_check_index.proofs.NamedEntries.{AreNamedBefore}
use Rattle.hd_check_index.proofs.wrong_entries.wrong_entry_fault.Given as goal

-- the entries of the blocks before name roots, and are noted
abbrev pub invariant-loop-block : goal.invariant-loop-block
invariant-loop-block g l = record {
  read : IsRead {T = ℕ} l.fn.volume (Ok 0) l.volume;
  right : IsTrue l.fn.volume.is_sound → (j : ℕ) → j < l.block-index → list_all (λ (e : Entry). names_a_root l.dbd (links_of l.dbd.types l.fn.volume) e) (entries_in (root_key_length l.dbd.types) (block_at l.fn.volume (slice_index l.blocks j))) ≡ true;
  named : IsTrue l.fn.volume.is_sound → AreNamedBefore (root_key_length l.dbd.types) l.fn.volume l.blocks l.block-index l.named.items;
}

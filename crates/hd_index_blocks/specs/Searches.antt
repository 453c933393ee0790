-- What a search for a key sees in one block.
use Rattle.std.specs.Prelude.{◌≡◌, true, ℕ, cond, List, nat_lt}
use Rattle.hd_bytes.specs.Numbers.{number_at}
use Rattle.hd_volume.specs.Entries.{entries_in}
use Rattle.hd_index_blocks.specs.declared.block.Seen.{Seen}
use Rattle.hd_volume.specs.Indexes.{keys_ascend}
use Rattle.hd_index_blocks.specs.Fields.{below_count, CountFits}

-- how many entries of a block are below a key, and the block behind it, or 0 where not all are
abbrev pub seen_in : ℕ → List ℕ → List ℕ → Seen
seen_in key_length key block = record {
  index = below_count key (entries_in key_length block);
  next = cond (nat_lt (below_count key (entries_in key_length block)) (number_at 2 block 4)) 0 (number_at 4 block 8);
}

-- the fact holds where a block counts no more entries than find room in it, and their keys ascend
abbrev pub IfInOrder : ℕ → List ℕ → Type 0 → Type 0
IfInOrder key_length block fact = CountFits key_length block → keys_ascend (entries_in key_length block) ≡ true → fact

-- The order of the entries of a row: what is found entry by entry, and block by block.
use Rattle.std.specs.Prelude.{◌≡◌, ◌<◌, ◌≤◌, ℕ, ◌+◌, true, false, Bool, cond, nat_lt, List, [], ◌∷◌, ◌++◌, take, drop, slice_index, slice_index_or, Option, Some, None, option_map}
use Rattle.hd_volume.specs.Entries.{Entry}
use Rattle.hd_volume.specs.Indexes.{key_less}
use Rattle.hd_index_blocks.specs.Levels.{IndexBlocks, across}
use Rattle.hd_index_blocks.specs.LevelFaults.{last_entry, first_entry, first_wrong, first_wrong_in}
use Rattle.hd_check_index.specs.declared.extents.Extent.{Extent}
use Rattle.hd_check_index.specs.declared.order.Left.{Left}
use Rattle.hd_check_index.specs.declared.rows.Standing.{Standing}
use Rattle.hd_check_index.specs.BlockExtents.{AreBelow}
use Rattle.hd_check_index.specs.Rows.{row_of}

-- ---- an entry

-- what is kept is the key of the entry to the left, if there is one
abbrev pub IsLeft : ℕ → Left → Option Entry → Type 0
IsLeft key_length left None = left.is_some ≡ false
IsLeft key_length left (Some e) = (left.is_some ≡ true) × (take key_length left.key ≡ e.key)

-- the key is below the least of the first of some extents, if there is one
abbrev pub is_below_least : ℕ → List ℕ → List Extent → Bool
is_below_least key_length key [] = true
is_below_least key_length key (x ∷ xs) = key_less key (take key_length x.least)

-- what was found, or else the address of one more that is not right
abbrev pub found_with : Option ℕ → Bool → ℕ → Option ℕ
found_with None is_right address = cond is_right None (Some address)
found_with (Some other) is_right address = Some other

-- the address in the first entry that is not right
abbrev pub address_wrong : IndexBlocks → ℕ → Option Entry → List Entry → Option Entry → Option ℕ
address_wrong c l left es right = option_map (λ e. e.address) (first_wrong c l left es right)

-- The fact holds of the entry at an index of some entries of a level, and of those behind it, where the key is its own and these are the extents below
-- them all.
abbrev pub OfEntryAt : ℕ → ℕ → List Extent → ℕ → List ℕ → (IndexBlocks → Entry → List Entry → Type 0) → Type 0
OfEntryAt key_length level below index key fact =
    (c : IndexBlocks) (fs : List Entry) (e : Entry) (rest : List Entry) → AreBelow key_length c level fs below → drop index fs ≡ e ∷ rest → key ≡ e.key
    → fact c e rest

-- ---- the entries of a block

-- Behind whatever entry has the key that is kept, and whatever stands to their right, the address is that in the first of some entries that is
-- not right, where these are the extents below them and those to their right.
abbrev pub IsFoundIn : ℕ → ℕ → Left → List Entry → List Extent → Option ℕ → Type 0
IsFoundIn key_length level left es below found =
    (c : IndexBlocks) (rs : List Entry) (o : Option Entry) → AreBelow key_length c level (es ++ rs) below → IsLeft key_length left o
    → address_wrong c level o es (first_entry rs None) ≡ found

-- Behind whatever entry had the key that was kept, the last of some entries has the key that is kept now.
abbrev pub IsLeftBehind : ℕ → Left → List Entry → Left → Type 0
IsLeftBehind key_length old es new = (o : Option Entry) → IsLeft key_length old o → IsLeft key_length new (last_entry o es)

-- ---- the blocks of a row

-- the fact holds of the blocks of a row of a level, where these are the extents of the blocks below theirs
abbrev pub OfRow : IndexBlocks → ℕ → ℕ → List Standing → List Extent → (IndexBlocks → List ℕ → Type 0) → Type 0
OfRow c key_length level row below fact = (ns : List ℕ) → row ≡ row_of level ns → AreBelow key_length c level (across c ns) below → fact c ns

-- the address in the first entry that is not right of the block at an index of a row
abbrev pub wrong_at : IndexBlocks → ℕ → List ℕ → ℕ → Option ℕ
wrong_at c l ns j = option_map (λ e. e.address) (first_wrong_in c l (take j ns) (slice_index ns j) (drop (j + 1) ns))

-- one of the first blocks of a row has an entry that is not right, and what it names
abbrev pub IsWrongUpTo : IndexBlocks → ℕ → List ℕ → ℕ → ℕ → ℕ → Type 0
IsWrongUpTo c l ns i n other = (j : ℕ) × (j < i) × (n ≡ slice_index ns j) × (wrong_at c l ns j ≡ Some other)

-- of those of which something stands, if there is one, this is one of the least number
abbrev pub IsLeastOf : (ℕ → ℕ → Type 0) → Option (ℕ × ℕ) → Type 0
IsLeastOf stands None = (n other : ℕ) → stands n other → ⊥
IsLeastOf stands (Some least) = stands least.0 least.1 × ((n other : ℕ) → stands n other → least.0 ≤ n)

-- the lesser of two by number, if there are two
abbrev pub lesser : Option (ℕ × ℕ) → Option (ℕ × ℕ) → Option (ℕ × ℕ)
lesser None more = more
lesser (Some least) None = Some least
lesser (Some least) (Some more) = cond (nat_lt more.0 least.0) (Some more) (Some least)

-- the block at an index of rows
abbrev pub standing_at : List Standing → ℕ → Standing
standing_at rows i = slice_index_or rows i (record { number = 0; level = 0 })

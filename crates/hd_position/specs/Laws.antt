-- How linking, unlinking and replacing move what is kept of a PCB, and what is known of paths by addresses.
use Rattle.std.specs.Prelude.{◌≡◌, ℕ, ◌+◌, ◌<◌, ◌≤◌, List, [], ◌∷◌, length, IsTrue, ◌==◌, ◌&&◌, nat_le, nat_lt, Some}
use Rattle.std.specs.Option.{option_eq}
use Rattle.std.specs.List.{list_any}
use Rattle.hd_dbd.specs.declared.hierarchy.FreeSpace.{FreeSpace}
use Rattle.hd_dbd.specs.Types.{SegmentType}
use Rattle.hd_dbd.specs.DatabaseRules.{well_formed}
use Rattle.hd_dbd.specs.Positions.{Position, at_start}
use Rattle.hd_dbd.specs.Paths.{level_at, parent_row, end_of}
use Rattle.hd_dbd.specs.Forest.{Forest}
use Rattle.hd_calls.specs.Gets.{unheld}
use Rattle.hd_calls.specs.Moves.{Rewrite, number_after_insert, position_after_insert, position_after_delete, position_after_rewrite}
use Rattle.hd_links.specs.Links.{Links, IsLinkGraph}
use Rattle.hd_links.specs.Placed.{Placed, Holds}
use Rattle.hd_links.specs.Changes.{with_leaf, without_span, with_bytes, CanLink, CanUnlink}
use Rattle.hd_links.specs.Moves.{with_address}
use Rattle.hd_links.specs.Steps.{rows_of, address_at, path_at, LeadsDown, next_row}
use Rattle.hd_links.specs.Numbers.{LeafGoesInAt}
use Rattle.hd_links.specs.LastRows.{roots_of}
use Rattle.hd_position.specs.Kept.{Kept, StandsFor, kept_start, path_before, row_on, without_row, without_hold, after_rewrite, moved_row}

-- The records, a link graph of a well-formed database, hold the placed forest.
pub record IsHeld (block_size : ℕ) (frspc : FreeSpace) (types : List SegmentType) (bound : ℕ) (m : Links) (f : Forest Placed) : Type 0 where
  pub formed : IsTrue (well_formed block_size frspc types)
  pub graph : IsLinkGraph types bound m
  pub holds : Holds types m f

-- ---- how positions move

-- A row that went in at number n leaves the path of each row and what is kept of a PCB as they were; the position for which that
-- stands moves.
pub record MovesUp (types : List SegmentType) (old new : Forest Placed) (n : ℕ) : Type 0 where
  pub paths : (i : ℕ) → i < length (rows_of old) → path_at types new (number_after_insert n 1 i) ≡ path_at types old i
  pub positions : (k : Kept) (q : Position) → StandsFor types old k q → StandsFor types new k (position_after_insert n 1 q)

-- Row i left with its span, and its address and level were these: each position moves as for a deletion of the span, and what is
-- kept of a PCB changes where the address is on its path.
abbrev pub MovesDown : List SegmentType → Forest Placed → Forest Placed → ℕ → ℕ → ℕ → Type 0
MovesDown types old new a l i =
    (k : Kept) (q : Position) → StandsFor types old k q
    → StandsFor types new (without_row a l (path_before types old i) k) (position_after_delete i (end_of types (rows_of old) i) (parent_row types (rows_of old) i) q)

-- What is kept before all rows stands for the start, whatever the rows.
abbrev pub TheStartIsBeforeAllRows : Type 0
TheStartIsBeforeAllRows = (types : List SegmentType) (f : Forest Placed) → StandsFor types f kept_start at_start

-- A leaf that is linked moves positions up from the number where it goes in.
abbrev pub LinkingMovesPositions : Type 0
LinkingMovesPositions =
    (block_size : ℕ) (frspc : FreeSpace) (types : List SegmentType) (bound : ℕ) (m : Links) (f : Forest Placed) (h y : ℕ) (p : Placed) (n : ℕ)
    → IsHeld block_size frspc types bound m f → CanLink types m h y p → LeafGoesInAt types f h y p n
    → MovesUp types f (with_leaf h y p f) n

-- A leaf that is linked below a leaf just linked goes in just behind it.
abbrev pub LeavesGoInBelowLeaves : Type 0
LeavesGoInBelowLeaves =
    (block_size : ℕ) (frspc : FreeSpace) (types : List SegmentType) (bound : ℕ) (m : Links) (f : Forest Placed) (h y : ℕ) (p lower : Placed) (n k : ℕ)
    → IsHeld block_size frspc types bound m f → CanLink types m h y p → LeafGoesInAt types f h y p n
    → LeafGoesInAt types (with_leaf h y p f) p.address 0 lower k → k ≡ n + 1

-- Rows that go in one behind the other move each position as they do together.
abbrev pub InsertionsAddUp : Type 0
InsertionsAddUp = (n k : ℕ) (q : Position) → position_after_insert (n + k) 1 (position_after_insert n k q) ≡ position_after_insert n (k + 1) q

-- A span that is unlinked moves positions down to its row.
abbrev pub UnlinkingMovesPositions : Type 0
UnlinkingMovesPositions =
    (block_size : ℕ) (frspc : FreeSpace) (types : List SegmentType) (bound : ℕ) (m : Links) (f : Forest Placed) (h y i : ℕ)
    → IsHeld block_size frspc types bound m f → i < length (rows_of f) → CanUnlink types m h y (address_at f i)
    → MovesDown types f (without_span h (address_at f i) f) (address_at f i) (level_at types (rows_of f) i) i

-- Bytes that are replaced change nothing that is kept, nor the position for which it stands.
abbrev pub ReplacingKeepsPositions : Type 0
ReplacingKeepsPositions =
    (types : List SegmentType) (m : Links) (f : Forest Placed) (i : ℕ) (bytes : List ℕ) (k : Kept) (q : Position) → Holds types m f → i < length (rows_of f)
    → StandsFor types f k q → StandsFor types (with_bytes (address_at f i) bytes f) k q

-- A hold that is ended holds no row, and all else stays.
abbrev pub EndedHoldsHoldNothing : Type 0
EndedHoldsHoldNothing = (types : List SegmentType) (f : Forest Placed) (k : Kept) (q : Position) → StandsFor types f k q → StandsFor types f (without_hold k) (unheld q)

-- A row that gets new bytes ends the holds of it; nothing else that is kept changes.
abbrev pub RewritingEndsHolds : Type 0
RewritingEndsHolds =
    (types : List SegmentType) (m : Links) (f : Forest Placed) (w : Rewrite) (k : Kept) (q : Position) → Holds types m f → w.number < length (rows_of f)
    → StandsFor types f k q → StandsFor types (with_bytes (address_at f w.number) w.bytes f) (after_rewrite (address_at f w.number) k) (position_after_rewrite (w ∷ []) q)

-- Rows that get new bytes one by one end the holds that they do together.
abbrev pub RewritesAddUp : Type 0
RewritesAddUp = (w : Rewrite) (ws : List Rewrite) (q : Position) → position_after_rewrite ws (position_after_rewrite (w ∷ []) q) ≡ position_after_rewrite (w ∷ ws) q

-- A row that moves to another address changes the path that is kept, and no position.
abbrev pub MovingKeepsPositions : Type 0
MovingKeepsPositions =
    (types : List SegmentType) (f : Forest Placed) (a b : ℕ) (k : Kept) (q : Position) → 0 < a
    → StandsFor types f k q → StandsFor types (with_address a b f) (moved_row a b k) q

-- ---- paths by addresses

-- The row before by pointers: a path that leads down, and behind whose last row stands row i, is that of the row before row i; it
-- is empty for the first row.
abbrev pub TheRowBeforeIsOne : Type 0
TheRowBeforeIsOne =
    (block_size : ℕ) (frspc : FreeSpace) (types : List SegmentType) (bound : ℕ) (m : Links) (f : Forest Placed) (i : ℕ) (path : List ℕ)
    → IsHeld block_size frspc types bound m f → i < length (rows_of f)
    → LeadsDown types m 0 path → next_row types m path ≡ address_at f i → path ≡ path_before types f i

-- A path is as long as its row's level, which is at most 15.
abbrev pub PathsAreLevels : Type 0
PathsAreLevels =
    (block_size : ℕ) (frspc : FreeSpace) (types : List SegmentType) (bound : ℕ) (m : Links) (f : Forest Placed) (i : ℕ)
    → IsHeld block_size frspc types bound m f → i < length (rows_of f)
    → (length (path_at types f i) ≡ level_at types (rows_of f) i) × (level_at types (rows_of f) i ≤ 15)

-- The rows are fewer than a bound of their addresses.
abbrev pub RowsAreFew : Type 0
RowsAreFew =
    (block_size : ℕ) (frspc : FreeSpace) (types : List SegmentType) (bound : ℕ) (m : Links) (f : Forest Placed)
    → IsHeld block_size frspc types bound m f → 0 < bound → length (rows_of f) < bound

-- A row is a root just where its level is 1.
abbrev pub RootsAreOfLevelOne : Type 0
RootsAreOfLevelOne =
    (block_size : ℕ) (frspc : FreeSpace) (types : List SegmentType) (bound : ℕ) (m : Links) (f : Forest Placed) (i : ℕ)
    → IsHeld block_size frspc types bound m f → i < length (rows_of f)
    → list_any (λ p. p.address == address_at f i) (roots_of f) ≡ (level_at types (rows_of f) i == 1)

-- A row is in the span of another just where the other's address is on its path, at the other's level.
abbrev pub SpansAreOnPaths : Type 0
SpansAreOnPaths =
    (block_size : ℕ) (frspc : FreeSpace) (types : List SegmentType) (bound : ℕ) (m : Links) (f : Forest Placed) (i q : ℕ)
    → IsHeld block_size frspc types bound m f → i < length (rows_of f) → q < length (rows_of f)
    → option_eq (λ a b. a == b) (row_on (path_at types f i) (level_at types (rows_of f) q)) (Some (address_at f q))
    ≡ (nat_le q i && nat_lt i (end_of types (rows_of f) q))

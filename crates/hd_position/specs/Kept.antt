-- What is kept of a PCB, by addresses and levels, and for which position it stands.
use Rattle.std.specs.Prelude.{◌≡◌, ℕ, zero, suc, ◌-◌, ◌<◌, ◌≤◌, List, [], ◌∷◌, length, map, Bool, ◌==◌, nat_lt, nat_le, cond, slice_get, Option, Some, None}
use Rattle.std.specs.List.{list_any}
use Rattle.std.specs.Option.{option_eq}
use Rattle.hd_dbd.specs.Types.{SegmentType}
use Rattle.hd_dbd.specs.Segment.{Segment}
use Rattle.hd_dbd.specs.Paths.{path_of}
use Rattle.hd_dbd.specs.Positions.{Position, Place}
use Rattle.hd_dbd.specs.Forest.{Forest}
use Rattle.hd_links.specs.Placed.{Placed}
use Rattle.hd_links.specs.Moves.{moved_to}
use Rattle.hd_links.specs.Steps.{rows_of, address_at}

-- ---- what is kept

-- The path of the last row passed, by addresses, root first, empty before all rows; on it, by their levels, the row on which the
-- PCB stands and the parentage row, 0 for none, and the held rows; level and type of the row last returned or inserted.
pub record Kept : Type 0 where
  pub path : List ℕ
  pub standing : ℕ
  pub last : Option Place
  pub parent : ℕ
  pub held : List ℕ

-- before all rows
abbrev pub kept_start : Kept
kept_start = record { path = []; standing = 0; last = None; parent = 0; held = [] }

-- the path of the last of the rows passed; none where none is passed
abbrev pub path_passed : List SegmentType → List Segment → ℕ → List ℕ
path_passed types rows zero = []
path_passed types rows (suc i) = path_of types rows i

-- the addresses of the last of the rows passed and of its parents, root first
abbrev pub path_before : List SegmentType → Forest Placed → ℕ → List ℕ
path_before types f i = map (λ j. address_at f j) (path_passed types (rows_of f) i)

-- what stands on a path at a level, none at level 0
abbrev pub row_on : List ℕ → ℕ → Option ℕ
row_on path zero = None
row_on path (suc l) = slice_get path l

-- These are the rows of some levels on a path, one for each level.
abbrev pub AreRowsOn : List ℕ → List ℕ → List ℕ → Type 0
AreRowsOn path levels rows = map (λ i. Some i) rows ≡ map (λ l. row_on path l) levels

-- Levels ascend, each greater than the one before it, from above a level up to a highest.
abbrev pub Ascend : ℕ → ℕ → List ℕ → Type 0
Ascend low high [] = Unit {0}
Ascend low high (l ∷ ls) = (low < l) × (l ≤ high) × Ascend l high ls

-- ---- for which position it stands

-- What is kept stands for the position: the path is that of the last row passed, and the rows at its levels are the position's.
-- No level is below the path's last row, and the held ones ascend.
pub record StandsFor (types : List SegmentType) (f : Forest Placed) (k : Kept) (p : Position) : Type 0 where
  pub within : p.passed ≤ length (rows_of f)
  pub path : k.path ≡ path_before types f p.passed
  pub standing : p.standing ≡ row_on (path_passed types (rows_of f) p.passed) k.standing
  pub last : p.last ≡ k.last
  pub parent : p.parent ≡ row_on (path_passed types (rows_of f) p.passed) k.parent
  pub held : AreRowsOn (path_passed types (rows_of f) p.passed) k.held p.held
  pub standing_level : k.standing ≤ length k.path
  pub parent_level : k.parent ≤ length k.path
  pub held_levels : Ascend 0 (length k.path) k.held

-- ---- how it changes

-- no row is held
abbrev pub without_hold : Kept → Kept
without_hold k = record k { held = [] }

-- one of the held rows stands at the address
abbrev pub is_held : Kept → ℕ → Bool
is_held k a = list_any (λ l. option_eq (λ b c. b == c) (row_on k.path l) (Some a)) k.held

-- The row at an address got new bytes: a hold of it ends.
abbrev pub after_rewrite : ℕ → Kept → Kept
after_rewrite a k = cond (is_held k a) (without_hold k) k

-- The span of a row of level l was taken out, and the row was on the path: the path is that of the row before it; who stood on
-- the span stands on its row's parent; a parentage there ends, and so does a hold with any row there.
abbrev pub without_level : ℕ → List ℕ → Kept → Kept
without_level l before k = record {
  path = before;
  standing = cond (nat_lt k.standing l) k.standing (l - 1);
  last = k.last;
  parent = cond (nat_lt k.parent l) k.parent 0;
  held = cond (list_any (λ h. nat_le l h) k.held) [] k.held;
}

-- the address is on the path
abbrev pub is_on : List ℕ → ℕ → Bool
is_on path a = list_any (λ b. b == a) path

-- The span of the row at a, of level l, was taken out: what is kept changes where the row is on the path.
abbrev pub without_row : ℕ → ℕ → List ℕ → Kept → Kept
without_row a l before k = cond (is_on k.path a) (without_level l before k) k

-- The row at an address moved to another: the path names it there.
abbrev pub moved_row : ℕ → ℕ → Kept → Kept
moved_row a b k = record k { path = map (λ x. moved_to a b x) k.path }

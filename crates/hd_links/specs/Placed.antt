-- Placed forests, and how they lie in the records.
use Rattle.std.specs.Prelude.{◌≡◌, ℕ, ◌+◌, List, true, ◌==◌, cond}
use Rattle.hd_dbd.specs.Types.{SegmentType}
use Rattle.hd_dbd.specs.Segment.{Segment}
use Rattle.hd_dbd.specs.Forest.{Forest, empty, node, forest_fits}
use Rattle.hd_links.specs.Links.{Links, IsSegment, is_child_type, is_last_kept}
use Rattle.hd_dbd.specs.Prefixes.{is_backward_kept}

-- A segment and its address.
pub record Placed : Type 0 where
  pub address : ℕ
  pub segment : Segment

-- the forest without the addresses
abbrev pub forest_of : Forest Placed → Forest Segment
forest_of empty = empty
forest_of (node p below behind) = node p.segment (forest_of below) (forest_of behind)

-- how many nodes have the address
abbrev pub count : ℕ → Forest Placed → ℕ
count a empty = 0
count a (node p below behind) = cond (p.address == a) 1 0 + (count a below + count a behind)

-- the address of the first of these nodes that has the type, 0 for none
abbrev pub first_of : Forest Placed → ℕ → ℕ
first_of empty t = 0
first_of (node p below behind) t = cond (p.segment.code == t) p.address (first_of behind t)

-- A table has for each type the address of the last node so far; there is none at first.
abbrev pub nowhere : ℕ → ℕ
nowhere t = 0

-- the table with one node more
abbrev pub with_node : (ℕ → ℕ) → Placed → ℕ → ℕ
with_node table p t = cond (p.segment.code == t) p.address (table t)

-- the table with these nodes more
abbrev pub with_nodes : (ℕ → ℕ) → Forest Placed → ℕ → ℕ
with_nodes table empty t = table t
with_nodes table (node p below behind) t = with_nodes (with_node table p) behind t

-- the address of the last of these nodes that has the type, 0 for none
abbrev pub last_of : Forest Placed → ℕ → ℕ
last_of f t = with_nodes nowhere f t

-- The record a, of type c, names the first and the last of the nodes below it of each child type.
pub record NamesChildren (types : List SegmentType) (m : Links) (c a : ℕ) (below : Forest Placed) : Type 0 where
  pub first : (t : ℕ) → is_child_type types c t ≡ true → m.first_child a t ≡ first_of below t
  pub last : (t : ℕ) → is_child_type types c t ≡ true → is_last_kept types t ≡ true → m.last_child a t ≡ last_of below t

-- At the node's address stand its segment, delete byte 0, the next twin and, where it is kept, the twin before, which the
-- table has, and the nodes below it.
pub record NodeLies (types : List SegmentType) (m : Links) (table : ℕ → ℕ) (p : Placed) (below behind : Forest Placed) : Type 0 where
  pub there : IsSegment m p.address
  pub code : m.code p.address ≡ p.segment.code
  pub bytes : m.bytes p.address ≡ p.segment.bytes
  pub delete_byte : m.delete_byte p.address ≡ 0
  pub forward : m.forward p.address ≡ first_of behind p.segment.code
  pub backward : is_backward_kept types p.segment.code ≡ true → m.backward p.address ≡ table p.segment.code
  pub children : NamesChildren types m p.segment.code p.address below

-- Each of these nodes and of those below them stands at its address.
abbrev pub NodesLie : List SegmentType → Links → (ℕ → ℕ) → Forest Placed → Type 0
NodesLie types m table empty = Unit {0}
NodesLie types m table (node p below behind) =
    NodeLies types m table p below behind × NodesLie types m nowhere below × NodesLie types m (with_node table p) behind

-- The placed forest lies in the records: the header names its first and its last root, and each node stands at its address.
pub record Lies (types : List SegmentType) (m : Links) (f : Forest Placed) : Type 0 where
  pub roots : NamesChildren types m 0 0 f
  pub nodes : NodesLie types m nowhere f

-- The records hold the placed forest: it lies in them, it is a forest of the database, and each segment is one of its
-- nodes, once. Of the index and of the blocks it says nothing.
pub record Holds (types : List SegmentType) (m : Links) (f : Forest Placed) : Type 0 where
  pub lies : Lies types m f
  pub fits : forest_fits types (forest_of f) ≡ true
  pub once : (a : ℕ) → IsSegment m a → count a f ≡ 1

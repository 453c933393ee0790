-- What the calls that change a database do to its records, and to the forest that these hold.
use Rattle.std.specs.Prelude.{◌≡◌, ℕ, ◌<◌, List, true, false, ◌&&◌, ◌||◌, ◌==◌, nat_lt, cond}
use Rattle.hd_dbd.specs.Types.{SegmentType}
use Rattle.hd_dbd.specs.Rows.{row_fits, twins_in_order, key_of}
use Rattle.hd_dbd.specs.Forest.{Forest, empty, node}
use Rattle.hd_links.specs.Links.{Links, IsSegment, segment_at, is_child_type, is_last_kept}
use Rattle.hd_dbd.specs.Prefixes.{is_backward_kept}
use Rattle.hd_links.specs.Placed.{Placed, count}
use Rattle.hd_links.specs.Pointers.{IsInChain}

-- ---- what two records say

-- At the address m2 says what m says, of all that is kept there.
pub record AgreeAt (types : List SegmentType) (m m2 : Links) (a : ℕ) : Type 0 where
  pub here : m2.here a ≡ m.here a
  pub code : m.here a ≡ true → m2.code a ≡ m.code a
  pub bytes : IsSegment m a → m2.bytes a ≡ m.bytes a
  pub delete_byte : IsSegment m a → m2.delete_byte a ≡ m.delete_byte a
  pub forward : IsSegment m a → m2.forward a ≡ m.forward a
  pub backward : IsSegment m a → is_backward_kept types (m.code a) ≡ true → m2.backward a ≡ m.backward a
  pub first_child : (t : ℕ) → m.here a ≡ true → is_child_type types (m.code a) t ≡ true → m2.first_child a t ≡ m.first_child a t
  pub last_child : (t : ℕ) → m.here a ≡ true → is_child_type types (m.code a) t ≡ true → is_last_kept types t ≡ true → m2.last_child a t ≡ m.last_child a t

-- m2 says what m says at each address
abbrev pub Agree : List SegmentType → Links → Links → Type 0
Agree types m m2 = (a : ℕ) → AgreeAt types m m2 a

-- ---- the records

-- the twin behind y below h, or the first of the type where y is 0
abbrev pub twin_behind : Links → ℕ → ℕ → ℕ → ℕ
twin_behind m h t y = cond (y == 0) (m.first_child h t) (m.forward y)

-- The records with a new leaf below h, linked behind its twin y, or as the first of its type where y is 0: y, or the
-- parent, and the twin behind, or the parent, name the leaf.
abbrev pub linked : Links → ℕ → ℕ → Placed → Links
linked m h y p = record {
  here = λ a. a == p.address || m.here a;
  code = λ a. cond (a == p.address) p.segment.code (m.code a);
  delete_byte = λ a. cond (a == p.address) 0 (m.delete_byte a);
  bytes = λ a. cond (a == p.address) p.segment.bytes (m.bytes a);
  forward = λ a. cond (a == p.address) (twin_behind m h p.segment.code y) (cond (a == y) p.address (m.forward a));
  backward = λ a. cond (a == p.address) y (cond (a == twin_behind m h p.segment.code y) p.address (m.backward a));
  first_child = λ a t. cond (a == p.address) 0 (cond (a == h && t == p.segment.code && y == 0) p.address (m.first_child a t));
  last_child = λ a t. cond (a == p.address) 0 (cond (a == h && t == p.segment.code && twin_behind m h p.segment.code y == 0) p.address (m.last_child a t));
}

-- The records without the span of a, which stands below h behind its twin y, or as the first where y is 0: y, or the
-- parent, and the twin behind, or the parent, name each other, and of the segments those of the given forest are left.
abbrev pub unlinked : Links → ℕ → ℕ → ℕ → Forest Placed → Links
unlinked m h y a left = record {
  here = λ b. b == 0 || nat_lt 0 (count b left);
  code = m.code;
  delete_byte = m.delete_byte;
  bytes = m.bytes;
  forward = λ b. cond (b == y) (m.forward a) (m.forward b);
  backward = λ b. cond (b == m.forward a) y (m.backward b);
  first_child = λ b t. cond (b == h && t == m.code a && y == 0) (m.forward a) (m.first_child b t);
  last_child = λ b t. cond (b == h && t == m.code a && m.forward a == 0) y (m.last_child b t);
}

-- the records with other bytes in the segment a
abbrev pub replaced : Links → ℕ → List ℕ → Links
replaced m a bytes = record m { bytes = λ b. cond (b == a) bytes (m.bytes b) }

-- ---- the forest

-- the nodes with a new one behind those of lesser type
abbrev pub put_first : Placed → Forest Placed → Forest Placed
put_first p empty = node p empty empty
put_first p (node r below behind) = cond (nat_lt r.segment.code p.segment.code) (node r below (put_first p behind)) (node p empty (node r below behind))

-- the nodes with a new one behind the node at y
abbrev pub put_behind : ℕ → Placed → Forest Placed → Forest Placed
put_behind y p empty = empty
put_behind y p (node r below behind) = cond (r.address == y) (node r below (node p empty behind)) (node r below (put_behind y p behind))

-- the nodes without the one at a and what depends on it
abbrev pub take_out : ℕ → Forest Placed → Forest Placed
take_out a empty = empty
take_out a (node r below behind) = cond (r.address == a) behind (node r below (take_out a behind))

-- the forest with the nodes below h changed
abbrev pub change_below : ℕ → (Forest Placed → Forest Placed) → Forest Placed → Forest Placed
change_below h change empty = empty
change_below h change (node r below behind) =
    cond (r.address == h) (node r (change below) behind) (node r (change_below h change below) (change_below h change behind))

-- the same, where below 0, the header, are the roots
abbrev pub with_children : ℕ → (Forest Placed → Forest Placed) → Forest Placed → Forest Placed
with_children h change f = cond (h == 0) (change f) (change_below h change f)

-- the forest with a new leaf below h, behind its twin y, or as the first of its type where y is 0
abbrev pub with_leaf : ℕ → ℕ → Placed → Forest Placed → Forest Placed
with_leaf h y p f = with_children h (cond (y == 0) (put_first p) (put_behind y p)) f

-- the forest without a, which stands below h, and what depends on it
abbrev pub without_span : ℕ → ℕ → Forest Placed → Forest Placed
without_span h a f = with_children h (take_out a) f

-- the node with other bytes, if it stands at a
abbrev pub rewritten : ℕ → List ℕ → Placed → Placed
rewritten a bytes p = cond (p.address == a) (record { address = p.address; segment = record { code = p.segment.code; bytes = bytes } }) p

-- the forest with other bytes in the row at a
abbrev pub with_bytes : ℕ → List ℕ → Forest Placed → Forest Placed
with_bytes a bytes empty = empty
with_bytes a bytes (node p below behind) = node (rewritten a bytes p) (with_bytes a bytes below) (with_bytes a bytes behind)

-- ---- when it may be done

-- The leaf may be linked there: its row is one of the database, of a child type of h, no record stands at its address, y
-- is 0 or a twin below h, and the keys of the twins on both sides are in order with its own.
pub record CanLink (types : List SegmentType) (m : Links) (h y : ℕ) (p : Placed) : Type 0 where
  pub parent : m.here h ≡ true
  pub typed : is_child_type types (m.code h) p.segment.code ≡ true
  pub fits : row_fits types p.segment ≡ true
  pub free : m.here p.address ≡ false
  pub twin : 0 < y → IsInChain m (m.first_child h p.segment.code) y
  pub before : 0 < y → twins_in_order types (segment_at m y) p.segment ≡ true
  pub behind : 0 < twin_behind m h p.segment.code y → twins_in_order types p.segment (segment_at m (twin_behind m h p.segment.code y)) ≡ true

-- The span of a may be unlinked there: a stands below h, behind its twin y, or as the first of its type where y is 0.
pub record CanUnlink (types : List SegmentType) (m : Links) (h y a : ℕ) : Type 0 where
  pub parent : m.here h ≡ true
  pub typed : is_child_type types (m.code h) (m.code a) ≡ true
  pub some : 0 < a
  pub twin : 0 < y → IsInChain m (m.first_child h (m.code a)) y
  pub here : twin_behind m h (m.code a) y ≡ a

-- The segment's bytes may be replaced: the type may have them, and they have the same key.
pub record CanReplace (types : List SegmentType) (m : Links) (a : ℕ) (bytes : List ℕ) : Type 0 where
  pub there : IsSegment m a
  pub fits : row_fits types (record { code = m.code a; bytes = bytes }) ≡ true
  pub key : key_of types (record { code = m.code a; bytes = bytes }) ≡ key_of types (segment_at m a)

-- A segment that moves to another address: the records, and the forest that they hold.
use Rattle.std.specs.Prelude.{◌≡◌, ℕ, ◌<◌, List, false, ◌&&◌, ◌||◌, not, ◌==◌, cond}
use Rattle.hd_dbd.specs.Forest.{Forest, empty, node}
use Rattle.hd_links.specs.Links.{Links, IsSegment}
use Rattle.hd_links.specs.Placed.{Placed}

-- the address a, once the segment there moved to b
abbrev pub moved_to : ℕ → ℕ → ℕ → ℕ
moved_to a b x = cond (x == a) b x

-- where the record that stands at x stood before the segment at a moved to b
abbrev pub moved_from : ℕ → ℕ → ℕ → ℕ
moved_from a b x = cond (x == b) a x

-- The records after the segment at a moved to b: what stood at a stands at b, and each pointer that named a names b.
abbrev pub moved : Links → ℕ → ℕ → Links
moved m a b = record {
  here = λ x. x == b || (m.here x && not (x == a));
  code = λ x. m.code (moved_from a b x);
  delete_byte = λ x. m.delete_byte (moved_from a b x);
  bytes = λ x. m.bytes (moved_from a b x);
  forward = λ x. moved_to a b (m.forward (moved_from a b x));
  backward = λ x. moved_to a b (m.backward (moved_from a b x));
  first_child = λ x t. moved_to a b (m.first_child (moved_from a b x) t);
  last_child = λ x t. moved_to a b (m.last_child (moved_from a b x) t);
}

-- The records after the segment at a, which stands below h behind its twin y, or as the first of its type where y is 0, moved to b with
-- other bytes: y, or the parent, and the twin behind, or the parent, name it there, and what else stands at an address stays.
abbrev pub moved_with : Links → (h y a b : ℕ) → List ℕ → Links
moved_with m h y a b bytes = record {
  here = λ x. x == b || (m.here x && not (x == a));
  code = λ x. m.code (moved_from a b x);
  delete_byte = λ x. m.delete_byte (moved_from a b x);
  bytes = λ x. cond (x == b) bytes (m.bytes x);
  forward = λ x. cond (x == y) b (m.forward (moved_from a b x));
  backward = λ x. cond (x == m.forward a) b (m.backward (moved_from a b x));
  first_child = λ x t. cond (x == h && t == m.code a && y == 0) b (m.first_child (moved_from a b x) t);
  last_child = λ x t. cond (x == h && t == m.code a && m.forward a == 0) b (m.last_child (moved_from a b x) t);
}

-- the forest with the row at a standing at b
abbrev pub with_address : ℕ → ℕ → Forest Placed → Forest Placed
with_address a b empty = empty
with_address a b (node p below behind) =
    node (record { address = moved_to a b p.address; segment = p.segment }) (with_address a b below) (with_address a b behind)

-- The segment at a may move to b: no record stands there.
pub record CanMove (m : Links) (a b : ℕ) : Type 0 where
  pub there : IsSegment m a
  pub some : 0 < b
  pub free : m.here b ≡ false

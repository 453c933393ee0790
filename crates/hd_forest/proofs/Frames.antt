-- A path into a span, with what is left to be freed at each of its rows.
use Rattle.std.proofs.Common.{Some, ◌≡◌, ℕ, ◌+◌, ◌*◌, ◌<◌, ◌≤◌, List, [], ◌∷◌, ◌++◌, Bool, true, false, cond, sym, ap, subst, ◌∙◌, arith}
use Rattle.std.specs.Prelude.{◌==◌}
use Rattle.std.proofs.lemmas.Bool.{cond-false, ne_eqb}
use Rattle.hd_dbd.specs.Types.{SegmentType}
use Rattle.hd_dbd.specs.Forest.{Forest, empty, node}
use Rattle.hd_links.specs.Links.{Links, IsSegment, child_types, is_child_type}
use Rattle.hd_links.specs.Placed.{Placed, count, first_of, nowhere, with_node, NodesLie, NamesChildren}
use Rattle.hd_links.specs.Steps.{first_some, child_among, later_than}
use Rattle.hd_links.proofs.Types.{Ordered}
use Rattle.hd_links.proofs.Forms.{Formed, is_behind, follows_code}
use Rattle.hd_links.proofs.Counts.{is_at}
use Rattle.hd_links.proofs.Ways.{head_of, first_below, first_behind}

-- A row on the path, with the nodes below it and those behind it below one parent.
pub record Frame : Type 0 where
  pub row : Placed
  pub under : Forest Placed
  pub behind : Forest Placed

-- their addresses, where the last row comes first among the frames
abbrev pub path_of : List Frame → List ℕ
path_of [] = []
path_of (f ∷ fs) = path_of fs ++ f.row.address ∷ []

-- how often an address is left
abbrev pub left_of : Bool → List Frame → ℕ → ℕ
left_of down [] b = 0
left_of down (f ∷ fs) b = cond down (count b f.under) 0 + (is_at f.row.address b + (count b f.behind + left_of false fs b))

-- how many nodes there are
abbrev pub size_of : Forest Placed → ℕ
size_of empty = 0
size_of (node p k n) = 1 + (size_of k + size_of n)

-- at most as many steps are left
abbrev pub steps_of : Bool → List Frame → ℕ
steps_of down [] = 0
steps_of down (f ∷ fs) = cond down (2 * size_of f.under) 0 + (1 + (2 * size_of f.behind + steps_of false fs))

-- ---- where they stand

-- A row stands in the records, and what is below it.
pub record RowStands (types : List SegmentType) (m : Links) (p : Placed) (under : Forest Placed) : Type 0 where
  pub there : IsSegment m p.address
  pub code : m.code p.address ≡ p.segment.code
  pub bytes : m.bytes p.address ≡ p.segment.bytes
  pub children : NamesChildren types m p.segment.code p.address under
  pub nodes : NodesLie types m nowhere under
  pub formed : Formed types p.segment.code under

-- A row stands below q, and what is behind it.
pub record StandsBelow (types : List SegmentType) (m : Links) (q : Placed) (f : Frame) : Type 0 where
  pub table : ℕ → ℕ
  pub nodes : NodesLie types m table (node f.row f.under f.behind)
  pub formed : Formed types q.segment.code (node f.row f.under f.behind)
  pub later : (t : ℕ) → f.row.segment.code < t → is_child_type types q.segment.code t ≡ true → first_of f.behind t ≡ m.first_child q.address t

-- each row on the path stands below the one before it
abbrev pub Stand : List SegmentType → Links → List Frame → Type 0
Stand types m [] = Unit {0}
Stand types m (f ∷ []) = RowStands types m f.row f.under × (f.behind ≡ empty)
Stand types m (f ∷ (q ∷ fs)) = StandsBelow types m q.row f × Stand types m (q ∷ fs)

module _ (types : List SegmentType) (O : Ordered types) (m : Links) where
  -- each row on the path stands in the records
  pub row-stands : (f : Frame) (fs : List Frame) → Stand types m (f ∷ fs) → RowStands types m f.row f.under
  row-stands f [] s = s.0
  row-stands f (q ∷ fs) s = record { there = s.0.nodes.0.there; code = s.0.nodes.0.code; bytes = s.0.nodes.0.bytes; children = s.0.nodes.0.children; nodes = s.0.nodes.1; formed = s.0.formed.2 }

  -- the path without its last row stands
  pub stand-tail : (f : Frame) (fs : List Frame) → Stand types m (f ∷ fs) → Stand types m fs
  stand-tail f [] s = tt
  stand-tail f (q ∷ fs) s = s.1

  -- the first row below the last
  pub below-is : (f : Frame) (fs : List Frame) → Stand types m (f ∷ fs) → child_among m f.row.address (child_types types f.row.segment.code) ≡ head_of f.under
  below-is f fs s = (let r = row-stands f fs s in first_below types m O.ascending f.row.segment.code f.row.address nowhere f.under r.nodes r.formed r.children.first)

  -- what is beside it
  pub beside-is : (f q : Frame) (fs : List Frame) → Stand types m (f ∷ (q ∷ fs))
      → first_some (m.forward f.row.address) (child_among m q.row.address (later_than f.row.segment.code (child_types types q.row.segment.code))) ≡ head_of f.behind
  beside-is f q fs s = first_behind types m O.ascending q.row.segment.code q.row.address s.0.table f.row f.under f.behind s.0.nodes s.0.formed s.0.later

  -- down to the first row below
  pub stand-down : (f : Frame) (fs : List Frame) (r : Placed) (k n : Forest Placed) → Stand types m (f ∷ fs) → f.under ≡ node r k n
      → Stand types m (record { row = r; under = k; behind = n } ∷ (f ∷ fs))
  stand-down f fs r k n s e =
      let R = row-stands f fs s in (
        record {
          table = nowhere;
          nodes = subst (NodesLie types m nowhere) e R.nodes;
          formed = subst (Formed types f.row.segment.code) e R.formed;
          later = λ t l c.
              sym (cond-false (r.segment.code == t) r.address (first_of n t) (ne_eqb r.segment.code t (λ (x : r.segment.code ≡ t). omega arith)))
              ∙ ap (λ (x : Forest Placed). first_of x t) (sym e) ∙ sym (R.children.first t c);
        },
        s,
      )

  -- to the row beside
  pub stand-beside : (f q : Frame) (fs : List Frame) (r : Placed) (k n : Forest Placed) → Stand types m (f ∷ (q ∷ fs)) → f.behind ≡ node r k n
      → Stand types m (record { row = r; under = k; behind = n } ∷ (q ∷ fs))
  stand-beside f q fs r k n s e =
      let behind : Formed types q.row.segment.code (node r k n) = subst (Formed types q.row.segment.code) e s.0.formed.3 in
      let low : f.row.segment.code ≤ r.segment.code = follows_code types f.row r k n (subst (λ (x : Forest Placed). is_behind types (Some f.row.segment) x ≡ true) e s.0.formed.1) in (
        record {
          table = with_node s.0.table f.row;
          nodes = subst (NodesLie types m (with_node s.0.table f.row)) e s.0.nodes.2;
          formed = behind;
          later = λ t l c.
              sym (cond-false (r.segment.code == t) r.address (first_of n t) (ne_eqb r.segment.code t (λ (x : r.segment.code ≡ t). omega arith)))
              ∙ ap (λ (x : Forest Placed). first_of x t) (sym e) ∙ s.0.later t (omega arith) c;
        },
        s.1,
      )

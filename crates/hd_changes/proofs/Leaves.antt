-- A row below a leaf that was just linked.
use Rattle.std.proofs.Common.{◌≡◌, ℕ, ◌+◌, ◌-◌, ◌<◌, List, length, Bool, true, ◌==◌, ◌&&◌, Some, cond, refl, sym, ap, subst, ◌∙◌, arith}
use Rattle.std.specs.Prelude.{nat_le}
use Rattle.std.specs.Option.{option_map_or, option_eq}
use Rattle.std.proofs.lemmas.Bool.{eq-eqb, cond-true, or_left}
use Rattle.hd_dbd.specs.Types.{SegmentType}
use Rattle.hd_dbd.specs.Paths.{row_at, parent_row, end_of}
use Rattle.hd_dbd.specs.Searches.{first_from, least_within}
use Rattle.hd_dbd.specs.Forest.{Forest, empty, node, sequence}
use Rattle.hd_dbd.proofs.LevelLaw.{Leveled, leveled}
use Rattle.hd_links.specs.Links.{Links, IsLinkGraph, is_child_type}
use Rattle.hd_links.specs.Placed.{Placed, first_of, nowhere, NodesLie, Holds}
use Rattle.hd_links.specs.Changes.{Agree, linked, CanLink}
use Rattle.hd_links.specs.Steps.{rows_of, address_at}
use Rattle.hd_links.specs.Numbers.{place_below, LeafGoesInAt}
use Rattle.hd_links.proofs.Types.{Ordered, ordered}
use Rattle.hd_links.proofs.Forms.{Formed}
use Rattle.hd_links.proofs.Standing.{RowAt, row_found, own_address}
use Rattle.hd_links.proofs.Following.{end_is}
use Rattle.hd_links.proofs.RowChanges.{leaf_in}
use Rattle.hd_changes.specs.NewPaths.{HasNoChild, TakesAChild, LeavesTakeAChild, FirstChildrenGoInNext}

-- ---- a leaf that was linked

module _ (types : List SegmentType) (m m2 : Links) (h y : ℕ) (p : Placed) (A : Agree types (linked m h y p) m2) where
  abbrev a : ℕ
  a = p.address

  own : a == a ≡ true
  own = eq-eqb a a refl

  here : (linked m h y p).here a ≡ true
  here = or_left (a == a) (m.here a) own

  code-linked : (linked m h y p).code a ≡ p.segment.code
  code-linked = cond-true (a == a) p.segment.code (m.code a) own

  code : m2.code a ≡ p.segment.code
  code = (A a).code here ∙ code-linked

  there : m2.here a ≡ true
  there = (A a).here ∙ here

  -- it has no child
  childless : HasNoChild types m2 a
  childless t typed =
      (A a).first_child t here (ap (λ (c : ℕ). is_child_type types c t) (code-linked ∙ sym code) ∙ typed)
      ∙ cond-true (a == a) 0 (cond (a == h && t == p.segment.code && y == 0) a (m.first_child a t)) own

  -- so any row of a child type is the first there
  takes : TakesAChild types m2 p
  takes row typed fits b free =
      let typed-here : is_child_type types (m2.code a) row.code ≡ true = ap (λ (c : ℕ). is_child_type types c row.code) code ∙ typed in
      record {
        parent = there;
        typed = typed-here;
        fits = fits;
        free = free;
        twin = λ some. absurd (omega arith);
        before = λ some. absurd (omega arith);
        behind = λ some. absurd (let none : m2.first_child a row.code ≡ 0 = childless row.code typed-here in omega arith);
      }

pub leaves-take : LeavesTakeAChild
leaves-take types m m2 h y p A = (childless types m m2 h y p A, takes types m m2 h y p A)

-- ---- a row without children

module _ (types : List SegmentType) (O : Ordered types) (levels : Leveled types) (bound : ℕ) (m : Links) (f : Forest Placed) (G : IsLinkGraph types bound m) (H : Holds types m f)
    (i : ℕ) (within : i < length (rows_of f)) (alone : HasNoChild types m (address_at f i)) where
  F : RowAt types O levels bound m G f H i
  F = row_found types O levels bound m G f H i within

  row-address : F.row.address ≡ address_at f i
  row-address = sym (own_address types O levels bound m G f H i F.path F.parent F.holder F.table F.row F.below F.after F.rest F.stands)

  -- nothing stands below it
  none-below : (g : Forest Placed) → F.below ≡ g → length (sequence g) ≡ 0
  none-below empty is = refl
  none-below (node q k n) is = absurd
      (let formed : Formed types F.row.segment.code (node q k n) = subst (Formed types F.row.segment.code) is F.stands.formed.2 in
      let stand : NodesLie types m nowhere (node q k n) = subst (NodesLie types m nowhere) is F.stands.stand.1 in
      let named : m.first_child F.row.address q.segment.code ≡ first_of F.below q.segment.code = F.stands.stand.0.children.first q.segment.code formed.0 in
      let first : first_of (node q k n) q.segment.code ≡ q.address = cond-true (q.segment.code == q.segment.code) q.address (first_of n q.segment.code) (eq-eqb q.segment.code q.segment.code refl) in
      let typed : is_child_type types (m.code (address_at f i)) q.segment.code ≡ true
      = ap (λ (c : ℕ). is_child_type types c q.segment.code) (ap m.code (sym row-address) ∙ F.stands.stand.0.code) ∙ formed.0 in
      let none : m.first_child (address_at f i) q.segment.code ≡ 0 = alone q.segment.code typed in
      let zero : q.address ≡ 0 = sym first ∙ ap (λ (g : Forest Placed). first_of g q.segment.code) (sym is) ∙ sym named ∙ ap (λ (x : ℕ). m.first_child x q.segment.code) row-address ∙ none in
      let some : 0 < q.address = stand.0.there.some in omega arith)

  ends : end_of types (rows_of f) i ≡ i + 1
  ends =
      (let own : end_of types (rows_of f) i ≡ i + 1 + length (sequence F.below) = end_is types O levels bound m G f H i F in
      let none : length (sequence F.below) ≡ 0 = none-below F.below refl in omega arith)

  -- and the first place below it is the next
  next-place : (t : ℕ) → place_below types (rows_of f) i t ≡ i + 1
  next-place t =
      let test : ℕ → Bool = λ j. option_eq (λ x y. x == y) (parent_row types (rows_of f) j) (Some i) && nat_le t (row_at (rows_of f) j).code in
      let none : i + 1 - (i + 1) ≡ 0 = omega arith in
      ap (λ (e : ℕ). option_map_or (λ j. j) (first_from test (i + 1) e) e) ends
      ∙ ap (λ (n : ℕ). option_map_or (λ j. j) (least_within test n (i + 1)) (i + 1)) none

  goes-next : (p : Placed) → CanLink types m (address_at f i) 0 p → LeafGoesInAt types f (address_at f i) 0 p (i + 1)
  goes-next p C =
      let L = leaf_in types O levels bound m G f H (address_at f i) 0 p C in
      subst (LeafGoesInAt types f (address_at f i) 0 p) (L.1.first_below i within refl refl ∙ next-place p.segment.code) L.1

pub children-next : FirstChildrenGoInNext
children-next block_size frspc types bound m f i p fit G H within alone C =
    goes-next types (ordered block_size frspc types fit) (leveled block_size frspc types fit) bound m f G H i within alone p C

-- A leaf that is linked is a splice of one row.
use Rattle.std.proofs.Common.{◌≡◌, ℕ, zero, suc, ◌+◌, ◌-◌, ◌<◌, ◌≤◌, List, ◌∷◌, ◌++◌, length, take, drop, get_or, Bool, true, cond, arith, ap, sym, ◌∙◌, refl, inl, inr, Option, Some}
use Rattle.std.specs.Prelude.{option_map, IsTrue, ◌==◌, ◌&&◌, nat_le}
use Rattle.std.specs.Option.{option_map_or, option_eq}
use Rattle.std.proofs.lemmas.Bool.{cases_lt, cond-true, lt-ltb, eq-eqb, and_from}
use Rattle.std.proofs.lemmas.List.{take-append-drop, length-append, length-take-le, length-map, get_or-append_right, get_or_append_left, get_or-take, get_or-drop, get_or_past}
use Rattle.hd_dbd.specs.declared.hierarchy.FreeSpace.{FreeSpace}
use Rattle.hd_dbd.specs.Types.{SegmentType}
use Rattle.hd_dbd.specs.DatabaseRules.{well_formed}
use Rattle.hd_dbd.specs.Segment.{Segment}
use Rattle.hd_dbd.specs.Hierarchy.{parent_of, level_of}
use Rattle.hd_dbd.specs.Paths.{row_at, no_row, level_at, parent_row, nearest_above, end_of}
use Rattle.hd_dbd.specs.Searches.{first_from, least_within}
use Rattle.hd_dbd.specs.Rows.{level, row_fits}
use Rattle.hd_dbd.specs.Laws.{IsInSequence}
use Rattle.hd_dbd.specs.Forest.{Forest, sequence}
use Rattle.hd_dbd.proofs.LevelLaw.{leveled, Leveled}
use Rattle.hd_dbd.proofs.Names.{option_eq-Decides}
use Rattle.hd_dbd.proofs.InSequence.{in_sequence}
use Rattle.hd_links.specs.Links.{Links, IsLinkGraph, is_child_type}
use Rattle.hd_links.proofs.ValidRows.{held_valid}
use Rattle.hd_links.specs.Placed.{Placed, Holds}
use Rattle.hd_links.specs.Changes.{linked, with_leaf, AgreeAt, CanLink}
use Rattle.hd_links.specs.Steps.{rows_of, addresses, address_at, is_child_row, RowsHaveAddresses, StepsAreRows}
use Rattle.hd_links.specs.Numbers.{LeafGoesInAt}
use Rattle.hd_links.proofs.Types.{Ordered, ordered, above_some}
use Rattle.hd_links.proofs.Numbers.{rows_addressed, rows_length}
use Rattle.hd_links.proofs.Standing.{row_found}
use Rattle.hd_links.proofs.Following.{stepped}
use Rattle.hd_links.proofs.Linking.{leaf_held}
use Rattle.hd_calls.specs.Moves.{number_after_insert}
use Rattle.hd_calls.proofs.Spans.{end_is, one_end}
use Rattle.hd_position.specs.Laws.{IsHeld, MovesUp, LinkingMovesPositions, LeavesGoInBelowLeaves}
use Rattle.hd_position.proofs.Splices.{IsSpliced, rises, stays}
use Rattle.hd_position.proofs.Rising.{path_stays, stands_rises}

-- What is known of the rows of a forest that is held.
pub record Grounds (types : List SegmentType) (m : Links) (f : Forest Placed) : Type 0 where
  pub addressed : RowsHaveAddresses m f
  pub steps : (i : ℕ) → i < length (rows_of f) → StepsAreRows types m f i
  pub ordered : IsInSequence types (rows_of f)

pub grounds : (block_size : ℕ) (frspc : FreeSpace) (types : List SegmentType) (bound : ℕ) (m : Links) (f : Forest Placed) → IsTrue (well_formed block_size frspc types)
    → IsLinkGraph types bound m → Holds types m f → Grounds types m f
grounds block_size frspc types bound m f formed G H =
    let O = ordered block_size frspc types formed in
    let levels = leveled block_size frspc types formed in
    record {
      addressed = rows_addressed types m f H;
      steps = λ i within. stepped types O levels bound m G f H i (row_found types O levels bound m G f H i within) within;
      ordered = in_sequence types levels (rows_of f) (held_valid types m f levels H);
    }

-- ---- a list with one more

module _ {X : Type 0} (xs : List X) (x d : X) (n : ℕ) (few : n ≤ length xs) where
  front_long : length (take n xs) ≡ n
  front_long = length-take-le n xs few

  pub put_front : (i : ℕ) → i < n → get_or (take n xs ++ x ∷ drop n xs) i d ≡ get_or xs i d
  put_front i l = get_or_append_left (take n xs) (x ∷ drop n xs) d i (let e : length (take n xs) ≡ n = front_long in omega arith) ∙ get_or-take n xs i d l

  pub put_here : get_or (take n xs ++ x ∷ drop n xs) n d ≡ x
  put_here = get_or-append_right (take n xs) (x ∷ drop n xs) n n d front_long (omega arith) ∙ ap (λ i. get_or (x ∷ drop n xs) i d) (let e : n - n ≡ 0 = omega arith in e)

  pub put_back : (i : ℕ) → n ≤ i → get_or (take n xs ++ x ∷ drop n xs) (i + 1) d ≡ get_or xs i d
  put_back i l = get_or-append_right (take n xs) (x ∷ drop n xs) n (i + 1) d front_long (omega arith)
      ∙ ap (λ j. get_or (x ∷ drop n xs) j d) (let e : i + 1 - n ≡ suc (i - n) = omega arith in e)
      ∙ get_or-drop n xs (i - n) d ∙ ap (λ j. get_or xs j d) (let e : n + (i - n) ≡ i = omega arith in e)

-- ---- the leaf

-- no level behind the last row
pub past_level : (types : List SegmentType) (rows : List Segment) (i : ℕ) → length rows ≤ i → level_at types rows i ≡ 0
past_level types rows i l = ap (level types) (get_or_past rows i no_row l)

module _ (types : List SegmentType) (m m2 : Links) (f f2 : Forest Placed) (h y : ℕ) (p : Placed) (n : ℕ)
    (child_types_fit : (c : ℕ) (r : Segment) → row_fits types r ≡ true → parent_of types r.code ≡ Some c → is_child_type types c r.code ≡ true)
    (G : Grounds types m f) (G2 : Grounds types m2 f2) (P : LeafGoesInAt types f h y p n) (is : f2 ≡ with_leaf h y p f)
    (childless : (t : ℕ) → m2.first_child p.address t ≡ 0) where
  rows_are : rows_of f2 ≡ take n (rows_of f) ++ p.segment ∷ drop n (rows_of f)
  rows_are = ap rows_of is ∙ P.rows

  places_are : addresses f2 ≡ take n (addresses f) ++ p.address ∷ drop n (addresses f)
  places_are = ap addresses is ∙ P.places

  pub one_more : length (rows_of f2) ≡ length (rows_of f) + 1
  one_more =
      ap (λ (x : List Segment). length x) rows_are ∙ length-append (take n (rows_of f)) (p.segment ∷ drop n (rows_of f))
      ∙ (let w : n ≤ length (rows_of f) = P.within in
      let a : length (take n (rows_of f)) ≡ n = length-take-le n (rows_of f) w in
      let b : length (take n (rows_of f) ++ drop n (rows_of f)) ≡ length (take n (rows_of f)) + length (drop n (rows_of f)) = length-append (take n (rows_of f)) (drop n (rows_of f)) in
      let c : length (take n (rows_of f) ++ drop n (rows_of f)) ≡ length (rows_of f) = ap (λ (x : List Segment). length x) (take-append-drop n (rows_of f)) in
      omega arith)

  row_front : (i : ℕ) → i < n → row_at (rows_of f2) i ≡ row_at (rows_of f) i
  row_front i l = ap (λ (x : List Segment). get_or x i no_row) rows_are ∙ put_front (rows_of f) p.segment no_row n P.within i l

  row_here : row_at (rows_of f2) n ≡ p.segment
  row_here = ap (λ (x : List Segment). get_or x n no_row) rows_are ∙ put_here (rows_of f) p.segment no_row n P.within

  row_back : (i : ℕ) → n ≤ i → row_at (rows_of f2) (i + 1) ≡ row_at (rows_of f) i
  row_back i l = ap (λ (x : List Segment). get_or x (i + 1) no_row) rows_are ∙ put_back (rows_of f) p.segment no_row n P.within i l

  few_places : n ≤ length (addresses f)
  few_places =
      (let e : length (addresses f) ≡ length (sequence f) = length-map (sequence f) (λ (q : Placed). q.address) in
      let g : length (rows_of f) ≡ length (sequence f) = rows_length f in let w : n ≤ length (rows_of f) = P.within in omega arith)

  pub address_here : address_at f2 n ≡ p.address
  address_here = ap (λ (x : List ℕ). get_or x n 0) places_are ∙ put_here (addresses f) p.address 0 n few_places

  pub address_moved : (x : ℕ) → address_at f2 (number_after_insert n 1 x) ≡ address_at f x
  address_moved x = elim (cases_lt x n) [
    | inl l ↦ ap (address_at f2) (stays n 1 x l) ∙ ap (λ (xs : List ℕ). get_or xs x 0) places_are ∙ put_front (addresses f) p.address 0 n few_places x l
    | inr l ↦ ap (address_at f2) (rises n 1 x l) ∙ ap (λ (xs : List ℕ). get_or xs (x + 1) 0) places_are ∙ put_back (addresses f) p.address 0 n few_places x l
  ]

  -- the row behind the leaf is not below it
  none_below : level types p.segment < level_at types (rows_of f) n → ⊥
  none_below deeper =
      let R : List Segment = rows_of f2 in
      let within : n < length (rows_of f) = elim (cases_lt n (length (rows_of f))) [
        | inl l ↦ l
        | inr l ↦ absurd (let z : level_at types (rows_of f) n ≡ 0 = past_level types (rows_of f) n l in omega arith)
      ] in
      let long : length R ≡ length (rows_of f) + 1 = one_more in
      let own : level_at types R n ≡ level types p.segment = ap (level types) row_here in
      let next : level_at types R (n + 1) ≡ level_at types (rows_of f) n = ap (level types) (row_back n (omega arith)) in
      let behind : suc n ≡ n + 1 = omega arith in
      let above : parent_row types R (n + 1) ≡ Some n
      = ap (nearest_above types R (level_at types R (n + 1))) (sym behind)
      ∙ cond-true _ _ _ (lt-ltb (level_at types R n) (level_at types R (n + 1)) (omega arith)) in
      let parent : parent_of types (row_at R (n + 1)).code ≡ Some (row_at R n).code
      = sym (G2.ordered.parents (n + 1) (omega arith)) ∙ ap (option_map (λ j. (row_at R j).code)) above in
      let t : ℕ = (row_at R (n + 1)).code in
      let typed : is_child_type types (row_at R n).code t ≡ true = child_types_fit (row_at R n).code (row_at R (n + 1)) (G2.ordered.fit (n + 1) (omega arith)) parent in
      let test : is_child_row types R n t (n + 1) ≡ true
      = and_from _ _ ((option_eq-Decides _ _).1 above) (eq-eqb t t refl) in
      let found : first_from (λ j. is_child_row types R n t j) (n + 1) (length R) ≡ Some (n + 1)
      = ap (λ d. least_within (λ j. is_child_row types R n t j) d (n + 1)) (let e : length R - (n + 1) ≡ suc (length R - (n + 1) - 1) = omega arith in e)
      ∙ cond-true _ _ _ test in
      let zero_at : address_at f2 (n + 1) ≡ 0
      = sym (ap (λ (o : Option ℕ). option_map_or (λ j. address_at f2 j) o 0) found)
      ∙ sym ((G2.steps n (omega arith)).first_child t typed)
      ∙ ap (λ a. m2.first_child a t) address_here ∙ childless t in
      (let some : 0 < address_at f2 (n + 1) = (G2.addressed.there (n + 1) (omega arith)).some in omega arith)

  pub leaf_spliced : IsSpliced types (rows_of f) (rows_of f2) n 1
  leaf_spliced = record {
    front = λ x l. ap (level types) (row_front x l);
    back = λ x l. ap (level types) (row_back x l);
    deep = λ x l u. elim (cases_lt (level types p.segment) (level_at types (rows_of f) n)) [
      | inl deeper ↦ absurd (none_below deeper)
      | inr fine ↦ (let e : x ≡ n = omega arith in
          let own : level_at types (rows_of f2) x ≡ level types p.segment = ap (level_at types (rows_of f2)) e ∙ ap (level types) row_here in
          omega arith)
    ];
  }

-- ---- the laws

childless_leaf : (m : Links) (h y : ℕ) (p : Placed) (t : ℕ) → (linked m h y p).first_child p.address t ≡ 0
childless_leaf m h y p t = cond-true (p.address == p.address) 0 (cond (p.address == h && t == p.segment.code && y == 0) p.address (m.first_child p.address t)) (eq-eqb p.address p.address refl)

wider : (types : List SegmentType) (bound c : ℕ) (m : Links) → bound ≤ c → IsLinkGraph types bound m → IsLinkGraph types c m
wider types bound c m l G = record { header = G.header; header_code = G.header_code; fits = G.fits; below = λ a s. (let w : a < bound = G.below a s in omega arith) }

agrees : (types : List SegmentType) (m : Links) (a : ℕ) → AgreeAt types m m a
agrees types m a = record { here = refl; code = λ _. refl; bytes = λ _. refl; delete_byte = λ _. refl; forward = λ _. refl; backward = λ _ _. refl; first_child = λ _ _ _. refl; last_child = λ _ _ _ _. refl }

some_parent : (types : List SegmentType) (levels : Leveled types) (c : ℕ) (r : Segment) → row_fits types r ≡ true → parent_of types r.code ≡ Some c → 0 < c
some_parent types levels c r fits is = positive types c (levels.parents r c fits is)
  where
    positive : (types : List SegmentType) (c : ℕ) → 0 < level_of types c → 0 < c
    positive types zero l = absurd (omega arith)
    positive types (suc c) l = omega arith

module _ (block_size : ℕ) (frspc : FreeSpace) (types : List SegmentType) (bound : ℕ) (m : Links) (f : Forest Placed) (h y : ℕ) (p : Placed) (n : ℕ)
    (D : IsHeld block_size frspc types bound m f) (C : CanLink types m h y p) (P : LeafGoesInAt types f h y p n) where
  abbrev m2 : Links
  m2 = linked m h y p

  abbrev f2 : Forest Placed
  f2 = with_leaf h y p f

  abbrev c : ℕ
  c = bound + p.address + 1

  O : Ordered types
  O = ordered block_size frspc types D.formed

  levels : Leveled types
  levels = leveled block_size frspc types D.formed

  W : IsLinkGraph types c m
  W = wider types bound c m (omega arith) D.graph

  before : Grounds types m f
  before = grounds block_size frspc types c m f D.formed W D.holds

  after : Grounds types m2 f2
  after = (let L = leaf_held types O c m m2 W f D.holds h y p C (omega arith) (λ a. agrees types m2 a) in grounds block_size frspc types c m2 f2 D.formed L.0 L.1)

  fit : (c : ℕ) (r : Segment) → row_fits types r ≡ true → parent_of types r.code ≡ Some c → is_child_type types c r.code ≡ true
  fit c r fits is = O.child c r fits (is ∙ sym (above_some c (some_parent types levels c r fits is)))

  spliced : IsSpliced types (rows_of f) (rows_of f2) n 1
  spliced = leaf_spliced types m m2 f f2 h y p n fit before after P refl (childless_leaf m h y p)

  moved : (x : ℕ) → address_at f2 (number_after_insert n 1 x) ≡ address_at f x
  moved = address_moved types m m2 f f2 h y p n fit before after P refl (childless_leaf m h y p)

  more : length (rows_of f2) ≡ length (rows_of f) + 1
  more = one_more types m m2 f f2 h y p n fit before after P refl (childless_leaf m h y p)

  pub moves_up : MovesUp types f f2 n
  moves_up = record { paths = λ i within. path_stays types f f2 n 1 spliced moved more i; positions = stands_rises types f f2 n 1 spliced moved more }

  -- nothing depends on the leaf
  leaf_end : end_of types (rows_of f2) n ≡ n + 1
  leaf_end =
      let room : n ≤ length (rows_of f) = P.within in
      let long : length (rows_of f2) ≡ length (rows_of f) + 1 = more in
      let own : level_at types (rows_of f) n ≤ level_at types (rows_of f2) n = spliced.deep n (omega arith) (omega arith) in
      let next : level_at types (rows_of f2) (n + 1) ≡ level_at types (rows_of f) n = spliced.back n (omega arith) in
      one_end types (rows_of f2) n (end_of types (rows_of f2) n) (n + 1) (end_is types (rows_of f2) n (omega arith))
      (record { behind = omega arith; within = omega arith; deeper = λ k low high. absurd (omega arith); next = inr (omega arith) })

  pub goes_below : (lower : Placed) (k : ℕ) → LeafGoesInAt types f2 p.address 0 lower k → k ≡ n + 1
  goes_below lower k Q =
      let room : n ≤ length (rows_of f) = P.within in
      let long : length (rows_of f2) ≡ length (rows_of f) + 1 = more in
      let test : ℕ → Bool = (λ j. option_eq (λ a b. a == b) (parent_row types (rows_of f2) j) (Some n) && nat_le lower.segment.code (row_at (rows_of f2) j).code) in
      Q.first_below n (omega arith) refl (address_here types m m2 f f2 h y p n fit before after P refl (childless_leaf m h y p))
      ∙ ap (λ e. option_map_or (λ j. j) (first_from test (n + 1) e) e) leaf_end
      ∙ ap (λ d. option_map_or (λ j. j) (least_within test d (n + 1)) (n + 1)) (let none : n + 1 - (n + 1) ≡ 0 = omega arith in none)

pub linking_moves : LinkingMovesPositions
linking_moves block_size frspc types bound m f h y p n D C P = moves_up block_size frspc types bound m f h y p n D C P

pub leaves_below : LeavesGoInBelowLeaves
leaves_below block_size frspc types bound m f h y p lower n k D C P Q = goes_below block_size frspc types bound m f h y p n D C P lower k Q

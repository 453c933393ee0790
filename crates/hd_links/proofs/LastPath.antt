-- The path of the last row of a placed forest, and a row that is loaded behind it.
use Rattle.std.proofs.Common.{◌≡◌, ℕ, zero, suc, ◌+◌, ◌-◌, ◌<◌, ◌≤◌, List, [], ◌∷◌, ◌++◌, take, true, false, cond, arith, ap, sym, ◌∙◌, refl, subst, inl, inr, Option, Some, None}
use Rattle.std.specs.Prelude.{slice_get, ◌==◌, option_map}
use Rattle.std.specs.Option.{option_map_or}
use Rattle.std.proofs.lemmas.Bool.{and_parts, cases_eq, eqb-true, ne_eqb, cond-false, false≢true}
use Rattle.std.proofs.lemmas.List.{append_assoc, append-nil}
use Rattle.std.proofs.lemmas.Option.{same_Some, none-some, slice_get-map}
use Rattle.hd_dbd.specs.Types.{SegmentType}
use Rattle.hd_dbd.specs.Segment.{Segment}
use Rattle.hd_dbd.specs.Hierarchy.{parent_of, level_of}
use Rattle.hd_dbd.specs.Rows.{level, row_fits, is_below, may_follow, siblings_in_order}
use Rattle.hd_dbd.specs.Loads.{load_fault}
use Rattle.hd_dbd.specs.Forest.{Forest, empty, node, sequence}
use Rattle.hd_dbd.proofs.LevelLaw.{Leveled, depth_below}
use Rattle.hd_dbd.proofs.Loading.{OnLevels, may_load}
use Rattle.hd_links.specs.Links.{Links, IsLinkGraph, is_child_type}
use Rattle.hd_links.specs.Placed.{Placed, count, first_of, nowhere, with_node, NodesLie, NodeLies, NamesChildren, Holds}
use Rattle.hd_links.specs.Pointers.{IsInChain}
use Rattle.hd_links.specs.Changes.{twin_behind, put_first, put_behind, change_below, with_leaf, CanLink}
use Rattle.hd_links.specs.LastRows.{last_on, roots_of, segments_of, parent_on_path, twin_on_path, IsLoadedLast}
use Rattle.hd_links.proofs.Types.{Ordered, above, above_some, code_some}
use Rattle.hd_links.proofs.Forms.{Formed, formed, segment_is}
use Rattle.hd_links.proofs.Counts.{is_at, one_at}
use Rattle.hd_links.proofs.Joins.{sequence_join}
use Rattle.hd_links.proofs.Lift.{at_own, opened, below_none, at_most_once}
use Rattle.hd_links.proofs.LastRows.{with_last, Ending, ending}

-- ---- a place of the path

-- the nodes below the row at a place of the last row's path
abbrev pub below_at : Forest Placed → ℕ → Forest Placed
below_at empty d = empty
below_at (node r k empty) zero = k
below_at (node r k empty) (suc d) = below_at k d
below_at (node r k (node s u v)) d = below_at (node s u v) d

-- The row q, at the place d, lies with nothing behind it, and the path goes on through the nodes below it.
record OnPath (types : List SegmentType) (m : Links) (f : Forest Placed) (d : ℕ) (q : Placed) : Type 0 where
  table : ℕ → ℕ
  lies : NodeLies types m table q (below_at f d) empty
  stand : NodesLie types m nowhere (below_at f d)
  form : Formed types q.segment.code (below_at f d)
  part : (a : ℕ) → is_at q.address a + count a (below_at f d) ≤ count a f
  next : slice_get (last_on (below_at f d)) 0 ≡ slice_get (last_on f) (suc d)

-- each row of the path is such a row
on_path : (types : List SegmentType) (m : Links) (c : ℕ) (b : ℕ → ℕ) (f : Forest Placed) (d : ℕ) (q : Placed) → NodesLie types m b f → Formed types c f → slice_get (last_on f) d ≡ Some q
    → OnPath types m f d q
on_path types m c b empty d q s F at = absurd (none-some q at)
on_path types m c b (node r k empty) zero q s F at =
    subst (λ (x : Placed). OnPath types m (node r k empty) 0 x) (same_Some r q at)
    (record { table = b; lies = s.0; stand = s.1; form = F.2; part = λ a. omega arith; next = refl })
on_path types m c b (node r k empty) (suc d) q s F at =
    let D : OnPath types m k d q = on_path types m r.segment.code nowhere k d q s.1 F.2 at in
    record {
      table = D.table;
      lies = D.lies;
      stand = D.stand;
      form = D.form;
      part = λ a. (let i : is_at q.address a + count a (below_at k d) ≤ count a k = D.part a in omega arith);
      next = D.next;
    }
on_path types m c b (node r k (node t u v)) d q s F at =
    let D : OnPath types m (node t u v) d q = on_path types m c (with_node b r) (node t u v) d q s.2 F.3 at in
    record {
      table = D.table;
      lies = D.lies;
      stand = D.stand;
      form = D.form;
      part = λ a. (let i : is_at q.address a + count a (below_at (node t u v) d) ≤ count a (node t u v) = D.part a in omega arith);
      next = D.next;
    }

-- a row of the path is a node
path_counts : (f : Forest Placed) (d : ℕ) (q : Placed) → slice_get (last_on f) d ≡ Some q → 0 < count q.address f
path_counts empty d q at = absurd (none-some q at)
path_counts (node r k empty) zero q at =
    (let own : is_at r.address q.address ≡ 1 = one_at r.address q.address (ap (λ (x : Placed). x.address) (same_Some r q at)) in omega arith)
path_counts (node r k empty) (suc d) q at = (let i : 0 < count q.address k = path_counts k d q at in omega arith)
path_counts (node r k (node t u v)) d q at = (let i : 0 < count q.address (node t u v) = path_counts (node t u v) d q at in omega arith)

-- ---- a leaf at the end

-- the leaf is the last row, and has no parent among these nodes
last_on_with : (p : Placed) (K : Forest Placed) → last_on (with_last p K) ≡ p ∷ []
last_on_with p empty = refl
last_on_with p (node r k empty) = refl
last_on_with p (node r k (node s u v)) = last_on_with p (node s u v)

-- and it is the last of them
roots_with : (p : Placed) (K : Forest Placed) → roots_of (with_last p K) ≡ roots_of K ++ p ∷ []
roots_with p empty = refl
roots_with p (node r k n) = ap (λ (x : List Placed). r ∷ x) (roots_with p n)

module _ (h : ℕ) (g : Forest Placed → Forest Placed) where
  -- no root goes
  below_roots : (f : Forest Placed) → roots_of (change_below h g f) ≡ roots_of f
  below_roots empty = refl
  below_roots (node r k n) = elim (cases_eq r.address h) [
    | inl e ↦ ap roots_of (at_own h g r k n e)
    | inr ne ↦ ap roots_of (opened h g r k n ne) ∙ ap (λ (x : List Placed). r ∷ x) (below_roots n)
  ]

  -- the last row of nodes that are changed is the last row with those before them
  last_later : (r s : Placed) (k u v : Forest Placed) → last_on (node r k (change_below h g (node s u v))) ≡ last_on (change_below h g (node s u v))
  last_later r s k u v = elim (cases_eq s.address h) [
    | inl e ↦ ap (λ (x : Forest Placed). last_on (node r k x)) (at_own h g s u v e) ∙ sym (ap last_on (at_own h g s u v e))
    | inr ne ↦ ap (λ (x : Forest Placed). last_on (node r k x)) (opened h g s u v ne) ∙ sym (ap last_on (opened h g s u v ne))
  ]

  -- What is known of a forest whose rows end with a new leaf, below the row at the place d.
  record Longer (p : Placed) (f : Forest Placed) (d : ℕ) : Type 0 where
    rows : sequence (change_below h g f) ≡ sequence f ++ p ∷ []
    last : last_on (change_below h g f) ≡ take (suc d) (last_on f) ++ p ∷ []

  -- a leaf that goes in at the end of the nodes below the row at h comes last
  longer : (p q : Placed) (f : Forest Placed) (d : ℕ) → slice_get (last_on f) d ≡ Some q → q.address ≡ h → count h f ≤ 1 → g (below_at f d) ≡ with_last p (below_at f d) → Longer p f d
  longer p q empty d at is once new = absurd (none-some q at)
  longer p q (node r k empty) zero at is once new =
      let whole : change_below h g (node r k empty) ≡ node r (with_last p k) empty
      = at_own h g r k empty (ap (λ (x : Placed). x.address) (same_Some r q at) ∙ is) ∙ ap (λ (x : Forest Placed). node r x empty) new in
      record {
        rows = ap sequence whole ∙ ap (λ (x : List Placed). r ∷ x)
            (append-nil (sequence (with_last p k)) ∙ sequence_join k (node p empty empty) ∙ ap (λ (x : List Placed). x ++ p ∷ []) (sym (append-nil (sequence k))));
        last = ap last_on whole ∙ ap (λ (x : List Placed). r ∷ x) (last_on_with p k);
      }
  longer p q (node r k empty) (suc d) at is once new =
      let there : 0 < count h k = subst (λ (a : ℕ). 0 < count a k) is (path_counts k d q at) in
      let other : r.address ≡ h → ⊥ = (λ e. (let own : is_at r.address h ≡ 1 = one_at r.address h e in omega arith)) in
      let whole : change_below h g (node r k empty) ≡ node r (change_below h g k) empty = opened h g r k empty other in
      let D : Longer p k d = longer p q k d at is (omega arith) new in
      record {
        rows = ap sequence whole ∙ ap (λ (x : List Placed). r ∷ x)
            (append-nil (sequence (change_below h g k)) ∙ D.rows ∙ ap (λ (x : List Placed). x ++ p ∷ []) (sym (append-nil (sequence k))));
        last = ap last_on whole ∙ ap (λ (x : List Placed). r ∷ x) D.last;
      }
  longer p q (node r k (node s u v)) d at is once new =
      let there : 0 < count h (node s u v) = subst (λ (a : ℕ). 0 < count a (node s u v)) is (path_counts (node s u v) d q at) in
      let other : r.address ≡ h → ⊥ = (λ e. (let own : is_at r.address h ≡ 1 = one_at r.address h e in omega arith)) in
      let whole : change_below h g (node r k (node s u v)) ≡ node r k (change_below h g (node s u v))
      = opened h g r k (node s u v) other ∙ ap (λ (x : Forest Placed). node r x (change_below h g (node s u v))) (below_none h g k (omega arith)) in
      let D : Longer p (node s u v) d = longer p q (node s u v) d at is (omega arith) new in
      record {
        rows = ap sequence whole ∙ ap (λ (x : List Placed). r ∷ x)
            (ap (λ (x : List Placed). sequence k ++ x) D.rows ∙ sym (append_assoc (sequence k) (sequence (node s u v)) (p ∷ [])));
        last = ap last_on whole ∙ last_later r s k u v ∙ D.last;
      }

-- the leaf may be linked at the end of the nodes below h
may_link : (types : List SegmentType) (m : Links) (h y : ℕ) (p : Placed) (K : Forest Placed) → m.here h ≡ true → is_child_type types (m.code h) p.segment.code ≡ true → row_fits types p.segment ≡ true
    → m.here p.address ≡ false → NamesChildren types m (m.code h) h K → Ending types m K y p → CanLink types m h y p
may_link types m h y p K here typed fits free named E =
    let first : m.first_child h p.segment.code ≡ first_of K p.segment.code = named.first p.segment.code typed in
    let none : twin_behind m h p.segment.code y ≡ 0 = ap (λ (x : ℕ). cond (y == 0) x (m.forward y)) first ∙ E.behind in
    record {
      parent = here;
      typed = typed;
      fits = fits;
      free = free;
      twin = λ some. subst (λ (x : ℕ). IsInChain m x y) (sym first) (E.twin some);
      before = E.before;
      behind = λ some. absurd (omega arith);
    }

-- what is asked of a row's segment
segment_asked : {A : Type 0} (ask : Segment → A) (d : A) (o : Option Placed) → option_map_or (λ s. ask s) (option_map (λ (q : Placed). q.segment) o) d ≡ option_map_or (λ (q : Placed). ask q.segment) o d
segment_asked ask d None = refl
segment_asked ask d (Some q) = refl

module _ (types : List SegmentType) (O : Ordered types) (leveled : Leveled types) (bound : ℕ) (m : Links) (G : IsLinkGraph types bound m) where
  -- a row that lies fits
  row_has : (b : ℕ → ℕ) (r : Placed) (k n : Forest Placed) → NodeLies types m b r k n → row_fits types r.segment ≡ true
  row_has b r k n lies = ap (row_fits types) (sym (segment_is types m b r k n lies)) ∙ G.fits r.address lies.there

  -- its level is one below the parent's
  node_level : (c : ℕ) (b : ℕ → ℕ) (r : Placed) (k n : Forest Placed) → NodesLie types m b (node r k n) → Formed types c (node r k n) → level types r.segment ≡ depth_below types (above c) + 1
  node_level c b r k n s F =
      leveled.law r.segment (row_has b r k n s.0) ∙ ap (λ (o : Option ℕ). depth_below types o + 1) (O.parent c r.segment (row_has b r k n s.0) F.0)

  -- each row of the path has the level of its place
  path_level : (c : ℕ) (b : ℕ → ℕ) (f : Forest Placed) → NodesLie types m b f → Formed types c f → (i : ℕ) (q : Segment) → slice_get (segments_of (last_on f)) i ≡ Some q
      → level types q ≡ depth_below types (above c) + (i + 1)
  path_level c b empty s F i q at = absurd (none-some q at)
  path_level c b (node r k empty) s F zero q at = sym (ap (λ (x : Segment). level types x) (same_Some r.segment q at)) ∙ node_level c b r k empty s F
  path_level c b (node r k empty) s F (suc i) q at =
      let top : level types r.segment ≡ depth_below types (above c) + 1 = node_level c b r k empty s F in
      let own : depth_below types (above r.segment.code) ≡ level types r.segment
      = ap (λ (o : Option ℕ). depth_below types o) (above_some r.segment.code (code_some types r.segment (row_has b r k empty s.0))) in
      let rest : level types q ≡ depth_below types (above r.segment.code) + (i + 1) = path_level r.segment.code nowhere k s.1 F.2 i q at in
      omega arith
  path_level c b (node r k (node t u v)) s F i q at = path_level c (with_node b r) (node t u v) s.2 F.3 i q at

  module _ (f : Forest Placed) (H : Holds types m f) (p : Placed) (fits : row_fits types p.segment ≡ true) (may : load_fault types (segments_of (last_on f)) p.segment ≡ None)
      (free : m.here p.address ≡ false) where
    -- the forest is formed
    whole_formed : Formed types 0 f
    whole_formed = formed types O 0 None f H.fits

    -- each row of the last row's path has the level of its place
    on_levels : OnLevels types (segments_of (last_on f))
    on_levels i q at = (let own : level types q ≡ 0 + (i + 1) = path_level 0 nowhere f H.lies.nodes whole_formed i q at in omega arith)

    -- the row may follow that path
    follows : may_follow types (segments_of (last_on f)) p.segment ≡ true
    follows = (may_load types leveled (segments_of (last_on f)) p.segment on_levels fits).0 may

    -- its parent's type is at its place
    below_parent : is_below types (segments_of (last_on f)) p.segment ≡ true
    below_parent = (and_parts _ _ (and_parts _ _ follows).0).1

    -- and it is in order behind the row at its own level
    in_order : option_map_or (λ (q : Placed). siblings_in_order types q.segment p.segment) (slice_get (last_on f) (level types p.segment - 1)) true ≡ true
    in_order =
        sym (segment_asked (λ (s : Segment). siblings_in_order types s p.segment) true (slice_get (last_on f) (level types p.segment - 1)))
        ∙ ap (λ (o : Option Segment). option_map_or (λ s. siblings_in_order types s p.segment) o true)
        (sym (slice_get-map (λ (q : Placed). q.segment) (last_on f) (level types p.segment - 1)))
        ∙ (and_parts _ _ follows).1

    -- the twin behind which it goes in, and what it changes
    abbrev pub twin : ℕ
    twin = twin_on_path types (last_on f) p.segment

    abbrev change : Forest Placed → Forest Placed
    change = cond (twin == 0) (put_first p) (put_behind twin p)

    -- where the nodes below its parent end on the path, it goes in at their end
    ends : (c : ℕ) (K : Forest Placed) → NodesLie types m nowhere K → Formed types c K → ((a : ℕ) → count a K ≤ 1)
        → slice_get (last_on K) 0 ≡ slice_get (last_on f) (level types p.segment - 1) → Ending types m K twin p
    ends c K stand form once at =
        ending types m c nowhere K (twin_on_path types (last_on f) p.segment) p stand form once (slice_get (last_on f) (level types p.segment - 1)) at refl in_order

    -- a root
    loaded_root : parent_of types p.segment.code ≡ None → IsLoadedLast types m f 0 twin p
    loaded_root is =
        let lowest : level types p.segment ≡ 1 = leveled.law p.segment fits ∙ ap (λ (o : Option ℕ). depth_below types o + 1) is in
        let place : level types p.segment - 1 ≡ 0 = omega arith in
        let E : Ending types m f twin p
        = ends 0 f H.lies.nodes whole_formed (at_most_once types m f H) (ap (λ (n : ℕ). slice_get (last_on f) n) (sym place)) in
        let typed : is_child_type types 0 p.segment.code ≡ true = O.child 0 p.segment fits is in
        let leaf : with_leaf 0 twin p f ≡ with_last p f = E.new in
        record {
          may = may_link types m 0 twin p f G.header (ap (λ (c : ℕ). is_child_type types c p.segment.code) G.header_code ∙ typed) fits free
              (subst (λ (c : ℕ). NamesChildren types m c 0 f) (sym G.header_code) H.lies.roots) E;
          rows = ap sequence leaf ∙ sequence_join f (node p empty empty);
          roots = ap roots_of leaf ∙ roots_with p f;
          last = ap last_on leaf ∙ last_on_with p f ∙ ap (λ (n : ℕ). take n (last_on f) ++ p ∷ []) (sym place);
        }

    -- below a row of the path
    loaded_below : (q : Placed) → slice_get (last_on f) (level types p.segment - 2) ≡ Some q → parent_of types p.segment.code ≡ Some q.segment.code → IsLoadedLast types m f q.address twin p
    loaded_below q at is =
        let parent_level : 0 < level_of types q.segment.code = leveled.parents p.segment q.segment.code fits is in
        let own_level : level types p.segment ≡ level_of types q.segment.code + 1
        = leveled.law p.segment fits ∙ ap (λ (o : Option ℕ). depth_below types o + 1) is in
        let place : level types p.segment - 1 ≡ suc (level types p.segment - 2) = omega arith in
        let d : ℕ = level types p.segment - 2 in
        let D : OnPath types m f d q = on_path types m 0 nowhere f d q H.lies.nodes whole_formed at in
        let K : Forest Placed = below_at f d in
        let E : Ending types m K twin p
        = ends q.segment.code K D.stand D.form
        (λ a. (let i : is_at q.address a + count a K ≤ count a f = D.part a in let o : count a f ≤ 1 = at_most_once types m f H a in omega arith))
        (D.next ∙ ap (λ (n : ℕ). slice_get (last_on f) n) (sym place)) in
        let child : is_child_type types q.segment.code p.segment.code ≡ true
        = O.child q.segment.code p.segment fits (is ∙ sym (above_some q.segment.code (code_some types q.segment (row_has D.table q K empty D.lies)))) in
        let typed : is_child_type types (m.code q.address) p.segment.code ≡ true = ap (λ (c : ℕ). is_child_type types c p.segment.code) D.lies.code ∙ child in
        let some : q.address ≡ 0 → ⊥ = (λ (e : q.address ≡ 0). (let i : 0 < q.address = D.lies.there.some in omega arith)) in
        let leaf : with_leaf q.address twin p f ≡ change_below q.address change f
        = cond-false (q.address == 0) (change f) (change_below q.address change f) (ne_eqb q.address 0 some) in
        let L : Longer q.address change p f d = longer q.address change p q f d at refl (at_most_once types m f H q.address) E.new in
        record {
          may = may_link types m q.address twin p K D.lies.there.here typed fits free
              (subst (λ (c : ℕ). NamesChildren types m c q.address K) (sym D.lies.code) D.lies.children) E;
          rows = ap sequence leaf ∙ L.rows;
          roots = ap roots_of leaf ∙ below_roots q.address change f ∙ sym (cond-false (q.address == 0) (roots_of f ++ p ∷ []) (roots_of f) (ne_eqb q.address 0 some));
          last = ap last_on leaf ∙ L.last ∙ ap (λ (n : ℕ). take n (last_on f) ++ p ∷ []) (sym place);
        }

    -- by the parent's type
    pub loaded : (parent : Option ℕ) → parent_of types p.segment.code ≡ parent → IsLoadedLast types m f (parent_on_path types (last_on f) p.segment) twin p
    loaded None is =
        subst (λ (h : ℕ). IsLoadedLast types m f h twin p)
        (sym (ap (λ (o : Option ℕ). option_map_or (λ _. option_map_or (λ q. q.address) (slice_get (last_on f) (level types p.segment - 2)) 0) o 0) is))
        (loaded_root is)
    loaded (Some c) is = at_parent (slice_get (last_on f) (level types p.segment - 2)) refl
      where
        found : option_map_or (λ (q : Placed). q.segment.code == c) (slice_get (last_on f) (level types p.segment - 2)) false ≡ true
        found =
            sym (segment_asked (λ (s : Segment). s.code == c) false (slice_get (last_on f) (level types p.segment - 2)))
            ∙ ap (λ (o : Option Segment). option_map_or (λ s. s.code == c) o false) (sym (slice_get-map (λ (q : Placed). q.segment) (last_on f) (level types p.segment - 2)))
            ∙ sym (ap (λ (o : Option ℕ). option_map_or (λ b. option_map_or (λ s. s.code == b) (slice_get (segments_of (last_on f)) (level types p.segment - 2)) false) o true) is)
            ∙ below_parent

        at_parent : (o : Option Placed) → slice_get (last_on f) (level types p.segment - 2) ≡ o → IsLoadedLast types m f (parent_on_path types (last_on f) p.segment) twin p
        at_parent None at = absurd (false≢true (sym (ap (λ (o : Option Placed). option_map_or (λ q. q.segment.code == c) o false) at) ∙ found))
        at_parent (Some q) at =
            let code : q.segment.code ≡ c = eqb-true q.segment.code c (sym (ap (λ (o : Option Placed). option_map_or (λ x. x.segment.code == c) o false) at) ∙ found) in
            subst (λ (h : ℕ). IsLoadedLast types m f h twin p)
            (sym (ap (λ (o : Option ℕ). option_map_or (λ _. option_map_or (λ x. x.address) (slice_get (last_on f) (level types p.segment - 2)) 0) o 0) is
            ∙ ap (λ (o : Option Placed). option_map_or (λ x. x.address) o 0) at))
            (loaded_below q at (is ∙ ap (λ (n : ℕ). Some n) (sym code)))

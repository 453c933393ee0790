-- Where a row of a held forest stands: its path, what is behind it, and the pointers that lead there.
use Rattle.std.proofs.Common.{◌≡◌, ℕ, zero, suc, ◌+◌, ◌-◌, ◌<◌, ◌≤◌, List, [], ◌∷◌, ◌++◌, length, true, arith, ap, ap₂, sym, ◌∙◌, refl, subst, inl, inr, Option, Some, None}
use Rattle.std.specs.Prelude.{◌==◌, nat_lt, map}
use Rattle.std.proofs.lemmas.Bool.{cases_eq, cases_lt, cases_Bool, eq-eqb, ne_eqb, cond-true, cond-false, lt-ltb, false≢true}
use Rattle.std.proofs.lemmas.List.{append_assoc, append-nil, length-append}
use Rattle.hd_dbd.specs.Types.{SegmentType}
use Rattle.hd_dbd.specs.Rows.{level, row_fits}
use Rattle.hd_dbd.specs.Paths.{row_at, level_at, nearest_above, path_above, path_of, parent_row}
use Rattle.hd_dbd.specs.Forest.{Forest, empty, node, sequence}
use Rattle.hd_dbd.proofs.LevelLaw.{Leveled, depth_below}
use Rattle.hd_links.specs.Links.{Links, IsLinkGraph, child_types, is_child_type}
use Rattle.hd_links.specs.Placed.{Placed, first_of, nowhere, with_node, NodesLie, Holds}
use Rattle.hd_links.specs.Pointers.{IsInChain}
use Rattle.hd_links.specs.Steps.{rows_of, address_at, first_some, child_among, later_than, behind_child, behind_from, tip_from, LeadsDown}
use Rattle.hd_links.proofs.Types.{Ordered, above, above_some, code_some}
use Rattle.hd_links.proofs.Forms.{Formed, is_behind, none_of, formed, follows_code, segment_is}
use Rattle.hd_links.proofs.Numbers.{map_end, rows_length, head_at, row_is, address_is, AllDeeper, deeper_both, skip_path, skip_nearest}
use Rattle.hd_links.proofs.Ways.{some_both, first_behind, tip_end, behind_end, leads_end, chain_more, head_both}

-- the first of these rows is on this level or above it
abbrev pub UpTo : List SegmentType → ℕ → List Placed → Type 0
UpTo types l [] = Unit {0}
UpTo types l (p ∷ ps) = level types p.segment ≤ l

-- the first of these siblings has this code or a greater one
abbrev pub AtLeast : ℕ → Forest Placed → Type 0
AtLeast c empty = Unit {0}
AtLeast c (node r k n) = c ≤ r.segment.code

-- Row number n and those behind it begin with the siblings g, below the record h with the path P and the number q; all
-- of types up to `passed` stand before them, and the rest stands behind what depends on h.
pub record Siblings (types : List SegmentType) (m : Links) (f : Forest Placed) (n : ℕ) (P : List ℕ) (q : Option ℕ) (h : ℕ) (b : ℕ → ℕ) (g : Forest Placed) (rest : List Placed) : Type 0 where
  pub front : List Placed
  pub whole : sequence f ≡ front ++ (sequence g ++ rest)
  pub number : length front ≡ n
  pub here : m.here h ≡ true
  pub stand : NodesLie types m b g
  pub formed : Formed types (m.code h) g
  pub tip : tip_from 0 (map (λ k. address_at f k) P) ≡ h
  pub down : LeadsDown types m 0 (map (λ k. address_at f k) P)
  pub depth : depth_below types (above (m.code h)) ≡ length P
  pub path : path_above types (rows_of f) (length P + 1) n ≡ P
  pub nearest : nearest_above types (rows_of f) (length P + 1) n ≡ q
  pub before : (k : ℕ) → q ≡ Some k → k < n
  pub passed : ℕ
  pub least : AtLeast passed g
  pub named : (t : ℕ) → passed < t → is_child_type types (m.code h) t ≡ true → first_of g t ≡ m.first_child h t
  pub chained : (t : ℕ) → 0 < first_of g t → IsInChain m (m.first_child h t) (first_of g t)
  pub behind : behind_from types m 0 0 (map (λ k. address_at f k) P) ≡ head_at rest
  pub shallow : UpTo types (length P) rest

module _ (types : List SegmentType) (O : Ordered types) (leveled : Leveled types) (bound : ℕ) (m : Links) (G : IsLinkGraph types bound m) (f : Forest Placed) (H : Holds types m f) where
  -- a sibling fits, and its level is one below the parent's
  fits_row : (b : ℕ → ℕ) (r : Placed) (k g : Forest Placed) → NodesLie types m b (node r k g) → row_fits types r.segment ≡ true
  fits_row b r k g s = ap (row_fits types) (sym (segment_is types m b r k g s.0)) ∙ G.fits r.address s.0.there

  sibling_level : (c : ℕ) (b : ℕ → ℕ) (r : Placed) (k g : Forest Placed) → NodesLie types m b (node r k g) → Formed types c (node r k g)
      → level types r.segment ≡ depth_below types (above c) + 1
  sibling_level c b r k g s F =
      leveled.law r.segment (fits_row b r k g s)
      ∙ ap (λ (o : Option ℕ). depth_below types o + 1) (O.parent c r.segment (fits_row b r k g s) F.0)

  below_level : (b : ℕ → ℕ) (r : Placed) (k g : Forest Placed) → NodesLie types m b (node r k g) → depth_below types (above r.segment.code) ≡ level types r.segment
  below_level b r k g s = ap (λ (o : Option ℕ). depth_below types o) (above_some r.segment.code (code_some types r.segment (fits_row b r k g s)))

  pub all_deeper : (l c : ℕ) (b : ℕ → ℕ) (g : Forest Placed) → NodesLie types m b g → Formed types c g → l ≤ depth_below types (above c) → AllDeeper types l (sequence g)
  all_deeper l c b empty s F d = tt
  all_deeper l c b (node r k g) s F d =
      let lv : level types r.segment ≡ depth_below types (above c) + 1 = sibling_level c b r k g s F in
      let dl : depth_below types (above r.segment.code) ≡ level types r.segment = below_level b r k g s in (
        (omega arith),
        deeper_both types l (sequence k) (sequence g) (all_deeper l r.segment.code nowhere k s.1 F.2 (omega arith)) (all_deeper l c (with_node b r) g s.2 F.3 d),
      )

  pub at_start : Siblings types m f 0 [] None 0 nowhere f []
  at_start = record {
    front = [];
    whole = sym (append-nil (sequence f));
    number = refl;
    here = G.header;
    stand = H.lies.nodes;
    formed = subst (λ x. Formed types x f) (sym G.header_code) (formed types O 0 None f H.fits);
    tip = refl;
    down = tt;
    depth = ap (λ c. depth_below types (above c)) G.header_code;
    path = refl;
    nearest = refl;
    before = λ k e. cc;
    passed = 0;
    least = at_least f;
    named = λ t l q. sym (H.lies.roots.first t (ap (λ x. is_child_type types x t) (sym G.header_code) ∙ q));
    chained = λ t some. elim (cases_Bool (is_child_type types 0 t)) [
      | inl q ↦ (0, (subst (λ x. 0 < x) (sym (H.lies.roots.first t q)) some, H.lies.roots.first t q))
      | inr q ↦ absurd (let z : first_of f t ≡ 0 = none_of types 0 t f (formed types O 0 None f H.fits) (λ w. false≢true (sym q ∙ w)) in omega arith)
    ];
    behind = refl;
    shallow = tt;
  }
    where
      at_least : (g : Forest Placed) → AtLeast 0 g
      at_least empty = tt
      at_least (node r k g) = omega arith

  module _ (n : ℕ) (P : List ℕ) (q : Option ℕ) (h : ℕ) (b : ℕ → ℕ) (r : Placed) (k g : Forest Placed) (rest : List Placed) (S : Siblings types m f n P q h b (node r k g) rest) where
    pub own_whole : sequence f ≡ S.front ++ (r ∷ ((sequence k ++ sequence g) ++ rest))
    own_whole = S.whole

    pub own_row : row_at (rows_of f) n ≡ r.segment
    own_row = row_is f S.front r ((sequence k ++ sequence g) ++ rest) n own_whole S.number

    pub own_address : address_at f n ≡ r.address
    own_address = address_is f S.front (r ∷ ((sequence k ++ sequence g) ++ rest)) n own_whole S.number

    pub own_level : level_at types (rows_of f) n ≡ length P + 1
    own_level = ap (level types) own_row ∙ sibling_level (m.code h) b r k g S.stand S.formed ∙ ap (λ x. x + 1) S.depth

    pub own_path : path_of types (rows_of f) n ≡ P ++ n ∷ []
    own_path = ap (λ (x : List ℕ). x ++ n ∷ []) (ap (λ l. path_above types (rows_of f) l n) own_level ∙ S.path)

    pub own_parent : parent_row types (rows_of f) n ≡ q
    own_parent = ap (λ l. nearest_above types (rows_of f) l n) own_level ∙ S.nearest

    pub own_addresses : map (λ j. address_at f j) (P ++ n ∷ []) ≡ map (λ j. address_at f j) P ++ r.address ∷ []
    own_addresses = map_end (λ j. address_at f j) P n ∙ ap (λ a. map (λ j. address_at f j) P ++ a ∷ []) own_address

    pub own_code : m.code r.address ≡ r.segment.code
    own_code = S.stand.0.code

    own_child : is_child_type types (m.code h) (m.code r.address) ≡ true
    own_child = ap (is_child_type types (m.code h)) own_code ∙ S.formed.0

    own_first : first_of (node r k g) r.segment.code ≡ r.address
    own_first = cond-true _ _ _ (eq-eqb r.segment.code r.segment.code refl)

    own_chain : IsInChain m (m.first_child h r.segment.code) r.address
    own_chain = subst (IsInChain m (m.first_child h r.segment.code)) own_first (S.chained r.segment.code (subst (λ x. 0 < x) (sym own_first) S.stand.0.there.some))

    pub own_down : LeadsDown types m 0 (map (λ j. address_at f j) (P ++ n ∷ []))
    own_down = subst (LeadsDown types m 0) (sym own_addresses)
        (leads_end types m 0 (map (λ j. address_at f j) P) r.address S.down
        (subst (λ x. is_child_type types (m.code x) (m.code r.address) ≡ true) (sym S.tip) own_child)
        (subst (λ x. IsInChain m (m.first_child x (m.code r.address)) r.address) (sym S.tip)
        (subst (λ x. IsInChain m (m.first_child h x) r.address) (sym own_code) own_chain)))

    pub own_tip : tip_from 0 (map (λ j. address_at f j) (P ++ n ∷ [])) ≡ r.address
    own_tip = ap (tip_from 0) own_addresses ∙ tip_end 0 (map (λ j. address_at f j) P) r.address

    -- later siblings are what their parent names
    pub later_named : (t : ℕ) → r.segment.code < t → is_child_type types (m.code h) t ≡ true → first_of g t ≡ m.first_child h t
    later_named t l c =
        let le : S.passed ≤ r.segment.code = S.least in
        sym (cond-false (r.segment.code == t) r.address (first_of g t) (ne_eqb r.segment.code t (λ (e : r.segment.code ≡ t). omega arith))) ∙ S.named t (omega arith) c

    -- what follows the span of the row, by pointers
    pub own_behind : behind_from types m 0 0 (map (λ j. address_at f j) (P ++ n ∷ [])) ≡ head_at (sequence g ++ rest)
    own_behind =
        ap (behind_from types m 0 0) own_addresses
        ∙ behind_end types m 0 0 (map (λ j. address_at f j) P) r.address
        ∙ ap₂ (λ x y. behind_child types m x y r.address) S.tip S.behind
        ∙ some_both (m.forward r.address) (child_among m h (later_than (m.code r.address) (child_types types (m.code h)))) (head_at rest)
        ∙ ap (λ c. first_some (first_some (m.forward r.address) (child_among m h (later_than c (child_types types (m.code h))))) (head_at rest)) own_code
        ∙ ap (λ x. first_some x (head_at rest)) (first_behind types m O.ascending (m.code h) h b r k g S.stand S.formed later_named)
        ∙ head_both types m (with_node b r) g rest S.stand.2

    span_whole : sequence f ≡ (S.front ++ r ∷ []) ++ (sequence k ++ (sequence g ++ rest))
    span_whole =
        own_whole ∙ sym (append_assoc S.front (r ∷ []) ((sequence k ++ sequence g) ++ rest))
        ∙ ap (λ (x : List Placed). (S.front ++ r ∷ []) ++ x) (append_assoc (sequence k) (sequence g) rest)

    -- the children of the row
    pub children_at : Siblings types m f (n + 1) (P ++ n ∷ []) (Some n) r.address nowhere k (sequence g ++ rest)
    children_at =
        let more : length (P ++ n ∷ []) ≡ length P + 1 = length-append P (n ∷ []) in
        let high : level_at types (rows_of f) n ≡ length P + 1 = own_level in
        let above_n : nat_lt (level_at types (rows_of f) n) (length (P ++ n ∷ []) + 1) ≡ true = lt-ltb (level_at types (rows_of f) n) (length (P ++ n ∷ []) + 1) (omega arith) in
        let next : n + 1 ≡ suc n = omega arith in
        record {
          front = S.front ++ r ∷ [];
          whole = span_whole;
          number = length-append S.front (r ∷ []) ∙ ap (λ x. x + 1) S.number;
          here = S.stand.0.there.here;
          stand = S.stand.1;
          formed = subst (λ x. Formed types x k) (sym own_code) S.formed.2;
          tip = own_tip;
          down = own_down;
          depth = ap (λ x. depth_below types (above x)) own_code ∙ below_level b r k g S.stand
              ∙ sibling_level (m.code h) b r k g S.stand S.formed ∙ ap (λ x. x + 1) S.depth ∙ sym more;
          path = ap (path_above types (rows_of f) (length (P ++ n ∷ []) + 1)) next
              ∙ cond-true (nat_lt (level_at types (rows_of f) n) (length (P ++ n ∷ []) + 1))
              (path_above types (rows_of f) (level_at types (rows_of f) n) n ++ n ∷ []) (path_above types (rows_of f) (length (P ++ n ∷ []) + 1) n) above_n
              ∙ own_path;
          nearest = ap (nearest_above types (rows_of f) (length (P ++ n ∷ []) + 1)) next
              ∙ cond-true (nat_lt (level_at types (rows_of f) n) (length (P ++ n ∷ []) + 1)) (Some n) (nearest_above types (rows_of f) (length (P ++ n ∷ []) + 1) n) above_n;
          before = λ j e. (let same : n ≡ j = cc in omega arith);
          passed = 0;
          least = at_least k;
          named = λ t l c. sym (S.stand.0.children.first t (ap (λ x. is_child_type types x t) (sym own_code) ∙ c));
          chained = λ t some. elim (cases_Bool (is_child_type types r.segment.code t)) [
            | inl c ↦ (0, (subst (λ x. 0 < x) (sym (S.stand.0.children.first t c)) some, S.stand.0.children.first t c))
            | inr c ↦ absurd (let z : first_of k t ≡ 0 = none_of types r.segment.code t k S.formed.2 (λ w. false≢true (sym c ∙ w)) in omega arith)
          ];
          behind = own_behind;
          shallow = head_level g S.stand.2 S.formed.3 rest S.shallow more;
        }
      where
        at_least : (x : Forest Placed) → AtLeast 0 x
        at_least empty = tt
        at_least (node s k2 n2) = omega arith

        head_level : (x : Forest Placed) → NodesLie types m (with_node b r) x → Formed types (m.code h) x → (xs : List Placed) → UpTo types (length P) xs → length (P ++ n ∷ []) ≡ length P + 1
            → UpTo types (length (P ++ n ∷ [])) (sequence x ++ xs)
        head_level empty s F [] u e = tt
        head_level empty s F (p ∷ ps) u e = omega arith
        head_level (node t k2 n2) s F xs u e =
            (let lv : level types t.segment ≡ depth_below types (above (m.code h)) + 1 = sibling_level (m.code h) (with_node b r) t k2 n2 s F in
            let d : depth_below types (above (m.code h)) ≡ length P = S.depth in omega arith)

    -- the siblings behind the row
    pub siblings_at : Siblings types m f (n + 1 + length (sequence k)) P q h (with_node b r) g rest
    siblings_at =
        let d : depth_below types (above (m.code h)) ≡ length P = S.depth in
        let lv : level types r.segment ≡ depth_below types (above (m.code h)) + 1 = sibling_level (m.code h) b r k g S.stand S.formed in
        let dl : depth_below types (above r.segment.code) ≡ level types r.segment = below_level b r k g S.stand in
        let deep : AllDeeper types (length P) (r ∷ sequence k) = ((omega arith), all_deeper (length P) r.segment.code nowhere k S.stand.1 S.formed.2 (omega arith)) in
        let split : sequence f ≡ S.front ++ ((r ∷ sequence k) ++ (sequence g ++ rest))
        = own_whole ∙ ap (λ (x : List Placed). S.front ++ (r ∷ x)) (append_assoc (sequence k) (sequence g) rest) in
        let long : length (S.front ++ (r ∷ sequence k)) ≡ length S.front + length (r ∷ sequence k) = length-append S.front (r ∷ sequence k) in
        let num : length S.front ≡ n = S.number in
        let next : n + 1 + length (sequence k) ≡ length S.front + length (r ∷ sequence k) = omega arith in
        record {
          front = S.front ++ (r ∷ sequence k);
          whole = split ∙ sym (append_assoc S.front (r ∷ sequence k) (sequence g ++ rest));
          number = omega arith;
          here = S.here;
          stand = S.stand.2;
          formed = S.formed.3;
          tip = S.tip;
          down = S.down;
          depth = S.depth;
          path = ap (path_above types (rows_of f) (length P + 1)) next
              ∙ skip_path types f (length P) S.front (r ∷ sequence k) (sequence g ++ rest) split deep
              ∙ ap (path_above types (rows_of f) (length P + 1)) num ∙ S.path;
          nearest = ap (nearest_above types (rows_of f) (length P + 1)) next
              ∙ skip_nearest types f (length P) S.front (r ∷ sequence k) (sequence g ++ rest) split deep
              ∙ ap (nearest_above types (rows_of f) (length P + 1)) num ∙ S.nearest;
          before = λ j e. (let l : j < n = S.before j e in omega arith);
          passed = r.segment.code;
          least = at_least g S.formed.1;
          named = later_named;
          chained = λ t some. elim (cases_eq r.segment.code t) [
            | inl e ↦
                (let fw : m.forward r.address ≡ first_of g t = S.stand.0.forward ∙ ap (first_of g) e in
                let c = own_chain in
                subst (λ x. IsInChain m (m.first_child h t) x) fw
                (subst (λ x. IsInChain m (m.first_child h x) (m.forward r.address)) e
                (suc c.0, chain_more m c.0 (m.first_child h r.segment.code) r.address c.1 (subst (λ x. 0 < x) (sym fw) some))))
            | inr ne ↦
                (let z : first_of (node r k g) t ≡ first_of g t = cond-false (r.segment.code == t) r.address (first_of g t) (ne_eqb r.segment.code t ne) in
                subst (λ x. IsInChain m (m.first_child h t) x) z (S.chained t (subst (λ x. 0 < x) (sym z) some)))
          ];
          behind = S.behind;
          shallow = S.shallow;
        }
      where
        at_least : (x : Forest Placed) → is_behind types (Some r.segment) x ≡ true → AtLeast r.segment.code x
        at_least empty e = tt
        at_least (node s k2 n2) e = follows_code types r s k2 n2 e

  -- the row of a number
  pub record RowAt (i : ℕ) : Type 0 where
    pub path : List ℕ
    pub parent : Option ℕ
    pub holder : ℕ
    pub table : ℕ → ℕ
    pub row : Placed
    pub below : Forest Placed
    pub after : Forest Placed
    pub rest : List Placed
    pub stands : Siblings types m f i path parent holder table (node row below after) rest

  find_row : (n : ℕ) (P : List ℕ) (q : Option ℕ) (h : ℕ) (b : ℕ → ℕ) (g : Forest Placed) (rest : List Placed) → Siblings types m f n P q h b g rest
      → (d : ℕ) → d < length (sequence g) → RowAt (n + d)
  find_row n P q h b empty rest S d l = absurd (omega arith)
  find_row n P q h b (node r k g) rest S zero l =
      subst RowAt (omega arith) (record { path = P; parent = q; holder = h; table = b; row = r; below = k; after = g; rest = rest; stands = S })
  find_row n P q h b (node r k g) rest S (suc d) l = elim (cases_lt d (length (sequence k))) [
    | inl inside ↦ subst RowAt (omega arith)
        (find_row (n + 1) (P ++ n ∷ []) (Some n) r.address nowhere k (sequence g ++ rest) (children_at n P q h b r k g rest S) d inside)
    | inr beyond ↦
        (let long : length (sequence k ++ sequence g) ≡ length (sequence k) + length (sequence g) = length-append (sequence k) (sequence g) in
        subst RowAt (omega arith)
        (find_row (n + 1 + length (sequence k)) P q h (with_node b r) g rest (siblings_at n P q h b r k g rest S) (d - length (sequence k)) (omega arith)))
  ]

  -- each row is somewhere
  pub row_found : (i : ℕ) → i < length (rows_of f) → RowAt i
  row_found i l =
      let len : length (rows_of f) ≡ length (sequence f) = rows_length f in
      subst RowAt (omega arith) (find_row 0 [] None 0 nowhere f [] at_start i (omega arith))

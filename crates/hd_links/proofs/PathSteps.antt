-- Paths of rows by addresses.
use Rattle.std.proofs.Common.{◌≡◌, ℕ, zero, suc, ◌+◌, ◌-◌, ◌<◌, ◌≤◌, List, [], ◌∷◌, ◌++◌, length, take, true, arith, ap, sym, ◌∙◌, subst, inl, inr, Option, Some, None}
use Rattle.std.specs.Prelude.{nat_lt, map}
use Rattle.std.proofs.lemmas.Bool.{lt-ltb, le-ltb, cases_lt, cond-true, cond-false}
use Rattle.std.proofs.lemmas.List.{append_assoc, length-append, take_all, take-append-le, take-map}
use Rattle.hd_dbd.specs.Types.{SegmentType}
use Rattle.hd_dbd.specs.Segment.{Segment}
use Rattle.hd_dbd.specs.Hierarchy.{parent_of}
use Rattle.hd_dbd.specs.Paths.{path_above, path_of, row_at, level_at}
use Rattle.hd_dbd.specs.Forest.{Forest, empty, node, sequence}
use Rattle.hd_dbd.proofs.LevelLaw.{Leveled, depth_below}
use Rattle.hd_links.specs.Links.{Links, IsLinkGraph, is_child_type}
use Rattle.hd_links.specs.Placed.{Placed, first_of, nowhere, with_node, Holds}
use Rattle.hd_links.specs.Steps.{rows_of, address_at, path_at, path_on, tip_from, LeadsDown, RowsHaveAddresses}
use Rattle.hd_links.proofs.Types.{Ordered}
use Rattle.hd_links.proofs.Joins.{IsOne}
use Rattle.hd_links.proofs.Places.{chain_one}
use Rattle.hd_links.specs.Pointers.{IsInChain}
use Rattle.hd_links.proofs.Numbers.{map_end, rows_addressed}
use Rattle.hd_links.proofs.Standing.{Siblings, RowAt, row_found, own_addresses, at_start, own_address, own_level, own_path, children_at, siblings_at}
use Rattle.hd_links.proofs.Scans.{row_fit, left_over}

module _ (types : List SegmentType) (O : Ordered types) (leveled : Leveled types) (bound : ℕ) (m : Links) (G : IsLinkGraph types bound m) (f : Forest Placed) (H : Holds types m f) where
  -- a path is as long as its row's level
  pub path_length : (i : ℕ) → i < length (rows_of f) → length (path_of types (rows_of f) i) ≡ level_at types (rows_of f) i
  path_length i within =
      let F : RowAt types O leveled bound m G f H i = row_found types O leveled bound m G f H i within in
      ap (λ (x : List ℕ). length x) (own_path types O leveled bound m G f H i F.path F.parent F.holder F.table F.row F.below F.after F.rest F.stands)
      ∙ length-append F.path (i ∷ []) ∙ sym (own_level types O leveled bound m G f H i F.path F.parent F.holder F.table F.row F.below F.after F.rest F.stands)

  -- the path above a level is the front of that above a lower one
  path_front : (l k n : ℕ) → l < k → n ≤ length (rows_of f) → path_above types (rows_of f) (l + 1) n ≡ take l (path_above types (rows_of f) k n)
  path_front l k zero less within = sym (take_all l [] (omega arith))
  path_front l k (suc n) less within =
      let R : List Segment = rows_of f in
      let long : length (path_of types R n) ≡ level_at types R n = path_length n (omega arith) in
      let both : length (path_of types R n) ≡ length (path_above types R (level_at types R n) n) + 1 = length-append (path_above types R (level_at types R n) n) (n ∷ []) in
      elim (cases_lt (level_at types R n) (l + 1)) [
        | inl low ↦
            cond-true (nat_lt (level_at types R n) (l + 1)) (path_of types R n) (path_above types R (l + 1) n) (lt-ltb (level_at types R n) (l + 1) low)
            ∙ sym (take_all l (path_of types R n) (omega arith))
            ∙ sym (ap (take l) (cond-true (nat_lt (level_at types R n) k) (path_of types R n) (path_above types R k n) (lt-ltb (level_at types R n) k (omega arith))))
        | inr high ↦
            cond-false (nat_lt (level_at types R n) (l + 1)) (path_of types R n) (path_above types R (l + 1) n) (le-ltb (level_at types R n) (l + 1) high)
            ∙ elim (cases_lt (level_at types R n) k) [
              | inl some ↦
                  path_front l (level_at types R n) n (omega arith) (omega arith)
                  ∙ sym (take-append-le l (path_above types R (level_at types R n) n) (n ∷ []) (omega arith))
                  ∙ sym (ap (take l) (cond-true (nat_lt (level_at types R n) k) (path_of types R n) (path_above types R k n) (lt-ltb (level_at types R n) k some)))
              | inr deep ↦
                  path_front l k n less (omega arith)
                  ∙ sym (ap (take l) (cond-false (nat_lt (level_at types R n) k) (path_of types R n) (path_above types R k n) (le-ltb (level_at types R n) k deep)))
            ]
      ]

  -- the path above a level behind row i is the front of its path
  pub path_behind : (l i : ℕ) → i < length (rows_of f) → path_above types (rows_of f) (l + 1) (suc i) ≡ take l (path_of types (rows_of f) i)
  path_behind l i within =
      let R : List Segment = rows_of f in
      path_front l (suc (l + level_at types R i)) (suc i) (omega arith) (omega arith)
      ∙ ap (take l) (cond-true (nat_lt (level_at types R i) (suc (l + level_at types R i))) (path_of types R i) (path_above types R (suc (l + level_at types R i)) i)
      (lt-ltb (level_at types R i) (suc (l + level_at types R i)) (omega arith)))

  -- and by addresses
  pub addresses_on : (i j : ℕ) → path_of types (rows_of f) j ≡ take (level_at types (rows_of f) j - 1) (path_of types (rows_of f) i) ++ j ∷ [] → path_at types f j ≡ path_on types f i j
  addresses_on i j e =
      ap (map (λ k. address_at f k)) e ∙ map_end (λ k. address_at f k) (take (level_at types (rows_of f) j - 1) (path_of types (rows_of f) i)) j
      ∙ ap (λ (x : List ℕ). x ++ address_at f j ∷ []) (sym (take-map (λ k. address_at f k) (level_at types (rows_of f) j - 1) (path_of types (rows_of f) i)))

  pub level_some : (j : ℕ) → j < length (rows_of f) → 0 < level_at types (rows_of f) j
  level_some j within = (let e : level_at types (rows_of f) j ≡ depth_below types (parent_of types (row_at (rows_of f) j).code) + 1 = leveled.law (row_at (rows_of f) j) (row_fit types O leveled bound m G f H j within) in omega arith)

  pub path_next : (i : ℕ) → i + 1 < length (rows_of f) → path_at types f (i + 1) ≡ path_on types f i (i + 1)
  path_next i within =
      let some : 0 < level_at types (rows_of f) (i + 1) = level_some (i + 1) within in
      let up : level_at types (rows_of f) (i + 1) ≡ level_at types (rows_of f) (i + 1) - 1 + 1 = omega arith in
      let next : i + 1 ≡ suc i = omega arith in
      addresses_on i (i + 1) (ap (λ (x : List ℕ). x ++ (i + 1) ∷ [])
      (ap (λ l. path_above types (rows_of f) l (i + 1)) up
      ∙ ap (path_above types (rows_of f) (level_at types (rows_of f) (i + 1) - 1 + 1)) next
      ∙ path_behind (level_at types (rows_of f) (i + 1) - 1) i (omega arith)))

  -- ---- one path to each row

  -- a sibling at an address
  record SiblingAt (P : List ℕ) (q : Option ℕ) (h a : ℕ) : Type 0 where
    number : ℕ
    table : ℕ → ℕ
    row : Placed
    below : Forest Placed
    after : Forest Placed
    rest : List Placed
    stands : Siblings types m f number P q h table (node row below after) rest
    is : row.address ≡ a

  sibling : (n : ℕ) (P : List ℕ) (q : Option ℕ) (h : ℕ) (b : ℕ → ℕ) (g : Forest Placed) (rest : List Placed) → Siblings types m f n P q h b g rest
      → (t a : ℕ) → IsOne t a g → SiblingAt P q h a
  sibling n P q h b empty rest S t a o = absurd o
  sibling n P q h b (node r k g) rest S t a (inl e) = record { number = n; table = b; row = r; below = k; after = g; rest = rest; stands = S; is = e.0 }
  sibling n P q h b (node r k g) rest S t a (inr o) =
      sibling (n + 1 + length (sequence k)) P q h (with_node b r) g rest (siblings_at types O leveled bound m G f H n P q h b r k g rest S) t a o

  -- the first step of a path that leads down
  landing : (n : ℕ) (P : List ℕ) (q : Option ℕ) (h : ℕ) (b : ℕ → ℕ) (g : Forest Placed) (rest : List Placed) → Siblings types m f n P q h b g rest
      → ((t : ℕ) → is_child_type types (m.code h) t ≡ true → m.first_child h t ≡ first_of g t)
      → (a : ℕ) → is_child_type types (m.code h) (m.code a) ≡ true → IsInChain m (m.first_child h (m.code a)) a → SiblingAt P q h a
  landing n P q h b g rest S all a typed c =
      let chain : IsInChain m (first_of g (m.code a)) a = subst (λ x. IsInChain m x a) (all (m.code a) typed) c in
      sibling n P q h b g rest S (m.code a) a (chain_one types m (m.code a) a b g S.stand chain.0 chain.1)

  -- its path
  landed : (P : List ℕ) (q : Option ℕ) (h a : ℕ) (D : SiblingAt P q h a) → map (λ k. address_at f k) (P ++ D.number ∷ []) ≡ map (λ k. address_at f k) P ++ a ∷ []
  landed P q h a D =
      own_addresses types O leveled bound m G f H D.number P q h D.table D.row D.below D.after D.rest D.stands ∙ ap (λ x. map (λ k. address_at f k) P ++ x ∷ []) D.is

  descend : (i : ℕ) → i < length (rows_of f) → (n : ℕ) (P : List ℕ) (q : Option ℕ) (h : ℕ) (b : ℕ → ℕ) (g : Forest Placed) (rest : List Placed) → Siblings types m f n P q h b g rest
      → ((t : ℕ) → is_child_type types (m.code h) t ≡ true → m.first_child h t ≡ first_of g t)
      → (a : ℕ) (path : List ℕ) → LeadsDown types m h (a ∷ path) → tip_from a path ≡ address_at f i → map (λ k. address_at f k) P ++ (a ∷ path) ≡ path_at types f i
  descend i within n P q h b g rest S all a [] L tip =
      let A : RowsHaveAddresses m f = rows_addressed types m f H in
      let D : SiblingAt P q h a = landing n P q h b g rest S all a L.0 L.1 in
      let at : address_at f D.number ≡ a = own_address types O leveled bound m G f H D.number P q h D.table D.row D.below D.after D.rest D.stands ∙ D.is in
      let long : length (rows_of f) ≡ D.number + (length (sequence (node D.row D.below D.after)) + length D.rest)
      = left_over types O leveled bound m G f H D.number P q h D.table (node D.row D.below D.after) D.rest D.stands in
      let e : D.number ≡ i = A.once D.number i (omega arith) within (at ∙ tip) in
      sym (landed P q h a D)
      ∙ sym (ap (map (λ k. address_at f k)) (own_path types O leveled bound m G f H D.number P q h D.table D.row D.below D.after D.rest D.stands))
      ∙ ap (path_at types f) e
  descend i within n P q h b g rest S all a (c ∷ path) L tip =
      let D : SiblingAt P q h a = landing n P q h b g rest S all a L.0 L.1 in
      let code : m.code D.row.address ≡ D.row.segment.code = D.stands.stand.0.code in
      sym (append_assoc (map (λ k. address_at f k) P) (a ∷ []) (c ∷ path))
      ∙ ap (λ (x : List ℕ). x ++ (c ∷ path)) (sym (landed P q h a D))
      ∙ descend i within (D.number + 1) (P ++ D.number ∷ []) (Some D.number) D.row.address nowhere D.below (sequence D.after ++ D.rest)
      (children_at types O leveled bound m G f H D.number P q h D.table D.row D.below D.after D.rest D.stands)
      (λ t w. D.stands.stand.0.children.first t (ap (λ x. is_child_type types x t) (sym code) ∙ w))
      c path (subst (λ x. LeadsDown types m x (c ∷ path)) (sym D.is) L.2) tip

  pub one_path : (i : ℕ) → i < length (rows_of f) → (path : List ℕ) → LeadsDown types m 0 path → tip_from 0 path ≡ address_at f i → path ≡ path_at types f i
  one_path i within [] L tip = absurd (let A : RowsHaveAddresses m f = rows_addressed types m f H in let some : 0 < address_at f i = (A.there i within).some in omega arith)
  one_path i within (a ∷ path) L tip =
      descend i within 0 [] None 0 nowhere f [] (at_start types O leveled bound m G f H)
      (λ t w. H.lies.roots.first t (ap (λ x. is_child_type types x t) (sym G.header_code) ∙ w)) a path L tip

-- The first row of a parent and a type is the first of some siblings.
use Rattle.std.proofs.Common.{◌≡◌, ℕ, zero, suc, ◌+◌, ◌-◌, ◌<◌, ◌≤◌, List, [], ◌∷◌, ◌++◌, length, Bool, true, false, arith, ap, ap₂, sym, ◌∙◌, refl, subst, inl, inr, Option, Some}
use Rattle.std.specs.Prelude.{◌==◌, nat_le}
use Rattle.std.specs.Option.{option_map_or}
use Rattle.std.proofs.lemmas.Bool.{cases_eq, cases_order, cases_Bool, eq-eqb, ne_eqb, cond-true, cond-false, le-leb}
use Rattle.std.proofs.lemmas.List.{append_assoc, length-append}
use Rattle.hd_dbd.specs.Types.{SegmentType}
use Rattle.hd_dbd.specs.Segment.{Segment}
use Rattle.hd_dbd.specs.Rows.{level, row_fits}
use Rattle.hd_dbd.specs.Paths.{row_at, level_at, nearest_above, parent_row, end_within}
use Rattle.hd_dbd.specs.Searches.{least_within}
use Rattle.hd_dbd.specs.Forest.{Forest, empty, node, sequence}
use Rattle.hd_dbd.proofs.LevelLaw.{Leveled, depth_below}
use Rattle.hd_links.specs.Links.{Links, IsLinkGraph, is_child_type}
use Rattle.hd_links.specs.Placed.{Placed, first_of, nowhere, with_node, Holds}
use Rattle.hd_links.specs.Steps.{rows_of, address_at, RowsHaveAddresses}
use Rattle.hd_links.proofs.Types.{Ordered, above}
use Rattle.hd_links.proofs.Numbers.{rows_length, row_is, AllDeeper, nearest_from, skip_least, least_none, rows_addressed}
use Rattle.hd_links.proofs.Standing.{UpTo, Siblings, all_deeper, own_row, own_address, own_level, own_parent, children_at, siblings_at}

-- the test finds the rows of one parent, or roots, and one code
pub record Seeks (types : List SegmentType) (rows : List Segment) (q : Option ℕ) (t : ℕ) (test : ℕ → Bool) : Type 0 where
  pub finds : (j : ℕ) → parent_row types rows j ≡ q → (row_at rows j).code ≡ t → test j ≡ true
  pub only : (j : ℕ) → test j ≡ true → (parent_row types rows j ≡ q) × ((row_at rows j).code ≡ t)

fails : (types : List SegmentType) (rows : List Segment) (q : Option ℕ) (t : ℕ) (test : ℕ → Bool) → Seeks types rows q t test → (j : ℕ)
    → (parent_row types rows j ≡ q → (row_at rows j).code ≡ t → ⊥) → test j ≡ false
fails types rows q t test K j h = elim (cases_Bool (test j)) [
  | inl e ↦ (let w = K.only j e in absurd (h w.0 w.1))
  | inr e ↦ e
]

module _ (types : List SegmentType) (O : Ordered types) (leveled : Leveled types) (bound : ℕ) (m : Links) (G : IsLinkGraph types bound m) (f : Forest Placed) (H : Holds types m f) where
  -- each row fits
  pub row_fit : (j : ℕ) → j < length (rows_of f) → row_fits types (row_at (rows_of f) j) ≡ true
  row_fit j l =
      let A : RowsHaveAddresses m f = rows_addressed types m f H in
      ap (row_fits types) (sym (A.same j l)) ∙ G.fits (address_at f j) (A.there j l)

  -- all rows that are left
  pub left_over : (n : ℕ) (P : List ℕ) (q : Option ℕ) (h : ℕ) (b : ℕ → ℕ) (g : Forest Placed) (rest : List Placed) → Siblings types m f n P q h b g rest
      → length (rows_of f) ≡ n + (length (sequence g) + length rest)
  left_over n P q h b g rest S =
      rows_length f ∙ ap (λ (x : List Placed). length x) S.whole ∙ length-append S.front (sequence g ++ rest)
      ∙ ap₂ (λ x y. x + y) S.number (length-append (sequence g) rest)

  -- the rows that depend on a row are below none of those before it
  pub inside : (n : ℕ) (P : List ℕ) (q : Option ℕ) (h : ℕ) (b : ℕ → ℕ) (r : Placed) (k g : Forest Placed) (rest : List Placed) → Siblings types m f n P q h b (node r k g) rest
      → (test : ℕ → Bool) → ((j : ℕ) → test j ≡ true → parent_row types (rows_of f) j ≡ q)
      → (j : ℕ) → n + 1 ≤ j → j < n + 1 + length (sequence k) → test j ≡ false
  inside n P q h b r k g rest S test only j from to = elim (cases_Bool (test j)) [
    | inr e ↦ e
    | inl e ↦ absurd
        (let parent : parent_row types (rows_of f) j ≡ q = only j e in
        let deep : length P + 1 < level_at types (rows_of f) j = deep_at j from to in
        let own : level_at types (rows_of f) n ≡ length P + 1 = own_level types O leveled bound m G f H n P q h b r k g rest S in
        let N : (p : ℕ) × (nearest_above types (rows_of f) (level_at types (rows_of f) j) j ≡ Some p) × (n ≤ p)
        = nearest_from types (rows_of f) (level_at types (rows_of f) j) n j (omega arith) (omega arith) in
        let e : q ≡ Some N.0 = sym parent ∙ N.1 in
        let l : N.0 < n = S.before N.0 e in
        let u : n ≤ N.0 = N.2 in omega arith)
  ]
    where
      C : Siblings types m f (n + 1) (P ++ n ∷ []) (Some n) r.address nowhere k (sequence g ++ rest)
      C = children_at types O leveled bound m G f H n P q h b r k g rest S

      deep_list : (xs : List Placed) (front tail : List Placed) → sequence f ≡ front ++ (xs ++ tail) → AllDeeper types (length P + 1) xs → (d : ℕ) → d < length xs
          → length P + 1 < level_at types (rows_of f) (length front + d)
      deep_list [] front tail w a d l = absurd (omega arith)
      deep_list (x ∷ xs) front tail w a zero l =
          subst (λ i. length P + 1 < level_at types (rows_of f) i) (omega arith)
          (subst (λ y. length P + 1 < y) (sym (ap (level types) (row_is f front x (xs ++ tail) (length front) w refl))) a.0)
      deep_list (x ∷ xs) front tail w a (suc d) l =
          let more : length (front ++ x ∷ []) ≡ length front + 1 = length-append front (x ∷ []) in
          subst (λ i. length P + 1 < level_at types (rows_of f) i) (omega arith)
          (deep_list xs (front ++ x ∷ []) tail (w ∙ sym (append_assoc front (x ∷ []) (xs ++ tail))) a.1 d (omega arith))

      deep_at : (j : ℕ) → n + 1 ≤ j → j < n + 1 + length (sequence k) → length P + 1 < level_at types (rows_of f) j
      deep_at j from to =
          let long : length (P ++ n ∷ []) ≡ length P + 1 = length-append P (n ∷ []) in
          let dc : depth_below types (above (m.code r.address)) ≡ length (P ++ n ∷ []) = C.depth in
          let a : AllDeeper types (length P + 1) (sequence k)
          = all_deeper types O leveled bound m G f H (length P + 1) (m.code r.address) nowhere k C.stand C.formed (omega arith) in
          let num : length C.front ≡ n + 1 = C.number in
          subst (λ i. length P + 1 < level_at types (rows_of f) i) (omega arith) (deep_list (sequence k) C.front (sequence g ++ rest) C.whole a (j - (n + 1)) (omega arith))

  -- behind what depends on their parent no sibling is
  pub past : (n : ℕ) (P : List ℕ) (q : Option ℕ) (h : ℕ) (b : ℕ → ℕ) (rest : List Placed) → Siblings types m f n P q h b empty rest
      → (t : ℕ) (test : ℕ → Bool) → is_child_type types (m.code h) t ≡ true → Seeks types (rows_of f) q t test
      → (j : ℕ) → n ≤ j → j < n + length rest → test j ≡ false
  past n P q h b [] S t test c K j from to = absurd (omega arith)
  past n P q h b (x ∷ rest) S t test c K j from to =
      fails types (rows_of f) q t test K j (λ parent code.
      let all : length (rows_of f) ≡ n + (0 + length (x ∷ rest)) = left_over n P q h b empty (x ∷ rest) S in
      let fit : row_fits types (row_at (rows_of f) j) ≡ true = row_fit j (omega arith) in
      let own : level_at types (rows_of f) j ≡ length P + 1
      = leveled.law (row_at (rows_of f) j) fit
      ∙ ap (λ (o : Option ℕ). depth_below types o + 1) (O.parent (m.code h) (row_at (rows_of f) j) fit (ap (is_child_type types (m.code h)) code ∙ c))
      ∙ ap (λ y. y + 1) S.depth in
      let first : level_at types (rows_of f) n ≡ level types x.segment = ap (level types) (row_is f S.front x rest n S.whole S.number) in
      let low : level types x.segment ≤ length P = S.shallow in
      elim (cases_eq j n) [
        | inl e ↦ (let s : level_at types (rows_of f) j ≡ level_at types (rows_of f) n = ap (level_at types (rows_of f)) e in omega arith)
        | inr ne ↦
            (let less : n < j = elim (cases_order n j) [ inl e ↦ absurd (ne (sym e)) | inr w ↦ elim w [ inl v ↦ v | inr v ↦ absurd (omega arith) ] ] in
            let N : (p : ℕ) × (nearest_above types (rows_of f) (level_at types (rows_of f) j) j ≡ Some p) × (n ≤ p)
            = nearest_from types (rows_of f) (level_at types (rows_of f) j) n j less (omega arith) in
            let e : q ≡ Some N.0 = sym parent ∙ N.1 in
            let l : N.0 < n = S.before N.0 e in
            let u : n ≤ N.0 = N.2 in omega arith)
      ])

  -- the first of some siblings of a type is the first row of its parent and type
  pub scan : (n : ℕ) (P : List ℕ) (q : Option ℕ) (h : ℕ) (b : ℕ → ℕ) (g : Forest Placed) (rest : List Placed) → Siblings types m f n P q h b g rest
      → (t : ℕ) (test : ℕ → Bool) → is_child_type types (m.code h) t ≡ true → Seeks types (rows_of f) q t test
      → (d : ℕ) → d ≡ length (sequence g) + length rest → option_map_or (λ j. address_at f j) (least_within test d n) 0 ≡ first_of g t
  scan n P q h b empty rest S t test c K d e =
      ap (λ (o : Option ℕ). option_map_or (λ j. address_at f j) o 0)
      (least_none test d n (λ j from to. past n P q h b rest S t test c K j from (omega arith)))
  scan n P q h b (node r k g) rest S t test c K d e =
      let both : length (sequence k ++ sequence g) ≡ length (sequence k) + length (sequence g) = length-append (sequence k) (sequence g) in
      let left : ℕ = length (sequence g) + length rest in
      let split : d ≡ suc (length (sequence k) + left) = omega arith in
      let code : (row_at (rows_of f) n).code ≡ r.segment.code = ap (λ (s : Segment). s.code) (own_row types O leveled bound m G f H n P q h b r k g rest S) in
      elim (cases_eq r.segment.code t) [
        | inl w ↦
            (let found : test n ≡ true = K.finds n (own_parent types O leveled bound m G f H n P q h b r k g rest S) (code ∙ w) in
            ap (λ (o : Option ℕ). option_map_or (λ j. address_at f j) o 0)
            (ap (λ x. least_within test x n) split ∙ cond-true (test n) (Some n) (least_within test (length (sequence k) + left) (n + 1)) found)
            ∙ own_address types O leveled bound m G f H n P q h b r k g rest S
            ∙ sym (cond-true (r.segment.code == t) r.address (first_of g t) (eq-eqb r.segment.code t w)))
        | inr w ↦
            (let none : test n ≡ false = fails types (rows_of f) q t test K n (λ p x. w (sym code ∙ x)) in
            ap (λ (o : Option ℕ). option_map_or (λ j. address_at f j) o 0)
            (ap (λ x. least_within test x n) split
            ∙ cond-false (test n) (Some n) (least_within test (length (sequence k) + left) (n + 1)) none
            ∙ skip_least test (length (sequence k)) left (n + 1) (inside n P q h b r k g rest S test (λ j w. (K.only j w).0)))
            ∙ scan (n + 1 + length (sequence k)) P q h (with_node b r) g rest (siblings_at types O leveled bound m G f H n P q h b r k g rest S) t test c K left refl
            ∙ sym (cond-false (r.segment.code == t) r.address (first_of g t) (ne_eqb r.segment.code t w)))
      ]

  -- where the walk to the end of a span stops
  pub stops : (l : ℕ) (front rest : List Placed) → sequence f ≡ front ++ rest → UpTo types l rest → end_within types (rows_of f) l (length rest) (length front) ≡ length front
  stops l front [] whole low = refl
  stops l front (x ∷ rest) whole low =
      let own : level_at types (rows_of f) (length front) ≡ level types x.segment = ap (level types) (row_is f front x rest (length front) whole refl) in
      let le : level types x.segment ≤ l = low in
      cond-true (nat_le (level_at types (rows_of f) (length front)) l) (length front) (end_within types (rows_of f) l (length rest) (length front + 1))
      (le-leb (level_at types (rows_of f) (length front)) l (omega arith))

-- How a search settles where the rows above are admitted.
use Rattle.std.proofs.Common.{◌≡◌, ℕ, zero, suc, ◌+◌, ◌-◌, ◌<◌, ◌≤◌, List, [], ◌∷◌, ◌++◌, length, take, Bool, true, false, Option, Some, None, refl, sym, ap, ap₂, ◌∙◌, arith, inl, inr}
use Rattle.std.specs.Prelude.{nat_lt, nat_le, map, ◌&&◌, ◌==◌}
use Rattle.std.specs.Option.{option_map_or}
use Rattle.std.specs.List.{list_all, list_any}
use Rattle.std.proofs.lemmas.Bool.{cases_lt, cond-true, cond-false, lt-ltb, le-ltb, le-leb, leb-true, and_parts, false≢true}
use Rattle.std.proofs.lemmas.List.{length-append, length-map}
use Rattle.hd_dbd.specs.Types.{SegmentType}
use Rattle.hd_dbd.specs.Segment.{Segment}
use Rattle.hd_dbd.specs.Paths.{parent_row, path_of, end_of}
use Rattle.hd_dbd.specs.Forest.{Forest}
use Rattle.hd_dbd.proofs.RowPaths.{path_follows}
use Rattle.hd_links.specs.Links.{Links}
use Rattle.hd_links.specs.Placed.{Placed, Holds}
use Rattle.hd_forest.specs.Rows.{IsOnRow}
use Rattle.hd_links.specs.Steps.{rows_of, address_at, path_at, RowsHaveAddresses}
use Rattle.hd_calls.proofs.Searches.{skipped}
use Rattle.hd_calls.proofs.Spans.{end_is}
use Rattle.hd_calls.specs.Admits.{NonePass}
use Rattle.hd_get.specs.Searches.{EndsAt, LeadsWithin, path_within, is_above_admitted, MayBeginAt}
use Rattle.hd_get.proofs.Spans.{nested, parent_span, parent_within, whole_admitted}
use Rattle.hd_get.proofs.Climbs.{any_on_path, some_path}
use Rattle.hd_get.proofs.Turns.{ends_within, none_from}

-- the front of a list, and of a longer one
take_in : (n : ℕ) (xs ys : List ℕ) → n ≤ length xs → take n (xs ++ ys) ≡ take n xs
take_in zero xs ys w = refl
take_in (suc n) [] ys w = absurd (omega arith)
take_in (suc n) (x ∷ xs) ys w = ap (λ (zs : List ℕ). x ∷ zs) (take_in n xs ys (omega arith))

pub take_all : (xs : List ℕ) → take (length xs) xs ≡ xs
take_all [] = refl
take_all (x ∷ xs) = ap (λ (zs : List ℕ). x ∷ zs) (take_all xs)

take_twice : (k : ℕ) (xs : List ℕ) → take k (take (k + 1) xs) ≡ take k xs
take_twice k xs = ap (λ j. take k (take j xs)) (let e : k + 1 ≡ suc k = omega arith in e) ∙ go k xs
  where
    go : (k : ℕ) (xs : List ℕ) → take k (take (suc k) xs) ≡ take k xs
    go zero xs = refl
    go (suc k) [] = refl
    go (suc k) (x ∷ xs) = ap (λ (zs : List ℕ). x ∷ zs) (go k xs)

pub take_size : (k : ℕ) (xs : List ℕ) → k ≤ length xs → length (take k xs) ≡ k
take_size zero xs w = refl
take_size (suc k) [] w = absurd (omega arith)
take_size (suc k) (x ∷ xs) w = ap suc (take_size k xs (omega arith))

pub take_map : (g : ℕ → ℕ) (n : ℕ) (xs : List ℕ) → take n (map g xs) ≡ map g (take n xs)
take_map g zero xs = refl
take_map g (suc n) [] = refl
take_map g (suc n) (x ∷ xs) = ap (λ (ys : List ℕ). g x ∷ ys) (take_map g n xs)

-- The path of a row down to a level above its own is that of a row above it, in whose span it is.
pub record IsRowAbove (types : List SegmentType) (rows : List Segment) (n l a : ℕ) : Type 0 where
  pub before : a < n
  pub spans : n < end_of types rows a
  pub is : path_of types rows a ≡ take l (path_of types rows n)

pub row_above : (types : List SegmentType) (rows : List Segment) (bound n l : ℕ) → n < bound → n < length rows → 0 < l → l < length (path_of types rows n) → (a : ℕ) × IsRowAbove types rows n l a
row_above types rows zero n l less within some short = absurd (omega arith)
row_above types rows (suc bound) n l less within some short = by (parent_row types rows n) refl (λ p a b d. row_above types rows bound p l a b some d)
  where
    path_is : (o : Option ℕ) → parent_row types rows n ≡ o → path_of types rows n ≡ option_map_or (λ p. path_of types rows p) o [] ++ n ∷ []
    path_is o e = path_follows types rows n ∙ ap (λ (o : Option ℕ). option_map_or (λ p. path_of types rows p) o [] ++ n ∷ []) e

    by : (o : Option ℕ) → parent_row types rows n ≡ o → ((p : ℕ) → p < bound → p < length rows → l < length (path_of types rows p) → (a : ℕ) × IsRowAbove types rows p l a) → (a : ℕ) × IsRowAbove types rows n l a
    by None e again = absurd (let z : length (path_of types rows n) ≡ 1 = ap (λ (xs : List ℕ). length xs) (path_is None e) in omega arith)
    by (Some p) e again =
        (let P = parent_span types rows n p within e in
        let w : p < n = P.0 in
        let N : n < end_of types rows n = (end_is types rows n within).behind in
        let up : end_of types rows n ≤ end_of types rows p = P.2 in
        let long : length (path_of types rows n) ≡ length (path_of types rows p) + 1 = ap (λ (xs : List ℕ). length xs) (path_is (Some p) e) ∙ length-append (path_of types rows p) (n ∷ []) in
        let cut : take l (path_of types rows n) ≡ take l (path_of types rows p) = ap (take l) (path_is (Some p) e) ∙ take_in l (path_of types rows p) (n ∷ []) (omega arith) in
        elim (cases_lt l (length (path_of types rows p))) [
          | inl less2 ↦
              (let R = again p (omega arith) (omega arith) less2 in
              let a : R.0 < p = R.1.before in
              let s : p < end_of types rows R.0 = R.1.spans in
              let n2 : end_of types rows p ≤ end_of types rows R.0 = nested types rows R.0 p (omega arith) (omega arith) s in
              (R.0, record { before = omega arith; spans = omega arith; is = R.1.is ∙ sym cut }))
          | inr all ↦ (p, record { before = w; spans = omega arith; is = sym (cut ∙ ap (λ k. take k (path_of types rows p)) (let z : l ≡ length (path_of types rows p) = omega arith in z) ∙ take_all (path_of types rows p)) })
        ])

module _ (test admits : ℕ → Bool) (types : List SegmentType) (f : Forest Placed) (parent end n : ℕ) (E : EndsAt types f parent n end) where
  -- the rows above row a are those of the path above it
  pub above_by : (l a : ℕ) → a < length (rows_of f) → path_of types (rows_of f) a ≡ take (l + 1) (path_of types (rows_of f) n) → l < length (path_of types (rows_of f) n)
      → list_all admits (take l (path_of types (rows_of f) n)) ≡ true → is_above_admitted admits types (rows_of f) a ≡ true
  above_by l a within is short all = by (parent_row types (rows_of f) a) refl
    where
      by : (o : Option ℕ) → parent_row types (rows_of f) a ≡ o → option_map_or (λ q. list_all admits (path_of types (rows_of f) q)) (parent_row types (rows_of f) a) true ≡ true
      by None e = ap (λ (o : Option ℕ). option_map_or (λ q. list_all admits (path_of types (rows_of f) q)) o true) e
      by (Some p) e =
          ap (λ (o : Option ℕ). option_map_or (λ q. list_all admits (path_of types (rows_of f) q)) o true) e
          ∙ ap (list_all admits) (front ∙ same) ∙ all
        where
          whole : path_of types (rows_of f) a ≡ path_of types (rows_of f) p ++ a ∷ []
          whole = path_follows types (rows_of f) a ∙ ap (λ (o : Option ℕ). option_map_or (λ p. path_of types (rows_of f) p) o [] ++ a ∷ []) e

          size : length (path_of types (rows_of f) p) ≡ l
          size =
              let x : length (path_of types (rows_of f) a) ≡ length (path_of types (rows_of f) p) + 1 = ap (λ (xs : List ℕ). length xs) whole ∙ length-append (path_of types (rows_of f) p) (a ∷ []) in
              let y : length (path_of types (rows_of f) a) ≡ l + 1 = ap (λ (xs : List ℕ). length xs) is ∙ take_size (l + 1) (path_of types (rows_of f) n) (omega arith) in omega arith

          front : path_of types (rows_of f) p ≡ take l (path_of types (rows_of f) a)
          front = sym (take_all (path_of types (rows_of f) p)) ∙ ap (λ k. take k (path_of types (rows_of f) p)) size
              ∙ sym (take_in l (path_of types (rows_of f) p) (a ∷ []) (let z : length (path_of types (rows_of f) p) ≡ l = size in omega arith)) ∙ ap (take l) (sym whole)

          same : take l (path_of types (rows_of f) a) ≡ take l (path_of types (rows_of f) n)
          same = ap (take l) is ∙ take_twice l (path_of types (rows_of f) n)

  -- the search begins at a row above, in whose span none passes, below the parent
  pub begins_above : (a : ℕ) (path : List ℕ) → a < n → n < end → n < end_of types (rows_of f) a → NonePass test a (end_of types (rows_of f) a) → is_above_admitted admits types (rows_of f) a ≡ true
      → (0 < parent → (q : ℕ) → address_at f q ≡ parent → q < n → n < end_of types (rows_of f) q → q < a) → path ≡ path_at types f a → MayBeginAt test admits types f parent end n path
  begins_above a path w inside spans none up under is = record {
    number = a;
    same = sym (skipped test a n end (omega arith) (λ j low high. none j low (omega arith)));
    ends = record {
      whole = E.whole;
      under = λ some. (let Q = E.under some in
          let q : Q.0 < n = Q.1 in
          let e : end ≡ end_of types (rows_of f) Q.0 = Q.4 in (Q.0, under some Q.0 Q.3 q (omega arith), Q.2, Q.3, Q.4));
    };
    above = λ z. up;
    is = is ∙ sym (cond-true (nat_lt a end) (path_at types f a) [] (lt-ltb a end (omega arith)));
  }

  -- the search has nothing before its end, which a row above spans
  pub begins_nowhere : (a : ℕ) → n < end → a ≤ n → NonePass test a (end_of types (rows_of f) a) → end ≤ end_of types (rows_of f) a → MayBeginAt test admits types f parent end n []
  begins_nowhere a inside w none past = record {
    number = end;
    same = none_from test n end (λ j low high. none j (omega arith) (omega arith)) ∙ sym (none_from test end end (λ j low high. absurd (omega arith)));
    ends = record {
      whole = E.whole;
      under = λ some. (let Q = E.under some in let q : Q.0 < n = Q.1 in (Q.0, (let r : Q.0 < end = omega arith in r), Q.2, Q.3, Q.4));
    };
    above = λ z. absurd (omega arith);
    is = sym (cond-false (nat_lt end end) (path_at types f end) [] (le-ltb end end (omega arith)));
  }

  -- the search begins where it was to begin
  pub begins_here : (path : List ℕ) → path ≡ path_within types f end n → (n < end → is_above_admitted admits types (rows_of f) n ≡ true) → MayBeginAt test admits types f parent end n path
  begins_here path is up = record { number = n; same = refl; ends = E; above = up; is = is }

-- ---- by addresses

module _ (types : List SegmentType) (m : Links) (f : Forest Placed) (A : RowsHaveAddresses m f) (parent end n : ℕ) (path : List ℕ) (L : LeadsWithin types m f parent end path n) where
  -- a path with more than one row is that of a row before the end
  pub leads_in : 0 < length path → (n < end) × (path ≡ path_at types f n)
  leads_in some = elim (cases_lt n end) [
    | inl w ↦ (w, L.is ∙ cond-true (nat_lt n end) (path_at types f n) [] (lt-ltb n end w))
    | inr w ↦ absurd (let e : length path ≡ 0 = ap (λ (xs : List ℕ). length xs) (L.is ∙ cond-false (nat_lt n end) (path_at types f n) [] (le-ltb n end w)) in omega arith)
  ]

  -- the row of a place on the path above its last
  pub record IsAbove (place a : ℕ) : Type 0 where
    pub inside : n < end
    pub row : IsRowAbove types (rows_of f) n (place + 1) a
    pub is : take (place + 1) path ≡ path_at types f a

  pub above_found : (place : ℕ) → place < length path - 1 → (a : ℕ) × IsAbove place a
  above_found place short =
      let I = leads_in (omega arith) in
      let w : n < end = I.0 in
      let e : end ≤ length (rows_of f) = ends_within types f parent n end L.ends in
      let size : length path ≡ length (path_of types (rows_of f) n) = ap (λ (xs : List ℕ). length xs) I.1 ∙ length-map (path_of types (rows_of f) n) (λ j. address_at f j) in
      let R = row_above types (rows_of f) (suc n) n (place + 1) (omega arith) (omega arith) (omega arith) (omega arith) in
      (R.0, record { inside = w; row = R.1; is = ap (take (place + 1)) I.1 ∙ take_map (λ j. address_at f j) (place + 1) (path_of types (rows_of f) n) ∙ ap (map (λ j. address_at f j)) (sym R.1.is) })

  module _ (place a : ℕ) (short : place < length path - 1) (F : IsAbove place a) where
    inside_rows : n < length (rows_of f)
    inside_rows = (let w : n < end = F.inside in let e : end ≤ length (rows_of f) = ends_within types f parent n end L.ends in omega arith)

    path_size : length (path_of types (rows_of f) a) ≡ place + 1
    path_size =
        (let size : length path ≡ length (path_of types (rows_of f) n) = ap (λ (xs : List ℕ). length xs) (leads_in (omega arith)).1 ∙ length-map (path_of types (rows_of f) n) (λ j. address_at f j) in
        ap (λ (xs : List ℕ). length xs) F.row.is ∙ take_size (place + 1) (path_of types (rows_of f) n) (omega arith))

    -- the path up to the place is that of the rows above row a
    front_is : take place path ≡ map (λ j. address_at f j) (take place (path_of types (rows_of f) a))
    front_is = sym (take_twice place path) ∙ ap (take place) F.is ∙ take_map (λ j. address_at f j) place (path_of types (rows_of f) a)

    -- a row whose address is on the path up to the place is above row a
    pub named_above : list_any (λ x. x == parent) (take place path) ≡ true → (q : ℕ) → address_at f q ≡ parent → q < n → q < a
    named_above any q at w = by place refl
      where
        an : a < n
        an = F.row.before

        by : (k : ℕ) → place ≡ k → q < a
        by zero e = absurd (false≢true (ap (λ k. list_any (λ x. x == parent) (take k path)) (sym e) ∙ any))
        by (suc k) e =
            (let l : n < length (rows_of f) = inside_rows in
            let s : length (path_of types (rows_of f) a) ≡ place + 1 = path_size in
            let b : a < n = an in
            let R = row_above types (rows_of f) (suc a) a place (omega arith) (omega arith) (omega arith) (omega arith) in
            let c : R.0 < a = R.1.before in
            let on : list_any (λ x. x == address_at f q) (path_at types f R.0) ≡ true
            = ap₂ (λ x (xs : List ℕ). list_any (λ y. y == x) xs) at (ap (map (λ j. address_at f j)) R.1.is ∙ sym front_is) ∙ any in
            let in_span = and_parts (nat_le q R.0) _ (sym (any_on_path types f m A q (omega arith) R.0 (omega arith)) ∙ on) in
            let low : q ≤ R.0 = leb-true q R.0 in_span.0 in omega arith)

    -- where it is not on the path so far, row a is the row or above it
    pub unnamed_above : list_any (λ x. x == parent) (take place path) ≡ false → (q : ℕ) → address_at f q ≡ parent → q < n → n < end_of types (rows_of f) q → a ≤ q
    unnamed_above none q at w spans = elim (cases_lt q a) [
      | inr low ↦ low
      | inl under ↦
          (let l : n < length (rows_of f) = inside_rows in
          let b : a < n = F.row.before in
          let P = parent_within types (rows_of f) q a under (omega arith) (omega arith) in
          let up : P.0 < a = (parent_span types (rows_of f) a P.0 (omega arith) P.1).0 in
          let low : q ≤ P.0 = P.2 in
          let whole : path_of types (rows_of f) a ≡ path_of types (rows_of f) P.0 ++ a ∷ []
          = path_follows types (rows_of f) a ∙ ap (λ (o : Option ℕ). option_map_or (λ p. path_of types (rows_of f) p) o [] ++ a ∷ []) P.1 in
          let s : length (path_of types (rows_of f) a) ≡ place + 1 = path_size in
          let own : length (path_of types (rows_of f) a) ≡ length (path_of types (rows_of f) P.0) + 1 = ap (λ (xs : List ℕ). length xs) whole ∙ length-append (path_of types (rows_of f) P.0) (a ∷ []) in
          let size : length (path_of types (rows_of f) P.0) ≡ place = omega arith in
          let front : take place (path_of types (rows_of f) a) ≡ path_of types (rows_of f) P.0
          = ap (take place) whole ∙ take_in place (path_of types (rows_of f) P.0) (a ∷ []) (omega arith) ∙ ap (λ k. take k (path_of types (rows_of f) P.0)) (sym size) ∙ take_all (path_of types (rows_of f) P.0) in
          let on : list_any (λ x. x == address_at f q) (path_at types f P.0) ≡ true
          = any_on_path types f m A q (omega arith) P.0 (omega arith) ∙ ap₂ (λ x y. x && y) (le-leb q P.0 low) (lt-ltb P.0 (end_of types (rows_of f) q) (omega arith)) in
          absurd (false≢true (sym none ∙ ap₂ (λ x (xs : List ℕ). list_any (λ y. y == x) xs) (sym at) (front_is ∙ ap (map (λ j. address_at f j)) front) ∙ on)))
    ]

    -- row a is the last of the path up to the next place
    pub is_row : Holds types m f → IsOnRow types m f (take (place + 1) path) a
    is_row holds = record { holds = holds; within = (let l : n < length (rows_of f) = inside_rows in let b : a < n = F.row.before in omega arith); is = F.is }

    pub short_path : place < length (path_of types (rows_of f) n)
    short_path =
        (let size : length path ≡ length (path_of types (rows_of f) n) = ap (λ (xs : List ℕ). length xs) (leads_in (omega arith)).1 ∙ length-map (path_of types (rows_of f) n) (λ j. address_at f j) in omega arith)

    -- it is admitted with those above it
    pub all_above : (admits : ℕ → Bool) → list_all admits (take place (path_of types (rows_of f) n)) ≡ true → admits a ≡ true → list_all admits (take (place + 1) (path_of types (rows_of f) n)) ≡ true
    all_above admits all own =
        (let l : n < length (rows_of f) = inside_rows in
        let b : a < n = F.row.before in
        ap (list_all admits) (sym F.row.is)
        ∙ whole_admitted (λ j. false) admits types (rows_of f) a (above_by (λ j. false) admits types f parent end n L.ends place a (omega arith) F.row.is short_path all) own)

-- where all rows of the path above its last are admitted, those above the row are
pub all_admitted : (test admits : ℕ → Bool) (types : List SegmentType) (m : Links) (f : Forest Placed) (parent end n : ℕ) (path : List ℕ) → LeadsWithin types m f parent end path n → n < end
    → (place : ℕ) → place ≡ length path - 1 → list_all admits (take place (path_of types (rows_of f) n)) ≡ true → is_above_admitted admits types (rows_of f) n ≡ true
all_admitted test admits types m f parent end n path L inside place last all =
    let at : path ≡ path_at types f n = L.is ∙ cond-true (nat_lt n end) (path_at types f n) [] (lt-ltb n end inside) in
    let size : length path ≡ length (path_of types (rows_of f) n) = ap (λ (xs : List ℕ). length xs) at ∙ length-map (path_of types (rows_of f) n) (λ j. address_at f j) in
    let some : 0 < length (path_at types f n) = some_path types f n in
    let own : length path ≡ length (path_at types f n) = ap (λ (xs : List ℕ). length xs) at in
    let e : end ≤ length (rows_of f) = ends_within types f parent n end L.ends in
    above_by test admits types f parent end n L.ends place n (omega arith)
    (sym (take_all (path_of types (rows_of f) n)) ∙ ap (λ k. take k (path_of types (rows_of f) n)) (let z : length (path_of types (rows_of f) n) ≡ place + 1 = omega arith in z)) (omega arith) all

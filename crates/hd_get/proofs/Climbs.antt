-- Steps to twins, parents and children, by their paths.
use Rattle.std.proofs.Common.{◌≡◌, ◌≢◌, ℕ, suc, ◌+◌, ◌-◌, ◌<◌, ◌≤◌, List, [], ◌∷◌, ◌++◌, length, take, zero, Bool, true, false, Option, Some, None, refl, sym, ap, ap₂, subst, ◌∙◌, arith, inl, inr, ne_eqb}
use Rattle.std.specs.Prelude.{map, nat_lt, nat_le, cond, ◌&&◌, ◌||◌, ◌==◌}
use Rattle.std.specs.Option.{option_map_or}
use Rattle.std.specs.List.{list_all, list_any}
use Rattle.std.proofs.lemmas.Bool.{cases_lt, cases_Bool, cond-true, cond-false, lt-ltb, le-ltb, le-leb, and_parts, eq-eqb, eqb-true, false≢true}
use Rattle.std.proofs.lemmas.List.{length-append}
use Rattle.hd_dbd.specs.Types.{SegmentType}
use Rattle.hd_dbd.specs.Paths.{row_at, level_at, path_above, parent_row, path_of, end_of}
use Rattle.hd_dbd.specs.Searches.{first_from, least_within}
use Rattle.hd_dbd.specs.Forest.{Forest}
use Rattle.hd_dbd.proofs.RowPaths.{path_follows}
use Rattle.hd_calls.proofs.Spans.{end_is}
use Rattle.hd_calls.proofs.Searches.{cut_end}
use Rattle.hd_calls.proofs.PathSpans.{spans_below}
use Rattle.std.proofs.lemmas.List.Folds.{list_any-append}
use Rattle.hd_links.specs.Links.{Links, is_child_type}
use Rattle.hd_links.specs.Placed.{Placed, Holds}
use Rattle.hd_forest.specs.Rows.{IsOnSomeRow}
use Rattle.hd_links.specs.Steps.{rows_of, address_at, path_at, is_child_row, RowsHaveAddresses, StepsAreRows}
use Rattle.hd_links.proofs.Numbers.{map_end}
use Rattle.hd_calls.specs.Gets.{first_child}
use Rattle.hd_calls.specs.Satisfies.{is_child}
use Rattle.hd_calls.specs.Admits.{NonePass}
use Rattle.hd_calls.specs.SearchTwins.{next_twin}
use Rattle.hd_get.specs.Searches.{is_above_admitted, NonePassAcross, path_within, parent_path, EndsAt, GoesAcross}
use Rattle.hd_get.proofs.Spans.{one_option, nested, twin_is, twin_within, child_is, parent_within, parent_span, HasRisen, begins, rises, tops, crosses}

-- all but the last of a list
take_length : (ys : List ℕ) (x : ℕ) → take (length ys) (ys ++ x ∷ []) ≡ ys
take_length [] x = refl
take_length (y ∷ ys) x = ap (λ (zs : List ℕ). y ∷ zs) (take_length ys x)

take_front : (ys : List ℕ) (x : ℕ) → take (length (ys ++ x ∷ []) - 1) (ys ++ x ∷ []) ≡ ys
take_front ys x = ap (λ n. take n (ys ++ x ∷ [])) (let e : length (ys ++ x ∷ []) ≡ length ys + 1 = length-append ys (x ∷ []) in let g : length (ys ++ x ∷ []) - 1 ≡ length ys = omega arith in g) ∙ take_length ys x

module _ (types : List SegmentType) (f : Forest Placed) where
  -- a row's path is its parent's with the row
  pub path_is : (i : ℕ) → path_at types f i ≡ parent_path types f i ++ address_at f i ∷ []
  path_is i =
      ap (map (λ j. address_at f j)) (path_follows types (rows_of f) i)
      ∙ map_end (λ j. address_at f j) (option_map_or (λ p. path_of types (rows_of f) p) (parent_row types (rows_of f) i) []) i
      ∙ ap (λ (xs : List ℕ). xs ++ address_at f i ∷ []) (inner (parent_row types (rows_of f) i))
    where
      inner : (o : Option ℕ) → map (λ j. address_at f j) (option_map_or (λ p. path_of types (rows_of f) p) o []) ≡ option_map_or (λ q. path_at types f q) o []
      inner None = refl
      inner (Some q) = refl

  -- the path above a row is that of its parent
  pub up_is : (i : ℕ) → take (length (path_at types f i) - 1) (path_at types f i) ≡ parent_path types f i
  up_is i = ap (λ (xs : List ℕ). take (length xs - 1) xs) (path_is i) ∙ take_front (parent_path types f i) (address_at f i)

module _ (types : List SegmentType) (m : Links) (f : Forest Placed) where
  -- the address of what was found, 0 for none, says whether something was
  none_found : (A : RowsHaveAddresses m f) (o : Option ℕ) → ((j : ℕ) → o ≡ Some j → j < length (rows_of f)) → option_map_or (λ j. address_at f j) o 0 ≡ 0 → o ≡ None
  none_found A None l e = refl
  none_found A (Some j) l e = absurd (let s : 0 < address_at f j = (A.there j (l j refl)).some in omega arith)

  some_found : (o : Option ℕ) (x : ℕ) → 0 < x → option_map_or (λ j. address_at f j) o 0 ≡ x → (j : ℕ) × (o ≡ Some j) × (address_at f j ≡ x)
  some_found None x s e = absurd (omega arith)
  some_found (Some j) x s e = (j, refl, e)

  -- a row is the last twin where no twin comes forward
  pub twin_none : RowsHaveAddresses m f → (i : ℕ) → i < length (rows_of f) → StepsAreRows types m f i → m.forward (address_at f i) ≡ 0 → next_twin types (rows_of f) i ≡ None
  twin_none A i l S e = none_found A (next_twin types (rows_of f) i) (λ j is. (twin_is types (rows_of f) i j l is).within) (sym S.twin ∙ e)

  pub twin_some : (i : ℕ) → i < length (rows_of f) → StepsAreRows types m f i → 0 < m.forward (address_at f i)
      → (j : ℕ) × (next_twin types (rows_of f) i ≡ Some j) × (parent_path types f i ++ m.forward (address_at f i) ∷ [] ≡ path_at types f j)
  twin_some i l S some =
      let F = some_found (next_twin types (rows_of f) i) (m.forward (address_at f i)) some (sym S.twin) in
      let T = twin_is types (rows_of f) i F.0 l F.1 in (
        F.0,
        F.1,
        ap (λ x. parent_path types f i ++ x ∷ []) (sym F.2)
            ∙ ap (λ (o : Option ℕ). option_map_or (λ q. path_at types f q) o [] ++ address_at f F.0 ∷ []) (sym T.parent)
            ∙ sym (path_is types f F.0),
      )

  -- the first child by pointers is that by rows
  pub child_same : (i code : ℕ) → i < length (rows_of f) → first_from (λ j. is_child_row types (rows_of f) i code j) (i + 1) (length (rows_of f)) ≡ first_child types (rows_of f) code i
  child_same i code l =
      let E = end_is types (rows_of f) i l in
      let a : i < end_of types (rows_of f) i = E.behind in
      let b : end_of types (rows_of f) i ≤ length (rows_of f) = E.within in
      let n : ℕ = end_of types (rows_of f) i - (i + 1) in
      let d : ℕ = length (rows_of f) - end_of types (rows_of f) i in
      same (length (rows_of f) - (i + 1)) (i + 1)
      ∙ ap (λ k. least_within own k (i + 1)) (let e : length (rows_of f) - (i + 1) ≡ n + d = omega arith in e)
      ∙ cut_end own d n (i + 1) (λ j low high. no_child j (omega arith) (omega arith))
    where
      own : ℕ → Bool
      own j = (row_at (rows_of f) j).code == code && is_child types (rows_of f) (Some i) j

      swapped : (x y : Bool) → (x && y) ≡ (y && x)
      swapped true true = refl
      swapped true false = refl
      swapped false true = refl
      swapped false false = refl

      same : (n k : ℕ) → least_within (λ j. is_child_row types (rows_of f) i code j) n k ≡ least_within own n k
      same zero k = refl
      same (suc n) k = ap₂ (λ b o. cond b (Some k) o) (swapped (is_child types (rows_of f) (Some i) k) ((row_at (rows_of f) k).code == code)) (same n (k + 1))

      no_child : (j : ℕ) → end_of types (rows_of f) i ≤ j → j < length (rows_of f) → own j ≡ false
      no_child j past w = elim (cases_Bool (own j)) [
        | inl is ↦ absurd (
            let parent : parent_row types (rows_of f) j ≡ Some i = one_option (parent_row types (rows_of f) j) (Some i) (and_parts ((row_at (rows_of f) j).code == code) (is_child types (rows_of f) (Some i) j) is).1 in
            let P = parent_span types (rows_of f) j i w parent in
            let J : j < end_of types (rows_of f) j = (end_is types (rows_of f) j w).behind in
            let Q : end_of types (rows_of f) j ≤ end_of types (rows_of f) i = P.2 in omega arith)
        | inr none ↦ none
      ]

  -- a row has no child of a type where it names none as the first, else its first child
  pub child_none : RowsHaveAddresses m f → (i code : ℕ) → i < length (rows_of f) → StepsAreRows types m f i → is_child_type types (row_at (rows_of f) i).code code ≡ true
      → m.first_child (address_at f i) code ≡ 0 → first_child types (rows_of f) code i ≡ None
  child_none A i code l S typed e =
      none_found A (first_child types (rows_of f) code i) (λ j is. (child_is types (rows_of f) i code j l is).within)
      (ap (λ (o : Option ℕ). option_map_or (λ j. address_at f j) o 0) (sym (child_same i code l)) ∙ sym (S.first_child code typed) ∙ e)

  pub child_some : (i code : ℕ) → i < length (rows_of f) → StepsAreRows types m f i → is_child_type types (row_at (rows_of f) i).code code ≡ true → 0 < m.first_child (address_at f i) code
      → (j : ℕ) × (first_child types (rows_of f) code i ≡ Some j) × (path_at types f i ++ m.first_child (address_at f i) code ∷ [] ≡ path_at types f j)
  child_some i code l S typed some =
      let F = some_found (first_child types (rows_of f) code i) (m.first_child (address_at f i) code) some
      (ap (λ (o : Option ℕ). option_map_or (λ j. address_at f j) o 0) (sym (child_same i code l)) ∙ sym (S.first_child code typed)) in
      let C = child_is types (rows_of f) i code F.0 l F.1 in (
        F.0,
        F.1,
        ap (λ x. path_at types f i ++ x ∷ []) (sym F.2)
            ∙ ap (λ (o : Option ℕ). option_map_or (λ q. path_at types f q) o [] ++ address_at f F.0 ∷ []) (sym C.parent)
            ∙ sym (path_is types f F.0),
      )

-- the path of a row is not empty
pub some_path : (types : List SegmentType) (f : Forest Placed) (k : ℕ) → 0 < length (path_at types f k)
some_path types f k = (let e : length (path_at types f k) ≡ length (parent_path types f k) + 1 = ap (λ (xs : List ℕ). length xs) (path_is types f k) ∙ length-append (parent_path types f k) (address_at f k ∷ []) in omega arith)

-- ---- across

-- A search across from row i, below the row at an address, has climbed to a path: that of a row whose span has row i and that is
-- not above that row, or none, above a root.
pub record HasClimbed (types : List SegmentType) (f : Forest Placed) (parent i : ℕ) (path : List ℕ) : Type 0 where
  pub row : 0 < length path → (k : ℕ) × (k ≤ i) × (path ≡ path_at types f k)
      × ((q : ℕ) → address_at f q ≡ parent → q ≤ i → i < end_of types (rows_of f) q → q ≤ k)
      × ((test admits : ℕ → Bool) → NonePassAcross test types (rows_of f) i → is_above_admitted admits types (rows_of f) i ≡ true → HasRisen test admits types (rows_of f) i k)
  pub top : length path ≡ 0 → ((q : ℕ) → address_at f q ≡ parent → q ≤ i → i < end_of types (rows_of f) q → ⊥)
      × ((test : ℕ → Bool) → NonePassAcross test types (rows_of f) i → NonePass test (end_of types (rows_of f) i) (length (rows_of f)))

module _ (types : List SegmentType) (m : Links) (f : Forest Placed) (A : RowsHaveAddresses m f) (parent i : ℕ) (l : i < length (rows_of f)) where
  pub climb_begins : (path : List ℕ) → path ≡ path_at types f i → HasClimbed types f parent i path
  climb_begins path e = record {
    row = λ some. (i, (let r : i ≤ i = omega arith in r), e, (λ q is w inside. (let r : q ≤ i = omega arith in r)), λ test admits across up. begins test admits types (rows_of f) i l up);
    top = λ none. absurd (let s : 0 < length (path_at types f i) = some_path types f i in let z : length path ≡ length (path_at types f i) = ap (λ (xs : List ℕ). length xs) e in omega arith);
  }

  -- from row k, not the row at the address, which has no later twin, up to its parent
  pub climb_goes_on : (k : ℕ) (path : List ℕ) → k ≤ i → address_at f k ≢ parent → ((q : ℕ) → address_at f q ≡ parent → q ≤ i → i < end_of types (rows_of f) q → q ≤ k)
      → ((test admits : ℕ → Bool) → NonePassAcross test types (rows_of f) i → is_above_admitted admits types (rows_of f) i ≡ true → HasRisen test admits types (rows_of f) i k)
      → next_twin types (rows_of f) k ≡ None → path ≡ parent_path types f k → HasClimbed types f parent i path
  climb_goes_on k path low other under risen none is = by (parent_row types (rows_of f) k) refl
    where
      strictly : (q : ℕ) → address_at f q ≡ parent → q ≤ i → i < end_of types (rows_of f) q → q < k
      strictly q e w inside = elim (cases_lt q k) [
        | inl v ↦ v
        | inr v ↦ absurd (other (ap (address_at f) (let u : q ≤ k = under q e w inside in let z : k ≡ q = omega arith in z) ∙ e))
      ]

      by : (o : Option ℕ) → parent_row types (rows_of f) k ≡ o → HasClimbed types f parent i path
      by None e = record {
        row = λ some. absurd (let z : length path ≡ 0 = ap (λ (xs : List ℕ). length xs) (is ∙ ap (λ (o : Option ℕ). option_map_or (λ q. path_at types f q) o []) e) in omega arith);
        top = λ zero. (
          λ q at w inside. (let v : q < k = strictly q at w inside in let P = parent_within types (rows_of f) q k v (omega arith) (omega arith) in apart P.0 (sym e ∙ P.1)),
          λ test across. tops test (λ j. true) types (rows_of f) i k (risen test (λ j. true) across (always (parent_row types (rows_of f) i))) across none e,
        );
      }
        where
          apart : (p : ℕ) → None ≡ Some p → ⊥
          apart p z = cc

          every : (xs : List ℕ) → list_all (λ (j : ℕ). true) xs ≡ true
          every [] = refl
          every (x ∷ xs) = every xs

          always : (o : Option ℕ) → option_map_or (λ q. list_all (λ (j : ℕ). true) (path_of types (rows_of f) q)) o true ≡ true
          always None = refl
          always (Some q) = every (path_of types (rows_of f) q)
      by (Some p) e =
          (let P = parent_span types (rows_of f) k p (omega arith) e in
          let pk : p < k = P.0 in
          let here : path ≡ path_at types f p = is ∙ ap (λ (o : Option ℕ). option_map_or (λ q. path_at types f q) o []) e in
          record {
            row = λ some. (
              p,
              (let r : p ≤ i = omega arith in r),
              here,
              (λ q at w inside. (let v : q < k = strictly q at w inside in let W = parent_within types (rows_of f) q k v (omega arith) (omega arith) in below q p W.0 W.2 (sym e ∙ W.1))),
              λ test admits across up. rises test admits types (rows_of f) i k p l (risen test admits across up) across none e,
            );
            top = λ zero. absurd (let s : 0 < length (path_at types f p) = some_path types f p in let z : length path ≡ length (path_at types f p) = ap (λ (xs : List ℕ). length xs) here in omega arith);
          })
        where
          below : (q p w : ℕ) → q ≤ w → Some p ≡ Some w → q ≤ p
          below q p w v z = (let same : p ≡ w = some z in omega arith)
            where
              some : Some p ≡ Some w → p ≡ w
              some z = cc

  -- to the next twin of row k, in the end
  pub climb_crosses : (k j : ℕ) (path : List ℕ) → k ≤ i → address_at f k ≢ parent → ((q : ℕ) → address_at f q ≡ parent → q ≤ i → i < end_of types (rows_of f) q → q ≤ k)
      → ((test admits : ℕ → Bool) → NonePassAcross test types (rows_of f) i → is_above_admitted admits types (rows_of f) i ≡ true → HasRisen test admits types (rows_of f) i k)
      → next_twin types (rows_of f) k ≡ Some j → path ≡ path_at types f j → GoesAcross types f parent i path
  climb_crosses k j path low other under risen is here test admits begin end ends from inside across up =
      let R = risen test admits across up in
      let C = crosses test admits types (rows_of f) i k j l R across is in
      let T = twin_is types (rows_of f) k j (omega arith) is in
      let before : j < end = elim (cases_lt 0 parent) [
        | inl some ↦
            (let Q = ends.under some in
            let qi : Q.0 < begin = Q.1 in
            let ends_there : end ≡ end_of types (rows_of f) Q.0 = Q.4 in
            let qk : Q.0 ≤ k = under Q.0 Q.3 (omega arith) (omega arith) in
            let strict : Q.0 < k = elim (cases_lt Q.0 k) [
              | inl v ↦ v
              | inr v ↦ absurd (other (ap (address_at f) (let z : k ≡ Q.0 = omega arith in z) ∙ Q.3))
            ] in
            let w : j < end_of types (rows_of f) Q.0 = twin_within types (rows_of f) Q.0 k j strict (omega arith) (omega arith) is in omega arith)
        | inr none ↦ (let all : end ≡ length (rows_of f) = ends.whole (omega arith) in let w : j < length (rows_of f) = T.within in omega arith)
      ] in (
        j,
        C.0,
        C.1,
        (λ z. C.2),
        here ∙ sym (cond-true (nat_lt j end) (path_at types f j) [] (lt-ltb j end before)),
      )

  -- the search ends at the row at the address, or above the roots
  pub climb_ends : (path : List ℕ) → HasClimbed types f parent i path → (0 < length path → (k : ℕ) → k ≤ i → path ≡ path_at types f k → address_at f k ≡ parent) → GoesAcross types f parent i []
  climb_ends path C stops test admits begin end ends from inside across up = elim (cases_lt 0 (length path)) [
    | inl some ↦
        (let R = C.row some in
        let here : address_at f R.0 ≡ parent = stops some R.0 R.1 R.2 in
        let low : R.0 ≤ i = R.1 in
        let there : 0 < address_at f R.0 = (A.there R.0 (omega arith)).some in
        let Q = ends.under (omega arith) in
        let qi : Q.0 < begin = Q.1 in
        let same : R.0 ≡ Q.0 = A.once R.0 Q.0 (omega arith) Q.2 (here ∙ sym Q.3) in
        let stop : end_of types (rows_of f) R.0 ≡ end = ap (end_of types (rows_of f)) same ∙ sym Q.4 in
        let risen = R.4 test admits across up in
        at_end (let n : end_of types (rows_of f) i ≤ end_of types (rows_of f) R.0 = nested types (rows_of f) R.0 i low l risen.high in omega arith)
        (subst (NonePass test (end_of types (rows_of f) i)) stop risen.none))
    | inr none ↦
        (let T = C.top (omega arith) in
        let e : end_of types (rows_of f) i ≤ length (rows_of f) = (end_is types (rows_of f) i l).within in
        elim (cases_lt 0 parent) [
          | inl some ↦
              (let Q = ends.under some in
              let qi : Q.0 < begin = Q.1 in
              let stop : end ≡ end_of types (rows_of f) Q.0 = Q.4 in absurd (T.0 Q.0 Q.3 (omega arith) (omega arith)))
          | inr nil ↦ (let all : end ≡ length (rows_of f) = ends.whole (omega arith) in at_end (omega arith) (subst (NonePass test (end_of types (rows_of f) i)) (sym all) (T.1 test across)))
        ])
  ]
    where
      at_end : end_of types (rows_of f) i ≤ end → NonePass test (end_of types (rows_of f) i) end
          → (number : ℕ) × (end_of types (rows_of f) i ≤ number) × NonePass test (end_of types (rows_of f) i) number
          × (number < end → is_above_admitted admits types (rows_of f) number ≡ true) × ([] ≡ path_within types f end number)
      at_end w none = (end, w, none, λ z. absurd (omega arith), sym (cond-false (nat_lt end end) (path_at types f end) [] (le-ltb end end (omega arith))))

-- ---- below a row

module _ (types : List SegmentType) (f : Forest Placed) (m : Links) (A : RowsHaveAddresses m f) (q : ℕ) (l : q < length (rows_of f)) where
  -- a row is among others by its number just where it is by its address
  any_above : (depth n : ℕ) → n ≤ length (rows_of f) → list_any (λ a. a == address_at f q) (map (λ j. address_at f j) (path_above types (rows_of f) depth n)) ≡ list_any (λ k. k == q) (path_above types (rows_of f) depth n)
  any_above depth zero w = refl
  any_above depth (suc n) w = elim (cases_lt (level_at types (rows_of f) n) depth) [
    | inl above ↦
        (let is : path_above types (rows_of f) depth (suc n) ≡ path_of types (rows_of f) n = cond-true (nat_lt (level_at types (rows_of f) n) depth) (path_of types (rows_of f) n) (path_above types (rows_of f) depth n) (lt-ltb (level_at types (rows_of f) n) depth above) in
        ap (λ (xs : List ℕ). list_any (λ a. a == address_at f q) (map (λ j. address_at f j) xs)) is
        ∙ any_end (path_above types (rows_of f) (level_at types (rows_of f) n) n) n (omega arith) (any_above (level_at types (rows_of f) n) n (omega arith))
        ∙ sym (ap (list_any (λ k. k == q)) is))
    | inr under ↦
        (let is : path_above types (rows_of f) depth (suc n) ≡ path_above types (rows_of f) depth n = cond-false (nat_lt (level_at types (rows_of f) n) depth) (path_of types (rows_of f) n) (path_above types (rows_of f) depth n) (le-ltb (level_at types (rows_of f) n) depth under) in
        ap (λ (xs : List ℕ). list_any (λ a. a == address_at f q) (map (λ j. address_at f j) xs)) is ∙ any_above depth n (omega arith) ∙ sym (ap (list_any (λ k. k == q)) is))
  ]
    where
      one : (n : ℕ) → n < length (rows_of f) → (address_at f n == address_at f q) ≡ (n == q)
      one n w = elim (cases_Bool (n == q)) [
        | inl e ↦ eq-eqb (address_at f n) (address_at f q) (ap (address_at f) (eqb-true n q e)) ∙ sym e
        | inr e ↦ ne_eqb (address_at f n) (address_at f q) (λ z. false≢true (sym e ∙ eq-eqb n q (A.once n q w l z))) ∙ sym e
      ]

      any_end : (xs : List ℕ) (n : ℕ) → n < length (rows_of f) → list_any (λ a. a == address_at f q) (map (λ j. address_at f j) xs) ≡ list_any (λ k. k == q) xs
          → list_any (λ a. a == address_at f q) (map (λ j. address_at f j) (xs ++ n ∷ [])) ≡ list_any (λ k. k == q) (xs ++ n ∷ [])
      any_end xs n w e =
          ap (list_any (λ a. a == address_at f q)) (map_end (λ j. address_at f j) xs n)
          ∙ list_any-append (λ a. a == address_at f q) (map (λ j. address_at f j) xs) (address_at f n ∷ [])
          ∙ ap₂ (λ a b. a || b) e (ap (λ b. b || false) (one n w))
          ∙ sym (list_any-append (λ k. k == q) xs (n ∷ []))

  pub any_on_path : (n : ℕ) → n < length (rows_of f) → list_any (λ a. a == address_at f q) (path_at types f n) ≡ (nat_le q n && nat_lt n (end_of types (rows_of f) q))
  any_on_path n w =
      ap (list_any (λ a. a == address_at f q)) (sym (ap (map (λ j. address_at f j)) (all_of n)))
      ∙ any_above (suc (level_at types (rows_of f) n)) (suc n) (omega arith)
      ∙ ap (list_any (λ k. k == q)) (all_of n)
      ∙ spans_below types (rows_of f) q n w
    where
      all_of : (n : ℕ) → path_above types (rows_of f) (suc (level_at types (rows_of f) n)) (suc n) ≡ path_of types (rows_of f) n
      all_of n = cond-true (nat_lt (level_at types (rows_of f) n) (suc (level_at types (rows_of f) n))) (path_of types (rows_of f) n) (path_above types (rows_of f) (suc (level_at types (rows_of f) n)) n) (lt-ltb (level_at types (rows_of f) n) (suc (level_at types (rows_of f) n)) (omega arith))

-- a path that has left the rows of the search leads to none
pub stays : (types : List SegmentType) (f : Forest Placed) (m : Links) (A : RowsHaveAddresses m f) (parent i end n : ℕ) (path : List ℕ) → EndsAt types f parent i end → i ≤ n
    → path ≡ path_within types f (length (rows_of f)) n → cond (parent == 0 || list_any (λ a. a == parent) path) path [] ≡ path_within types f end n
stays types f m A parent i end n path ends from is = elim (cases_lt 0 parent) [
  | inr none ↦
      (let z : parent ≡ 0 = omega arith in
      cond-true (parent == 0 || list_any (λ a. a == parent) path) path [] (ap (λ b. b || list_any (λ a. a == parent) path) (eq-eqb parent 0 z))
      ∙ is ∙ ap (λ e. path_within types f e n) (sym (ends.whole z)))
  | inl some ↦
      (let Q = ends.under some in
      let q : Q.0 < i = Q.1 in
      let E = end_is types (rows_of f) Q.0 Q.2 in
      let ew : end_of types (rows_of f) Q.0 ≤ length (rows_of f) = E.within in
      let stop : end ≡ end_of types (rows_of f) Q.0 = Q.4 in
      let opened : (parent == 0 || list_any (λ a. a == parent) path) ≡ list_any (λ a. a == parent) path = ap (λ b. b || list_any (λ a. a == parent) path) (ne_eqb parent 0 (λ (z : parent ≡ 0). omega arith)) in
      elim (cases_lt n (length (rows_of f))) [
        | inl here ↦
            (let at : path ≡ path_at types f n = is ∙ cond-true (nat_lt n (length (rows_of f))) (path_at types f n) [] (lt-ltb n (length (rows_of f)) here) in
            let any : list_any (λ a. a == parent) path ≡ (nat_le Q.0 n && nat_lt n (end_of types (rows_of f) Q.0))
            = ap₂ (λ (p : ℕ) (xs : List ℕ). list_any (λ a. a == p) xs) (sym Q.3) at ∙ any_on_path types f m A Q.0 Q.2 n here in
            let low : nat_le Q.0 n ≡ true = le-leb Q.0 n (omega arith) in
            ap (λ b. cond b path []) (opened ∙ any ∙ ap (λ b. b && nat_lt n (end_of types (rows_of f) Q.0)) low ∙ ap (nat_lt n) (sym stop)) ∙ ap (λ (xs : List ℕ). cond (nat_lt n end) xs []) at)
        | inr past ↦
            (let none : path ≡ [] = is ∙ cond-false (nat_lt n (length (rows_of f))) (path_at types f n) [] (le-ltb n (length (rows_of f)) past) in
            ap (λ b. cond b path []) (opened ∙ ap (list_any (λ a. a == parent)) none)
            ∙ sym (cond-false (nat_lt n end) (path_at types f n) [] (le-ltb n end (omega arith))))
      ])
]

-- ---- paths of code

-- a path that is not said to be empty has a row
pub full_path : (path : List ℕ) (addresses : List ℕ) (b : Bool) → addresses ≡ path → b ≡ (length addresses == 0) → b ≡ false → 0 < length path
full_path [] addresses b e is some = absurd (false≢true (sym some ∙ is ∙ eq-eqb (length addresses) 0 (ap (λ (xs : List ℕ). length xs) e)))
full_path (x ∷ xs) addresses b e is some = omega arith

-- a path said to be empty has none
pub empty_is : (path : List ℕ) (addresses : List ℕ) (b : Bool) → addresses ≡ path → b ≡ (length addresses == 0) → b ≡ true → length path ≡ 0
empty_is path addresses b e is empty = ap (λ (xs : List ℕ). length xs) (sym e) ∙ eqb-true (length addresses) 0 (sym is ∙ empty)

-- a parent's path that is not empty is that of the parent
pub parent_at : (types : List SegmentType) (f : Forest Placed) (i : ℕ) (path : List ℕ) → path ≡ parent_path types f i → 0 < length path
    → (q : ℕ) × (parent_row types (rows_of f) i ≡ Some q) × (path ≡ path_at types f q)
parent_at types f i path e some = by (parent_row types (rows_of f) i) refl
  where
    by : (o : Option ℕ) → parent_row types (rows_of f) i ≡ o → (q : ℕ) × (parent_row types (rows_of f) i ≡ Some q) × (path ≡ path_at types f q)
    by None is = absurd (let z : length path ≡ 0 = ap (λ (xs : List ℕ). length xs) (e ∙ ap (λ (o : Option ℕ). option_map_or (λ q. path_at types f q) o []) is) in omega arith)
    by (Some q) is = (q, is, e ∙ ap (λ (o : Option ℕ). option_map_or (λ q. path_at types f q) o []) is)

pub parent_there : (types : List SegmentType) (m : Links) (f : Forest Placed) (i : ℕ) → Holds types m f → i < length (rows_of f) → (path : List ℕ) → path ≡ parent_path types f i → 0 < length path → IsOnSomeRow types m path
parent_there types m f i holds l path e some =
    let P = parent_at types f i path e some in
    let w : P.0 < i = (parent_span types (rows_of f) i P.0 l P.1).0 in (f, P.0, record { holds = holds; within = omega arith; is = P.2 })

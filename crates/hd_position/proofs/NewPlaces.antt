-- Where a PCB stands behind its own insertion: which row is then its parentage row.
use Rattle.std.proofs.Common.{◌≡◌, ℕ, zero, suc, ◌+◌, ◌<◌, ◌≤◌, List, [], ◌∷◌, length, Bool, true, false, refl, ap, ap₂, sym, ◌∙◌, subst, arith, inl, inr, Option, Some, None}
use Rattle.std.specs.Prelude.{slice_get, option_map, nat_lt, nat_le, ◌&&◌, ◌||◌, ◌==◌, is_some}
use Rattle.std.specs.List.{list_any}
use Rattle.std.specs.Option.{option_eq}
use Rattle.std.proofs.lemmas.Bool.{cases_Bool, cond-true, cond-false, and_parts, and_from, eqb-true, eq-eqb, lt-ltb, le-leb, ltb-true, false≢true}
use Rattle.std.proofs.lemmas.List.{length-map, length-append}
use Rattle.hd_dbd.specs.declared.hierarchy.FreeSpace.{FreeSpace}
use Rattle.hd_dbd.specs.Types.{SegmentType}
use Rattle.hd_dbd.specs.Segment.{Segment}
use Rattle.hd_dbd.specs.Paths.{level_at, path_above, path_of, end_of}
use Rattle.hd_dbd.specs.Positions.{Position}
use Rattle.hd_dbd.specs.Forest.{Forest}
use Rattle.hd_calls.specs.Steps.{parent_of_new}
use Rattle.hd_calls.proofs.Spans.{IsEnd, end_is}
use Rattle.hd_calls.proofs.PathSpans.{spans_below}
use Rattle.hd_links.specs.Links.{Links}
use Rattle.hd_links.specs.Placed.{Placed}
use Rattle.hd_links.specs.Steps.{rows_of, address_at, path_at, RowsHaveAddresses}
use Rattle.hd_links.proofs.Numbers.{rows_addressed}
use Rattle.hd_forest.specs.Rows.{IsOnRow}
use Rattle.hd_position.specs.Kept.{Kept, StandsFor, path_passed, row_on}
use Rattle.hd_position.specs.Inserts.{is_below_parent}
use Rattle.hd_position.specs.Laws.{IsHeld}
use Rattle.hd_position.proofs.Before.{path_levels}
use Rattle.hd_position.proofs.Falling.{get_below}
use Rattle.hd_position.proofs.Leaving.{passed_below}
use Rattle.hd_position.proofs.OnPaths.{span_on_path}
use Rattle.hd_position.proofs.Prefixes.{ended_get, long_as_level}
use Rattle.hd_position.proofs.Rising.{row_on_map}
use Rattle.hd_position.proofs.Splices.{above_below, below_more}

-- what is got from a list is in it
got_in : (xs : List ℕ) (l x : ℕ) → slice_get xs l ≡ Some x → list_any (λ y. y == x) xs ≡ true
got_in [] l x e = absurd (false≢true (ap is_some e))
got_in (y ∷ ys) zero x e = ap (λ (b : Bool). b || list_any (λ z. z == x) ys) (eq-eqb y x (let s : y ≡ x = cc in s))
got_in (y ∷ ys) (suc l) x e = or_true (y == x) (list_any (λ z. z == x) ys) (got_in ys l x e)
  where
    or_true : (a b : Bool) → b ≡ true → (a || b) ≡ true
    or_true true b e = refl
    or_true false b e = e

some_one : (x y : ℕ) → Some x ≡ Some y → x ≡ y
some_one x y e = cc

same_option : (a b : Option ℕ) → option_eq (λ x y. x == y) a b ≡ true → a ≡ b
same_option None None e = refl
same_option None (Some y) e = cc
same_option (Some x) None e = cc
same_option (Some x) (Some y) e = ap (λ (z : ℕ). Some z) (eqb-true x y e)

-- a level on the path has a row
has_row : (xs : List ℕ) (l : ℕ) → 0 < l → l ≤ length xs → row_on xs l ≡ None → ⊥
has_row xs zero some within e = absurd (omega arith)
has_row xs (suc l) some within e = none xs l (omega arith) e
  where
    none : (xs : List ℕ) (l : ℕ) → l < length xs → slice_get xs l ≡ None → ⊥
    none [] l w e = absurd (omega arith)
    none (y ∷ ys) zero w e = cc
    none (y ∷ ys) (suc l) w e = none ys l (omega arith) e

-- what the three tests say
parts : (k : Kept) (path : List ℕ) → is_below_parent k path ≡ true → (0 < k.parent) × (k.parent < length path) × (row_on path k.parent ≡ row_on k.path k.parent)
parts k path below =
    let outer = and_parts (nat_lt 0 k.parent && nat_lt k.parent (length path)) (option_eq (λ a b. a == b) (row_on path k.parent) (row_on k.path k.parent)) below in
    let inner = and_parts (nat_lt 0 k.parent) (nat_lt k.parent (length path)) outer.0 in
    (ltb-true 0 k.parent inner.0, ltb-true k.parent (length path) inner.1, same_option (row_on path k.parent) (row_on k.path k.parent) outer.1)

pub same_on : (k : Kept) (path : List ℕ) → is_below_parent k path ≡ true → row_on path k.parent ≡ row_on k.path k.parent
same_on k path below = (parts k path below).2

module _ (block_size : ℕ) (frspc : FreeSpace) (types : List SegmentType) (bound : ℕ) (m : Links) (f : Forest Placed) (D : IsHeld block_size frspc types bound m f)
    (k : Kept) (q : Position) (F : StandsFor types f k q) (path : List ℕ) (i : ℕ) (on : IsOnRow types m f path i) where
  abbrev R : List Segment
  R = rows_of f

  abbrev before : List ℕ
  before = path_passed types (rows_of f) q.passed

  abbrev own : List ℕ
  own = path_of types (rows_of f) i

  addressed : RowsHaveAddresses m f
  addressed = rows_addressed types m f D.holds

  -- the parentage row's address on the PCB's path
  there : row_on k.path k.parent ≡ option_map (λ j. address_at f j) q.parent
  there = ap (λ (xs : List ℕ). row_on xs k.parent) F.path ∙ row_on_map (λ j. address_at f j) before k.parent ∙ ap (option_map (λ j. address_at f j)) (sym F.parent)

  on_own : (l : ℕ) → row_on path l ≡ option_map (λ j. address_at f j) (row_on own l)
  on_own l = ap (λ (xs : List ℕ). row_on xs l) on.is ∙ row_on_map (λ j. address_at f j) own l

  long : length path ≡ length own
  long = ap (λ (xs : List ℕ). length xs) on.is ∙ length-map own (λ j. address_at f j)

  row_below : (n l x : ℕ) → n ≤ length (rows_of f) → row_on (path_passed types (rows_of f) n) l ≡ Some x → x < length (rows_of f)
  row_below n zero x w e = absurd (false≢true (ap is_some e))
  row_below n (suc l) x w e = get_below (length (rows_of f)) (path_passed types (rows_of f) n) l x (below_more n (length (rows_of f)) (path_passed types (rows_of f) n) w (passed_below types (rows_of f) n)) e

  -- the row at a level of the row's own path
  found : (l p : ℕ) → p < length (rows_of f) → row_on path l ≡ Some (address_at f p) → (o : Option ℕ) → row_on own l ≡ o → row_on own l ≡ Some p
  found l p within e None is = absurd (false≢true (ap is_some (sym (ap (option_map (λ j. address_at f j)) is) ∙ sym (on_own l) ∙ e)))
  found l p within e (Some x) is =
      let at : address_at f x ≡ address_at f p = some_one (address_at f x) (address_at f p) (sym (ap (option_map (λ j. address_at f j)) is) ∙ sym (on_own l) ∙ e) in
      is ∙ ap (λ (y : ℕ). Some y) (addressed.once x p (row_below (suc i) l x on.within is) within at)

  -- it is before the row, but for the last level
  is_before : (l p : ℕ) → l < length own → row_on own l ≡ Some p → p < i
  is_before zero p short e = absurd (false≢true (ap is_some e))
  is_before (suc j) p short e = elim (ended_get (path_above types (rows_of f) (level_at types (rows_of f) i) i) i j p e) [
    | inl front ↦ get_below i (path_above types (rows_of f) (level_at types (rows_of f) i) i) j p (above_below types (rows_of f) (level_at types (rows_of f) i) i) front
    | inr last ↦
        (let size : length own ≡ length (path_above types (rows_of f) (level_at types (rows_of f) i) i) + 1 = length-append (path_above types (rows_of f) (level_at types (rows_of f) i) i) (i ∷ []) in
        let place : j ≡ length (path_above types (rows_of f) (level_at types (rows_of f) i) i) = last.place in absurd (omega arith))
  ]

  some_level : (xs : List ℕ) (l x : ℕ) → row_on xs l ≡ Some x → 0 < l
  some_level xs zero x e = absurd (false≢true (ap is_some e))
  some_level xs (suc l) x e = omega arith

  in_own : (l p : ℕ) → row_on own l ≡ Some p → list_any (λ j. j == p) own ≡ true
  in_own zero p e = absurd (false≢true (ap is_some e))
  in_own (suc l) p e = got_in own l p e

  -- below it, where it stays on the path
  stays : (o : Option ℕ) → q.parent ≡ o → is_below_parent k path ≡ true → q.parent ≡ parent_of_new types (rows_of f) q.parent i
  stays None is below =
      let P = parts k path below in
      let short : k.parent < length path = P.1 in
      absurd (has_row path k.parent P.0 (omega arith) (P.2 ∙ there ∙ ap (option_map (λ j. address_at f j)) is))
  stays (Some p) is below =
      let P = parts k path below in
      let within : p < length (rows_of f) = row_below q.passed k.parent p F.within (sym F.parent ∙ is) in
      let on_it : row_on own k.parent ≡ Some p = found k.parent p within (P.2 ∙ there ∙ ap (option_map (λ j. address_at f j)) is) (row_on own k.parent) refl in
      let first : p < i = is_before k.parent p (subst (λ (n : ℕ). k.parent < n) long P.1) on_it in
      let inside = and_parts (nat_le p i) (nat_lt i (end_of types (rows_of f) p)) (sym (spans_below types (rows_of f) p i on.within) ∙ in_own k.parent p on_it) in
      is ∙ sym (ap (λ (o : Option ℕ). parent_of_new types (rows_of f) o i) is ∙ cond-true _ _ _ (and_from (nat_lt p i) (nat_lt i (end_of types (rows_of f) p)) (lt-ltb p i first) inside.1))

  -- itself, where it does not
  leaves : (o : Option ℕ) → q.parent ≡ o → is_below_parent k path ≡ false → Some i ≡ parent_of_new types (rows_of f) q.parent i
  leaves None is off = sym (ap (λ (o : Option ℕ). parent_of_new types (rows_of f) o i) is)
  leaves (Some p) is off = elim (cases_Bool (nat_lt p i && nat_lt i (end_of types (rows_of f) p))) [
    | inl inside ↦
        (let A = and_parts (nat_lt p i) (nat_lt i (end_of types (rows_of f) p)) inside in
        let first : p < i = ltb-true p i A.0 in
        let last : i < end_of types (rows_of f) p = ltb-true i (end_of types (rows_of f) p) A.1 in
        let at : row_on before k.parent ≡ Some p = sym F.parent ∙ is in
        let within : p < length (rows_of f) = row_below q.passed k.parent p F.within at in
        let level_p : level_at types (rows_of f) p ≡ k.parent
        = sym (path_levels block_size frspc types bound m f p D within).0 ∙ length-map (path_of types (rows_of f) p) (λ j. address_at f j) ∙ long_as_level types (rows_of f) q.passed k.parent p at in
        let level_i : length path ≡ level_at types (rows_of f) i = ap (λ (xs : List ℕ). length xs) on.is ∙ (path_levels block_size frspc types bound m f i D on.within).0 in
        let E : IsEnd types (rows_of f) p (end_of types (rows_of f) p) = end_is types (rows_of f) p within in
        let deeper : level_at types (rows_of f) p < level_at types (rows_of f) i = E.deeper i (omega arith) last in
        let spot : row_on (path_at types f i) (level_at types (rows_of f) p) ≡ Some (address_at f p)
        = same_option (row_on (path_at types f i) (level_at types (rows_of f) p)) (Some (address_at f p))
        (span_on_path block_size frspc types bound m f i p D on.within within ∙ and_from (nat_le p i) (nat_lt i (end_of types (rows_of f) p)) (le-leb p i (omega arith)) A.1) in
        let here : row_on path k.parent ≡ Some (address_at f p)
        = ap (λ (xs : List ℕ). row_on xs k.parent) on.is ∙ ap (row_on (path_at types f i)) (sym level_p) ∙ spot in
        let both : option_eq (λ a b. a == b) (row_on path k.parent) (row_on k.path k.parent) ≡ true
        = ap₂ (λ (a b : Option ℕ). option_eq (λ x y. x == y) a b) here (there ∙ ap (option_map (λ j. address_at f j)) is) ∙ eq-eqb (address_at f p) (address_at f p) refl in
        let some : 0 < k.parent = some_level before k.parent p at in
        absurd (false≢true (sym off ∙ and_from _ _ (and_from (nat_lt 0 k.parent) (nat_lt k.parent (length path)) (lt-ltb 0 k.parent some) (lt-ltb k.parent (length path) (omega arith))) both)))
    | inr none ↦ sym (ap (λ (o : Option ℕ). parent_of_new types (rows_of f) o i) is ∙ cond-false _ _ _ none)
  ]

  pub parent_stays_new : is_below_parent k path ≡ true → q.parent ≡ parent_of_new types (rows_of f) q.parent i
  parent_stays_new below = stays q.parent refl below

  pub parent_is_new : is_below_parent k path ≡ false → Some i ≡ parent_of_new types (rows_of f) q.parent i
  parent_is_new off = leaves q.parent refl off

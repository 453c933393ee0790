-- Where a get begins, and what it leaves.
use Rattle.std.proofs.Common.{◌≡◌, ℕ, zero, suc, ◌+◌, ◌<◌, ◌≤◌, List, [], ◌∷◌, length, Bool, arith, ap, sym, ◌∙◌, subst, refl, Option, Some, None, Result, Ok, Err, IfOk, IfSome}
use Rattle.std.specs.Prelude.{map, slice_get, option_map, cond}
use Rattle.std.proofs.lemmas.List.{length-map}
use Rattle.hd_dbd.specs.Types.{SegmentType}
use Rattle.hd_dbd.specs.Paths.{row_at, level_at, path_above, path_of}
use Rattle.hd_dbd.specs.Positions.{Position, Place}
use Rattle.hd_dbd.specs.Forest.{Forest}
use Rattle.hd_calls.specs.declared.call.GetKind.{GetKind}
use Rattle.hd_calls.specs.declared.call.GetKind.TheVariants.{Unique, Next, NextInParent}
use Rattle.hd_calls.specs.Gets.{onto, parent_after}
use Rattle.hd_links.specs.Links.{Links}
use Rattle.hd_links.specs.Placed.{Placed}
use Rattle.hd_links.specs.Steps.{rows_of, address_at, RowsHaveAddresses}
use Rattle.hd_forest.specs.Walks.{AreSegments, next_on}
use Rattle.hd_forest.specs.Rows.{path_to, IsOnRow, StepsGoToRows}
use Rattle.hd_position.specs.Kept.{Kept, StandsFor, AreRowsOn, path_passed, path_before, row_on}
use Rattle.hd_position.specs.Standing.{standing_on, parent_kept}
use Rattle.hd_position.specs.Gets.{AreTaken, KeepsParent}
use Rattle.hd_position.proofs.Lists.{last_on}
use Rattle.hd_position.proofs.Rising.{row_on_map}
use Rattle.hd_position.proofs.Splices.{AllBelow, below_more}
use Rattle.hd_position.proofs.Falling.{get_below}
use Rattle.hd_position.proofs.Leaving.{passed_below}

-- ---- the beginning

-- what two clauses say of what a call may find, as one
pub found_both : {A E : Type 0} {P Q R : A → Type 0} (r : Result (Option A) E) → IfOk r (λ o. IfSome o P) → IfOk r (λ o. IfSome o Q) → ((x : A) → P x → Q x → R x) → IfOk r (λ o. IfSome o R)
found_both (Ok (Some x)) p q f = f x p q
found_both (Ok None) p q f = tt
found_both (Err e) p q f = tt

module _ (types : List SegmentType) (m : Links) (f : Forest Placed) (S : StepsGoToRows types m f) where
  step_behind : (n : ℕ) → n ≤ length (rows_of f) → next_on types m (path_before types f n) ≡ path_to types f n
  step_behind zero l = S.first
  step_behind (suc i) l = S.next i (omega arith) ∙ ap (path_to types f) (let e : i + 1 ≡ suc i = omega arith in e)

  segments_before : (n : ℕ) → n ≤ length (rows_of f) → AreSegments m (path_before types f n)
  segments_before zero l = tt
  segments_before (suc i) l = S.segments i (omega arith)

  pub begins_behind : (k : Kept) (q : Position) → StandsFor types f k q → next_on types m k.path ≡ path_to types f q.passed
  begins_behind k q F = ap (next_on types m) F.path ∙ step_behind q.passed F.within

  pub begins_there : (k : Kept) (q : Position) → StandsFor types f k q → AreSegments m k.path
  begins_there k q F = subst (AreSegments m) (sym F.path) (segments_before q.passed F.within)

-- ---- the row found

-- a level at which something stands is on the path
level_on : (xs : List ℕ) (l : ℕ) (x : ℕ) → row_on xs l ≡ Some x → l ≤ length xs
level_on xs zero x e = omega arith
level_on xs (suc l) x e = within xs l x e
  where
    within : (xs : List ℕ) (l x : ℕ) → slice_get xs l ≡ Some x → suc l ≤ length xs
    within [] l x e = cc
    within (y ∷ ys) zero x e = omega arith
    within (y ∷ ys) (suc l) x e = (let i : suc l ≤ length ys = within ys l x e in omega arith)

-- a level on the path at which nothing stands is 0
no_level : (xs : List ℕ) (l : ℕ) → l ≤ length xs → row_on xs l ≡ None → l ≡ 0
no_level xs zero w e = refl
no_level xs (suc l) w e = absurd (some xs l (omega arith) e)
  where
    some : (xs : List ℕ) (l : ℕ) → l < length xs → slice_get xs l ≡ None → ⊥
    some [] l w e = absurd (omega arith)
    some (y ∷ ys) zero w e = cc
    some (y ∷ ys) (suc l) w e = some ys l (omega arith) e

module _ (types : List SegmentType) (m : Links) (f : Forest Placed) (R : RowsHaveAddresses m f) (old : Kept) (q : Position) (F : StandsFor types f old q) (path : List ℕ) (i : ℕ) (on : IsOnRow types m f path i) where
  abbrev own : List ℕ
  own = path_of types (rows_of f) i

  behind : path_passed types (rows_of f) (i + 1) ≡ path_of types (rows_of f) i
  behind = ap (path_passed types (rows_of f)) (let e : i + 1 ≡ suc i = omega arith in e)

  size : length path ≡ length (path_of types (rows_of f) i)
  size = ap (λ (xs : List ℕ). length xs) on.is ∙ length-map (path_of types (rows_of f) i) (λ j. address_at f j)

  itself : Some i ≡ row_on (path_of types (rows_of f) i) (length path)
  itself = sym (ap (row_on (path_of types (rows_of f) i)) size ∙ last_on (path_above types (rows_of f) (level_at types (rows_of f) i) i) i)

  -- rows of one address are one
  same_row : (xs ys : List ℕ) (l : ℕ) → AllBelow (length (rows_of f)) xs → AllBelow (length (rows_of f)) ys → (a b : Option ℕ) → row_on xs l ≡ a → row_on ys l ≡ b
      → option_map (λ j. address_at f j) a ≡ option_map (λ j. address_at f j) b → a ≡ b
  same_row xs ys l u v None None d e s = refl
  same_row xs ys l u v None (Some y) d e s = cc
  same_row xs ys l u v (Some x) None d e s = cc
  same_row xs ys l u v (Some x) (Some y) d e s =
      let at : address_at f x ≡ address_at f y = cc in
      ap (λ (z : ℕ). Some z) (R.once x y (below xs l x u d) (below ys l y v e) at)
    where
      below : (zs : List ℕ) (l x : ℕ) → AllBelow (length (rows_of f)) zs → row_on zs l ≡ Some x → x < length (rows_of f)
      below zs zero x u d = cc
      below zs (suc l) x u d = get_below (length (rows_of f)) zs l x u d

  -- the parentage row, where it stays on the path
  parent_stays : row_on path old.parent ≡ row_on old.path old.parent → q.parent ≡ row_on (path_of types (rows_of f) i) old.parent
  parent_stays stays =
      let before : List ℕ = path_passed types (rows_of f) q.passed in
      F.parent ∙ same_row before own old.parent
      (below_more q.passed (length (rows_of f)) (path_passed types (rows_of f) q.passed) F.within (passed_below types (rows_of f) q.passed))
      (below_more (suc i) (length (rows_of f)) (path_of types (rows_of f) i) (let w : i < length (rows_of f) = on.within in omega arith) (passed_below types (rows_of f) (suc i)))
      (row_on before old.parent) (row_on own old.parent) refl refl
      (sym (row_on_map (λ j. address_at f j) (path_passed types (rows_of f) q.passed) old.parent) ∙ ap (λ (xs : List ℕ). row_on xs old.parent) (sym F.path)
      ∙ sym stays ∙ ap (λ (xs : List ℕ). row_on xs old.parent) on.is ∙ row_on_map (λ j. address_at f j) (path_of types (rows_of f) i) old.parent)

  parent_within : (o : Option ℕ) → row_on path old.parent ≡ o → row_on path old.parent ≡ row_on old.path old.parent → old.parent ≤ length path
  parent_within None e stays = (let z : old.parent ≡ 0 = no_level old.path old.parent F.parent_level (sym stays ∙ e) in omega arith)
  parent_within (Some x) e stays = level_on path old.parent x e

  parent_is : (kind : GetKind) → KeepsParent kind old path → (parent_after kind q i ≡ row_on (path_of types (rows_of f) i) (parent_kept kind old path)) × (parent_kept kind old path ≤ length path)
  parent_is Unique keeps = (itself, omega arith)
  parent_is Next keeps = (itself, omega arith)
  parent_is NextInParent keeps = (parent_stays (keeps refl), parent_within (row_on path old.parent) refl (keeps refl))

  pub stands_onto : (kind : GetKind) (levels : List ℕ) (hold : Bool) (taken : List ℕ) → KeepsParent kind old path → AreTaken types f path levels i hold taken
      → (last : Place) → last ≡ record { level = level_at types (rows_of f) i; code = (row_at (rows_of f) i).code }
      → StandsFor types f (standing_on kind old path last levels) (onto types (rows_of f) q kind hold taken i)
  stands_onto kind levels hold taken keeps T last is =
      let w : i < length (rows_of f) = on.within in
      let P = parent_is kind keeps in
      record {
        within = omega arith;
        path = on.is ∙ sym (ap (map (λ j. address_at f j)) behind);
        standing = itself ∙ sym (ap (λ (xs : List ℕ). row_on xs (length path)) behind);
        last = ap (λ (p : Place). Some p) (sym is);
        parent = P.0 ∙ sym (ap (λ (xs : List ℕ). row_on xs (parent_kept kind old path)) behind);
        held = subst (λ (xs : List ℕ). AreRowsOn xs levels (cond hold taken [])) (sym behind) T.rows;
        standing_level = omega arith;
        parent_level = P.1;
        held_levels = T.ascend;
      }

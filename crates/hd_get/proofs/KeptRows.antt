-- The rows at the levels of what is kept of a PCB.
use Rattle.std.proofs.Common.{◌≡◌, ℕ, zero, suc, ◌-◌, ◌<◌, ◌≤◌, List, [], ◌∷◌, length, take, Option, Some, None, refl, sym, ap, subst, ◌∙◌, arith, inl, inr}
use Rattle.std.specs.Prelude.{slice_get}
use Rattle.std.proofs.lemmas.Bool.{cases_lt}
use Rattle.hd_dbd.specs.Types.{SegmentType}
use Rattle.hd_dbd.specs.Hierarchy.{level_of}
use Rattle.hd_dbd.specs.Segment.{Segment}
use Rattle.hd_dbd.specs.Paths.{row_at, level_at, path_above, path_of}
use Rattle.hd_calls.specs.Satisfies.{on_path, on_path_at}
use Rattle.hd_position.specs.Kept.{path_passed, row_on}
use Rattle.hd_position.proofs.Lists.{last_on}
use Rattle.hd_calls.specs.Admits.{AreRowsOf}
use Rattle.hd_calls.proofs.OnPaths.{Spans, IsOnPath, spans_self, on_path_is, on_path_of, some_level}
use Rattle.hd_calls.proofs.SearchLevels.{path_length, path_at}
use Rattle.hd_get.proofs.RowsAbove.{row_above, take_all, take_size}

-- a level at which something stands is on the path
pub level_on : (xs : List ℕ) (l x : ℕ) → row_on xs l ≡ Some x → l ≤ length xs
level_on xs zero x e = omega arith
level_on xs (suc l) x e = within xs l x e
  where
    within : (xs : List ℕ) (l x : ℕ) → slice_get xs l ≡ Some x → suc l ≤ length xs
    within [] l x e = cc
    within (y ∷ ys) zero x e = omega arith
    within (y ∷ ys) (suc l) x e = (let i : suc l ≤ length ys = within ys l x e in omega arith)

-- at a level on the path something stands
pub on_level : (xs : List ℕ) (l : ℕ) → 0 < l → l ≤ length xs → (x : ℕ) × (row_on xs l ≡ Some x)
on_level xs zero some w = absurd (omega arith)
on_level xs (suc l) some w = got xs l (omega arith)
  where
    got : (xs : List ℕ) (l : ℕ) → l < length xs → (x : ℕ) × (slice_get xs l ≡ Some x)
    got [] l w = absurd (omega arith)
    got (y ∷ ys) zero w = (y, refl)
    got (y ∷ ys) (suc l) w = got ys l (omega arith)

-- what stands on a path at a level stands there on the path cut at a lower one
pub row_on_front : (n : ℕ) (xs : List ℕ) (l : ℕ) → l ≤ n → row_on (take n xs) l ≡ row_on xs l
row_on_front n xs zero w = refl
row_on_front n xs (suc l) w = front n xs l (omega arith)
  where
    front : (n : ℕ) (xs : List ℕ) (i : ℕ) → i < n → slice_get (take n xs) i ≡ slice_get xs i
    front zero xs i l = absurd (omega arith)
    front (suc n) [] i l = refl
    front (suc n) (x ∷ xs) zero l = refl
    front (suc n) (x ∷ xs) (suc i) l = front n xs i (omega arith)

-- some row is the last of the rows passed where something stands on its path
pub last_passed : (types : List SegmentType) (rows : List Segment) (n l x : ℕ) → row_on (path_passed types rows n) l ≡ Some x → (m : ℕ) × (n ≡ suc m)
last_passed types rows zero zero x e = cc
last_passed types rows zero (suc l) x e = cc
last_passed types rows (suc m) l x e = (m, refl)

-- Row x stands on the path of row m at a level: it spans row m, the level is its own, and its path is that of row m down to it.
pub record IsPathRow (types : List SegmentType) (rows : List Segment) (m l x : ℕ) : Type 0 where
  pub spans : Spans types rows x m
  pub level : level_at types rows x ≡ l
  pub path : path_of types rows x ≡ take l (path_of types rows m)

module _ (types : List SegmentType) (rows : List Segment) (over : AreRowsOf types rows) where
  -- a path down to a level is that of a row that spans its last
  row_of : (m l : ℕ) → m < length rows → 0 < l → l ≤ length (path_of types rows m) → (a : ℕ) × Spans types rows a m × (path_of types rows a ≡ take l (path_of types rows m))
  row_of m l within some most = elim (cases_lt l (length (path_of types rows m))) [
    | inl short ↦
        (let R = row_above types rows (suc m) m l (omega arith) within some short in
        let before : R.0 < m = R.1.before in
        (R.0, record { from = omega arith; to = R.1.spans }, R.1.is))
    | inr all ↦
        (let z : l ≡ length (path_of types rows m) = omega arith in
        (m, spans_self types rows m within, sym (ap (λ k. take k (path_of types rows m)) z ∙ take_all (path_of types rows m))))
  ]

  pub path_row_is : (m l x : ℕ) → m < length rows → row_on (path_of types rows m) l ≡ Some x → IsPathRow types rows m l x
  path_row_is m zero x within e = cc
  path_row_is m (suc l) x within e =
      let most : suc l ≤ length (path_of types rows m) = level_on (path_of types rows m) (suc l) x e in
      let A = row_of m (suc l) within (omega arith) most in
      let from : A.0 ≤ m = A.1.from in
      let size : length (path_of types rows A.0) ≡ suc l = ap (λ (xs : List ℕ). length xs) A.2 ∙ take_size (suc l) (path_of types rows m) most in
      let last : row_on (path_of types rows A.0) (suc l) ≡ Some A.0
      = ap (row_on (path_of types rows A.0)) (sym size) ∙ last_on (path_above types rows (level_at types rows A.0) A.0) A.0 in
      let same : Some A.0 ≡ Some x = sym last ∙ ap (λ (xs : List ℕ). row_on xs (suc l)) A.2 ∙ row_on_front (suc l) (path_of types rows m) (suc l) (omega arith) ∙ e in
      let at : A.0 ≡ x = cc in
      subst (IsPathRow types rows m (suc l)) at (record {
        spans = A.1;
        level = sym (path_length types rows over A.0 (omega arith)) ∙ size;
        path = A.2;
      })

  -- the row of a type on a path stands at the type's level
  pub on_path_level : (s p y : ℕ) → s < length rows → on_path types rows p s ≡ Some y → (row_on (path_of types rows s) (level_of types p) ≡ Some y) × ((row_at rows y).code ≡ p)
  on_path_level s p y within e =
      let I : IsOnPath types rows p s y = on_path_is types rows p s y within e in
      let from : y ≤ s = I.spans.from in
      let some : 0 < level_at types rows y = some_level types rows over y (omega arith) in
      let own : level_at types rows y ≡ level_of types p = ap (level_of types) I.code in
      let at : level_of types p ≡ suc (level_at types rows y - 1) = omega arith in
      (ap (row_on (path_of types rows s)) at ∙ path_at types rows over s y within I.spans, I.code)

  -- a row of a type that stands there is that of the type on the path
  pub level_on_path : (s p x : ℕ) → s < length rows → row_on (path_of types rows s) (level_of types p) ≡ Some x → (row_at rows x).code ≡ p → on_path types rows p s ≡ Some x
  level_on_path s p x within e code = on_path_of types rows p s x within (path_row_is s (level_of types p) x within e).spans code

  -- what is found of a type on the path of the row at a level of the path of the last row passed stands on that one, not below the level
  pub standing_on : (n l p y : ℕ) → n ≤ length rows → (o : Option ℕ) → row_on (path_passed types rows n) l ≡ o → on_path_at types rows p o ≡ Some y
      → (level_of types p ≤ l) × (row_on (path_passed types rows n) (level_of types p) ≡ Some y) × ((row_at rows y).code ≡ p)
  standing_on n l p y w None is e = cc
  standing_on n l p y w (Some s) is e = by n w is (last_passed types rows n l s is)
    where
      by : (n : ℕ) → n ≤ length rows → row_on (path_passed types rows n) l ≡ Some s → (m : ℕ) × (n ≡ suc m)
          → (level_of types p ≤ l) × (row_on (path_passed types rows n) (level_of types p) ≡ Some y) × ((row_at rows y).code ≡ p)
      by zero w is M = absurd (let z : zero ≡ suc M.0 = M.1 in omega arith)
      by (suc m) w is M =
          let S = path_row_is m l s (omega arith) is in
          let from : s ≤ m = S.spans.from in
          let Y = on_path_level s p y (omega arith) e in
          let size : length (path_of types rows s) ≡ level_at types rows s = path_length types rows over s (omega arith) in
          let deep : level_of types p ≤ length (path_of types rows s) = level_on (path_of types rows s) (level_of types p) y Y.0 in
          let level : level_at types rows s ≡ l = S.level in
          let high : level_of types p ≤ l = omega arith in (
            high,
            sym (ap (λ (xs : List ℕ). row_on xs (level_of types p)) S.path ∙ row_on_front l (path_of types rows m) (level_of types p) high) ∙ Y.0,
            Y.1,
          )

  -- a row of a type that stands on the path at the type's level, not below another level, is that of the type on the path of the row there
  pub standing_at : (n l p x : ℕ) → n ≤ length rows → l ≤ length (path_passed types rows n) → level_of types p ≤ l
      → row_on (path_passed types rows n) (level_of types p) ≡ Some x → (row_at rows x).code ≡ p → on_path_at types rows p (row_on (path_passed types rows n) l) ≡ Some x
  standing_at zero l p x w short high e code = absurd (let M = last_passed types rows zero (level_of types p) x e in let z : zero ≡ suc M.0 = M.1 in omega arith)
  standing_at (suc m) l p x w short high e code =
      let some : 0 < level_of types p = above_none (level_of types p) e in
      let L = on_level (path_of types rows m) l (omega arith) short in
      let S = path_row_is m l L.0 (omega arith) L.1 in
      let from : L.0 ≤ m = S.spans.from in
      ap (on_path_at types rows p) L.1
      ∙ level_on_path L.0 p x (omega arith) (ap (λ (xs : List ℕ). row_on xs (level_of types p)) S.path ∙ row_on_front l (path_of types rows m) (level_of types p) high ∙ e) code
    where
      above_none : (k : ℕ) → row_on (path_of types rows m) k ≡ Some x → 0 < k
      above_none zero e = cc
      above_none (suc k) e = omega arith

-- The path of a row that went in with others, each below the one before.
use Rattle.std.proofs.Common.{◌≡◌, ℕ, zero, suc, ◌+◌, ◌-◌, ◌<◌, ◌≤◌, List, [], ◌∷◌, ◌++◌, length, take, drop, Bool, true, false, cond, Option, Some, None, refl, sym, ap, ◌∙◌, arith}
use Rattle.std.specs.Prelude.{map, slice_index_or, nat_lt, nat_le}
use Rattle.std.specs.Option.{option_map_or}
use Rattle.std.proofs.lemmas.Bool.{cond-false, lt-leb}
use Rattle.std.proofs.lemmas.Grind.{take_at_read}
use Rattle.std.proofs.lemmas.List.{append_assoc, length-take-le, get_or-append_right, get_or_append_left}
use Rattle.hd_dbd.specs.Types.{SegmentType}
use Rattle.hd_dbd.specs.Segment.{Segment}
use Rattle.hd_dbd.specs.Paths.{level_at, nearest_above, parent_row, path_above, path_of}
use Rattle.hd_calls.specs.Moves.{put_in}
use Rattle.hd_calls.proofs.Moving.{put_kept}
use Rattle.hd_links.proofs.Numbers.{map_end}
use Rattle.hd_update.specs.Inserting.{parent_among}

-- ---- a list with others put in

module _ {A : Type 0} (n : ℕ) (new xs : List A) (d : A) (few : n ≤ length xs) where
  pub put_first : (i : ℕ) → i < n → slice_index_or (put_in n new xs) i d ≡ slice_index_or xs i d
  put_first i low =
      ap (λ (j : ℕ). slice_index_or (put_in n new xs) j d) (sym (cond-false (nat_le n i) (i + length new) i (lt-leb n i low)))
      ∙ put_kept n new xs i d (omega arith)

  pub put_new : (i : ℕ) → i < length new → slice_index_or (put_in n new xs) (n + i) d ≡ slice_index_or new i d
  put_new i low =
      ap (λ (ys : List A). slice_index_or ys (n + i) d) (append_assoc (take n xs) new (drop n xs))
      ∙ get_or-append_right (take n xs) (new ++ drop n xs) n (n + i) d (length-take-le n xs few) (omega arith)
      ∙ ap (λ (j : ℕ). slice_index_or (new ++ drop n xs) j d) (let e : n + i - n ≡ i = omega arith in e)
      ∙ get_or_append_left new (drop n xs) d i low

-- ---- paths by rows

-- a row's path is its parent's, and itself
pub path_parent : (types : List SegmentType) (rows : List Segment) (l n : ℕ) → path_above types rows l n ≡ option_map_or (λ q. path_of types rows q) (nearest_above types rows l n) []
path_parent types rows l zero = refl
path_parent types rows l (suc k) = by (path_parent types rows l k) (nat_lt (level_at types rows k) l)
  where
    by : path_above types rows l k ≡ option_map_or (λ q. path_of types rows q) (nearest_above types rows l k) [] → (b : Bool) → cond b (path_above types rows (level_at types rows k) k ++ k ∷ []) (path_above types rows l k)
        ≡ option_map_or (λ q. path_of types rows q) (cond b (Some k) (nearest_above types rows l k)) []
    by up true = refl
    by up false = up

nearest_before : (types : List SegmentType) (rows : List Segment) (l n q : ℕ) → nearest_above types rows l n ≡ Some q → q < n
nearest_before types rows l zero q is = cc
nearest_before types rows l (suc k) q is = by (λ e. nearest_before types rows l k q e) (nat_lt (level_at types rows k) l) is
  where
    by : (nearest_above types rows l k ≡ Some q → q < k) → (b : Bool) → cond b (Some k) (nearest_above types rows l k) ≡ Some q → q < suc k
    by up true e = (let same : k ≡ q = cc in omega arith)
    by up false e = (let low : q < k = up e in omega arith)

-- what stands above a number depends on the rows before it alone
pub paths_agree : (types : List SegmentType) (rows rows2 : List Segment) (a a2 : ℕ → ℕ) (l m : ℕ) → ((k : ℕ) → k < m → level_at types rows k ≡ level_at types rows2 k) → ((k : ℕ) → k < m → a k ≡ a2 k)
    → map a (path_above types rows l m) ≡ map a2 (path_above types rows2 l m)
paths_agree types rows rows2 a a2 l zero levels places = refl
paths_agree types rows rows2 a a2 l (suc k) levels places =
    ap (λ (n : ℕ). map a (cond (nat_lt n l) (path_above types rows n k ++ k ∷ []) (path_above types rows l k))) (levels k (omega arith))
    ∙ by (λ n. paths_agree types rows rows2 a a2 n k (λ j low. levels j (omega arith)) (λ j low. places j (omega arith))) (nat_lt (level_at types rows2 k) l)
  where
    by : ((n : ℕ) → map a (path_above types rows n k) ≡ map a2 (path_above types rows2 n k)) → (b : Bool) → map a (cond b (path_above types rows (level_at types rows2 k) k ++ k ∷ []) (path_above types rows l k))
        ≡ map a2 (cond b (path_above types rows2 (level_at types rows2 k) k ++ k ∷ []) (path_above types rows2 l k))
    by up true =
        map_end a (path_above types rows (level_at types rows2 k) k) k
        ∙ ap (λ (xs : List ℕ). xs ++ a k ∷ []) (up (level_at types rows2 k))
        ∙ ap (λ (p : ℕ). map a2 (path_above types rows2 (level_at types rows2 k) k) ++ p ∷ []) (places k (omega arith))
        ∙ sym (map_end a2 (path_above types rows2 (level_at types rows2 k) k) k)
    by up false = up l

-- ---- the rows that went in

-- Rows went in at number n, each below the one before, the first below a parent whose path is given by addresses: so is that of each.
module _ (types : List SegmentType) (rows : List Segment) (a : ℕ → ℕ) (n : ℕ) (places above : List ℕ) (parent : Option ℕ)
    (stand : (i : ℕ) → i < length places → parent_row types rows (n + i) ≡ parent_among parent n i) (at : (i : ℕ) → i < length places → a (n + i) ≡ slice_index_or places i 0)
    (up : option_map_or (λ q. map a (path_of types rows q)) parent [] ≡ above) where
  -- by its parent
  by_parent : (i : ℕ) (o : Option ℕ) → parent_row types rows i ≡ o → map a (path_of types rows i) ≡ option_map_or (λ q. map a (path_of types rows q)) o [] ++ a i ∷ []
  by_parent i o is =
      map_end a (path_above types rows (level_at types rows i) i) i
      ∙ ap (λ (xs : List ℕ). map a xs ++ a i ∷ []) (path_parent types rows (level_at types rows i) i ∙ ap (λ (p : Option ℕ). option_map_or (λ q. path_of types rows q) p []) is)
      ∙ ap (λ (xs : List ℕ). xs ++ a i ∷ []) (mapped o)
    where
      mapped : (o : Option ℕ) → map a (option_map_or (λ q. path_of types rows q) o []) ≡ option_map_or (λ q. map a (path_of types rows q)) o []
      mapped None = refl
      mapped (Some q) = refl

  one_more : (i : ℕ) → i < length places → take i places ++ a (n + i) ∷ [] ≡ take (i + 1) places
  one_more i low = ap (λ (p : ℕ). take i places ++ p ∷ []) (at i low) ∙ sym (take_at_read places i 0 low).1

  pub path_new : (i : ℕ) → i < length places → map a (path_of types rows (n + i)) ≡ above ++ take (i + 1) places
  path_new zero low =
      by_parent (n + 0) parent (stand 0 low)
      ∙ ap (λ (xs : List ℕ). xs ++ a (n + 0) ∷ []) up
      ∙ ap (λ (xs : List ℕ). above ++ xs) (one_more 0 low)
  path_new (suc i) low =
      let next : suc i ≡ i + 1 = omega arith in
      by_parent (n + suc i) (Some (n + i)) (stand (suc i) low)
      ∙ ap (λ (xs : List ℕ). xs ++ a (n + suc i) ∷ []) (path_new i (omega arith))
      ∙ append_assoc above (take (i + 1) places) (a (n + suc i) ∷ [])
      ∙ ap (λ (m : ℕ). above ++ (take m places ++ a (n + suc i) ∷ [])) (sym next)
      ∙ ap (λ (xs : List ℕ). above ++ xs) (one_more (suc i) low)

-- a parent before the place has the path that it had
pub parent_path : (types : List SegmentType) (rows rows2 : List Segment) (a a2 : ℕ → ℕ) (n l q : ℕ) → nearest_above types rows l n ≡ Some q → ((k : ℕ) → k < n → level_at types rows k ≡ level_at types rows2 k)
    → ((k : ℕ) → k < n → a k ≡ a2 k) → map a (path_of types rows q) ≡ map a2 (path_of types rows2 q)
parent_path types rows rows2 a a2 n l q is levels places =
    let low : q < n = nearest_before types rows l n q is in
    map_end a (path_above types rows (level_at types rows q) q) q
    ∙ ap (λ (m : ℕ). map a (path_above types rows m q) ++ a q ∷ []) (levels q low)
    ∙ ap (λ (xs : List ℕ). xs ++ a q ∷ []) (paths_agree types rows rows2 a a2 (level_at types rows2 q) q (λ k below. levels k (omega arith)) (λ k below. places k (omega arith)))
    ∙ ap (λ (p : ℕ). map a2 (path_above types rows2 (level_at types rows2 q) q) ++ p ∷ []) (places q low)
    ∙ sym (map_end a2 (path_above types rows2 (level_at types rows2 q) q) q)

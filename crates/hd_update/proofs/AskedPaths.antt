-- Rows that a PCB holds stand on its path, each another than those before it.
use Rattle.std.proofs.Common.{◌≡◌, ℕ, zero, suc, ◌<◌, ◌≤◌, List, [], ◌∷◌, ◌++◌, take, drop, Bool, true, false, cond, not, ◌||◌, refl, ap, sym, ◌∙◌, subst, arith, Some, None, inl, inr, ne_eqb}
use Rattle.std.specs.Prelude.{slice_get, ◌==◌, is_some}
use Rattle.std.specs.List.{list_any}
use Rattle.std.proofs.lemmas.Bool.{cases_Bool, cases_lt, cond-true, cond-false, lt-ltb, le-ltb, or_left, eq-eqb, false≢true}
use Rattle.hd_dbd.specs.Types.{SegmentType}
use Rattle.hd_dbd.specs.Segment.{Segment}
use Rattle.hd_dbd.specs.Paths.{row_at, level_at, path_above}
use Rattle.hd_calls.specs.Ssas.{Ssa}
use Rattle.hd_calls.specs.Moves.{Rewrite}
use Rattle.hd_calls.specs.Steps.{is_excepted, rewrites_of, rewrites_asked}
use Rattle.hd_links.proofs.Types.{AllAbove, Ascending}
use Rattle.hd_position.specs.Kept.{AreRowsOn, Ascend, path_passed, row_on}
use Rattle.hd_position.proofs.Lists.{first, rest}
use Rattle.hd_position.proofs.Splices.{AllBelow, above_below}
use Rattle.hd_update.specs.Replacing.{AreOnPath}
use Rattle.hd_update.proofs.Taken.{row_in}

-- ---- numbers on a path ascend

ascending_end : (n : ℕ) (xs : List ℕ) → Ascending xs → AllBelow n xs → Ascending (xs ++ n ∷ [])
ascending_end n [] up below = (tt, tt)
ascending_end n (x ∷ xs) up below = (above_end x n xs up.0 below.0, ascending_end n xs up.1 below.1)
  where
    above_end : (x n : ℕ) (xs : List ℕ) → AllAbove x xs → x < n → AllAbove x (xs ++ n ∷ [])
    above_end x n [] all less = (less, tt)
    above_end x n (y ∷ ys) all less = (all.0, above_end x n ys all.1 less)

above_ascends : (types : List SegmentType) (rows : List Segment) (l n : ℕ) → Ascending (path_above types rows l n)
above_ascends types rows l zero = tt
above_ascends types rows l (suc n) = elim (cases_lt (level_at types rows n) l) [
  | inl above ↦ subst Ascending (sym (cond-true _ _ _ (lt-ltb (level_at types rows n) l above)))
      (ascending_end n (path_above types rows (level_at types rows n) n) (above_ascends types rows (level_at types rows n) n) (above_below types rows (level_at types rows n) n))
  | inr under ↦ subst Ascending (sym (cond-false _ _ _ (le-ltb (level_at types rows n) l under))) (above_ascends types rows l n)
]

passed_ascends : (types : List SegmentType) (rows : List Segment) (n : ℕ) → Ascending (path_passed types rows n)
passed_ascends types rows zero = tt
passed_ascends types rows (suc i) = ascending_end i (path_above types rows (level_at types rows i) i) (above_ascends types rows (level_at types rows i) i) (above_below types rows (level_at types rows i) i)

-- what stands further down is greater
got_above : (x : ℕ) (xs : List ℕ) (b j : ℕ) → AllAbove x xs → slice_get xs b ≡ Some j → x < j
got_above x [] b j all e = absurd (false≢true (ap is_some e))
got_above x (y ∷ ys) zero j all e = (let same : y ≡ j = cc in subst (λ (z : ℕ). x < z) same all.0)
got_above x (y ∷ ys) (suc b) j all e = got_above x ys b j all.1 e

got_later : (xs : List ℕ) (a b i j : ℕ) → Ascending xs → a < b → slice_get xs a ≡ Some i → slice_get xs b ≡ Some j → i < j
got_later [] a b i j up less e f = absurd (false≢true (ap is_some e))
got_later (x ∷ xs) zero zero i j up less e f = absurd (omega arith)
got_later (x ∷ xs) zero (suc b) i j up less e f = (let same : x ≡ i = cc in subst (λ (z : ℕ). z < j) same (got_above x xs b j up.0 f))
got_later (x ∷ xs) (suc a) zero i j up less e f = absurd (omega arith)
got_later (x ∷ xs) (suc a) (suc b) i j up less e f = got_later xs a b i j up.1 (omega arith) e f

row_later : (path : List ℕ) (l m i j : ℕ) → Ascending path → l < m → row_on path l ≡ Some i → row_on path m ≡ Some j → i < j
row_later path zero m i j up less e f = absurd (false≢true (ap is_some e))
row_later path (suc l) zero i j up less e f = absurd (omega arith)
row_later path (suc l) (suc m) i j up less e f = got_later path l m i j up (omega arith) e f

ascend_from : (l m high : ℕ) (ls : List ℕ) → l ≤ m → Ascend m high ls → Ascend l high ls
ascend_from l m high [] low up = tt
ascend_from l m high (x ∷ xs) low up = ((let less : m < x = up.0 in omega arith), up.1, up.2)

-- so are held rows
all_later : (path levels rows : List ℕ) (l x high : ℕ) → Ascending path → row_on path l ≡ Some x → Ascend l high levels → AreRowsOn path levels rows → AllAbove x rows
all_later path levels [] l x high up at levels_up e = tt
all_later path [] (y ∷ ys) l x high up at levels_up e = cc
all_later path (m ∷ ms) (y ∷ ys) l x high up at levels_up e =
    (row_later path l m x y up levels_up.0 at (sym (ap (first None) e)), all_later path ms ys l x high up at (ascend_from l m high ms (let less : l < m = levels_up.0 in omega arith) levels_up.2) (ap rest e))

rows_ascend : (path levels rows : List ℕ) (low high : ℕ) → Ascending path → Ascend low high levels → AreRowsOn path levels rows → Ascending rows
rows_ascend path levels [] low high up levels_up e = tt
rows_ascend path [] (x ∷ xs) low high up levels_up e = cc
rows_ascend path (l ∷ ls) (x ∷ xs) low high up levels_up e =
    (all_later path ls xs l x high up (sym (ap (first None) e)) levels_up.2 (ap rest e), rows_ascend path ls xs l high up levels_up.2 (ap rest e))

-- ---- held rows are on the path

abbrev AllIn : List ℕ → List ℕ → Type 0
AllIn path [] = Unit {0}
AllIn path (i ∷ is) = (list_any (λ j. j == i) path ≡ true) × AllIn path is

rows_in_path : (path levels rows : List ℕ) → AreRowsOn path levels rows → AllIn path rows
rows_in_path path levels [] e = tt
rows_in_path path [] (i ∷ is) e = cc
rows_in_path path (l ∷ ls) (i ∷ is) e = (row_in path l i (sym (ap (first None) e)), rows_in_path path ls is (ap rest e))

module _ (rows : List Segment) (ssas : List Ssa) where
  none_asked : (i : ℕ) (held : List ℕ) (parts : List (List ℕ)) → AllAbove i held → list_any (λ z. z.number == i) (rewrites_asked rows ssas (rewrites_of held parts)) ≡ false
  none_asked i [] parts all = refl
  none_asked i (x ∷ xs) [] all = refl
  none_asked i (x ∷ xs) (bytes ∷ parts) all =
      by (not (is_excepted ssas (row_at rows x).code)) (none_asked i xs parts all.1)
    where
      other : (x == i) ≡ false
      other = ne_eqb x i (λ same. (let less : i < x = all.0 in omega arith))

      by : (b : Bool) → list_any (λ z. z.number == i) (rewrites_asked rows ssas (rewrites_of xs parts)) ≡ false
          → list_any (λ z. z.number == i) (cond b (record { number = x; bytes = bytes } ∷ rewrites_asked rows ssas (rewrites_of xs parts)) (rewrites_asked rows ssas (rewrites_of xs parts))) ≡ false
      by true none = ap (λ (b : Bool). b || list_any (λ z. z.number == i) (rewrites_asked rows ssas (rewrites_of xs parts))) other ∙ none
      by false none = none

  all_on_path : (path held : List ℕ) (parts : List (List ℕ)) → AllIn path held → Ascending held → AreOnPath path (rewrites_asked rows ssas (rewrites_of held parts))
  all_on_path path [] parts in-it up = tt
  all_on_path path (x ∷ xs) [] in-it up = tt
  all_on_path path (x ∷ xs) (bytes ∷ parts) in-it up = by (not (is_excepted ssas (row_at rows x).code)) (all_on_path path xs parts in-it.1 up.1)
    where
      by : (b : Bool) → AreOnPath path (rewrites_asked rows ssas (rewrites_of xs parts))
          → AreOnPath path (cond b (record { number = x; bytes = bytes } ∷ rewrites_asked rows ssas (rewrites_of xs parts)) (rewrites_asked rows ssas (rewrites_of xs parts)))
      by true others = (in-it.0, none_asked x xs parts up.0, others)
      by false others = others

  -- what is asked of held rows
  pub asked_on_path : (types : List SegmentType) (n high : ℕ) (levels held : List ℕ) (parts : List (List ℕ)) → Ascend 0 high levels → AreRowsOn (path_passed types rows n) levels held
      → AreOnPath (path_passed types rows n) (rewrites_asked rows ssas (rewrites_of held parts))
  asked_on_path types n high levels held parts up are =
      all_on_path (path_passed types rows n) held parts (rows_in_path (path_passed types rows n) levels held are)
      (rows_ascend (path_passed types rows n) levels held 0 high (passed_ascends types rows n) up are)

-- ---- one of them

-- The rewrite of a place is of a row on the path, and of another than those before it.
pub record IsAtTurn (path : List ℕ) (ws : List Rewrite) (place : ℕ) (w : Rewrite) : Type 0 where
  pub on : list_any (λ j. j == w.number) path ≡ true
  pub none : list_any (λ z. z.number == w.number) (take place ws) ≡ false

not_among : (i : ℕ) (ws others : List Rewrite) (place : ℕ) (w : Rewrite) → drop place ws ≡ w ∷ others → list_any (λ z. z.number == i) ws ≡ false → (i == w.number) ≡ false
not_among i [] others zero w is none = cc
not_among i [] others (suc p) w is none = cc
not_among i (x ∷ xs) others zero w is none =
    (let same : x ≡ w = cc in
    ne_eqb i w.number (λ e. false≢true (sym none ∙ or_left (x.number == i) (list_any (λ z. z.number == i) xs) (eq-eqb x.number i (ap (λ (z : Rewrite). z.number) same ∙ sym e)))))
not_among i (x ∷ xs) others (suc p) w is none = elim (cases_Bool (x.number == i)) [
  | inl here ↦ absurd (false≢true (sym none ∙ or_left (x.number == i) (list_any (λ z. z.number == i) xs) here))
  | inr away ↦ not_among i xs others p w is (sym (ap (λ (b : Bool). b || list_any (λ z. z.number == i) xs) away) ∙ none)
]

pub at_turn : (path : List ℕ) (ws others : List Rewrite) (place : ℕ) (w : Rewrite) → AreOnPath path ws → drop place ws ≡ w ∷ others → IsAtTurn path ws place w
at_turn path [] others zero w on is = cc
at_turn path [] others (suc p) w on is = cc
at_turn path (x ∷ xs) others zero w on is =
    (let same : x ≡ w = cc in record { on = subst (λ (z : Rewrite). list_any (λ j. j == z.number) path ≡ true) same on.0; none = refl })
at_turn path (x ∷ xs) others (suc p) w on is =
    let T : IsAtTurn path xs p w = at_turn path xs others p w on.2 is in
    record { on = T.on; none = ap (λ (b : Bool). b || list_any (λ z. z.number == w.number) (take p xs)) (not_among x.number xs others p w is on.1) ∙ T.none }

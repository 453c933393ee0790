-- Paths in two lists of rows, one of which has a span more.
use Rattle.std.proofs.Common.{◌≡◌, ℕ, zero, suc, ◌+◌, ◌-◌, ◌<◌, ◌≤◌, List, [], ◌∷◌, ◌++◌, cond, arith, ap, ap₂, sym, ◌∙◌, refl, subst, inl, inr}
use Rattle.std.specs.Prelude.{nat_lt, nat_le, map}
use Rattle.std.proofs.lemmas.Bool.{cases_lt, cond-true, cond-false, lt-ltb, le-ltb, le-leb, lt-leb}
use Rattle.hd_dbd.specs.Types.{SegmentType}
use Rattle.hd_dbd.specs.Segment.{Segment}
use Rattle.hd_dbd.specs.Paths.{level_at, path_above, path_of}
use Rattle.hd_calls.specs.Moves.{number_after_insert}

-- ---- numbers that rise

pub rises : (n k x : ℕ) → n ≤ x → number_after_insert n k x ≡ x + k
rises n k x l = cond-true (nat_le n x) (x + k) x (le-leb n x l)

pub stays : (n k x : ℕ) → x < n → number_after_insert n k x ≡ x
stays n k x l = cond-false (nat_le n x) (x + k) x (lt-leb n x l)

-- all numbers of a list are below a bound
abbrev pub AllBelow : ℕ → List ℕ → Type 0
AllBelow b [] = Unit {0}
AllBelow b (x ∷ xs) = (x < b) × AllBelow b xs

pub below_end : (b x : ℕ) (xs : List ℕ) → AllBelow b xs → x < b → AllBelow b (xs ++ x ∷ [])
below_end b x [] a l = (l, tt)
below_end b x (y ∷ ys) a l = (a.0, below_end b x ys a.1 l)

pub below_more : (b c : ℕ) (xs : List ℕ) → b ≤ c → AllBelow b xs → AllBelow c xs
below_more b c [] l a = tt
below_more b c (x ∷ xs) l a = ((let s : x < b = a.0 in omega arith), below_more b c xs l a.1)

pub map_stays : (n k : ℕ) (xs : List ℕ) → AllBelow n xs → map (number_after_insert n k) xs ≡ xs
map_stays n k [] a = refl
map_stays n k (x ∷ xs) a = ap₂ (λ (y : ℕ) (ys : List ℕ). y ∷ ys) (stays n k x a.0) (map_stays n k xs a.1)

pub map_end : (g : ℕ → ℕ) (xs : List ℕ) (x : ℕ) → map g (xs ++ x ∷ []) ≡ map g xs ++ g x ∷ []
map_end g [] x = refl
map_end g (y ∷ ys) x = ap (λ (zs : List ℕ). g y ∷ zs) (map_end g ys x)

-- ---- paths

-- the numbers on a path are below its end
pub above_below : (types : List SegmentType) (rows : List Segment) (l n : ℕ) → AllBelow n (path_above types rows l n)
above_below types rows l zero = tt
above_below types rows l (suc n) = elim (cases_lt (level_at types rows n) l) [
  | inl above ↦ subst (AllBelow (suc n)) (sym (cond-true _ _ _ (lt-ltb (level_at types rows n) l above)))
      (below_end (suc n) n (path_above types rows (level_at types rows n) n) (below_more n (suc n) (path_above types rows (level_at types rows n) n) (omega arith) (above_below types rows (level_at types rows n) n)) (omega arith))
  | inr under ↦ subst (AllBelow (suc n)) (sym (cond-false _ _ _ (le-ltb (level_at types rows n) l under))) (below_more n (suc n) (path_above types rows l n) (omega arith) (above_below types rows l n))
]

-- the path to row n, told by the levels of the rows before it
abbrev pub above_here : List SegmentType → List Segment → ℕ → ℕ → List ℕ
above_here types rows l n = path_above types rows (level_at types rows n) n ++ n ∷ []

-- The second list of rows has k rows more from number n on, none of a lesser level than the first row behind them.
pub record IsSpliced (types : List SegmentType) (few many : List Segment) (n k : ℕ) : Type 0 where
  pub front : (x : ℕ) → x < n → level_at types many x ≡ level_at types few x
  pub back : (x : ℕ) → n ≤ x → level_at types many (x + k) ≡ level_at types few x
  pub deep : (x : ℕ) → n ≤ x → x < n + k → level_at types few n ≤ level_at types many x

module _ (types : List SegmentType) (few many : List Segment) (n k : ℕ) (S : IsSpliced types few many n k) where
  -- in front nothing changes
  pub front_above : (l j : ℕ) → j ≤ n → path_above types many l j ≡ path_above types few l j
  front_above l zero w = refl
  front_above l (suc j) w =
      let e : level_at types many j ≡ level_at types few j = S.front j (omega arith) in
      ap (λ v. cond (nat_lt v l) (path_above types many v j ++ j ∷ []) (path_above types many l j)) e
      ∙ ap₂ (λ (x y : List ℕ). cond (nat_lt (level_at types few j) l) (x ++ j ∷ []) y)
      (front_above (level_at types few j) j (omega arith)) (front_above l j (omega arith))

  -- the rows between are on no path from behind
  over_above : (l d : ℕ) → d ≤ k → l ≤ level_at types few n → path_above types many l (d + n) ≡ path_above types many l n
  over_above l zero w h = ap (path_above types many l) (let e : 0 + n ≡ n = omega arith in e)
  over_above l (suc d) w h =
      let deep : level_at types few n ≤ level_at types many (d + n) = S.deep (d + n) (omega arith) (omega arith) in
      ap (path_above types many l) (let e : suc d + n ≡ suc (d + n) = omega arith in e)
      ∙ cond-false _ _ _ (le-ltb (level_at types many (d + n)) l (omega arith))
      ∙ over_above l d (omega arith) h

  seam : (l : ℕ) → l ≤ level_at types few n → path_above types many l (n + k) ≡ map (number_after_insert n k) (path_above types few l n)
  seam l h =
      ap (path_above types many l) (let e : n + k ≡ k + n = omega arith in e)
      ∙ over_above l k (omega arith) h ∙ front_above l n (omega arith)
      ∙ sym (map_stays n k (path_above types few l n) (above_below types few l n))

  -- one row more, behind the seam
  behind_one : (l j : ℕ) → n ≤ j → path_above types many (level_at types few j) (j + k) ≡ map (number_after_insert n k) (path_above types few (level_at types few j) j)
      → (level_at types few j < l → path_above types many l (suc j + k) ≡ map (number_after_insert n k) (path_above types few l (suc j)))
      × (l ≤ level_at types few j → path_above types many l (suc j + k) ≡ path_above types many l (j + k))
  behind_one l j w own =
      let e : level_at types many (j + k) ≡ level_at types few j = S.back j w in
      let s : suc j + k ≡ suc (j + k) = omega arith in (
        (λ above.
            (let up : number_after_insert n k j ≡ j + k = rises n k j w in
            ap (path_above types many l) s
            ∙ cond-true _ _ _ (lt-ltb (level_at types many (j + k)) l (omega arith))
            ∙ ap (λ v. path_above types many v (j + k) ++ (j + k) ∷ []) e
            ∙ ap₂ (λ (x : List ℕ) (y : ℕ). x ++ y ∷ []) own (sym up)
            ∙ sym (map_end (number_after_insert n k) (path_above types few (level_at types few j) j) j)
            ∙ ap (map (number_after_insert n k)) (sym (cond-true (nat_lt (level_at types few j) l) (above_here types few l j) (path_above types few l j) (lt-ltb (level_at types few j) l above))))),
        (λ under. ap (path_above types many l) s ∙ cond-false _ _ _ (le-ltb (level_at types many (j + k)) l (omega arith))),
      )

  -- behind, the numbers rise
  pub back_above : (l d : ℕ) → (d ≡ 0 → l ≤ level_at types few n) → path_above types many l (d + n + k) ≡ map (number_after_insert n k) (path_above types few l (d + n))
  back_above l zero h =
      (let e : 0 + n + k ≡ n + k = omega arith in let g : n ≡ 0 + n = omega arith in
      ap (path_above types many l) e ∙ seam l (h refl) ∙ ap (λ x. map (number_after_insert n k) (path_above types few l x)) g)
  back_above l (suc d) h =
      let j : ℕ = d + n in
      let first : d ≡ 0 → level_at types few j ≤ level_at types few n = (λ z. (let e : level_at types few j ≡ level_at types few n = ap (level_at types few) (let q : d + n ≡ n = omega arith in q) in omega arith)) in
      let own : path_above types many (level_at types few j) (j + k) ≡ map (number_after_insert n k) (path_above types few (level_at types few j) j) = back_above (level_at types few j) d first in
      let B = behind_one l j (omega arith) own in
      let a : suc d + n + k ≡ suc j + k = omega arith in
      let b : suc j ≡ suc d + n = omega arith in
      elim (cases_lt (level_at types few j) l) [
        | inl above ↦ ap (path_above types many l) a ∙ B.0 above ∙ ap (λ x. map (number_after_insert n k) (path_above types few l x)) b
        | inr under ↦
            (let low : d ≡ 0 → l ≤ level_at types few n = (λ z. (let e : level_at types few j ≡ level_at types few n = ap (level_at types few) (let q : d + n ≡ n = omega arith in q) in omega arith)) in
            ap (path_above types many l) a ∙ B.1 under ∙ back_above l d low
            ∙ ap (map (number_after_insert n k)) (sym (cond-false (nat_lt (level_at types few j) l) (above_here types few l j) (path_above types few l j) (le-ltb (level_at types few j) l under)))
            ∙ ap (λ x. map (number_after_insert n k) (path_above types few l x)) b)
      ]

  -- the path of each row
  pub path_rises : (i : ℕ) → path_of types many (number_after_insert n k i) ≡ map (number_after_insert n k) (path_of types few i)
  path_rises i = elim (cases_lt i n) [
    | inl before ↦
        ap (path_of types many) (stays n k i before)
        ∙ ap (λ (v : ℕ). path_above types many v i ++ i ∷ []) (S.front i before)
        ∙ ap (λ (x : List ℕ). x ++ i ∷ []) (front_above (level_at types few i) i (omega arith))
        ∙ sym (map_stays n k (path_of types few i) (below_end n i (path_above types few (level_at types few i) i) (below_more i n (path_above types few (level_at types few i) i) (omega arith) (above_below types few (level_at types few i) i)) before))
    | inr behind ↦
        (let d : i - n + n ≡ i = omega arith in
        let up : number_after_insert n k i ≡ i + k = rises n k i behind in
        let low : i - n ≡ 0 → level_at types few i ≤ level_at types few n = (λ z. (let e : level_at types few i ≡ level_at types few n = ap (level_at types few) (let q : i ≡ n = omega arith in q) in omega arith)) in
        ap (path_of types many) up
        ∙ ap₂ (λ (v : ℕ) (x : ℕ). path_above types many v (i + k) ++ x ∷ []) (S.back i behind) (sym up)
        ∙ ap (λ (x : List ℕ). x ++ number_after_insert n k i ∷ [])
        (ap (λ x. path_above types many (level_at types few i) (x + k)) (sym d) ∙ back_above (level_at types few i) (i - n) low
        ∙ ap (λ x. map (number_after_insert n k) (path_above types few (level_at types few i) x)) d)
        ∙ sym (map_end (number_after_insert n k) (path_above types few (level_at types few i) i) i))
  ]

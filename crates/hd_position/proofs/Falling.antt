-- What is kept stands for moved numbers, where a span leaves.
use Rattle.std.proofs.Common.{◌≡◌, ℕ, zero, suc, ◌+◌, ◌-◌, ◌<◌, ◌≤◌, List, [], ◌∷◌, ◌++◌, length, take, Bool, true, false, cond, arith, ap, ap₂, sym, ◌∙◌, refl, subst, inl, inr, Option, Some, None, ◌&&◌, ◌||◌, ◌⊎◌}
use Rattle.std.specs.Prelude.{nat_lt, nat_le, map, slice_get, option_map, option_and_then, ◌==◌}
use Rattle.std.specs.List.{list_any}
use Rattle.std.proofs.lemmas.Bool.{cases_lt, cases_Bool, cond-true, cond-false, lt-ltb, le-ltb, le-leb, lt-leb, and_from, eq-eqb, false≢true}
use Rattle.std.proofs.lemmas.List.{append_assoc}
use Rattle.hd_dbd.specs.Types.{SegmentType}
use Rattle.hd_dbd.specs.Segment.{Segment}
use Rattle.hd_dbd.specs.Paths.{level_at, path_of, path_above, nearest_above}
use Rattle.hd_calls.specs.Moves.{number_after_insert, number_after_delete, is_inside}
use Rattle.hd_position.specs.Kept.{row_on}
use Rattle.hd_position.proofs.Lists.{last_on, first, rest}
use Rattle.hd_position.proofs.Splices.{rises, stays, AllBelow}

-- ---- numbers of rows

-- a row's number, where the rows from i to before e leave, and `above` is the parent of the first
abbrev pub row_after_delete : ℕ → ℕ → Option ℕ → Option ℕ → Option ℕ
row_after_delete i e above o = option_and_then (λ n. cond (is_inside i e n) above (Some (number_after_delete i e n))) o

-- the held rows, where these leave
abbrev pub held_after_delete : ℕ → ℕ → List ℕ → List ℕ
held_after_delete i e held = cond (list_any (λ n. is_inside i e n) held) [] (map (λ n. number_after_delete i e n) held)

-- ---- lists

-- the nearest row above a level is the last of their path
pub nearest_last : (types : List SegmentType) (rows : List Segment) (l n : ℕ) → nearest_above types rows l n ≡ row_on (path_above types rows l n) (length (path_above types rows l n))
nearest_last types rows l zero = refl
nearest_last types rows l (suc n) = elim (cases_lt (level_at types rows n) l) [
  | inl above ↦
      cond-true _ _ _ (lt-ltb (level_at types rows n) l above)
      ∙ sym (ap (λ (p : List ℕ). row_on p (length p)) (cond-true (nat_lt (level_at types rows n) l) (path_of types rows n) (path_above types rows l n) (lt-ltb (level_at types rows n) l above))
      ∙ last_on (path_above types rows (level_at types rows n) n) n)
  | inr under ↦
      cond-false _ _ _ (le-ltb (level_at types rows n) l under) ∙ nearest_last types rows l n
      ∙ sym (ap (λ (p : List ℕ). row_on p (length p)) (cond-false (nat_lt (level_at types rows n) l) (path_of types rows n) (path_above types rows l n) (le-ltb (level_at types rows n) l under)))
]

-- an element of a list of numbers that are below a bound
pub get_below : (b : ℕ) (xs : List ℕ) (i x : ℕ) → AllBelow b xs → slice_get xs i ≡ Some x → x < b
get_below b [] i x a e = cc
get_below b (y ∷ ys) zero x a e = (let same : y ≡ x = cc in subst (λ z. z < b) same a.0)
get_below b (y ∷ ys) (suc i) x a e = get_below b ys i x a.1 e

-- all numbers of a list are from one number to before another
abbrev pub AllIn : ℕ → ℕ → List ℕ → Type 0
AllIn a b [] = Unit {0}
AllIn a b (x ∷ xs) = (a ≤ x) × (x < b) × AllIn a b xs

in_end : (a b x : ℕ) (xs : List ℕ) → AllIn a b xs → a ≤ x → x < b → AllIn a b (xs ++ x ∷ [])
in_end a b x [] h l m = (l, m, tt)
in_end a b x (y ∷ ys) h l m = (h.0, h.1, in_end a b x ys h.2 l m)

in_more : (a b c : ℕ) (xs : List ℕ) → b ≤ c → AllIn a b xs → AllIn a c xs
in_more a b c [] l h = tt
in_more a b c (x ∷ xs) l h = (h.0, (let s : x < b = h.1 in omega arith), in_more a b c xs l h.2)

get_in : (a b : ℕ) (xs : List ℕ) (i x : ℕ) → AllIn a b xs → slice_get xs i ≡ Some x → (a ≤ x) × (x < b)
get_in a b [] i x h e = cc
get_in a b (y ∷ ys) zero x h e = (let same : y ≡ x = cc in subst (λ z. (a ≤ z) × (z < b)) same (h.0, h.1))
get_in a b (y ∷ ys) (suc i) x h e = get_in a b ys i x h.2 e

get_left : (xs ys : List ℕ) (i : ℕ) → i < length xs → slice_get (xs ++ ys) i ≡ slice_get xs i
get_left [] ys i l = absurd (omega arith)
get_left (x ∷ xs) ys zero l = refl
get_left (x ∷ xs) ys (suc i) l = get_left xs ys i (omega arith)

get_right : (xs ys : List ℕ) (i : ℕ) → length xs ≤ i → slice_get (xs ++ ys) i ≡ slice_get ys (i - length xs)
get_right [] ys i l = ap (slice_get ys) (let e : i ≡ i - 0 = omega arith in e)
get_right (x ∷ xs) ys zero l = absurd (omega arith)
get_right (x ∷ xs) ys (suc i) l = get_right xs ys i (omega arith) ∙ ap (slice_get ys) (let e : i - length xs ≡ suc i - length (x ∷ xs) = omega arith in e)

get_front : (n : ℕ) (xs : List ℕ) (i : ℕ) → i < n → slice_get (take n xs) i ≡ slice_get xs i
get_front zero xs i l = absurd (omega arith)
get_front (suc n) [] i l = refl
get_front (suc n) (x ∷ xs) zero l = refl
get_front (suc n) (x ∷ xs) (suc i) l = get_front n xs i (omega arith)

pub take_long : (n : ℕ) (xs : List ℕ) → n ≤ length (take n xs) → n ≤ length xs
take_long zero xs l = omega arith
take_long (suc n) [] l = absurd (omega arith)
take_long (suc n) (x ∷ xs) l = (let e : n ≤ length xs = take_long n xs (omega arith) in omega arith)

get_some : (xs : List ℕ) (i : ℕ) → i < length xs → (x : ℕ) × (slice_get xs i ≡ Some x)
get_some [] i l = absurd (omega arith)
get_some (x ∷ xs) zero l = (x, refl)
get_some (x ∷ xs) (suc i) l = get_some xs i (omega arith)

pub any_in : (a : ℕ) (xs ys : List ℕ) → list_any (λ b. b == a) (xs ++ a ∷ ys) ≡ true
any_in a [] ys = ap (λ (b : Bool). b || list_any (λ c. c == a) ys) (eq-eqb a a refl)
any_in a (x ∷ xs) ys = ap (λ (b : Bool). (x == a) || b) (any_in a xs ys) ∙ or_true (x == a)
  where
    or_true : (b : Bool) → (b || true) ≡ true
    or_true true = refl
    or_true false = refl

pub map_split : (g : ℕ → ℕ) (xs ys : List ℕ) (x : ℕ) → map g (xs ++ x ∷ ys) ≡ map g xs ++ g x ∷ map g ys
map_split g [] ys x = refl
map_split g (y ∷ xs) ys x = ap (λ (zs : List ℕ). g y ∷ zs) (map_split g xs ys x)

-- ---- numbers that fall

module _ (i e : ℕ) (some : i < e) where
  fall_rise : (x : ℕ) → (is_inside i e (number_after_insert i (e - i) x) ≡ false) × (number_after_delete i e (number_after_insert i (e - i) x) ≡ x)
  fall_rise x = elim (cases_lt x i) [
    | inl l ↦
        (let r : number_after_insert i (e - i) x ≡ x = stays i (e - i) x l in (
          ap (is_inside i e) r ∙ ap (λ (b : Bool). b && nat_lt x e) (lt-leb i x l),
          ap (number_after_delete i e) r ∙ cond-false (nat_le e x) (x - (e - i)) x (lt-leb e x (omega arith)),
        ))
    | inr l ↦
        (let r : number_after_insert i (e - i) x ≡ x + (e - i) = rises i (e - i) x l in (
          ap (is_inside i e) r ∙ ap₂ (λ (a b : Bool). a && b) (le-leb i (x + (e - i)) (omega arith)) (le-ltb (x + (e - i)) e (omega arith)),
          ap (number_after_delete i e) r ∙ cond-true (nat_le e (x + (e - i))) (x + (e - i) - (e - i)) (x + (e - i)) (le-leb e (x + (e - i)) (omega arith)) ∙ (let q : x + (e - i) - (e - i) ≡ x = omega arith in q),
        ))
  ]

  inside_true : (x : ℕ) → i ≤ x → x < e → is_inside i e x ≡ true
  inside_true x a b = and_from _ _ (le-leb i x a) (lt-ltb x e b)

  low_stays : (x : ℕ) → x < i → (is_inside i e x ≡ false) × (number_after_delete i e x ≡ x)
  low_stays x l = (ap (λ (b : Bool). b && nat_lt x e) (lt-leb i x l), cond-false (nat_le e x) (x - (e - i)) x (lt-leb e x (omega arith)))

  -- outside the span
  pub standing_out : (above : Option ℕ) (o : Option ℕ) → row_after_delete i e above (option_map (number_after_insert i (e - i)) o) ≡ o
  standing_out above None = refl
  standing_out above (Some x) = cond-false _ _ _ (fall_rise x).0 ∙ ap (λ (y : ℕ). Some y) (fall_rise x).1

  -- one held row, outside
  pub held_one : (x : ℕ) (o : Option ℕ) → Some x ≡ option_map (number_after_insert i (e - i)) o → (is_inside i e x ≡ false) × (Some (number_after_delete i e x) ≡ o)
  held_one x None q = cc
  held_one x (Some z) q = (let same : x ≡ number_after_insert i (e - i) z = cc in (ap (is_inside i e) same ∙ (fall_rise z).0, ap (λ (y : ℕ). Some y) (ap (number_after_delete i e) same ∙ (fall_rise z).1)))

  -- held rows by levels: where each row is told by its level alone
  held_by : (pp pf : List ℕ) (test : ℕ → Bool)
      → ((x l : ℕ) → Some x ≡ row_on pp l → (is_inside i e x ≡ test l) × (test l ≡ false → Some (number_after_delete i e x) ≡ row_on pf l))
      → (held levels : List ℕ) → map (λ (x : ℕ). Some x) held ≡ map (λ l. row_on pp l) levels
      → (list_any (is_inside i e) held ≡ list_any test levels)
      × (list_any test levels ≡ false → map (λ (x : ℕ). Some x) (map (number_after_delete i e) held) ≡ map (λ l. row_on pf l) levels)
  held_by pp pf test one [] [] q = (refl, λ _. refl)
  held_by pp pf test one [] (l ∷ ls) q = cc
  held_by pp pf test one (x ∷ xs) [] q = cc
  held_by pp pf test one (x ∷ xs) (l ∷ ls) q =
      let O = one x l (ap (first None) q) in
      let I = held_by pp pf test one xs ls (ap rest q) in (
        ap₂ (λ (a b : Bool). a || b) O.0 I.0,
        λ none. (let N = parts (test l) (list_any test ls) none in ap₂ (λ (o : Option ℕ) (os : List (Option ℕ)). o ∷ os) (O.1 N.0) (I.1 N.1)),
      )
    where
      parts : (a b : Bool) → (a || b) ≡ false → (a ≡ false) × (b ≡ false)
      parts true b w = absurd (false≢true (sym w))
      parts false b w = (refl, w)

  -- the whole hold
  pub held_all : (pp pf : List ℕ) (test : ℕ → Bool)
      → ((x l : ℕ) → Some x ≡ row_on pp l → (is_inside i e x ≡ test l) × (test l ≡ false → Some (number_after_delete i e x) ≡ row_on pf l))
      → (held levels : List ℕ) → map (λ (x : ℕ). Some x) held ≡ map (λ l. row_on pp l) levels
      → map (λ (x : ℕ). Some x) (held_after_delete i e held) ≡ map (λ l. row_on pf l) (cond (list_any test levels) [] levels)
  held_all pp pf test one held levels q =
      let B = held_by pp pf test one held levels q in
      elim (cases_Bool (list_any test levels)) [
        | inl t ↦ ap (map (λ (x : ℕ). Some x)) (cond-true _ _ _ (B.0 ∙ t)) ∙ sym (ap (map (λ l. row_on pf l)) (cond-true (list_any test levels) [] levels t))
        | inr t ↦ ap (map (λ (x : ℕ). Some x)) (cond-false _ _ _ (B.0 ∙ t)) ∙ B.1 t ∙ sym (ap (map (λ l. row_on pf l)) (cond-false (list_any test levels) [] levels t))
      ]

-- ---- paths in a span

module _ (types : List SegmentType) (rows : List Segment) (i e : ℕ) (deeper : (x : ℕ) → i < x → x < e → level_at types rows i < level_at types rows x) where
  spans : (l d : ℕ) → level_at types rows i < l → suc (d + i) ≤ e
      → (more : List ℕ) × (path_above types rows l (suc (d + i)) ≡ path_above types rows (level_at types rows i) i ++ i ∷ more) × AllIn i e more
  spans l zero above w =
      (let z : 0 + i ≡ i = omega arith in
      ([], ap (λ x. path_above types rows l (suc x)) z ∙ cond-true _ _ _ (lt-ltb (level_at types rows i) l above), tt))
  spans l (suc d) above w =
      let x : ℕ = suc (d + i) in
      let same : suc d + i ≡ x = omega arith in
      let deep : level_at types rows i < level_at types rows x = deeper x (omega arith) (omega arith) in
      elim (cases_lt (level_at types rows x) l) [
        | inl here ↦
            (let I = spans (level_at types rows x) d deep (omega arith) in (
              I.0 ++ x ∷ [],
              ap (λ n. path_above types rows l (suc n)) same
                  ∙ cond-true (nat_lt (level_at types rows x) l) (path_of types rows x) (path_above types rows l x) (lt-ltb (level_at types rows x) l here)
                  ∙ ap (λ (xs : List ℕ). xs ++ x ∷ []) I.1 ∙ append_assoc (path_above types rows (level_at types rows i) i) (i ∷ I.0) (x ∷ []),
              in_end i e x I.0 I.2 (omega arith) (omega arith),
            ))
        | inr past ↦
            (let I = spans l d above (omega arith) in (
              I.0,
              ap (λ n. path_above types rows l (suc n)) same
                  ∙ cond-false (nat_lt (level_at types rows x) l) (path_of types rows x) (path_above types rows l x) (le-ltb (level_at types rows x) l past) ∙ I.1,
              I.2,
            ))
      ]

  -- the path of a row in the span of row i
  pub span_path : (j : ℕ) → i ≤ j → j < e → (more : List ℕ) × (path_of types rows j ≡ path_above types rows (level_at types rows i) i ++ i ∷ more) × AllIn i e more
  span_path j a b = elim (cases_lt i j) [
    | inr same ↦ (let s : j ≡ i = omega arith in ([], ap (path_of types rows) s, tt))
    | inl w ↦
        (let I = spans (level_at types rows j) (j - i - 1) (deeper j w b) (omega arith) in
        let s : suc (j - i - 1 + i) ≡ j = omega arith in (
          I.0 ++ j ∷ [],
          ap (λ (xs : List ℕ). xs ++ j ∷ []) (ap (path_above types rows (level_at types rows j)) (sym s) ∙ I.1) ∙ append_assoc (path_above types rows (level_at types rows i) i) (i ∷ I.0) (j ∷ []),
          in_end i e j I.0 I.2 a b,
        ))
  ]

-- ---- levels on a path into the span

module _ (i e : ℕ) (some : i < e) (L : ℕ) (top : 0 < L) (PA pf more : List ℕ) (long : length PA ≡ L - 1) (front : take (L - 1) pf ≡ PA) (low : AllBelow i PA) (deep : AllIn i e more) where
  on_low : (l : ℕ) → l < L → row_on (PA ++ i ∷ more) l ≡ row_on pf l
  on_low zero w = refl
  on_low (suc d) w = get_left PA (i ∷ more) d (omega arith) ∙ ap (λ (xs : List ℕ). slice_get xs d) (sym front) ∙ get_front (L - 1) pf d (omega arith)

  low_below : (l x : ℕ) → l < L → row_on (PA ++ i ∷ more) l ≡ Some x → x < i
  low_below zero x w q = cc
  low_below (suc d) x w q = get_below i PA d x low (sym (get_left PA (i ∷ more) d (omega arith)) ∙ q)

  high_in : (l x : ℕ) → L ≤ l → row_on (PA ++ i ∷ more) l ≡ Some x → (i ≤ x) × (x < e)
  high_in zero x w q = absurd (omega arith)
  high_in (suc d) x w q = get_in i e (i ∷ more) (d - length PA) x ((omega arith, some, deep)) (sym (get_right PA (i ∷ more) d (omega arith)) ∙ q)

  low_one : (above o : Option ℕ) → ((x : ℕ) → o ≡ Some x → x < i) → row_after_delete i e above o ≡ o
  low_one above None h = refl
  low_one above (Some x) h = (let s = low_stays i e some x (h x refl) in cond-false _ _ _ s.0 ∙ ap (λ (y : ℕ). Some y) s.1)

  high_one : (above o : Option ℕ) → ((x : ℕ) → o ≡ Some x → (i ≤ x) × (x < e)) → (above ≡ None) ⊎ ((x : ℕ) × (o ≡ Some x)) → row_after_delete i e above o ≡ above
  high_one above None h (inl n) = sym n
  high_one above None h (inr s) = (let none : None ≡ Some s.0 = s.1 in cc)
  high_one above (Some x) h c = (let b = h x refl in cond-true _ _ _ (inside_true i e some x b.0 b.1))

  pub standing_in : (above : Option ℕ) (s : ℕ) → s ≤ length (PA ++ i ∷ more) → above ≡ row_on pf (L - 1) → row_after_delete i e above (row_on (PA ++ i ∷ more) s) ≡ row_on pf (cond (nat_lt s L) s (L - 1))
  standing_in above s w is = elim (cases_lt s L) [
    | inl l ↦ low_one above (row_on (PA ++ i ∷ more) s) (λ x q. low_below s x l q) ∙ on_low s l ∙ sym (ap (row_on pf) (cond-true (nat_lt s L) s (L - 1) (lt-ltb s L l)))
    | inr l ↦ high_one above (row_on (PA ++ i ∷ more) s) (λ x q. high_in s x l q) (inr (there s l w)) ∙ is ∙ sym (ap (row_on pf) (cond-false (nat_lt s L) s (L - 1) (le-ltb s L l)))
  ]
    where
      there : (s : ℕ) → L ≤ s → s ≤ length (PA ++ i ∷ more) → (x : ℕ) × (row_on (PA ++ i ∷ more) s ≡ Some x)
      there zero l w = absurd (omega arith)
      there (suc d) l w = get_some (PA ++ i ∷ more) d (omega arith)

  pub parent_in : (l : ℕ) → row_after_delete i e None (row_on (PA ++ i ∷ more) l) ≡ row_on pf (cond (nat_lt l L) l 0)
  parent_in l = elim (cases_lt l L) [
    | inl w ↦ low_one None (row_on (PA ++ i ∷ more) l) (λ x q. low_below l x w q) ∙ on_low l w ∙ sym (ap (row_on pf) (cond-true (nat_lt l L) l 0 (lt-ltb l L w)))
    | inr w ↦ high_one None (row_on (PA ++ i ∷ more) l) (λ x q. high_in l x w q) (inl refl) ∙ sym (ap (row_on pf) (cond-false (nat_lt l L) l 0 (le-ltb l L w)))
  ]

  pub held_in : (x l : ℕ) → Some x ≡ row_on (PA ++ i ∷ more) l → (is_inside i e x ≡ nat_le L l) × (nat_le L l ≡ false → Some (number_after_delete i e x) ≡ row_on pf l)
  held_in x l q = elim (cases_lt l L) [
    | inl w ↦ (let s = low_stays i e some x (low_below l x w (sym q)) in (s.0 ∙ sym (lt-leb L l w), λ _. ap (λ (y : ℕ). Some y) s.1 ∙ q ∙ on_low l w))
    | inr w ↦ (let b = high_in l x w (sym q) in (inside_true i e some x b.0 b.1 ∙ sym (le-leb L l w), λ n. absurd (false≢true (sym n ∙ le-leb L l w))))
  ]

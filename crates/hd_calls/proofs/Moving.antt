-- What a change leaves of the rows that it does not touch: their tags and their bytes, at their new numbers.
use Rattle.std.proofs.Common.{◌≡◌, ℕ, zero, suc, ◌+◌, ◌-◌, ◌<◌, ◌≤◌, List, [], ◌∷◌, ◌++◌, length, map, take, drop, true, false, Bool, cond, arith, ap, sym, ◌∙◌, refl, inl, inr, ◌⊎◌}
use Rattle.std.specs.Prelude.{◌==◌, ◌&&◌, nat_lt, nat_le, filter, slice_index, slice_index_or, slice_set, min}
use Rattle.std.specs.List.{list_any, AllByRecursion}
use Rattle.std.proofs.lemmas.Bool.{or_parts, or_from, cond-true, cond-false, le-leb, lt-leb, lt-ltb, eqb-true, eq-eqb, ne_eqb, cases_lt}
use Rattle.std.proofs.lemmas.List.{length-append, length-take, length-take-le, length-drop, length-set, get_or-append_right, get_or_append_left, get_or-drop, get_or-set_other, take-append-drop}
use Rattle.hd_dbd.specs.Segment.{Segment}
use Rattle.hd_dbd.specs.Paths.{row_at}
use Rattle.hd_calls.specs.Moves.{Rewrite, put_in, taken_out, rewrite_rows, number_after_insert, number_after_delete, is_inside, is_rewritten}
use Rattle.hd_calls.specs.NoLostUpdate.{share}
use Rattle.hd_calls.specs.Tags.{numbers_from}

-- ---- reads

get_or-take : {A : Type 0} (n : ℕ) (xs : List A) (i : ℕ) (d : A) → i < n → slice_index_or (take n xs) i d ≡ slice_index_or xs i d
get_or-take zero xs i d below = absurd (omega arith)
get_or-take (suc n) [] i d below = refl
get_or-take (suc n) (x ∷ xs) zero d below = refl
get_or-take (suc n) (x ∷ xs) (suc i) d below = get_or-take n xs i d (omega arith)

-- a row keeps what it has where others are put in
pub put_kept : {A : Type 0} (p : ℕ) (new xs : List A) (i : ℕ) (d : A) → i < length xs → slice_index_or (put_in p new xs) (number_after_insert p (length new) i) d ≡ slice_index_or xs i d
put_kept p new xs i d within = elim (cases_lt i p) [
  | inl before ↦ (let same : number_after_insert p (length new) i ≡ i = cond-false (nat_le p i) (i + length new) i (lt-leb p i before) in
      let front : i < length (take p xs) = omega (arith, length-take p xs) in
      ap (λ (j : ℕ). slice_index_or (put_in p new xs) j d) same
      ∙ get_or_append_left (take p xs ++ new) (drop p xs) d i (omega (arith, length-append (take p xs) new))
      ∙ get_or_append_left (take p xs) new d i front
      ∙ get_or-take p xs i d before)
  | inr behind ↦ (let same : number_after_insert p (length new) i ≡ i + length new = cond-true (nat_le p i) (i + length new) i (le-leb p i behind) in
      let front : length (take p xs ++ new) ≡ p + length new = length-append (take p xs) new ∙ ap (λ (n : ℕ). n + length new) (length-take-le p xs (omega arith)) in
      ap (λ (j : ℕ). slice_index_or (put_in p new xs) j d) same
      ∙ get_or-append_right (take p xs ++ new) (drop p xs) (p + length new) (i + length new) d front (omega arith)
      ∙ get_or-drop p xs (i + length new - (p + length new)) d
      ∙ ap (λ (j : ℕ). slice_index_or xs j d) (omega arith))
]

-- a row outside a span keeps what it has where the span is taken out
pub taken_kept : {A : Type 0} (a b : ℕ) (xs : List A) (i : ℕ) (d : A) → a ≤ b → is_inside a b i ≡ false → i < length xs → slice_index_or (taken_out a b xs) (number_after_delete a b i) d ≡ slice_index_or xs i d
taken_kept a b xs i d forward outside within = elim (cases_lt i a) [
  | inl before ↦ (let same : number_after_delete a b i ≡ i = cond-false (nat_le b i) (i - (b - a)) i (lt-leb b i (omega arith)) in
      ap (λ (j : ℕ). slice_index_or (taken_out a b xs) j d) same
      ∙ get_or_append_left (take a xs) (drop b xs) d i (omega (arith, length-take a xs))
      ∙ get_or-take a xs i d before)
  | inr behind ↦ (let past : b ≤ i = by_end behind (cases_lt i b) in
      let same : number_after_delete a b i ≡ i - (b - a) = cond-true (nat_le b i) (i - (b - a)) i (le-leb b i past) in
      ap (λ (j : ℕ). slice_index_or (taken_out a b xs) j d) same
      ∙ get_or-append_right (take a xs) (drop b xs) a (i - (b - a)) d (length-take-le a xs (omega arith)) (omega arith)
      ∙ get_or-drop b xs (i - (b - a) - a) d
      ∙ ap (λ (j : ℕ). slice_index_or xs j d) (omega arith))
]
  where
    by_end : a ≤ i → (i < b) ⊎ (b ≤ i) → b ≤ i
    by_end behind (inr past) = past
    by_end behind (inl inside) =
        let t : is_inside a b i ≡ true = ap (λ x. x && nat_lt i b) (le-leb a i behind) ∙ lt-ltb i b inside in
        cc

pub rewrite_kept : (ws : List Rewrite) (rows : List Segment) (i : ℕ) → is_rewritten ws i ≡ false → row_at (rewrite_rows ws rows) i ≡ row_at rows i
rewrite_kept [] rows i other = refl
rewrite_kept (w ∷ ws) rows i other =
    let both = or_parts (w.number == i) (is_rewritten ws i) other in
    rewrite_kept ws (slice_set rows w.number (record { code = (row_at rows w.number).code; bytes = w.bytes })) i both.1
    ∙ get_or-set_other rows w.number i (record { code = (row_at rows w.number).code; bytes = w.bytes }) (record { code = 0; bytes = [] })
    (λ same. (let is : (w.number == i) ≡ true = eq-eqb w.number i (sym same) in cc))

-- ---- lengths

pub length-put_in : {A : Type 0} (p : ℕ) (new xs : List A) → length (put_in p new xs) ≡ length xs + length new
length-put_in p new xs = omega (arith, length-append (take p xs ++ new) (drop p xs), length-append (take p xs) new, length-take p xs, length-drop p xs)

pub length-taken_out : {A : Type 0} (a b : ℕ) (xs : List A) (i : ℕ) → a ≤ b → is_inside a b i ≡ false → i < length xs → number_after_delete a b i < length (taken_out a b xs)
length-taken_out a b xs i forward outside within = elim (cases_lt i a) [
  | inl before ↦ (let same : number_after_delete a b i ≡ i = cond-false (nat_le b i) (i - (b - a)) i (lt-leb b i (omega arith)) in
      omega (arith, length-append (take a xs) (drop b xs), length-take a xs, length-drop b xs))
  | inr behind ↦ (let past : b ≤ i = by_end behind (cases_lt i b) in
      let same : number_after_delete a b i ≡ i - (b - a) = cond-true (nat_le b i) (i - (b - a)) i (le-leb b i past) in
      omega (arith, length-append (take a xs) (drop b xs), length-take a xs, length-drop b xs))
]
  where
    by_end : a ≤ i → (i < b) ⊎ (b ≤ i) → b ≤ i
    by_end behind (inr past) = past
    by_end behind (inl inside) =
        let t : is_inside a b i ≡ true = ap (λ x. x && nat_lt i b) (le-leb a i behind) ∙ lt-ltb i b inside in
        cc

pub alike-taken_out : {A B : Type 0} (a b : ℕ) (xs : List A) (ys : List B) → length xs ≡ length ys → length (taken_out a b xs) ≡ length (taken_out a b ys)
alike-taken_out a b xs ys same =
    length-append (take a xs) (drop b xs)
    ∙ ap (λ (n : ℕ). n + length (drop b xs)) (length-take a xs) ∙ ap (λ (n : ℕ). min a (length xs) + n) (length-drop b xs)
    ∙ ap (λ (n : ℕ). min a n + (n - b)) same
    ∙ sym (length-append (take a ys) (drop b ys)
    ∙ ap (λ (n : ℕ). n + length (drop b ys)) (length-take a ys) ∙ ap (λ (n : ℕ). min a (length ys) + n) (length-drop b ys))

pub length-rewrite : (ws : List Rewrite) (rows : List Segment) → length (rewrite_rows ws rows) ≡ length rows
length-rewrite [] rows = refl
length-rewrite (w ∷ ws) rows =
    length-rewrite ws (slice_set rows w.number (record { code = (row_at rows w.number).code; bytes = w.bytes }))
    ∙ length-set rows w.number (record { code = (row_at rows w.number).code; bytes = w.bytes })

pub length-numbers : (n k : ℕ) → length (numbers_from n k) ≡ k
length-numbers n zero = refl
length-numbers n (suc k) = ap suc (length-numbers (n + 1) k)

-- ---- how often a tag stands

abbrev pub times : ℕ → List ℕ → ℕ
times t [] = 0
times t (x ∷ xs) = cond (x == t) (suc (times t xs)) (times t xs)

times_both : (t : ℕ) (xs ys : List ℕ) → times t (xs ++ ys) ≡ times t xs + times t ys
times_both t [] ys = omega arith
times_both t (x ∷ xs) ys = by_first (x == t) (times_both t xs ys)
  where
    by_first : (b : Bool) → times t (xs ++ ys) ≡ times t xs + times t ys
        → cond b (suc (times t (xs ++ ys))) (times t (xs ++ ys)) ≡ cond b (suc (times t xs)) (times t xs) + times t ys
    by_first true rest = omega arith
    by_first false rest = rest

times_parts : (t p : ℕ) (xs : List ℕ) → times t (take p xs) + times t (drop p xs) ≡ times t xs
times_parts t p xs = sym (times_both t (take p xs) (drop p xs)) ∙ ap (times t) (take-append-drop p xs)

pub times_put : (t p : ℕ) (new xs : List ℕ) → times t (put_in p new xs) ≡ times t xs + times t new
times_put t p new xs = omega (arith, times_both t (take p xs ++ new) (drop p xs), times_both t (take p xs) new, times_parts t p xs)

less_behind : (t a b : ℕ) (xs : List ℕ) → a ≤ b → times t (drop b xs) ≤ times t (drop a xs)
less_behind t zero b xs less = omega (arith, times_parts t b xs)
less_behind t (suc a) zero xs less = absurd (omega arith)
less_behind t (suc a) (suc b) [] less = omega arith
less_behind t (suc a) (suc b) (x ∷ xs) less = less_behind t a b xs (omega arith)

pub times_taken : (t a b : ℕ) (xs : List ℕ) → a ≤ b → times t (taken_out a b xs) ≤ times t xs
times_taken t a b xs forward = omega (arith, times_both t (take a xs) (drop b xs), times_parts t a xs, less_behind t a b xs forward)

pub no_lesser : (t n k : ℕ) → t < n → times t (numbers_from n k) ≡ 0
no_lesser t n zero less = refl
no_lesser t n (suc k) less =
    cond-false (n == t) (suc (times t (numbers_from (n + 1) k))) (times t (numbers_from (n + 1) k)) (ne_eqb n t (λ same. absurd (omega arith)))
    ∙ no_lesser t (n + 1) k (omega arith)

pub at_most_once : (t n k : ℕ) → times t (numbers_from n k) ≤ 1
at_most_once t n zero = omega arith
at_most_once t n (suc k) = by_first (n == t) refl (at_most_once t (n + 1) k) (λ less. no_lesser t (n + 1) k less)
  where
    by_first : (b : Bool) → (n == t) ≡ b → times t (numbers_from (n + 1) k) ≤ 1 → (t < n + 1 → times t (numbers_from (n + 1) k) ≡ 0)
        → cond b (suc (times t (numbers_from (n + 1) k))) (times t (numbers_from (n + 1) k)) ≤ 1
    by_first true is one none = (let eq : n ≡ t = eqb-true n t is in let zero_ : times t (numbers_from (n + 1) k) ≡ 0 = none (omega arith) in omega arith)
    by_first false is one none = one

pub below_end : (t n k : ℕ) → 0 < times t (numbers_from n k) → t < n + k
below_end t n zero some = absurd (omega arith)
below_end t n (suc k) some = by_first (n == t) refl some (λ more. below_end t (n + 1) k more)
  where
    by_first : (b : Bool) → (n == t) ≡ b → 0 < cond b (suc (times t (numbers_from (n + 1) k))) (times t (numbers_from (n + 1) k))
        → (0 < times t (numbers_from (n + 1) k) → t < n + 1 + k) → t < n + suc k
    by_first true is some more = (let eq : n ≡ t = eqb-true n t is in omega arith)
    by_first false is some more = (let rest : t < n + 1 + k = more some in omega arith)

times_here : (t x : ℕ) (xs : List ℕ) → x ≡ t → times t (x ∷ xs) ≡ suc (times t xs)
times_here t x xs same = cond-true (x == t) (suc (times t xs)) (times t xs) (eq-eqb x t same)

times_more : (t x : ℕ) (xs : List ℕ) → times t xs ≤ times t (x ∷ xs)
times_more t x xs = by_first (x == t)
  where
    by_first : (b : Bool) → times t xs ≤ cond b (suc (times t xs)) (times t xs)
    by_first true = omega arith
    by_first false = omega arith

stands_once : (xs : List ℕ) (i : ℕ) → i < length xs → 0 < times (slice_index xs i) xs
stands_once [] i within = absurd (omega arith)
stands_once (x ∷ xs) zero within = omega (arith, times_here x x xs refl)
stands_once (x ∷ xs) (suc i) within = omega (arith, stands_once xs i (omega arith), times_more (slice_index xs i) x xs)

-- a tag that stands once stands at one number
pub one_number : (xs : List ℕ) (i j : ℕ) → i < length xs → j < length xs → ((t : ℕ) → times t xs ≤ 1) → slice_index xs i ≡ slice_index xs j → i ≡ j
one_number [] i j a b once same = absurd (omega arith)
one_number (x ∷ xs) zero zero a b once same = refl
one_number (x ∷ xs) zero (suc j) a b once same =
    absurd (omega (arith, stands_once xs j (omega arith), once (slice_index xs j), times_here (slice_index xs j) x xs same))
one_number (x ∷ xs) (suc i) zero a b once same =
    absurd (omega (arith, stands_once xs i (omega arith), once (slice_index xs i), times_here (slice_index xs i) x xs (sym same)))
one_number (x ∷ xs) (suc i) (suc j) a b once same =
    ap suc (one_number xs i j (omega arith) (omega arith) (λ t. omega (arith, once t, times_more t x xs)) same)

-- ---- apart

none_alike : (tag : ℕ → ℕ) (k : ℕ) (held : List ℕ) → AllByRecursion (λ h. tag h ≡ tag k → ⊥) held → list_any (λ y. y == tag k) (map tag held) ≡ false
none_alike tag k [] all = refl
none_alike tag k (h ∷ hs) all = or_from (tag h == tag k) (list_any (λ y. y == tag k) (map tag hs)) (ne_eqb (tag h) (tag k) all.0) (none_alike tag k hs all.1)

pub none_shared : (tag : ℕ → ℕ) (P : ℕ → Type 0) (ks held : List ℕ) → ((k : ℕ) → P k → AllByRecursion (λ h. tag h ≡ tag k → ⊥) held) → AllByRecursion P ks
    → share (map tag ks) (map tag held) ≡ false
none_shared tag P [] held apart all = refl
none_shared tag P (k ∷ ks) held apart all =
    or_from (list_any (λ y. y == tag k) (map tag held)) (list_any (λ x. list_any (λ y. y == x) (map tag held)) (map tag ks))
    (none_alike tag k held (apart k all.0)) (none_shared tag P ks held apart all.1)

pub passing_numbers : (test : ℕ → Bool) (n k m : ℕ) → n + k ≤ m → AllByRecursion (λ i. (i < m) × (test i ≡ true)) (filter test (numbers_from n k))
passing_numbers test n zero m within = tt
passing_numbers test n (suc k) m within = by_test (test n) refl (passing_numbers test (n + 1) k m (omega arith))
  where
    by_test : (b : Bool) → test n ≡ b → AllByRecursion (λ i. (i < m) × (test i ≡ true)) (filter test (numbers_from (n + 1) k))
        → AllByRecursion (λ i. (i < m) × (test i ≡ true)) (cond b (n ∷ filter test (numbers_from (n + 1) k)) (filter test (numbers_from (n + 1) k)))
    by_test true is rest = ((omega arith, is), rest)
    by_test false is rest = rest

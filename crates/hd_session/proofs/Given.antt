-- What is given of the rows on a path, put together row by row.
use Rattle.std.proofs.Common.{◌≡◌, ◌≢◌, ◌-◌, ℕ, suc, ◌+◌, ◌*◌, ◌<◌, ◌≤◌, List, [], ◌∷◌, ◌++◌, length, map, mul-suc, Bool, true, false, cond, arith, Option, Some, None, refl, sym, ap, ap₂, ◌∙◌, subst, inl, inr}
use Rattle.std.specs.Prelude.{◌==◌, ◌||◌, flat_map, slice_get}
use Rattle.std.proofs.lemmas.Bool.{cases_Bool, cases_lt, eqb-true, eq-eqb}
use Rattle.std.proofs.lemmas.List.{length-append, append-nil, append_assoc}
use Rattle.hd_position.specs.Kept.{Ascend}
use Rattle.hd_position.proofs.Splices.{AllBelow}
use Rattle.hd_session.specs.Giving.{is_among, bytes_at}
use Rattle.hd_session.proofs.PathBytes.{total}

-- ---- one row more

-- the bytes of one row more, at the level behind those of the path
pub bytes_more : (bytes : ℕ → List ℕ) (levels : List ℕ) (l : ℕ) (path : List ℕ) (a : ℕ)
    → bytes_at bytes levels l (path ++ a ∷ []) ≡ bytes_at bytes levels l path ++ cond (is_among levels (l + length path)) (bytes a) []
bytes_more bytes levels l [] a =
    append-nil (cond (is_among levels l) (bytes a) []) ∙ ap (λ n. cond (is_among levels n) (bytes a) []) (let e : l ≡ l + 0 = omega arith in e)
bytes_more bytes levels l (b ∷ path) a =
    let here : List ℕ = cond (is_among levels l) (bytes b) [] in
    ap (λ (xs : List ℕ). here ++ xs)
    (bytes_more bytes levels (l + 1) path a
    ∙ ap (λ n. bytes_at bytes levels (l + 1) path ++ cond (is_among levels n) (bytes a) []) (let e : l + 1 + length path ≡ l + suc (length path) = omega arith in e))
    ∙ sym (append_assoc here (bytes_at bytes levels (l + 1) path) (cond (is_among levels (l + suc (length path))) (bytes a) []))

-- what is given is no longer than all
given_few : (bytes : ℕ → List ℕ) (a : ℕ) (b : Bool) → length (cond b (bytes a) []) ≤ length (bytes a)
given_few bytes a true = omega arith
given_few bytes a false = omega arith

pub bytes_few : (bytes : ℕ → List ℕ) (levels : List ℕ) (l : ℕ) (path : List ℕ) → length (bytes_at bytes levels l path) ≤ total bytes path
bytes_few bytes levels l [] = omega arith
bytes_few bytes levels l (a ∷ path) =
    let here : length (cond (is_among levels l) (bytes a) []) ≤ length (bytes a) = given_few bytes a (is_among levels l) in
    let rest : length (bytes_at bytes levels (l + 1) path) ≤ total bytes path = bytes_few bytes levels (l + 1) path in
    omega (arith, length-append (cond (is_among levels l) (bytes a) []) (bytes_at bytes levels (l + 1) path))

-- ---- by the numbers of rows

pub bytes_mapped : (bytes own : ℕ → List ℕ) (places : ℕ → ℕ) (n : ℕ) (levels : List ℕ) → ((k : ℕ) → k < n → bytes (places k) ≡ own k)
    → (l : ℕ) (path : List ℕ) → AllBelow n path → bytes_at bytes levels l (map places path) ≡ bytes_at own levels l path
bytes_mapped bytes own places n levels same l [] all = refl
bytes_mapped bytes own places n levels same l (k ∷ path) all =
    ap₂ (λ (x xs : List ℕ). cond (is_among levels l) x [] ++ xs) (same k all.0) (bytes_mapped bytes own places n levels same (l + 1) path all.1)

pub joined_mapped : (bytes own : ℕ → List ℕ) (places : ℕ → ℕ) (n : ℕ) → ((k : ℕ) → k < n → bytes (places k) ≡ own k)
    → (path : List ℕ) → AllBelow n path → flat_map bytes (map places path) ≡ flat_map own path
joined_mapped bytes own places n same [] all = refl
joined_mapped bytes own places n same (k ∷ path) all = ap₂ (λ (x xs : List ℕ). x ++ xs) (same k all.0) (joined_mapped bytes own places n same path all.1)

pub total_mapped : (bytes own : ℕ → List ℕ) (places : ℕ → ℕ) (n : ℕ) → ((k : ℕ) → k < n → bytes (places k) ≡ own k)
    → (path : List ℕ) → AllBelow n path → total bytes (map places path) ≡ total own path
total_mapped bytes own places n same [] all = refl
total_mapped bytes own places n same (k ∷ path) all = ap₂ (λ (x : List ℕ) m. length x + m) (same k all.0) (total_mapped bytes own places n same path all.1)

-- ---- the rows at some levels

-- levels that ascend from above one have none up to it
none_low : (low high level : ℕ) (levels : List ℕ) → Ascend low high levels → level ≤ low → is_among levels level ≡ false
none_low low high level [] up few = refl
none_low low high level (x ∷ xs) up few =
    let more : low < x = up.0 in by (x == level) refl more (none_low x high level xs up.2 (omega arith))
  where
    by : (b : Bool) → (x == level) ≡ b → low < x → is_among xs level ≡ false → (b || is_among xs level) ≡ false
    by true e more rest = absurd (let same : x ≡ level = eqb-true x level e in omega arith)
    by false e more rest = rest

-- lists agree from a level on
abbrev AgreeFrom : ℕ → List ℕ → List ℕ → Type 0
AgreeFrom level xs ys = (l : ℕ) → level ≤ l → is_among xs l ≡ is_among ys l

-- what is given depends on the levels from the first row's on alone
bytes_agree : (bytes : ℕ → List ℕ) (xs ys : List ℕ) (l : ℕ) (path : List ℕ) → AgreeFrom l xs ys → bytes_at bytes xs l path ≡ bytes_at bytes ys l path
bytes_agree bytes xs ys l [] agree = refl
bytes_agree bytes xs ys l (a ∷ path) agree =
    ap₂ (λ (b : Bool) (r : List ℕ). cond b (bytes a) [] ++ r) (agree l (omega arith)) (bytes_agree bytes xs ys (l + 1) path (λ k more. agree k (omega arith)))

-- no level is given
none_given : (bytes : ℕ → List ℕ) (l : ℕ) (path : List ℕ) → bytes_at bytes [] l path ≡ []
none_given bytes l [] = refl
none_given bytes l (a ∷ path) = none_given bytes (l + 1) path

-- a level that is passed counts no more
past_first : (x : ℕ) (xs : List ℕ) → AgreeFrom (x + 1) (x ∷ xs) xs
past_first x xs l more = by (x == l) refl
  where
    by : (b : Bool) → (x == l) ≡ b → (b || is_among xs l) ≡ is_among xs l
    by true e = absurd (let same : x ≡ l = eqb-true x l e in omega arith)
    by false e = refl

abbrev first_of : List (Option ℕ) → Option ℕ
first_of [] = None
first_of (o ∷ os) = o

abbrev rest_of : List (Option ℕ) → List (Option ℕ)
rest_of [] = []
rest_of (o ∷ os) = os

one_some : (a b : ℕ) → Some a ≡ Some b → a ≡ b
one_some a b e = cc

true_false : true ≡ false → ⊥
true_false e = cc

above_other : (x n : ℕ) → n ≤ x → x ≢ n → n < x
above_other x n few other = elim (cases_lt n x) [ inl more ↦ more | inr not ↦ absurd (other (let z : x ≡ n = omega arith in z)) ]

-- what stands at levels behind so many, on the rest of a path
abbrev StandsBehind : (ℕ → Option ℕ) → ℕ → List ℕ → Type 0
StandsBehind at_level l path = (x : ℕ) → l < x → at_level x ≡ slice_get path (x - (l + 1))

behind_more : (at_level : ℕ → Option ℕ) (l a : ℕ) (path : List ℕ) → StandsBehind at_level l (a ∷ path) → StandsBehind at_level (l + 1) path
behind_more at_level l a path stands x more = stands x (omega arith) ∙ ap (slice_get (a ∷ path)) (let e : x - (l + 1) ≡ suc (x - (l + 1 + 1)) = omega arith in e)

-- the bytes of the rows at levels that ascend are those of the rows, in order
pub bytes_taken : (bytes : ℕ → List ℕ) (at_level : ℕ → Option ℕ) (path : List ℕ) (l : ℕ) (levels taken : List ℕ) → StandsBehind at_level l path
    → Ascend l (l + length path) levels → map (λ (i : ℕ). Some i) taken ≡ map at_level levels → bytes_at bytes levels (l + 1) path ≡ flat_map bytes taken
bytes_taken bytes at_level path l [] [] stands up e = none_given bytes (l + 1) path
bytes_taken bytes at_level path l [] (t ∷ ts) stands up e = cc
bytes_taken bytes at_level path l (x ∷ xs) [] stands up e = cc
bytes_taken bytes at_level [] l (x ∷ xs) (t ∷ ts) stands up e = absurd (let low : l < x = up.0 in let high : x ≤ l + 0 = up.1 in omega arith)
bytes_taken bytes at_level (a ∷ path) l (x ∷ xs) (t ∷ ts) stands up e = elim (cases_Bool (x == l + 1)) [
  | inl here ↦ (let same : x ≡ l + 1 = eqb-true x (l + 1) here in
      let on : t ≡ a = one_some t a (ap first_of e ∙ stands x up.0 ∙ ap (slice_get (a ∷ path)) (let z : x - (l + 1) ≡ 0 = omega arith in z)) in
      let given : is_among (x ∷ xs) (l + 1) ≡ true = ap (λ b. b || is_among xs (l + 1)) here in
      let high : l + suc (length path) ≡ l + 1 + length path = omega arith in
      let behind : Ascend (l + 1) (l + 1 + length path) xs = subst (λ h. Ascend (l + 1) h xs) high (subst (λ y. Ascend y (l + suc (length path)) xs) same up.2) in
      ap₂ (λ (b : Bool) (r : List ℕ). cond b (bytes a) [] ++ r) given
      (bytes_agree bytes (x ∷ xs) xs (l + 1 + 1) path (subst (λ y. AgreeFrom (y + 1) (x ∷ xs) xs) same (past_first x xs))
      ∙ bytes_taken bytes at_level path (l + 1) xs ts (behind_more at_level l a path stands) behind (ap rest_of e))
      ∙ ap (λ k. bytes k ++ flat_map bytes ts) (sym on))
  | inr other ↦ (let low : l < x = up.0 in
      let not : x ≢ l + 1 = λ z. true_false (sym (eq-eqb x (l + 1) z) ∙ other) in
      let more : l + 1 < x = above_other x (l + 1) (omega arith) not in
      let high : l + suc (length path) ≡ l + 1 + length path = omega arith in
      let behind : Ascend (l + 1) (l + 1 + length path) (x ∷ xs) = (more, omega (arith, up.1), subst (λ h. Ascend x h xs) high up.2) in
      ap₂ (λ (b : Bool) (r : List ℕ). cond b (bytes a) [] ++ r) (none_low (l + 1) (l + 1 + length path) (l + 1) (x ∷ xs) behind (omega arith))
      (bytes_taken bytes at_level path (l + 1) (x ∷ xs) (t ∷ ts) (behind_more at_level l a path stands) behind e))
]

-- joined lists of bounded lengths
pub joined_short : (bytes : ℕ → List ℕ) (most : ℕ) → ((k : ℕ) → length (bytes k) ≤ most) → (path : List ℕ) → length (flat_map bytes path) ≤ most * length path
joined_short bytes most short [] = omega arith
joined_short bytes most short (k ∷ path) =
    let here : length (bytes k) ≤ most = short k in
    let rest : length (flat_map bytes path) ≤ most * length path = joined_short bytes most short path in
    let more : most * suc (length path) ≡ most * length path + most = mul-suc most (length path) in
    omega (arith, length-append (bytes k) (flat_map bytes path))

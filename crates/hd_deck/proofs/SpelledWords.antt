-- Words and numbers between blanks, as they are spelled and as they are read.
use Rattle.std.proofs.Common.{◌≡◌, ℕ, suc, ◌+◌, ◌<◌, List, [], ◌∷◌, ◌++◌, length, take, drop, cond, Bool, true, false, Option, Some, None, refl, ap, sym, subst, ◌∙◌, arith}
use Rattle.std.specs.Prelude.{nat_lt, ◌==◌, ◌&&◌, option_and_then}
use Rattle.std.specs.List.{list_all, prefix_len}
use Rattle.std.proofs.Math.Seq.{take-append_seam, drop-append_seam}
use Rattle.std.proofs.lemmas.Bool.{and_parts, and_from, cond-true, cond-false}
use Rattle.std.proofs.lemmas.Bool.Decides.{nat_tests}
use Rattle.std.proofs.lemmas.List.{take-append-drop}
use Rattle.std.proofs.lemmas.List.Folds.{length-prefix_len, list_all-append}
use Rattle.std.proofs.lemmas.Option.{cond_some, same_Some}
use Rattle.hd_lines.specs.Blanks.{is_blank, unpadded}
use Rattle.hd_lines.specs.Digits.{is_digit, value_of}
use Rattle.hd_deck.specs.Deck.{number_before_blanks, number_in}
use Rattle.hd_deck.specs.Spelling.{IsWord, IsNumber, IsCount, once, counted}

-- a test on numbers that holds
pub below-true : (m n : ℕ) → m < n → nat_lt m n ≡ true
below-true m n h = grind (arith, nat_tests)

pub true-below : (m n : ℕ) → nat_lt m n ≡ true → m < n
true-below m n h = grind (arith, nat_tests)

one-more : (n : ℕ) → 1 + n ≡ suc n
one-more n = omega arith

-- ---- bytes of a kind in front of others

module _ (p : ℕ → Bool) where
  -- the bytes of a kind in front are of that kind
  front-passes : (xs : List ℕ) → list_all p (take (prefix_len p xs) xs) ≡ true
  front-passes [] = refl
  front-passes (x ∷ xs) = byte (p x) refl (front-passes xs) where
    byte : (c : Bool) → p x ≡ c → list_all p (take (prefix_len p xs) xs) ≡ true → list_all p (take (cond (p x) (1 + prefix_len p xs) 0) (x ∷ xs)) ≡ true
    byte true is others =
        ap (λ (n : ℕ). list_all p (take n (x ∷ xs))) (cond-true (p x) (1 + prefix_len p xs) 0 is ∙ one-more (prefix_len p xs))
        ∙ and_from (p x) (list_all p (take (prefix_len p xs) xs)) is others
    byte false is others = ap (λ (n : ℕ). list_all p (take n (x ∷ xs))) (cond-false (p x) (1 + prefix_len p xs) 0 is)

  -- bytes of the kind in front of others, of which the first is of another kind, are as many as they are
  front-length : (xs ys : List ℕ) → list_all p xs ≡ true → prefix_len p ys ≡ 0 → prefix_len p (xs ++ ys) ≡ length xs
  front-length [] ys all stops = stops
  front-length (x ∷ xs) ys all stops =
      let (here, others) = and_parts (p x) (list_all p xs) all in
      cond-true (p x) (1 + prefix_len p (xs ++ ys)) 0 here ∙ ap (λ (n : ℕ). 1 + n) (front-length xs ys others stops) ∙ one-more (length xs)

-- blanks do not begin with a byte of a kind that a blank is not of
blanks-stop : (p : ℕ → Bool) → p 32 ≡ false → (ys : List ℕ) → is_blank ys ≡ true → prefix_len p ys ≡ 0
blanks-stop p other [] blank = refl
blanks-stop p other (y ∷ ys) blank =
    let (here, others) = and_parts (y == 32) (is_blank ys) blank in
    let is : y ≡ 32 = grind (arith, nat_tests) in
    cond-false (p y) (1 + prefix_len p ys) 0 (ap p is ∙ other)

-- ---- words

-- whether a text is a word of a kind
abbrev pub is_word : (ℕ → Bool) → List ℕ → Bool
is_word p text = nat_lt 0 (prefix_len p text) && is_blank (drop (prefix_len p text) text)

-- what is read as a word is spelled as one
pub word-spelled : (p : ℕ → Bool) (text : List ℕ) → is_word p text ≡ true → IsWord p text (take (prefix_len p text) text)
word-spelled p text h =
    let (some, blank) = and_parts (nat_lt 0 (prefix_len p text)) (is_blank (drop (prefix_len p text) text)) h in
    record {
      behind = drop (prefix_len p text) text;
      spelling = sym (take-append-drop (prefix_len p text) text);
      some = rw (length-prefix_len p text) (true-below 0 (prefix_len p text) some);
      all = front-passes p text;
      blank = blank;
    }

-- a word is as long as the bytes of its kind in front
pub word-length : (p : ℕ → Bool) → p 32 ≡ false → (text word : List ℕ) → IsWord p text word → prefix_len p text ≡ length word
word-length p other text word w =
    ap (prefix_len p) w.spelling ∙ front-length p word w.behind w.all (blanks-stop p other w.behind w.blank)

pub word-taken : (p : ℕ → Bool) → p 32 ≡ false → (text word : List ℕ) → IsWord p text word → take (prefix_len p text) text ≡ word
word-taken p other text word w =
    ap (λ (n : ℕ). take n text) (word-length p other text word w) ∙ ap (take (length word)) w.spelling ∙ take-append_seam word w.behind

-- what is spelled as a word is read as one
pub word-read : (p : ℕ → Bool) → p 32 ≡ false → (text word : List ℕ) → IsWord p text word → is_word p text ≡ true
word-read p other text word w =
    let long = word-length p other text word w in
    let rest : drop (prefix_len p text) text ≡ w.behind = ap (λ (n : ℕ). drop n text) long ∙ ap (drop (length word)) w.spelling ∙ drop-append_seam word w.behind in
    and_from (nat_lt 0 (prefix_len p text)) (is_blank (drop (prefix_len p text) text))
    (ap (nat_lt 0) long ∙ below-true 0 (length word) w.some) (ap is_blank rest ∙ w.blank)

-- ---- numbers

-- blanks in front are passed over
unpadded-behind : (before behind : List ℕ) → is_blank before ≡ true → prefix_len (λ b. b == 32) behind ≡ 0 → unpadded (before ++ behind) ≡ behind
unpadded-behind before behind blank stops =
    ap (λ (n : ℕ). drop n (before ++ behind)) (front-length (λ b. b == 32) before behind blank stops) ∙ drop-append_seam before behind

-- a word of digits begins with no blank
digit-stops : (text digits : List ℕ) → IsWord is_digit text digits → prefix_len (λ b. b == 32) text ≡ 0
digit-stops text [] w = absurd (let h = w.some in omega (arith, h))
digit-stops text (d ∷ digits) w =
    let (here, others) = and_parts (is_digit d) (list_all is_digit digits) w.all in
    let other : (d == 32) ≡ false = grind (arith, nat_tests) in
    ap (prefix_len (λ b. b == 32)) w.spelling ∙ cond-false (d == 32) (1 + prefix_len (λ b. b == 32) (digits ++ w.behind)) 0 other

pub number-read : (text : List ℕ) (n : ℕ) → IsNumber text n → number_in text ≡ Some n
number-read text n s =
    let rest : unpadded text ≡ s.behind = ap unpadded s.spelling ∙ unpadded-behind s.before s.behind s.blank (digit-stops s.behind s.digits s.digits_are) in
    ap number_before_blanks rest
    ∙ cond-true (is_word is_digit s.behind) (Some (value_of (take (prefix_len is_digit s.behind) s.behind))) None (word-read is_digit refl s.behind s.digits s.digits_are)
    ∙ ap (λ (ds : List ℕ). Some (value_of ds)) (word-taken is_digit refl s.behind s.digits s.digits_are)
    ∙ ap Some (sym s.value)

pub number-spelled : (text : List ℕ) (n : ℕ) → number_in text ≡ Some n → IsNumber text n
number-spelled text n h =
    let (is, value) = cond_some (is_word is_digit (unpadded text)) (value_of (take (prefix_len is_digit (unpadded text)) (unpadded text))) n h in
    record {
      before = take (prefix_len (λ b. b == 32) text) text;
      behind = unpadded text;
      spelling = sym (take-append-drop (prefix_len (λ b. b == 32) text) text);
      blank = front-passes (λ b. b == 32) text;
      digits = take (prefix_len is_digit (unpadded text)) (unpadded text);
      digits_are = word-spelled is_digit (unpadded text) is;
      value = sym value;
    }

-- ---- repeat counts

-- how often a call is made that has this repeat count
abbrev pub count_in : List ℕ → Option ℕ
count_in text = cond (is_blank text) (Some 1) (option_and_then (λ k. cond (k == 0) None (Some k)) (number_in text))

-- a number is not blank
digits-not-blank : (text digits : List ℕ) → IsWord is_digit text digits → is_blank text ≡ false
digits-not-blank text [] w = absurd (let h = w.some in omega (arith, h))
digits-not-blank text (d ∷ digits) w =
    let (here, others) = and_parts (is_digit d) (list_all is_digit digits) w.all in
    let other : (d == 32) ≡ false = grind (arith, nat_tests) in
    ap is_blank w.spelling ∙ ap (λ (c : Bool). c && is_blank (digits ++ w.behind)) other

not-both : (a b : Bool) → b ≡ false → (a && b) ≡ false
not-both true b h = h
not-both false b h = refl

number-not-blank : (text : List ℕ) (n : ℕ) → IsNumber text n → is_blank text ≡ false
number-not-blank text n s =
    ap is_blank s.spelling ∙ list_all-append (λ b. b == 32) s.before s.behind ∙ not-both (is_blank s.before) (is_blank s.behind) (digits-not-blank s.behind s.digits s.digits_are)

pub count-read : (text : List ℕ) (k : ℕ) → IsCount text k → count_in text ≡ Some k
count-read text _ (once blank) = cond-true (is_blank text) _ _ blank
count-read text k (counted s some) =
    let other : (k == 0) ≡ false = grind (arith, nat_tests) in
    cond-false (is_blank text) _ _ (number-not-blank text k s)
    ∙ ap (λ (o : Option ℕ). option_and_then (λ k. cond (k == 0) None (Some k)) o) (number-read text k s)
    ∙ cond-false (k == 0) None (Some k) other

counted-number : (text : List ℕ) (k : ℕ) (o : Option ℕ) → number_in text ≡ o → option_and_then (λ k. cond (k == 0) None (Some k)) o ≡ Some k → IsCount text k
counted-number text k None is h = absurd (cc)
counted-number text k (Some n) is h = by_test (n == 0) refl h where
  by_test : (c : Bool) → (n == 0) ≡ c → cond c None (Some n) ≡ Some k → IsCount text k
  by_test true e h = absurd (cc)
  by_test false e h =
      let same = same_Some n k h in
      let some : 0 < n = grind (arith, nat_tests) in
      subst (λ (m : ℕ). IsCount text m) same (counted (number-spelled text n is) some)

pub count-spelled : (text : List ℕ) (k : ℕ) → count_in text ≡ Some k → IsCount text k
count-spelled text k h = by_test (is_blank text) refl h where
  by_test : (c : Bool) → is_blank text ≡ c → cond c (Some 1) (option_and_then (λ k. cond (k == 0) None (Some k)) (number_in text)) ≡ Some k → IsCount text k
  by_test true e h = subst (λ (m : ℕ). IsCount text m) (same_Some 1 k h) (once e)
  by_test false e h = counted-number text k (number_in text) refl h

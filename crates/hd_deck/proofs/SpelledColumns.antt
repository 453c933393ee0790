-- The first eleven columns of a call.
use Rattle.std.proofs.Common.{◌≡◌, ℕ, zero, suc, ◌+◌, ◌-◌, ◌<◌, ◌≤◌, List, [], ◌∷◌, ◌++◌, length, take, drop, replicate, get_or, true, refl, ap, ap₂, sym, ◌∙◌, arith, append_assoc}
use Rattle.std.specs.Prelude.{◌==◌}
use Rattle.std.proofs.Math.Seq.{take-append_seam}
use Rattle.std.proofs.lemmas.Bool.{and_parts}
use Rattle.std.proofs.lemmas.Bool.Decides.{nat_tests}
use Rattle.std.proofs.lemmas.List.{take-append-le, replicate-append-replicate, length-append, length-replicate}
use Rattle.hd_lines.specs.Blanks.{is_blank}
use Rattle.hd_deck.specs.Deck.{column, columns}

-- columns 1 to 11, with blanks behind the line's end
abbrev pub padded : List ℕ → List ℕ
padded line = take 11 (line ++ replicate 11 32)

-- the columns of a line are those of its first eleven
pub record Columns (line : List ℕ) : Type 0 where
  pub first : column line 1 ≡ get_or (padded line) 0 32
  pub count : columns line 2 4 ≡ take 4 (drop 1 (padded line))
  pub sixth : column line 6 ≡ get_or (padded line) 5 32
  pub function : columns line 7 4 ≡ take 4 (drop 6 (padded line))
  pub eleventh : column line 11 ≡ get_or (padded line) 10 32
  pub all : padded line ≡ column line 1 ∷ (columns line 2 4 ++ column line 6 ∷ (columns line 7 4 ++ column line 11 ∷ []))
  pub four_counts : length (columns line 2 4) ≡ 4
  pub four_letters : length (columns line 7 4) ≡ 4

pub columns-of : (line : List ℕ) → Columns line
columns-of [] =
    record { first = refl; count = refl; sixth = refl; function = refl; eleventh = refl; all = refl; four_counts = refl; four_letters = refl }
columns-of (a ∷ []) =
    record { first = refl; count = refl; sixth = refl; function = refl; eleventh = refl; all = refl; four_counts = refl; four_letters = refl }
columns-of (a ∷ b ∷ []) =
    record { first = refl; count = refl; sixth = refl; function = refl; eleventh = refl; all = refl; four_counts = refl; four_letters = refl }
columns-of (a ∷ b ∷ c ∷ []) =
    record { first = refl; count = refl; sixth = refl; function = refl; eleventh = refl; all = refl; four_counts = refl; four_letters = refl }
columns-of (a ∷ b ∷ c ∷ d ∷ []) =
    record { first = refl; count = refl; sixth = refl; function = refl; eleventh = refl; all = refl; four_counts = refl; four_letters = refl }
columns-of (a ∷ b ∷ c ∷ d ∷ e ∷ []) =
    record { first = refl; count = refl; sixth = refl; function = refl; eleventh = refl; all = refl; four_counts = refl; four_letters = refl }
columns-of (a ∷ b ∷ c ∷ d ∷ e ∷ f ∷ []) =
    record { first = refl; count = refl; sixth = refl; function = refl; eleventh = refl; all = refl; four_counts = refl; four_letters = refl }
columns-of (a ∷ b ∷ c ∷ d ∷ e ∷ f ∷ g ∷ []) =
    record { first = refl; count = refl; sixth = refl; function = refl; eleventh = refl; all = refl; four_counts = refl; four_letters = refl }
columns-of (a ∷ b ∷ c ∷ d ∷ e ∷ f ∷ g ∷ h ∷ []) =
    record { first = refl; count = refl; sixth = refl; function = refl; eleventh = refl; all = refl; four_counts = refl; four_letters = refl }
columns-of (a ∷ b ∷ c ∷ d ∷ e ∷ f ∷ g ∷ h ∷ i ∷ []) =
    record { first = refl; count = refl; sixth = refl; function = refl; eleventh = refl; all = refl; four_counts = refl; four_letters = refl }
columns-of (a ∷ b ∷ c ∷ d ∷ e ∷ f ∷ g ∷ h ∷ i ∷ j ∷ []) =
    record { first = refl; count = refl; sixth = refl; function = refl; eleventh = refl; all = refl; four_counts = refl; four_letters = refl }
columns-of (a ∷ b ∷ c ∷ d ∷ e ∷ f ∷ g ∷ h ∷ i ∷ j ∷ k ∷ more) =
    record { first = refl; count = refl; sixth = refl; function = refl; eleventh = refl; all = refl; four_counts = refl; four_letters = refl }

-- ---- eleven columns and what stands behind them

front-taken : (head rest : List ℕ) → length head ≡ 11 → take 11 (head ++ rest) ≡ head
front-taken head rest whole = ap (λ (n : ℕ). take n (head ++ rest)) (sym whole) ∙ take-append_seam head rest

-- eleven bytes in front are the columns
pub padded-front : (head behind : List ℕ) → length head ≡ 11 → padded (head ++ behind) ≡ head
padded-front head behind whole = ap (take 11) (append_assoc head behind (replicate 11 32)) ∙ front-taken head (behind ++ replicate 11 32) whole

-- blanks alone are as many blanks
blanks-are : (bs : List ℕ) → is_blank bs ≡ true → bs ≡ replicate (length bs) 32
blanks-are [] blank = refl
blanks-are (b ∷ bs) blank =
    let (here, others) = and_parts (b == 32) (is_blank bs) blank in
    let is : b ≡ 32 = grind (arith, nat_tests) in
    ap₂ (λ (x : ℕ) (xs : List ℕ). x ∷ xs) is (blanks-are bs others)

-- a line that blanks make eleven bytes long has those for its columns
pub padded-blanks : (line blanks : List ℕ) → is_blank blanks ≡ true → length line + length blanks ≡ 11 → padded line ≡ line ++ blanks
padded-blanks line blanks blank whole =
    let all : replicate 11 32 ≡ blanks ++ replicate (length line) 32 =
    ap (λ (n : ℕ). replicate n 32) (let e : 11 ≡ length blanks + length line = omega arith in e)
    ∙ sym (replicate-append-replicate (length blanks) (length line) 32)
    ∙ ap (λ (bs : List ℕ). bs ++ replicate (length line) 32) (sym (blanks-are blanks blank)) in
    ap (λ (bs : List ℕ). take 11 (line ++ bs)) all
    ∙ ap (take 11) (sym (append_assoc line blanks (replicate (length line) 32)))
    ∙ front-taken (line ++ blanks) (replicate (length line) 32) (length-append line blanks ∙ whole)

all-blank : (n : ℕ) → is_blank (replicate n 32) ≡ true
all-blank zero = refl
all-blank (suc n) = all-blank n

-- the blanks that a short line wants
pub blanks-wanted : (line : List ℕ) → length line ≤ 11 → (blanks : List ℕ) × (is_blank blanks ≡ true) × (padded line ≡ line ++ blanks)
blanks-wanted line short =
    let many = length-replicate {A = ℕ} (11 - length line) 32 in
    (replicate (11 - length line) 32, all-blank (11 - length line), padded-blanks line (replicate (11 - length line) 32) (all-blank (11 - length line)) (omega arith))

-- the columns of a long line are its first eleven bytes
pub padded-long : (line : List ℕ) → 11 < length line → padded line ≡ take 11 line
padded-long line long = take-append-le 11 line (replicate 11 32) (omega arith)

-- ---- a call's columns

-- what holds of any four bytes holds of a list of four
four : (xs : List ℕ) → length xs ≡ 4 → (P : List ℕ → Type 0) → ((a b c d : ℕ) → P (a ∷ b ∷ c ∷ d ∷ [])) → P xs
four [] is P f = absurd (omega arith)
four (a ∷ []) is P f = absurd (omega arith)
four (a ∷ b ∷ []) is P f = absurd (omega arith)
four (a ∷ b ∷ c ∷ []) is P f = absurd (omega arith)
four (a ∷ b ∷ c ∷ d ∷ []) is P f = f a b c d
four (a ∷ b ∷ c ∷ d ∷ e ∷ more) is P f = absurd (omega arith)

-- L, a count, a blank, a function and a blank
abbrev pub head_of : List ℕ → List ℕ → List ℕ
head_of count function = 76 ∷ (count ++ 32 ∷ (function ++ 32 ∷ []))

pub head-length : (count function : List ℕ) → length count ≡ 4 → length function ≡ 4 → length (head_of count function) ≡ 11
head-length count function four_counts four_letters = omega (arith, length-append count (32 ∷ (function ++ 32 ∷ [])), length-append function (32 ∷ []))

abbrev pub HasColumns : List ℕ → List ℕ → List ℕ → Type 0
HasColumns line count function = (column line 1 ≡ 76) × (columns line 2 4 ≡ count) × (column line 6 ≡ 32) × (columns line 7 4 ≡ function) × (column line 11 ≡ 32)

pub head-columns : (line count function : List ℕ) → length count ≡ 4 → length function ≡ 4 → padded line ≡ head_of count function → HasColumns line count function
head-columns line count function four_counts four_letters =
    four count four_counts (λ (xs : List ℕ). padded line ≡ head_of xs function → HasColumns line xs function) (λ a b c d.
    four function four_letters (λ (ys : List ℕ). padded line ≡ head_of (a ∷ b ∷ c ∷ d ∷ []) ys → HasColumns line (a ∷ b ∷ c ∷ d ∷ []) ys) (λ e f g h is.
    let all = columns-of line in (
      all.first ∙ ap (λ (bs : List ℕ). get_or bs 0 32) is,
      all.count ∙ ap (λ (bs : List ℕ). take 4 (drop 1 bs)) is,
      all.sixth ∙ ap (λ (bs : List ℕ). get_or bs 5 32) is,
      all.function ∙ ap (λ (bs : List ℕ). take 4 (drop 6 bs)) is,
      all.eleventh ∙ ap (λ (bs : List ℕ). get_or bs 10 32) is,
    )))

-- a line with L in column 1, and blanks in columns 6 and 11
pub columns-head : (line : List ℕ) → column line 1 ≡ 76 → column line 6 ≡ 32 → column line 11 ≡ 32 → padded line ≡ head_of (columns line 2 4) (columns line 7 4)
columns-head line first sixth eleventh =
    (columns-of line).all
    ∙ ap (λ (b : ℕ). b ∷ (columns line 2 4 ++ column line 6 ∷ (columns line 7 4 ++ column line 11 ∷ []))) first
    ∙ ap₂ (λ (b c : ℕ). 76 ∷ (columns line 2 4 ++ b ∷ (columns line 7 4 ++ c ∷ []))) sixth eleventh

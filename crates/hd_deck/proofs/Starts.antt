-- What stands first in a text stands first in its first line.
use Rattle.std.proofs.Common.{◌≡◌, ℕ, suc, ◌-◌, List, [], ◌∷◌, length, take, get_or, cond, Bool, true, false, ◌==◌, arith, refl, ◌∙◌, ap}
use Rattle.std.specs.List.{slice_split, onto_first}
use Rattle.std.specs.Str.Lines.{lines, lines_of_parts, strip_carriage_return}
use Rattle.std.proofs.lemmas.Bool.Decides.{nat_tests}
use Rattle.hd_dbd.specs.Calls.{CallText}
use Rattle.hd_deck.specs.CallLines.{with_parts, with_line, ends_call}

-- a part that does not end with its first byte, a carriage return, keeps that
kept_first : (b : ℕ) (x : List ℕ) → ends_call (strip_carriage_return (b ∷ x)) ≡ ends_call (b ∷ x)
kept_first b [] = by (b == 13) refl
  where
    by : (t : Bool) → (b == 13) ≡ t → ends_call (cond t [] (b ∷ [])) ≡ ends_call (b ∷ [])
    by true e = grind (arith, nat_tests)
    by false e = refl
kept_first b (y ∷ ys) = by (get_or (b ∷ y ∷ ys) (length (b ∷ y ∷ ys) - 1) 0 == 13)
  where
    one : length (b ∷ y ∷ ys) - 1 ≡ suc (length ys)
    one = omega arith

    all : take (length (b ∷ y ∷ ys) - 1) (b ∷ y ∷ ys) ≡ b ∷ take (length ys) (y ∷ ys)
    all = ap (λ (n : ℕ). take n (b ∷ y ∷ ys)) one

    by : (t : Bool) → ends_call (cond t (take (length (b ∷ y ∷ ys) - 1) (b ∷ y ∷ ys)) (b ∷ y ∷ ys)) ≡ ends_call (b ∷ y ∷ ys)
    by true = ap ends_call all
    by false = refl

-- the first line of some parts
first_of_parts : (b : ℕ) (x : List ℕ) (parts : List (List ℕ)) (line : List ℕ) (more : List (List ℕ)) → lines_of_parts ((b ∷ x) ∷ parts) ≡ line ∷ more → ends_call line ≡ ends_call (b ∷ x)
first_of_parts b x [] line more is = ap ends_call (by (length (b ∷ x) == 0) refl is)
  where
    by : (t : Bool) → (length (b ∷ x) == 0) ≡ t → cond t [] ((b ∷ x) ∷ []) ≡ line ∷ more → line ≡ b ∷ x
    by true e is = absurd (cc)
    by false e is = cc
first_of_parts b x (y ∷ ys) line more is =
    (let same : line ≡ strip_carriage_return (b ∷ x) = cc in ap ends_call same ∙ kept_first b x)

-- a text begins as its first line
pub starts_as : (bs line : List ℕ) (more : List (List ℕ)) → lines bs ≡ line ∷ more → ends_call line ≡ ends_call bs
starts_as [] line more is = absurd (cc)
starts_as (b ∷ bs) line more is = by_feed (b == 10) refl is
  where
    by_parts : (parts : List (List ℕ)) → lines_of_parts (onto_first b parts) ≡ line ∷ more → ends_call line ≡ ends_call (b ∷ bs)
    by_parts [] is = first_of_parts b [] [] line more is
    by_parts (x ∷ parts) is = first_of_parts b x parts line more is

    empty_first : (parts : List (List ℕ)) → lines_of_parts ([] ∷ parts) ≡ line ∷ more → line ≡ []
    empty_first [] is = absurd (cc)
    empty_first (x ∷ parts) is = cc

    by_feed : (t : Bool) → (b == 10) ≡ t → lines_of_parts (cond t ([] ∷ slice_split (λ b. b == 10) bs) (onto_first b (slice_split (λ b. b == 10) bs))) ≡ line ∷ more → ends_call line ≡ ends_call (b ∷ bs)
    by_feed true e is = ap ends_call (empty_first (slice_split (λ b. b == 10) bs) is) ∙ grind (arith, nat_tests)
    by_feed false e is = by_parts (slice_split (λ b. b == 10) bs) is

-- a text that begins with another call or a selection adds nothing to the call before it
pub ended : (bs : List ℕ) (c : CallText) → ends_call bs ≡ true → with_parts (lines bs) c ≡ c
ended bs c ends = by (lines bs) refl
  where
    by : (ls : List (List ℕ)) → lines bs ≡ ls → with_parts ls c ≡ c
    by [] is = refl
    by (line ∷ more) is = ap (λ (b : Bool). cond b c (with_parts more (with_line line c))) (starts_as bs line more is ∙ ends)

-- a text that begins otherwise adds what its first line says, and then what those behind it say
pub goes_on : (bs line : List ℕ) (more : List (List ℕ)) (c : CallText) → lines bs ≡ line ∷ more → ends_call bs ≡ false → with_parts (lines bs) c ≡ with_parts more (with_line line c)
goes_on bs line more c is goes =
    ap (λ (ls : List (List ℕ)). with_parts ls c) is
    ∙ ap (λ (b : Bool). cond b c (with_parts more (with_line line c))) (starts_as bs line more is ∙ goes)

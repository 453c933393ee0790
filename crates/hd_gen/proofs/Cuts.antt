-- A text cut at its first comma.
use Rattle.std.proofs.Common.{◌≡◌, ℕ, ◌+◌, ◌<◌, List, [], ◌∷◌, length, take, drop, ◌==◌, arith, refl, ap, ◌∙◌}
use Rattle.std.specs.List.{slice_split, position_or_len}
use Rattle.std.proofs.lemmas.List.Splits.{slice_split_none, slice_split_first, length-slice_split}
use Rattle.std.proofs.lemmas.List.Sums.{fails_before_first}
use Rattle.hd_gen.specs.Values.{many, as_words, words}

-- where there is none, the text is one word
pub one_word : (text : List ℕ) → position_or_len (λ b. b == 44) text ≡ length text → slice_split (λ b. b == 44) text ≡ text ∷ []
one_word text whole = slice_split_none (λ b. b == 44) text (λ k d low. fails_before_first (λ b. b == 44) text k d (omega arith))

-- where there is one, the first word stands before it, and the others behind it
pub first_word : (text : List ℕ) → position_or_len (λ b. b == 44) text < length text
    → slice_split (λ b. b == 44) text ≡ take (position_or_len (λ b. b == 44) text) text ∷ slice_split (λ b. b == 44) (drop (position_or_len (λ b. b == 44) text + 1) text)
first_word text inside = slice_split_first (λ b. b == 44) text 0 inside

-- three words with others behind them are many
as_many : (a b c : List ℕ) (ws : List (List ℕ)) → 0 < length ws → as_words (a ∷ b ∷ c ∷ ws) ≡ many
as_many a b c [] some = absurd (omega arith)
as_many a b c (d ∷ ds) some = refl

pub many_words : (a b c text rest-1 rest-2 rest : List ℕ) → slice_split (λ b. b == 44) text ≡ a ∷ slice_split (λ b. b == 44) rest-1
    → slice_split (λ b. b == 44) rest-1 ≡ b ∷ slice_split (λ b. b == 44) rest-2 → slice_split (λ b. b == 44) rest-2 ≡ c ∷ slice_split (λ b. b == 44) rest
    → words text ≡ many
many_words a b c text rest-1 rest-2 rest first second third =
    ap as_words (first ∙ ap (λ ws. a ∷ ws) (second ∙ ap (λ ws. b ∷ ws) third))
    ∙ as_many a b c (slice_split (λ b. b == 44) rest) (let some = length-slice_split (λ b. b == 44) rest in omega arith)

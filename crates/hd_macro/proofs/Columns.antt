-- The columns of a line, kept as a card.
use Rattle.std.proofs.Common.{◌≡◌, ℕ, ◌≤◌, ◌-◌, List, ◌++◌, length, drop, replicate, Bool, false, cond, arith, ap, ◌∙◌}
use Rattle.std.specs.Prelude.{nat_lt}
use Rattle.std.proofs.lemmas.List.{drop-replicate, append-nil}
use Rattle.std.proofs.lemmas.Bool.Decides.{nat_tests}
use Rattle.hd_macro.specs.Cards.{card, has_other_byte}
use Rattle.hd_macro.specs.Source.{Open, nothing, operands, remarks, read_open, read_line}

-- what stands behind some of eighty blanks
pub blanks_behind : (n : ℕ) → drop {A = ℕ} n (replicate 80 32) ≡ replicate (80 - n) 32
blanks_behind n = drop-replicate n 80 32

-- eighty columns are their own card
whole_card : (columns : List ℕ) → length columns ≡ 80 → card columns ≡ columns
whole_card columns whole = ap (λ (n : ℕ). columns ++ replicate (80 - n) 32) whole ∙ append-nil columns

-- lines with the same columns are read alike
same_columns : (o : Open) (n : ℕ) (a b : List ℕ) → card a ≡ card b → read_open o n a ≡ read_open o n b
same_columns nothing n a b same = rw same
same_columns (operands s r) n a b same = rw same
same_columns (remarks s) n a b same = rw same

-- of two tests that both fail the last choice is left
both_fail : {X : Type 0} (k : ℕ) (b : Bool) (x y z : X) → k ≤ 80 → b ≡ false → z ≡ cond (nat_lt 80 k) x (cond b y z)
both_fail k b x y z short ascii = grind (arith, nat_tests)

-- a line of no more than eighty bytes, all of them ASCII, is read by its columns
pub read_by_columns : (o : Open) (n : ℕ) (line columns : List ℕ) → length line ≤ 80 → has_other_byte line ≡ false → columns ≡ card line → length columns ≡ 80 → read_open o n columns ≡ read_line o n line
read_by_columns o n line columns short ascii is whole =
    same_columns o n columns line (whole_card columns whole ∙ is) ∙ both_fail (length line) (has_other_byte line) _ _ _ short ascii

use Rattle.std.proofs.Common.{arith, ◌≡◌, ◌<◌, ◌∙◌, sym, ap, ℕ, List, false, Some, None, cond, ◌==◌, Option, option_and_then}
use Rattle.std.proofs.lemmas.Bool.Decides.{nat_tests}
use Rattle.hd_lines.specs.Blanks.{is_blank}
use Rattle.hd_deck.specs.Deck.{columns, number_in, repeat_in}
use Rattle.hd_deck.proofs.Numbers.{read_columns}
use Rattle.hd_deck.proofs.line.repeat_in.Goals as goal

-- a count above 0 is taken as it is
kept : (o : Option ℕ) (k : ℕ) → o ≡ Some k → 0 < k → option_and_then (λ n. cond (n == 0) None (Some n)) o ≡ Some k
kept o k is above = rw is (grind (arith, nat_tests))

-- a count that stands in the columns is the line's
counted : (line : List ℕ) (k : ℕ) → is_blank (columns line 2 4) ≡ false → number_in (columns line 2 4) ≡ Some k → 0 < k → Some k ≡ repeat_in line
counted line k filled is above = sym (rw filled (kept (number_in (columns line 2 4)) k is above))

pub returns-in_default-clause-value : goal.returns-in_default-clause-value
returns-in_default-clause-value c =
    let columns_are = c.four_columns-columns.ensures.value in
    let found = read_columns c.four_columns-columns.result c.in_ok-repeat.repeat c.four_columns-columns.ensures.len (sym c.in_ok-repeat.was ∙ c.number_in.ensures) in
    let above : 0 < c.in_ok-repeat.repeat = omega arith in
    counted c.args.line.now c.in_ok-repeat.repeat (ap is_blank (sym columns_are) ∙ sym c.are_blanks.ensures ∙ c.if-are_blanks.false) (ap number_in (sym columns_are) ∙ found.0) above

pub returns-in_default-clause-fit : goal.returns-in_default-clause-fit
returns-in_default-clause-fit c =
    let found = read_columns c.four_columns-columns.result c.in_ok-repeat.repeat c.four_columns-columns.ensures.len (sym c.in_ok-repeat.was ∙ c.number_in.ensures) in
    (omega arith, found.1)

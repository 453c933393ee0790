use Rattle.std.proofs.Common.{◌≡◌, ◌<◌, ℕ, List, [], ◌∷◌, length, get_or, Bool, true, false, ◌==◌, w32, rules, arith, refl, sym, ap, ◌∙◌}
use Rattle.std.specs.Int.{from_be_bytes}
use Rattle.std.proofs.lemmas.Bool.{and_parts}
use Rattle.std.proofs.lemmas.Bool.Decides.{nat_tests}
use Rattle.std.proofs.lemmas.Nat.{be_bytes_4}
use Rattle.hd_lines.specs.Blanks.{is_blank}
use Rattle.hd_deck.proofs.Choices.{true-is}
use Rattle.hd_deck.proofs.line.are_blanks.Goals as goal

-- four blanks have one number
number_of_blanks : (text : List ℕ) → length text ≡ 4 → is_blank text ≡ true → from_be_bytes w32 text ≡ 538976288
number_of_blanks [] four blank = absurd (omega arith)
number_of_blanks (a ∷ []) four blank = absurd (omega arith)
number_of_blanks (a ∷ b ∷ []) four blank = absurd (omega arith)
number_of_blanks (a ∷ b ∷ c ∷ []) four blank = absurd (omega arith)
number_of_blanks (a ∷ b ∷ c ∷ d ∷ []) four blank =
    let p = and_parts (a == 32) (is_blank (b ∷ c ∷ d ∷ [])) blank in
    let q = and_parts (b == 32) (is_blank (c ∷ d ∷ [])) p.1 in
    let r = and_parts (c == 32) (is_blank (d ∷ [])) q.1 in
    let s = and_parts (d == 32) (is_blank []) r.1 in
    let first : a ≡ 32 = true-is a 32 p.0 in
    let second : b ≡ 32 = true-is b 32 q.0 in
    let third : c ≡ 32 = true-is c 32 r.0 in
    let fourth : d ≡ 32 = true-is d 32 s.0 in
    ap (λ (x : ℕ). from_be_bytes w32 (x ∷ b ∷ c ∷ d ∷ [])) first
    ∙ ap (λ (x : ℕ). from_be_bytes w32 (32 ∷ x ∷ c ∷ d ∷ [])) second
    ∙ ap (λ (x : ℕ). from_be_bytes w32 (32 ∷ 32 ∷ x ∷ d ∷ [])) third
    ∙ ap (λ (x : ℕ). from_be_bytes w32 (32 ∷ 32 ∷ 32 ∷ x ∷ [])) fourth
number_of_blanks (a ∷ b ∷ c ∷ d ∷ e ∷ more) four blank = absurd (omega arith)

-- and nothing else has it
tells_blanks : (text : List ℕ) (n : ℕ) → length text ≡ 4 → ((i : ℕ) → get_or text i 0 < 256) → n ≡ from_be_bytes w32 text → (n == 538976288) ≡ is_blank text
tells_blanks text n four low is = by (n == 538976288) refl
  where
    other : (blank : Bool) → is_blank text ≡ blank → (n == 538976288) ≡ false → false ≡ is_blank text
    other false e differs = sym e
    other true e differs = (let same : n ≡ 538976288 = is ∙ number_of_blanks text four e in absurd (grind (arith, nat_tests, same, differs)))

    by : (t : Bool) → (n == 538976288) ≡ t → t ≡ is_blank text
    by true e = ap is_blank (be_bytes_4 text 538976288 four low (sym (true-is n 538976288 e) ∙ is))
    by false e = other (is_blank text) refl e

pub returns : goal.returns
returns c = rw c.from_be_bytes.ensures (tells_blanks c.args.bytes (from_be_bytes w32 c.args.bytes) (search rules) (search rules) refl)

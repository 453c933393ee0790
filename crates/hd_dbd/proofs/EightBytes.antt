-- Eight bytes are the same where their numbers are.
use Rattle.std.proofs.Common.{◌≡◌, ◌<◌, ℕ, List, length, get_or, Bool, true, false, ap, sym, refl, ◌∙◌}
use Rattle.std.specs.Prelude.{◌==◌, bytes_eq}
use Rattle.std.specs.Int.{w64, from_be_bytes}
use Rattle.std.proofs.lemmas.Bool.{false≢true, eqb-true, eq-eqb}
use Rattle.std.proofs.lemmas.Nat.{be_bytes_8}
use Rattle.std.proofs.lemmas.Slice.Eq.{bytes_eq-Decides}

abbrev pub AreBytes : List ℕ → Type 0
AreBytes bs = (i : ℕ) → get_or bs i 0 < 256

module _ (left right : List ℕ) where
  same_number : length left ≡ 8 → length right ≡ 8 → AreBytes left → AreBytes right → from_be_bytes w64 left ≡ from_be_bytes w64 right → left ≡ right
  same_number ll lr bl br same =
      sym (be_bytes_8 left (from_be_bytes w64 left) ll bl refl) ∙ be_bytes_8 right (from_be_bytes w64 left) lr br same

  pub equal_numbers : length left ≡ 8 → length right ≡ 8 → AreBytes left → AreBytes right → (from_be_bytes w64 left == from_be_bytes w64 right) ≡ bytes_eq left right
  equal_numbers ll lr bl br = by (from_be_bytes w64 left == from_be_bytes w64 right) (bytes_eq left right) refl refl
    where
      by : (n b : Bool) → (from_be_bytes w64 left == from_be_bytes w64 right) ≡ n → bytes_eq left right ≡ b → n ≡ b
      by true true n_is b_is = refl
      by false false n_is b_is = refl
      by true false n_is b_is =
          (let same : left ≡ right = same_number ll lr bl br (eqb-true (from_be_bytes w64 left) (from_be_bytes w64 right) n_is) in
          absurd (false≢true (sym b_is ∙ (bytes_eq-Decides left right).1 same)))
      by false true n_is b_is =
          (let same : left ≡ right = (bytes_eq-Decides left right).0 b_is in
          absurd (false≢true (sym n_is ∙ ap (λ (xs : List ℕ). from_be_bytes w64 left == from_be_bytes w64 xs) (sym same) ∙ eq-eqb (from_be_bytes w64 left) (from_be_bytes w64 left) refl)))

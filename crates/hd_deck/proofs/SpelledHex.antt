-- Bytes are read from hexadecimal digits just where these spell them.
use Rattle.std.proofs.Common.{◌≡◌, ℕ, ◌+◌, ◌-◌, ◌*◌, ◌<◌, ◌≤◌, List, [], ◌∷◌, cond, Bool, true, false, Option, Some, None, option_map, refl, ap, ap₂, subst, ◌∙◌, arith}
use Rattle.std.specs.Prelude.{nat_lt, nat_le, ◌&&◌, option_and_then}
use Rattle.std.proofs.lemmas.Bool.{cond-true, cond-false}
use Rattle.std.proofs.lemmas.Bool.Decides.{nat_tests}
use Rattle.std.proofs.lemmas.Option.{same_Some}
use Rattle.hd_deck.specs.Deck.{hex_value, hex_bytes}
use Rattle.hd_deck.specs.Printing.{hex_digit}
use Rattle.hd_deck.specs.Spelling.{IsHex, no_bytes, one_byte}

digit-read : (d : ℕ) → d < 16 → hex_value (hex_digit d) ≡ Some d
digit-read d below = by_test (nat_lt d 10) refl where
  by_test : (c : Bool) → nat_lt d 10 ≡ c → hex_value (hex_digit d) ≡ Some d
  by_test true small =
      let is : hex_digit d ≡ 48 + d = cond-true (nat_lt d 10) (48 + d) (87 + d) small in
      let low : (nat_le 48 (48 + d) && nat_le (48 + d) 57) ≡ true = grind (arith, nat_tests) in
      let back : 48 + d - 48 ≡ d = omega arith in
      ap hex_value is ∙ cond-true (nat_le 48 (48 + d) && nat_le (48 + d) 57) _ _ low ∙ ap Some back
  by_test false large =
      let is : hex_digit d ≡ 87 + d = cond-false (nat_lt d 10) (48 + d) (87 + d) large in
      let over : (nat_le 48 (87 + d) && nat_le (87 + d) 57) ≡ false = grind (arith, nat_tests) in
      let letter : (nat_le 97 (87 + d) && nat_le (87 + d) 102) ≡ true = grind (arith, nat_tests) in
      let back : 87 + d - 87 ≡ d = omega arith in
      ap hex_value is ∙ cond-false (nat_le 48 (87 + d) && nat_le (87 + d) 57) _ _ over ∙ cond-true (nat_le 97 (87 + d) && nat_le (87 + d) 102) _ _ letter ∙ ap Some back

digit-spelled : (d v : ℕ) → hex_value d ≡ Some v → (v < 16) × (hex_digit v ≡ d)
digit-spelled d v h = by_test (nat_le 48 d && nat_le d 57) (nat_le 97 d && nat_le d 102) refl refl h where
  by_test : (b c : Bool) → (nat_le 48 d && nat_le d 57) ≡ b → (nat_le 97 d && nat_le d 102) ≡ c → cond b (Some (d - 48)) (cond c (Some (d - 87)) None) ≡ Some v
      → (v < 16) × (hex_digit v ≡ d)
  by_test true c e f h =
      let is : d - 48 ≡ v = same_Some (d - 48) v h in
      let above : 48 ≤ d = grind (arith, nat_tests) in
      let below : d ≤ 57 = grind (arith, nat_tests) in
      let small : nat_lt v 10 ≡ true = grind (arith, nat_tests) in
      let back : 48 + v ≡ d = omega arith in
      (omega arith, cond-true (nat_lt v 10) (48 + v) (87 + v) small ∙ back)
  by_test false true e f h =
      let is : d - 87 ≡ v = same_Some (d - 87) v h in
      let above : 97 ≤ d = grind (arith, nat_tests) in
      let below : d ≤ 102 = grind (arith, nat_tests) in
      let large : nat_lt v 10 ≡ false = grind (arith, nat_tests) in
      let back : 87 + v ≡ d = omega arith in
      (omega arith, cond-false (nat_lt v 10) (48 + v) (87 + v) large ∙ back)
  by_test false false e f h = absurd (cc)

-- the bytes of two digits' values and of others
abbrev byte_in : Option ℕ → Option ℕ → Option (List ℕ) → Option (List ℕ)
byte_in x y o = option_and_then (λ byte. option_map (λ others. byte ∷ others) o) (option_and_then (λ h. option_map (λ l. 16 * h + l) y) x)

pub hex-read : (digits bytes : List ℕ) → IsHex digits bytes → hex_bytes digits ≡ Some bytes
hex-read _ _ no_bytes = refl
hex-read _ _ (one_byte {digits = digits} {bytes = bytes} high low small below others) =
    ap₂ (λ (x y : Option ℕ). byte_in x y (hex_bytes digits)) (digit-read high small) (digit-read low below)
    ∙ ap (λ (o : Option (List ℕ)). option_map (λ others. (16 * high + low) ∷ others) o) (hex-read digits bytes others)

-- the parts of bytes that are there
byte-parts : (x y : Option ℕ) (o : Option (List ℕ)) (bytes : List ℕ) → byte_in x y o ≡ Some bytes
    → (h : ℕ) × (l : ℕ) × (others : List ℕ) × (x ≡ Some h) × (y ≡ Some l) × (o ≡ Some others) × ((16 * h + l) ∷ others ≡ bytes)
byte-parts None y o bytes e = absurd (cc)
byte-parts (Some h) None o bytes e = absurd (cc)
byte-parts (Some h) (Some l) None bytes e = absurd (cc)
byte-parts (Some h) (Some l) (Some others) bytes e = (h, l, others, refl, refl, refl, same_Some ((16 * h + l) ∷ others) bytes e)

pub hex-spelled : (digits bytes : List ℕ) → hex_bytes digits ≡ Some bytes → IsHex digits bytes
hex-spelled [] bytes h = subst (λ (bs : List ℕ). IsHex [] bs) (same_Some [] bytes h) no_bytes
hex-spelled (digit ∷ []) bytes h = absurd (cc)
hex-spelled (high ∷ low ∷ digits) bytes h =
    let (v, w, others, is_high, is_low, rest, are) = byte-parts (hex_value high) (hex_value low) (hex_bytes digits) bytes h in
    let (small, high_is) = digit-spelled high v is_high in
    let (below, low_is) = digit-spelled low w is_low in
    let spelled : IsHex (hex_digit v ∷ hex_digit w ∷ digits) ((16 * v + w) ∷ others) = one_byte v w small below (hex-spelled digits others rest) in
    subst (λ (ds : List ℕ). IsHex ds bytes) (ap₂ (λ (x y : ℕ). x ∷ y ∷ digits) high_is low_is)
    (subst (λ (bs : List ℕ). IsHex (hex_digit v ∷ hex_digit w ∷ digits) bs) are spelled)

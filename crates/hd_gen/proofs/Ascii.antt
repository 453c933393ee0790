-- ASCII text.
use Rattle.std.proofs.Common.{◌≡◌, ℕ, ◌<◌, ◌≤◌, List, length, get_or, Bool, true, false, nat_lt, arith, refl}
use Rattle.std.specs.List.{list_all}
use Rattle.std.specs.Str.{IsUtf8}
use Rattle.std.proofs.lemmas.List.{get_or_past}
use Rattle.std.proofs.lemmas.List.Sums.{AllPass-from_list_all}
use Rattle.std.proofs.lemmas.Str.{IsUtf8-from_ascii}
use Rattle.std.proofs.lemmas.Bool.Decides.{nat_tests}

within : (i n : ℕ) → nat_lt i n ≡ true → i < n
within i n is = grind (arith, nat_tests)

beyond : (i n : ℕ) → nat_lt i n ≡ false → n ≤ i
beyond i n is = grind (arith, nat_tests)

byte_below : (bytes : List ℕ) → list_all (λ b. nat_lt b 128) bytes ≡ true → (i : ℕ) (b : Bool) → nat_lt i (length bytes) ≡ b → get_or bytes i 0 < 128
byte_below bytes low i true is =
    within (get_or bytes i 0) 128 (AllPass-from_list_all (λ b. nat_lt b 128) bytes low i 0 (within i (length bytes) is))
byte_below bytes low i false is = let same = get_or_past bytes i 0 (beyond i (length bytes) is) in omega arith

-- bytes below 128 are UTF-8
pub ascii_is_utf8 : (bytes : List ℕ) → list_all (λ b. nat_lt b 128) bytes ≡ true → IsUtf8 bytes
ascii_is_utf8 bytes low = IsUtf8-from_ascii bytes (λ i. byte_below bytes low i (nat_lt i (length bytes)) refl)

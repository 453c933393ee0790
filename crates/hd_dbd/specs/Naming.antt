-- Names: 1 to 8 characters, the first a letter, and blanks up to 8.
use Rattle.std.specs.Prelude.{ℕ, List, [], ◌∷◌, length, Bool, true, false, ◌&&◌, ◌||◌, nat_le, ◌==◌, cond}
use Rattle.std.specs.List.{list_all}

-- A to Z
abbrev pub is_letter : ℕ → Bool
is_letter b = nat_le 65 b && nat_le b 90

-- A to Z, 0 to 9, $, # and @
abbrev pub is_name_byte : ℕ → Bool
is_name_byte b = is_letter b || nat_le 48 b && nat_le b 57 || b == 36 || b == 35 || b == 64

-- characters of a name, and then blanks alone
abbrev pub is_name_rest : List ℕ → Bool
is_name_rest [] = true
is_name_rest (b ∷ bs) = cond (is_name_byte b) (is_name_rest bs) (list_all (λ c. c == 32) (b ∷ bs))

-- the eight bytes of a name with its blanks
abbrev pub is_name : List ℕ → Bool
is_name [] = false
is_name (b ∷ bs) = is_letter b && length bs == 7 && is_name_rest bs

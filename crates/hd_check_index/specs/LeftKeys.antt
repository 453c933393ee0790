-- The key to the left of an entry, and the lesser of two faults.
use Rattle.std.specs.Prelude.{◌≡◌, ℕ, List, [], ◌∷◌, ◌++◌, true, false, cond, nat_lt, take, Option, None, Some}
use Rattle.hd_volume.specs.Entries.{Entry}
use Rattle.hd_check_blocks.specs.declared.fault.Fault.{Fault}
use Rattle.hd_image.specs.IndexFaults.{last_entry}
use Rattle.hd_check_index.specs.IndexPhases.{address_not_above}
use Rattle.hd_check_index.specs.declared.entry_order.Left.{Left}

-- what is kept is the key of the entry to the left, if there is one
abbrev pub IsLeft : ℕ → Left → Option Entry → Type 0
IsLeft key_length left None = left.is_some ≡ false
IsLeft key_length left (Some e) = (left.is_some ≡ true) × (take key_length left.key ≡ e.key)

-- the lesser of two faults by address, if there is a first
abbrev pub lesser : Option Fault → Fault → Option Fault
lesser None fault = Some fault
lesser (Some other) fault = cond (nat_lt fault.address other.address) (Some fault) (Some other)

-- Behind whatever entry has the key that is kept, the address is that in the first entry whose key is not above the one to its left.
abbrev pub IsFirstNotAbove : ℕ → Left → List Entry → Option ℕ → Type 0
IsFirstNotAbove key_length left es address = (o : Option Entry) → IsLeft key_length left o → address_not_above o es ≡ address

-- Behind whatever entry had the key that was kept, the last of some entries has the key that is kept now.
abbrev pub IsLeftBehind : ℕ → Left → List Entry → Left → Type 0
IsLeftBehind key_length old es new = (o : Option Entry) → IsLeft key_length old o → IsLeft key_length new (last_entry o es)

-- What was found among entries, of which the last has the key that is kept, and one more.
abbrev pub IsFoundWith : ℕ → Left → Option ℕ → Entry → Option ℕ → Type 0
IsFoundWith key_length left found e address =
    (o : Option Entry) (es : List Entry) → IsLeft key_length left (last_entry o es) → address_not_above o es ≡ found
    → address_not_above o (es ++ (e ∷ [])) ≡ address

-- The index as an ordered map from root keys to addresses: a list of entries whose keys ascend.
use Rattle.std.specs.Prelude.{ℕ, List, [], ◌∷◌, cond, Option, Some, None, bytes_eq}
use Rattle.hd_volume.specs.Entries.{Entry}
use Rattle.hd_volume.specs.Indexes.{key_less}

-- the address at a key
abbrev pub address_of : List ℕ → List Entry → Option ℕ
address_of key [] = None
address_of key (e ∷ es) = cond (bytes_eq e.key key) (Some e.address) (address_of key es)

-- the address at the least key that is not below a key
abbrev pub address_from : List ℕ → List Entry → Option ℕ
address_from key [] = None
address_from key (e ∷ es) = cond (key_less e.key key) (address_from key es) (Some e.address)

-- the entries with one more, before those of greater key
abbrev pub with_entry : Entry → List Entry → List Entry
with_entry new [] = new ∷ []
with_entry new (e ∷ es) = cond (key_less new.key e.key) (new ∷ e ∷ es) (e ∷ with_entry new es)

-- the entries without that of a key
abbrev pub without_key : List ℕ → List Entry → List Entry
without_key key [] = []
without_key key (e ∷ es) = cond (bytes_eq e.key key) es (e ∷ without_key key es)

-- the entries with another address at a key
abbrev pub with_address : List ℕ → ℕ → List Entry → List Entry
with_address key address [] = []
with_address key address (e ∷ es) = cond (bytes_eq e.key key) (record { key = e.key; address = address } ∷ es) (e ∷ with_address key address es)

-- the greatest key below a key, or else another
abbrev pub greatest_below : List ℕ → List ℕ → List Entry → List ℕ
greatest_below other key [] = other
greatest_below other key (e ∷ es) = cond (key_less e.key key) (greatest_below e.key key es) other

-- the last key, or else another
abbrev pub last_key : List ℕ → List Entry → List ℕ
last_key other [] = other
last_key other (e ∷ es) = last_key e.key es

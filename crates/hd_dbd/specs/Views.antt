-- What one PCB sees, and what it may do there.
use Rattle.std.specs.Prelude.{ℕ, List, Bool, false, Option, bytes_eq, find, option_map}
use Rattle.std.specs.Option.{option_map_or}
use Rattle.std.specs.List.{list_any}
use Rattle.hd_dbd.specs.Types.{SegmentType, View, SeenType}
use Rattle.hd_dbd.specs.Hierarchy.{type_of}
use Rattle.hd_dbd.specs.Letters.{gives_get}

-- What stays the same in a session for one PCB: the database's types, and the PCB.
pub record Setting : Type 0 where
  pub types : List SegmentType
  pub pcb : View

-- the letters that hold for a seen type: its own, or else the PCB's
abbrev pub letters_of : View → SeenType → List ℕ
letters_of pcb s = option_map_or (λ own. own) s.procopt pcb.procopt

-- the letters for the type of this name, where it is seen
abbrev pub letters_for : View → List ℕ → Option (List ℕ)
letters_for pcb name = option_map (λ s. letters_of pcb s) (find (λ s. bytes_eq s.name name) pcb.sens)

-- some type that the PCB sees may be read
abbrev pub reads_some : View → Bool
reads_some pcb = list_any (λ s. gives_get (letters_of pcb s)) pcb.sens

-- the type of this code is seen, and its letters give what is asked
abbrev pub may : Setting → (List ℕ → Bool) → ℕ → Bool
may s gives code = option_map_or (λ t. option_map_or gives (letters_for s.pcb t.name) false) (type_of s.types code) false

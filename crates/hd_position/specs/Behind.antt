-- A get that goes on to the row just behind those passed.
use Rattle.std.specs.Prelude.{◌≡◌, ℕ, List, [], ◌∷◌, length, Bool, cond}
use Rattle.hd_dbd.specs.Types.{SegmentType}
use Rattle.hd_dbd.specs.Positions.{Place}
use Rattle.hd_calls.specs.declared.call.GetKind.{GetKind}
use Rattle.hd_links.specs.Links.{Links}
use Rattle.hd_forest.specs.Onward.{onward}
use Rattle.hd_position.specs.Kept.{Kept}
use Rattle.hd_position.specs.Standing.{standing_on}
use Rattle.hd_position.specs.Gets.{LeadsOn, StandsOnto}

-- the level of the last row of a path, where that row is held
abbrev pub own_level : Bool → List ℕ → List ℕ
own_level hold path = cond hold (length path ∷ []) []

-- what is kept behind a get to the last row of a path, of a type, which holds that row or none
abbrev pub standing_alone : GetKind → Kept → List ℕ → Place → Bool → Kept
standing_alone kind k path last hold = standing_on kind k path last (own_level hold path)

-- the row at an address, of a type, is the one just behind those passed, wherever what is kept stands for a position
abbrev pub IsBehind : List SegmentType → Links → Kept → ℕ → ℕ → Type 0
IsBehind types m k a code = LeadsOn types m k (onward types k.path a code) × (code ≡ m.code a)

-- wherever what was kept stood for a position, what is kept stands for what a get leaves that went on to the row at an address, of a type, and holds it or none
abbrev pub StandsBehind : List SegmentType → Links → GetKind → Kept → ℕ → ℕ → Bool → Kept → Type 0
StandsBehind types m kind old a code hold new =
    StandsOnto types m kind old (onward types old.path a code) (own_level hold (onward types old.path a code)) new

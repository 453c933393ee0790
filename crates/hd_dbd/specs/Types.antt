-- Segment types and PCBs, as callers see them.
use Rattle.std.specs.Prelude.{ℕ, List, Bool, Option}
use Rattle.hd_dbd.specs.declared.hierarchy.Field.{Field}
use Rattle.hd_dbd.specs.declared.hierarchy.Key.{Key}
use Rattle.hd_dbd.specs.declared.hierarchy.Rule.{Rule}

-- A segment type: its name, the code of its parent type, the bytes of its segments, or where these vary the most and the least
-- of them, its key, where a new twin without a unique key goes, whether twin backward and its parent's last child pointer are
-- kept, and its fields.
pub record SegmentType : Type 0 where
  pub name : List ℕ
  pub parent : Option ℕ
  pub length : ℕ
  pub least : Option ℕ
  pub key : Option Key
  pub rule : Rule
  pub backward : Bool
  pub last_pointer : Bool
  pub fields : List Field

-- A type that a PCB sees: its name, its parent's, and its own PROCOPT, if it has one.
pub record SeenType : Type 0 where
  pub name : List ℕ
  pub parent : Option (List ℕ)
  pub procopt : Option (List ℕ)

-- A PCB: the PROCOPT of the types that have none of their own, and the types that it sees.
pub record View : Type 0 where
  pub procopt : List ℕ
  pub sens : List SeenType

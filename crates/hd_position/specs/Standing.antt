-- What is kept behind a get.
use Rattle.std.specs.Prelude.{ℕ, List, length, Some}
use Rattle.hd_dbd.specs.Positions.{Place}
use Rattle.hd_calls.specs.declared.call.GetKind.{GetKind}
use Rattle.hd_calls.specs.declared.call.GetKind.TheVariants.{Unique, Next, NextInParent}
use Rattle.hd_position.specs.Kept.{Kept}

-- the level of the parentage row behind a get to the last row of a path: that row's own, but GNP leaves parentage
abbrev pub parent_kept : GetKind → Kept → List ℕ → ℕ
parent_kept Unique k path = length path
parent_kept Next k path = length path
parent_kept NextInParent k path = k.parent

-- what is kept behind a get to the last row of a path, of a type, with the rows of some levels held
abbrev pub standing_on : GetKind → Kept → List ℕ → Place → List ℕ → Kept
standing_on kind k path last held = record {
  path = path;
  standing = length path;
  last = Some last;
  parent = parent_kept kind k path;
  held = held;
}

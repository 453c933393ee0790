use Rattle.std.proofs.Common.{◌≡◌, ℕ, Ok, take}
use Rattle.hd_dbd.specs.Positions.{Position}
use Rattle.hd_dbd.specs.Forest.{Forest}
use Rattle.hd_links.specs.Placed.{Placed}
use Rattle.hd_volume.specs.Calls.{IsRead}
use Rattle.hd_get.specs.Gets.{IsPositionIn}
use Rattle.hd_update.specs.Held.{held_rows}
use Rattle.hd_update.proofs.held.held_rows.Given as goal

-- it has read, and has the rows of the levels so far
abbrev pub invariant-loop-place : goal.invariant-loop-place
invariant-loop-place g l = record {
  read : IsRead {T = ℕ} l.fn.volume (Ok 0) l.volume;
  rows : (f : Forest Placed) (q : Position) → IsPositionIn l.dbd l.fn.volume f l.position q → l.rows ≡ held_rows f (take l.place q.held);
}

use Rattle.std.proofs.Common.{ℕ, ◌≡◌, Ok, List, length, take, drop, IsTrue}
use Rattle.hd_dbd.specs.Forest.{Forest}
use Rattle.hd_calls.specs.Moves.{Rewrite}
use Rattle.hd_links.specs.Placed.{Placed}
use Rattle.hd_volume.specs.Calls.{IsCall}
use Rattle.hd_update.specs.Replacing.{MayReplaceAll}
use Rattle.hd_update.proofs.Rewritten.{IsSoFar}
use Rattle.hd_update.proofs.replacements.replace_rows.Given as goal

-- the rows so far are replaced
abbrev pub invariant-loop-place : goal.invariant-loop-place
invariant-loop-place g l = record {
  call : IsCall {T = ℕ} l.fn.volume (Ok 0) l.volume;
  few : length l.rows ≡ l.place;
  done : (f : Forest Placed) (ws : List Rewrite) → IsTrue l.fn.volume.is_sound → (C : MayReplaceAll l.dbd l.fn.volume l.path l.area l.news f ws)
      → IsSoFar l.dbd l.fn.volume l.path l.area l.news f ws C l.volume l.own l.rows (take l.place ws) (drop l.place ws);
}

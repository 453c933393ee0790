use Rattle.std.proofs.Common.{◌≡◌, ℕ, Ok, List, drop, IsTrue}
use Rattle.std.specs.List.{list_all}
use Rattle.hd_dbd.specs.Forest.{Forest}
use Rattle.hd_calls.specs.Moves.{Rewrite}
use Rattle.hd_calls.specs.Steps.{keeps_key}
use Rattle.hd_links.specs.Placed.{Placed}
use Rattle.hd_links.specs.Steps.{rows_of}
use Rattle.hd_volume.specs.Calls.{IsRead}
use Rattle.hd_image.specs.Holding.{HoldsPlaced}
use Rattle.hd_update.specs.Replacing.{AreRewritesOf}
use Rattle.hd_update.proofs.replacements.keep_keys.Given as goal

-- it has read, and the rows that are left tell whether all keep their keys
abbrev pub invariant-loop-place : goal.invariant-loop-place
invariant-loop-place g l = record {
  read : IsRead {T = ℕ} l.fn.volume (Ok 0) l.volume;
  left : (f : Forest Placed) (ws : List Rewrite) → IsTrue l.fn.volume.is_sound → HoldsPlaced l.dbd l.fn.volume f → AreRewritesOf l.dbd.types f l.area l.news ws
      → list_all (λ w. keeps_key l.dbd.types (rows_of f) w) ws ≡ list_all (λ w. keeps_key l.dbd.types (rows_of f) w) (drop l.place ws);
}

use Rattle.std.proofs.Common.{◌≡◌, ◌+◌, ◌≤◌, length, drop, List}
use Rattle.std.specs.Prelude.{◌*◌}
use Rattle.hd_dbd.specs.Forest.{Forest}
use Rattle.hd_calls.specs.Moves.{Rewrite, rewritten}
use Rattle.hd_calls.specs.Runs.{rows_stored, stored_sizes}
use Rattle.hd_links.specs.Placed.{Placed}
use Rattle.hd_links.specs.Steps.{rows_of}
use Rattle.hd_update.specs.Replacing.{AreRewritesOf}
use Rattle.hd_update.proofs.room.room_asked.Given as goal

-- the rows so far that are made longer, with those behind them, are all of them
abbrev pub invariant-loop-place : goal.invariant-loop-place
invariant-loop-place l = record {
  few : l.count ≤ l.place;
  small : l.total ≤ l.place * 65535;
  left : (f : Forest Placed) (ws : List Rewrite) → AreRewritesOf l.dbd.types f l.area l.news ws
      → (l.count + length (rows_stored (rows_of f) (rewritten (drop l.place ws))) ≡ length (rows_stored (rows_of f) (rewritten ws)))
      × (l.total + stored_sizes l.dbd.types (rows_stored (rows_of f) (rewritten (drop l.place ws))) ≡ stored_sizes l.dbd.types (rows_stored (rows_of f) (rewritten ws)));
}

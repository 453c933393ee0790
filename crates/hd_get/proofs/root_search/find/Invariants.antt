use Rattle.std.proofs.Common.{ℕ, Ok}
use Rattle.hd_dbd.specs.Forest.{Forest}
use Rattle.hd_volume.specs.Calls.{IsRead}
use Rattle.hd_links.specs.Placed.{Placed}
use Rattle.hd_links.specs.Steps.{rows_of}
use Rattle.hd_get.specs.Searches.{IsSearching}
use Rattle.hd_get.proofs.Turns.{HasSearched}
use Rattle.hd_get.proofs.root_search.find.Given as goal

-- it has read, and has come to a row behind which the search goes on
abbrev pub invariant-loop-count : goal.invariant-loop-count
invariant-loop-count g l = record {
  read : IsRead {T = ℕ} l.fn.volume (Ok 0) l.volume;
  searched : (f : Forest Placed) (i end : ℕ) → IsSearching (g.J.Judge.admits l.judge l.dbd.types) l.dbd l.fn.volume f l.parent end l.fn.path i
      → HasSearched (g.J.Judge.test l.judge l.dbd.types (rows_of f)) (g.J.Judge.admits l.judge l.dbd.types (rows_of f)) l.dbd.types f l.parent i end l.count l.path;
}

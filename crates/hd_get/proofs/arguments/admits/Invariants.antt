use Rattle.std.proofs.Common.{◌≡◌, ℕ, Ok, drop}
use Rattle.hd_dbd.specs.Forest.{Forest}
use Rattle.hd_dbd.specs.Paths.{row_at}
use Rattle.hd_volume.specs.Calls.{IsRead}
use Rattle.hd_links.specs.Placed.{Placed}
use Rattle.hd_links.specs.Steps.{rows_of}
use Rattle.hd_calls.specs.Admits.{admits}
use Rattle.hd_get.specs.Searches.{IsPathOf}
use Rattle.hd_get.proofs.arguments.admits.Given as goal

-- it has read, and the arguments that are left tell whether the row meets them all
abbrev pub invariant-loop-place : goal.invariant-loop-place
invariant-loop-place g l = record {
  read : IsRead {T = ℕ} l.fn.volume (Ok 0) l.volume;
  left : (f : Forest Placed) (i : ℕ) → IsPathOf l.dbd l.fn.volume f l.path i → (row_at (rows_of f) i).code ≡ l.code
      → admits l.dbd.types (rows_of f) (drop l.place l.ssas) i ≡ admits l.dbd.types (rows_of f) l.ssas i;
}

use Rattle.std.proofs.Common.{◌≡◌, ℕ, ◌<◌, ◌||◌, ◌==◌, take, true, Ok, IsTrue}
use Rattle.std.specs.List.{list_all, list_any}
use Rattle.hd_dbd.specs.Paths.{path_of}
use Rattle.hd_dbd.specs.Forest.{Forest}
use Rattle.hd_volume.specs.Calls.{IsRead}
use Rattle.hd_links.specs.Placed.{Placed}
use Rattle.hd_links.specs.Steps.{rows_of}
use Rattle.hd_image.specs.Records.{links_of}
use Rattle.hd_get.specs.Searches.{LeadsWithin}
use Rattle.hd_get.proofs.position_after.settle.Given as goal

-- it has read, and so many rows of the path, from the root down, are admitted
abbrev pub invariant-loop-place : goal.invariant-loop-place
invariant-loop-place g l = record {
  read : IsRead {T = ℕ} l.fn.volume (Ok 0) l.volume;
  still : l.path ≡ l.fn.path;
  above : l.above ≡ take l.place l.fn.path;
  below : l.below ≡ (l.parent == 0 || list_any (λ a. a == l.parent) (take l.place l.fn.path));
  admitted : (f : Forest Placed) (n end : ℕ) → IsTrue l.fn.volume.is_sound → LeadsWithin l.dbd.types (links_of l.dbd.types l.fn.volume) f l.parent end l.fn.path n → n < end
      → list_all (g.J.Judge.admits l.judge l.dbd.types (rows_of f)) (take l.place (path_of l.dbd.types (rows_of f) n)) ≡ true;
}

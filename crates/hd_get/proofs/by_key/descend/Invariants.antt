use Rattle.std.proofs.Common.{◌≡◌, ℕ, ◌-◌, ◌<◌, map, slice_index, IsTrue, Ok}
use Rattle.hd_dbd.specs.Forest.{Forest}
use Rattle.hd_volume.specs.Calls.{IsRead}
use Rattle.hd_links.specs.Placed.{Placed}
use Rattle.hd_image.specs.Records.{links_of}
use Rattle.hd_forest.specs.Walks.{tip}
use Rattle.hd_get.specs.Searches.{IsPathOf}
use Rattle.hd_get.proofs.Descents.{HasCome}
use Rattle.hd_get.proofs.by_key.descend.Given as goal

-- it has read, none is named before the row where the path is, and that is of the type of the last argument that was gone by
abbrev pub invariant-loop-place : goal.invariant-loop-place
invariant-loop-place g l = record {
  read : IsRead {T = ℕ} l.fn.volume (Ok 0) l.volume;
  comes : (f : Forest Placed) (i : ℕ) → IsPathOf l.dbd l.fn.volume f l.fn.path i → (number : ℕ) × HasCome l.dbd l.fn.volume f l.ssas i l.is_named l.path number;
  code : IsTrue l.fn.volume.is_sound → (links_of l.dbd.types l.fn.volume).code (tip l.path) ≡ l.above;
  last : l.above ≡ slice_index (map (λ a. a.code) l.ssas) (l.place - 1);
  some : 0 < l.place;
}

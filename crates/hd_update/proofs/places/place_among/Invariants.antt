use Rattle.std.proofs.Common.{◌≡◌, ◌-◌, ◌<◌, ℕ, IsTrue, Ok}
use Rattle.hd_volume.specs.Calls.{IsRead}
use Rattle.hd_image.specs.Records.{links_of}
use Rattle.hd_forest.specs.Twins.{IsTwinWithin, IsBehind}
use Rattle.hd_update.specs.declared.places.Side.TheVariants.{Behind}
use Rattle.hd_update.specs.Places.{side_at}
use Rattle.hd_update.proofs.places.place_among.Given as goal

-- the row goes behind the twins that were passed, and the last of them stands before the one that comes next
abbrev pub invariant-loop : goal.invariant-loop
invariant-loop g l = record {
  read : IsRead {T = ℕ} l.fn.volume (Ok 0) l.volume;
  left : IsTrue l.fn.volume.is_sound → IsTwinWithin (links_of l.dbd.types l.fn.volume) (l.most - l.counter) l.twin 0;
  chain : IsTrue l.fn.volume.is_sound → IsBehind (links_of l.dbd.types l.fn.volume) ((links_of l.dbd.types l.fn.volume).first_child l.parent l.code) l.before l.twin;
  side : IsTrue l.fn.volume.is_sound → 0 < l.before
      → side_at l.dbd.types (links_of l.dbd.types l.fn.volume) l.last (record { code = l.code; bytes = l.bytes }) l.before ≡ Behind;
}

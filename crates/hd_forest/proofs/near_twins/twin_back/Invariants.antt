use Rattle.std.proofs.Common.{ℕ, IsTrue, Ok}
use Rattle.hd_volume.specs.Calls.{IsRead}
use Rattle.hd_links.specs.Pointers.{IsInChain}
use Rattle.hd_image.specs.Records.{links_of}
use Rattle.hd_forest.proofs.near_twins.twin_back.Given as goal

-- it has read, and come to a twin of the chain
abbrev pub invariant-loop-count : goal.invariant-loop-count
invariant-loop-count g l = record {
  read : IsRead {T = ℕ} l.fn.volume (Ok 0) l.volume;
  chain : IsTrue l.fn.volume.is_sound → IsInChain (links_of l.dbd.types l.fn.volume) l.first l.twin;
}

-- The row loaded last and its parents.
use Rattle.hd_links.specs.Placed.{Placed}
use Rattle.hd_unload.specs.declared.path.Loaded.{Loaded}

-- the address and the segment of a loaded row
abbrev pub placed_of : Loaded → Placed
placed_of r = record { address = r.address; segment = record { code = r.code; bytes = r.bytes.now } }

-- The row that was kept last and its parents.
use Rattle.hd_dbd.specs.Segment.{Segment}
use Rattle.hd_salvage.specs.declared.path.Row.{Row}

-- a row by its code and its bytes
abbrev pub row_of : Row → Segment
row_of r = record { code = r.code; bytes = r.bytes.items }

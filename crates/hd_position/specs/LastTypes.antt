-- The type of the row last returned or inserted, as the definitions have it.
use Rattle.hd_dbd.specs.Positions.{Place}
use Rattle.hd_position.specs.declared.position.LastType.{LastType}

-- level and code of a type
abbrev pub place_of : LastType → Place
place_of t = record { level = t.level; code = t.code }

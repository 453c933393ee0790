-- What stays the same for a PCB.
use Rattle.hd_dbd.specs.Types.{View}
use Rattle.hd_dbd.specs.Hierarchy.{Database}
use Rattle.hd_dbd.specs.Views.{Setting}

-- the database's types, and the PCB
abbrev pub setting : Database → View → Setting
setting d pcb = record { types = d.types; pcb = pcb }

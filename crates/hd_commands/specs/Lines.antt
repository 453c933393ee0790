-- The lines that the commands print, and their statuses.
use Rattle.std.specs.Prelude.{ℕ, List, [], ◌∷◌, ◌++◌, ◌==◌, take, codes, decimal}
use Rattle.std.specs.List.{position_or_len}
use Rattle.hd_image.specs.Standing.{number_of}
use Rattle.hd_check.specs.declared.checks.Passed.{Passed}
use Rattle.hd_unload.specs.declared.fault.RecordFault.{RecordFault}
use Rattle.hd_unload.specs.declared.fault.RecordFault.TheVariants.{U1, U2, U3, U4, LB, LC, LD, LE}
use Rattle.hd_commands.specs.declared.refusal.Refusal.{Refusal}
use Rattle.hd_commands.specs.declared.refusal.Refusal.TheVariants.{Old, NotEmpty, Record, Full, Device, Memory}
use Rattle.hd_commands.specs.declared.refusal.Refusal.TheVariants as refusals

-- ---- standard output

-- a name without the blanks behind it
abbrev pub name_text : List ℕ → List ℕ
name_text name = take (position_or_len (λ b. b == 32) name) name

-- a number between two texts
abbrev pub counted : List ℕ → ℕ → List ℕ → List ℕ
counted before count behind = before ++ decimal count ++ behind

-- `EDU passes: 4 blocks, 7 segments, 2 roots`
abbrev pub passed_line : List ℕ → Passed → List ℕ
passed_line name p =
    name_text name ++ counted (codes " passes: ") p.blocks (codes " blocks") ++ counted (codes ", ") p.segments (codes " segments")
    ++ counted (codes ", ") p.roots (codes " roots\n")

-- `unloaded 7 segments`
abbrev pub unloaded_line : ℕ → List ℕ
unloaded_line segments = counted (codes "unloaded ") segments (codes " segments\n")

-- `reloaded 7 segments into 4 blocks`
abbrev pub reloaded_line : ℕ → ℕ → List ℕ
reloaded_line segments blocks = counted (codes "reloaded ") segments (codes " segments") ++ counted (codes " into ") blocks (codes " blocks\n")

-- ---- standard error

-- the name of a record's fault
abbrev pub name_of : RecordFault → List ℕ
name_of U1 = codes "U1"
name_of U2 = codes "U2"
name_of U3 = codes "U3"
name_of U4 = codes "U4"
name_of LB = codes "LB"
name_of LC = codes "LC"
name_of LD = codes "LD"
name_of LE = codes "LE"

-- `fault 14 at 320, other 0`, `volume of version 1: unload and reload`, `volume is not empty`, `reload refused: LC at record 2`, `reload refused: Full at record 6`, `device failed` or `no memory`
abbrev pub text_of : Refusal → List ℕ
text_of (refusals.Fault f) = codes "fault " ++ decimal (number_of f.line f.address) ++ codes " at " ++ decimal f.address ++ codes ", other " ++ decimal f.other
text_of (Old version) = codes "volume of version " ++ decimal version ++ codes ": unload and reload"
text_of NotEmpty = codes "volume is not empty"
text_of (Record fault n) = codes "reload refused: " ++ name_of fault ++ codes " at record " ++ decimal n
text_of (Full n) = codes "reload refused: Full at record " ++ decimal n
text_of Device = codes "device failed"
text_of Memory = codes "no memory"

abbrev pub refusal_line : Refusal → List ℕ
refusal_line r = text_of r ++ 10 ∷ []

-- ---- statuses

-- 1 for a fault in a volume or a stream, a volume that is old or not empty, and a lack of room, 3 for a failed access, 4 for want of memory
abbrev pub status_of : Refusal → ℕ
status_of (refusals.Fault f) = 1
status_of (Old version) = 1
status_of NotEmpty = 1
status_of (Record fault n) = 1
status_of (Full n) = 1
status_of Device = 3
status_of Memory = 4

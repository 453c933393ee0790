-- The statement that stands open, as the code has it.
use Rattle.std.specs.Prelude.{ℕ, option_to_list}
use Rattle.hd_macro.specs.Operands.{Place, in_keyword, at_value, in_value, at_member, in_member, behind_list, Reading}
use Rattle.hd_macro.specs.Source.{Open, nothing, operands, remarks, Step}
use Rattle.hd_macro.specs.declared.reading.Place.{Place as PlaceNow}
use Rattle.hd_macro.specs.declared.reading.Place.TheVariants as places
use Rattle.hd_macro.specs.declared.reading.Reading.{Reading as ReadingNow}
use Rattle.hd_macro.specs.declared.line.Open.{Open as OpenNow}
use Rattle.hd_macro.specs.declared.line.Open.TheVariants as opens
use Rattle.hd_macro.specs.declared.line.Step.{Step as StepNow}

-- a place with so many brackets open
abbrev pub place_of : PlaceNow → ℕ → Place
place_of places.InKeyword depth = in_keyword
place_of places.AtValue depth = at_value
place_of places.InValue depth = in_value
place_of places.AtMember depth = at_member depth
place_of places.InMember depth = in_member depth
place_of places.BehindList depth = behind_list depth

-- operand text as far as it is read, without where it lies in memory
abbrev pub reading_of : ReadingNow → Reading
reading_of r = record { whole = r.whole.items; keyword = r.keyword.items; value = r.value.items; place = place_of r.place r.depth }

-- what stands open
abbrev pub open_of : OpenNow → Open
open_of opens.Nothing = nothing
open_of (opens.Operands s r) = operands s (reading_of r)
open_of (opens.Remarks s) = remarks s

-- what a line gives
abbrev pub step_of : StepNow → Step
step_of s = record { done = option_to_list s.done; open_behind = open_of s.open_behind }

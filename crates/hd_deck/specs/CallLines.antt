-- The call that stands at the front of some lines of a deck: what its own line says, and the lines that belong to it.
use Rattle.std.specs.Prelude.{ℕ, List, [], ◌∷◌, ◌++◌, Bool, ◌||◌, ◌==◌, cond, Result, Ok, Err}
use Rattle.hd_dbd.specs.Calls.{CallText}
use Rattle.hd_deck.specs.Deck.{Statement, comment, select, call, argument, area_bytes, column, belongs_to_call, read_part, call_in}
use Rattle.hd_deck.specs.declared.deck.DeckFault.{DeckFault}

-- a call with one segment search argument more
abbrev pub with_argument : List ℕ → CallText → CallText
with_argument ssa c = record { function = c.function; ssas = c.ssas ++ ssa ∷ []; area = c.area }

-- a call with these bytes behind its area
abbrev pub with_bytes : List ℕ → CallText → CallText
with_bytes bytes c = record { function = c.function; ssas = c.ssas; area = c.area ++ bytes }

-- a call with what a line was read as, where that is a part of a call
abbrev pub with_part : Result Statement DeckFault → CallText → CallText
with_part (Ok comment) c = c
with_part (Ok (select k)) c = c
with_part (Ok (call k text)) c = c
with_part (Ok (argument ssa)) c = with_argument ssa c
with_part (Ok (area_bytes bytes)) c = with_bytes bytes c
with_part (Err e) c = c

-- a call with what a line says, if it belongs to a call
abbrev pub with_line : List ℕ → CallText → CallText
with_line line c = cond (belongs_to_call line) (with_part (read_part 0 line) c) c

-- a call ends where another begins, or a PCB is selected
abbrev pub ends_call : List ℕ → Bool
ends_call line = column line 1 == 83 || column line 1 == 76

-- a call with all lines that belong to it
abbrev pub with_parts : List (List ℕ) → CallText → CallText
with_parts [] c = c
with_parts (line ∷ more) c = cond (ends_call line) c (with_parts more (with_line line c))

-- the call that lines of a deck begin with
abbrev pub call_at : List (List ℕ) → CallText
call_at [] = call_in []
call_at (line ∷ more) = with_parts more (call_in line)

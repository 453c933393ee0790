-- What a line of a deck says, as the code has it: a call is read when it is made.
use Rattle.std.specs.Prelude.{ℕ, ◌<◌, ◌≤◌, List, [], ◌∷◌, ◌++◌, true, false, Result, Ok, Err}
use Rattle.hd_deck.specs.Deck.{Statement, comment, select, call, argument, area_bytes, Reading}
use Rattle.hd_deck.specs.CallLines.{call_at}
use Rattle.hd_deck.specs.declared.deck.DeckFault.{DeckFault}
use Rattle.hd_deck.specs.declared.line.Statement.{Statement as Kind}
use Rattle.hd_deck.specs.declared.line.Statement.TheVariants as variants

-- what a line says, without what it says of a call
abbrev pub kind_of : Statement → Kind
kind_of comment = variants.Comment
kind_of (select k) = variants.Select k
kind_of (call k text) = variants.Call k
kind_of (argument ssa) = variants.Argument
kind_of (area_bytes bytes) = variants.Bytes

-- the same, or the fault
abbrev pub kind_in : Result Statement DeckFault → Result Kind DeckFault
kind_in (Ok s) = Ok (kind_of s)
kind_in (Err e) = Err e

-- one of so many PCBs, or a call that is made from 1 to 9,999 times
abbrev pub KindFits : ℕ → Kind → Type 0
KindFits pcbs variants.Comment = Unit {0}
KindFits pcbs (variants.Select k) = (0 < k) × (k ≤ pcbs)
KindFits pcbs (variants.Call k) = (0 < k) × (k ≤ 9999)
KindFits pcbs variants.Argument = Unit {0}
KindFits pcbs variants.Bytes = Unit {0}

-- a reading behind the first of some lines, where a call has at once all lines that belong to it
abbrev pub followed_by : Kind → List (List ℕ) → Reading → Reading
followed_by variants.Comment lines r = r
followed_by (variants.Select k) lines r = record { pcb = k; is_open = false; steps = r.steps }
followed_by (variants.Call k) lines r = record { pcb = r.pcb; is_open = true; steps = r.steps ++ record { pcb = r.pcb; repeat = k; call = call_at lines } ∷ [] }
followed_by variants.Argument lines r = r
followed_by variants.Bytes lines r = r

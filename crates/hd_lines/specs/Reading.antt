-- Reading a text part by part, up to the first fault.
use Rattle.std.specs.Prelude.{List, ◌++◌, Result, Ok, Err}

-- what follows a part without a fault
abbrev pub then : {A B E : Type 0} → Result A E → (A → Result B E) → Result B E
then (Ok x) more = more x
then (Err fault) more = Err fault

-- what a part gives in front of what the others give, if these are without a fault
abbrev pub before : {A E : Type 0} → List A → Result (List A) E → Result (List A) E
before front (Ok others) = Ok (front ++ others)
before front (Err fault) = Err fault

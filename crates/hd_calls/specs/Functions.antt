-- The nine functions, and tests in a row.
use Rattle.std.specs.Prelude.{ℕ, List, [], ◌∷◌, Bool, true, false, bytes_eq, codes, Option, find, option_map, Result, Ok, Err, cond}
use Rattle.hd_calls.specs.declared.call.GetKind.TheVariants.{Unique, Next, NextInParent}
use Rattle.hd_calls.specs.declared.call.Function.{Function}
use Rattle.hd_calls.specs.declared.call.Function.TheVariants.{Get, Insert, Replace, Delete}

-- A function beside its four bytes.
pub record FunctionName : Type 0 where
  pub text : List ℕ
  pub means : Function

-- the nine functions; the hold forms have an H
abbrev pub functions : List FunctionName
functions =
    record { text = codes "GU  "; means = Get Unique false }
    ∷ record { text = codes "GN  "; means = Get Next false }
    ∷ record { text = codes "GNP "; means = Get NextInParent false }
    ∷ record { text = codes "GHU "; means = Get Unique true }
    ∷ record { text = codes "GHN "; means = Get Next true }
    ∷ record { text = codes "GHNP"; means = Get NextInParent true }
    ∷ record { text = codes "ISRT"; means = Insert }
    ∷ record { text = codes "REPL"; means = Replace }
    ∷ record { text = codes "DLET"; means = Delete }
    ∷ []

-- the function that four bytes name
abbrev pub function_of : List ℕ → Option Function
function_of text = option_map (λ f. f.means) (find (λ f. bytes_eq f.text text) functions)

-- A test passed gives the next its value; the first that fails answers.
abbrev pub result_and_then : {A B E : Type 0} → Result A E → (A → Result B E) → Result B E
result_and_then (Ok x) next = next x
result_and_then (Err status) next = Err status

-- the value where a condition holds, or else an error
abbrev pub ok_if : {A E : Type 0} → Bool → E → A → Result A E
ok_if condition status x = cond condition (Ok x) (Err status)

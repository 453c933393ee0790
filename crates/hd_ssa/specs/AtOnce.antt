-- Arguments of which each is read whole before the next.
use Rattle.std.specs.Prelude.{ℕ, ◌-◌, List, [], ◌∷◌, length, map, take, drop, Bool, true, not, ◌&&◌, ◌||◌, nat_le, cond, Option, Some, None, is_none, option_map, option_and_then, Result, Ok}
use Rattle.std.specs.Option.{option_map_or}
use Rattle.std.specs.List.{list_all}
use Rattle.std.specs.Result.{result_ok}
use Rattle.hd_dbd.specs.declared.answer.Status.{Status}
use Rattle.hd_dbd.specs.Types.{SegmentType}
use Rattle.hd_dbd.specs.Hierarchy.{is_under}
use Rattle.hd_dbd.specs.Views.{Setting}
use Rattle.hd_calls.specs.declared.call.Function.{Function}
use Rattle.hd_calls.specs.declared.call.Function.TheVariants.{Get, Insert, Replace, Delete}
use Rattle.hd_calls.specs.Access.{seen_code, loads}
use Rattle.hd_calls.specs.Functions.{result_and_then}
use Rattle.hd_calls.specs.Ssas.{Head, Ssa, commands_among, commands_length, head_ending, read_head, read_qualification, read_ssa, ssa_of, steps_down, first_inserted}
use Rattle.hd_ssa.specs.Named.{named, code_below}

-- the head of a name, with these bytes behind it, where it is one
abbrev pub head_with_name : List ℕ → List ℕ → Option Head
head_with_name name behind =
    head_ending name (commands_among (take (commands_length behind) behind)) (drop (commands_length behind) behind)

-- what a text means whose type is below another, if there is one above, where no part of it is refused
abbrev pub read_below : Setting → Option ℕ → List ℕ → Option Ssa
read_below s above text =
    option_and_then (λ n. option_and_then (λ c. result_ok (read_ssa s c n.head)) (code_below s.types above n)) (option_map (λ h. named s h) (read_head text))

-- what texts mean, each type below the one before it, the first below another, if there is one above
abbrev pub read_down : Setting → Option ℕ → List (List ℕ) → Option (List Ssa)
read_down s above [] = Some []
read_down s above (text ∷ texts) =
    option_and_then (λ a. option_map (λ more. a ∷ more) (read_down s (Some a.code) texts)) (read_below s above text)

-- the code of the type of a name, where it is seen and below another, if there is one above
abbrev pub seen_below : Setting → Option ℕ → List ℕ → Option ℕ
seen_below s above name =
    option_and_then (λ c. cond (option_map_or (λ p. is_under s.types c p) above true) (Some c) None) (seen_code s name)

-- an argument of a type, its qualification read where it has one
abbrev pub read_typed : SegmentType → ℕ → Head → Result Ssa Status
read_typed t code h =
    option_map_or (λ text. result_and_then (read_qualification t text) (λ groups. Ok (ssa_of code h (Some groups)))) h.qualification (Ok (ssa_of code h None))

-- the argument of a type with these bytes behind its name, where no part of them is refused
abbrev pub read_behind : SegmentType → ℕ → List ℕ → Option Ssa
read_behind t code behind = option_and_then (λ h. result_ok (read_typed t code h)) (head_with_name t.name behind)

-- none of these arguments has a qualification
abbrev pub are_unqualified : List Ssa → Bool
are_unqualified ssas = list_all (λ a. is_none a.groups) ssas

-- each argument's type is the child of the type of the one before it
abbrev pub are_steps_down : List SegmentType → List Ssa → Bool
are_steps_down types ssas = steps_down types None (map (λ a. a.code) ssas)

-- An ISRT may have these arguments, which were read down: no inserted type is qualified, a load inserts one row, and each inserted type is the child of the
-- type just above it.
abbrev pub suits_insert : Setting → List Ssa → Bool
suits_insert s ssas =
    are_unqualified (drop (first_inserted ssas) ssas) && (not (loads s.pcb) || nat_le (length ssas) 1)
    && are_steps_down s.types (drop (first_inserted ssas - 1) ssas)

-- the function may have these arguments, which were read down
abbrev pub suits : Setting → Function → List Ssa → Bool
suits s (Get kind hold) ssas = true
suits s Insert ssas = suits_insert s ssas
suits s Replace ssas = are_unqualified ssas
suits s Delete ssas = are_unqualified ssas && nat_le (length ssas) 1

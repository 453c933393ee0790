-- One call of one PCB.
use Rattle.std.specs.Prelude.{ℕ, ◌+◌, ◌-◌, List, [], ◌∷◌, length, take, drop, map, filter, Bool, true, false, not, ◌&&◌, ◌||◌, nat_lt, nat_le, ◌==◌, cond, Option, Some, None, is_some, find, Result, Ok, Err, option_map, slice_get, slice_index, slice_index_or, slice_set, bytes_eq}
use Rattle.std.specs.Option.{option_map_or, ok_or}
use Rattle.std.specs.List.{list_any, list_all}
use Rattle.hd_dbd.specs.declared.hierarchy.Rule.{Rule}
use Rattle.hd_dbd.specs.Types.{SegmentType, View}
use Rattle.hd_dbd.specs.declared.answer.Status.{Status}
use Rattle.hd_dbd.specs.declared.answer.Status.TheVariants.{Blank, GE, GP, II, V1, DA, DJ, AD, AH, AM}
use Rattle.hd_calls.specs.declared.call.GetKind.TheVariants.{NextInParent}
use Rattle.hd_calls.specs.declared.call.AreaFault.{AreaFault}
use Rattle.hd_calls.specs.declared.call.AreaFault.TheVariants.{Length, Bytes}
use Rattle.hd_calls.specs.declared.call.Function.{Function}
use Rattle.hd_calls.specs.declared.call.Function.TheVariants.{Get, Insert, Replace, Delete}
use Rattle.hd_dbd.specs.Segment.{Segment}
use Rattle.hd_dbd.specs.Hierarchy.{type_of, parent_of, is_under}
use Rattle.hd_dbd.specs.Lengths.{length_in}
use Rattle.hd_dbd.specs.Rows.{key_of, row_fits}
use Rattle.hd_dbd.specs.Paths.{row_at, level_at, end_of}
use Rattle.hd_dbd.specs.Positions.{Position, at_start}
use Rattle.hd_dbd.specs.Letters.{gives_get, gives_insert, gives_replace, gives_delete, gives_path}
use Rattle.hd_dbd.specs.Views.{Setting, reads_some, may}
use Rattle.hd_calls.specs.Access.{loads}
use Rattle.hd_dbd.specs.Calls.{CallText, Reply, bare, row_reply}
use Rattle.hd_calls.specs.Functions.{function_of, result_and_then}
use Rattle.hd_calls.specs.Ssas.{Ssa, resolve, target_code, above_target, first_inserted}
use Rattle.hd_calls.specs.Gets.{unheld, get_step}
use Rattle.hd_calls.specs.Places.{insert_parent, is_key_taken, insertion_point, rule_of, rule_under}
use Rattle.hd_dbd.specs.Loads.{last_path, load_fault, status_of_load}
use Rattle.hd_calls.specs.Moves.{Rewrite, Change, unchanged, inserted, deleted, rewritten, rows_after, position_after}

-- ---- the tests before a call's own

-- the held row of a type
abbrev pub held_of : List Segment → List ℕ → ℕ → Option ℕ
held_of rows held code = find (λ i. (row_at rows i).code == code) held

-- an SSA of this type has N
abbrev pub is_excepted : List Ssa → ℕ → Bool
is_excepted ssas code = list_any (λ a. a.commands.excepted && a.code == code) ssas

-- the held rows that a REPL replaces
abbrev pub replaced_rows : List Segment → List Ssa → List ℕ → List ℕ
replaced_rows rows ssas held = filter (λ i. not (is_excepted ssas (row_at rows i).code)) held

-- the row that a DLET takes: the one that its SSA names, or else the highest held
abbrev pub deleted_row : List Segment → List Ssa → List ℕ → Option ℕ
deleted_row rows [] held = slice_get held 0
deleted_row rows (a ∷ rest) held = held_of rows held a.code

-- a path row of a get may be read, and its type has P
abbrev pub path_allowed : Setting → Ssa → Bool
path_allowed s a = not a.commands.path || may s gives_get a.code && may s gives_path a.code

-- PROCOPT allows a call of this function
abbrev pub is_allowed : Setting → List Segment → List ℕ → Function → List Ssa → Bool
is_allowed s rows held (Get kind hold) ssas =
    not (loads s.pcb)
    && cond (length ssas == 0) (reads_some s.pcb)
    (may s gives_get (target_code ssas) && list_all (λ a. path_allowed s a) (above_target ssas))
is_allowed s rows held Insert ssas =
    loads s.pcb || list_all (λ a. may s gives_insert a.code) (drop (first_inserted ssas) ssas)
is_allowed s rows held Replace ssas =
    not (loads s.pcb) && list_all (λ i. may s gives_replace (row_at rows i).code) (replaced_rows rows ssas held)
is_allowed s rows held Delete ssas =
    not (loads s.pcb)
    && option_map_or (λ i. may s gives_delete (row_at rows i).code) (deleted_row rows ssas held) true

-- an ISRT names what it inserts
abbrev pub names_enough : Function → List Ssa → Bool
names_enough Insert ssas = not (length ssas == 0)
names_enough _ ssas = true

-- a row is held for a REPL, and for a DLET the row that it takes
abbrev pub holds_enough : List Segment → List ℕ → Function → List Ssa → Bool
holds_enough rows held Replace ssas = not (length held == 0)
holds_enough rows held Delete ssas = is_some (deleted_row rows ssas held)
holds_enough rows held _ ssas = true

-- there is a parent, and the type looked for, if one is named, lies below the parent's
abbrev pub has_parent : List SegmentType → List Segment → Option ℕ → List Ssa → Bool
has_parent types rows parent ssas =
    option_map_or (λ q. length ssas == 0 || is_under types (target_code ssas) (row_at rows q).code) parent false

-- GNP looks below a parent
abbrev pub looks_below_parent : List SegmentType → List Segment → Option ℕ → Function → List Ssa → Bool
looks_below_parent types rows parent (Get NextInParent hold) ssas = has_parent types rows parent ssas
looks_below_parent types rows parent _ ssas = true

-- A call that passed its tests.
pub record AcceptedCall : Type 0 where
  pub function : Function
  pub ssas : List Ssa

-- the tests behind those of the SSAs, which look at PROCOPT, at the SSAs' number, at what is held and at the parent: AM, AH, DJ and
-- GP, in this order
abbrev pub last_tests : Setting → List Segment → Position → Function → List Ssa → Result AcceptedCall Status
last_tests s rows p f ssas =
    cond (not (is_allowed s rows p.held f ssas)) (Err AM)
    (cond (not (names_enough f ssas)) (Err AH)
    (cond (not (holds_enough rows p.held f ssas)) (Err DJ)
    (cond (not (looks_below_parent s.types rows p.parent f ssas)) (Err GP)
    (Ok (record { function = f; ssas = ssas })))))

-- The tests in their order, of which the first that fails answers: AD for the function; AJ, AC, AK for the SSAs; AM, AH, DJ, GP.
abbrev pub accepted_call : Setting → List Segment → Position → CallText → Result AcceptedCall Status
accepted_call s rows p call =
    result_and_then (ok_or (function_of call.function) AD) (λ f.
    result_and_then (resolve s f call.ssas) (λ ssas.
    last_tests s rows p f ssas))

-- ---- what a step gives

-- An answer, with what it changes and the caller's own position behind the change; or a wrong length of the area.
pub data Effect : Type 0 where
  answered : Reply → Change → Position → Effect
  wrong_area : Effect

-- a status that changes nothing, and ends the caller's hold
abbrev pub bare_answer : Position → Status → Effect
bare_answer p status = answered (bare status) unchanged (unheld p)

-- ---- the area

-- A part of an area: the new bytes of a row of the type of a code, or as many bytes as a row has that gets none.
pub data Part : Type 0 where
  new_row : ℕ → Part
  old_bytes : ℕ → Part

-- the bytes at the front of an area that a row of a type takes
abbrev pub front : List SegmentType → ℕ → List ℕ → List ℕ
front types c area = take (length_in types c area) area

-- rows of the type vary in length
abbrev pub varies : List SegmentType → ℕ → Bool
varies types c = option_map_or (λ t. is_some t.least) (type_of types c) false

-- what is wrong where a row of a type does not stand at the front of an area
abbrev pub front_fault : List SegmentType → ℕ → AreaFault
front_fault types c = cond (varies types c) Length Bytes

-- the bytes of the part at the front of an area: a row as long as its type allows and as it says itself, or so many bytes
abbrev pub part_at : List SegmentType → Part → List ℕ → Result (List ℕ) AreaFault
part_at types (new_row c) area =
    cond (row_fits types (record { code = c; bytes = front types c area })) (Ok (front types c area)) (Err (front_fault types c))
part_at types (old_bytes n) area = cond (nat_le n (length area)) (Ok (take n area)) (Err Bytes)

-- an area divided into parts, one behind the other, which take all of it; else the first fault from the front
abbrev pub divide : List SegmentType → List Part → List ℕ → Result (List (List ℕ)) AreaFault
divide types [] area = cond (length area == 0) (Ok []) (Err Bytes)
divide types (p ∷ ps) area =
    result_and_then (part_at types p area) (λ bytes.
    result_and_then (divide types ps (drop (length bytes) area)) (λ parts.
    Ok (bytes ∷ parts)))

-- what a call does with the parts of its area; a wrong length of a row answers V1
abbrev pub with_parts : Position → Result (List (List ℕ)) AreaFault → (List (List ℕ) → Effect) → Effect
with_parts p (Ok parts) effect = effect parts
with_parts p (Err Length) effect = bare_answer p V1
with_parts p (Err Bytes) effect = wrong_area

-- ---- ISRT

-- the rows of these types with these bytes
abbrev pub new_rows : List ℕ → List (List ℕ) → List Segment
new_rows [] parts = []
new_rows (c ∷ cs) [] = []
new_rows (c ∷ cs) (bytes ∷ parts) = record { code = c; bytes = bytes } ∷ new_rows cs parts

-- parentage stays where the row depends on the parent, at any level; else the row becomes the parent
abbrev pub parent_of_new : List SegmentType → List Segment → Option ℕ → ℕ → Option ℕ
parent_of_new types rows parent i =
    option_map_or (λ q. cond (nat_lt q i && nat_lt i (end_of types rows q)) (Some q) (Some i)) parent (Some i)

-- the caller stands on the lowest row inserted; rows and position are those behind the insertion
abbrev pub onto_new : List SegmentType → List Segment → Position → ℕ → Position
onto_new types rows p i = record {
  passed = i + 1;
  standing = Some i;
  last = Some (record { level = level_at types rows i; code = (row_at rows i).code });
  parent = parent_of_new types rows p.parent i;
  held = [];
}

-- rows go in as consecutive ones at one number
abbrev pub insert_at : Setting → List Segment → Position → List Segment → ℕ → Effect
insert_at s rows p new number =
    let after : List Segment = rows_after (inserted number new) rows in
    let lowest_new : ℕ = number + length new - 1 in
    answered (row_reply s after lowest_new Blank []) (inserted number new)
    (onto_new s.types after (position_after s.types rows (inserted number new) p) lowest_new)

-- the type's rule, as the codes of the first inserted SSA change it
abbrev pub rule_asked : List SegmentType → List Ssa → ℕ → Rule
rule_asked types ssas code =
    option_map_or (λ a. rule_under a.commands (rule_of types code)) (slice_get ssas (first_inserted ssas)) (rule_of types code)

-- below a parent, or among the roots: II where the key is taken, or the insertion point by key and rule
abbrev pub insert_below : Setting → List Segment → Position → List Ssa → List Segment → Segment → Option ℕ → Effect
insert_below s rows p ssas new first parent =
    cond (is_key_taken s.types rows parent first) (bare_answer p II)
    (insert_at s rows p new (insertion_point s.types rows parent p.standing (rule_asked s.types ssas first.code) first))

-- a root needs no parent; another row without one answers GE
abbrev pub insert_rows : Setting → List Segment → Position → List Ssa → List Segment → Segment → Effect
insert_rows s rows p ssas new first =
    option_map_or (λ code. option_map_or (λ q. insert_below s rows p ssas new first (Some q))
    (insert_parent s.types rows p.standing (take (first_inserted ssas) ssas) code) (bare_answer p GE))
    (parent_of s.types first.code) (insert_below s rows p ssas new first None)

-- a load puts one row behind all
abbrev pub load_step : Setting → List Segment → Position → Segment → Effect
load_step s rows p new =
    option_map_or (λ fault. bare_answer p (status_of_load fault)) (load_fault s.types (last_path s.types rows) new) (insert_at s rows p (new ∷ []) (length rows))

-- under PROCOPT L a row is loaded; else rows go in
abbrev pub insert_or_load : Setting → List Segment → Position → List Ssa → List Segment → Effect
insert_or_load s rows p ssas [] = wrong_area
insert_or_load s rows p ssas (r ∷ rs) = cond (loads s.pcb) (load_step s rows p r) (insert_rows s rows p ssas (r ∷ rs) r)

-- the types of the inserted SSAs
abbrev pub inserted_codes : List Ssa → List ℕ
inserted_codes ssas = map (λ a. a.code) (drop (first_inserted ssas) ssas)

-- ISRT: the area is the inserted rows, in order
abbrev pub insert_step : Setting → List Segment → Position → List Ssa → List ℕ → Effect
insert_step s rows p ssas area =
    with_parts p (divide s.types (map (λ c. new_row c) (inserted_codes ssas)) area) (λ parts.
    insert_or_load s rows p ssas (new_rows (inserted_codes ssas) parts))

-- ---- REPL

-- the held rows beside their parts of the area
abbrev pub rewrites_of : List ℕ → List (List ℕ) → List Rewrite
rewrites_of [] parts = []
rewrites_of (i ∷ is) [] = []
rewrites_of (i ∷ is) (bytes ∷ parts) = record { number = i; bytes = bytes } ∷ rewrites_of is parts

-- the new bytes of the held rows that are not excepted by N
abbrev pub rewrites_asked : List Segment → List Ssa → List Rewrite → List Rewrite
rewrites_asked rows ssas ws = filter (λ w. not (is_excepted ssas (row_at rows w.number).code)) ws

-- a row's new bytes have the key that it has
abbrev pub keeps_key : List SegmentType → List Segment → Rewrite → Bool
keeps_key types rows w =
    bytes_eq (key_of types (row_at rows w.number)) (key_of types (record { code = (row_at rows w.number).code; bytes = w.bytes }))

-- the lowest held row
abbrev pub lowest : List ℕ → ℕ
lowest held = slice_index held (length held - 1)

-- the rows get their new bytes, or DA where a key would change; the answer is of the lowest held row
abbrev pub replace_rows : Setting → List Segment → Position → List Rewrite → Effect
replace_rows s rows p ws =
    cond (list_all (λ w. keeps_key s.types rows w) ws)
    (answered (row_reply s rows (lowest p.held) Blank []) (rewritten ws) (unheld p))
    (bare_answer p DA)

-- the part of a held row: new bytes, or as many as it has where N excepts it
abbrev pub held_part : List Segment → List Ssa → ℕ → Part
held_part rows ssas i = cond (is_excepted ssas (row_at rows i).code) (old_bytes (length (row_at rows i).bytes)) (new_row (row_at rows i).code)

-- REPL: the area is all held rows, in order
abbrev pub replace_step : Setting → List Segment → Position → List Ssa → List ℕ → Effect
replace_step s rows p ssas area =
    with_parts p (divide s.types (map (λ i. held_part rows ssas i) p.held) area) (λ parts.
    replace_rows s rows p (rewrites_asked rows ssas (rewrites_of p.held parts)))

-- ---- DLET

-- a row goes with all that depends on it; the answer is of the row as it stood
abbrev pub delete_row : Setting → List Segment → Position → ℕ → Effect
delete_row s rows p d =
    let gone : Change = deleted d (end_of s.types rows d) in
    answered (row_reply s rows d Blank []) gone (unheld (position_after s.types rows gone p))

-- DLET: the row that is named, or the highest held
abbrev pub delete_step : Setting → List Segment → Position → List Ssa → Effect
delete_step s rows p ssas = option_map_or (λ d. delete_row s rows p d) (deleted_row rows ssas p.held) (bare_answer p DJ)

-- ---- the step

-- a get changes no row
abbrev pub get_effect : Reply × Position → Effect
get_effect r = answered r.0 unchanged r.1

-- what each function does once the tests are passed
abbrev pub own_step : Setting → List Segment → Position → List ℕ → Function → List Ssa → Effect
own_step s rows p area (Get kind hold) ssas = get_effect (get_step s rows p kind hold ssas)
own_step s rows p area Insert ssas = insert_step s rows p ssas area
own_step s rows p area Replace ssas = replace_step s rows p ssas area
own_step s rows p area Delete ssas = delete_step s rows p ssas

-- a test that failed answers, and changes nothing but that the hold ends
abbrev pub after_tests : Setting → List Segment → Position → List ℕ → Result AcceptedCall Status → Effect
after_tests s rows p area (Err status) = bare_answer p status
after_tests s rows p area (Ok r) = own_step s rows p area r.function r.ssas

-- what one call of a PCB does, over rows in which its position is p
abbrev pub effect_of : Setting → List Segment → Position → CallText → Effect
effect_of s rows p call = after_tests s rows p call.area (accepted_call s rows p call)

-- ---- the state of all PCBs

-- The rows, and the position of each PCB.
pub record State : Type 0 where
  pub rows : List Segment
  pub positions : List Position

-- the position of a PCB, numbered from 1
abbrev pub position_at : State → ℕ → Position
position_at st number = slice_index_or st.positions (number - 1) at_start

-- All PCBs move with the change; then the caller takes its own position. A wrong area changes nothing.
abbrev pub state_after : List SegmentType → State → ℕ → Effect → State
state_after types st number (answered reply change own) = record {
  rows = rows_after change st.rows;
  positions = slice_set (map (λ q. position_after types st.rows change q) st.positions) (number - 1) own;
}
state_after types st number wrong_area = st

-- the effect of a call by one PCB of a program, of the given number
abbrev pub step : List SegmentType → View → State → ℕ → CallText → Effect
step types pcb st number call = effect_of (record { types = types; pcb = pcb }) st.rows (position_at st number) call

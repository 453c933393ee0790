-- Segment search arguments: how their bytes are read, and which types and fields they name.
use Rattle.std.specs.Prelude.{ℕ, zero, suc, ◌+◌, ◌-◌, List, [], ◌∷◌, length, take, drop, map, Bool, true, false, not, ◌&&◌, ◌||◌, nat_le, ◌==◌, cond, Option, Some, None, is_none, option_map, option_and_then, Result, Ok, Err, bytes_eq, codes, find, slice_index}
use Rattle.std.specs.Option.{option_map_or, ok_or}
use Rattle.std.specs.List.{list_any, list_all, prefix_len}
use Rattle.hd_dbd.specs.declared.hierarchy.Field.{Field}
use Rattle.hd_dbd.specs.Types.{SegmentType}
use Rattle.hd_calls.specs.declared.call.Commands.{Commands}
use Rattle.hd_calls.specs.declared.call.Function.{Function}
use Rattle.hd_calls.specs.declared.call.Function.TheVariants.{Get, Insert, Replace, Delete}
use Rattle.hd_calls.specs.declared.call.Operator.{Operator}
use Rattle.hd_calls.specs.declared.call.Operator.TheVariants.{Equal, AtLeast, AtMost, Greater, Less, NotEqual}
use Rattle.hd_dbd.specs.declared.answer.Status.{Status}
use Rattle.hd_dbd.specs.declared.answer.Status.TheVariants.{AC, AJ, AK}
use Rattle.hd_dbd.specs.Naming.{is_name}
use Rattle.hd_dbd.specs.Hierarchy.{type_of, parent_of, is_under}
use Rattle.hd_dbd.specs.Views.{Setting}
use Rattle.hd_calls.specs.Access.{seen_code, loads}
use Rattle.hd_calls.specs.Functions.{result_and_then, ok_if}

-- ---- the head

-- The head of an SSA: the name in its eight bytes, the command codes, and what stands behind the opening bracket.
pub record Head : Type 0 where
  pub name : List ℕ
  pub commands : Commands
  pub qualification : Option (List ℕ)

-- D, F, L, N or the null code `-`
abbrev pub is_command : ℕ → Bool
is_command b = b == 68 || b == 70 || b == 76 || b == 78 || b == 45

-- the byte stands among others
abbrev pub has_byte : ℕ → List ℕ → Bool
has_byte byte bytes = list_any (λ b. b == byte) bytes

-- which codes stand among these bytes
abbrev pub commands_among : List ℕ → Commands
commands_among bytes = record {
  path = has_byte 68 bytes;
  first = has_byte 70 bytes;
  last = has_byte 76 bytes;
  excepted = has_byte 78 bytes;
}

-- how many bytes the star and the codes behind it take
abbrev pub commands_length : List ℕ → ℕ
commands_length [] = 0
commands_length (b ∷ bs) = cond (b == 42) (1 + prefix_len is_command bs) 0

-- What ends a head: the end, a blank, or an opening bracket with a qualification behind it.
abbrev pub head_ending : List ℕ → Commands → List ℕ → Option Head
head_ending name commands [] = Some (record { name = name; commands = commands; qualification = None })
head_ending name commands (b ∷ bs) =
    cond (b == 32) (Some (record { name = name; commands = commands; qualification = None }))
    (cond (b == 40) (Some (record { name = name; commands = commands; qualification = Some bs })) None)

-- the head with which the bytes begin, if they do: eight bytes of a name, then the command codes, then its ending
abbrev pub read_head : List ℕ → Option Head
read_head bytes =
    let behind : List ℕ = drop 8 bytes in
    let count : ℕ = commands_length behind in
    cond (is_name (take 8 bytes)) (head_ending (take 8 bytes) (commands_among (take count behind)) (drop count behind)) None

-- the heads of some SSAs, where each begins with one
abbrev pub read_heads : List (List ℕ) → Option (List Head)
read_heads [] = Some []
read_heads (ssa ∷ ssas) = option_and_then (λ h. option_map (λ hs. h ∷ hs) (read_heads ssas)) (read_head ssa)

-- of SSAs that begin at a place, the place of the first with D, or else of the last
abbrev pub first_inserted_from : ℕ → List Commands → ℕ
first_inserted_from place [] = place - 1
first_inserted_from place (c ∷ cs) = cond c.path place (first_inserted_from (place + 1) cs)

-- the place of the first inserted SSA, by the command codes
abbrev pub first_inserted_of : List Commands → ℕ
first_inserted_of commands = first_inserted_from 0 commands

-- the same, by the heads
abbrev pub first_inserted_head : List Head → ℕ
first_inserted_head heads = first_inserted_of (map (λ h. h.commands) heads)

-- none of these SSAs has a qualification
abbrev pub unqualified : List Head → Bool
unqualified heads = list_all (λ h. is_none h.qualification) heads

-- The function may have such heads. No inserted type is qualified, a load inserts one row; REPL and DLET have no
-- qualification, and DLET has at most one SSA.
abbrev pub heads_suit : Setting → Function → List Head → Bool
heads_suit s (Get kind hold) heads = true
heads_suit s Insert heads = unqualified (drop (first_inserted_head heads) heads) && (not (loads s.pcb) || nat_le (length heads) 1)
heads_suit s Replace heads = unqualified heads
heads_suit s Delete heads = unqualified heads && nat_le (length heads) 1

-- ---- the types

-- the codes of the types named, each seen and a proper descendant of the type before it
abbrev pub codes_below : Setting → Option ℕ → List Head → Option (List ℕ)
codes_below s above [] = Some []
codes_below s above (h ∷ hs) =
    option_and_then (λ c. cond (option_map_or (λ p. is_under s.types c p) above true)
    (option_map (λ cs. c ∷ cs) (codes_below s (Some c) hs)) None) (seen_code s h.name)

-- each type is the child of the one before it, the first of the one above, if there is one
abbrev pub steps_down : List SegmentType → Option ℕ → List ℕ → Bool
steps_down types above [] = true
steps_down types above (c ∷ cs) =
    option_map_or (λ p. option_map_or (λ q. q == p) (parent_of types c) false) above true && steps_down types (Some c) cs

-- in an ISRT, each inserted type is the child of the type just above it
abbrev pub types_suit : Setting → Function → List Head → List ℕ → Bool
types_suit s Insert heads cs = steps_down s.types None (drop (first_inserted_head heads - 1) cs)
types_suit s _ heads cs = true

-- the codes of the types of a call's SSAs, at most fifteen
abbrev pub codes_of : Setting → Function → List Head → Option (List ℕ)
codes_of s f heads =
    cond (nat_le (length heads) 15)
    (option_and_then (λ cs. cond (types_suit s f heads cs) (Some cs) None) (codes_below s None heads)) None

-- ---- the qualification

-- One comparison of a qualification: a field of the type, an operator and a value of the field's length.
pub record Comparison : Type 0 where
  pub field : Field
  pub operator : Operator
  pub value : List ℕ

-- an operator beside its two bytes
pub record OperatorName : Type 0 where
  pub text : List ℕ
  pub means : Operator

-- the spellings of the six operators
abbrev pub operators : List OperatorName
operators =
    record { text = codes "EQ"; means = Equal } ∷ record { text = codes "= "; means = Equal } ∷ record { text = codes " ="; means = Equal }
    ∷ record { text = codes "GE"; means = AtLeast } ∷ record { text = codes ">="; means = AtLeast } ∷ record { text = codes "=>"; means = AtLeast }
    ∷ record { text = codes "LE"; means = AtMost } ∷ record { text = codes "<="; means = AtMost } ∷ record { text = codes "=<"; means = AtMost }
    ∷ record { text = codes "GT"; means = Greater } ∷ record { text = codes "> "; means = Greater } ∷ record { text = codes " >"; means = Greater }
    ∷ record { text = codes "LT"; means = Less } ∷ record { text = codes "< "; means = Less } ∷ record { text = codes " <"; means = Less }
    ∷ record { text = codes "NE"; means = NotEqual } ∷ []

-- the operator that two bytes name
abbrev pub operator_of : List ℕ → Option Operator
operator_of text = option_map (λ o. o.means) (find (λ o. bytes_eq o.text text) operators)

-- A comparison that was read, with what stands behind it.
pub record ComparisonRead : Type 0 where
  pub comparison : Comparison
  pub behind : List ℕ

-- the value at the front of a text: AJ where it is short
abbrev pub read_value : Field → Operator → List ℕ → Result ComparisonRead Status
read_value f o text =
    ok_if (nat_le f.length (length text)) AJ
    (record { comparison = record { field = f; operator = o; value = take f.length text }; behind = drop f.length text })

-- The comparison at the front of a text. AJ where eight bytes for a field's name are lacking, AK where they name no
-- field of the type, AJ for an unknown operator or a short value.
abbrev pub read_comparison : SegmentType → List ℕ → Result ComparisonRead Status
read_comparison t text =
    result_and_then (ok_if (nat_le 8 (length text)) AJ text) (λ _.
    result_and_then (ok_or (find (λ f. bytes_eq f.name (take 8 text)) t.fields) AK) (λ f.
    result_and_then (ok_or (operator_of (take 2 (drop 8 text))) AJ) (λ o.
    read_value f o (drop 10 text))))

-- the text begins with a byte that passes a test
abbrev pub begins_with : (ℕ → Bool) → List ℕ → Bool
begins_with test [] = false
begins_with test (b ∷ bs) = test b

-- `*` and `&` mean AND
abbrev pub is_and : ℕ → Bool
is_and b = b == 42 || b == 38

-- `+` and `|` mean OR
abbrev pub is_or : ℕ → Bool
is_or b = b == 43 || b == 124

-- `)` ends a qualification
abbrev pub is_close : ℕ → Bool
is_close b = b == 41

-- a comparison joined by AND to the next one, which begins the first of the groups; there always is one
abbrev pub joined_to : Comparison → List (List Comparison) → List (List Comparison)
joined_to c [] = []
joined_to c (group ∷ groups) = (c ∷ group) ∷ groups

-- The groups of a qualification: AND puts a comparison into the group of the next, OR begins a new group. Fewer than n comparisons
-- are read.
abbrev pub read_groups : SegmentType → ℕ → List ℕ → Result (List (List Comparison)) Status
read_groups t zero text = Err AJ
read_groups t (suc n) text =
    result_and_then (read_comparison t text) (λ c.
    cond (begins_with is_close c.behind) (Ok ((c.comparison ∷ []) ∷ []))
    (cond (begins_with is_and c.behind) (result_and_then (read_groups t n (drop 1 c.behind)) (λ groups. Ok (joined_to c.comparison groups)))
    (cond (begins_with is_or c.behind) (result_and_then (read_groups t n (drop 1 c.behind)) (λ groups. Ok ((c.comparison ∷ []) ∷ groups)))
    (Err AJ))))

-- the groups of a whole qualification; each comparison takes more than one byte
abbrev pub read_qualification : SegmentType → List ℕ → Result (List (List Comparison)) Status
read_qualification t text = read_groups t (length text) text

-- ---- the whole

-- An SSA as a PCB reads it: its type, its command codes, and the groups of its qualification, if it has one.
pub record Ssa : Type 0 where
  pub code : ℕ
  pub commands : Commands
  pub groups : Option (List (List Comparison))

-- an SSA of a type with a head's command codes
abbrev pub ssa_of : ℕ → Head → Option (List (List Comparison)) → Ssa
ssa_of c h groups = record { code = c; commands = h.commands; groups = groups }

-- one SSA, its qualification read where it has one
abbrev pub read_ssa : Setting → ℕ → Head → Result Ssa Status
read_ssa s c h =
    option_map_or (λ text. option_map_or (λ t. result_and_then (read_qualification t text) (λ groups. Ok (ssa_of c h (Some groups))))
    (type_of s.types c) (Err AC)) h.qualification (Ok (ssa_of c h None))

-- the qualifications, read from left to right
abbrev pub read_ssas : Setting → List ℕ → List Head → Result (List Ssa) Status
read_ssas s [] hs = Ok []
read_ssas s (c ∷ cs) [] = Ok []
read_ssas s (c ∷ cs) (h ∷ hs) = result_and_then (read_ssa s c h) (λ a. result_and_then (read_ssas s cs hs) (λ rest. Ok (a ∷ rest)))

-- the heads of a call's SSAs, where the function may have them
abbrev pub heads_of : Setting → Function → List (List ℕ) → Option (List Head)
heads_of s f ssas = option_and_then (λ hs. cond (heads_suit s f hs) (Some hs) None) (read_heads ssas)

-- What the SSAs of a call mean to a PCB. AJ for the heads, then AC for the types, then AK or AJ for the qualifications.
abbrev pub resolve : Setting → Function → List (List ℕ) → Result (List Ssa) Status
resolve s f ssas =
    result_and_then (ok_or (heads_of s f ssas) AJ) (λ hs.
    result_and_then (ok_or (codes_of s f hs) AC) (λ cs.
    read_ssas s cs hs))

-- the code of the last SSA's type
abbrev pub target_code : List Ssa → ℕ
target_code ssas = slice_index (map (λ a. a.code) ssas) (length ssas - 1)

-- the SSAs above the last
abbrev pub above_target : List Ssa → List Ssa
above_target ssas = take (length ssas - 1) ssas

-- the place of the first inserted SSA
abbrev pub first_inserted : List Ssa → ℕ
first_inserted ssas = first_inserted_of (map (λ a. a.commands) ssas)

-- Heads whose types were looked up by their names.
use Rattle.std.specs.Prelude.{ℕ, List, [], ◌∷◌, true, Option, Some, None, map, option_map, option_and_then, cond, nat_le, length, Result}
use Rattle.std.specs.Option.{option_map_or, ok_or}
use Rattle.hd_dbd.specs.declared.answer.Status.{Status}
use Rattle.hd_dbd.specs.declared.answer.Status.TheVariants.{AC, AJ}
use Rattle.hd_dbd.specs.Types.{SegmentType}
use Rattle.hd_dbd.specs.Hierarchy.{is_under}
use Rattle.hd_dbd.specs.Views.{Setting}
use Rattle.hd_calls.specs.Access.{seen_code}
use Rattle.hd_calls.specs.declared.call.Function.{Function}
use Rattle.hd_calls.specs.Functions.{result_and_then, ok_if}
use Rattle.hd_calls.specs.Ssas.{Head, Ssa, read_head, heads_suit, types_suit, read_ssas}

-- A head without its name, and the code of the type of that name, where the PCB sees one.
pub record Named : Type 0 where
  pub code : Option ℕ
  pub head : Head

-- a head as a PCB sees it
abbrev pub named : Setting → Head → Named
named s h = record { code = seen_code s h.name; head = record h { name = [] } }

-- the heads of a call as a PCB sees them
abbrev pub all_named : Setting → List Head → List Named
all_named s heads = map (λ h. named s h) heads

-- the heads of some texts as a PCB sees them, where each begins with one
abbrev pub named_heads : Setting → List (List ℕ) → Option (List Named)
named_heads s [] = Some []
named_heads s (text ∷ texts) =
    option_and_then (λ n. option_map (λ ns. n ∷ ns) (named_heads s texts)) (option_map (λ h. named s h) (read_head text))

-- the heads without their names
abbrev pub heads_in : List Named → List Head
heads_in ns = map (λ n. n.head) ns

-- the code of a head's type, where it is a proper descendant of the type above, if there is one
abbrev pub code_below : List SegmentType → Option ℕ → Named → Option ℕ
code_below types above n =
    option_and_then (λ c. cond (option_map_or (λ p. is_under types c p) above true) (Some c) None) n.code

-- the codes of the types of these heads, each of them below the one before it
abbrev pub codes_down : List SegmentType → Option ℕ → List Named → Option (List ℕ)
codes_down types above [] = Some []
codes_down types above (n ∷ ns) =
    option_and_then (λ c. option_map (λ cs. c ∷ cs) (codes_down types (Some c) ns)) (code_below types above n)

-- What heads with their types, as a PCB sees these, mean: AJ where the function may not have them, AC for their types, then AK or AJ for the qualifications.
abbrev pub resolve_named : Setting → Function → List Named → Result (List Ssa) Status
resolve_named s f ns =
    result_and_then (ok_if (heads_suit s f (heads_in ns)) AJ ns) (λ ns.
    result_and_then (ok_if (nat_le (length ns) 15) AC ns) (λ ns.
    result_and_then (ok_or (codes_down s.types None ns) AC) (λ cs.
    result_and_then (ok_if (types_suit s f (heads_in ns) cs) AC cs) (λ cs.
    read_ssas s cs (heads_in ns)))))

-- Heads as a PCB sees them, and what is asked of heads without their names.
use Rattle.std.proofs.Common.{append_assoc, ◌≡◌, ℕ, ◌+◌, ◌-◌, ◌<◌, List, [], ◌∷◌, ◌++◌, map, drop, length, get_or, min, Bool, true, false, Option, Some, None, ap, ap₂, ◌∙◌, sym, refl}
use Rattle.std.specs.List.{position_or_len}
use Rattle.std.specs.Global.{Vec}
use Rattle.std.specs.Prelude.{nat_lt, is_some, not, ◌&&◌, ◌||◌, nat_le, is_none, option_map, option_and_then, cond, position, bytes_eq, Result, Ok}
use Rattle.std.specs.Option.{option_map_or}
use Rattle.std.proofs.lemmas.List.{length-map, drop-map, drop_min, drop_more}
use Rattle.std.proofs.lemmas.List.Folds.{list_all-map}
use Rattle.std.proofs.lemmas.List.Quantifiers.{position-Some}
use Rattle.std.proofs.lemmas.Slice.Eq.{bytes_eq-Decides}
use Rattle.hd_dbd.specs.Types.{SegmentType}
use Rattle.hd_dbd.specs.Hierarchy.{is_under}
use Rattle.hd_dbd.specs.ProgramRules.{type_names, code_named}
use Rattle.hd_dbd.specs.Views.{Setting, letters_for}
use Rattle.hd_dbd.specs.declared.answer.Status.{Status}
use Rattle.hd_calls.specs.declared.call.Function.{Function}
use Rattle.hd_calls.specs.declared.call.Function.TheVariants.{Get, Insert, Replace, Delete}
use Rattle.hd_calls.specs.declared.call.Commands.{Commands}
use Rattle.hd_calls.specs.Access.{seen_code, loads}
use Rattle.hd_calls.specs.Functions.{result_and_then}
use Rattle.hd_calls.specs.Ssas.{Head, Ssa, read_head, read_heads, unqualified, first_inserted_head, first_inserted_of, steps_down, heads_suit, codes_below, types_suit, read_ssa, read_ssas}
use Rattle.hd_ssa.specs.Named.{Named, named, all_named, named_heads, heads_in, codes_down}

-- ---- the codes of names

place_or_count : (name : List ℕ) (types : List SegmentType) → position_or_len (λ t. bytes_eq t.name name) (type_names types) ≡ position_or_len (λ t. bytes_eq t.name name) types
place_or_count name [] = refl
place_or_count name (t ∷ types) = ap (λ (n : ℕ). cond (not (bytes_eq t.name name)) (1 + n) 0) (place_or_count name types)

place_named : (name : List ℕ) (types : List SegmentType) → position (λ t. bytes_eq t.name name) (type_names types) ≡ position (λ t. bytes_eq t.name name) types
place_named name types = ap₂ (λ (n count : ℕ). cond (nat_lt n count) (Some n) None) (place_or_count name types) (length-map types (λ t. record { name = t.name; parent = t.parent }))

pub code_at : (types : List SegmentType) (name : List ℕ) (o : Option ℕ) → o ≡ position (λ t. bytes_eq t.name name) types → code_named (type_names types) name ≡ option_map (λ i. i + 1) o
code_at types name o is = ap (λ (p : Option ℕ). option_map (λ i. i + 1) p) (place_named name types ∙ sym is)

-- where no type has the name it has no code
pub seen_none : (s : Setting) (name : List ℕ) → position (λ t. bytes_eq t.name name) s.types ≡ None → seen_code s name ≡ None
seen_none s name is = by (letters_for s.pcb name)
  where
    by : (o : Option (List ℕ)) → option_and_then (λ _. code_named (type_names s.types) name) o ≡ None
    by None = refl
    by (Some letters) = code_at s.types name None (sym is)

-- the code of a name that the PCB sees, by the place of its type
pub seen_at : (s : Setting) (name : List ℕ) (i : ℕ) → position (λ t. bytes_eq t.name name) s.types ≡ Some i → is_some (letters_for s.pcb name) ≡ true → seen_code s name ≡ Some (i + 1)
seen_at s name i is seen = by (letters_for s.pcb name) seen
  where
    by : (o : Option (List ℕ)) → is_some o ≡ true → option_and_then (λ _. code_named (type_names s.types) name) o ≡ Some (i + 1)
    by None seen = cc
    by (Some letters) seen = code_at s.types name (Some i) (sym is)

-- the type at the place of a name has the name
pub name_at : (types : List SegmentType) (name : List ℕ) (i : ℕ) (t : SegmentType) → position (λ t. bytes_eq t.name name) types ≡ Some i → t ≡ get_or types i t → t.name ≡ name
name_at types name i t is at_place =
    (bytes_eq-Decides t.name name).0 (ap (λ (u : SegmentType). bytes_eq u.name name) at_place ∙ (position-Some (λ u. bytes_eq u.name name) types i t is).1)

-- ---- heads without names

pub named_all : (s : Setting) (texts : List (List ℕ)) → named_heads s texts ≡ option_map (λ hs. all_named s hs) (read_heads texts)
named_all s [] = refl
named_all s (t ∷ texts) = by_head (read_head t) (named_all s texts)
  where
    by_head : (o : Option Head) → named_heads s texts ≡ option_map (λ hs. all_named s hs) (read_heads texts)
        → option_and_then (λ n. option_map (λ ns. n ∷ ns) (named_heads s texts)) (option_map (λ h. named s h) o)
        ≡ option_map (λ hs. all_named s hs) (option_and_then (λ h. option_map (λ hs. h ∷ hs) (read_heads texts)) o)
    by_head None more = refl
    by_head (Some h) more = ap (λ (p : Option (List Named)). option_map (λ ns. named s h ∷ ns) p) more ∙ longer (read_heads texts)
      where
        longer : (p : Option (List Head)) → option_map (λ ns. named s h ∷ ns) (option_map (λ hs. all_named s hs) p) ≡ option_map (λ hs. all_named s hs) (option_map (λ hs. h ∷ hs) p)
        longer None = refl
        longer (Some hs) = refl

-- the heads without their names from a place on
pub unqualified_from : (ns : List Named) (place : ℕ) → unqualified (heads_in (drop (min place (length ns)) ns)) ≡ unqualified (drop place (heads_in ns))
unqualified_from ns place = ap (λ (xs : List Named). unqualified (heads_in xs)) (drop_min place ns) ∙ ap unqualified (sym (drop-map (λ n. n.head) place ns))

-- a head without its name
abbrev bare_head : Head → Head
bare_head h = record h { name = [] }

bare_heads : (s : Setting) (hs : List Head) → heads_in (all_named s hs) ≡ map bare_head hs
bare_heads s [] = refl
bare_heads s (h ∷ hs) = ap (λ (xs : List Head). bare_head h ∷ xs) (bare_heads s hs)

unqualified_bare : (hs : List Head) → unqualified (map bare_head hs) ≡ unqualified hs
unqualified_bare hs = list_all-map (λ h. is_none h.qualification) bare_head hs

commands_bare : (hs : List Head) → map (λ h. h.commands) (map bare_head hs) ≡ map (λ h. h.commands) hs
commands_bare [] = refl
commands_bare (h ∷ hs) = ap (λ (cs : List Commands). h.commands ∷ cs) (commands_bare hs)

inserted_bare : (hs : List Head) → first_inserted_head (map bare_head hs) ≡ first_inserted_head hs
inserted_bare hs = ap first_inserted_of (commands_bare hs)

suit_bare : (s : Setting) (f : Function) (hs : List Head) → heads_suit s f (map bare_head hs) ≡ heads_suit s f hs
suit_bare s (Get kind hold) hs = refl
suit_bare s Insert hs =
    ap₂ (λ a n. a && (not (loads s.pcb) || nat_le n 1))
    (ap (λ n. unqualified (drop n (map bare_head hs))) (inserted_bare hs) ∙ ap unqualified (drop-map bare_head (first_inserted_head hs) hs) ∙ unqualified_bare (drop (first_inserted_head hs) hs))
    (length-map hs bare_head)
suit_bare s Replace hs = unqualified_bare hs
suit_bare s Delete hs = ap₂ (λ a n. a && nat_le n 1) (unqualified_bare hs) (length-map hs bare_head)

pub suit_named : (s : Setting) (f : Function) (hs : List Head) → heads_suit s f (heads_in (all_named s hs)) ≡ heads_suit s f hs
suit_named s f hs = ap (heads_suit s f) (bare_heads s hs) ∙ suit_bare s f hs

types_bare : (s : Setting) (f : Function) (hs : List Head) (cs : List ℕ) → types_suit s f (map bare_head hs) cs ≡ types_suit s f hs cs
types_bare s (Get kind hold) hs cs = refl
types_bare s Insert hs cs = ap (λ n. steps_down s.types None (drop (n - 1) cs)) (inserted_bare hs)
types_bare s Replace hs cs = refl
types_bare s Delete hs cs = refl

pub types_named : (s : Setting) (f : Function) (hs : List Head) (cs : List ℕ) → types_suit s f (heads_in (all_named s hs)) cs ≡ types_suit s f hs cs
types_named s f hs cs = ap (λ (xs : List Head). types_suit s f xs cs) (bare_heads s hs) ∙ types_bare s f hs cs

pub codes_named : (s : Setting) (above : Option ℕ) (hs : List Head) → codes_down s.types above (all_named s hs) ≡ codes_below s above hs
codes_named s above [] = refl
codes_named s above (h ∷ hs) = by_code (seen_code s h.name) (λ c. codes_named s (Some c) hs)
  where
    by_code : (o : Option ℕ) → ((c : ℕ) → codes_down s.types (Some c) (all_named s hs) ≡ codes_below s (Some c) hs)
        → option_and_then (λ c. option_map (λ cs. c ∷ cs) (codes_down s.types (Some c) (all_named s hs)))
        (option_and_then (λ c. cond (option_map_or (λ p. is_under s.types c p) above true) (Some c) None) o)
        ≡ option_and_then (λ c. cond (option_map_or (λ p. is_under s.types c p) above true) (option_map (λ cs. c ∷ cs) (codes_below s (Some c) hs)) None) o
    by_code None more = refl
    by_code (Some c) more = by_under (option_map_or (λ p. is_under s.types c p) above true)
      where
        by_under : (b : Bool) → option_and_then (λ c. option_map (λ cs. c ∷ cs) (codes_down s.types (Some c) (all_named s hs))) (cond b (Some c) None)
            ≡ cond b (option_map (λ cs. c ∷ cs) (codes_below s (Some c) hs)) None
        by_under true = ap (λ (o : Option (List ℕ)). option_map (λ cs. c ∷ cs) o) (more c)
        by_under false = refl

pub ssas_named : (s : Setting) (cs : List ℕ) (hs : List Head) → read_ssas s cs (heads_in (all_named s hs)) ≡ read_ssas s cs hs
ssas_named s [] hs = nothing s (heads_in (all_named s hs)) ∙ sym (nothing s hs)
  where
    nothing : (s : Setting) (hs : List Head) → read_ssas s [] hs ≡ Ok []
    nothing s [] = refl
    nothing s (h ∷ hs) = refl
ssas_named s (c ∷ cs) [] = refl
ssas_named s (c ∷ cs) (h ∷ hs) =
    ap (λ (r : Result (List Ssa) Status). result_and_then (read_ssa s c h) (λ a. result_and_then r (λ rest. Ok (a ∷ rest)))) (ssas_named s cs hs)

-- ---- one head more

longer : (o : Option (List Named)) (so_far : List Named) (n : Named) → option_map (λ ns. (so_far ++ n ∷ []) ++ ns) o ≡ option_map (λ ns. so_far ++ ns) (option_map (λ ns. n ∷ ns) o)
longer None so_far n = refl
longer (Some ns) so_far n = ap (λ (xs : List Named). Some xs) (append_assoc so_far (n ∷ []) ns)

-- the heads of the texts from a place on, by that of the first
heads_from : (s : Setting) (ssas : List (Vec ℕ)) (i : ℕ) (v : Vec ℕ) → i < length ssas → v ≡ get_or ssas i v
    → named_heads s (map (λ t. t.items) (drop i ssas))
    ≡ option_and_then (λ n. option_map (λ ns. n ∷ ns) (named_heads s (map (λ t. t.items) (drop (i + 1) ssas)))) (option_map (λ h. named s h) (read_head v.items))
heads_from s ssas i v below is =
    ap (λ (vs : List (Vec ℕ)). named_heads s (map (λ t. t.items) vs)) (drop_more ssas i v below ∙ ap (λ x. x ∷ drop (i + 1) ssas) (sym is))

pub heads_next : (s : Setting) (ssas : List (Vec ℕ)) (i : ℕ) (v : Vec ℕ) (n : Named) (so_far now : List Named) → i < length ssas → v ≡ get_or ssas i v
    → option_map (λ h. named s h) (read_head v.items) ≡ Some n → now ≡ so_far ++ n ∷ []
    → option_map (λ ns. now ++ ns) (named_heads s (map (λ t. t.items) (drop (i + 1) ssas))) ≡ option_map (λ ns. so_far ++ ns) (named_heads s (map (λ t. t.items) (drop i ssas)))
heads_next s ssas i v n so_far now below is reads longer_now =
    let rest : Option (List Named) = named_heads s (map (λ t. t.items) (drop (i + 1) ssas)) in
    ap (λ (xs : List Named). option_map (λ ns. xs ++ ns) rest) longer_now
    ∙ longer rest so_far n
    ∙ sym (ap (λ (o : Option (List Named)). option_map (λ ns. so_far ++ ns) o)
    (heads_from s ssas i v below is ∙ ap (λ (o : Option Named). option_and_then (λ n. option_map (λ ns. n ∷ ns) rest) o) reads))

pub heads_none : (s : Setting) (ssas : List (Vec ℕ)) (i : ℕ) (v : Vec ℕ) (so_far : List Named) (all : Option (List Named)) → i < length ssas → v ≡ get_or ssas i v
    → option_map (λ h. named s h) (read_head v.items) ≡ None
    → option_map (λ ns. so_far ++ ns) (named_heads s (map (λ t. t.items) (drop i ssas))) ≡ all → all ≡ None
heads_none s ssas i v so_far all below is reads same =
    sym same ∙ ap (λ (o : Option (List Named)). option_map (λ ns. so_far ++ ns) o)
    (heads_from s ssas i v below is ∙ ap (λ (o : Option Named). option_and_then (λ n. option_map (λ ns. n ∷ ns) (named_heads s (map (λ t. t.items) (drop (i + 1) ssas)))) o) reads)

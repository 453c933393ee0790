-- What resolved segment search arguments keep to: each type stands, and below the one before it.
use Rattle.std.proofs.Common.{◌≡◌, ℕ, zero, suc, ◌+◌, ◌-◌, ◌<◌, List, [], ◌∷◌, length, map, true, false, Bool, cond, arith, ap, sym, ◌∙◌, subst, Option, Some, None, refl, inl, inr}
use Rattle.std.specs.Prelude.{Result, Ok, bytes_eq, slice_get, ◌==◌, ◌||◌, nat_le, option_map, option_and_then, IfSome, position}
use Rattle.std.specs.Option.{option_map_or, ok_or}
use Rattle.std.proofs.lemmas.Bool.{eqb-true, ne_eqb, or_cases, cond-false}
use Rattle.std.proofs.lemmas.List.Quantifiers.{position-Some}
use Rattle.std.proofs.lemmas.List.{length-map}
use Rattle.hd_dbd.specs.declared.program.TypeName.{TypeName}
use Rattle.hd_dbd.specs.Types.{SegmentType}
use Rattle.hd_dbd.specs.declared.answer.Status.{Status}
use Rattle.hd_dbd.specs.declared.answer.Status.TheVariants.{AC, AJ}
use Rattle.hd_dbd.specs.Hierarchy.{type_of, parent_of, level_of, is_under, is_under_within}
use Rattle.hd_dbd.specs.Views.{Setting, letters_for}
use Rattle.hd_dbd.specs.ProgramRules.{type_names, code_named}
use Rattle.hd_dbd.proofs.LevelLaw.{Leveled, depth_below}
use Rattle.hd_calls.specs.declared.call.Function.{Function}
use Rattle.hd_calls.specs.Access.{seen_code}
use Rattle.hd_calls.specs.Functions.{result_and_then}
use Rattle.hd_calls.specs.Ssas.{Head, Ssa, heads_of, codes_of, codes_below, types_suit, read_ssa, read_ssas, resolve}
use Rattle.hd_calls.proofs.FairCalls.{and_then_ok, or_ok, ssa_heads}

-- ---- levels of types

-- a type's level is one more than its parent's
pub type_level : (types : List SegmentType) (leveled : Leveled types) (c : ℕ) (t : SegmentType) → type_of types c ≡ Some t → level_of types c ≡ depth_below types (parent_of types c) + 1
type_level types leveled c t is = leveled.own c t is

parent_level : (types : List SegmentType) (leveled : Leveled types) (c p : ℕ) → parent_of types c ≡ Some p → level_of types p < level_of types c
parent_level types leveled c p is = by_type (type_of types c) refl is
  where
    by_type : (o : Option SegmentType) → type_of types c ≡ o → option_and_then (λ t. t.parent) o ≡ Some p → level_of types p < level_of types c
    by_type None o_is is' = cc
    by_type (Some t) o_is is' =
        let law : level_of types c ≡ depth_below types (parent_of types c) + 1 = type_level types leveled c t o_is in
        let own : level_of types c ≡ level_of types p + 1 = law ∙ ap (λ (o : Option ℕ). depth_below types o + 1) is in
        omega arith

-- a type is on a lesser level than one that depends on it
pub under_level : (types : List SegmentType) (leveled : Leveled types) (n c above : ℕ) → is_under_within types n c above ≡ true → level_of types above < level_of types c
under_level types leveled zero c above is = cc
under_level types leveled (suc n) c above is = by_parent (parent_of types c) refl is (λ p under. under_level types leveled n p above under)
  where
    by_parent : (o : Option ℕ) → parent_of types c ≡ o → option_map_or (λ p. p == above || is_under_within types n p above) o false ≡ true
        → ((p : ℕ) → is_under_within types n p above ≡ true → level_of types above < level_of types p) → level_of types above < level_of types c
    by_parent None o_is is more = cc
    by_parent (Some p) o_is is more =
        let up : level_of types p < level_of types c = parent_level types leveled c p o_is in
        elim (or_cases (p == above) (is_under_within types n p above) is) [
          | inl same ↦ omega (arith, up, ap (λ (n : ℕ). level_of types n) (eqb-true p above same))
          | inr under ↦ omega (arith, up, more p under)
        ]

-- ---- the arguments

-- The arguments are those of the heads: each has its head's codes and a type that stands, below the one before it.
abbrev pub Resolved : List SegmentType → Option ℕ → List Head → List Ssa → Type 0
Resolved types above [] [] = Unit {0}
Resolved types above [] (a ∷ as_) = ⊥
Resolved types above (h ∷ hs) [] = ⊥
Resolved types above (h ∷ hs) (a ∷ as_) =
    (a.commands ≡ h.commands) × ((t : SegmentType) × (type_of types a.code ≡ Some t)) × IfSome above (λ p. is_under types a.code p ≡ true)
    × Resolved types (Some a.code) hs as_

abbrev nameless : TypeName
nameless = record { name = []; parent = None }

-- the code of a name stands
code_stands : (types : List SegmentType) (name : List ℕ) (c : ℕ) → code_named (type_names types) name ≡ Some c → (t : SegmentType) × (type_of types c ≡ Some t)
code_stands types name c is = by_place (position (λ t. bytes_eq t.name name) (type_names types)) refl is
  where
    at_place : (i : ℕ) (ts : List SegmentType) → i < length ts → (t : SegmentType) × (slice_get ts i ≡ Some t)
    at_place i [] less = absurd (omega arith)
    at_place zero (t ∷ ts) less = (t, refl)
    at_place (suc i) (t ∷ ts) less = at_place i ts (omega arith)

    by_place : (o : Option ℕ) → position (λ t. bytes_eq t.name name) (type_names types) ≡ o → option_map (λ i. i + 1) o ≡ Some c → (t : SegmentType) × (type_of types c ≡ Some t)
    by_place None o_is is = cc
    by_place (Some i) o_is is =
        let same : i + 1 ≡ c = cc in
        let within : i < length (type_names types) = (position-Some (λ t. bytes_eq t.name name) (type_names types) i nameless o_is).0 in
        let named : SegmentType → TypeName = λ t. record { name = t.name; parent = t.parent } in
        let there = at_place i types (omega (arith, within, length-map types named)) in
        let other : (c == 0) ≡ false = ne_eqb c 0 (λ none. absurd (omega arith)) in
        let less : c - 1 ≡ i = omega arith in
        (there.0, cond-false (c == 0) None (slice_get types (c - 1)) other ∙ ap (λ (n : ℕ). slice_get types n) less ∙ there.1)

seen_stands : (s : Setting) (name : List ℕ) (c : ℕ) → seen_code s name ≡ Some c → (t : SegmentType) × (type_of s.types c ≡ Some t)
seen_stands s name c is = by_letters (letters_for s.pcb name) is
  where
    by_letters : (o : Option (List ℕ)) → option_and_then (λ _. code_named (type_names s.types) name) o ≡ Some c → (t : SegmentType) × (type_of s.types c ≡ Some t)
    by_letters None is = cc
    by_letters (Some l) is = code_stands s.types name c is

-- the codes of arguments, and how they were resolved
abbrev HasCodes : Setting → Option ℕ → List Head → List ℕ → List Ssa → Type 0
HasCodes s above hs cs as_ = (map (λ a. a.code) as_ ≡ cs) × Resolved s.types above hs as_

abbrev ok_list : List Ssa → Result (List Ssa) Status
ok_list x = Ok x

below_resolved : (s : Setting) (above : Option ℕ) (hs : List Head) (cs : List ℕ) (as_ : List Ssa) → codes_below s above hs ≡ Some cs → read_ssas s cs hs ≡ Ok as_ → HasCodes s above hs cs as_
below_resolved s above [] cs as_ below read =
    let none : [] ≡ cs = cc in
    let empty : read_ssas s [] [] ≡ Ok as_ = ap (λ (cs : List ℕ). read_ssas s cs []) none ∙ read in
    let same : [] ≡ as_ = cc in
    subst (λ (xs : List Ssa). HasCodes s above [] cs xs) same (none, tt)
below_resolved s above (h ∷ hs) cs as_ below read =
    by_code (seen_code s h.name) refl below (λ c rest as_ b r. below_resolved s (Some c) hs rest as_ b r)
  where
    by_read : (c : ℕ) (rest : List ℕ) → seen_code s h.name ≡ Some c → cs ≡ c ∷ rest → IfSome above (λ p. is_under s.types c p ≡ true)
        → ((as_ : List Ssa) → read_ssas s rest hs ≡ Ok as_ → HasCodes s (Some c) hs rest as_) → HasCodes s above (h ∷ hs) cs as_
    by_read c rest seen shape under more =
        let now : read_ssas s (c ∷ rest) (h ∷ hs) ≡ Ok as_ = ap (λ (cs : List ℕ). read_ssas s cs (h ∷ hs)) (sym shape) ∙ read in
        let one = and_then_ok (read_ssa s c h) (λ a. result_and_then (read_ssas s rest hs) (λ as_. Ok (a ∷ as_))) as_ now in
        let two = and_then_ok (read_ssas s rest hs) (λ as_. Ok (one.0 ∷ as_)) as_ one.2 in
        let same : one.0 ∷ two.0 ≡ as_ = the_same (one.0 ∷ two.0) as_ two.2 in
        let named = ssa_heads s c h one.0 one.1 in
        let tail : HasCodes s (Some c) hs rest two.0 = more two.0 two.1 in
        let here : type_of s.types one.0.code ≡ type_of s.types c = ap (λ (n : ℕ). type_of s.types n) named.0 in
        let stands = seen_stands s h.name c seen in
        subst (λ (xs : List Ssa). HasCodes s above (h ∷ hs) cs xs) same (
          ap (λ (n : ℕ). n ∷ map (λ a. a.code) two.0) named.0 ∙ ap (λ (xs : List ℕ). c ∷ xs) tail.0 ∙ sym shape,
          (
            named.1,
            (stands.0, here ∙ stands.1),
            subst (λ (n : ℕ). IfSome above (λ p. is_under s.types n p ≡ true)) (sym named.0) under,
            subst (λ (n : ℕ). Resolved s.types (Some n) hs two.0) (sym named.0) tail.1,
          ),
        )
      where
        the_same : (x y : List Ssa) → ok_list x ≡ ok_list y → x ≡ y
        the_same x y is = cc

    by_code : (o : Option ℕ) → seen_code s h.name ≡ o
        → option_and_then (λ c. cond (option_map_or (λ p. is_under s.types c p) above true) (option_map (λ cs. c ∷ cs) (codes_below s (Some c) hs)) None) o ≡ Some cs
        → ((c : ℕ) (rest : List ℕ) (as_ : List Ssa) → codes_below s (Some c) hs ≡ Some rest → read_ssas s rest hs ≡ Ok as_ → HasCodes s (Some c) hs rest as_)
        → HasCodes s above (h ∷ hs) cs as_
    by_code None seen is more = cc
    by_code (Some c) seen is more = by_under (option_map_or (λ p. is_under s.types c p) above true) (codes_below s (Some c) hs) refl refl is
      where
        all_under : (o : Option ℕ) → option_map_or (λ p. is_under s.types c p) o true ≡ true → IfSome o (λ p. is_under s.types c p ≡ true)
        all_under None is = tt
        all_under (Some p) is = is

        by_under : (b : Bool) (o : Option (List ℕ)) → option_map_or (λ p. is_under s.types c p) above true ≡ b → codes_below s (Some c) hs ≡ o
            → cond b (option_map (λ cs. c ∷ cs) o) None ≡ Some cs → HasCodes s above (h ∷ hs) cs as_
        by_under true None under o_is is = cc
        by_under true (Some rest) under o_is is =
            let shape : c ∷ rest ≡ cs = cc in
            by_read c rest seen (sym shape) (all_under above under) (λ as_ r. more c rest as_ o_is r)
        by_under false o under o_is is = cc

-- The arguments of a call that were resolved, with their heads.
pub record IsResolvedCall (s : Setting) (f : Function) (as_ : List Ssa) : Type 0 where
  pub heads : List Head
  pub suit : types_suit s f heads (map (λ a. a.code) as_) ≡ true
  pub resolved : Resolved s.types None heads as_

pub resolved_call : (s : Setting) (f : Function) (ssas : List (List ℕ)) (as_ : List Ssa) → resolve s f ssas ≡ Ok as_ → IsResolvedCall s f as_
resolved_call s f ssas as_ is =
    let one = and_then_ok (ok_or (heads_of s f ssas) AJ) _ as_ is in
    let two = and_then_ok (ok_or (codes_of s f one.0) AC) _ as_ one.2 in
    let codes : codes_of s f one.0 ≡ Some two.0 = or_ok AC (codes_of s f one.0) two.0 two.1 in
    let both = by_count one.0 two.0 (nat_le (length one.0) 15) codes in
    let read : HasCodes s None one.0 two.0 as_ = below_resolved s None one.0 two.0 as_ both.0 two.2 in
    record {
      heads = one.0;
      suit = ap (λ (cs : List ℕ). types_suit s f one.0 cs) read.0 ∙ both.1;
      resolved = read.1;
    }
  where
    by_count : (hs : List Head) (cs : List ℕ) (b : Bool)
        → cond b (option_and_then (λ cs. cond (types_suit s f hs cs) (Some cs) None) (codes_below s None hs)) None ≡ Some cs → (codes_below s None hs ≡ Some cs) × (types_suit s f hs cs ≡ true)
    by_count hs cs false is = cc
    by_count hs cs true is = by_codes (codes_below s None hs) is
      where
        by_codes : (o : Option (List ℕ)) → option_and_then (λ cs. cond (types_suit s f hs cs) (Some cs) None) o ≡ Some cs → (o ≡ Some cs) × (types_suit s f hs cs ≡ true)
        by_codes None is = cc
        by_codes (Some ds) is = by_suit (types_suit s f hs ds) refl is
          where
            by_suit : (b : Bool) → types_suit s f hs ds ≡ b → cond b (Some ds) None ≡ Some cs → (Some ds ≡ Some cs) × (types_suit s f hs cs ≡ true)
            by_suit true suit is =
                let same : ds ≡ cs = cc in
                (is, ap (λ (xs : List ℕ). types_suit s f hs xs) (sym same) ∙ suit)
            by_suit false suit is = cc

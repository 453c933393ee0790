-- What the effect of a whole call keeps to.
use Rattle.std.proofs.Common.{◌≡◌, ℕ, zero, suc, List, [], ◌∷◌, length, true, false, Bool, cond, ap, sym, ◌∙◌, Option, Some, None, refl}
use Rattle.std.specs.Prelude.{Result, Ok, Err, ◌==◌, ◌&&◌, ◌||◌, not, nat_le, find, option_map, option_and_then, drop, take, bytes_eq}
use Rattle.std.specs.Option.{option_map_or, ok_or}
use Rattle.std.specs.List.{list_any}
use Rattle.hd_dbd.specs.Types.{SegmentType}
use Rattle.hd_dbd.specs.declared.answer.Status.{Status}
use Rattle.hd_dbd.specs.declared.answer.Status.TheVariants.{AC, AD, AH, AJ, AK, AM, DJ, GP}
use Rattle.hd_dbd.specs.Segment.{Segment}
use Rattle.hd_dbd.specs.Paths.{row_at}
use Rattle.hd_dbd.specs.Positions.{Position}
use Rattle.hd_dbd.specs.Calls.{CallText}
use Rattle.hd_dbd.specs.Views.{Setting, letters_for}
use Rattle.hd_dbd.specs.Hierarchy.{type_of, is_under}
use Rattle.hd_dbd.specs.ProgramRules.{type_names, code_named}
use Rattle.hd_calls.specs.declared.call.Function.{Function}
use Rattle.hd_calls.specs.declared.call.Function.TheVariants.{Get, Insert, Replace, Delete}
use Rattle.hd_calls.specs.declared.call.Commands.{Commands}
use Rattle.hd_calls.specs.Access.{seen_code}
use Rattle.hd_calls.specs.Functions.{function_of, result_and_then, ok_if}
use Rattle.hd_calls.specs.Ssas.{Head, Ssa, ComparisonRead, read_heads, heads_of, heads_suit, codes_of, codes_below, types_suit, read_comparison, operator_of, joined_to, begins_with, is_and, is_or, is_close, read_groups, read_qualification, ssa_of, read_ssa, read_ssas, resolve}
use Rattle.hd_calls.specs.Steps.{bare_answer, is_excepted, AcceptedCall, last_tests, is_allowed, names_enough, holds_enough, looks_below_parent, own_step, after_tests, effect_of}
use Rattle.hd_calls.specs.NoLostUpdate.{is_blank, excepts}
use Rattle.hd_calls.proofs.Fair.{IsFair, refused_fair, get_fair}
use Rattle.hd_calls.proofs.FairUpdates.{insert_step_fair, replace_step_fair, delete_step_fair}

-- ---- no test answers blank

-- a fault is not blank
abbrev IsNamed : {A : Type 0} → Result A Status → Type 0
IsNamed (Ok x) = Unit {0}
IsNamed (Err status) = is_blank status ≡ false

and_then_named : {A B : Type 0} (r : Result A Status) (next : A → Result B Status) → IsNamed r → ((x : A) → IsNamed (next x)) → IsNamed (result_and_then r next)
and_then_named (Ok x) next n f = f x
and_then_named (Err status) next n f = n

or_named : {A : Type 0} (status : Status) (o : Option A) → is_blank status ≡ false → IsNamed (ok_or o status)
or_named status None n = n
or_named status (Some x) n = tt

ok_if_named : {A : Type 0} (b : Bool) (status : Status) (x : A) → is_blank status ≡ false → IsNamed (ok_if b status x)
ok_if_named true status x n = tt
ok_if_named false status x n = n

comparison_named : (t : SegmentType) (text : List ℕ) → IsNamed (read_comparison t text)
comparison_named t text =
    and_then_named (ok_if (nat_le 8 (length text)) AJ text) _ (ok_if_named (nat_le 8 (length text)) AJ text refl) (λ _.
    and_then_named (ok_or (find (λ f. bytes_eq f.name (take 8 text)) t.fields) AK) _ (or_named AK (find (λ f. bytes_eq f.name (take 8 text)) t.fields) refl) (λ f.
    and_then_named (ok_or (operator_of (take 2 (drop 8 text))) AJ) _ (or_named AJ (operator_of (take 2 (drop 8 text))) refl) (λ o.
    ok_if_named (nat_le f.length (length (drop 10 text))) AJ _ refl)))

groups_named : (t : SegmentType) (n : ℕ) (text : List ℕ) → IsNamed (read_groups t n text)
groups_named t zero text = refl
groups_named t (suc n) text =
    and_then_named (read_comparison t text) _ (comparison_named t text) (λ c. by_end c (groups_named t n (drop 1 c.behind)) (begins_with is_close c.behind) (begins_with is_and c.behind) (begins_with is_or c.behind))
  where
    by_end : (c : ComparisonRead) → IsNamed (read_groups t n (drop 1 c.behind)) → (x y z : Bool)
        → IsNamed (cond x (Ok ((c.comparison ∷ []) ∷ []))
        (cond y (result_and_then (read_groups t n (drop 1 c.behind)) (λ groups. Ok (joined_to c.comparison groups)))
        (cond z (result_and_then (read_groups t n (drop 1 c.behind)) (λ groups. Ok ((c.comparison ∷ []) ∷ groups)))
        (Err AJ))))
    by_end c rest true y z = tt
    by_end c rest false true z = and_then_named (read_groups t n (drop 1 c.behind)) (λ groups. Ok (joined_to c.comparison groups)) rest (λ _. tt)
    by_end c rest false false true = and_then_named (read_groups t n (drop 1 c.behind)) (λ groups. Ok ((c.comparison ∷ []) ∷ groups)) rest (λ _. tt)
    by_end c rest false false false = refl

ssa_named : (s : Setting) (c : ℕ) (h : Head) → IsNamed (read_ssa s c h)
ssa_named s c h = by_text h.qualification
  where
    by_type : (text : List ℕ) (o : Option SegmentType)
        → IsNamed (option_map_or (λ t. result_and_then (read_qualification t text) (λ groups. Ok (ssa_of c h (Some groups)))) o (Err AC))
    by_type text None = refl
    by_type text (Some t) = and_then_named (read_qualification t text) (λ groups. Ok (ssa_of c h (Some groups))) (groups_named t (length text) text) (λ _. tt)

    by_text : (o : Option (List ℕ))
        → IsNamed (option_map_or (λ text. option_map_or (λ t. result_and_then (read_qualification t text) (λ groups. Ok (ssa_of c h (Some groups)))) (type_of s.types c) (Err AC)) o (Ok (ssa_of c h None)))
    by_text None = tt
    by_text (Some text) = by_type text (type_of s.types c)

ssas_named : (s : Setting) (cs : List ℕ) (hs : List Head) → IsNamed (read_ssas s cs hs)
ssas_named s [] hs = tt
ssas_named s (c ∷ cs) [] = tt
ssas_named s (c ∷ cs) (h ∷ hs) =
    and_then_named (read_ssa s c h) (λ a. result_and_then (read_ssas s cs hs) (λ rest. Ok (a ∷ rest))) (ssa_named s c h)
    (λ a. and_then_named (read_ssas s cs hs) (λ rest. Ok (a ∷ rest)) (ssas_named s cs hs) (λ _. tt))

resolve_named : (s : Setting) (f : Function) (ssas : List (List ℕ)) → IsNamed (resolve s f ssas)
resolve_named s f ssas =
    and_then_named (ok_or (heads_of s f ssas) AJ) _ (or_named AJ (heads_of s f ssas) refl) (λ hs.
    and_then_named (ok_or (codes_of s f hs) AC) _ (or_named AC (codes_of s f hs) refl) (λ cs. ssas_named s cs hs))

last_tests_named : (s : Setting) (rows : List Segment) (p : Position) (f : Function) (as_ : List Ssa) → IsNamed (last_tests s rows p f as_)
last_tests_named s rows p f as_ = by_tests (not (is_allowed s rows p.held f as_)) (not (names_enough f as_)) (not (holds_enough rows p.held f as_)) (not (looks_below_parent s.types rows p.parent f as_))
  where
    by_tests : (a b c d : Bool) → IsNamed {A = AcceptedCall} (cond a (Err AM) (cond b (Err AH) (cond c (Err DJ) (cond d (Err GP) (Ok (record { function = f; ssas = as_ }))))))
    by_tests true b c d = refl
    by_tests false true c d = refl
    by_tests false false true d = refl
    by_tests false false false true = refl
    by_tests false false false false = tt

-- ---- what passed

pub and_then_ok : {A B : Type 0} (r : Result A Status) (next : A → Result B Status) (y : B) → result_and_then r next ≡ Ok y → (x : A) × (r ≡ Ok x) × (next x ≡ Ok y)
and_then_ok (Ok x) next y is = (x, refl, is)
and_then_ok (Err status) next y is = cc

pub or_ok : {A : Type 0} (status : Status) (o : Option A) (x : A) → ok_or o status ≡ Ok x → o ≡ Some x
or_ok status None x is = cc
or_ok status (Some y) x is = cc

abbrev ok_ssas : List Ssa → Result (List Ssa) Status
ok_ssas x = Ok x

abbrev ok_ssa : Ssa → Result Ssa Status
ok_ssa x = Ok x

-- the SSAs that were read have the types and the codes of their heads
pub ssa_heads : (s : Setting) (c : ℕ) (h : Head) (a : Ssa) → read_ssa s c h ≡ Ok a → (a.code ≡ c) × (a.commands ≡ h.commands)
ssa_heads s c h a is = by_text h.qualification is
  where
    by_type : (text : List ℕ) (o : Option SegmentType)
        → option_map_or (λ t. result_and_then (read_qualification t text) (λ groups. Ok (ssa_of c h (Some groups)))) o (Err AC) ≡ Ok a → (a.code ≡ c) × (a.commands ≡ h.commands)
    by_type text None is = cc
    by_type text (Some t) is =
        let ok = and_then_ok (read_qualification t text) (λ groups. Ok (ssa_of c h (Some groups))) a is in
        let eq : ssa_of c h (Some ok.0) ≡ a = the_same (ssa_of c h (Some ok.0)) a ok.2 in
        (sym (ap (λ (a : Ssa). a.code) eq), sym (ap (λ (a : Ssa). a.commands) eq))
      where
        the_same : (x y : Ssa) → ok_ssa x ≡ ok_ssa y → x ≡ y
        the_same x y is = cc

    by_text : (o : Option (List ℕ))
        → option_map_or (λ text. option_map_or (λ t. result_and_then (read_qualification t text) (λ groups. Ok (ssa_of c h (Some groups)))) (type_of s.types c) (Err AC)) o (Ok (ssa_of c h None)) ≡ Ok a
        → (a.code ≡ c) × (a.commands ≡ h.commands)
    by_text None is =
        let eq : ssa_of c h None ≡ a = cc in
        (sym (ap (λ (a : Ssa). a.code) eq), sym (ap (λ (a : Ssa). a.commands) eq))
    by_text (Some text) is = by_type text (type_of s.types c) is

-- a type is named with N among heads
abbrev heads_except : List SegmentType → List Head → ℕ → Bool
heads_except types hs code = list_any (λ h. h.commands.excepted && option_map_or (λ c. c == code) (code_named (type_names types) h.name) false) hs

seen_named : (s : Setting) (name : List ℕ) (c : ℕ) → seen_code s name ≡ Some c → code_named (type_names s.types) name ≡ Some c
seen_named s name c is = by_letters (letters_for s.pcb name) is
  where
    by_letters : (o : Option (List ℕ)) → option_and_then (λ _. code_named (type_names s.types) name) o ≡ Some c → code_named (type_names s.types) name ≡ Some c
    by_letters None is = cc
    by_letters (Some l) is = is

codes_kept : (s : Setting) (above : Option ℕ) (hs : List Head) (cs : List ℕ) (as_ : List Ssa) (code : ℕ) → codes_below s above hs ≡ Some cs → read_ssas s cs hs ≡ Ok as_
    → heads_except s.types hs code ≡ is_excepted as_ code
codes_kept s above [] cs as_ code below read =
    let none : [] ≡ cs = cc in
    let empty : read_ssas s [] [] ≡ Ok as_ = ap (λ (cs : List ℕ). read_ssas s cs []) none ∙ read in
    let eq : [] ≡ as_ = cc in
    ap (λ (a : List Ssa). is_excepted a code) eq
codes_kept s above (h ∷ hs) cs as_ code below read =
    by_code (seen_code s h.name) refl below (λ c rest as_ b r. codes_kept s (Some c) hs rest as_ code b r)
  where
    by_read : (c : ℕ) (rest : List ℕ) → seen_code s h.name ≡ Some c → cs ≡ c ∷ rest
        → ((as_ : List Ssa) → read_ssas s rest hs ≡ Ok as_ → heads_except s.types hs code ≡ is_excepted as_ code)
        → heads_except s.types (h ∷ hs) code ≡ is_excepted as_ code
    by_read c rest seen shape more =
        let now : read_ssas s (c ∷ rest) (h ∷ hs) ≡ Ok as_ = ap (λ (cs : List ℕ). read_ssas s cs (h ∷ hs)) (sym shape) ∙ read in
        let one = and_then_ok (read_ssa s c h) (λ a. result_and_then (read_ssas s rest hs) (λ as_. Ok (a ∷ as_))) as_ now in
        let two = and_then_ok (read_ssas s rest hs) (λ as_. Ok (one.0 ∷ as_)) as_ one.2 in
        let eq : one.0 ∷ two.0 ≡ as_ = the_same (one.0 ∷ two.0) as_ two.2 in
        let named = ssa_heads s c h one.0 one.1 in
        ap (λ b. b || heads_except s.types hs code)
        (ap (λ (o : Option ℕ). h.commands.excepted && option_map_or (λ c. c == code) o false) (seen_named s h.name c seen)
        ∙ ap (λ (k : Bool). k && c == code) (sym (ap (λ (m : Commands). m.excepted) named.1))
        ∙ ap (λ (n : ℕ). one.0.commands.excepted && n == code) (sym named.0))
        ∙ ap (λ b. one.0.commands.excepted && one.0.code == code || b) (more two.0 two.1)
        ∙ ap (λ (a : List Ssa). is_excepted a code) eq
      where
        the_same : (x y : List Ssa) → ok_ssas x ≡ ok_ssas y → x ≡ y
        the_same x y is = cc

    by_code : (o : Option ℕ) → seen_code s h.name ≡ o
        → option_and_then (λ c. cond (option_map_or (λ p. is_under s.types c p) above true) (option_map (λ cs. c ∷ cs) (codes_below s (Some c) hs)) None) o ≡ Some cs
        → ((c : ℕ) (rest : List ℕ) (as_ : List Ssa) → codes_below s (Some c) hs ≡ Some rest → read_ssas s rest hs ≡ Ok as_ → heads_except s.types hs code ≡ is_excepted as_ code)
        → heads_except s.types (h ∷ hs) code ≡ is_excepted as_ code
    by_code None seen is more = cc
    by_code (Some c) seen is more = by_under (option_map_or (λ p. is_under s.types c p) above true) (codes_below s (Some c) hs) refl is
      where
        by_under : (b : Bool) (o : Option (List ℕ)) → codes_below s (Some c) hs ≡ o → cond b (option_map (λ cs. c ∷ cs) o) None ≡ Some cs
            → heads_except s.types (h ∷ hs) code ≡ is_excepted as_ code
        by_under true None o_is is = cc
        by_under true (Some rest) o_is is =
            let shape : c ∷ rest ≡ cs = cc in
            by_read c rest seen (sym shape) (λ as_ r. more c rest as_ o_is r)
        by_under false o o_is is = cc

-- what a call's SSAs except is what they keep as its PCB reads them
excepts_kept : (s : Setting) (f : Function) (call : CallText) (as_ : List Ssa) (rows : List Segment) (i : ℕ) → resolve s f call.ssas ≡ Ok as_
    → excepts s.types call rows i ≡ is_excepted as_ (row_at rows i).code
excepts_kept s f call as_ rows i is =
    let one = and_then_ok (ok_or (heads_of s f call.ssas) AJ) _ as_ is in
    let two = and_then_ok (ok_or (codes_of s f one.0) AC) _ as_ one.2 in
    by_heads (read_heads call.ssas) one.0 two.0 (or_ok AJ (heads_of s f call.ssas) one.0 one.1) (or_ok AC (codes_of s f one.0) two.0 two.1) two.2
  where
    by_count : (hs : List Head) (cs : List ℕ) (b : Bool)
        → cond b (option_and_then (λ cs. cond (types_suit s f hs cs) (Some cs) None) (codes_below s None hs)) None ≡ Some cs → codes_below s None hs ≡ Some cs
    by_count hs cs false is = cc
    by_count hs cs true is = by_codes (codes_below s None hs) is
      where
        by_codes : (o : Option (List ℕ)) → option_and_then (λ cs. cond (types_suit s f hs cs) (Some cs) None) o ≡ Some cs → o ≡ Some cs
        by_codes None is = cc
        by_codes (Some ds) is = by_suit (types_suit s f hs ds) is
          where
            by_suit : (b : Bool) → cond b (Some ds) None ≡ Some cs → Some ds ≡ Some cs
            by_suit true is = is
            by_suit false is = cc

    by_heads : (o : Option (List Head)) (hs : List Head) (cs : List ℕ) → option_and_then (λ hs. cond (heads_suit s f hs) (Some hs) None) o ≡ Some hs
        → codes_of s f hs ≡ Some cs → read_ssas s cs hs ≡ Ok as_
        → option_map_or (λ heads. heads_except s.types heads (row_at rows i).code) o false ≡ is_excepted as_ (row_at rows i).code
    by_heads None hs cs is codes read = cc
    by_heads (Some gs) hs cs is codes read = by_suit (heads_suit s f gs) is
      where
        by_suit : (b : Bool) → cond b (Some gs) None ≡ Some hs → heads_except s.types gs (row_at rows i).code ≡ is_excepted as_ (row_at rows i).code
        by_suit false is = cc
        by_suit true is =
            let eq : gs ≡ hs = cc in
            ap (λ (hs : List Head). heads_except s.types hs (row_at rows i).code) eq
            ∙ codes_kept s None hs cs as_ (row_at rows i).code (by_count hs cs (nat_le (length hs) 15) codes) read

-- ---- the whole call

pub call_fair : (s : Setting) (rows : List Segment) (p : Position) (call : CallText)
    → IsFair (function_of call.function) s.types rows p.held (λ i. excepts s.types call rows i) (effect_of s rows p call)
call_fair s rows p call = by_function (function_of call.function)
  where
    by_function : (o : Option Function)
        → IsFair o s.types rows p.held (λ i. excepts s.types call rows i)
        (after_tests s rows p call.area (result_and_then (ok_or o AD) (λ f. result_and_then (resolve s f call.ssas) (λ ssas. last_tests s rows p f ssas))))
    by_function None = refused_fair None s.types rows p.held (λ i. excepts s.types call rows i) p AD refl
    by_function (Some f) = by_ssas (resolve s f call.ssas) refl (resolve_named s f call.ssas)
      where
        own : (f : Function) (as_ : List Ssa) → holds_enough rows p.held f as_ ≡ true → ((i : ℕ) → excepts s.types call rows i ≡ is_excepted as_ (row_at rows i).code)
            → IsFair (Some f) s.types rows p.held (λ i. excepts s.types call rows i) (own_step s rows p call.area f as_)
        own (Get kind hold) as_ some kept = get_fair s rows p kind hold as_ p.held (λ i. excepts s.types call rows i)
        own Insert as_ some kept = insert_step_fair s rows p p.held (λ i. excepts s.types call rows i) as_ call.area
        own Replace as_ some kept = replace_step_fair s rows p as_ call.area (λ i. excepts s.types call rows i) some kept
        own Delete as_ some kept = delete_step_fair s rows p as_ (λ i. excepts s.types call rows i)

        refused : (status : Status) → is_blank status ≡ false → IsFair (Some f) s.types rows p.held (λ i. excepts s.types call rows i) (bare_answer p status)
        refused status other = refused_fair (Some f) s.types rows p.held (λ i. excepts s.types call rows i) p status other

        by_ssas : (r : Result (List Ssa) Status) → resolve s f call.ssas ≡ r → IsNamed r
            → IsFair (Some f) s.types rows p.held (λ i. excepts s.types call rows i) (after_tests s rows p call.area (result_and_then r (λ ssas. last_tests s rows p f ssas)))
        by_ssas (Err status) is named = refused status named
        by_ssas (Ok as_) is named =
            by_tests (is_allowed s rows p.held f as_) (names_enough f as_) (holds_enough rows p.held f as_) refl (looks_below_parent s.types rows p.parent f as_)
          where
            by_tests : (a b c : Bool) → holds_enough rows p.held f as_ ≡ c → (d : Bool)
                → IsFair (Some f) s.types rows p.held (λ i. excepts s.types call rows i)
                (after_tests s rows p call.area (cond (not a) (Err AM) (cond (not b) (Err AH) (cond (not c) (Err DJ) (cond (not d) (Err GP) (Ok (record { function = f; ssas = as_ })))))))
            by_tests false b c c_is d = refused AM refl
            by_tests true false c c_is d = refused AH refl
            by_tests true true false c_is d = refused DJ refl
            by_tests true true true c_is false = refused GP refl
            by_tests true true true c_is true = own f as_ c_is (λ i. excepts_kept s f call as_ rows i is)

-- What the arguments of an ISRT insert: nothing where there is none, one row where the PCB loads.
use Rattle.std.proofs.Common.{◌≡◌, ℕ, ◌<◌, ◌≤◌, List, [], ◌∷◌, length, drop, Bool, true, false, cond, Ok, Option, Some, None, refl, sym, ap, subst, ◌∙◌, arith, inl, inr, Err}
use Rattle.std.specs.Prelude.{Result, is_some, map, nat_le, not, ◌||◌, ◌==◌, slice_index_or, option_and_then}
use Rattle.std.specs.Option.{ok_or}
use Rattle.std.proofs.lemmas.Bool.{and_parts, cases_lt, eq-eqb, eqb-true, leb-true, false≢true}
use Rattle.hd_dbd.specs.Types.{SegmentType, View}
use Rattle.hd_dbd.specs.Hierarchy.{Database, type_of}
use Rattle.hd_dbd.specs.Views.{Setting}
use Rattle.hd_dbd.specs.declared.answer.Status.{Status}
use Rattle.hd_dbd.specs.declared.answer.Status.TheVariants.{AC, AJ}
use Rattle.hd_calls.specs.declared.call.Function.TheVariants.{Insert}
use Rattle.hd_calls.specs.Access.{loads}
use Rattle.hd_calls.specs.Functions.{result_and_then}
use Rattle.hd_calls.specs.Ssas.{Head, Ssa, read_heads, heads_of, heads_suit, unqualified, first_inserted_head, codes_of, first_inserted, read_ssa, read_ssas}
use Rattle.hd_calls.specs.Steps.{State, wrong_area, position_at, inserted_codes, insert_or_load, new_rows, with_parts}
use Rattle.hd_calls.proofs.FairCalls.{and_then_ok, or_ok}
use Rattle.hd_calls.proofs.SoundInserts.{ChainCodes, above_code}
use Rattle.hd_update.specs.Inserting.{insert_effect}
use Rattle.hd_update.specs.Loading.{InsertsOne}
use Rattle.hd_update.proofs.InsertArguments.{inserted_chain}
use Rattle.hd_session.specs.Inserts.{AreArgumentsOf}
use Rattle.hd_calls.specs.declared.call.AreaFault.TheVariants.{Bytes}

-- ---- no argument

pub is_none : (n : ℕ) (b : Bool) → b ≡ (n == 0) → b ≡ true → n ≡ 0
is_none n b is none = eqb-true n 0 (sym is ∙ none)

pub is_some_number : (n : ℕ) (b : Bool) → b ≡ (n == 0) → b ≡ false → 0 < n
is_some_number n b is some = elim (cases_lt 0 n) [
  | inl more ↦ more
  | inr none ↦ absurd (false≢true (sym some ∙ is ∙ eq-eqb n 0 (omega arith)))
]

-- without an argument no area is right
pub none_inserted : (d : Database) (pcb : View) (number : ℕ) (ssas : List Ssa) (area : List ℕ) (st : State) → length ssas ≡ 0 → insert_effect d pcb number ssas area st ≡ wrong_area
none_inserted d pcb number [] area st none = by (length area == 0)
  where
    by : (b : Bool) → with_parts (position_at st number) (cond b (Ok []) (Err Bytes)) (λ parts. insert_or_load (record { types = d.types; pcb = pcb }) st.rows (position_at st number) [] (new_rows [] parts)) ≡ wrong_area
    by true = refl
    by false = refl
none_inserted d pcb number (a ∷ ssas) area st none = absurd (omega arith)

-- ---- one argument

abbrev oks : List Ssa → Result (List Ssa) Status
oks xs = Ok xs

tails : (x y : Ssa) (xs ys : List Ssa) → oks (x ∷ xs) ≡ oks (y ∷ ys) → oks xs ≡ oks ys
tails x y xs ys same = cc

-- there are no more arguments than heads
read_few : (s : Setting) (cs : List ℕ) (hs : List Head) (ssas : List Ssa) → read_ssas s cs hs ≡ Ok ssas → length ssas ≤ length hs
read_few s [] hs [] is = omega arith
read_few s [] hs (a ∷ ssas) is = cc
read_few s (c ∷ cs) [] [] is = omega arith
read_few s (c ∷ cs) [] (a ∷ ssas) is = cc
read_few s (c ∷ cs) (h ∷ hs) [] is = omega arith
read_few s (c ∷ cs) (h ∷ hs) (a ∷ ssas) is =
    let one = and_then_ok (read_ssa s c h) (λ x. result_and_then (read_ssas s cs hs) (λ rest. Ok (x ∷ rest))) (a ∷ ssas) is in
    let two = and_then_ok (read_ssas s cs hs) (λ rest. Ok (one.0 ∷ rest)) (a ∷ ssas) one.2 in
    let same : read_ssas s cs hs ≡ Ok ssas = two.1 ∙ tails one.0 a two.0 ssas two.2 in
    let few : length ssas ≤ length hs = read_few s cs hs ssas same in
    omega arith

-- a load has one head at most
one_head : (s : Setting) (texts : List (List ℕ)) (hs : List Head) → heads_of s Insert texts ≡ Some hs → loads s.pcb ≡ true → length hs ≤ 1
one_head s texts hs is loader = by (read_heads texts) is
  where
    few : (b : Bool) → b ≡ true → (not b || nat_le (length hs) 1) ≡ true → length hs ≤ 1
    few true is enough = leb-true (length hs) 1 enough
    few false is enough = absurd (false≢true is)

    by_suit : (xs : List Head) (b : Bool) → heads_suit s Insert xs ≡ b → cond b (Some xs) None ≡ Some hs → heads_suit s Insert hs ≡ true
    by_suit xs true suit e = (let same : xs ≡ hs = cc in ap (λ (ys : List Head). heads_suit s Insert ys) (sym same) ∙ suit)
    by_suit xs false suit e = cc

    by : (o : Option (List Head)) → option_and_then (λ xs. cond (heads_suit s Insert xs) (Some xs) None) o ≡ Some hs → length hs ≤ 1
    by None e = cc
    by (Some xs) e =
        let suit : heads_suit s Insert hs ≡ true = by_suit xs (heads_suit s Insert xs) refl e in
        few (loads s.pcb) loader (and_parts (unqualified (drop (first_inserted_head hs) hs)) (not (loads s.pcb) || nat_le (length hs) 1) suit).1

-- so it has one argument at most
one_argument : (d : Database) (pcb : View) (ssas : List Ssa) → AreArgumentsOf d pcb ssas → loads pcb ≡ true → length ssas ≤ 1
one_argument d pcb ssas A loader =
    let s : Setting = record { types = d.types; pcb = pcb } in
    let one = and_then_ok (ok_or (heads_of s Insert A.0) AJ) _ ssas A.1 in
    let two = and_then_ok (ok_or (codes_of s Insert one.0) AC) _ ssas one.2 in
    let head : length one.0 ≤ 1 = one_head s A.0 one.0 (or_ok AJ (heads_of s Insert A.0) one.0 one.1) loader in
    let fewer : length ssas ≤ length one.0 = read_few s two.0 one.0 ssas two.2 in
    omega arith

-- and inserts one row of its type
pub inserts_one : (d : Database) (pcb : View) (ssas : List Ssa) (a : Ssa) (code : ℕ) → AreArgumentsOf d pcb ssas → loads pcb ≡ true → 0 < length ssas → a ≡ slice_index_or ssas 0 a → code ≡ a.code
    → InsertsOne pcb ssas code
inserts_one d pcb ssas a code A loader some is code_is = (loader, by ssas some (one_argument d pcb ssas A loader) is)
  where
    by_path : (x : Ssa) (b : Bool) → map (λ (y : Ssa). y.code) (drop (cond b 0 0) (x ∷ [])) ≡ x.code ∷ []
    by_path x true = refl
    by_path x false = refl

    by : (xs : List Ssa) → 0 < length xs → length xs ≤ 1 → a ≡ slice_index_or xs 0 a → inserted_codes xs ≡ code ∷ []
    by [] some few is = absurd (omega arith)
    by (x ∷ []) some few is = by_path x x.commands.path ∙ ap (λ (n : ℕ). n ∷ []) (ap (λ (y : Ssa). y.code) (sym is) ∙ sym code_is)
    by (x ∷ (y ∷ xs)) some few is = absurd (omega arith)

-- of a type that stands
pub inserts_typed : (d : Database) (pcb : View) (ssas : List Ssa) (code : ℕ) → AreArgumentsOf d pcb ssas → InsertsOne pcb ssas code → is_some (type_of d.types code) ≡ true
inserts_typed d pcb ssas code A I =
    let chain : ChainCodes d.types (above_code (first_inserted ssas) ssas) (code ∷ [])
    = subst (λ (codes : List ℕ). ChainCodes d.types (above_code (first_inserted ssas) ssas) codes) I.1 (inserted_chain d.types ssas (pcb, A.0, A.1)) in
    ap (λ (o : Option SegmentType). is_some o) chain.1.1

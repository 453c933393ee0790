-- What the arguments of an ISRT keep to.
use Rattle.std.proofs.Common.{◌≡◌, ℕ, zero, suc, ◌+◌, ◌-◌, ◌<◌, ◌≤◌, List, [], ◌∷◌, length, map, take, drop, Bool, true, false, cond, Ok, Option, Some, None, IsTrue, refl, sym, ap, subst, ◌∙◌, arith}
use Rattle.std.specs.Prelude.{Result, is_some, nat_le, slice_get, slice_index, slice_index_or, option_and_then}
use Rattle.std.specs.Option.{ok_or}
use Rattle.std.proofs.lemmas.Bool.{leb-true}
use Rattle.std.proofs.lemmas.List.{length-map, length-drop, take_all}
use Rattle.std.proofs.lemmas.Option.{same_Some}
use Rattle.hd_dbd.specs.declared.hierarchy.FreeSpace.{FreeSpace}
use Rattle.hd_dbd.specs.declared.answer.Status.{Status}
use Rattle.hd_dbd.specs.declared.answer.Status.TheVariants.{AC, AJ}
use Rattle.hd_dbd.specs.Types.{SegmentType}
use Rattle.hd_dbd.specs.Hierarchy.{type_of}
use Rattle.hd_dbd.specs.DatabaseRules.{well_formed}
use Rattle.hd_dbd.specs.Views.{Setting}
use Rattle.hd_dbd.proofs.Levels.{type_within}
use Rattle.hd_calls.specs.declared.call.Commands.{Commands}
use Rattle.hd_calls.specs.declared.call.Function.TheVariants.{Insert}
use Rattle.hd_calls.specs.Functions.{result_and_then}
use Rattle.hd_calls.specs.Ssas.{Head, Ssa, heads_of, codes_of, codes_below, types_suit, read_ssa, read_ssas, first_inserted, first_inserted_from, first_inserted_of, first_inserted_head, steps_down}
use Rattle.hd_calls.specs.Steps.{inserted_codes}
use Rattle.hd_calls.proofs.FairCalls.{and_then_ok, or_ok}
use Rattle.hd_calls.proofs.Resolving.{IsResolvedCall, resolved_call}
use Rattle.hd_calls.proofs.SoundInserts.{ChainCodes, above_code, chain_drop, resolved_typed, same_commands}
use Rattle.hd_links.proofs.Types.{above_some}
use Rattle.hd_calls.specs.Admits.{Descend}
use Rattle.hd_calls.proofs.Admitting.{resolved_descend}
use Rattle.hd_update.specs.Inserting.{AreInsertArguments, StepDown, IsTargetAbove}
use Rattle.hd_update.proofs.ParentsAsked.{child_of}

-- ---- the place of the first that is inserted

first_from : (cs : List Commands) (place : ℕ) → 0 < place + length cs → first_inserted_from place cs < place + length cs
first_from [] place some = omega arith
first_from (c ∷ cs) place some = by c.path (first_from cs (place + 1) (omega arith))
  where
    by : (b : Bool) → first_inserted_from (place + 1) cs < place + 1 + length cs → cond b place (first_inserted_from (place + 1) cs) < place + length (c ∷ cs)
    by true less = omega arith
    by false less = omega arith

-- where there are arguments, one of them is the first inserted
pub first_there : (ssas : List Ssa) → 0 < length ssas → first_inserted ssas < length ssas
first_there ssas some =
    let many : length (map (λ (a : Ssa). a.commands) ssas) ≡ length ssas = length-map ssas (λ (a : Ssa). a.commands) in
    let less : first_inserted_from 0 (map (λ (a : Ssa). a.commands) ssas) < 0 + length (map (λ (a : Ssa). a.commands) ssas)
    = first_from (map (λ (a : Ssa). a.commands) ssas) 0 (omega arith) in
    omega arith

-- the argument at a place
got_at : (n : ℕ) (ssas : List Ssa) (a b : Ssa) → n < length ssas → a ≡ slice_index_or ssas n b → slice_get ssas n ≡ Some a
got_at n [] a b within is = absurd (omega arith)
got_at zero (x ∷ xs) a b within is = ap (λ (y : Ssa). Some y) (sym is)
got_at (suc n) (x ∷ xs) a b within is = got_at n xs a b (omega arith) is

codes_from : (n : ℕ) (ssas : List Ssa) (a b : Ssa) → n < length ssas → a ≡ slice_index_or ssas n b
    → map (λ (x : Ssa). x.code) (drop n ssas) ≡ a.code ∷ drop 1 (map (λ (x : Ssa). x.code) (drop n ssas))
codes_from n [] a b within is = absurd (omega arith)
codes_from zero (x ∷ xs) a b within is = ap (λ (y : Ssa). y.code ∷ map (λ (z : Ssa). z.code) xs) (sym is)
codes_from (suc n) (x ∷ xs) a b within is = codes_from n xs a b (omega arith) is

-- ---- their number

abbrev oks : List Ssa → Result (List Ssa) Status
oks xs = Ok xs

tails : (x y : Ssa) (xs ys : List Ssa) → oks (x ∷ xs) ≡ oks (y ∷ ys) → oks xs ≡ oks ys
tails x y xs ys same = cc

read_few : (s : Setting) (cs : List ℕ) (hs : List Head) (ssas : List Ssa) → read_ssas s cs hs ≡ Ok ssas → length ssas ≤ length hs
read_few s [] hs [] is = omega arith
read_few s [] hs (a ∷ ssas) is = cc
read_few s (c ∷ cs) [] [] is = omega arith
read_few s (c ∷ cs) [] (a ∷ ssas) is = cc
read_few s (c ∷ cs) (h ∷ hs) [] is = omega arith
read_few s (c ∷ cs) (h ∷ hs) (a ∷ ssas) is =
    let one = and_then_ok (read_ssa s c h) (λ x. result_and_then (read_ssas s cs hs) (λ rest. Ok (x ∷ rest))) (a ∷ ssas) is in
    let two = and_then_ok (read_ssas s cs hs) (λ rest. Ok (one.0 ∷ rest)) (a ∷ ssas) one.2 in
    let same : read_ssas s cs hs ≡ Ok ssas = two.1 ∙ tails one.0 a two.0 ssas two.2 in
    let few : length ssas ≤ length hs = read_few s cs hs ssas same in
    omega arith

-- there are at most fifteen
pub few_arguments : (types : List SegmentType) (ssas : List Ssa) → AreInsertArguments types ssas → length ssas ≤ 15
few_arguments types ssas A =
    let s : Setting = record { types = types; pcb = A.0 } in
    let one = and_then_ok (ok_or (heads_of s Insert A.1) AJ) _ ssas A.2 in
    let two = and_then_ok (ok_or (codes_of s Insert one.0) AC) _ ssas one.2 in
    let few : length one.0 ≤ 15 = by s one.0 two.0 (nat_le (length one.0) 15) refl (or_ok AC (codes_of s Insert one.0) two.0 two.1) in
    let fewer : length ssas ≤ length one.0 = read_few s two.0 one.0 ssas two.2 in
    omega arith
  where
    by : (s : Setting) (hs : List Head) (cs : List ℕ) (b : Bool) → nat_le (length hs) 15 ≡ b
        → cond b (option_and_then (λ cs. cond (types_suit s Insert hs cs) (Some cs) None) (codes_below s None hs)) None ≡ Some cs → length hs ≤ 15
    by s hs cs true less is = leb-true (length hs) 15 less
    by s hs cs false less is = cc

-- ---- their types

-- the types of arguments descend, and so do those of the first of them
descend_front : (types : List SegmentType) (above : Option ℕ) (n : ℕ) (ssas : List Ssa) → Descend types above ssas → Descend types above (take n ssas)
descend_front types above zero ssas is = tt
descend_front types above (suc n) [] is = tt
descend_front types above (suc n) (a ∷ ssas) is = (is.0, descend_front types (Some a.code) n ssas is.1)

pub front_descends : (types : List SegmentType) (ssas : List Ssa) (n : ℕ) → AreInsertArguments types ssas → Descend types None (take n ssas)
front_descends types ssas n A = descend_front types None n ssas (resolved_descend (record { types = types; pcb = A.0 }) Insert A.1 ssas A.2)

-- each inserted type stands, and is a child of the one before it
pub inserted_chain : (types : List SegmentType) (ssas : List Ssa) → AreInsertArguments types ssas → ChainCodes types (above_code (first_inserted ssas) ssas) (inserted_codes ssas)
inserted_chain types ssas A =
    let call : IsResolvedCall (record { types = types; pcb = A.0 }) Insert ssas = resolved_call (record { types = types; pcb = A.0 }) Insert A.1 ssas A.2 in
    let same : first_inserted_head call.heads ≡ first_inserted ssas = ap (λ (cs : List Commands). first_inserted_of cs) (same_commands types None call.heads ssas call.resolved) in
    chain_drop types (first_inserted ssas) ssas (resolved_typed types None call.heads ssas call.resolved)
    (ap (λ (n : ℕ). steps_down types None (drop (n - 1) (map (λ a. a.code) ssas))) (sym same) ∙ call.suit)

module _ (block_size : ℕ) (frspc : FreeSpace) (types : List SegmentType) (formed : IsTrue (well_formed block_size frspc types)) where
  chain_steps : (code : ℕ) (codes : List ℕ) → 0 < code → ChainCodes types (Some code) codes → StepDown types code codes
  chain_steps code [] some chain = tt
  chain_steps code (c ∷ cs) some chain = (
    child_of block_size frspc types formed code c (ap (λ (o : Option SegmentType). is_some o) chain.1.1) (chain.0 ∙ sym (above_some code some)),
    chain_steps c cs (type_within types c chain.1.0 chain.1.1).0 chain.2,
  )

  -- each type below the first is a child type of the one before it
  pub steps_below : (above : Option ℕ) (code : ℕ) (codes : List ℕ) → ChainCodes types above (code ∷ codes) → StepDown types code codes
  steps_below above code codes chain = chain_steps code codes (type_within types code chain.1.0 chain.1.1).0 chain.2

-- the last of the arguments above names the parent's type of the first inserted one
pub target_above : (types : List SegmentType) (n : ℕ) (ssas : List Ssa) (code : ℕ) (codes : List ℕ) → ChainCodes types (above_code n ssas) (code ∷ codes) → IsTargetAbove types (take n ssas) code
target_above types zero ssas code codes chain some = absurd (omega arith)
target_above types (suc n) ssas code codes chain some = chain.0

-- ---- those that are inserted

module _ (types : List SegmentType) (ssas : List Ssa) (A : AreInsertArguments types ssas) (some : 0 < length ssas) (n : ℕ) (n_is : n ≡ first_inserted ssas) where
  -- those behind the place, as they are cut
  abbrev pub left : List Ssa
  left = take (length ssas - n) (drop n ssas)

  pub within : n < length ssas
  within = (let less : first_inserted ssas < length ssas = first_there ssas some in omega (arith, n_is))

  all_left : left ≡ drop n ssas
  all_left = take_all (length ssas - n) (drop n ssas) (omega (arith, length-drop n ssas))

  many_left : length left ≡ length ssas - n
  many_left = ap (λ (xs : List Ssa). length xs) all_left ∙ length-drop n ssas

  pub some_left : 0 < length left
  some_left = omega (arith, many_left, within)

  pub few_left : length left ≤ 15
  few_left = omega (arith, many_left, few_arguments types ssas A)

  pub codes_left : map (λ (a : Ssa). a.code) left ≡ inserted_codes ssas
  codes_left = ap (λ (xs : List Ssa). map (λ (a : Ssa). a.code) xs) all_left ∙ ap (λ (m : ℕ). map (λ (a : Ssa). a.code) (drop m ssas)) n_is

  pub there : (a b : Ssa) → a ≡ slice_index_or ssas n b → slice_get ssas (first_inserted ssas) ≡ Some a
  there a b is = ap (λ (m : ℕ). slice_get ssas m) (sym n_is) ∙ got_at n ssas a b within is

  -- what is read twice at the place is the same argument
  pub one_code : (a b : Ssa) → a ≡ slice_index_or ssas n b → (x y : Ssa) → x ≡ slice_index_or ssas n y → a.code ≡ x.code
  one_code a b is x y also = ap (λ (z : Ssa). z.code) (same_Some a x (sym (there a b is) ∙ there x y also))

  module _ (a b : Ssa) (is : a ≡ slice_index_or ssas n b) (code : ℕ) (code_is : code ≡ a.code) where
    -- the codes that are left begin with that of the first
    pub begins : inserted_codes ssas ≡ code ∷ drop 1 (inserted_codes ssas)
    begins =
        subst (λ (m : ℕ). map (λ (x : Ssa). x.code) (drop m ssas) ≡ code ∷ drop 1 (map (λ (x : Ssa). x.code) (drop m ssas))) n_is
        (codes_from n ssas a b within is ∙ ap (λ (c : ℕ). c ∷ drop 1 (map (λ (x : Ssa). x.code) (drop n ssas))) (sym code_is))

    chain : ChainCodes types (above_code (first_inserted ssas) ssas) (code ∷ drop 1 (inserted_codes ssas))
    chain = subst (λ (cs : List ℕ). ChainCodes types (above_code (first_inserted ssas) ssas) cs) begins (inserted_chain types ssas A)

    pub code_typed : is_some (type_of types code) ≡ true
    code_typed = ap (λ (o : Option SegmentType). is_some o) chain.1.1

    pub target : IsTargetAbove types (take n ssas) code
    target = subst (λ (m : ℕ). IsTargetAbove types (take m ssas) code) (sym n_is) (target_above types (first_inserted ssas) ssas code (drop 1 (inserted_codes ssas)) chain)

    pub first_is : slice_index (map (λ (x : Ssa). x.code) left) 0 ≡ code
    first_is = ap (λ (cs : List ℕ). slice_index cs 0) (codes_left ∙ begins)

    pub steps_left : (block_size : ℕ) (frspc : FreeSpace) → IsTrue (well_formed block_size frspc types)
        → StepDown types (slice_index (map (λ (x : Ssa). x.code) left) 0) (drop 1 (map (λ (x : Ssa). x.code) left))
    steps_left block_size frspc formed =
        subst (λ (c : ℕ). StepDown types c (drop 1 (map (λ (x : Ssa). x.code) left))) (sym first_is)
        (subst (λ (cs : List ℕ). StepDown types code (drop 1 cs)) (sym codes_left)
        (steps_below block_size frspc types formed (above_code (first_inserted ssas) ssas) code (drop 1 (inserted_codes ssas)) chain))

-- The last tests of a call, by what each comes to.
use Rattle.std.proofs.Common.{◌≡◌, ◌≢◌, ℕ, List, [], Bool, true, false, Option, Some, None, refl, ap, ◌∙◌}
use Rattle.std.specs.Prelude.{not, ◌||◌, cond, is_some, Result, Ok, Err}
use Rattle.hd_dbd.specs.declared.answer.Status.{Status}
use Rattle.hd_dbd.specs.declared.answer.Status.TheVariants.{GP, AM, AH, DJ, AD, AJ, AC}
use Rattle.hd_dbd.specs.Types.{SegmentType}
use Rattle.hd_dbd.specs.Segment.{Segment}
use Rattle.hd_dbd.specs.Positions.{Position}
use Rattle.hd_dbd.specs.Views.{Setting}
use Rattle.hd_dbd.specs.Calls.{CallText}
use Rattle.hd_calls.specs.declared.call.Function.{Function}
use Rattle.hd_calls.specs.declared.call.Function.TheVariants.{Get, Insert, Replace, Delete}
use Rattle.hd_calls.specs.declared.call.GetKind.{GetKind}
use Rattle.hd_calls.specs.declared.call.GetKind.TheVariants.{Unique, Next, NextInParent}
use Rattle.std.specs.Option.{ok_or}
use Rattle.hd_calls.specs.Access.{loads}
use Rattle.hd_calls.specs.Functions.{function_of, result_and_then}
use Rattle.hd_calls.specs.Ssas.{Ssa, Head, codes_of, read_ssas, resolve}
use Rattle.hd_calls.specs.Steps.{AcceptedCall, is_allowed, names_enough, holds_enough, looks_below_parent, has_parent, last_tests, accepted_call}
use Rattle.hd_session.specs.Tests.{tested, AreLastTests}

module _ (s : Setting) (rows : List Segment) (p : Position) (f : Function) (ssas : List Ssa) where
  -- what the tests come to, by the answers of the four
  abbrev pub in_order : Bool → Bool → Bool → Bool → Result AcceptedCall Status
  in_order a n h l =
      cond (not a) (Err AM) (cond (not n) (Err AH) (cond (not h) (Err DJ) (cond (not l) (Err GP) (Ok (record { function = f; ssas = ssas })))))

  -- PROCOPT does not allow the call
  pub not_allowed : is_allowed s rows p.held f ssas ≡ false → last_tests s rows p f ssas ≡ Err AM
  not_allowed e = ap (λ a. in_order a (names_enough f ssas) (holds_enough rows p.held f ssas) (looks_below_parent s.types rows p.parent f ssas)) e

  -- it does; the other three come to this
  pub allowed : (n h l : Bool) → is_allowed s rows p.held f ssas ≡ true → names_enough f ssas ≡ n → holds_enough rows p.held f ssas ≡ h
      → looks_below_parent s.types rows p.parent f ssas ≡ l → last_tests s rows p f ssas ≡ in_order true n h l
  allowed n h l ea en eh el =
      ap (λ a. in_order a (names_enough f ssas) (holds_enough rows p.held f ssas) (looks_below_parent s.types rows p.parent f ssas)) ea
      ∙ ap (λ b. in_order true b (holds_enough rows p.held f ssas) (looks_below_parent s.types rows p.parent f ssas)) en
      ∙ ap (λ b. in_order true n b (looks_below_parent s.types rows p.parent f ssas)) eh
      ∙ ap (λ b. in_order true n h b) el

-- a get that is not in the parent looks at none
pub looks_anywhere : (types : List SegmentType) (rows : List Segment) (parent : Option ℕ) (kind : GetKind) (hold : Bool) (ssas : List Ssa) → kind ≢ NextInParent
    → looks_below_parent types rows parent (Get kind hold) ssas ≡ true
looks_anywhere types rows parent Unique hold ssas other = refl
looks_anywhere types rows parent Next hold ssas other = refl
looks_anywhere types rows parent NextInParent hold ssas other = absurd (other refl)

-- without arguments any parent is one to look below
pub any_parent : (types : List SegmentType) (rows : List Segment) (parent : Option ℕ) → has_parent types rows parent [] ≡ is_some parent
any_parent types rows None = refl
any_parent types rows (Some p) = refl

-- arguments that mean nothing answer at once
pub refused_ssas : (s : Setting) (rows : List Segment) (p : Position) (text area : List ℕ) (words : List (List ℕ)) (f : Function) (status : Status) → function_of text ≡ Some f
    → resolve s f words ≡ Err status → accepted_call s rows p (record { function = text; ssas = words; area = area }) ≡ Err status
refused_ssas s rows p text area words f status ef er =
    ap (λ (o : Option Function). result_and_then (ok_or o AD) (λ g. result_and_then (resolve s g words) (λ ssas. last_tests s rows p g ssas))) ef
    ∙ ap (λ (r : Result (List Ssa) Status). result_and_then r (λ ssas. last_tests s rows p f ssas)) er

-- behind them the last tests answer
pub tested_last : (s : Setting) (rows : List Segment) (p : Position) (text area : List ℕ) (words : List (List ℕ)) (f : Function) (ssas : List Ssa) → function_of text ≡ Some f
    → resolve s f words ≡ Ok ssas → accepted_call s rows p (record { function = text; ssas = words; area = area }) ≡ last_tests s rows p f ssas
tested_last s rows p text area words f ssas ef er =
    ap (λ (o : Option Function). result_and_then (ok_or o AD) (λ g. result_and_then (resolve s g words) (λ as_. last_tests s rows p g as_))) ef
    ∙ ap (λ (r : Result (List Ssa) Status). result_and_then r (λ as_. last_tests s rows p f as_)) er

-- so does a call of this function, whose arguments mean this
pub tested_call : (s : Setting) (rows : List Segment) (p : Position) (call : CallText) (f : Function) (ssas : List Ssa) (o failed : Option Status) → function_of call.function ≡ Some f
    → resolve s f call.ssas ≡ Ok ssas → AreLastTests s rows p f ssas o → o ≡ failed → accepted_call s rows p call ≡ tested f ssas failed
tested_call s rows p call f ssas o failed ef er tests is = tested_last s rows p call.function call.area call.ssas f ssas ef er ∙ tests ∙ ap (tested f ssas) is

-- a call of no function answers AD
pub nameless : (s : Setting) (rows : List Segment) (p : Position) (call : CallText) → function_of call.function ≡ None → accepted_call s rows p call ≡ Err AD
nameless s rows p call ef = ap (λ (o : Option Function). result_and_then (ok_or o AD) (λ g. result_and_then (resolve s g call.ssas) (λ ssas. last_tests s rows p g ssas))) ef

-- a load may be of no row
either : (b : Bool) → (not b || true) ≡ true
either true = refl
either false = refl

-- no arguments mean none
pub none_mean : (s : Setting) (f : Function) → resolve s f [] ≡ Ok []
none_mean s (Get kind hold) = refl
none_mean s Insert =
    ap (λ (b : Bool). result_and_then (ok_or (let o : Option (List Head) = cond b (Some []) None in o) AJ) (λ hs. result_and_then (ok_or (codes_of s Insert hs) AC) (λ cs. read_ssas s cs hs))) (either (loads s.pcb))
none_mean s Replace = refl
none_mean s Delete = refl

-- What ISRT comes to: rows that went in, or a status alone.
use Rattle.std.proofs.Common.{◌≡◌, ℕ, ◌<◌, List, [], ◌∷◌, length, take, Bool, true, false, cond, Option, Some, None, refl, sym, ap, ◌∙◌, subst, arith, Ok, Err}
use Rattle.std.specs.Prelude.{map, Result}
use Rattle.std.specs.Option.{option_map_or}
use Rattle.std.proofs.lemmas.Bool.{cond-false, false≢true}
use Rattle.hd_dbd.specs.declared.answer.Status.{Status}
use Rattle.hd_dbd.specs.declared.answer.Status.TheVariants.{GE, II, V1}
use Rattle.hd_dbd.specs.Hierarchy.{parent_of}
use Rattle.hd_dbd.specs.Segment.{Segment}
use Rattle.hd_dbd.specs.Positions.{Position}
use Rattle.hd_dbd.specs.Views.{Setting}
use Rattle.hd_dbd.specs.Calls.{Reply, bare}
use Rattle.hd_calls.specs.Access.{loads}
use Rattle.hd_calls.specs.Ssas.{Ssa, first_inserted}
use Rattle.hd_calls.specs.Moves.{Change}
use Rattle.hd_calls.specs.NoLostUpdate.{is_done}
use Rattle.hd_calls.specs.Places.{insert_parent, is_key_taken, insertion_point}
use Rattle.hd_calls.specs.Steps.{Effect, answered, wrong_area, bare_answer, divide, new_rows, inserted_codes, rule_asked, insert_at, insert_below, insert_rows, insert_or_load, load_step, insert_step, new_row, with_parts}
use Rattle.hd_calls.specs.declared.call.AreaFault.{AreaFault}
use Rattle.hd_calls.specs.declared.call.AreaFault.TheVariants.{Length, Bytes}

-- The effect of an insertion: some rows go in at a number.
pub record IsInsertion (s : Setting) (rows : List Segment) (p : Position) (effect : Effect) : Type 0 where
  pub new : List Segment
  pub number : ℕ
  pub some : 0 < length new
  pub is : effect ≡ insert_at s rows p new number

-- An effect that is answered with blanks is an insertion, else it is a status alone.
abbrev pub Inserts : Setting → List Segment → Position → Effect → Type 0
Inserts s rows p effect =
    (reply : Reply) (change : Change) (own : Position) → effect ≡ answered reply change own
    → (is_done reply.status ≡ true → IsInsertion s rows p effect) × (is_done reply.status ≡ false → reply ≡ bare reply.status)

module _ (s : Setting) (rows : List Segment) (p : Position) where
  by_area : Inserts s rows p wrong_area
  by_area reply change own is = cc

  same_reply : (r q : Reply) (c b : Change) (x y : Position) → answered r c x ≡ answered q b y → r ≡ q
  same_reply r q c b x y e = cc

  by_status : (status : Status) → is_done status ≡ false → Inserts s rows p (bare_answer p status)
  by_status status none reply change own is =
      let same : reply ≡ bare status = sym (same_reply (bare status) reply _ change _ own is) in
      let code : reply.status ≡ status = ap (λ (r : Reply). r.status) same in (
        λ done. absurd (false≢true (sym none ∙ ap is_done (sym code) ∙ done)),
        λ _. same ∙ ap bare (sym code),
      )

  by_insertion : (new : List Segment) (n : ℕ) → 0 < length new → Inserts s rows p (insert_at s rows p new n)
  by_insertion new n some reply change own is =
      let code : is_done reply.status ≡ true = ap (λ (r : Reply). is_done r.status) (sym (same_reply _ reply _ change _ own is)) in (
        λ _. record { new = new; number = n; some = some; is = refl },
        λ none. absurd (false≢true (sym none ∙ code)),
      )

  by_place : (ssas : List Ssa) (new : List Segment) (first : Segment) (parent : Option ℕ) → 0 < length new → Inserts s rows p (insert_below s rows p ssas new first parent)
  by_place ssas new first parent some = by (is_key_taken s.types rows parent first)
    where
      by : (b : Bool) → Inserts s rows p (cond b (bare_answer p II) (insert_at s rows p new (insertion_point s.types rows parent p.standing (rule_asked s.types ssas first.code) first)))
      by true = by_status II refl
      by false = by_insertion new (insertion_point s.types rows parent p.standing (rule_asked s.types ssas first.code) first) some

  by_parent : (ssas : List Ssa) (new : List Segment) (first : Segment) → 0 < length new → Inserts s rows p (insert_rows s rows p ssas new first)
  by_parent ssas new first some = by (parent_of s.types first.code)
    where
      found : (o : Option ℕ) → Inserts s rows p (option_map_or (λ q. insert_below s rows p ssas new first (Some q)) o (bare_answer p GE))
      found None = by_status GE refl
      found (Some q) = by_place ssas new first (Some q) some

      by : (o : Option ℕ) → Inserts s rows p (option_map_or (λ code. option_map_or (λ q. insert_below s rows p ssas new first (Some q))
          (insert_parent s.types rows p.standing (take (first_inserted ssas) ssas) code) (bare_answer p GE)) o (insert_below s rows p ssas new first None))
      by None = by_place ssas new first None some
      by (Some code) = found (insert_parent s.types rows p.standing (take (first_inserted ssas) ssas) code)

  by_rows : loads s.pcb ≡ false → (ssas : List Ssa) (new : List Segment) → Inserts s rows p (insert_or_load s rows p ssas new)
  by_rows no_load ssas [] = by_area
  by_rows no_load ssas (r ∷ rs) =
      subst (Inserts s rows p) (sym (cond-false (loads s.pcb) (load_step s rows p r) (insert_rows s rows p ssas (r ∷ rs) r) no_load)) (by_parent ssas (r ∷ rs) r (omega arith))

  pub insert_answers : loads s.pcb ≡ false → (ssas : List Ssa) (area : List ℕ) → Inserts s rows p (insert_step s rows p ssas area)
  insert_answers no_load ssas area = by (divide s.types (map (λ c. new_row c) (inserted_codes ssas)) area)
    where
      by : (r : Result (List (List ℕ)) AreaFault) → Inserts s rows p (with_parts p r (λ parts. insert_or_load s rows p ssas (new_rows (inserted_codes ssas) parts)))
      by (Err Length) = by_status V1 refl
      by (Err Bytes) = by_area
      by (Ok parts) = by_rows no_load ssas (new_rows (inserted_codes ssas) parts)

-- Rows that a search passes over with all that depends on them.
use Rattle.std.proofs.Common.{Bool, true, false, ◌≡◌, ℕ, ◌+◌, ◌-◌, ◌<◌, List, [], ◌∷◌, length, arith, ap, sym, ◌∙◌, refl, subst, inl, inr, Option, Some, None}
use Rattle.std.specs.Prelude.{◌==◌, ◌||◌, ◌&&◌, not, is_some}
use Rattle.std.specs.Option.{option_map_or}
use Rattle.std.specs.List.{list_all}
use Rattle.std.proofs.lemmas.Bool.{cases_Bool, eqb-true, false≢true}
use Rattle.std.proofs.lemmas.Option.{slice_get_within}
use Rattle.hd_dbd.specs.Types.{SegmentType}
use Rattle.hd_dbd.specs.Segment.{Segment}
use Rattle.hd_dbd.specs.Letters.{gives_get}
use Rattle.hd_dbd.specs.Searches.{first_from}
use Rattle.hd_dbd.specs.Paths.{row_at}
use Rattle.hd_dbd.proofs.LevelLaw.{typed}
use Rattle.hd_dbd.proofs.Levels.{type_within}
use Rattle.hd_dbd.specs.Views.{may}
use Rattle.hd_calls.specs.Ssas.{Ssa, target_code}
use Rattle.hd_calls.specs.Satisfies.{on_path, meets, meets_on_path, is_named}
use Rattle.hd_calls.proofs.Searches.{least_no}
use Rattle.hd_calls.specs.Admits.{meets_own, admits, is_on_way}
use Rattle.hd_calls.specs.SearchSpans.{SpansFail, OtherTypesFail, UnreadSpansFail, SpansAreByPath}
use Rattle.hd_calls.proofs.OnPaths.{IsOnPath, on_path_is, on_path_of, spans_way, spanned_within, sequence_is}

pub and_no : (b : Bool) → (b && false) ≡ false
and_no true = refl
and_no false = refl

-- a row that is not named where it is of the last SSA's type is not named
pub unnamed : (types : List SegmentType) (rows : List Segment) (ssas : List Ssa) (j : ℕ) → ((row_at rows j).code ≡ target_code ssas → ⊥) → is_named types rows ssas j ≡ false
unnamed types rows ssas j other = elim (cases_Bool ((row_at rows j).code == target_code ssas)) [
  | inl t ↦ absurd (other (eqb-true (row_at rows j).code (target_code ssas) t))
  | inr f ↦ ap (λ (b : Bool). b && list_all (λ a. meets_on_path types rows j a) ssas) f
]

pub unnamed_by : (types : List SegmentType) (rows : List Segment) (ssas : List Ssa) (j : ℕ) → ((row_at rows j).code ≡ target_code ssas → is_named types rows ssas j ≡ false)
    → is_named types rows ssas j ≡ false
unnamed_by types rows ssas j fails = elim (cases_Bool ((row_at rows j).code == target_code ssas)) [
  | inl t ↦ fails (eqb-true (row_at rows j).code (target_code ssas) t)
  | inr f ↦ ap (λ (b : Bool). b && list_all (λ a. meets_on_path types rows j a) ssas) f
]

own_fails : (types : List SegmentType) (rows : List Segment) (i j : ℕ) (on : on_path types rows (row_at rows i).code j ≡ Some i) (ssas : List Ssa)
    → admits types rows ssas i ≡ false → list_all (λ a. meets_on_path types rows j a) ssas ≡ false
own_fails types rows i j on [] e = cc
own_fails types rows i j on (a ∷ ssas) e = by_own (meets_own types rows i a) refl (λ rest. own_fails types rows i j on ssas rest)
  where
    by_own : (b : Bool) → meets_own types rows i a ≡ b → (admits types rows ssas i ≡ false → list_all (λ a. meets_on_path types rows j a) ssas ≡ false)
        → (meets_on_path types rows j a && list_all (λ a. meets_on_path types rows j a) ssas) ≡ false
    by_own true is more =
        ap (λ (b : Bool). meets_on_path types rows j a && b) (more (sym (ap (λ (b : Bool). b && admits types rows ssas i) is) ∙ e)) ∙ and_no (meets_on_path types rows j a)
    by_own false is more = elim (cases_Bool (a.code == (row_at rows i).code)) [
      | inl t ↦
          (let c : a.code ≡ (row_at rows i).code = eqb-true a.code (row_at rows i).code t in
          let m : meets types rows a i ≡ false = sym (ap (λ (b : Bool). not b || meets types rows a i) t) ∙ is in
          ap (λ (b : Bool). b && list_all (λ a. meets_on_path types rows j a) ssas)
          (ap (λ (o : Option ℕ). option_map_or (λ k. meets types rows a k) o false) (ap (λ x. on_path types rows x j) c ∙ on) ∙ m))
      | inr f ↦ absurd (false≢true (sym is ∙ ap (λ (b : Bool). not b || meets types rows a i) f))
    ]

pub spans_fail : SpansFail
spans_fail types rows ssas i within e j from to =
    let on : on_path types rows (row_at rows i).code j ≡ Some i = on_path_of types rows (row_at rows i).code j i (spanned_within types rows i j within to) (record { from = from; to = to }) refl in
    ap (λ (b : Bool). (row_at rows j).code == target_code ssas && b) (own_fails types rows i j on ssas e) ∙ and_no ((row_at rows j).code == target_code ssas)

pub other_types_fail : OtherTypesFail
other_types_fail types rows ssas i over within off j from to =
    unnamed types rows ssas j (λ e. absurd (false≢true (sym off
    ∙ subst (λ c. is_on_way types c (row_at rows i).code ≡ true) e
    (spans_way types rows over j i (spanned_within types rows i j within to) (record { from = from; to = to })))))

pub spans_by_path : SpansAreByPath
spans_by_path types rows q i before within = (
  λ inside. on_path_of types rows (row_at rows q).code i q within (record { from = before; to = inside }) refl,
  λ on. (let found : IsOnPath types rows (row_at rows q).code i q = on_path_is types rows (row_at rows q).code i q within on in found.spans.to),
)

-- ---- without SSAs

pub unread_spans_fail : UnreadSpansFail
unread_spans_fail s rows i over within none j from to =
    let jw : j < length rows = spanned_within s.types rows i j within to in
    let way : is_on_way s.types (row_at rows j).code (row_at rows i).code ≡ true = spans_way s.types rows over j i jw (record { from = from; to = to }) in
    let T = typed s.types (row_at rows j) ((sequence_is s.types rows over).fit j jw) in
    let W = type_within s.types (row_at rows j).code T.0 T.1 in
    let low : 0 < (row_at rows j).code = W.0 in
    let less : (row_at rows j).code - 1 < length s.types = slice_get_within s.types ((row_at rows j).code - 1) T.0 W.1 in
    let fails : (is_on_way s.types (row_at rows j).code (row_at rows i).code && may s gives_get (row_at rows j).code) ≡ false
    = least_no (λ c. is_on_way s.types c (row_at rows i).code && may s gives_get c) (length s.types + 1 - 1) 1
    (not_some (first_from (λ c. is_on_way s.types c (row_at rows i).code && may s gives_get c) 1 (length s.types + 1)) none) (row_at rows j).code (omega arith) (omega arith) in
    sym (ap (λ (b : Bool). b && may s gives_get (row_at rows j).code) way) ∙ fails
  where
    not_some : (o : Option ℕ) → is_some o ≡ false → o ≡ None
    not_some None e = refl
    not_some (Some x) e = cc

-- Why a search by segment search arguments passes over twins whose keys are below the least that is asked for.
use Rattle.std.proofs.Common.{◌≡◌, ℕ, ◌+◌, ◌-◌, ◌<◌, ◌≤◌, List, [], ◌∷◌, length, Bool, true, false, Option, Some, None, refl, sym, ap, ap₂, subst, ◌∙◌, arith, inl, inr}
use Rattle.std.specs.Prelude.{◌==◌, ◌&&◌, ◌||◌, not, cond, find, option_and_then}
use Rattle.std.specs.Option.{option_map_or}
use Rattle.std.specs.Ordering.{nat_cmp, is_lt}
use Rattle.std.specs.Cmp.Lexicographic.{slice_cmp}
use Rattle.std.proofs.lemmas.Bool.{cases_lt, cases_Bool, and_parts, or_cases, eq-eqb, eqb-true, ne_eqb, cond-true, cond-false, false≢true}
use Rattle.hd_dbd.specs.declared.hierarchy.Key.{Key}
use Rattle.hd_dbd.specs.Types.{SegmentType}
use Rattle.hd_dbd.specs.Segment.{Segment}
use Rattle.hd_dbd.specs.Hierarchy.{type_of, part_of}
use Rattle.hd_dbd.specs.Paths.{row_at, have_one_parent, is_twin}
use Rattle.hd_dbd.specs.Searches.{first_from}
use Rattle.hd_dbd.specs.Forest.{Forest}
use Rattle.hd_links.specs.Placed.{Placed}
use Rattle.hd_links.specs.Steps.{rows_of, address_at}
use Rattle.hd_forest.specs.Twins.{is_key_below}
use Rattle.hd_calls.specs.Ssas.{Ssa, target_code}
use Rattle.hd_calls.specs.Satisfies.{qualifies, is_last_so}
use Rattle.hd_calls.proofs.Searches.{least_some, least_no}
use Rattle.hd_calls.specs.Admits.{AreRowsOf, meets_own, admits, is_on_way}
use Rattle.hd_calls.proofs.Failing.{spans_fail}
use Rattle.hd_calls.proofs.SearchTwins.{twins_fail, earlier_twins_fail}
use Rattle.hd_ssa.specs.LeastKeys.{least_key}
use Rattle.hd_ssa.proofs.Bounds.{none_below}
use Rattle.hd_get.specs.declared.verdict.Verdict.TheVariants.{Across, AcrossTo, Rest}
use Rattle.hd_get.specs.Searches.{is_above_admitted, IsJudged}
use Rattle.hd_get.specs.Asking.{Asked, SsasSuit, is_asked, is_admitted, least_key_of, is_from, address_from, verdict_from, verdict_across}
use Rattle.hd_get.proofs.Judging.{judged_across_to}
use Rattle.hd_get.proofs.Asking.{none_asked, rested, judged_unmet}

and_no : (b : Bool) → (b && false) ≡ false
and_no true = refl
and_no false = refl

module _ (types : List SegmentType) (rows : List Segment) (k : ℕ) where
  -- a row that has not what an argument of its type asks is not admitted
  found_fails : (code : ℕ) (ssas : List Ssa) (a : Ssa) → find (λ a. a.code == code) ssas ≡ Some a → (row_at rows k).code ≡ code → qualifies a (row_at rows k) ≡ false
      → admits types rows ssas k ≡ false
  found_fails code [] a is own none = cc
  found_fails code (b ∷ ssas) a is own none = by_code (b.code == code) refl is (λ e. found_fails code ssas a e own none)
    where
      unmet : (c : Ssa) → c.code ≡ code → qualifies c (row_at rows k) ≡ false → meets_own types rows k c ≡ false
      unmet c same fails =
          ap₂ (λ x y. not x || (y && (not c.commands.last || c.code == 1 || is_last_so types rows c k))) (eq-eqb c.code (row_at rows k).code (same ∙ sym own)) fails

      by_code : (t : Bool) → (b.code == code) ≡ t → cond t (Some b) (find (λ a. a.code == code) ssas) ≡ Some a → (find (λ a. a.code == code) ssas ≡ Some a → admits types rows ssas k ≡ false)
          → (meets_own types rows k b && admits types rows ssas k) ≡ false
      by_code true e h more =
          (let same : b ≡ a = cc in
          ap (λ (t : Bool). t && admits types rows ssas k) (unmet b (eqb-true b.code code e) (ap (λ (x : Ssa). qualifies x (row_at rows k)) same ∙ none)))
      by_code false e h more = ap (λ (t : Bool). meets_own types rows k b && t) (more h) ∙ and_no (meets_own types rows k b)

  -- no row below the least key is admitted
  pub below_fails : (code : ℕ) (ssas : List Ssa) (key : List ℕ) → least_key_of types ssas code ≡ Some key → (row_at rows k).code ≡ code → is_key_below types key (row_at rows k) ≡ true
      → admits types rows ssas k ≡ false
  below_fails code ssas key least own below = by_type (type_of types code) refl least
    where
      by_ssa : (q : Key) (o : Option Ssa) → find (λ a. a.code == code) ssas ≡ o → option_and_then (λ a. least_key q a) o ≡ Some key
          → is_lt (slice_cmp nat_cmp (part_of (row_at rows k).bytes q.start q.length) key) ≡ true → admits types rows ssas k ≡ false
      by_ssa q None e h less = cc
      by_ssa q (Some a) e h less = found_fails code ssas a e own (none_below q a key h (row_at rows k) less)

      by_key : (t : SegmentType) (o : Option Key) → t.key ≡ o → option_and_then (λ q. option_and_then (λ a. least_key q a) (find (λ a. a.code == code) ssas)) o ≡ Some key
          → option_map_or (λ q. is_lt (slice_cmp nat_cmp (part_of (row_at rows k).bytes q.start q.length) key)) t.key false ≡ true → admits types rows ssas k ≡ false
      by_key t None e h less = cc
      by_key t (Some q) e h less =
          by_ssa q (find (λ a. a.code == code) ssas) refl h
          (sym (ap (λ (o : Option Key). option_map_or (λ q. is_lt (slice_cmp nat_cmp (part_of (row_at rows k).bytes q.start q.length) key)) o false) e) ∙ less)

      by_type : (o : Option SegmentType) → type_of types code ≡ o
          → option_and_then (λ t. option_and_then (λ q. option_and_then (λ a. least_key q a) (find (λ a. a.code == code) ssas)) t.key) o ≡ Some key → admits types rows ssas k ≡ false
      by_type None e h = cc
      by_type (Some t) e h =
          by_key t t.key refl h
          (sym (ap (λ (o : Option SegmentType). option_map_or (λ t. option_map_or (λ q. is_lt (slice_cmp nat_cmp (part_of (row_at rows k).bytes q.start q.length) key)) t.key false) o false)
          (ap (type_of types) own ∙ e)) ∙ below)

module _ (types : List SegmentType) (f : Forest Placed) (a : Asked) (over : AreRowsOf types (rows_of f)) (suits : SsasSuit types a.ssas) (i : ℕ) (within : i < length (rows_of f))
    (above : is_above_admitted (is_admitted a types (rows_of f)) types (rows_of f) i ≡ true) (way : is_on_way types (target_code a.ssas) (row_at (rows_of f) i).code ≡ true)
    (unmet : admits types (rows_of f) a.ssas i ≡ false) (some : (j : ℕ) → j < length (rows_of f) → 0 < address_at f j) where
  -- a twin before the first that is looked for is not admitted
  passed_fails : (key : List ℕ) → least_key_of types a.ssas (row_at (rows_of f) i).code ≡ Some key → (k : ℕ) → is_twin types (rows_of f) i k ≡ true → is_from types (rows_of f) key i k ≡ false
      → admits types (rows_of f) a.ssas k ≡ false
  passed_fails key least k twin none =
      let T = and_parts ((row_at (rows_of f) i).code == (row_at (rows_of f) k).code) (have_one_parent types (rows_of f) i k) twin in
      let code : (row_at (rows_of f) i).code ≡ (row_at (rows_of f) k).code = eqb-true _ _ T.0 in
      below_fails types (rows_of f) k (row_at (rows_of f) i).code a.ssas key least (sym code) (by (i == k) (is_twin types (rows_of f) i k) (is_key_below types key (row_at (rows_of f) k)) twin none)
    where
      by : (x y z : Bool) → y ≡ true → ((x || y) && not z) ≡ false → z ≡ true
      by x y true e h = refl
      by true y false e h = cc
      by false true false e h = cc
      by false false false e h = cc

  judged_to : (key : List ℕ) (o : Option ℕ) → least_key_of types a.ssas (row_at (rows_of f) i).code ≡ Some key
      → first_from (is_from types (rows_of f) key i) i (length (rows_of f)) ≡ o
      → IsJudged (is_asked a types (rows_of f)) (is_admitted a types (rows_of f)) types f i (verdict_from (address_at f i) (option_map_or (λ j. address_at f j) o 0))
  judged_to key None least e =
      rested types f a over suits i within above
      (twins_fail types (rows_of f) a.ssas i over within way unmet
      (λ k low high twin. passed_fails key least k twin (least_no (is_from types (rows_of f) key i) (length (rows_of f) - i) i e k (omega arith) (omega arith))))
  judged_to key (Some j) least e =
      let L = least_some (is_from types (rows_of f) key i) (length (rows_of f) - i) i j e in
      let low : i ≤ j = L.0 in
      let high : j < i + (length (rows_of f) - i) = L.1 in
      let jw : j < length (rows_of f) = omega arith in
      let there : 0 < address_at f j = some j jw in
      subst (IsJudged (is_asked a types (rows_of f)) (is_admitted a types (rows_of f)) types f i)
      (sym (cond-false (address_at f j == 0) Rest (cond (address_at f j == address_at f i) Across (AcrossTo (address_at f j))) (ne_eqb (address_at f j) 0 (λ (z : address_at f j ≡ 0). absurd (omega arith)))))
      (by_own j low jw (and_parts (i == j || is_twin types (rows_of f) i j) _ L.2).0 (λ k b c. L.3 k b c))
    where
      by_own : (j : ℕ) → i ≤ j → j < length (rows_of f) → (i == j || is_twin types (rows_of f) i j) ≡ true → ((k : ℕ) → i ≤ k → k < j → is_from types (rows_of f) key i k ≡ false)
          → IsJudged (is_asked a types (rows_of f)) (is_admitted a types (rows_of f)) types f i (cond (address_at f j == address_at f i) Across (AcrossTo (address_at f j)))
      by_own j low jw own none = elim (or_cases (i == j) (is_twin types (rows_of f) i j) own) [
        | inl here ↦ subst (IsJudged (is_asked a types (rows_of f)) (is_admitted a types (rows_of f)) types f i)
            (sym (cond-true (address_at f j == address_at f i) Across (AcrossTo (address_at f j)) (eq-eqb (address_at f j) (address_at f i) (ap (λ x. address_at f x) (sym (eqb-true i j here))))))
            (judged_unmet types f a over suits i within above way unmet)
        | inr twin ↦ elim (cases_Bool (address_at f j == address_at f i)) [
          | inl one ↦ subst (IsJudged (is_asked a types (rows_of f)) (is_admitted a types (rows_of f)) types f i)
              (sym (cond-true (address_at f j == address_at f i) Across (AcrossTo (address_at f j)) one)) (judged_unmet types f a over suits i within above way unmet)
          | inr other ↦
              (let later : i < j = elim (cases_lt i j) [
                | inl w ↦ w
                | inr w ↦ absurd (false≢true (sym other ∙ eq-eqb (address_at f j) (address_at f i) (ap (λ x. address_at f x) (let z : j ≡ i = omega arith in z))))
              ] in
              subst (IsJudged (is_asked a types (rows_of f)) (is_admitted a types (rows_of f)) types f i) (sym (cond-false (address_at f j == address_at f i) Across (AcrossTo (address_at f j)) other))
              (judged_across_to (is_asked a types (rows_of f)) (is_admitted a types (rows_of f)) types f i (address_at f j)
              (none_asked types f a over suits i _ (spans_fail types (rows_of f) a.ssas i within unmet)) (record {
                twin = j;
                later = later;
                within = jw;
                is = twin;
                address = refl;
                none = none_asked types f a over suits i j
                    (earlier_twins_fail types (rows_of f) a.ssas i j over within jw way twin unmet (λ k b c t. passed_fails key least k t (none k (omega arith) c)));
              })))
        ]
      ]

  -- across, and to no twin that cannot have what is asked
  pub judged_aside : IsJudged (is_asked a types (rows_of f)) (is_admitted a types (rows_of f)) types f i (verdict_across types f a.ssas i)
  judged_aside = by_least (least_key_of types a.ssas (row_at (rows_of f) i).code) refl
    where
      by_least : (o : Option (List ℕ)) → least_key_of types a.ssas (row_at (rows_of f) i).code ≡ o
          → IsJudged (is_asked a types (rows_of f)) (is_admitted a types (rows_of f)) types f i (option_map_or (λ key. verdict_from (address_at f i) (address_from types f key i)) o Across)
      by_least None e = judged_unmet types f a over suits i within above way unmet
      by_least (Some key) e = judged_to key (first_from (is_from types (rows_of f) key i) i (length (rows_of f))) e refl

-- Qualifications of one comparison.
use Rattle.std.proofs.Common.{◌≡◌, ℕ, zero, suc, List, [], ◌∷◌, length, drop, Bool, true, false, cond, Result, Ok, Err, None, ap, sym, ◌∙◌, refl, subst}
use Rattle.hd_dbd.specs.Types.{SegmentType}
use Rattle.hd_dbd.specs.declared.answer.Status.{Status}
use Rattle.hd_dbd.specs.declared.answer.Status.TheVariants.{AJ}
use Rattle.hd_calls.specs.Functions.{result_and_then}
use Rattle.hd_calls.specs.Ssas.{Comparison, ComparisonRead, read_comparison, read_groups, read_qualification, joined_to, begins_with, is_close, is_and, is_or}
use Rattle.std.proofs.lemmas.Option.{none-some, same_Some, option_and_then_some}
use Rattle.std.specs.Prelude.{Some}
use Rattle.std.specs.Result.{result_ok}
use Rattle.hd_ssa.specs.Texts.{groups_in, single_of, closed_of, closed_comparison}
use Rattle.hd_ssa.proofs.Groups.{and_of, or_of, read_behind, read_next, read_cut_fault, read_close}

-- the first group has a comparison
abbrev is_begun : List (List Comparison) → Bool
is_begun [] = false
is_begun ([] ∷ groups) = false
is_begun ((c ∷ cs) ∷ groups) = true

-- what a comparison with a connector makes of begun groups is begun, and more than one comparison
joined_more : (c : Comparison) (r : Result (List (List Comparison)) Status) (groups : List (List Comparison))
    → ((gs : List (List Comparison)) → r ≡ Ok gs → is_begun gs ≡ true) → result_and_then r (λ gs. Ok (joined_to c gs)) ≡ Ok groups
    → (is_begun groups ≡ true) × (single_of groups ≡ None)
joined_more c (Err e) groups begun is = cc
joined_more c (Ok gs) groups begun is =
    (let same : joined_to c gs ≡ groups = cc in
    subst (λ gs. (is_begun gs ≡ true) × (single_of gs ≡ None)) same (of gs (begun gs refl)))
  where
    of : (gs : List (List Comparison)) → is_begun gs ≡ true → (is_begun (joined_to c gs) ≡ true) × (single_of (joined_to c gs) ≡ None)
    of [] e = cc
    of ([] ∷ gs) e = cc
    of ((x ∷ xs) ∷ []) e = (refl, refl)
    of ((x ∷ xs) ∷ g ∷ gs) e = (refl, refl)

parted_more : (c : Comparison) (r : Result (List (List Comparison)) Status) (groups : List (List Comparison))
    → ((gs : List (List Comparison)) → r ≡ Ok gs → is_begun gs ≡ true) → result_and_then r (λ gs. Ok ((c ∷ []) ∷ gs)) ≡ Ok groups
    → (is_begun groups ≡ true) × (single_of groups ≡ None)
parted_more c (Err e) groups begun is = cc
parted_more c (Ok gs) groups begun is =
    (let same : (c ∷ []) ∷ gs ≡ groups = cc in
    subst (λ gs. (is_begun gs ≡ true) × (single_of gs ≡ None)) same (of gs (begun gs refl)))
  where
    of : (gs : List (List Comparison)) → is_begun gs ≡ true → (is_begun ((c ∷ []) ∷ gs) ≡ true) × (single_of ((c ∷ []) ∷ gs) ≡ None)
    of [] e = cc
    of (g ∷ gs) e = (refl, refl)

-- a comparison that a connector follows is not the only one
connected_more : (t : SegmentType) (m : ℕ) (d : ComparisonRead) (groups : List (List Comparison))
    → ((text : List ℕ) (gs : List (List Comparison)) → read_groups t m text ≡ Ok gs → is_begun gs ≡ true)
    → begins_with is_close d.behind ≡ false → read_behind t m d ≡ Ok groups → (is_begun groups ≡ true) × (single_of groups ≡ None)
connected_more t m d groups begun unclosed is = by (begins_with is_close d.behind) (begins_with is_and d.behind) (begins_with is_or d.behind) unclosed is
  where
    by : (k a o : Bool) → k ≡ false → cond k (Ok ((d.comparison ∷ []) ∷ [])) (cond a (and_of t m d) (cond o (or_of t m d) (Err AJ))) ≡ Ok groups
        → (is_begun groups ≡ true) × (single_of groups ≡ None)
    by true a o e h = cc
    by false true o e h = joined_more d.comparison (read_groups t m (drop 1 d.behind)) groups (begun (drop 1 d.behind)) h
    by false false true e h = parted_more d.comparison (read_groups t m (drop 1 d.behind)) groups (begun (drop 1 d.behind)) h
    by false false false e h = cc

-- groups that were read are begun
read_begun : (t : SegmentType) (n : ℕ) (text : List ℕ) (groups : List (List Comparison)) → read_groups t n text ≡ Ok groups → is_begun groups ≡ true
read_begun t zero text groups is = cc
read_begun t (suc m) text groups is = by_read (read_comparison t text) is (λ text gs h. read_begun t m text gs h)
  where
    by_read : (r : Result ComparisonRead Status) → result_and_then r (λ d. read_behind t m d) ≡ Ok groups
        → ((text : List ℕ) (gs : List (List Comparison)) → read_groups t m text ≡ Ok gs → is_begun gs ≡ true) → is_begun groups ≡ true
    by_read (Err e) h more = cc
    by_read (Ok d) h more = by_close (begins_with is_close d.behind) refl
      where
        by_close : (k : Bool) → begins_with is_close d.behind ≡ k → is_begun groups ≡ true
        by_close true e =
            (let same : (d.comparison ∷ []) ∷ [] ≡ groups = cc in subst (λ gs. is_begun gs ≡ true) same refl)
        by_close false e = (connected_more t m d groups more e h).0

-- a qualification whose first comparison is not closed has more than one
pub single_open : (t : SegmentType) (text : List ℕ) (c : ComparisonRead) → read_qualification t text ≡ Ok (groups_in t text) → read_comparison t text ≡ Ok c
    → begins_with is_close c.behind ≡ false → single_of (groups_in t text) ≡ None
single_open t text c whole cut unclosed = by_length (length text) refl
  where
    by_length : (n : ℕ) → length text ≡ n → single_of (groups_in t text) ≡ None
    by_length zero is = (let wrong : Err AJ ≡ Ok (groups_in t text) = sym (ap (λ n. read_groups t n text) is) ∙ whole in cc)
    by_length (suc m) is =
        (connected_more t m c (groups_in t text) (λ text gs h. read_begun t m text gs h) unclosed (sym (read_next t (length text) m text c is cut) ∙ whole)).1

reads_ok : (r : Result ComparisonRead Status) (d : ComparisonRead) → result_ok r ≡ Some d → r ≡ Ok d
reads_ok (Ok x) d is = ap (λ (x : ComparisonRead). Ok x) (same_Some x d is)
reads_ok (Err e) d is = absurd (none-some d is)

-- a comparison that is closed is the whole qualification
pub closed_groups : (t : SegmentType) (text : List ℕ) (c : Comparison) → closed_comparison t text ≡ Some c → read_qualification t text ≡ Ok ((c ∷ []) ∷ [])
closed_groups t [] c is = absurd (none-some c is)
closed_groups t (b ∷ bs) c is =
    option_and_then_some closed_of (result_ok (read_comparison t (b ∷ bs))) c is (λ d reads closes.
    let parts = closed_parts d (begins_with is_close d.behind) refl closes in
    read_close t (length (b ∷ bs)) (length bs) (b ∷ bs) d refl (reads_ok (read_comparison t (b ∷ bs)) d reads) parts.0
    ∙ ap (λ (x : Comparison). Ok ((x ∷ []) ∷ [])) parts.1)
  where
    closed_parts : (d : ComparisonRead) (k : Bool) → begins_with is_close d.behind ≡ k → cond k (Some d.comparison) None ≡ Some c → (begins_with is_close d.behind ≡ true) × (d.comparison ≡ c)
    closed_parts d true e h = (e, same_Some d.comparison c h)
    closed_parts d false e h = absurd (none-some c h)

-- a fault of the first comparison is the qualification's
pub first_fault : (t : SegmentType) (text : List ℕ) (e : Status) → read_comparison t text ≡ Err e → read_qualification t text ≡ Err e
first_fault t [] e is = (let same : AJ ≡ e = cc in ap (λ (x : Status). Err x) same)
first_fault t (b ∷ bs) e is = read_cut_fault t (length (b ∷ bs)) (length bs) (b ∷ bs) e refl is

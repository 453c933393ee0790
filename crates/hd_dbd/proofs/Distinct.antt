-- Names that differ: in the order of their bytes, no two that stand side by side are the same.
use Rattle.std.proofs.Common.{◌≡◌, ℕ, suc, ◌≤◌, List, [], ◌∷◌, length, map, Bool, true, false, not, ◌||◌, ◌==◌, cond, ap, ap₂, sym, subst, ◌∙◌, refl, arith, Decides, bytes_eq, IsPermutation, IsSorted, nat_cmp, eqb-true, eq-eqb}
use Rattle.std.specs.List.{list_any, AllByRecursion, IsDistinct, dedup, dedup_from}
use Rattle.std.specs.List.Retain.{IsFiltered, DiffersFromLast}
use Rattle.std.specs.Cmp.Lexicographic.{slice_cmp, nat_list_cmp_total, nat_list_eq_equiv, texts_ties}
use Rattle.std.proofs.lemmas.Bool.{false≢true}
use Rattle.std.proofs.lemmas.Bool.Decides.{Decides-and, Decides-like, same_from_decides}
use Rattle.std.proofs.lemmas.List.Kept.{IsStrictlySortedBy-dedup}
use Rattle.std.proofs.lemmas.List.{length-map}
use Rattle.std.proofs.lemmas.List.Filters.{dedup_is}
use Rattle.std.proofs.lemmas.List.Sorted.{IsPermutation-sym, length_permutation}
use Rattle.std.proofs.lemmas.Map.Keys.{IsDistinct-from_sorted, IsDistinct-IsPermutation}
use Rattle.hd_dbd.specs.declared.hierarchy.Field.{Field}
use Rattle.hd_dbd.specs.DatabaseRules.{field_names_differ}

-- the names of fields
abbrev pub names_of : List Field → List (List ℕ)
names_of fields = map (λ f. f.name) fields

-- no field has the name just where the name is none of theirs
none_same : (name : List ℕ) (fields : List Field) → Decides (not (list_any (λ f. bytes_eq f.name name) fields)) (AllByRecursion (λ y. bytes_eq name y ≡ false) (names_of fields))
none_same name [] = (λ h. tt, λ h. refl)
none_same name (f ∷ fs) = one (bytes_eq f.name name) (bytes_eq name f.name) _ _ (nat_list_eq_equiv.symm f.name name) (none_same name fs)
  where
    one : (a b rest : Bool) (P : Type 0) → a ≡ b → Decides (not rest) P → Decides (not (a || rest)) ((b ≡ false) × P)
    one true b rest P same others = (λ h. absurd (false≢true h), λ h. absurd (false≢true (sym (same ∙ h.0))))
    one false b rest P same others = (λ h. (sym same, others.0 h), λ h. others.1 h.1)

-- the names of fields differ by the rule just where no two of the names are the same
rule_decides : (fields : List Field) → Decides (field_names_differ fields) (IsDistinct bytes_eq (names_of fields))
unfolding IsDistinct
rule_decides [] = (λ h. tt, λ h. refl)
rule_decides (f ∷ fs) = Decides-and _ _ (none_same f.name fs) (rule_decides fs)

-- of names that differ each is kept
all_kept : (name : List ℕ) (names : List (List ℕ)) → IsDistinct bytes_eq (name ∷ names) → dedup_from bytes_eq name names ≡ name ∷ names
unfolding IsDistinct
all_kept name [] differ = refl
all_kept name (n ∷ ns) differ =
    ap (λ (b : Bool). cond b (dedup_from bytes_eq name ns) (name ∷ dedup_from bytes_eq n ns)) (nat_list_eq_equiv.symm n name ∙ differ.0.0)
    ∙ ap (λ (xs : List (List ℕ)). name ∷ xs) (all_kept n ns differ.1)

-- no more names are kept than there are
no_more : (name : List ℕ) (names : List (List ℕ)) → length (dedup_from bytes_eq name names) ≤ suc (length names)
no_more name [] = omega arith
no_more name (n ∷ ns) = either (bytes_eq n name) (no_more name ns) (no_more n ns)
  where
    either : (b : Bool) → length (dedup_from bytes_eq name ns) ≤ suc (length ns) → length (dedup_from bytes_eq n ns) ≤ suc (length ns)
        → length (cond b (dedup_from bytes_eq name ns) (name ∷ dedup_from bytes_eq n ns)) ≤ suc (suc (length ns))
    either true same other = omega (arith, same)
    either false same other = omega (arith, other)

-- where as many are kept, all are
as_many : (name : List ℕ) (names : List (List ℕ)) → length (dedup_from bytes_eq name names) ≡ suc (length names) → dedup_from bytes_eq name names ≡ name ∷ names
as_many name [] long = refl
as_many name (n ∷ ns) long = either (bytes_eq n name) (as_many n ns) long
  where
    either : (b : Bool) → (length (dedup_from bytes_eq n ns) ≡ suc (length ns) → dedup_from bytes_eq n ns ≡ n ∷ ns)
        → length (cond b (dedup_from bytes_eq name ns) (name ∷ dedup_from bytes_eq n ns)) ≡ suc (suc (length ns))
        → cond b (dedup_from bytes_eq name ns) (name ∷ dedup_from bytes_eq n ns) ≡ name ∷ n ∷ ns
    either true rest long = absurd (omega (arith, no_more name ns))
    either false rest long = ap (λ (xs : List (List ℕ)). name ∷ xs) (rest (omega arith))

whole : (names : List (List ℕ)) → length (dedup bytes_eq names) ≡ length names → dedup bytes_eq names ≡ names
whole [] long = refl
whole (n ∷ ns) long = as_many n ns long

differing : (names : List (List ℕ)) → IsDistinct bytes_eq names → dedup bytes_eq names ≡ names
differing [] differ = refl
differing (n ∷ ns) differ = all_kept n ns differ

-- of names in order as many are kept just where no two are the same
order_decides : (names : List (List ℕ)) → IsSorted (slice_cmp nat_cmp) names → Decides (length (dedup bytes_eq names) == length names) (IsDistinct bytes_eq names)
order_decides names sorted = (
  λ h. subst (IsDistinct bytes_eq) (whole names (eqb-true _ _ h))
      (subst (λ (e : List ℕ → List ℕ → Bool). IsDistinct e (dedup bytes_eq names)) (λ i x y. sym (texts_ties x y) i)
      (IsDistinct-from_sorted (slice_cmp nat_cmp) (dedup bytes_eq names) (IsStrictlySortedBy-dedup nat_list_cmp_total texts_ties names sorted))),
  λ differ. eq-eqb _ _ (ap (λ (xs : List (List ℕ)). length xs) (differing names differ)),
)

-- the names of fields differ just where as many of them are kept, once they are in order
pub kept_names_differ : (fields : List Field) (names kept : List (List ℕ)) → IsPermutation (names_of fields) names → IsSorted (slice_cmp nat_cmp) names
    → IsFiltered (DiffersFromLast bytes_eq) [] names kept → (length kept == length fields) ≡ field_names_differ fields
kept_names_differ fields names kept moved sorted is =
    let as_long : length names ≡ length fields = length_permutation _ _ moved ∙ length-map fields (λ f. f.name) in
    ap₂ (λ (ks : List (List ℕ)) (n : ℕ). length ks == n) (dedup_is bytes_eq names kept is) (sym as_long)
    ∙ same_from_decides _ _
    (Decides-like _ (IsDistinct-IsPermutation bytes_eq nat_list_eq_equiv.symm names (names_of fields) (IsPermutation-sym _ _ moved))
    (IsDistinct-IsPermutation bytes_eq nat_list_eq_equiv.symm (names_of fields) names moved) (order_decides names sorted))
    (rule_decides fields)

-- Two lists of entries whose keys ascend are one where each has the other's entries.
use Rattle.std.proofs.Common.{◌≡◌, ◌⊎◌, inl, inr, ℕ, List, [], ◌∷◌, true, refl, sym, ap, subst, ◌∙◌}
use Rattle.std.proofs.lemmas.Bool.{and_parts, false≢true}
use Rattle.hd_volume.specs.Entries.{Entry}
use Rattle.hd_volume.specs.Indexes.{key_less, keys_ascend}
use Rattle.hd_volume.proofs.KeyLemmas.{less-trans, less-not}

-- the entry is one of these
abbrev pub IsIn : Entry → List Entry → Type 0
IsIn e [] = ⊥
IsIn e (x ∷ xs) = (e ≡ x) ⊎ IsIn e xs

-- the first key is below all later ones
pub first-less : (x : Entry) (xs : List Entry) (e : Entry) → keys_ascend (x ∷ xs) ≡ true → IsIn e xs → key_less x.key e.key ≡ true
first-less x [] e h i = absurd i
first-less x (y ∷ ys) e h (inl is) = ap (λ (z : Entry). key_less x.key z.key) is ∙ (and_parts _ _ h).0
first-less x (y ∷ ys) e h (inr i) =
    let d = and_parts _ _ h in
    less-trans x.key y.key e.key d.0 (first-less y ys e d.1 i)

-- no key is below itself
not-self : (x : List ℕ) → key_less x x ≡ true → ⊥
not-self x h = false≢true (sym (less-not x x h) ∙ h)

-- an entry of the longer list that is not its first
past-first : (e x : Entry) (xs : List Entry) → IsIn e (x ∷ xs) → (e ≡ x → ⊥) → IsIn e xs
past-first e x xs (inl is) other = absurd (other is)
past-first e x xs (inr i) other = i

-- each entry of the one is in the other, so they are one list
pub same-entries : (es rs : List Entry) → keys_ascend es ≡ true → keys_ascend rs ≡ true → ((e : Entry) → IsIn e es → IsIn e rs) → ((e : Entry) → IsIn e rs → IsIn e es) → es ≡ rs
same-entries [] [] a b to back = refl
same-entries [] (r ∷ rs) a b to back = absurd (back r (inl refl))
same-entries (e ∷ es) [] a b to back = absurd (to e (inl refl))
same-entries (e ∷ es) (r ∷ rs) a b to back =
    let same : e ≡ r = head (to e (inl refl)) (back r (inl refl)) in
    let rest : es ≡ rs = same-entries es rs (and_parts _ _ a).1 (and_parts _ _ b).1
    (λ x i. past-first x r rs (to x (inr i)) (λ is. not-self e.key (subst (λ (z : Entry). key_less e.key z.key ≡ true) (is ∙ sym same) (first-less e es x a i))))
    (λ x i. past-first x e es (back x (inr i)) (λ is. not-self r.key (subst (λ (z : Entry). key_less r.key z.key ≡ true) (is ∙ same) (first-less r rs x b i)))) in
    (λ i. same i ∷ rest i)
  where
    head : IsIn e (r ∷ rs) → IsIn r (e ∷ es) → e ≡ r
    head (inl is) j = is
    head (inr i) (inl is) = sym is
    head (inr i) (inr j) = absurd (false≢true (sym (less-not r.key e.key (first-less r rs e b i)) ∙ first-less e es r a j))

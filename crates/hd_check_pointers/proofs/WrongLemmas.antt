-- What is wrong with several pointers, one after another.
use Rattle.std.proofs.Common.{◌≡◌, ℕ, List, [], ◌∷◌, ◌++◌, Bool, true, false, cond, inl, inr, refl, sym, ap, ◌∙◌, ne_eqb}
use Rattle.std.proofs.lemmas.Bool.{cases_Bool, cases_eq, eq-eqb, cond-true, cond-false}
use Rattle.hd_dbd.specs.Types.{SegmentType}
use Rattle.hd_links.specs.Links.{Links, is_last_kept}
use Rattle.hd_links.specs.Steps.{first_some}
use Rattle.hd_image.specs.PointerFaults.{Named, names_none, names_another, child_pointers}
use Rattle.hd_check_pointers.specs.declared.record_pointers.Wrong.{Wrong}
use Rattle.hd_check_pointers.specs.Judging.{first_wrong, wrong_among, wrong_or}

-- the first of three numbers that is not 0
first-first : (x y z : ℕ) → first_some (first_some x y) z ≡ first_some x (first_some y z)
first-first x y z = elim (cases_eq x 0) [
  | inl e ↦ rw (eq-eqb x 0 e) refl
  | inr ne ↦ rw (ne_eqb x 0 ne, ne_eqb x 0 ne) refl
]

-- 0 comes last
first-zero : (x : ℕ) → first_some x 0 ≡ x
first-zero x = elim (cases_eq x 0) [
  | inl e ↦ rw (eq-eqb x 0 e) (sym e)
  | inr ne ↦ rw (ne_eqb x 0 ne) refl
]

-- what was found before goes first, however it is bracketed
pub or-or : (w x y : Wrong) → wrong_or (wrong_or w x) y ≡ wrong_or w (wrong_or x y)
or-or w x y = (λ i. record { nowhere = first-first w.nowhere x.nowhere y.nowhere i; another = first-first w.another x.another y.another i })

-- nothing more is wrong
pub or-none : (w : Wrong) → wrong_or w (record { nowhere = 0; another = 0 }) ≡ w
or-none w = (λ i. record { nowhere = first-zero w.nowhere i; another = first-zero w.another i })

-- the first wrong pointer of two lists
first-parts : (test : Named → Bool) (ps qs : List Named) → first_wrong test (ps ++ qs) ≡ first_some (first_wrong test ps) (first_wrong test qs)
first-parts test [] qs = refl
first-parts test (p ∷ ps) qs = ap (first_some (cond (test p) p.address 0)) (first-parts test ps qs) ∙ sym (first-first (cond (test p) p.address 0) (first_wrong test ps) (first_wrong test qs))

-- of two lists of pointers
pub among-parts : (m : Links) (ps qs : List Named) → wrong_among m (ps ++ qs) ≡ wrong_or (wrong_among m ps) (wrong_among m qs)
among-parts m ps qs = (λ i. record { nowhere = first-parts (λ p. names_none m p) ps qs i; another = first-parts (λ p. names_another m p) ps qs i })

-- a pointer of 0 is not wrong
pub among-zero : (m : Links) (t : ℕ) → wrong_among m (record { address = 0; type_code = t } ∷ []) ≡ record { nowhere = 0; another = 0 }
among-zero m t = refl

-- first and last child of a type, and then the others
pub child-step : (types : List SegmentType) (m : Links) (a t first last : ℕ) (ts : List ℕ) (w : Wrong) → first ≡ m.first_child a t
    → (is_last_kept types t ≡ true → last ≡ m.last_child a t) → (is_last_kept types t ≡ false → last ≡ 0)
    → wrong_or (wrong_or (wrong_or w (wrong_among m (record { address = first; type_code = t } ∷ []))) (wrong_among m (record { address = last; type_code = t } ∷ []))) (wrong_among m (child_pointers types m a ts))
    ≡ wrong_or w (wrong_among m (child_pointers types m a (t ∷ ts)))
child-step types m a t first last ts w f kept other =
    let F : Wrong = wrong_among m (record { address = first; type_code = t } ∷ []) in
    let L : Wrong = wrong_among m (record { address = last; type_code = t } ∷ []) in
    let rest : List Named = child_pointers types m a ts in
    let R : Wrong = wrong_among m rest in
    let one : Named = record { address = first; type_code = t } in
    let two : Named = record { address = last; type_code = t } in
    let head : record { address = m.first_child a t; type_code = t } ≡ one = ap (λ (x : ℕ). record { address = x; type_code = t }) (sym f) in
    elim (cases_Bool (is_last_kept types t)) [
      | inl k ↦
          (let list : child_pointers types m a (t ∷ ts) ≡ one ∷ two ∷ rest =
          ap (λ (ps : List Named). record { address = m.first_child a t; type_code = t } ∷ ps) (cond-true (is_last_kept types t) (record { address = m.last_child a t; type_code = t } ∷ rest) rest k)
          ∙ ap (λ (x : ℕ). record { address = m.first_child a t; type_code = t } ∷ record { address = x; type_code = t } ∷ rest) (sym (kept k))
          ∙ ap (λ (x : Named). x ∷ two ∷ rest) head in
          or-or (wrong_or w F) L R ∙ or-or w F (wrong_or L R)
          ∙ ap (λ (x : Wrong). wrong_or w (wrong_or F x)) (sym (among-parts m (two ∷ []) rest))
          ∙ ap (wrong_or w) (sym (among-parts m (one ∷ []) (two ∷ rest)))
          ∙ ap (λ (ps : List Named). wrong_or w (wrong_among m ps)) (sym list))
      | inr k ↦
          (let list : child_pointers types m a (t ∷ ts) ≡ one ∷ rest =
          ap (λ (ps : List Named). record { address = m.first_child a t; type_code = t } ∷ ps) (cond-false (is_last_kept types t) (record { address = m.last_child a t; type_code = t } ∷ rest) rest k)
          ∙ ap (λ (x : Named). x ∷ rest) head in
          let none : L ≡ record { nowhere = 0; another = 0 } = ap (λ (x : ℕ). wrong_among m (record { address = x; type_code = t } ∷ [])) (other k) in
          ap (λ (x : Wrong). wrong_or (wrong_or (wrong_or w F) x) R) none ∙ ap (λ (x : Wrong). wrong_or x R) (or-none (wrong_or w F)) ∙ or-or w F R
          ∙ ap (wrong_or w) (sym (among-parts m (one ∷ []) rest))
          ∙ ap (λ (ps : List Named). wrong_or w (wrong_among m ps)) (sym list))
    ]

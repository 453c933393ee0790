-- The way back from a row to the one before it.
use Rattle.std.proofs.Common.{◌≡◌, ◌⊎◌, ℕ, ◌<◌, List, [], ◌∷◌, ◌++◌, true, cond, arith, ap, sym, ◌∙◌, subst, refl, inl, inr, Option, Some, None}
use Rattle.std.specs.Prelude.{◌==◌, nat_lt}
use Rattle.std.proofs.lemmas.Bool.{cases_Bool, cond-true, cond-false, lt-ltb, le-ltb, eq-eqb, ne_eqb, false≢true}
use Rattle.hd_dbd.specs.Types.{SegmentType}
use Rattle.hd_links.specs.Links.{Links, is_child_type}
use Rattle.hd_links.specs.Pointers.{IsInChain}
use Rattle.hd_links.specs.Steps.{LeadsDown, tip_from, first_some, child_among, later_than}
use Rattle.hd_links.proofs.Types.{is_in, AllAbove, Ascending, in_cases, in_head, in_tail, above_in}
use Rattle.hd_links.proofs.Build.{zero_or}
use Rattle.hd_links.proofs.Ways.{some_zero, some_own, later_own}
use Rattle.hd_forest.specs.Children.{comes_before, last_named}
use Rattle.hd_position.specs.Backs.{from_on}

module _ (m : Links) (h : ℕ) (end : Option ℕ) where
  -- The last type with a child, of those before the end: behind it comes what comes from the end on.
  abbrev pub IsLastNamed : ℕ → List ℕ → ℕ → Type 0
  IsLastNamed last ts t =
      ((t ≡ last) × (child_among m h ts ≡ child_among m h (from_on end ts)))
      ⊎ ((is_in ts t ≡ true) × (0 < m.first_child h t) × (child_among m h (later_than t ts) ≡ child_among m h (from_on end ts)))

  above_less : (a b : ℕ) (ts : List ℕ) → a < b → AllAbove b ts → AllAbove a ts
  above_less a b [] l all = tt
  above_less a b (t ∷ ts) l all = ((let s : b < t = all.0 in omega arith), above_less a b ts l all.1)

  -- one type more in front
  later_more : (s t : ℕ) (ss : List ℕ) → s < t → later_than t (s ∷ ss) ≡ later_than t ss
  later_more s t ss l = cond-false (nat_lt t s) (s ∷ ss) (later_than t ss) (le-ltb t s (omega arith))

  later_here : (s t : ℕ) (ss : List ℕ) → AllAbove s ss → t ≡ s → later_than t (s ∷ ss) ≡ ss
  later_here s t ss all e = ap (λ x. later_than x (s ∷ ss)) e ∙ cond-false (nat_lt s s) (s ∷ ss) (later_than s ss) (le-ltb s s (omega arith)) ∙ later_own s ss all

  pub last_is : (last : ℕ) (ts : List ℕ) → Ascending ts → AllAbove last ts → IsLastNamed last ts (last_named m h end last ts)
  last_is last [] ascend above = inl (refl, refl)
  last_is last (s ∷ ss) ascend above = elim (cases_Bool (comes_before end s)) [
    | inr past ↦ inl (
      cond-false (comes_before end s) (last_named m h end (cond (m.first_child h s == 0) last s) ss) last past,
      ap (child_among m h) (sym (cond-false (comes_before end s) (from_on end ss) (s ∷ ss) past)),
    )
    | inl here ↦ by_child here (last_is last ss ascend.1 (above_less last s ss above.0 ascend.0)) (last_is s ss ascend.1 ascend.0) (zero_or (m.first_child h s))
  ]
    where
      from : comes_before end s ≡ true → from_on end (s ∷ ss) ≡ from_on end ss
      from here = cond-true (comes_before end s) (from_on end ss) (s ∷ ss) here

      named : comes_before end s ≡ true → (x : ℕ) → cond (m.first_child h s == 0) last s ≡ x → last_named m h end last (s ∷ ss) ≡ last_named m h end x ss
      named here x e = cond-true (comes_before end s) (last_named m h end (cond (m.first_child h s == 0) last s) ss) last here ∙ ap (λ y. last_named m h end y ss) e

      behind : comes_before end s ≡ true → (t : ℕ) → (is_in ss t ≡ true) × (0 < m.first_child h t) × (child_among m h (later_than t ss) ≡ child_among m h (from_on end ss)) → IsLastNamed last (s ∷ ss) t
      behind here t B = inr (
        in_tail s t ss B.0,
        B.1,
        ap (child_among m h) (later_more s t ss (above_in s t ss ascend.0 B.0)) ∙ B.2 ∙ ap (child_among m h) (sym (from here)),
      )

      by_child : comes_before end s ≡ true → IsLastNamed last ss (last_named m h end last ss) → IsLastNamed s ss (last_named m h end s ss) → (m.first_child h s ≡ 0) ⊎ (0 < m.first_child h s) → IsLastNamed last (s ∷ ss) (last_named m h end last (s ∷ ss))
      by_child here without with_s (inl none) =
          let e = named here last (cond-true (m.first_child h s == 0) last s (eq-eqb (m.first_child h s) 0 none)) in
          subst (IsLastNamed last (s ∷ ss)) (sym e) (elim without [
            | inl own ↦ inl (own.0, some_zero (m.first_child h s) (child_among m h ss) none ∙ own.1 ∙ ap (child_among m h) (sym (from here)))
            | inr later ↦ behind here (last_named m h end last ss) later
          ])
      by_child here without with_s (inr some) =
          let e = named here s (cond-false (m.first_child h s == 0) last s (ne_eqb (m.first_child h s) 0 (λ (z : m.first_child h s ≡ 0). omega arith))) in
          subst (IsLastNamed last (s ∷ ss)) (sym e) (elim with_s [
            | inl own ↦ inr (
              in_head s (last_named m h end s ss) ss (sym own.0),
              subst (λ t. 0 < m.first_child h t) (sym own.0) some,
              ap (child_among m h) (later_here s (last_named m h end s ss) ss ascend.0 own.0) ∙ own.1 ∙ ap (child_among m h) (sym (from here)),
            )
            | inr later ↦ behind here (last_named m h end s ss) later
          ])

-- from no type on there is none
pub from_none : (ts : List ℕ) → from_on None ts ≡ []
from_none [] = refl
from_none (t ∷ ts) = from_none ts

-- from a type with a child on, that child is the first
pub from_child : (m : Links) (h c : ℕ) (ts : List ℕ) → Ascending ts → is_in ts c ≡ true → 0 < m.first_child h c → child_among m h (from_on (Some c) ts) ≡ m.first_child h c
from_child m h c [] ascend at some = absurd (false≢true at)
from_child m h c (t ∷ ts) ascend at some = elim (in_cases t c ts at) [
  | inl e ↦
      (let here : from_on (Some c) (t ∷ ts) ≡ t ∷ ts = cond-false (nat_lt t c) (from_on (Some c) ts) (t ∷ ts) (le-ltb t c (omega arith)) in
      ap (child_among m h) here ∙ ap (λ x. first_some (m.first_child h x) (child_among m h ts)) e ∙ some_own (m.first_child h c) (child_among m h ts) some)
  | inr later ↦
      ap (child_among m h) (cond-true (nat_lt t c) (from_on (Some c) ts) (t ∷ ts) (lt-ltb t c (above_in t c ts ascend.0 later))) ∙ from_child m h c ts ascend.1 later some
]

-- ---- paths

-- a path whose last row is another child of the same parent
pub leads_beside : (types : List SegmentType) (m : Links) (h : ℕ) (path : List ℕ) (a y : ℕ) → LeadsDown types m h (path ++ a ∷ []) → is_child_type types (m.code (tip_from h path)) (m.code y) ≡ true
    → IsInChain m (m.first_child (tip_from h path) (m.code y)) y → LeadsDown types m h (path ++ y ∷ [])
leads_beside types m h [] a y down typed chain = (typed, chain, tt)
leads_beside types m h (x ∷ path) a y down typed chain = (down.0, down.1, leads_beside types m x path a y down.2 typed chain)

-- a part of a path
pub leads_up : (types : List SegmentType) (m : Links) (h : ℕ) (path rest : List ℕ) → LeadsDown types m h (path ++ rest) → LeadsDown types m h path
leads_up types m h [] rest down = tt
leads_up types m h (x ∷ path) rest down = (down.0, down.1, leads_up types m x path rest down.2)

-- the last row of a path with one more
pub tip_end : (h : ℕ) (path : List ℕ) (a : ℕ) → tip_from h (path ++ a ∷ []) ≡ a
tip_end h [] a = refl
tip_end h (x ∷ path) a = tip_end x path a

-- Segments matched with the pointers that name them, which are in order of what they name.
use Rattle.std.proofs.Common.{◌≡◌, ◌⊎◌, inl, inr, ℕ, zero, suc, ◌+◌, ◌<◌, ◌≤◌, List, [], ◌∷◌, length, true, cond, get_or, filter, nat_cmp, is_lt, Option, Some, None, refl, sym, ap, subst, ◌∙◌, arith, ne_eqb, suc-le-suc, zero-le}
use Rattle.std.specs.Prelude.{◌==◌, Bool}
use Rattle.std.specs.List.Sorted.{ties, IsNonDecreasingBy, IsStableByKey}
use Rattle.std.proofs.lemmas.Bool.{cases_Bool, cases_eq, eq-eqb, cond-true, cond-false}
use Rattle.std.proofs.lemmas.Bool.Decides.{nat_tests}
use Rattle.hd_check_blocks.specs.declared.fault.Fault.{Fault}
use Rattle.hd_check_blocks.specs.declared.places.Place.{Place}
use Rattle.hd_check_pointers.specs.declared.namings.Naming.{Naming}
use Rattle.hd_check_blocks.specs.Places.{AreFrom, PlacesAscend}
use Rattle.hd_check_pointers.specs.Namings.{second_fault, fault_or, first_unmatched, holders}
use Rattle.hd_check_pointers.proofs.Holders.{IsAmong}
use Rattle.hd_image.specs.declared.line.Line.TheVariants.{NoPredecessor, TwoPredecessors}

-- ---- tables of pointers

-- something holds of each pointer
abbrev pub EachNaming : (Naming → Type 0) → List Naming → Type 0
EachNaming P [] = Unit {0}
EachNaming P (n ∷ ns) = P n × EachNaming P ns

-- the pointers are in order of what they name
abbrev pub AreInOrder : List Naming → Type 0
AreInOrder [] = Unit {0}
AreInOrder (n ∷ ns) = EachNaming (λ x. n.target ≤ x.target) ns × AreInOrder ns

-- what follows from something holds where that does
pub each-weak : (P Q : Naming → Type 0) (ns : List Naming) → ((n : Naming) → P n → Q n) → EachNaming P ns → EachNaming Q ns
each-weak P Q [] w h = tt
each-weak P Q (n ∷ ns) w h = (w n h.0, each-weak P Q ns w h.1)

-- and what follows from two things
pub each-two : (P Q R : Naming → Type 0) (ns : List Naming) → ((n : Naming) → P n → Q n → R n) → EachNaming P ns → EachNaming Q ns → EachNaming R ns
each-two P Q R [] w h g = tt
each-two P Q R (n ∷ ns) w h g = (w n h.0 g.0, each-two P Q R ns w h.1 g.1)

-- where all pointers name what is behind an address, none names it
pub none-above : (a : ℕ) (ns : List Naming) → EachNaming (λ n. a < n.target) ns → holders a ns ≡ []
none-above a [] h = refl
none-above a (n ∷ ns) h = cond-false (n.target == a) (n.holder ∷ holders a ns) (holders a ns) (ne_eqb n.target a (λ e. (let l = h.0 in omega arith))) ∙ none-above a ns h.1

-- what holds of what has a holder holds of what each pointer names
pub each-held : (P : ℕ → Type 0) (ns : List Naming) → ((a h : ℕ) → IsAmong h (holders a ns) → P a) → EachNaming (λ n. P n.target) ns
each-held P [] held = tt
each-held P (n ∷ ns) held = (
  held n.target n.holder (subst (IsAmong n.holder) (sym (cond-true (n.target == n.target) (n.holder ∷ holders n.target ns) (holders n.target ns) (eq-eqb n.target n.target refl))) (inl refl)),
  each-held P ns (λ a h i. held a h (elim (cases_Bool (n.target == a)) [
    | inl e ↦ subst (IsAmong h) (sym (cond-true (n.target == a) (n.holder ∷ holders a ns) (holders a ns) e)) (inr i)
    | inr e ↦ subst (IsAmong h) (sym (cond-false (n.target == a) (n.holder ∷ holders a ns) (holders a ns) e)) i
  ])),
)

-- ---- after a stable sort

-- the rest of a table in order is no less than what comes before
each-from : (t : ℕ) (ns : List Naming) → ((j : ℕ) → j < length ns → t ≤ (get_or ns j (record { target = 0; holder = 0 })).target) → EachNaming (λ n. t ≤ n.target) ns
each-from t [] h = tt
each-from t (n ∷ ns) h = (h zero (suc-le-suc zero-le), each-from t ns (λ j l. h (suc j) (suc-le-suc l)))

-- a sorted table is in order
pub order-from-sort : (ns : List Naming) → IsNonDecreasingBy (λ n. n.target) ns → AreInOrder ns
order-from-sort [] h = tt
order-from-sort (n ∷ ns) h = (
  each-from n.target ns (λ j l. h zero (suc j) (record { target = 0; holder = 0 }) zero-le (suc-le-suc l)),
  order-from-sort ns (λ i j d low l. h (suc i) (suc j) d (suc-le-suc low) (suc-le-suc l)),
)

-- pointers tie where they name the same
ties-same : (a b : ℕ) → (ties (λ x y. is_lt (nat_cmp x y)) a b ≡ true → b ≡ a) × (b ≡ a → ties (λ x y. is_lt (nat_cmp x y)) a b ≡ true)
ties-same a b = (λ h. grind (arith, nat_tests), λ h. grind (arith, nat_tests))

-- the holders of some pointers
abbrev holders-all : List Naming → List ℕ
holders-all [] = []
holders-all (n ∷ ns) = n.holder ∷ holders-all ns

-- an address as a pointer of nothing
abbrev named : ℕ → Naming
named a = record { target = a; holder = 0 }

-- the pointers that tie with an address are those that name it
holders-ties : (a : ℕ) (ns : List Naming) → holders a ns ≡ holders-all (filter (ties (λ (x y : Naming). is_lt (nat_cmp x.target y.target)) (named a)) ns)
holders-ties a [] = refl
holders-ties a (n ∷ ns) = elim (cases_eq n.target a) [
  | inl e ↦
      (let tie : ties (λ (x y : Naming). is_lt (nat_cmp x.target y.target)) (named a) n ≡ true = (ties-same a n.target).1 e in
      cond-true (n.target == a) (n.holder ∷ holders a ns) (holders a ns) (eq-eqb n.target a e) ∙ ap (λ (l : List ℕ). n.holder ∷ l) (holders-ties a ns)
      ∙ ap holders-all (sym (cond-true _ (n ∷ filter (ties (λ (x y : Naming). is_lt (nat_cmp x.target y.target)) (named a)) ns) (filter (ties (λ (x y : Naming). is_lt (nat_cmp x.target y.target)) (named a)) ns) tie)))
  | inr ne ↦
      cond-false (n.target == a) (n.holder ∷ holders a ns) (holders a ns) (ne_eqb n.target a ne) ∙ holders-ties a ns
      ∙ elim (cases_Bool (ties (λ (x y : Naming). is_lt (nat_cmp x.target y.target)) (named a) n)) [
        | inl tie ↦ absurd (ne ((ties-same a n.target).0 tie))
        | inr none ↦ ap holders-all (sym (cond-false _ (n ∷ filter (ties (λ (x y : Naming). is_lt (nat_cmp x.target y.target)) (named a)) ns) (filter (ties (λ (x y : Naming). is_lt (nat_cmp x.target y.target)) (named a)) ns) none))
      ]
]

-- a stable sort keeps the holders of each address, in their order
pub holders-sorted : (old new : List Naming) → IsStableByKey (λ n. n.target) nat_cmp old new → (a : ℕ) → holders a new ≡ holders a old
holders-sorted old new stable a = holders-ties a new ∙ ap holders-all (stable (named a)) ∙ sym (holders-ties a old)

-- ---- the matching

-- the address is that of one of these places
abbrev pub IsAddress : ℕ → List Place → Type 0
IsAddress a [] = ⊥
IsAddress a (p ∷ ps) = (a ≡ p.address) ⊎ IsAddress a ps

-- a place stands from an address on where all do
pub address-from : (b a : ℕ) (ps : List Place) → AreFrom b ps → IsAddress a ps → b ≤ a
address-from b a [] from i = absurd i
address-from b a (p ∷ ps) from (inl e) = (let l = from.0 in omega arith)
address-from b a (p ∷ ps) from (inr i) = address-from b a ps from.1 i

-- What is wrong with an address that has these predecessors.
abbrev pub IsWrongFor : ℕ → List ℕ → Fault → Type 0
IsWrongFor a [] f = f ≡ record { line = NoPredecessor; address = a; other = 0 }
IsWrongFor a (h ∷ []) f = ⊥
IsWrongFor a (h ∷ g ∷ hs) f = f ≡ record { line = TwoPredecessors; address = a; other = g }

-- The pointers are just those by which these places are named, one for each.
abbrev pub AreMatched : (ℕ → List ℕ) → List Place → List Naming → Type 0
AreMatched F [] ns = ns ≡ []
AreMatched F (p ∷ ps) [] = ⊥
AreMatched F (p ∷ ps) (n ∷ ns) = (n.target ≡ p.address) × (F p.address ≡ n.holder ∷ []) × AreMatched F ps ns

-- The fault is that of the first of these places that has not just one predecessor.
abbrev pub IsFirstWrong : (ℕ → List ℕ) → List Place → Fault → Type 0
IsFirstWrong F [] f = ⊥
IsFirstWrong F (p ∷ ps) f = IsWrongFor p.address (F p.address) f ⊎ (((h : ℕ) × (F p.address ≡ h ∷ [])) × IsFirstWrong F ps f)

-- what is found is right
abbrev pub IsJudged : (ℕ → List ℕ) → List Place → List Naming → Option Fault → Type 0
IsJudged F ps ns None = AreMatched F ps ns
IsJudged F ps ns (Some f) = IsFirstWrong F ps f

-- The pointers are in order, each names one of these places, and by them each place has its predecessors.
pub record AreNamingsOf (F : ℕ → List ℕ) (ps : List Place) (ns : List Naming) : Type 0 where
  pub ascend : PlacesAscend ps
  pub order : AreInOrder ns
  pub known : EachNaming (λ n. IsAddress n.target ps) ns
  pub same : (a : ℕ) → IsAddress a ps → F a ≡ holders a ns

-- a second pointer names the address, or all others name what is behind it
pub second-cases : (a : ℕ) (ns : List Naming) → AreInOrder ns → EachNaming (λ n. a ≤ n.target) ns
    → ((n : Naming) × (ms : List Naming) × (ns ≡ n ∷ ms) × (n.target ≡ a)) ⊎ ((second_fault a ns ≡ None) × EachNaming (λ n. a < n.target) ns)
second-cases a [] order least = inr (refl, tt)
second-cases a (n ∷ ns) order least = elim (cases_eq n.target a) [
  | inl e ↦ inl (n, ns, refl, e)
  | inr ne ↦
      (let low = least.0 in
      let above : a < n.target = (elim (cases_eq a n.target) [ inl e ↦ absurd (ne (sym e)) | inr other ↦ omega arith ]) in
      inr (
        cond-false (n.target == a) (Some (record { line = TwoPredecessors; address = a; other = n.holder })) None (ne_eqb n.target a ne),
        (above, each-weak (λ x. n.target ≤ x.target) (λ x. a < x.target) ns (λ x l. omega arith) order.0),
      ))
]

-- the first place is matched
keep : (F : ℕ → List ℕ) (p : Place) (ps : List Place) (n : Naming) (ns : List Naming) (o : Option Fault) → n.target ≡ p.address → F p.address ≡ n.holder ∷ []
    → IsJudged F ps ns o → IsJudged F (p ∷ ps) (n ∷ ns) o
keep F p ps n ns None at one judged = (at, one, judged)
keep F p ps n ns (Some f) at one judged = inr ((n.holder, one), judged)

-- the first place that is not matched is found, or all are matched
pub judged : (F : ℕ → List ℕ) (ps : List Place) (ns : List Naming) → AreNamingsOf F ps ns → IsJudged F ps ns (first_unmatched ps ns)
judged F [] [] is = refl
judged F [] (n ∷ ns) is = absurd is.known.0
judged F (p ∷ ps) [] is = inl (subst (λ (hs : List ℕ). IsWrongFor p.address hs (record { line = NoPredecessor; address = p.address; other = 0 })) (sym (is.same p.address (inl refl))) refl)
judged F (p ∷ ps) (n ∷ ns) is =
    let a : ℕ = p.address in
    let ten : Option Fault = Some (record { line = NoPredecessor; address = a; other = 0 }) in
    let rest : Option Fault = first_unmatched ps ns in
    let least : EachNaming (λ x. n.target ≤ x.target) ns = is.order.0 in
    let low : a ≤ n.target = address-from a n.target (p ∷ ps) (omega arith, from-more a ps is.ascend.0) is.known.0 in
    elim (cases_eq n.target a) [
      | inr ne ↦
          (let above : a < n.target = (elim (cases_eq a n.target) [ inl e ↦ absurd (ne (sym e)) | inr other ↦ omega arith ]) in
          let none : F a ≡ [] = is.same a (inl refl) ∙ none-above a (n ∷ ns) (above, each-weak (λ x. n.target ≤ x.target) (λ x. a < x.target) ns (λ x l. omega arith) least) in
          let found : first_unmatched (p ∷ ps) (n ∷ ns) ≡ ten = ap (λ (b : Bool). fault_or (cond b (second_fault a ns) ten) rest) (ne_eqb n.target a ne) in
          subst (IsJudged F (p ∷ ps) (n ∷ ns)) (sym found) (inl (subst (λ (hs : List ℕ). IsWrongFor a hs (record { line = NoPredecessor; address = a; other = 0 })) (sym none) refl)))
      | inl e ↦
          (let from : first_unmatched (p ∷ ps) (n ∷ ns) ≡ fault_or (second_fault a ns) rest = ap (λ (b : Bool). fault_or (cond b (second_fault a ns) ten) rest) (eq-eqb n.target a e) in
          let own : F a ≡ n.holder ∷ holders a ns = is.same a (inl refl) ∙ cond-true (n.target == a) (n.holder ∷ holders a ns) (holders a ns) (eq-eqb n.target a e) in
          elim (second-cases a ns is.order.1 (each-weak (λ x. n.target ≤ x.target) (λ x. a ≤ x.target) ns (λ x l. omega arith) least)) [
            | inl s ↦
                (let second : Naming = s.0 in
                let nine : Fault = record { line = TwoPredecessors; address = a; other = second.holder } in
                let two : holders a ns ≡ second.holder ∷ holders a s.1 = ap (holders a) s.2 ∙ cond-true (second.target == a) (second.holder ∷ holders a s.1) (holders a s.1) (eq-eqb second.target a s.3) in
                let found : second_fault a ns ≡ Some nine = ap (second_fault a) s.2 ∙ cond-true (second.target == a) (Some nine) None (eq-eqb second.target a s.3) in
                subst (IsJudged F (p ∷ ps) (n ∷ ns)) (sym (from ∙ ap (λ (o : Option Fault). fault_or o rest) found))
                (inl (subst (λ (hs : List ℕ). IsWrongFor a hs nine) (sym (own ∙ ap (λ (l : List ℕ). n.holder ∷ l) two)) refl)))
            | inr s ↦
                (let one : F a ≡ n.holder ∷ [] = own ∙ ap (λ (l : List ℕ). n.holder ∷ l) (none-above a ns s.1) in
                subst (IsJudged F (p ∷ ps) (n ∷ ns)) (sym (from ∙ ap (λ (o : Option Fault). fault_or o rest) s.0))
                (keep F p ps n ns rest e one (judged F ps ns (record {
                  ascend = is.ascend.1;
                  order = is.order.1;
                  known = each-two (λ x. IsAddress x.target (p ∷ ps)) (λ x. a < x.target) (λ x. IsAddress x.target ps) ns (λ x i l. elim i [ inl z ↦ absurd (omega arith) | inr j ↦ j ]) is.known.1 s.1;
                  same = λ b i. is.same b (inr i)
                      ∙ cond-false (n.target == b) (n.holder ∷ holders b ns) (holders b ns) (ne_eqb n.target b (λ z. (let far = address-from (a + 1) b ps is.ascend.0 i in omega arith)));
                }))))
          ])
    ]
  where
    -- what stands behind an address stands from it on
    from-more : (b : ℕ) (qs : List Place) → AreFrom (b + 1) qs → AreFrom b qs
    from-more b [] h = tt
    from-more b (q ∷ qs) h = ((let l = h.0 in omega arith), from-more b qs h.1)

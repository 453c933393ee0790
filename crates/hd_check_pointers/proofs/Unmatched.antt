-- All segments that are not named by just one pointer, where the pointers are in order of what they name.
use Rattle.std.proofs.Common.{◌≡◌, ◌≢◌, inl, inr, ℕ, ◌+◌, ◌<◌, ◌≤◌, List, [], ◌∷◌, length, drop, Option, Some, None, refl, sym, ap, subst, ◌∙◌, arith, ne_eqb}
use Rattle.std.specs.Prelude.{◌==◌}
use Rattle.std.proofs.lemmas.List.{drop_more}
use Rattle.std.proofs.lemmas.Bool.{cases_eq, eq-eqb, cond-true, cond-false}
use Rattle.hd_check_blocks.specs.declared.fault.Fault.{Fault}
use Rattle.hd_check_blocks.specs.declared.places.Place.{Place}
use Rattle.hd_check_blocks.specs.Listing.{faults_of}
use Rattle.hd_check_pointers.specs.declared.namings.Naming.{Naming}
use Rattle.hd_check_pointers.specs.Namings.{match_fault, second_fault, holders}
use Rattle.hd_check_pointers.specs.Listed.{behind}
use Rattle.hd_check_pointers.specs.Tables.{naming_at}
use Rattle.hd_check_pointers.proofs.Matching.{EachNaming, AreInOrder, IsAddress, address-from, AreNamingsOf, each-weak, each-two, second-cases, none-above}
use Rattle.hd_image.specs.declared.line.Line.TheVariants.{NoPredecessor, TwoPredecessors}

-- what is wrong with an address that has these predecessors
abbrev pub wrong_for : ℕ → List ℕ → List Fault
wrong_for a [] = record { line = NoPredecessor; address = a; other = 0 } ∷ []
wrong_for a (h ∷ []) = []
wrong_for a (h ∷ g ∷ hs) = record { line = TwoPredecessors; address = a; other = g } ∷ []

-- ---- the pointers behind those that name an address

-- what holds of all holds of those
behind-each : (P : Naming → Type 0) (a : ℕ) (ns : List Naming) → EachNaming P ns → EachNaming P (behind a ns)
behind-each P a [] h = tt
behind-each P a (n ∷ ns) h = elim (cases_eq n.target a) [
  | inl e ↦ subst (EachNaming P) (sym (cond-true (n.target == a) (behind a ns) (n ∷ ns) (eq-eqb n.target a e))) (behind-each P a ns h.1)
  | inr ne ↦ subst (EachNaming P) (sym (cond-false (n.target == a) (behind a ns) (n ∷ ns) (ne_eqb n.target a ne))) h
]

-- they are in order
behind-order : (a : ℕ) (ns : List Naming) → AreInOrder ns → AreInOrder (behind a ns)
behind-order a [] h = tt
behind-order a (n ∷ ns) h = elim (cases_eq n.target a) [
  | inl e ↦ subst AreInOrder (sym (cond-true (n.target == a) (behind a ns) (n ∷ ns) (eq-eqb n.target a e))) (behind-order a ns h.1)
  | inr ne ↦ subst AreInOrder (sym (cond-false (n.target == a) (behind a ns) (n ∷ ns) (ne_eqb n.target a ne))) h
]

-- they name what is behind the address
behind-above : (a : ℕ) (ns : List Naming) → AreInOrder ns → EachNaming (λ n. a ≤ n.target) ns → EachNaming (λ n. a < n.target) (behind a ns)
behind-above a [] order least = tt
behind-above a (n ∷ ns) order least = elim (cases_eq n.target a) [
  | inl e ↦ subst (EachNaming (λ x. a < x.target)) (sym (cond-true (n.target == a) (behind a ns) (n ∷ ns) (eq-eqb n.target a e))) (behind-above a ns order.1 least.1)
  | inr ne ↦
      (let low = least.0 in
      let above : a < n.target = (elim (cases_eq a n.target) [ inl e ↦ absurd (ne (sym e)) | inr other ↦ omega arith ]) in
      subst (EachNaming (λ x. a < x.target)) (sym (cond-false (n.target == a) (behind a ns) (n ∷ ns) (ne_eqb n.target a ne)))
      (above, each-weak (λ x. n.target ≤ x.target) (λ x. a < x.target) ns (λ x l. omega arith) order.0))
]

-- and by them every other address has its holders
behind-holders : (a b : ℕ) (ns : List Naming) → b ≢ a → holders b (behind a ns) ≡ holders b ns
behind-holders a b [] other = refl
behind-holders a b (n ∷ ns) other = elim (cases_eq n.target a) [
  | inl e ↦
      ap (holders b) (cond-true (n.target == a) (behind a ns) (n ∷ ns) (eq-eqb n.target a e)) ∙ behind-holders a b ns other
      ∙ sym (cond-false (n.target == b) (n.holder ∷ holders b ns) (holders b ns) (ne_eqb n.target b (λ z. other (sym z ∙ e))))
  | inr ne ↦ ap (holders b) (cond-false (n.target == a) (behind a ns) (n ∷ ns) (ne_eqb n.target a ne))
]

-- ---- the first place, and those behind it

module _ (F : ℕ → List ℕ) (p : Place) (ps : List Place) (ns : List Naming) (is : AreNamingsOf F (p ∷ ps) ns) where
  -- an address among the places is not before the first
  from-first : (b : ℕ) → IsAddress b (p ∷ ps) → p.address ≤ b
  from-first b (inl e) = omega arith
  from-first b (inr i) = (let far = address-from (p.address + 1) b ps is.ascend.0 i in omega arith)

  -- no pointer names what is before the first
  least : EachNaming (λ n. p.address ≤ n.target) ns
  least = each-weak (λ n. IsAddress n.target (p ∷ ps)) (λ n. p.address ≤ n.target) ns (λ n i. from-first n.target i) is.known

  -- behind the pointers that name the first are those of the others
  pub behind-match : AreNamingsOf F ps (behind p.address ns)
  unfolding least
  behind-match = record {
    ascend = is.ascend.1;
    order = behind-order p.address ns is.order;
    known = each-two (λ n. IsAddress n.target (p ∷ ps)) (λ n. p.address < n.target) (λ n. IsAddress n.target ps) (behind p.address ns)
        (λ n i l. elim i [ inl e ↦ absurd (omega arith) | inr j ↦ j ])
        (behind-each (λ n. IsAddress n.target (p ∷ ps)) p.address ns is.known) (behind-above p.address ns is.order least);
    same = λ b i. is.same b (inr i) ∙ sym (behind-holders p.address b ns (λ z. (let far = address-from (p.address + 1) b ps is.ascend.0 i in omega arith)));
  }

-- what is found of the first is what is wrong with it
pub first-found : (F : ℕ → List ℕ) (p : Place) (ps : List Place) (ns : List Naming) → AreNamingsOf F (p ∷ ps) ns → faults_of (match_fault p.address ns) ≡ wrong_for p.address (F p.address)
first-found F p ps [] is = ap (wrong_for p.address) (sym (is.same p.address (inl refl)))
first-found F p ps (n ∷ ns) is =
    let a : ℕ = p.address in
    let none : Option Fault = Some (record { line = NoPredecessor; address = a; other = 0 }) in
    let low : a ≤ n.target = from-first F p ps (n ∷ ns) is n.target is.known.0 in
    elim (cases_eq n.target a) [
      | inr ne ↦
          (let above : a < n.target = (elim (cases_eq a n.target) [ inl e ↦ absurd (ne (sym e)) | inr other ↦ omega arith ]) in
          let empty : F a ≡ [] = is.same a (inl refl) ∙ none-above a (n ∷ ns) (above, each-weak (λ x. n.target ≤ x.target) (λ x. a < x.target) ns (λ x l. omega arith) is.order.0) in
          ap faults_of (cond-false (n.target == a) (second_fault a ns) none (ne_eqb n.target a ne)) ∙ ap (wrong_for a) (sym empty))
      | inl e ↦
          (let found : match_fault a (n ∷ ns) ≡ second_fault a ns = cond-true (n.target == a) (second_fault a ns) none (eq-eqb n.target a e) in
          let own : F a ≡ n.holder ∷ holders a ns = is.same a (inl refl) ∙ cond-true (n.target == a) (n.holder ∷ holders a ns) (holders a ns) (eq-eqb n.target a e) in
          elim (second-cases a ns is.order.1 (each-weak (λ x. n.target ≤ x.target) (λ x. a ≤ x.target) ns (λ x l. omega arith) is.order.0)) [
            | inl s ↦
                (let second : Naming = s.0 in
                let nine : Fault = record { line = TwoPredecessors; address = a; other = second.holder } in
                let two : holders a ns ≡ second.holder ∷ holders a s.1 = ap (holders a) s.2 ∙ cond-true (second.target == a) (second.holder ∷ holders a s.1) (holders a s.1) (eq-eqb second.target a s.3) in
                ap faults_of (found ∙ ap (second_fault a) s.2 ∙ cond-true (second.target == a) (Some nine) None (eq-eqb second.target a s.3))
                ∙ ap (wrong_for a) (sym (own ∙ ap (λ (l : List ℕ). n.holder ∷ l) two)))
            | inr s ↦ ap faults_of (found ∙ s.0) ∙ ap (wrong_for a) (sym (own ∙ ap (λ (l : List ℕ). n.holder ∷ l) (none-above a ns s.1)))
          ])
    ]

-- ---- by numbers

-- the pointers from a number on are behind an address where the first of them names another
pub behind-stop : (a i : ℕ) (ns : List Naming) → i < length ns → (naming_at ns i).target ≢ a → behind a (drop i ns) ≡ drop i ns
behind-stop a i ns within other =
    let n : Naming = naming_at ns i in
    let more : drop i ns ≡ n ∷ drop (i + 1) ns = drop_more ns i (record { target = 0; holder = 0 }) within in
    ap (behind a) more ∙ cond-false (n.target == a) (behind a (drop (i + 1) ns)) (n ∷ drop (i + 1) ns) (ne_eqb n.target a other) ∙ sym more

-- and those behind the first are where it names the address
pub behind-step : (a i : ℕ) (ns : List Naming) → i < length ns → (naming_at ns i).target ≡ a → behind a (drop i ns) ≡ behind a (drop (i + 1) ns)
behind-step a i ns within own =
    let n : Naming = naming_at ns i in
    ap (behind a) (drop_more ns i (record { target = 0; holder = 0 }) within) ∙ cond-true (n.target == a) (behind a (drop (i + 1) ns)) (n ∷ drop (i + 1) ns) (eq-eqb n.target a own)

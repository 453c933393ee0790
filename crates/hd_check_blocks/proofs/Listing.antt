-- Faults that are listed one behind another, in their order.
use Rattle.std.proofs.Common.{◌≡◌, ◌≢◌, ◌⊎◌, inl, inr, ℕ, ◌+◌, ◌<◌, ◌≤◌, List, [], ◌∷◌, ◌++◌, length, true, Option, Some, None, IfNone, IfSome, refl, sym, ap, subst, ◌∙◌, arith, ne_eqb}
use Rattle.std.specs.Prelude.{◌==◌}
use Rattle.std.proofs.lemmas.List.{append_assoc}
use Rattle.std.proofs.lemmas.Bool.{cases_eq, cases_lt, eq-eqb, cond-true, cond-false}
use Rattle.hd_dbd.specs.Hierarchy.{Database}
use Rattle.hd_volume.specs.Volumes.{VolumeState}
use Rattle.hd_image.specs.Records.{links_of}
use Rattle.hd_image.specs.Standing.{Stands, phase_of, number_of, ComesBefore}
use Rattle.hd_image.specs.declared.line.Line.{Line}
use Rattle.hd_check_blocks.specs.declared.fault.Fault.{Fault}
use Rattle.hd_check_blocks.specs.declared.places.Place.{Place}
use Rattle.hd_check_blocks.specs.Listing.{IsListed, AllStand, ComesBeforeAll, FaultsAscend, AreStanding, faults_of, fault_if}
use Rattle.hd_check_blocks.specs.Places.{place_at, ArePlaces}
use Rattle.hd_check_blocks.proofs.Lookups.{among, number-of, in-order}

-- a fact holds of each fault's line and address
abbrev pub AreOf : (Line → ℕ → Type 0) → List Fault → Type 0
AreOf P [] = Unit {0}
AreOf P (f ∷ fs) = P f.line f.address × AreOf P fs

-- The faults are all that stand of a phase, of those lines and at those addresses of which a fact holds, in their order.
pub record AreStandingAmong (d : Database) (v : VolumeState) (phase : ℕ) (P : Line → ℕ → Type 0) (faults : List Fault) : Type 0 where
  pub stand : AllStand d v phase faults
  pub among : AreOf P faults
  pub all : (line : Line) (a o : ℕ) → phase_of line ≡ phase → P line a → Stands d v line a o → IsListed line a faults
  pub ascend : FaultsAscend faults

-- of one phase a fault comes before another: by address, and then by number
abbrev pub IsBefore : Line → ℕ → Line → ℕ → Type 0
IsBefore k a l b = (a < b) ⊎ ((a ≡ b) × (number_of k a < number_of l b))

-- ---- two lists

-- what is in the first is in both together
listed-front : (l : Line) (a : ℕ) (fs gs : List Fault) → IsListed l a fs → IsListed l a (fs ++ gs)
listed-front l a [] gs i = absurd i
listed-front l a (f ∷ fs) gs (inl e) = inl e
listed-front l a (f ∷ fs) gs (inr i) = inr (listed-front l a fs gs i)

-- and so is what is in the second
listed-back : (l : Line) (a : ℕ) (fs gs : List Fault) → IsListed l a gs → IsListed l a (fs ++ gs)
listed-back l a [] gs i = i
listed-back l a (f ∷ fs) gs i = inr (listed-back l a fs gs i)

-- what follows holds where that does
of-weak : (P Q : Line → ℕ → Type 0) (fs : List Fault) → ((k : Line) (a : ℕ) → P k a → Q k a) → AreOf P fs → AreOf Q fs
of-weak P Q [] w h = tt
of-weak P Q (f ∷ fs) w h = (w f.line f.address h.0, of-weak P Q fs w h.1)

-- a fact holds of both lists
of-both : (P : Line → ℕ → Type 0) (fs gs : List Fault) → AreOf P fs → AreOf P gs → AreOf P (fs ++ gs)
of-both P [] gs h k = k
of-both P (f ∷ fs) gs h k = (h.0, of-both P fs gs h.1 k)

-- a fault comes before both
before-both : (f : Fault) (fs gs : List Fault) → ComesBeforeAll f fs → ComesBeforeAll f gs → ComesBeforeAll f (fs ++ gs)
before-both f [] gs h k = k
before-both f (g ∷ fs) gs h k = (h.0, before-both f fs gs h.1 k)

module _ (d : Database) (v : VolumeState) (phase : ℕ) where
  -- both stand
  stand-both : (fs gs : List Fault) → AllStand d v phase fs → AllStand d v phase gs → AllStand d v phase (fs ++ gs)
  stand-both [] gs s t = t
  stand-both (f ∷ fs) gs s t = (s.0, s.1, stand-both fs gs s.2 t)

  -- a fault comes before those of which a fact holds
  before-all : (f : Fault) (gs : List Fault) (Q : Line → ℕ → Type 0) → phase_of f.line ≡ phase → ((l : Line) (b : ℕ) → phase_of l ≡ phase → Q l b → IsBefore f.line f.address l b)
      → AllStand d v phase gs → AreOf Q gs → ComesBeforeAll f gs
  before-all f [] Q of before s a = tt
  before-all f (g ∷ gs) Q of before s a = (inr (of ∙ sym s.0, before g.line g.address s.0 a.0), before-all f gs Q of before s.2 a.1)

  -- both ascend, the second behind the first
  ascend-both : (P Q : Line → ℕ → Type 0) (fs gs : List Fault) → ((k : Line) (a : ℕ) (l : Line) (b : ℕ) → phase_of k ≡ phase → P k a → phase_of l ≡ phase → Q l b → IsBefore k a l b)
      → AllStand d v phase fs → AreOf P fs → FaultsAscend fs → AllStand d v phase gs → AreOf Q gs → FaultsAscend gs → FaultsAscend (fs ++ gs)
  ascend-both P Q [] gs before s a up t b down = down
  ascend-both P Q (f ∷ fs) gs before s a up t b down = (
    before-both f fs gs up.0 (before-all f gs Q s.0 (λ l c of q. before f.line f.address l c s.0 a.0 of q) t b),
    ascend-both P Q fs gs before s.2 a.1 up.1 t b down,
  )

  -- what stands of one fact, and behind it what stands of another
  pub joined : (P Q : Line → ℕ → Type 0) (fs gs : List Fault) → ((k : Line) (a : ℕ) (l : Line) (b : ℕ) → phase_of k ≡ phase → P k a → phase_of l ≡ phase → Q l b → IsBefore k a l b)
      → AreStandingAmong d v phase P fs → AreStandingAmong d v phase Q gs → AreStandingAmong d v phase (λ k a. P k a ⊎ Q k a) (fs ++ gs)
  joined P Q fs gs before h g = record {
    stand = stand-both fs gs h.stand g.stand;
    among = of-both (λ k a. P k a ⊎ Q k a) fs gs (of-weak P (λ k a. P k a ⊎ Q k a) fs (λ k a p. inl p) h.among) (of-weak Q (λ k a. P k a ⊎ Q k a) gs (λ k a q. inr q) g.among);
    all = λ l a o of p s. elim p [
      | inl i ↦ listed-front l a fs gs (h.all l a o of i s)
      | inr i ↦ listed-back l a fs gs (g.all l a o of i s)
    ];
    ascend = ascend-both P Q fs gs before h.stand h.among h.ascend g.stand g.among g.ascend;
  }

  -- the same by another fact
  pub said-by : (P Q : Line → ℕ → Type 0) (fs : List Fault) → ((k : Line) (a : ℕ) → P k a → Q k a) → ((k : Line) (a o : ℕ) → phase_of k ≡ phase → Stands d v k a o → Q k a → P k a)
      → AreStandingAmong d v phase P fs → AreStandingAmong d v phase Q fs
  said-by P Q fs to back h = record {
    stand = h.stand;
    among = of-weak P Q fs to h.among;
    all = λ l a o of q s. h.all l a o of (back l a o of s q) s;
    ascend = h.ascend;
  }

  -- nothing stands of a fact
  pub none-among : (P : Line → ℕ → Type 0) → ((k : Line) (a o : ℕ) → phase_of k ≡ phase → Stands d v k a o → P k a → ⊥) → AreStandingAmong d v phase P []
  none-among P none = record { stand = tt; among = tt; all = λ l a o of p s. none l a o of s p; ascend = tt }

  -- where the fact holds of all that stands, these are all
  pub all-standing : (P : Line → ℕ → Type 0) (fs : List Fault) → ((k : Line) (a o : ℕ) → phase_of k ≡ phase → Stands d v k a o → P k a) → AreStandingAmong d v phase P fs → AreStanding d v phase fs
  all-standing P fs all h = record { stand = h.stand; all = λ l a o of s. h.all l a o of (all l a o of s) s; ascend = h.ascend }

  -- ---- one line at one address

  -- what is found of a line at an address
  pub told : (line : Line) (address : ℕ) (found : Option Fault) → phase_of line ≡ phase → IfNone found ((o : ℕ) → Stands d v line address o → ⊥)
      → IfSome found (λ f. (f.line ≡ line) × (f.address ≡ address) × Stands d v f.line f.address f.other) → AreStandingAmong d v phase (λ k a. (k ≡ line) × (a ≡ address)) (faults_of found)
  told line address None of none some = record {
    stand = tt;
    among = tt;
    all = λ k a o p at s. absurd (none o (subst (λ (l : Line). Stands d v l address o) at.0 (subst (λ (x : ℕ). Stands d v k x o) at.1 s)));
    ascend = tt;
  }
  told line address (Some f) of none some = record {
    stand = (ap phase_of some.0 ∙ of, some.2, tt);
    among = ((some.0, some.1), tt);
    all = λ k a o p at s. inl (some.0 ∙ sym at.0, some.1 ∙ sym at.1);
    ascend = (tt, tt);
  }

  -- a line stands where what it names is not 0
  pub told-if : (line : Line) (address other : ℕ) → phase_of line ≡ phase → ((o : ℕ) → Stands d v line address o → other ≢ 0) → (other ≢ 0 → Stands d v line address other)
      → AreStandingAmong d v phase (λ k a. (k ≡ line) × (a ≡ address)) (faults_of (fault_if line address other))
  told-if line address other of some stands =
      let f : Fault = record { line = line; address = address; other = other } in
      let P : Option Fault → Type 0 = λ o. AreStandingAmong d v phase (λ k a. (k ≡ line) × (a ≡ address)) (faults_of o) in
      elim (cases_eq other 0) [
        | inl e ↦ subst P (sym (cond-true (other == 0) None (Some f) (eq-eqb other 0 e))) (told line address None of (λ o s. some o s e) tt)
        | inr ne ↦ subst P (sym (cond-false (other == 0) None (Some f) (ne_eqb other 0 ne))) (told line address (Some f) of tt (refl, refl, stands ne))
      ]

  -- what is found at an address, where the phase has one line
  pub only-told : (line : Line) (address : ℕ) (found : Option Fault) → phase_of line ≡ phase → ((k : Line) → phase_of k ≡ phase → k ≡ line) → IfNone found ((o : ℕ) → Stands d v line address o → ⊥)
      → IfSome found (λ f. (f.line ≡ line) × (f.address ≡ address) × Stands d v f.line f.address f.other) → AreStandingAmong d v phase (λ k a. a ≡ address) (faults_of found)
  only-told line address found of only none some = said-by (λ k a. (k ≡ line) × (a ≡ address)) (λ k a. a ≡ address) (faults_of found) (λ k a e. e.1) (λ k a o p s at. (only k p, at)) (told line address found of none some)

-- two faults that are listed one behind the other, if they are found
pub two-listed : (old one two : List Fault) (x y : Option Fault) → one ≡ old ++ faults_of x → two ≡ one ++ faults_of y → two ≡ old ++ (faults_of x ++ faults_of y)
two-listed old one two x y first second = second ∙ ap (λ (l : List Fault). l ++ faults_of y) first ∙ append_assoc old (faults_of x) (faults_of y)

-- and three
pub three-listed : (old one two three : List Fault) (x y z : Option Fault) → one ≡ old ++ faults_of x → two ≡ one ++ faults_of y → three ≡ two ++ faults_of z
    → three ≡ old ++ (faults_of x ++ (faults_of y ++ faults_of z))
three-listed old one two three x y z first second third =
    two-listed one two three y z second third ∙ ap (λ (l : List Fault). l ++ (faults_of y ++ faults_of z)) first ∙ append_assoc old (faults_of x) (faults_of y ++ faults_of z)

-- a fault that is given by its fields
pub is-told : (d : Database) (v : VolumeState) (line : Line) (address other : ℕ) (f : Fault) → f ≡ record { line = line; address = address; other = other } → Stands d v line address other
    → (f.line ≡ line) × (f.address ≡ address) × Stands d v f.line f.address f.other
is-told d v line address other f is s = (ap (λ (g : Fault). g.line) is, ap (λ (g : Fault). g.address) is, subst (λ (g : Fault). Stands d v g.line g.address g.other) (sym is) s)

-- ---- the header, and place by place

-- the address is the header's, or that of one of so many places
abbrev pub IsSeen : List Place → ℕ → ℕ → Type 0
IsSeen ps n a = (a ≡ 0) ⊎ ((j : ℕ) × (j < n) × (j < length ps) × ((place_at ps j).address ≡ a))

module _ (d : Database) (v : VolumeState) (phase : ℕ) (ps : List Place) (places : ArePlaces d.types v ps) where
  -- what is seen stands before the next place
  seen-before : (n a : ℕ) → n < length ps → IsSeen ps n a → a < (place_at ps n).address
  seen-before n a within (inl e) = (let some = (places.there (place_at ps n) (among ps n within)).0.some in omega arith)
  seen-before n a within (inr s) = (let less = in-order ps s.0 n places.ascend s.1 within in let at = s.3 in omega arith)

  -- what stands at one more place is listed
  pub seen-more : (n : ℕ) (fs gs : List Fault) → n < length ps → AreStandingAmong d v phase (λ k a. IsSeen ps n a) fs → AreStandingAmong d v phase (λ k a. a ≡ (place_at ps n).address) gs
      → AreStandingAmong d v phase (λ k a. IsSeen ps (n + 1) a) (fs ++ gs)
  seen-more n fs gs within h g = said-by d v phase (λ k a. IsSeen ps n a ⊎ (a ≡ (place_at ps n).address)) (λ k a. IsSeen ps (n + 1) a) (fs ++ gs)
      (λ k a p. elim p [
        | inl s ↦ elim s [ inl e ↦ inl e | inr i ↦ inr (i.0, (let l = i.1 in omega arith), i.2, i.3) ]
        | inr e ↦ inr (n, omega arith, within, sym e)
      ])
      (λ k a o of s q. elim q [
        | inl e ↦ inl (inl e)
        | inr i ↦ elim (cases_lt i.0 n) [
          | inl less ↦ inl (inr (i.0, less, i.2, i.3))
          | inr high ↦ inr (sym i.3 ∙ ap (λ (j : ℕ). (place_at ps j).address) (let l = i.1 in let same : i.0 ≡ n = omega arith in same))
        ]
      ])
      (joined d v phase (λ k a. IsSeen ps n a) (λ k a. a ≡ (place_at ps n).address) fs gs (λ k a l b p s q e. inl (let less = seen-before n a within s in omega arith)) h g)

  -- all is listed where all places are seen
  pub seen-all : (n : ℕ) (fs : List Fault) → length ps ≤ n → ((k : Line) (a o : ℕ) → phase_of k ≡ phase → Stands d v k a o → (links_of d.types v).here a ≡ true)
      → AreStandingAmong d v phase (λ k a. IsSeen ps n a) fs → AreStanding d v phase fs
  seen-all n fs whole here h = all-standing d v phase (λ k a. IsSeen ps n a) fs (λ k a o of s. elim (cases_eq a 0) [
    | inl e ↦ inl e
    | inr ne ↦ (let i = number-of _ ps (places.all a (record { some = omega arith; here = here k a o of s })) in inr (i.0, (let l = i.1 in omega arith), i.1, ap (λ (p : Place). p.address) i.2))
  ]) h

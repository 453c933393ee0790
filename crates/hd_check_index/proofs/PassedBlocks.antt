-- Faults of index blocks that are listed block by block, in order of their addresses.
use Rattle.std.proofs.Common.{◌≡◌, ◌≢◌, ◌⊎◌, inl, inr, ℕ, ◌+◌, ◌*◌, ◌<◌, ◌≤◌, List, [], ◌++◌, Bool, true, false, cond, Option, Some, None, IfNone, IfSome, Result, Ok, Err, IfOk, refl, sym, ap, subst, ◌∙◌, arith}
use Rattle.std.proofs.Math.Nat.{mul-lt-mul_of_pos_right}
use Rattle.std.proofs.lemmas.Bool.{cases_lt, cases_order}
use Rattle.hd_dbd.specs.Hierarchy.{Database}
use Rattle.hd_dbd.specs.declared.answer.Refused.{Refused}
use Rattle.hd_dbd.specs.declared.answer.Refused.TheVariants.{Memory}
use Rattle.hd_volume.specs.Calls.{IsRead}
use Rattle.hd_volume.specs.Volumes.{VolumeState}
use Rattle.hd_image.specs.Standing.{Stands, phase_of}
use Rattle.hd_image.specs.declared.line.Line.{Line}
use Rattle.hd_check_blocks.specs.declared.fault.Fault.{Fault}
use Rattle.hd_check_blocks.specs.Listing.{AreStanding, faults_of}
use Rattle.hd_check_blocks.proofs.Listing.{AreStandingAmong, joined, said-by, none-among, all-standing, told}
use Rattle.hd_check_index.specs.Listed.{fault_unless, fault_naming}

-- the address is the header's, or one of the first so many
abbrev pub IsPassed : (ℕ → ℕ) → ℕ → ℕ → Type 0
IsPassed place n a = (a ≡ 0) ⊎ ((j : ℕ) × (j < n) × (place j ≡ a))

-- Addresses ascend, and are behind the header's.
pub record ArePlacesUp (place : ℕ → ℕ) (len : ℕ) : Type 0 where
  pub up : (i j : ℕ) → i < j → j < len → place i < place j
  pub some : (i : ℕ) → i < len → 0 < place i

-- a block behind block 0 begins behind the header
pub behind-header : (n size : ℕ) → 0 < n → 0 < size → 0 < n * size
behind-header n size some positive = (let l : 0 * size < n * size = mul-lt-mul_of_pos_right {m = 0} {n = n} {k = size} some positive in omega arith)

-- blocks at one address are one
pub one-number : (m n size : ℕ) → 0 < size → m * size ≡ n * size → m ≡ n
one-number m n size positive e = elim (cases_order m n) [
  | inl same ↦ same
  | inr (inl less) ↦ (let l : m * size < n * size = mul-lt-mul_of_pos_right {m = m} {n = n} {k = size} less positive in absurd (omega arith))
  | inr (inr more) ↦ (let l : n * size < m * size = mul-lt-mul_of_pos_right {m = n} {n = m} {k = size} more positive in absurd (omega arith))
]

-- the addresses of blocks whose numbers ascend
pub numbers-up : (number : ℕ → ℕ) (len size : ℕ) → 0 < size → ((i j : ℕ) → i < j → j < len → number i < number j) → ((i : ℕ) → i < len → 0 < number i) → ArePlacesUp (λ i. number i * size) len
numbers-up number len size positive up some = record {
  up = λ i j less within. mul-lt-mul_of_pos_right {m = number i} {n = number j} {k = size} (up i j less within) positive;
  some = λ i within. behind-header (number i) size (some i within) positive;
}

module _ (d : Database) (v : VolumeState) (p : ℕ) where
  -- at first nothing is passed but the header, where nothing stands
  pub none-passed : (place : ℕ → ℕ) → ((k : Line) (a o : ℕ) → phase_of k ≡ p → Stands d v k a o → a ≢ 0) → AreStandingAmong d v p (λ k a. IsPassed place 0 a) []
  none-passed place some = none-among d v p (λ k a. IsPassed place 0 a) (λ k a o is s q. elim q [ inl e ↦ some k a o is s e | inr i ↦ (let l = i.1 in omega arith) ])

  -- or the header is
  pub header-passed : (place : ℕ → ℕ) (fs : List Fault) → AreStandingAmong d v p (λ k a. a ≡ 0) fs → AreStandingAmong d v p (λ k a. IsPassed place 0 a) fs
  header-passed place fs h = said-by d v p (λ k a. a ≡ 0) (λ k a. IsPassed place 0 a) fs (λ k a e. inl e) (λ k a o is s q. elim q [ inl e ↦ e | inr i ↦ (let l = i.1 in absurd (omega arith)) ]) h

  module _ (place : ℕ → ℕ) (len : ℕ) (h : ArePlacesUp place len) where
    -- what is passed stands before the next block
    passed-before : (n a : ℕ) → n < len → IsPassed place n a → a < place n
    passed-before n a within (inl e) = (let s = h.some n within in omega arith)
    passed-before n a within (inr i) = (let less = h.up i.0 n i.1 within in let same = i.2 in omega arith)

    -- what stands at one more block is listed
    pub passed-more : (n : ℕ) (fs gs : List Fault) → n < len → AreStandingAmong d v p (λ k a. IsPassed place n a) fs → AreStandingAmong d v p (λ k a. a ≡ place n) gs → AreStandingAmong d v p (λ k a. IsPassed place (n + 1) a) (fs ++ gs)
    passed-more n fs gs within f g = said-by d v p (λ k a. IsPassed place n a ⊎ (a ≡ place n)) (λ k a. IsPassed place (n + 1) a) (fs ++ gs)
        (λ k a q. elim q [
          | inl s ↦ elim s [ inl e ↦ inl e | inr i ↦ inr (i.0, (let l = i.1 in omega arith), i.2) ]
          | inr e ↦ inr (n, omega arith, sym e)
        ])
        (λ k a o of s q. elim q [
          | inl e ↦ inl (inl e)
          | inr i ↦ elim (cases_lt i.0 n) [
            | inl less ↦ inl (inr (i.0, less, i.2))
            | inr high ↦ inr (sym i.2 ∙ ap place (let l = i.1 in let same : i.0 ≡ n = omega arith in same))
          ]
        ])
        (joined d v p (λ k a. IsPassed place n a) (λ k a. a ≡ place n) fs gs (λ k a l b is s other e. inl (let less = passed-before n a within s in omega arith)) f g)

  -- all is listed where all blocks are passed
  pub passed-all : (place : ℕ → ℕ) (len n : ℕ) (fs : List Fault) → len ≤ n → ((k : Line) (a o : ℕ) → phase_of k ≡ p → Stands d v k a o → IsPassed place len a) → AreStandingAmong d v p (λ k a. IsPassed place n a) fs → AreStanding d v p fs
  passed-all place len n fs whole all h = all-standing d v p (λ k a. IsPassed place n a) fs
      (λ k a o of s. elim (all k a o of s) [ inl e ↦ inl e | inr i ↦ inr (i.0, (let l = i.1 in omega arith), i.2) ]) h

  -- ---- one block

  -- what is found at an address, where one line of the phase stands
  pub told-here : (line : Line) (address : ℕ) (found : Option Fault) → phase_of line ≡ p → ((k : Line) (o : ℕ) → phase_of k ≡ p → Stands d v k address o → k ≡ line) → IfNone found ((o : ℕ) → Stands d v line address o → ⊥)
      → IfSome found (λ f. (f.line ≡ line) × (f.address ≡ address) × Stands d v f.line f.address f.other) → AreStandingAmong d v p (λ k a. a ≡ address) (faults_of found)
  told-here line address found of only none some = said-by d v p (λ k a. (k ≡ line) × (a ≡ address)) (λ k a. a ≡ address) (faults_of found) (λ k a e. e.1)
      (λ k a o is s same. (only k o is (subst (λ (b : ℕ). Stands d v k b o) same s), same)) (told d v p line address found of none some)

  -- a block that was judged
  pub told-unless : (line : Line) (address other : ℕ) (right : Bool) → phase_of line ≡ p → ((k : Line) (o : ℕ) → phase_of k ≡ p → Stands d v k address o → k ≡ line) → (right ≡ true → (o : ℕ) → Stands d v line address o → ⊥)
      → (right ≡ false → Stands d v line address other) → AreStandingAmong d v p (λ k a. a ≡ address) (faults_of (cond right None (Some (record { line = line; address = address; other = other }))))
  told-unless line address other true of only good bad = told-here line address None of only (good refl) tt
  told-unless line address other false of only good bad = told-here line address (Some (record { line = line; address = address; other = other })) of only tt (refl, refl, bad refl)

  -- a block in which something was found, or nothing
  pub told-naming : (line : Line) (address : ℕ) (found : Option ℕ) → phase_of line ≡ p → ((k : Line) (o : ℕ) → phase_of k ≡ p → Stands d v k address o → k ≡ line) → IfNone found ((o : ℕ) → Stands d v line address o → ⊥)
      → IfSome found (λ other. Stands d v line address other) → AreStandingAmong d v p (λ k a. a ≡ address) (faults_of (fault_naming found line address))
  told-naming line address None of only none some = told-here line address None of only none tt
  told-naming line address (Some other) of only none some = told-here line address (Some (record { line = line; address = address; other = other })) of only tt (refl, refl, some)

-- a list with one more fault, if it was found
pub one-more : (old new : List Fault) (x y : Option Fault) → new ≡ old ++ faults_of x → x ≡ y → new ≡ old ++ faults_of y
one-more old new x y more is = more ∙ ap (λ (o : Option Fault). old ++ faults_of o) is

-- the fault of a block whose address is told by a size that is the volume's
pub unless-at : (right : Bool) (line : Line) (n size own : ℕ) (found : Option Fault) → size ≡ own → n * own < 4294967296 → (n * size < 4294967296 → found ≡ fault_unless right line (n * size)) → found ≡ fault_unless right line (n * own)
unless-at right line n size own found same fits is = (let F : ℕ → Type 0 = λ z. n * z < 4294967296 → found ≡ fault_unless right line (n * z) in subst F same is fits)

pub naming-at : (other : Option ℕ) (line : Line) (n size own : ℕ) (found : Option Fault) → size ≡ own → n * own < 4294967296 → (n * size < 4294967296 → found ≡ fault_naming other line (n * size)) → found ≡ fault_naming other line (n * own)
naming-at other line n size own found same fits is = (let F : ℕ → Type 0 = λ z. n * z < 4294967296 → found ≡ fault_naming other line (n * z) in subst F same is fits)

-- what holds of an answer where a premise does, where that answer is given on
pub where-ok : {A : Type 0} {S : Type 0} (P : A → Type 0) (r : Result A Refused) → (S → IfOk r P) → IfOk r (λ x. S → P x)
where-ok P (Ok x) h = h
where-ok P (Err e) h = tt

-- what a read says holds where memory is refused behind it
pub read-memory : {A B : Type 0} {u v : VolumeState} {x : A} → IsRead {T = A} u (Ok x) v → IsRead {T = B} u (Err Memory) v
read-memory h = record {
  call = record { counts = h.call.counts; sound = h.call.sound; committed = h.call.committed; size = h.call.size; sizes = h.call.sizes; first = h.call.first; plain = h.call.plain; space = h.call.space };
  image = h.image;
  stands = h.stands;
  room = h.room;
}

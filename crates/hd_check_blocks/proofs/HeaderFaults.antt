-- The least fault of the first phase is what is wrong with the header.
use Rattle.std.proofs.Common.{◌≡◌, ◌≢◌, ◌⊎◌, inl, inr, ℕ, ◌<◌, ◌≤◌, List, [], ◌∷◌, ◌++◌, Bool, true, false, Some, None, length, refl, sym, ap, subst, ◌∙◌, arith}
use Rattle.hd_bytes.specs.Blocks.{HasBlock}
use Rattle.hd_bytes.proofs.BlockLemmas.{length-block}
use Rattle.hd_dbd.specs.Hierarchy.{Database}
use Rattle.hd_volume.specs.Headers.{Header, HasHeader, header_of}
use Rattle.hd_volume.specs.Volumes.{VolumeState, block_at}
use Rattle.hd_volume.proofs.FrameLemmas.{header-same}
use Rattle.hd_volume.proofs.CreateLemmas.{own-block}
use Rattle.hd_image.specs.BlockFaults.{IsKnownVersion}
use Rattle.hd_image.specs.Standing.{Stands, phase_of, number_of, ComesBefore}
use Rattle.hd_image.specs.declared.line.Line.{Line}
use Rattle.hd_image.specs.declared.line.Line.TheVariants.{NoVolume, NoVersion, AnotherDatabase, WrongChain, WrongPlace, NoKind, Deleted, NamesNothing, NamesAnother, TwoPredecessors, NoPredecessor, WrongBackward, WrongLast, OutOfOrder, NotReached, WrongTop, WrongForm, NamedTwice, UnreachedBlock, WrongNext, EntryOutOfOrder, WrongEntry, NoEntry}
use Rattle.hd_check_blocks.specs.declared.fault.Fault.{Fault}
use Rattle.hd_check_blocks.specs.Phases.{CountsImage, IsNamed, IsWrongHeader, IsHeaderRight, IsLeastOf}
use Rattle.hd_check_blocks.specs.Listing.{IsListed, AreStanding, faults_of, fault_unless}
use Rattle.hd_check_blocks.specs.Heads.{AreHeadsListed}
use Rattle.hd_check_blocks.proofs.Listing.{AreStandingAmong, joined, said-by, all-standing, told}

-- a line of the first phase
pub first-lines : (P : Line → Type 0) → P NoVolume → P NoVersion → P AnotherDatabase → (k : Line) → phase_of k ≡ 1 → P k
first-lines P a b c NoVolume h = a
first-lines P a b c NoVersion h = b
first-lines P a b c AnotherDatabase h = c
first-lines P a b c WrongChain h = absurd (omega arith)
first-lines P a b c WrongPlace h = absurd (omega arith)
first-lines P a b c NoKind h = absurd (omega arith)
first-lines P a b c Deleted h = absurd (omega arith)
first-lines P a b c NamesNothing h = absurd (omega arith)
first-lines P a b c NamesAnother h = absurd (omega arith)
first-lines P a b c TwoPredecessors h = absurd (omega arith)
first-lines P a b c NoPredecessor h = absurd (omega arith)
first-lines P a b c WrongBackward h = absurd (omega arith)
first-lines P a b c WrongLast h = absurd (omega arith)
first-lines P a b c OutOfOrder h = absurd (omega arith)
first-lines P a b c NotReached h = absurd (omega arith)
first-lines P a b c WrongTop h = absurd (omega arith)
first-lines P a b c WrongForm h = absurd (omega arith)
first-lines P a b c NamedTwice h = absurd (omega arith)
first-lines P a b c UnreachedBlock h = absurd (omega arith)
first-lines P a b c WrongNext h = absurd (omega arith)
first-lines P a b c EntryOutOfOrder h = absurd (omega arith)
first-lines P a b c WrongEntry h = absurd (omega arith)
first-lines P a b c NoEntry h = absurd (omega arith)

-- at one address of one phase the lesser number comes first
lesser : (k l : Line) (a b : ℕ) → phase_of k ≡ phase_of l → (a < b → ⊥) → ComesBefore k a l b → number_of k a < number_of l b
lesser k l a b same low (inl p) = absurd (omega arith)
lesser k l a b same low (inr (p, inl less)) = absurd (low less)
lesser k l a b same low (inr (p, inr both)) = both.1

-- what comes before line l at address 0 has a lesser number
before-zero : (d : Database) (v : VolumeState) (l : Line) → phase_of l ≡ 1 → (k : Line) (a o : ℕ) → phase_of k ≡ 1 → ComesBefore k a l 0 → number_of k a < number_of l 0
before-zero d v l one k a o is before = lesser k l a 0 (is ∙ sym one) (λ e. omega arith) before

-- where there is no header nothing comes before that
pub wrong-first : (d : Database) (v : VolumeState) → (HasHeader d.block_size v.image → ⊥) → IsLeastOf d v 1 (record { line = NoVolume; address = 0; other = 0 })
wrong-first d v none = record {
  of = refl;
  stands = (none, refl, refl);
  least = λ k a o is stands before.
      (let less = before-zero d v NoVolume refl k a o is before in
      first-lines (λ x. number_of x a < 1 → ⊥) (λ n. omega arith) (λ n. omega arith) (λ n. omega arith) k is less);
}

-- where the version is not known, with a header
wrong-second : (d : Database) (v : VolumeState) → HasHeader d.block_size v.image → (IsKnownVersion d.types (header_of v.image).version → ⊥)
    → IsLeastOf d v 1 (record { line = NoVersion; address = 0; other = (header_of v.image).version })
wrong-second d v right unknown = record {
  of = refl;
  stands = (unknown, refl, refl);
  least = λ k a o is stands before.
      (let less = before-zero d v NoVersion refl k a o is before in
      first-lines (λ x. Stands d v x a o → number_of x a < 2 → ⊥) (λ s n. s.0 right) (λ s n. omega arith) (λ s n. omega arith) k is stands less);
}

-- where the header is of another database
wrong-third : (d : Database) (v : VolumeState) → HasHeader d.block_size v.image → IsKnownVersion d.types (header_of v.image).version
    → ((header_of v.image).name ≢ d.name) ⊎ ((header_of v.image).block_size ≢ d.block_size) → IsLeastOf d v 1 (record { line = AnotherDatabase; address = 0; other = 0 })
wrong-third d v right known other = record {
  of = refl;
  stands = (other, refl, refl);
  least = λ k a o is stands before.
      (let less = before-zero d v AnotherDatabase refl k a o is before in
      first-lines (λ x. Stands d v x a o → number_of x a < 3 → ⊥) (λ s n. s.0 right) (λ s n. s.0 known) (λ s n. omega arith) k is stands less);
}

module _ (d : Database) (v : VolumeState) (size : v.size ≡ d.block_size) (least : 128 ≤ v.size) (there : HasBlock v.size v.image 0) where
  -- the header of block 0 alone is that of the image
  pub head-is : header_of (block_at v 0) ≡ header_of v.image
  head-is =
      let len : length (block_at v 0) ≡ v.size = length-block v.size 0 v.image there in
      header-same v.size (block_at v 0) v.image (omega arith) (omega arith) there (own-block v.size (block_at v 0) len)

  -- a header that counts the image is one
  whole-header : CountsImage v.size (length v.image) (header_of v.image) → HasHeader d.block_size v.image
  whole-header c = subst (λ (s : ℕ). HasHeader s v.image) size (record { first = there; mark = c.mark; whole = c.whole; within = c.within; bound = c.bound })

  -- and counts it
  counted : HasHeader d.block_size v.image → CountsImage v.size (length v.image) (header_of v.image)
  counted h = (let x = subst (λ (s : ℕ). HasHeader s v.image) (sym size) h in record { mark = x.mark; whole = x.whole; within = x.within; bound = x.bound })

  -- a right header of block 0 is the right header
  pub header-right : CountsImage v.size (length v.image) (header_of (block_at v 0)) × IsKnownVersion d.types (header_of (block_at v 0)).version × IsNamed d (header_of (block_at v 0)) → IsHeaderRight d v
  header-right h =
      let P : Header → Type 0 = λ x. CountsImage v.size (length v.image) x × IsKnownVersion d.types x.version × IsNamed d x in
      let g = subst P head-is h in
      record { header = whole-header g.0; known = record { version_is = g.1; name_is = g.2.0; size_is = g.2.1 } }

  -- by the three lines of the phase
  wrong-by : (f : Fault) → IsWrongHeader d v.size (length v.image) (header_of v.image) f → IsLeastOf d v 1 f
  wrong-by f (inl w) = subst (IsLeastOf d v 1) (sym w.0) (wrong-first d v (λ h. w.1 (counted h)))
  wrong-by f (inr (inl w)) = subst (IsLeastOf d v 1) (sym w.0) (wrong-second d v (whole-header w.1) w.2)
  wrong-by f (inr (inr w)) = subst (IsLeastOf d v 1) (sym w.0) (wrong-third d v (whole-header w.1) w.2 w.3)

  -- a wrong header of block 0 is the least fault
  pub header-wrong : (f : Fault) → IsWrongHeader d v.size (length v.image) (header_of (block_at v 0)) f → IsLeastOf d v 1 f
  header-wrong f w = wrong-by f (subst (λ (h : Header). IsWrongHeader d v.size (length v.image) h f) head-is w)

-- ---- all that is wrong with a header

-- what stands of the first phase stands at the header
at-zero : (d : Database) (v : VolumeState) (k : Line) (a o : ℕ) → phase_of k ≡ 1 → Stands d v k a o → a ≡ 0
at-zero d v k a o one = first-lines (λ x. Stands d v x a o → a ≡ 0) (λ s. s.1) (λ s. s.1) (λ s. s.1) k one

-- a line that stands at the header unless that is right
unless-told : (d : Database) (v : VolumeState) (line : Line) (right : Bool) (other : ℕ) → phase_of line ≡ 1 → (right ≡ true → (o : ℕ) → Stands d v line 0 o → ⊥) → (right ≡ false → Stands d v line 0 other)
    → AreStandingAmong d v 1 (λ k a. (k ≡ line) × (a ≡ 0)) (faults_of (fault_unless right line other))
unless-told d v line true other one none some = told d v 1 line 0 None one (none refl) tt
unless-told d v line false other one none some = told d v 1 line 0 (Some (record { line = line; address = 0; other = other })) one tt (refl, refl, some refl)

-- of two lines at the header the lesser number comes first
by-number : (k : Line) (a : ℕ) (l : Line) (b m n : ℕ) → a ≡ 0 → b ≡ 0 → number_of k a ≡ m → number_of l b ≡ n → m < n → (a < b) ⊎ ((a ≡ b) × (number_of k a < number_of l b))
by-number k a l b m n e f p q less = inr (e ∙ sym f, omega arith)

module _ (d : Database) (v : VolumeState) (size : v.size ≡ d.block_size) (least : 128 ≤ v.size) (there : HasBlock v.size v.image 0) where
  -- what is wrong with a header by itself is all that stands
  heads-by : (counts known named : Bool) → (counts ≡ true → CountsImage v.size (length v.image) (header_of v.image)) → (counts ≡ false → CountsImage v.size (length v.image) (header_of v.image) → ⊥)
      → (known ≡ true → IsKnownVersion d.types (header_of v.image).version) → (known ≡ false → IsKnownVersion d.types (header_of v.image).version → ⊥)
      → (named ≡ true → IsNamed d (header_of v.image)) → (named ≡ false → ((header_of v.image).name ≢ d.name) ⊎ ((header_of v.image).block_size ≢ d.block_size))
      → AreStanding d v 1 (faults_of (fault_unless counts NoVolume 0) ++ (faults_of (fault_unless known NoVersion (header_of v.image).version) ++ faults_of (fault_unless named AnotherDatabase 0)))
  heads-by counts known named c c' k k' n n' =
      all-standing d v 1 (λ l a. ((l ≡ NoVolume) × (a ≡ 0)) ⊎ (((l ≡ NoVersion) × (a ≡ 0)) ⊎ ((l ≡ AnotherDatabase) × (a ≡ 0)))) _
      (λ l a o one s. first-lines (λ x. ((x ≡ NoVolume) × (a ≡ 0)) ⊎ (((x ≡ NoVersion) × (a ≡ 0)) ⊎ ((x ≡ AnotherDatabase) × (a ≡ 0))))
      (inl (refl, at-zero d v l a o one s)) (inr (inl (refl, at-zero d v l a o one s))) (inr (inr (refl, at-zero d v l a o one s))) l one)
      (joined d v 1 (λ l a. (l ≡ NoVolume) × (a ≡ 0)) (λ l a. ((l ≡ NoVersion) × (a ≡ 0)) ⊎ ((l ≡ AnotherDatabase) × (a ≡ 0))) (faults_of (fault_unless counts NoVolume 0)) _
      (λ x a y b p e q f. elim f [
        | inl g ↦ by-number x a y b 1 2 e.1 g.1 (ap (λ (z : Line). number_of z a) e.0) (ap (λ (z : Line). number_of z b) g.0) (omega arith)
        | inr g ↦ by-number x a y b 1 3 e.1 g.1 (ap (λ (z : Line). number_of z a) e.0) (ap (λ (z : Line). number_of z b) g.0) (omega arith)
      ])
      (unless-told d v NoVolume counts 0 refl (λ is o s. s.0 (whole-header d v size least there (c is))) (λ is. (λ h. c' is (counted d v size least there h), refl, refl)))
      (joined d v 1 (λ l a. (l ≡ NoVersion) × (a ≡ 0)) (λ l a. (l ≡ AnotherDatabase) × (a ≡ 0)) (faults_of (fault_unless known NoVersion (header_of v.image).version)) (faults_of (fault_unless named AnotherDatabase 0))
      (λ x a y b p e q g. by-number x a y b 2 3 e.1 g.1 (ap (λ (z : Line). number_of z a) e.0) (ap (λ (z : Line). number_of z b) g.0) (omega arith))
      (unless-told d v NoVersion known (header_of v.image).version refl (λ is o s. s.0 (k is)) (λ is. (k' is, refl, refl)))
      (unless-told d v AnotherDatabase named 0 refl (λ is o s. elim s.0 [ inl x ↦ x (n is).0 | inr x ↦ x (n is).1 ]) (λ is. (n' is, refl, refl)))))

  -- what is listed of the header of block 0 is all that stands
  pub heads-standing : (new : List Fault) → AreHeadsListed d v.size (length v.image) (header_of (block_at v 0)) [] new → AreStanding d v 1 new
  heads-standing new is =
      let h = subst (λ (x : Header). AreHeadsListed d v.size (length v.image) x [] new) (head-is d v size least there) is in
      subst (AreStanding d v 1) (sym h.new_is) (heads-by h.counts h.known h.named h.counts_right h.counts_wrong h.known_right h.known_wrong h.named_right h.named_wrong)

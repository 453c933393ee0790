-- The least fault of the second phase is what is wrong with the first wrong block.
use Rattle.std.proofs.Common.{◌≡◌, ◌≢◌, ◌⊎◌, inl, inr, ℕ, ◌+◌, ◌*◌, ◌<◌, ◌≤◌, List, slice_index, [], ◌∷◌, ◌++◌, Option, Some, None, IfNone, IfSome, refl, sym, ap, subst, ◌∙◌, arith}
use Rattle.std.proofs.lemmas.Bool.{cases_order, cases_lt}
use Rattle.hd_bytes.specs.Blocks.{HasBlock}
use Rattle.std.proofs.lemmas.Nat.{row_fits}
use Rattle.hd_bytes.proofs.BlockLemmas.{length-block}
use Rattle.hd_dbd.specs.Hierarchy.{Database}
use Rattle.hd_volume.specs.Headers.{HasHeader, header_of}
use Rattle.hd_volume.specs.Volumes.{VolumeState, block_at, kind_of}
use Rattle.hd_volume.proofs.KindLemmas.{below-count}
use Rattle.hd_image.specs.BlockFaults.{HasFreeElements, IsWrongPlace}
use Rattle.hd_image.specs.Standing.{Stands, phase_of, number_of, ComesBefore}
use Rattle.hd_image.specs.declared.line.Line.{Line}
use Rattle.hd_image.specs.declared.line.Line.TheVariants.{NoVolume, NoVersion, AnotherDatabase, WrongChain, WrongPlace, NoKind, Deleted, NamesNothing, NamesAnother, TwoPredecessors, NoPredecessor, WrongBackward, WrongLast, OutOfOrder, NotReached, WrongTop, WrongForm, NamedTwice, UnreachedBlock, WrongNext, EntryOutOfOrder, WrongEntry, NoEntry}
use Rattle.hd_image.proofs.BlockNoFault.{divided-chain, divided-place, one-wrong-place}
use Rattle.hd_check_blocks.specs.declared.fault.Fault.{Fault}
use Rattle.hd_check_blocks.specs.Phases.{IsRightBlock, IsWrongAt, IsWrongBlock, AreBlocksRight, IsLeastOf}
use Rattle.hd_check_blocks.specs.Listing.{IsListed, AreStanding, faults_of}
use Rattle.hd_check_blocks.proofs.Listing.{AreStandingAmong, joined, said-by, none-among, all-standing}

-- a line of the second phase
pub second-lines : (P : Line → Type 0) → P WrongChain → P WrongPlace → P NoKind → (k : Line) → phase_of k ≡ 2 → P k
second-lines P a b c NoVolume h = absurd (omega arith)
second-lines P a b c NoVersion h = absurd (omega arith)
second-lines P a b c AnotherDatabase h = absurd (omega arith)
second-lines P a b c WrongChain h = a
second-lines P a b c WrongPlace h = b
second-lines P a b c NoKind h = c
second-lines P a b c Deleted h = absurd (omega arith)
second-lines P a b c NamesNothing h = absurd (omega arith)
second-lines P a b c NamesAnother h = absurd (omega arith)
second-lines P a b c TwoPredecessors h = absurd (omega arith)
second-lines P a b c NoPredecessor h = absurd (omega arith)
second-lines P a b c WrongBackward h = absurd (omega arith)
second-lines P a b c WrongLast h = absurd (omega arith)
second-lines P a b c OutOfOrder h = absurd (omega arith)
second-lines P a b c NotReached h = absurd (omega arith)
second-lines P a b c WrongTop h = absurd (omega arith)
second-lines P a b c WrongForm h = absurd (omega arith)
second-lines P a b c NamedTwice h = absurd (omega arith)
second-lines P a b c UnreachedBlock h = absurd (omega arith)
second-lines P a b c WrongNext h = absurd (omega arith)
second-lines P a b c EntryOutOfOrder h = absurd (omega arith)
second-lines P a b c WrongEntry h = absurd (omega arith)
second-lines P a b c NoEntry h = absurd (omega arith)

-- Block n is wrong by itself at a place, as a line of the second phase says.
abbrev pub IsWrongIn : VolumeState → ℕ → Line → ℕ → Type 0
IsWrongIn v n k place =
    ((k ≡ WrongChain) × (place ≡ 0) × (kind_of (block_at v n) ≡ 1) × ((places : List ℕ) → HasFreeElements (block_at v n) places → ⊥))
    ⊎ (((k ≡ WrongPlace) × (kind_of (block_at v n) ≡ 1) × IsWrongAt v.sizes (block_at v n) place)
    ⊎ ((k ≡ NoKind) × (place ≡ 0) × (kind_of (block_at v n) ≢ 1) × (kind_of (block_at v n) ≢ 2) × (kind_of (block_at v n) ≢ 3)))

-- What a fault of the second phase says of the block where it stands.
record Wrong (v : VolumeState) (k : Line) (a : ℕ) : Type 0 where
  n : ℕ
  there : HasBlock v.size v.image n
  later : 0 < n
  place : ℕ
  at : a ≡ n * v.size + place
  short : place < v.size
  is : IsWrongIn v n k place

-- what stands in the second phase says that a block is wrong
wrong-of : (d : Database) (v : VolumeState) (k : Line) (a o : ℕ) → 0 < v.size → phase_of k ≡ 2 → Stands d v k a o → Wrong v k a
wrong-of d v k a o some two = second-lines (λ x. Stands d v x a o → Wrong v x a)
    (λ s. record { n = s.0; there = s.1.there; later = s.1.later; place = 0; at = (let e = s.3 in omega arith); short = some; is = inl (refl, refl, s.1.kind_is, s.2) })
    (λ s. (let w : IsWrongPlace v a o = s in
    record {
      n = w.0;
      there = w.4.there;
      later = w.4.later;
      place = w.1;
      at = w.9;
      short = (let l = w.7 in let len = length-block v.size w.0 v.image w.4.there in omega arith);
      is = inr (inl (refl, w.4.kind_is, (w.2, w.3, w.5, w.6, w.7, w.8)));
    }))
    (λ s. record { n = s.0; there = s.1; later = s.2; place = 0; at = (let e = s.6 in omega arith); short = some; is = inr (inr (refl, refl, s.3, s.4, s.5)) })
    k two

-- a right block is not wrong
right-not-wrong : (v : VolumeState) (n : ℕ) (k : Line) (place : ℕ) → IsWrongIn v n k place → IsRightBlock v.sizes (block_at v n) → ⊥
right-not-wrong v n k place (inl c) r = divided-chain v.sizes (block_at v n) (r.divided c.2) c.3
right-not-wrong v n k place (inr (inl c)) r = (let at = c.2 in divided-place v.sizes (block_at v n) at.0 at.1 place (r.divided c.1) at.2 at.3 at.4 at.5)
right-not-wrong v n k place (inr (inr c)) r = elim r.kind [ inl one ↦ c.2 one | inr (inl two) ↦ c.3 two | inr (inr three) ↦ c.4 three ]

-- two faults of one block are one
same-wrong : (v : VolumeState) (n : ℕ) (k l : Line) (p q : ℕ) → IsWrongIn v n k p → IsWrongIn v n l q → (k ≡ l) × (p ≡ q)
same-wrong v n k l p q (inl c) (inl e) = (c.0 ∙ sym e.0, c.1 ∙ sym e.1)
same-wrong v n k l p q (inl c) (inr (inl e)) = absurd (let at = e.2 in c.3 at.0 at.2)
same-wrong v n k l p q (inl c) (inr (inr e)) = absurd (e.2 c.2)
same-wrong v n k l p q (inr (inl c)) (inl e) = absurd (let at = c.2 in e.3 at.0 at.2)
same-wrong v n k l p q (inr (inl c)) (inr (inl e)) =
    let x = c.2 in
    let y = e.2 in
    (c.0 ∙ sym e.0, one-wrong-place v.sizes (block_at v n) x.0 y.0 x.1 y.1 p q x.2 y.2 x.3 y.3 x.5 y.5)
same-wrong v n k l p q (inr (inl c)) (inr (inr e)) = absurd (e.2 c.1)
same-wrong v n k l p q (inr (inr c)) (inl e) = absurd (c.2 e.2)
same-wrong v n k l p q (inr (inr c)) (inr (inl e)) = absurd (c.2 e.1)
same-wrong v n k l p q (inr (inr c)) (inr (inr e)) = (c.0 ∙ sym e.0, c.1 ∙ sym e.1)

-- nothing comes before itself
not-itself : (k l : Line) (a b : ℕ) → k ≡ l → a ≡ b → ComesBefore k a l b → ⊥
not-itself k l a b e f (inl p) = (let q = ap phase_of e in omega arith)
not-itself k l a b e f (inr (p, inl less)) = omega arith
not-itself k l a b e f (inr (p, inr both)) = (let m : number_of k a ≡ number_of l b = ap (λ (x : Line). number_of x a) e ∙ ap (number_of l) f in let n = both.1 in omega arith)

-- what comes before stands at no higher address
no-higher : (k l : Line) (a b : ℕ) → phase_of k ≡ phase_of l → ComesBefore k a l b → a ≤ b
no-higher k l a b e (inl p) = absurd (omega arith)
no-higher k l a b e (inr (p, inl less)) = omega arith
no-higher k l a b e (inr (p, inr both)) = (let f = both.0 in omega arith)

-- the first wrong block has the least fault
pub least-of : (d : Database) (v : VolumeState) (n : ℕ) (place : ℕ) (f : Fault) → 0 < v.size → ((m : ℕ) → 0 < m → m < n → IsRightBlock v.sizes (block_at v m))
    → phase_of f.line ≡ 2 → f.address ≡ n * v.size + place → place < v.size → IsWrongIn v n f.line place → Stands d v f.line f.address f.other → IsLeastOf d v 2 f
least-of d v n place f some right two at short wrong stands = record {
  of = two;
  stands = stands;
  least = λ l a o is other before.
      (let w = wrong-of d v l a o some is other in
      let low = no-higher l f.line a f.address (is ∙ sym two) before in
      let wat = w.at in
      let wshort = w.short in
      elim (cases_order w.n n) [
        | inr (inl less) ↦ right-not-wrong v w.n l w.place w.is (right w.n w.later less)
        | inl same ↦
            (let W : ℕ → Type 0 = λ m. IsWrongIn v m l w.place in
            let both = same-wrong v n l f.line w.place place (subst W same w.is) wrong in
            not-itself l f.line a f.address both.0 (wat ∙ ap (λ (m : ℕ). m * v.size + w.place) same ∙ ap (λ (p : ℕ). n * v.size + p) both.1 ∙ sym at) before)
        | inr (inr more) ↦ (let fits : n * v.size + v.size ≤ w.n * v.size = row_fits n v.size w.n v.size more (omega arith) in omega arith)
      ]);
}

-- what is wrong with the first wrong block is the least fault
pub wrong-least : (d : Database) (v : VolumeState) (n : ℕ) (f : Fault) → 0 < v.size → HasBlock v.size v.image n → 0 < n → ((m : ℕ) → 0 < m → m < n → IsRightBlock v.sizes (block_at v m))
    → IsWrongBlock v.sizes (block_at v n) (n * v.size) f → IsLeastOf d v 2 f
wrong-least d v n f some there later right (inl c) =
    let W : Fault → Type 0 = λ x. IsLeastOf d v 2 x in
    subst W (sym c.0) (least-of d v n 0 (record { line = WrongChain; address = n * v.size; other = 0 }) some right refl (omega arith) some
    (inl (refl, refl, c.1, c.2)) (n, record { there = there; later = later; kind_is = c.1 }, c.2, refl, refl))
wrong-least d v n f some there later right (inr (inl c)) =
    let W : Fault → Type 0 = λ x. IsLeastOf d v 2 x in
    let at = c.3 in
    let short : c.0 < v.size = (let l = at.4 in let len = length-block v.size n v.image there in omega arith) in
    subst W (sym c.1) (least-of d v n c.0 (record { line = WrongPlace; address = n * v.size + c.0; other = 0 }) some right refl refl short
    (inr (inl (refl, c.2, at))) (n, c.0, at.0, at.1, record { there = there; later = later; kind_is = c.2 }, at.2, at.3, at.4, at.5, refl, refl))
wrong-least d v n f some there later right (inr (inr c)) =
    let W : Fault → Type 0 = λ x. IsLeastOf d v 2 x in
    subst W (sym c.0) (least-of d v n 0 (record { line = NoKind; address = n * v.size; other = 0 }) some right refl (omega arith) some
    (inr (inr (refl, refl, c.1, c.2, c.3))) (n, there, later, c.1, c.2, c.3, refl, refl))

-- all blocks that the header counts are right
pub all-right : (v : VolumeState) → HasHeader v.size v.image → 0 < v.size → ((m : ℕ) → 0 < m → m < (header_of v.image).count → IsRightBlock v.sizes (block_at v m)) → AreBlocksRight v
all-right v h some right = record {
  divided = λ n k. (right n k.later (below-count v n h some k.there)).divided k.kind_is;
  kinds = λ n there later.
      (let r = right n later (below-count v n h some there) in
      elim r.kind [
        | inl one ↦ inl (record { there = there; later = later; kind_is = one })
        | inr (inl two) ↦ inr (inl (record { there = there; later = later; kind_is = two }))
        | inr (inr three) ↦ inr (inr (record { there = there; later = later; kind_is = three }))
      ]);
}

-- ---- all wrong blocks

-- the address is in block n
abbrev pub IsIn : VolumeState → ℕ → ℕ → Type 0
IsIn v n a = (n * v.size ≤ a) × (a < n * v.size + v.size)

module _ (d : Database) (v : VolumeState) (some : 0 < v.size) where
  -- what stands in a block is wrong with it
  wrong-in : (n : ℕ) (k : Line) (a o : ℕ) → phase_of k ≡ 2 → Stands d v k a o → IsIn v n a → (place : ℕ) × (a ≡ n * v.size + place) × IsWrongIn v n k place
  wrong-in n k a o two stands is =
      let w = wrong-of d v k a o some two stands in
      let at = w.at in
      let short = w.short in
      let low = is.0 in
      let high = is.1 in
      elim (cases_order w.n n) [
        | inl same ↦ (w.place, at ∙ ap (λ (m : ℕ). m * v.size + w.place) same, subst (λ (m : ℕ). IsWrongIn v m k w.place) same w.is)
        | inr (inl less) ↦ absurd (let fits : w.n * v.size + v.size ≤ n * v.size = row_fits w.n v.size n v.size less (omega arith) in omega arith)
        | inr (inr more) ↦ absurd (let fits : n * v.size + v.size ≤ w.n * v.size = row_fits n v.size w.n v.size more (omega arith) in omega arith)
      ]

  -- a fault of a block is all that stands there
  one-standing : (n place : ℕ) (f : Fault) → phase_of f.line ≡ 2 → f.address ≡ n * v.size + place → place < v.size → IsWrongIn v n f.line place → Stands d v f.line f.address f.other
      → AreStandingAmong d v 2 (λ k a. IsIn v n a) (f ∷ [])
  one-standing n place f two at short wrong stands = record {
    stand = (two, stands, tt);
    among = ((omega arith, omega arith), tt);
    all = λ k a o is in-n s.
        (let w = wrong-in n k a o is s in-n in
        let both = same-wrong v n f.line k place w.0 wrong w.2 in
        inl (both.0, at ∙ ap (λ (p : ℕ). n * v.size + p) both.1 ∙ sym w.1));
    ascend = (tt, tt);
  }

  -- what is wrong with a block is all that stands there
  wrong-standing : (n : ℕ) (f : Fault) → HasBlock v.size v.image n → 0 < n → IsWrongBlock v.sizes (block_at v n) (n * v.size) f → AreStandingAmong d v 2 (λ k a. IsIn v n a) (f ∷ [])
  wrong-standing n f there later (inl c) =
      let W : Fault → Type 0 = λ x. AreStandingAmong d v 2 (λ k a. IsIn v n a) (x ∷ []) in
      subst W (sym c.0) (one-standing n 0 (record { line = WrongChain; address = n * v.size; other = 0 }) refl (omega arith) some
      (inl (refl, refl, c.1, c.2)) (n, record { there = there; later = later; kind_is = c.1 }, c.2, refl, refl))
  wrong-standing n f there later (inr (inl c)) =
      let W : Fault → Type 0 = λ x. AreStandingAmong d v 2 (λ k a. IsIn v n a) (x ∷ []) in
      let at = c.3 in
      let short : c.0 < v.size = (let l = at.4 in let len = length-block v.size n v.image there in omega arith) in
      subst W (sym c.1) (one-standing n c.0 (record { line = WrongPlace; address = n * v.size + c.0; other = 0 }) refl refl short
      (inr (inl (refl, c.2, at))) (n, c.0, at.0, at.1, record { there = there; later = later; kind_is = c.2 }, at.2, at.3, at.4, at.5, refl, refl))
  wrong-standing n f there later (inr (inr c)) =
      let W : Fault → Type 0 = λ x. AreStandingAmong d v 2 (λ k a. IsIn v n a) (x ∷ []) in
      subst W (sym c.0) (one-standing n 0 (record { line = NoKind; address = n * v.size; other = 0 }) refl (omega arith) some
      (inr (inr (refl, refl, c.1, c.2, c.3))) (n, there, later, c.1, c.2, c.3, refl, refl))

  -- what is found of a block is all that stands there
  pub block-standing : (n : ℕ) (found : Option Fault) → HasBlock v.size v.image n → 0 < n → IfNone found (IsRightBlock v.sizes (block_at v n))
      → IfSome found (λ f. IsWrongBlock v.sizes (block_at v n) (n * v.size) f) → AreStandingAmong d v 2 (λ k a. IsIn v n a) (faults_of found)
  block-standing n None there later right wrong = none-among d v 2 (λ k a. IsIn v n a) (λ k a o two s is. (let w = wrong-in n k a o two s is in right-not-wrong v n k w.0 w.2 right))
  block-standing n (Some f) there later right wrong = wrong-standing n f there later wrong

  -- nothing stands in block 0
  pub none-standing : AreStandingAmong d v 2 (λ k a. a < 1 * v.size) []
  none-standing = none-among d v 2 (λ k a. a < 1 * v.size) (λ k a o two s low.
      (let w = wrong-of d v k a o some two s in
      let at = w.at in
      let later = w.later in
      let fits : 0 * v.size + v.size ≤ w.n * v.size = row_fits 0 v.size w.n v.size later (omega arith) in
      omega arith))

  -- one block more is listed
  pub block-more : (n : ℕ) (fs gs : List Fault) → AreStandingAmong d v 2 (λ k a. a < n * v.size) fs → AreStandingAmong d v 2 (λ k a. IsIn v n a) gs
      → AreStandingAmong d v 2 (λ k a. a < (n + 1) * v.size) (fs ++ gs)
  block-more n fs gs h g =
      let next : (n + 1) * v.size ≡ n * v.size + v.size = omega arith in
      said-by d v 2 (λ k a. (a < n * v.size) ⊎ IsIn v n a) (λ k a. a < (n + 1) * v.size) (fs ++ gs)
      (λ k a p. elim p [ inl l ↦ omega arith | inr i ↦ (let high = i.1 in omega arith) ])
      (λ k a o two s low. elim (cases_lt a (n * v.size)) [ inl l ↦ inl l | inr high ↦ inr (omega arith, omega arith) ])
      (joined d v 2 (λ k a. a < n * v.size) (λ k a. IsIn v n a) fs gs (λ k a l b p less q i. inl (let low = i.0 in omega arith)) h g)

  -- all blocks are listed
  pub blocks-standing : (n : ℕ) (fs : List Fault) → HasHeader v.size v.image → (header_of v.image).count ≤ n → AreStandingAmong d v 2 (λ k a. a < n * v.size) fs → AreStanding d v 2 fs
  blocks-standing n fs h whole listed = all-standing d v 2 (λ k a. a < n * v.size) fs (λ k a o two s.
      (let w = wrong-of d v k a o some two s in
      let at = w.at in
      let short = w.short in
      let low = below-count v w.n h some w.there in
      let fits : w.n * v.size + v.size ≤ n * v.size = row_fits w.n v.size n v.size (omega arith) (omega arith) in
      omega arith)) listed

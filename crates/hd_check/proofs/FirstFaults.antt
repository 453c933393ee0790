-- Faults of the first phase that finds any.
use Rattle.std.proofs.Common.{◌≡◌, ◌≢◌, inl, inr, ℕ, ◌+◌, ◌*◌, List, [], ◌∷◌, length, true, IsTrue, Option, Some, None, IfSome, refl, sym, subst, arith}
use Rattle.std.specs.Prelude.{is_some}
use Rattle.std.proofs.lemmas.Bool.{cases_lt}
use Rattle.hd_bytes.specs.Blocks.{HasBlock}
use Rattle.hd_dbd.specs.Hierarchy.{Database}
use Rattle.hd_dbd.specs.DatabaseRules.{well_formed}
use Rattle.hd_volume.specs.Headers.{HasHeader, header_of}
use Rattle.hd_volume.specs.Volumes.{VolumeState}
use Rattle.hd_volume.proofs.PutLemmas.{if-some-map}
use Rattle.hd_image.specs.Standing.{phase_of, ComesBefore}
use Rattle.hd_image.specs.declared.line.Line.{Line}
use Rattle.hd_image.specs.declared.line.Line.TheVariants.{NoVolume}
use Rattle.hd_check_blocks.specs.declared.fault.Fault.{Fault}
use Rattle.hd_check_blocks.specs.Phases.{IsLeastOf}
use Rattle.hd_check_blocks.specs.Listing.{IsListed, AllStand, ComesBeforeAll, AreStanding}
use Rattle.hd_check_blocks.proofs.HeaderFaults.{wrong-first}
use Rattle.hd_check_blocks.specs.declared.places.Place.{Place}
use Rattle.hd_check.specs.Joining.{NoneBefore, IsFirstFault, IsFoundRight, roots_among}
use Rattle.hd_check.proofs.Passing.{passes, fails}
use Rattle.hd_check.specs.Lists.{BeginsWith, AreFirstFaults, AreFaultsOf}
use Rattle.hd_check.proofs.OneStore.{IsOne, turned, stands-same, least-same}
use Rattle.hd_check.proofs.EarlierFaults.{first-of, none-first}

-- nothing comes before what comes before it
not-both : (k l : Line) (a b : ℕ) → ComesBefore k a l b → ComesBefore l b k a → ⊥
not-both k l a b (inl p) (inl q) = omega arith
not-both k l a b (inl p) (inr q) = (let e = q.0 in omega arith)
not-both k l a b (inr p) (inl q) = (let e = p.0 in omega arith)
not-both k l a b (inr (e, inl p)) (inr (f, inl q)) = omega arith
not-both k l a b (inr (e, inl p)) (inr (f, inr q)) = (let g = q.0 in omega arith)
not-both k l a b (inr (e, inr p)) (inr (f, inl q)) = (let g = p.0 in omega arith)
not-both k l a b (inr (e, inr p)) (inr (f, inr q)) = (let m = p.1 in let n = q.1 in omega arith)

-- nor before itself
not-itself : (k l : Line) (a b : ℕ) → l ≡ k → b ≡ a → ComesBefore k a l b → ⊥
not-itself k l a b e f before = (let own : ComesBefore k a k a = subst (λ (x : Line). ComesBefore k a x a) e (subst (λ (y : ℕ). ComesBefore k a l y) f before) in not-both k k a a own own)

-- a fault comes before each of those that are listed behind it
behind : (f : Fault) (fs : List Fault) (k : Line) (a : ℕ) → ComesBeforeAll f fs → IsListed k a fs → ComesBefore f.line f.address k a
behind f [] k a before i = absurd i
behind f (g ∷ fs) k a before (inl e) = subst (λ (x : Line). ComesBefore f.line f.address x a) e.0 (subst (λ (y : ℕ). ComesBefore f.line f.address g.line y) e.1 before.0)
behind f (g ∷ fs) k a before (inr i) = behind f fs k a before.1 i

module _ (d : Database) (v : VolumeState) (p : ℕ) (before : NoneBefore d v p) where
  -- the first of all faults of a phase is the least
  begins : (f : Fault) (fs : List Fault) → IsLeastOf d v p f → AreStanding d v p fs → BeginsWith (λ g. IsFirstFault d v g) fs
  begins f [] least all = all.all f.line f.address f.other least.of least.stands
  begins f (g ∷ fs) least all = first-of d v p g before (record {
    of = all.stand.0;
    stands = all.stand.1;
    least = λ k a o is s less. elim (all.all k a o is s) [
      | inl e ↦ not-itself k g.line a g.address e.0 e.1 less
      | inr i ↦ not-both k g.line a g.address less (behind g fs k a all.ascend.0 i)
    ];
  })

  -- all faults of the first phase that finds any are the first
  pub first-faults : (f : Fault) (fs : List Fault) → IsLeastOf d v p f → AreStanding d v p fs → AreFirstFaults d v fs
  first-faults f fs least all = record {
    phase = p;
    before = before;
    least = begins f fs least all;
    stand = all.stand;
    ascend = all.ascend;
    all = λ there. all;
  }

  -- if a fault of it was found
  pub faults-found : (found : Option Fault) (fs : List Fault) → is_some found ≡ true → IfSome found (λ g. IsLeastOf d v p g) → AreStanding d v p fs → AreFirstFaults d v fs
  faults-found None fs is least all = cc
  faults-found (Some f) fs is least all = first-faults f fs least all

-- all faults of a phase that are listed, where some are
pub listed-first : (d : Database) (v : VolumeState) (p : ℕ) (fs : List Fault) → NoneBefore d v p → AreStanding d v p fs → fs ≢ [] → AreFirstFaults d v fs
listed-first d v p [] before all some = absurd (some refl)
listed-first d v p (f ∷ fs) before all some = first-faults d v p before f (f ∷ fs) (record {
  of = all.stand.0;
  stands = all.stand.1;
  least = λ k a o is s less. elim (all.all k a o is s) [
    | inl e ↦ not-itself k f.line a f.address e.0 e.1 less
    | inr i ↦ not-both k f.line a f.address less (behind f fs k a all.ascend.0 i)
  ];
}) all

-- where a fault of a phase was found some are listed
pub some-listed : (d : Database) (v : VolumeState) (p : ℕ) (found : Option Fault) (fs : List Fault) → is_some found ≡ true → IfSome found (λ f. IsLeastOf d v p f) → AreStanding d v p fs → fs ≢ []
some-listed d v p None fs is least all = cc
some-listed d v p (Some f) fs is least all = λ e. subst (IsListed f.line f.address) e (all.all f.line f.address f.other least.of least.stands)

-- and the first of them is of the phase
first-in : (P : ℕ → Type 0) (d : Database) (v : VolumeState) (p : ℕ) (fs : List Fault) → P p → AllStand d v p fs → fs ≢ [] → BeginsWith (λ f. P (phase_of f.line)) fs
first-in P d v p [] h stand some = absurd (some refl)
first-in P d v p (f ∷ fs) h stand some = subst P (sym stand.0) h

-- also of those of the header
pub header-in : (P : ℕ → Type 0) (d : Database) (v : VolumeState) (found : Option Fault) (fs : List Fault) → P 1 → is_some found ≡ true → IfSome found (λ f. IsLeastOf d v 1 f)
    → (HasBlock v.size v.image 0 → AreStanding d v 1 fs) → ((HasBlock v.size v.image 0 → ⊥) → fs ≡ record { line = NoVolume; address = 0; other = 0 } ∷ []) → BeginsWith (λ f. P (phase_of f.line)) fs
header-in P d v found fs h is least all alone = elim (cases_lt (length v.image) (0 * v.size + v.size)) [
  | inl short ↦ (let none : HasBlock v.size v.image 0 → ⊥ = (λ there. omega arith) in subst (BeginsWith (λ f. P (phase_of f.line))) (sym (alone none)) h)
  | inr long ↦ (let here = all (omega arith) in first-in P d v 1 fs h here.stand (some-listed d v 1 found fs is least here))
]

-- what is said of what was found, where something was
pub from-some : {A : Type 0} {P : Type 0} (o : Option A) → is_some o ≡ true → IfSome o (λ x. P) → P
from-some None is h = cc
from-some (Some x) is h = h

-- that there is no first block
pub short-first : (d : Database) (v : VolumeState) → v.size ≡ d.block_size → (HasBlock v.size v.image 0 → ⊥) → AreFirstFaults d v (record { line = NoVolume; address = 0; other = 0 } ∷ [])
short-first d v size none =
    let no : HasHeader d.block_size v.image → ⊥ = (λ h. none (subst (λ (s : ℕ). HasBlock s v.image 0) (sym size) h.first)) in
    let least = wrong-first d v no in
    record {
      phase = 1;
      before = none-first d v;
      least = first-of d v 1 (record { line = NoVolume; address = 0; other = 0 }) (none-first d v) least;
      stand = (refl, least.stands, tt);
      ascend = (tt, tt);
      all = λ there. absurd (none there);
    }

-- what is wrong with the header is first
pub header-first : (d : Database) (v : VolumeState) (found : Option Fault) (fs : List Fault) → v.size ≡ d.block_size → is_some found ≡ true → IfSome found (λ f. IsLeastOf d v 1 f)
    → (HasBlock v.size v.image 0 → AreStanding d v 1 fs) → ((HasBlock v.size v.image 0 → ⊥) → fs ≡ record { line = NoVolume; address = 0; other = 0 } ∷ []) → AreFirstFaults d v fs
header-first d v found fs size is least all alone = elim (cases_lt (length v.image) (0 * v.size + v.size)) [
  | inl short ↦ (let none : HasBlock v.size v.image 0 → ⊥ = (λ h. omega arith) in subst (AreFirstFaults d v) (sym (alone none)) (short-first d v size none))
  | inr long ↦ faults-found d v 1 (none-first d v) found fs is least (all (omega arith))
]

-- ---- in each state of the volume with one image

module _ (u v : VolumeState) (e : IsOne u v) (d : Database) where
  -- what all stand there stand here
  pub all-stand-same : (p : ℕ) (fs : List Fault) → AllStand d u p fs → AllStand d v p fs
  all-stand-same p [] s = tt
  all-stand-same p (f ∷ fs) s = (s.0, stands-same u v e d f.line f.address f.other s.1, all-stand-same p fs s.2)

  -- all of a phase are all of it
  pub standing-same : (p : ℕ) (fs : List Fault) → AreStanding d u p fs → AreStanding d v p fs
  standing-same p fs h = record { stand = all-stand-same p fs h.stand; all = λ k a o is s. h.all k a o is (stands-same v u (turned e) d k a o s); ascend = h.ascend }

  begins-same : (fs : List Fault) → BeginsWith (λ f. IsFirstFault d u f) fs → BeginsWith (λ f. IsFirstFault d v f) fs
  begins-same [] h = h
  begins-same (f ∷ fs) h = record { stands = stands-same u v e d f.line f.address f.other h.stands; least = λ k a o s before. h.least k a o (stands-same v u (turned e) d k a o s) before }

  -- and the first are the first
  pub first-faults-same : (fs : List Fault) → AreFirstFaults d u fs → AreFirstFaults d v fs
  first-faults-same fs h = record {
    phase = h.phase;
    before = λ k a o less s. h.before k a o less (stands-same v u (turned e) d k a o s);
    least = begins-same fs h.least;
    stand = all-stand-same h.phase fs h.stand;
    ascend = h.ascend;
    all = λ there. standing-same h.phase fs (h.all (subst (λ (s : ℕ). HasBlock s u.image 0) e.size (subst (λ (i : List ℕ). HasBlock v.size i 0) e.image there)));
  }

-- the first block is there in each state
pub block-there : (u v : VolumeState) → IsOne u v → HasBlock u.size u.image 0 → HasBlock v.size v.image 0
block-there u v e there = subst (λ (s : ℕ). HasBlock s v.image 0) (sym e.size) (subst (λ (i : List ℕ). HasBlock u.size i 0) (sym e.image) there)

-- where a fault of a phase was found in one state, and all were listed in another, these are the first
pub found-first : (d : Database) (v u w : VolumeState) (p : ℕ) (found : Option Fault) (fs : List Fault) → IsOne v u → IsOne v w → NoneBefore d v p → is_some found ≡ true
    → IfSome found (λ f. IsLeastOf d u p f) → AreStanding d w p fs → AreFirstFaults d v fs
found-first d v u w p found fs e f before is least all =
    faults-found d v p before found fs is (if-some-map found (λ x l. least-same u v d p x (turned e) l) least) (standing-same w v (turned f) d p fs all)

-- and the first is of the phase
pub found-in : (P : ℕ → Type 0) (d : Database) (v u w : VolumeState) (p : ℕ) (found : Option Fault) (fs : List Fault) → P p → IsOne v u → IsOne v w → is_some found ≡ true → IfSome found (λ f. IsLeastOf d u p f)
    → AreStanding d w p fs → BeginsWith (λ f. P (phase_of f.line)) fs
found-in P d v u w p found fs h e f is least all =
    let here = standing-same w v (turned f) d p fs all in
    first-in P d v p fs h here.stand (some-listed d v p found fs is (if-some-map found (λ x l. least-same u v d p x (turned e) l) least) here)

-- the first faults are the faults of a volume, which holds no forest
pub faults-of : (d : Database) (v : VolumeState) (fs : List Fault) → IsTrue (well_formed d.block_size d.frspc d.types) → AreFirstFaults d v fs → AreFaultsOf d v fs
faults-of d v [] fit h = absurd h.least
faults-of d v (f ∷ fs) fit h = (h, (fails d v f fit h.least).none)

-- where all is found right it holds one
pub none-of : (d : Database) (v : VolumeState) (ps : List Place) → IsFoundRight d v ps → AreFaultsOf d v []
none-of d v ps found =
    let p = passes d v ps found (record { blocks = (header_of v.image).count; segments = length ps; roots = roots_among ps }) refl refl refl in
    (p.placed, p.holds)

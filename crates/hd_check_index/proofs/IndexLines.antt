-- What stands of a phase of the index, by its line and its block.
use Rattle.std.proofs.Common.{◌≡◌, ◌≢◌, ◌⊎◌, inl, inr, ℕ, ◌*◌, ◌<◌, refl, subst, arith}
use Rattle.hd_dbd.specs.Hierarchy.{Database}
use Rattle.hd_dbd.proofs.StoredSizes.{block_size-bounds}
use Rattle.hd_volume.specs.Volumes.{VolumeState, IsKind}
use Rattle.hd_image.specs.Records.{IsVolumeOf}
use Rattle.hd_index_blocks.proofs.Volumes.{level-kind}
use Rattle.hd_image.specs.Standing.{Stands, phase_of}
use Rattle.hd_image.specs.declared.line.Line.{Line}
use Rattle.hd_image.specs.declared.line.Line.TheVariants.{WrongTop, WrongForm, NamedTwice, UnreachedBlock, WrongEntry, NoEntry}
use Rattle.hd_check_index.proofs.PassedBlocks.{behind-header}

-- the lines of the eighth phase
pub eighth-lines : (P : Line → Type 0) → P WrongTop → P WrongForm → (k : Line) → phase_of k ≡ 8 → P k
eighth-lines P a b WrongTop h = a
eighth-lines P a b WrongForm h = b
eighth-lines P a b k h = absurd (omega arith)

-- that of the ninth
pub ninth-line : (k : Line) → phase_of k ≡ 9 → k ≡ NamedTwice
ninth-line NamedTwice h = refl
ninth-line k h = absurd (omega arith)

-- that of the tenth
pub tenth-line : (k : Line) → phase_of k ≡ 10 → k ≡ UnreachedBlock
tenth-line UnreachedBlock h = refl
tenth-line k h = absurd (omega arith)

-- that of the twelfth
pub twelfth-line : (k : Line) → phase_of k ≡ 12 → k ≡ WrongEntry
twelfth-line WrongEntry h = refl
twelfth-line k h = absurd (omega arith)

-- and that of the last
pub last-line : (k : Line) → phase_of k ≡ 13 → k ≡ NoEntry
last-line NoEntry h = refl
last-line k h = absurd (omega arith)

-- the blocks of a volume have some bytes
pub some-size : (d : Database) (v : VolumeState) → IsVolumeOf d v → 0 < v.size
some-size d v of = (let bounds = block_size-bounds d.block_size d.frspc d.types of.fit in let own = of.size in omega arith)

module _ (d : Database) (v : VolumeState) (some : 0 < v.size) where
  -- a wrong form is that of an index block
  pub form-block : (a o : ℕ) → Stands d v WrongForm a o → (n : ℕ) × IsKind v 2 n × (a ≡ n * v.size)
  form-block a o (inl t) = (t.1.0, t.1.1, t.1.2)
  form-block a o (inr t) = (t.1.0, (level-kind v t.1.0 t.1.1 t.1.2).0, t.1.3)

  -- a block that is named twice is an index block
  pub twice-block : (a o : ℕ) → Stands d v NamedTwice a o → (n : ℕ) × IsKind v 2 n × (a ≡ n * v.size)
  twice-block a o (inl t) = (t.1.0, t.1.3, t.1.7)
  twice-block a o (inr t) = (t.1.0, t.1.5, t.1.9)

  -- and so is one that is not reached
  pub unreached-block : (a o : ℕ) → Stands d v UnreachedBlock a o → (n : ℕ) × IsKind v 2 n × (a ≡ n * v.size)
  unreached-block a o (inl t) = (t.1.0, t.1.1, t.1.3)
  unreached-block a o (inr t) = (t.1.0, t.1.1, t.1.3)

  -- an index block begins behind the header
  block-behind : (a n : ℕ) → IsKind v 2 n → a ≡ n * v.size → a ≢ 0
  block-behind a n kind same none = (let l = behind-header n v.size kind.later some in omega arith)

  -- a wrong top stands at the header
  top-header : (a o : ℕ) → Stands d v WrongTop a o → a ≡ 0
  top-header a o (inl t) = t.1.0
  top-header a o (inr t) = t.1.0

  -- what stands at the header in the eighth phase is a wrong top
  pub at-header : (k : Line) (o : ℕ) → phase_of k ≡ 8 → Stands d v k 0 o → k ≡ WrongTop
  at-header k o is s = eighth-lines (λ x. Stands d v x 0 o → x ≡ WrongTop) (λ t. refl) (λ t. (let f = form-block 0 o t in absurd (block-behind 0 f.0 f.1 f.2 refl))) k is s

  -- and behind it a wrong form
  pub at-block : (k : Line) (a o : ℕ) → 0 < a → phase_of k ≡ 8 → Stands d v k a o → k ≡ WrongForm
  at-block k a o behind is s = eighth-lines (λ x. Stands d v x a o → x ≡ WrongForm) (λ t. (let e = top-header a o t in absurd (omega arith))) (λ t. refl) k is s

  -- what stands in the eighth phase stands at the header or at an index block
  pub where-8 : (k : Line) (a o : ℕ) → phase_of k ≡ 8 → Stands d v k a o → (a ≡ 0) ⊎ ((n : ℕ) × IsKind v 2 n × (a ≡ n * v.size))
  where-8 k a o is s = eighth-lines (λ x. Stands d v x a o → (a ≡ 0) ⊎ ((n : ℕ) × IsKind v 2 n × (a ≡ n * v.size))) (λ t. inl (top-header a o t)) (λ t. inr (form-block a o t)) k is s

  -- in the ninth at an index block
  pub where-9 : (k : Line) (a o : ℕ) → phase_of k ≡ 9 → Stands d v k a o → (n : ℕ) × IsKind v 2 n × (a ≡ n * v.size)
  where-9 k a o is s = twice-block a o (subst (λ (x : Line). Stands d v x a o) (ninth-line k is) s)

  -- and in the tenth too
  pub where-10 : (k : Line) (a o : ℕ) → phase_of k ≡ 10 → Stands d v k a o → (n : ℕ) × IsKind v 2 n × (a ≡ n * v.size)
  where-10 k a o is s = unreached-block a o (subst (λ (x : Line). Stands d v x a o) (tenth-line k is) s)

  -- none of them at the header
  pub behind-9 : (k : Line) (a o : ℕ) → phase_of k ≡ 9 → Stands d v k a o → a ≢ 0
  behind-9 k a o is s = (let w = where-9 k a o is s in block-behind a w.0 w.1 w.2)

  pub behind-10 : (k : Line) (a o : ℕ) → phase_of k ≡ 10 → Stands d v k a o → a ≢ 0
  behind-10 k a o is s = (let w = where-10 k a o is s in block-behind a w.0 w.1 w.2)

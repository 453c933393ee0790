-- What the phases that judge an index set find: no fault, or the least of the phase.
use Rattle.std.proofs.Common.{◌≡◌, ◌≢◌, inl, inr, ℕ, ◌-◌, ◌*◌, ◌<◌, ◌≤◌, List, ◌∷◌, Some, refl, sym, subst, arith}
use Rattle.hd_dbd.specs.Hierarchy.{Database}
use Rattle.hd_volume.specs.Headers.{header_of}
use Rattle.hd_volume.specs.Volumes.{VolumeState}
use Rattle.hd_volume.specs.Indexes.{root_key_length, IsAmong}
use Rattle.hd_index_blocks.specs.LevelFaults as level
use Rattle.hd_index_blocks.specs.LevelFaults.{StandsBetween}
use Rattle.hd_index_blocks.specs.Faultless.{AreFormsRight, AreNamedOnce, AreAllReached}
use Rattle.hd_index_blocks.specs.IndexSets.{level_in, top_level}
use Rattle.hd_index_blocks.proofs.Volumes.{level-kind}
use Rattle.hd_index_blocks.proofs.Downs.{among-right}
use Rattle.hd_index_blocks.proofs.FormFaults.{forms-judged}
use Rattle.hd_index_blocks.proofs.LevelFaults.{names-judged, reach-judged}
use Rattle.hd_index_blocks.proofs.RowFaults.{levels-judged, row-level}
use Rattle.hd_image.specs.Records.{IsVolumeOf}
use Rattle.hd_image.specs.Right.{LevelsAreInOrder, IndexIsFormed, IndexIsInOrder}
use Rattle.hd_image.specs.declared.line.Line.TheVariants.{WrongTop, WrongForm, NamedTwice, UnreachedBlock, WrongNext, EntryOutOfOrder}
use Rattle.hd_check_blocks.specs.Phases.{IsLeastOf}
use Rattle.hd_check_index.proofs.FormFaults.{place-fits}
use Rattle.hd_check_index.proofs.LateLines.{least-by, least-late, set-8, set-9, set-10, set-11}
use Rattle.hd_check.specs.Lists.{NoneOfIndexBefore}
use Rattle.hd_check.proofs.EarlierFaults.{none-of-index, next-of-index, none-12}

-- ---- where nothing is found

module _ (d : Database) (v : VolumeState) (later : (header_of v.image).version ≢ 1) where
  -- the form of each block is right
  pub level-9 : AreFormsRight (root_key_length d.types) v → NoneOfIndexBefore d v 9
  level-9 forms =
      let judged = (forms-judged (root_key_length d.types) v).0 forms in
      next-of-index d v 8 (none-of-index d v) (λ k a o is s. elim (set-8 d v k a o later is s) [ inl top ↦ judged.0 a o top | inr form ↦ judged.1 a o form ])

  -- no block is named twice
  pub level-10 : NoneOfIndexBefore d v 9 → AreNamedOnce (root_key_length d.types) v → NoneOfIndexBefore d v 10
  level-10 none once = next-of-index d v 9 none (λ k a o is s. (names-judged (root_key_length d.types) v).0 once a o (set-9 d v k a o later is s))

  -- each is reached
  pub level-11 : NoneOfIndexBefore d v 10 → AreAllReached (root_key_length d.types) v → NoneOfIndexBefore d v 11
  level-11 none reached = next-of-index d v 10 none (λ k a o is s. (reach-judged (root_key_length d.types) v).0 reached a o (set-10 d v k a o later is s))

  -- and the levels are in order
  pub level-12 : NoneOfIndexBefore d v 11 → AreFormsRight (root_key_length d.types) v → LevelsAreInOrder (root_key_length d.types) v → NoneOfIndexBefore d v 12
  level-12 none forms order =
      let judged = levels-judged (root_key_length d.types) v forms in
      next-of-index d v 11 none (λ k a o is s. elim (set-11 d v k a o later is s) [ inl t ↦ judged.0.0 order.next a o t.0 | inr t ↦ judged.1.0 order.keys a o t.0 ])

  -- ---- the least of a phase

  pub form-least : (n : ℕ) → level.StandsNowhere (level.IsWrongTop v) → level.IsWrongForm (root_key_length d.types) v (n * v.size) 0 → ((a o : ℕ) → level.IsWrongForm (root_key_length d.types) v a o → n * v.size ≤ a)
      → IsLeastOf d v 8 (record { line = WrongForm; address = n * v.size; other = 0 })
  form-least n top w least =
      least-late d v 8 (record { line = WrongForm; address = n * v.size; other = 0 }) (omega arith) (λ e. omega arith) refl (inr (later, w))
      (λ k a o is s. elim (set-8 d v k a o later is s) [ inl t ↦ absurd (top a o t) | inr f ↦ least a o f ])

  pub twice-least : (n : ℕ) → level.IsNamedTwice (root_key_length d.types) v (n * v.size) 0 → ((a o : ℕ) → level.IsNamedTwice (root_key_length d.types) v a o → n * v.size ≤ a)
      → IsLeastOf d v 9 (record { line = NamedTwice; address = n * v.size; other = 0 })
  twice-least n w least =
      least-late d v 9 (record { line = NamedTwice; address = n * v.size; other = 0 }) (omega arith) (λ e. omega arith) refl (inr (later, w)) (λ k a o is s. least a o (set-9 d v k a o later is s))

  pub unreached-least : (n : ℕ) → level.IsUnreachedBlock (root_key_length d.types) v (n * v.size) 0 → ((a o : ℕ) → level.IsUnreachedBlock (root_key_length d.types) v a o → n * v.size ≤ a)
      → IsLeastOf d v 10 (record { line = UnreachedBlock; address = n * v.size; other = 0 })
  unreached-least n w least =
      least-late d v 10 (record { line = UnreachedBlock; address = n * v.size; other = 0 }) (omega arith) (λ e. omega arith) refl (inr (later, w)) (λ k a o is s. least a o (set-10 d v k a o later is s))

  -- a next block that is wrong comes before an entry that is, at one address
  pub next-least : (n : ℕ) → level.IsWrongNext (root_key_length d.types) v (n * v.size) 0 → ((a o : ℕ) → level.IsWrongNext (root_key_length d.types) v a o → n * v.size ≤ a)
      → ((a o : ℕ) → level.HasEntryOutOfOrder (root_key_length d.types) v a o → n * v.size ≤ a) → IsLeastOf d v 11 (record { line = WrongNext; address = n * v.size; other = 0 })
  next-least n w least order =
      least-by d v 11 (record { line = WrongNext; address = n * v.size; other = 0 }) refl (inr (later, w))
      (λ k a o is s. elim (set-11 d v k a o later is s) [
        | inl t ↦ (let number = t.1 in (least a o t.0, λ e. omega arith))
        | inr t ↦ (let number = t.1 in (order a o t.0, λ e. omega arith))
      ])

  pub order-least : (n other : ℕ) → level.HasEntryOutOfOrder (root_key_length d.types) v (n * v.size) other → ((a o : ℕ) → level.HasEntryOutOfOrder (root_key_length d.types) v a o → n * v.size ≤ a)
      → ((a o : ℕ) → level.IsWrongNext (root_key_length d.types) v a o → n * v.size < a) → IsLeastOf d v 11 (record { line = EntryOutOfOrder; address = n * v.size; other = other })
  order-least n other w least wrong =
      least-by d v 11 (record { line = EntryOutOfOrder; address = n * v.size; other = other }) refl (inr (later, w))
      (λ k a o is s. elim (set-11 d v k a o later is s) [
        | inl t ↦ (let far = wrong a o t.0 in (omega arith, λ e. omega arith))
        | inr t ↦ (let number = t.1 in (least a o t.0, λ e. omega arith))
      ])

-- no fault of the blocks of an index and of their order stands in a volume whose index is formed and in order
pub index-12 : (d : Database) (v : VolumeState) → IsVolumeOf d v → IndexIsFormed (root_key_length d.types) v → IndexIsInOrder (root_key_length d.types) v → NoneOfIndexBefore d v 12
index-12 d v of (inl f) order = none-12 d v of f.0 (inl f) order
index-12 d v of (inr f) (inl o) = absurd (f.0 o.0)
index-12 d v of (inr f) (inr o) =
    let ten = level-10 d v f.0 (level-9 d v f.0 f.1.forms) f.1.once in
    level-12 d v f.0 (level-11 d v f.0 ten f.1.reached) f.1.forms o.1

-- ---- where a fault stands in an image of four-byte addresses

module _ (d : Database) (v : VolumeState) (of : IsVolumeOf d v) where
  level-fits : (n m l : ℕ) → level_in v m ≡ Some l → n * v.size ≡ m * v.size → n * v.size < 4294967296
  level-fits n m l is at = (let k = level-kind v m l is in let f = place-fits d v m of k.0.there in omega arith)

  pub form-fits : (n : ℕ) → level.IsWrongForm (root_key_length d.types) v (n * v.size) 0 → n * v.size < 4294967296
  form-fits n w = level-fits n w.0 w.1 w.2 w.3

  pub twice-fits : (n : ℕ) → level.IsNamedTwice (root_key_length d.types) v (n * v.size) 0 → n * v.size < 4294967296
  twice-fits n w = (let f = place-fits d v w.0 of w.5.there in let at = w.9 in omega arith)

  pub unreached-fits : (n : ℕ) → level.IsUnreachedBlock (root_key_length d.types) v (n * v.size) 0 → n * v.size < 4294967296
  unreached-fits n w = (let f = place-fits d v w.0 of w.1.there in let at = w.3 in omega arith)

  -- a block of a row is of its level
  between-level : AreFormsRight (root_key_length d.types) v → (l : ℕ) (left : List ℕ) (n : ℕ) (right : List ℕ) → StandsBetween (root_key_length d.types) v l left n right → level_in v n ≡ Some l
  between-level forms l left n right s =
      let low = s.low in
      let A : List ℕ → Type 0 = λ ns. IsAmong n ns in
      row-level (root_key_length d.types) v forms (top_level v - l) l (omega arith) n (subst A (sym s.row) (among-right n left (n ∷ right) (inl refl)))

  pub next-fits : AreFormsRight (root_key_length d.types) v → (n : ℕ) → level.IsWrongNext (root_key_length d.types) v (n * v.size) 0 → n * v.size < 4294967296
  next-fits forms n w = level-fits n w.1 w.0 (between-level forms w.0 w.2 w.1 w.3 w.4) w.6

  pub order-fits : AreFormsRight (root_key_length d.types) v → (n other : ℕ) → level.HasEntryOutOfOrder (root_key_length d.types) v (n * v.size) other → n * v.size < 4294967296
  order-fits forms n other w = level-fits n w.1 w.0 (between-level forms w.0 w.2 w.1 w.3 w.4) w.6

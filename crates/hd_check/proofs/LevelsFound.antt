-- What the phases that judge an index set join to: what is right where nothing is found, and else the least fault of the volume.
use Rattle.std.proofs.Common.{◌≡◌, ◌≢◌, ℕ, ◌*◌, ◌<◌, ◌≤◌, Option, None, Some, IfNone, IfSome, true, false, Bool, sym, ap, subst, ◌∙◌, arith}
use Rattle.std.proofs.Math.Nat.{mul-lt-mul_of_pos_right}
use Rattle.std.proofs.lemmas.Bool.{false≢true}
use Rattle.std.proofs.lemmas.Nat.{mul-le}
use Rattle.hd_dbd.proofs.StoredSizes.{block_size-bounds}
use Rattle.hd_dbd.specs.Hierarchy.{Database}
use Rattle.hd_volume.specs.Headers.{header_of}
use Rattle.hd_volume.specs.Volumes.{VolumeState}
use Rattle.hd_volume.specs.Indexes.{root_key_length}
use Rattle.hd_volume.proofs.PutLemmas.{if-none-map, if-some-map}
use Rattle.hd_index_blocks.specs.Faultless.{AreFormsRight, AreNamedOnce, AreAllReached}
use Rattle.hd_index_blocks.specs.LevelFaults as level
use Rattle.hd_index_blocks.specs.LevelFaults.{StandsNowhere}
use Rattle.hd_index_blocks.proofs.FormFaults.{forms-judged}
use Rattle.hd_index_blocks.proofs.LevelFaults.{names-judged, reach-judged}
use Rattle.hd_index_blocks.proofs.RowFaults.{levels-judged}
use Rattle.hd_image.specs.Records.{IsVolumeOf}
use Rattle.hd_image.specs.Right.{LevelsAreInOrder}
use Rattle.hd_image.specs.declared.line.Line.{Line}
use Rattle.hd_image.specs.declared.line.Line.TheVariants.{WrongForm, NamedTwice, UnreachedBlock, WrongNext, EntryOutOfOrder}
use Rattle.hd_check_blocks.specs.declared.fault.Fault.{Fault}
use Rattle.hd_check_blocks.specs.Phases.{IsLeastOf}
use Rattle.hd_check_index.specs.Judging.{IsFirst, IsFoundAt}
use Rattle.hd_check.specs.Joining.{NoneBefore, IsFirstFault}
use Rattle.hd_check.proofs.EarlierFaults.{first-of}
use Rattle.hd_check.proofs.LevelPhases.{form-least, twice-least, unreached-least, next-least, order-least, form-fits, twice-fits, unreached-fits, next-fits, order-fits}

-- ---- an answer

-- where there is no fault, what is right
where-none : {A : Type 0} (P : Type 0) (o : Option A) → o ≡ None → P → IfNone o P
where-none {A} P o is p = subst (λ (r : Option A). IfNone r P) (sym is) p

-- of no fault nothing is asked
some-of-none : {A : Type 0} (Q : A → Type 0) (o : Option A) → o ≡ None → IfSome o Q
some-of-none {A} Q o is = subst (λ (r : Option A). IfSome r Q) (sym is) tt

-- where there is one, it
where-some : {A : Type 0} (Q : A → Type 0) (o : Option A) (x : A) → o ≡ Some x → Q x → IfSome o Q
where-some {A} Q o x is q = subst (λ (r : Option A). IfSome r Q) (sym is) q

none-of-some : {A : Type 0} (P : Type 0) (o : Option A) (x : A) → o ≡ Some x → IfNone o P
none-of-some {A} P o x is = subst (λ (r : Option A). IfNone r P) (sym is) tt

-- the fault of a line at a block that was found
pub record IsFaultAt (line : Line) (found : Option ℕ) (size : ℕ) (result : Option Fault) : Type 0 where
  pub none : IfNone found (result ≡ None)
  pub some : IfSome found (λ n. n * size < 4294967296 → result ≡ Some (record { line = line; address = n * size; other = 0 }))

fault-is : (line : Line) (n size own : ℕ) (result : Option Fault) → size ≡ own → n * own < 4294967296 → (n * size < 4294967296 → result ≡ Some (record { line = line; address = n * size; other = 0 }))
    → result ≡ Some (record { line = line; address = n * own; other = 0 })
fault-is line n size own result same fits is =
    (let F : ℕ → Type 0 = λ s. n * s < 4294967296 → result ≡ Some (record { line = line; address = n * s; other = 0 }) in subst F same is fits)

module _ (d : Database) (v : VolumeState) where
  -- what a phase of one line answers: what is right, and the least fault
  phase-found : (line : Line) (phase size : ℕ) (stands : ℕ → ℕ → Type 0) (P : Type 0) (found : Option ℕ) (result : Option Fault) → NoneBefore d v phase → (StandsNowhere stands → P)
      → ((n : ℕ) → stands (n * v.size) 0 → n * v.size < 4294967296)
      → ((n : ℕ) → stands (n * v.size) 0 → ((a o : ℕ) → stands a o → n * v.size ≤ a) → IsLeastOf d v phase (record { line = line; address = n * v.size; other = 0 }))
      → size ≡ v.size → IsFoundAt v stands found → IsFaultAt line found size result → IfNone result P × IfSome result (λ f. IsFirstFault d v f)
  phase-found line phase size stands P None result before right fits least same at is = (where-none P result is.none (right at.0), some-of-none (λ f. IsFirstFault d v f) result is.none)
  phase-found line phase size stands P (Some n) result before right fits least same at is =
      let one = at.1 in
      let fault : Fault = record { line = line; address = n * v.size; other = 0 } in
      let e : result ≡ Some fault = fault-is line n size v.size result same (fits n one.here) is.some in
      (none-of-some P result fault e, where-some (λ f. IsFirstFault d v f) result fault e (first-of d v phase fault before (least n one.here one.least)))

module _ (d : Database) (v : VolumeState) (of : IsVolumeOf d v) (later : (header_of v.image).version ≢ 1) where
  abbrev k : ℕ
  k = root_key_length d.types

  pub forms-found : (size : ℕ) (found : Option ℕ) (result : Option Fault) → NoneBefore d v 8 → StandsNowhere (level.IsWrongTop v) → size ≡ v.size → IsFoundAt v (level.IsWrongForm k v) found
      → IsFaultAt WrongForm found size result → IfNone result (AreFormsRight k v) × IfSome result (λ f. IsFirstFault d v f)
  forms-found size found result before top same at is =
      phase-found d v WrongForm 8 size (level.IsWrongForm k v) (AreFormsRight k v) found result before (λ none. (forms-judged k v).1 (top, none)) (form-fits d v of) (λ n w least. form-least d v later n top w least) same at is

  pub names-found : (size : ℕ) (found : Option ℕ) (result : Option Fault) → NoneBefore d v 9 → size ≡ v.size → IsFoundAt v (level.IsNamedTwice k v) found
      → IsFaultAt NamedTwice found size result → IfNone result (AreNamedOnce k v) × IfSome result (λ f. IsFirstFault d v f)
  names-found size found result before same at is =
      phase-found d v NamedTwice 9 size (level.IsNamedTwice k v) (AreNamedOnce k v) found result before (λ none. (names-judged k v).1 none) (twice-fits d v of) (twice-least d v later) same at is

  pub reach-found : (size : ℕ) (found : Option ℕ) (result : Option Fault) → NoneBefore d v 10 → size ≡ v.size → IsFoundAt v (level.IsUnreachedBlock k v) found
      → IsFaultAt UnreachedBlock found size result → IfNone result (AreAllReached k v) × IfSome result (λ f. IsFirstFault d v f)
  reach-found size found result before same at is =
      phase-found d v UnreachedBlock 10 size (level.IsUnreachedBlock k v) (AreAllReached k v) found result before (λ none. (reach-judged k v).1 none) (unreached-fits d v of) (unreached-least d v later) same at is

-- ---- the order of the levels

-- the fault of an entry out of order that was found
pub record IsOrderFaultAt (found : Option (ℕ × ℕ)) (size : ℕ) (result : Option Fault) : Type 0 where
  pub none : IfNone found (result ≡ None)
  pub some : IfSome found (λ at. at.0 * size < 4294967296 → result ≡ Some (record { line = EntryOutOfOrder; address = at.0 * size; other = at.1 }))

module _ (d : Database) (v : VolumeState) (of : IsVolumeOf d v) (later : (header_of v.image).version ≢ 1) (forms : AreFormsRight (root_key_length d.types) v) where
  -- the first entry out of order, before which no next block is wrong
  pub order-found : (size : ℕ) (found : Option (ℕ × ℕ)) (result : Option Fault) → size ≡ v.size → (IfNone found (StandsNowhere (level.IsWrongNext (root_key_length d.types) v)))
      → IfSome found (λ at. (a o : ℕ) → level.IsWrongNext (root_key_length d.types) v a o → at.0 * v.size < a)
      → IfNone found (StandsNowhere (level.HasEntryOutOfOrder (root_key_length d.types) v)) → IfSome found (λ at. IsFirst v (level.HasEntryOutOfOrder (root_key_length d.types) v) at.0 at.1)
      → IsOrderFaultAt found size result → IfNone result (LevelsAreInOrder (root_key_length d.types) v) × IfSome result (λ f. IsLeastOf d v 11 f)
  order-found size None result same next behind none first is =
      let judged = levels-judged (root_key_length d.types) v forms in
      (where-none (LevelsAreInOrder (root_key_length d.types) v) result is.none (record { next = judged.0.1 next; keys = judged.1.1 none }), some-of-none (λ f. IsLeastOf d v 11 f) result is.none)
  order-found size (Some at) result same next behind none first is =
      let fault : Fault = record { line = EntryOutOfOrder; address = at.0 * v.size; other = at.1 } in
      let F : ℕ → Type 0 = λ s. at.0 * s < 4294967296 → result ≡ Some (record { line = EntryOutOfOrder; address = at.0 * s; other = at.1 }) in
      let e : result ≡ Some fault = subst F same is.some (order-fits d v of forms at.0 at.1 first.here) in
      (none-of-some (LevelsAreInOrder (root_key_length d.types) v) result fault e, where-some (λ f. IsLeastOf d v 11 f) result fault e (order-least d v later at.0 at.1 first.here first.least behind))

  -- the first wrong next block, before which no entry is out of order
  pub next-found : (size n : ℕ) (order : Option (ℕ × ℕ)) → size ≡ v.size → IsFirst v (level.IsWrongNext (root_key_length d.types) v) n 0 → IfSome order (λ at. n ≤ at.0)
      → IfNone order (StandsNowhere (level.HasEntryOutOfOrder (root_key_length d.types) v)) → IfSome order (λ at. IsFirst v (level.HasEntryOutOfOrder (root_key_length d.types) v) at.0 at.1)
      → IsLeastOf d v 11 (record { line = WrongNext; address = n * v.size; other = 0 })
  next-found size n None same first low none some = next-least d v later n first.here first.least (λ a o s. absurd (none a o s))
  next-found size n (Some at) same first low none some =
      next-least d v later n first.here first.least (λ a o s. (let far = some.least a o s in let l = mul-le n v.size at.0 v.size low (omega arith) in omega arith))

  -- the fault of that block
  pub next-fault : (size n address : ℕ) (order : Option (ℕ × ℕ)) (fault : Fault) → size ≡ v.size → IsFirst v (level.IsWrongNext (root_key_length d.types) v) n 0 → IfSome order (λ at. n ≤ at.0)
      → IfNone order (StandsNowhere (level.HasEntryOutOfOrder (root_key_length d.types) v)) → IfSome order (λ at. IsFirst v (level.HasEntryOutOfOrder (root_key_length d.types) v) at.0 at.1)
      → (n * size < 4294967296 → address ≡ n * size) → fault ≡ record { line = WrongNext; address = address; other = 0 } → IsLeastOf d v 11 fault
  next-fault size n address order fault same first low none some at is =
      let F : ℕ → Type 0 = λ s. n * s < 4294967296 → address ≡ n * s in
      let e : address ≡ n * v.size = subst F same at (next-fits d v of forms n first.here) in
      subst (λ (f : Fault). IsLeastOf d v 11 f) (sym (is ∙ ap (λ (a : ℕ). record { line = WrongNext; address = a; other = 0 }) e)) (next-found size n order same first low none some)

  -- the first entry out of order where no next block is wrong
  pub order-alone : (size : ℕ) (order : Option (ℕ × ℕ)) (result : Option Fault) → size ≡ v.size → StandsNowhere (level.IsWrongNext (root_key_length d.types) v)
      → IfNone order (StandsNowhere (level.HasEntryOutOfOrder (root_key_length d.types) v)) → IfSome order (λ at. IsFirst v (level.HasEntryOutOfOrder (root_key_length d.types) v) at.0 at.1)
      → IsOrderFaultAt order size result → IfNone result (LevelsAreInOrder (root_key_length d.types) v) × IfSome result (λ f. IsLeastOf d v 11 f)
  order-alone size order result same nowhere none some is =
      order-found size order result same (if-none-map order (λ n. nowhere) none) (if-some-map order (λ at f a o w. absurd (nowhere a o w)) some) none some is

  -- and where the first wrong next block is behind it
  pub order-before : (size n : ℕ) (order : Option (ℕ × ℕ)) (result : Option Fault) (is_first : Bool) → is_first ≡ false → size ≡ v.size → IsFirst v (level.IsWrongNext (root_key_length d.types) v) n 0
      → IfNone order (is_first ≡ true) → IfSome order (λ at. (is_first ≡ true → n ≤ at.0) × (is_first ≡ false → at.0 < n))
      → IfNone order (StandsNowhere (level.HasEntryOutOfOrder (root_key_length d.types) v)) → IfSome order (λ at. IsFirst v (level.HasEntryOutOfOrder (root_key_length d.types) v) at.0 at.1)
      → IsOrderFaultAt order size result → IfNone result (LevelsAreInOrder (root_key_length d.types) v) × IfSome result (λ f. IsLeastOf d v 11 f)
  order-before size n order result is_first behind same first alone by none some is =
      let bounds = block_size-bounds d.block_size d.frspc d.types of.fit in
      let own = of.size in
      let positive : 0 < v.size = omega arith in
      order-found size order result same (if-none-map order (λ e. absurd (false≢true (sym behind ∙ e))) alone)
      (if-some-map order
      (λ at h a o w. (let far = first.least a o w in let low : at.0 * v.size < n * v.size = mul-lt-mul_of_pos_right {m = at.0} {n = n} {k = v.size} (h.1 behind) positive in omega arith)) by)
      none some is

-- The faults of an index that are listed, and what is right where none is.
use Rattle.std.proofs.Common.{◌≡◌, ◌≢◌, inl, inr, ℕ, ◌≤◌, List, [], ◌∷◌, Option, IfNone, IfSome, true, refl, sym, subst, ◌∙◌, arith}
use Rattle.std.specs.Prelude.{◌==◌, is_some}
use Rattle.std.specs.List.{list_any}
use Rattle.std.specs.declared.alloc.Global.{Global}
use Rattle.std.specs.declared.vec.Vec.{Vec}
use Rattle.std.proofs.lemmas.Bool.{cases_Bool}
use Rattle.hd_dbd.specs.Hierarchy.{Database}
use Rattle.hd_volume.specs.Headers.{header_of}
use Rattle.hd_volume.specs.Volumes.{VolumeState}
use Rattle.hd_volume.specs.Indexes.{root_key_length}
use Rattle.hd_volume.proofs.PutLemmas.{if-none-map, if-some-map}
use Rattle.hd_index_blocks.specs.IndexSets.{index_entries}
use Rattle.hd_index_blocks.specs.Faultless.{AreFormsRight, AreNamedOnce, AreAllReached}
use Rattle.hd_index_blocks.proofs.FormFaults.{forms-judged}
use Rattle.hd_index_blocks.proofs.LevelFaults.{names-judged, reach-judged}
use Rattle.hd_index_blocks.proofs.RowFaults.{levels-judged}
use Rattle.hd_image.specs.Right.{LevelsAreInOrder}
use Rattle.hd_image.specs.Standing.{phase_of}
use Rattle.hd_image.specs.declared.line.Line.TheVariants.{WrongTop, WrongForm, NamedTwice, UnreachedBlock, WrongNext, EntryOutOfOrder, NoEntry}
use Rattle.hd_check_blocks.specs.declared.fault.Fault.{Fault}
use Rattle.hd_check_blocks.specs.Phases.{IsLeastOf}
use Rattle.hd_check_blocks.specs.Listing.{AreStanding}
use Rattle.hd_check_index.specs.IndexPhases.{AllRootsNamed}
use Rattle.hd_check.specs.Joining.{NoneBefore}
use Rattle.hd_check.specs.Lists.{AreFirstFaults, NoneOfIndexBefore, AreIndexFaults}
use Rattle.hd_check.proofs.OneStore.{IsOne, turned, stands-same}
use Rattle.hd_check.proofs.EarlierFaults.{next-of-index, none-of-all}
use Rattle.hd_check.proofs.FirstFaults.{listed-first, some-listed, standing-same}

-- ---- the faults of the index

-- all that are listed of a phase of the index, where none of an earlier one stands
index-faults : (d : Database) (v : VolumeState) (p : ℕ) (fs : List Fault) → 8 ≤ p → NoneOfIndexBefore d v p → AreStanding d v p fs → fs ≢ [] → AreIndexFaults d v fs
index-faults d v p [] late before all some = absurd (some refl)
index-faults d v p (f ∷ fs) late before all some = subst (λ (q : ℕ). (8 ≤ q) × NoneOfIndexBefore d v q × AreStanding d v q (f ∷ fs)) (sym all.stand.0) (late, before, all)

-- where a fault of the phase was found in one state, and all were listed in another
pub found-index : (d : Database) (v w : VolumeState) (p : ℕ) (found : Option Fault) (fs : List Fault) → IsOne v w → 8 ≤ p → NoneOfIndexBefore d v p → is_some found ≡ true → IfSome found (λ f. IsLeastOf d v p f)
    → AreStanding d w p fs → AreIndexFaults d v fs × (fs ≢ [])
found-index d v w p found fs e late before is least all =
    let here = standing-same w v (turned e) d p fs all in
    let some = some-listed d v p found fs is least here in
    (index-faults d v p fs late before here some, some)

-- those of the last phase, of which none need be
pub last-faults : (d : Database) (v : VolumeState) (fs : List Fault) → NoneOfIndexBefore d v 13 → AreStanding d v 13 fs → AreIndexFaults d v fs
last-faults d v [] before all = next-of-index d v 13 before (λ k a o is s. all.all k a o is s)
last-faults d v (f ∷ fs) before all = index-faults d v 13 (f ∷ fs) (omega arith) before all (λ e. cc)

-- behind right pointers they are the first of all
pub index-first : (d : Database) (v : VolumeState) (fs : List Fault) → NoneBefore d v 8 → AreIndexFaults d v fs → fs ≢ [] → AreFirstFaults d v fs
index-first d v [] before h some = absurd (some refl)
index-first d v (f ∷ fs) before h some = listed-first d v (phase_of f.line) (f ∷ fs) (none-of-all d v 8 (phase_of f.line) (omega arith) before h.1) h.2 some

module _ (u v : VolumeState) (e : IsOne u v) (d : Database) where
  -- where none stands in one state of a volume none does in another of that image
  pub none-of-index-same : (p : ℕ) → NoneOfIndexBefore d u p → NoneOfIndexBefore d v p
  none-of-index-same p none k a o high less s = none k a o high less (stands-same v u (turned e) d k a o s)

  -- and the faults of the one are those of the other
  pub index-faults-same : (fs : List Fault) → AreIndexFaults d u fs → AreIndexFaults d v fs
  index-faults-same [] h = none-of-index-same 14 h
  index-faults-same (f ∷ fs) h = (h.0, none-of-index-same (phase_of f.line) h.1, standing-same u v e d (phase_of f.line) (f ∷ fs) h.2)

  -- where some were found
  pub index-found-same : (o : Option (Vec Fault Global)) → IfSome o (λ l. AreIndexFaults d u l.items × (l.items ≢ [])) → IfSome o (λ l. AreIndexFaults d v l.items × (l.items ≢ []))
  index-found-same o h = if-some-map o (λ l some. (index-faults-same l.items some.0, some.1)) h

-- ---- where none is listed

module _ (d : Database) (v : VolumeState) (later : (header_of v.image).version ≢ 1) where
  -- the forms are right
  pub set-forms : AreStanding d v 8 [] → AreFormsRight (root_key_length d.types) v
  set-forms h = (forms-judged (root_key_length d.types) v).1 ((λ a o t. h.all WrongTop a o refl (inr (later, t))), (λ a o t. h.all WrongForm a o refl (inr (later, t))))

  -- each block is named once
  pub set-once : AreStanding d v 9 [] → AreNamedOnce (root_key_length d.types) v
  set-once h = (names-judged (root_key_length d.types) v).1 (λ a o t. h.all NamedTwice a o refl (inr (later, t)))

  -- each is reached
  pub set-reached : AreStanding d v 10 [] → AreAllReached (root_key_length d.types) v
  set-reached h = (reach-judged (root_key_length d.types) v).1 (λ a o t. h.all UnreachedBlock a o refl (inr (later, t)))

  -- and the levels are in order
  pub set-in-order : AreFormsRight (root_key_length d.types) v → AreStanding d v 11 [] → LevelsAreInOrder (root_key_length d.types) v
  set-in-order forms h =
      let judged = levels-judged (root_key_length d.types) v forms in
      record { next = judged.0.1 (λ a o t. h.all WrongNext a o refl (inr (later, t))); keys = judged.1.1 (λ a o t. h.all EntryOutOfOrder a o refl (inr (later, t))) }

-- an entry names each root
pub roots-named : (d : Database) (v : VolumeState) → AreStanding d v 13 [] → AllRootsNamed d v
roots-named d v h a s one = elim (cases_Bool (list_any (λ e. e.address == a) (index_entries (root_key_length d.types) v))) [
  | inl some ↦ some
  | inr none ↦ absurd (h.all NoEntry a 0 refl (s, one, none, refl))
]

-- ---- what is answered

module _ (d : Database) (v : VolumeState) (p : ℕ) (fs : List Fault) (all : AreStanding d v p fs) where
  -- where nothing is
  pub listed-none : (P : Type 0) (o : Option (Vec Fault Global)) → (AreStanding d v p [] → P) → IfNone o (fs ≡ []) → IfNone o P
  listed-none P o right h = if-none-map o (λ e. right (subst (AreStanding d v p) e all)) h

  -- and where some are
  pub listed-some : (o : Option (Vec Fault Global)) → 8 ≤ p → NoneOfIndexBefore d v p → IfSome o (λ l. (l.items ≡ fs) × (l.items ≢ [])) → IfSome o (λ l. AreIndexFaults d v l.items × (l.items ≢ []))
  listed-some o late before h = if-some-map o (λ l e. (subst (AreIndexFaults d v) (sym e.0) (index-faults d v p fs late before all (λ z. e.1 (e.0 ∙ z))), e.1)) h

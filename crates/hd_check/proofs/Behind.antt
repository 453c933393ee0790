-- What is listed of a volume: its first faults, and those of the index behind them.
use Rattle.std.proofs.Common.{◌≡◌, inl, inr, ◌<◌, List, [], ◌∷◌, refl, sym, arith}
use Rattle.hd_dbd.specs.Hierarchy.{Database}
use Rattle.hd_volume.specs.Volumes.{VolumeState}
use Rattle.hd_volume.specs.Indexes.{root_key_length}
use Rattle.hd_links.specs.Pointers.{AreLinked}
use Rattle.hd_image.specs.Records.{links_of}
use Rattle.hd_image.specs.Right.{IndexIsFormed, EntriesAreRight}
use Rattle.hd_image.specs.Standing.{phase_of}
use Rattle.hd_image.proofs.OneImage.{held-same}
use Rattle.hd_check_blocks.specs.declared.fault.Fault.{Fault}
use Rattle.hd_check_blocks.specs.declared.places.Place.{Place}
use Rattle.hd_check.specs.Joining.{HasRightBlocks}
use Rattle.hd_check.specs.Lists.{BeginsWith, AreFaultsOf, AreIndexFaults, AreFaultsBehind}
use Rattle.hd_check.proofs.OneStore.{IsOne}
use Rattle.hd_check.proofs.Joined.{before-index}
use Rattle.hd_check.proofs.FirstFaults.{first-faults-same, faults-of, none-of}
use Rattle.hd_check.proofs.IndexLists.{index-first, index-faults-same}

module _ (d : Database) (v : VolumeState) where
  -- where the pointers are right the faults of the index are those of the volume
  pub index-alone : (ps : List Place) (fs : List Fault) → HasRightBlocks d v ps → AreLinked d.types (links_of d.types v) → AreIndexFaults d v fs
      → (fs ≡ [] → IndexIsFormed (root_key_length d.types) v × EntriesAreRight d v) → AreFaultsOf d v fs
  index-alone ps [] blocks linked h right = (let index = right refl in none-of d v ps (record { blocks = blocks; pointers = linked; index = index.0; entries = index.1 }))
  index-alone ps (f ∷ fs) blocks linked h right = faults-of d v (f ∷ fs) blocks.volume.fit (index-first d v (f ∷ fs) (before-index d v ps blocks linked) h (λ e. cc))

  -- and nothing is listed behind them
  pub none-behind-index : (fs : List Fault) → AreIndexFaults d v fs → AreFaultsBehind d v fs []
  none-behind-index [] h = refl
  none-behind-index (f ∷ fs) h = (λ late low. (let high = h.0 in absurd (omega arith)), λ other. refl)

  -- nor behind those of the header or the blocks
  pub none-behind-image : (fs : List Fault) → BeginsWith (λ f. phase_of f.line < 3) fs → AreFaultsBehind d v fs []
  none-behind-image [] h = absurd h
  none-behind-image (f ∷ fs) h = (λ late low. absurd (omega arith), λ other. refl)

  -- behind those of pointers stand the faults of the index
  pub index-behind : (fs behind : List Fault) → BeginsWith (λ f. (2 < phase_of f.line) × (phase_of f.line < 8)) fs → AreIndexFaults d v behind → AreFaultsBehind d v fs behind
  index-behind [] behind within h = absurd within
  index-behind (f ∷ fs) behind within h = (
    λ late low. h,
    λ other. (let late = within.0 in let low = within.1 in elim other [ inl l ↦ absurd (omega arith) | inr l ↦ absurd (omega arith) ]),
  )

-- ---- in each state of the volume with one image

module _ (u v : VolumeState) (e : IsOne u v) (d : Database) where
  -- the faults of the one are those of the other
  pub faults-of-same : (fs : List Fault) → AreFaultsOf d u fs → AreFaultsOf d v fs
  faults-of-same [] h = (h.0, held-same d u v e.image e.size e.sizes h.0 h.1)
  faults-of-same (f ∷ fs) h = (first-faults-same u v e d (f ∷ fs) h.0, λ forest held. h.1 forest (held-same d v u (sym e.image) (sym e.size) (sym e.sizes) forest held))

  -- and so are those behind them
  pub behind-same : (fs behind : List Fault) → AreFaultsBehind d u fs behind → AreFaultsBehind d v fs behind
  behind-same [] behind h = h
  behind-same (f ∷ fs) behind h = (λ late low. index-faults-same u v e d behind (h.0 late low), h.1)

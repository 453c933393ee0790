-- What phases of a check find of an index set.
use Rattle.std.proofs.Common.{◌≡◌, ◌≢◌, ◌⊎◌, inl, inr, ℕ, ◌*◌, List, [], ◌∷◌, refl}
use Rattle.std.proofs.lemmas.Bool.{cases_eq}
use Rattle.hd_volume.specs.Volumes.{VolumeState}
use Rattle.hd_volume.specs.Indexes.{IsAmong}
use Rattle.hd_index_blocks.specs.Levels.{blocks_down}
use Rattle.hd_index_blocks.specs.IndexSets.{index_blocks, top_blocks, top_level}
use Rattle.hd_index_blocks.specs.LevelFaults.{NamesAreJudged, ReachIsJudged}

-- a number is one of some, or none of them
among-or : (n : ℕ) (ms : List ℕ) → IsAmong n ms ⊎ (IsAmong n ms → ⊥)
among-or n [] = inr (λ h. h)
among-or n (m ∷ ms) = elim (cases_eq n m) [
  | inl is ↦ inl (inl is)
  | inr other ↦ elim (among-or n ms) [
    | inl among ↦ inl (inr among)
    | inr none ↦ inr (λ h. elim h [ inl is ↦ other is | inr among ↦ none among ])
  ]
]

pub names-judged : NamesAreJudged
names-judged k v = (
  λ once a o t. t.8 (once t.0 t.1 t.2 t.3 t.4 t.5 t.6 t.7),
  λ nowhere n g i h j kind one two. elim (cases_eq g h) [
    | inl same ↦ elim (cases_eq i j) [
      | inl place ↦ (same, place)
      | inr other ↦ absurd (nowhere (n * v.size) 0 (n, g, i, h, j, kind, one, two, (λ e. other e.1), refl, refl))
    ]
    | inr other ↦ absurd (nowhere (n * v.size) 0 (n, g, i, h, j, kind, one, two, (λ e. other e.0), refl, refl))
  ],
)

pub reach-judged : ReachIsJudged
reach-judged k v = (
  λ all a o t. t.2 (all t.0 t.1),
  λ nowhere n kind. elim (among-or n (blocks_down (index_blocks k v) (top_level v) (top_blocks v))) [
    | inl among ↦ among
    | inr none ↦ absurd (nowhere (n * v.size) 0 (n, kind, none, refl, refl))
  ],
)

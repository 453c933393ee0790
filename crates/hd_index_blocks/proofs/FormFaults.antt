-- What the first phase of a check finds of an index set.
use Rattle.std.proofs.Common.{◌≡◌, ◌≢◌, ◌⊎◌, inl, inr, ℕ, suc, ◌*◌, ◌<◌, ◌≤◌, List, Option, Some, None, refl, arith}
use Rattle.std.proofs.lemmas.Bool.{cases_eq, cases_lt}
use Rattle.hd_bytes.specs.Numbers.{number_at}
use Rattle.hd_volume.specs.Headers.{header_of}
use Rattle.hd_volume.specs.Volumes.{VolumeState, block_at}
use Rattle.hd_volume.specs.Entries.{entries_in}
use Rattle.hd_volume.specs.Indexes.{entry_room, IsAmong}
use Rattle.hd_index_blocks.specs.Levels.{named}
use Rattle.hd_index_blocks.specs.IndexSets.{level_in, next_in, top_level, IsHeightRight}
use Rattle.hd_index_blocks.specs.Faultless.{IsFormRight, AreFormsRight}
use Rattle.hd_index_blocks.specs.LevelFaults.{IsWrongTop, IsWrongForm, StandsNowhere, FormsAreJudged}

-- a block is of a level, or it is not
of-or : (o : Option ℕ) (l : ℕ) → (o ≡ Some l) ⊎ (o ≢ Some l)
of-or None l = inr (λ e. cc)
of-or (Some x) l = elim (cases_eq x l) [ inl is ↦ inl (let e : Some x ≡ Some l = rw is refl in e) | inr other ↦ inr (λ e. other (cc)) ]

module _ (k : ℕ) (v : VolumeState) where
  module _ (f : AreFormsRight k v) where
    no-top : StandsNowhere (IsWrongTop v)
    no-top a o t = elim t.2 [
      | inl one ↦ elim f.height [ inl none ↦ one.1 none.1 | inr some ↦ (let s = some.0 in let z = one.0 in omega arith) ]
      | inr (inl two) ↦ elim f.height [ inl none ↦ two.0 none.0 | inr some ↦ (let s = some.1 in let z = two.1 in omega arith) ]
      | inr (inr (inl high)) ↦ elim f.height [ inl none ↦ (let z = none.1 in omega arith) | inr some ↦ (let s = some.2 in omega arith) ]
      | inr (inr (inr wrong)) ↦ wrong.1 (f.top (let other = wrong.0 in omega arith))
    ]

    no-form : StandsNowhere (IsWrongForm k v)
    no-form a o t =
        let b = f.blocks t.0 t.1 t.2 in
        elim t.5 [
          | inl high ↦ high b.low
          | inr (inl none) ↦ (let s = b.some in omega arith)
          | inr (inr (inl many)) ↦ (let c = b.count in omega arith)
          | inr (inr (inr (inl next))) ↦ elim b.next [ inl z ↦ next.0 z | inr is ↦ next.1 is ]
          | inr (inr (inr (inr names))) ↦ names.4 (b.names names.0 names.1 names.2 names.3)
        ]

  module _ (tops : StandsNowhere (IsWrongTop v)) (forms : StandsNowhere (IsWrongForm k v)) where
    height-right : IsHeightRight v
    height-right = elim (cases_eq (header_of v.image).top 0) [
      | inl top ↦ elim (cases_eq (header_of v.image).height 0) [
        | inl none ↦ inl (top, none)
        | inr some ↦ absurd (tops 0 (header_of v.image).top (refl, refl, inl (top, some)))
      ]
      | inr top ↦ elim (cases_eq (header_of v.image).height 0) [
        | inl none ↦ absurd (tops 0 (header_of v.image).top (refl, refl, inr (inl (top, none))))
        | inr some ↦ elim (cases_lt 64 (header_of v.image).height) [
          | inl high ↦ absurd (tops 0 (header_of v.image).top (refl, refl, inr (inr (inl high))))
          | inr low ↦ inr (omega arith, omega arith, low)
        ]
      ]
    ]

    top-right : 0 < (header_of v.image).top → level_in v (header_of v.image).top ≡ Some (top_level v)
    top-right some = elim (of-or (level_in v (header_of v.image).top) (top_level v)) [
      | inl is ↦ is
      | inr other ↦ absurd (tops 0 (header_of v.image).top (refl, refl, inr (inr (inr ((λ e. omega arith), other)))))
    ]

    block-right : (n l : ℕ) → level_in v n ≡ Some l → IsFormRight k v l n
    block-right n l is = record {
      low = elim (cases_lt l (header_of v.image).height) [
        | inl low ↦ low
        | inr high ↦ absurd (forms (n * v.size) 0 (n, l, is, refl, refl, inl (λ low. omega arith)))
      ];
      some = elim (cases_eq (number_at 2 (block_at v n) 4) 0) [
        | inl none ↦ absurd (forms (n * v.size) 0 (n, l, is, refl, refl, inr (inl none)))
        | inr some ↦ omega arith
      ];
      count = elim (cases_lt (entry_room k v.size) (number_at 2 (block_at v n) 4)) [
        | inl many ↦ absurd (forms (n * v.size) 0 (n, l, is, refl, refl, inr (inr (inl many))))
        | inr few ↦ few
      ];
      next = elim (cases_eq (next_in v n) 0) [
        | inl none ↦ inl none
        | inr some ↦ elim (of-or (level_in v (next_in v n)) l) [
          | inl of ↦ inr of
          | inr other ↦ absurd (forms (n * v.size) 0 (n, l, is, refl, refl, inr (inr (inr (inl (some, other))))))
        ]
      ];
      names = λ j m step among. elim (of-or (level_in v m) j) [
        | inl of ↦ of
        | inr other ↦ absurd (forms (n * v.size) 0 (n, l, is, refl, refl, inr (inr (inr (inr (j, m, step, among, other))))))
      ];
    }

pub forms-judged : FormsAreJudged
forms-judged k v = (
  λ f. (no-top k v f, no-form k v f),
  λ none. record { height = height-right k v none.0 none.1; top = top-right k v none.0 none.1; blocks = block-right k v none.0 none.1 },
)

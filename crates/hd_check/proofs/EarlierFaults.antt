-- What each phase finds right excludes the faults of its lines.
use Rattle.std.proofs.Common.{◌≡◌, inl, inr, ℕ, ◌+◌, ◌≤◌, true, ◌∙◌, arith}
use Rattle.std.specs.List.{list_all}
use Rattle.std.proofs.lemmas.Bool.{cases_lt}
use Rattle.hd_dbd.specs.Hierarchy.{Database}
use Rattle.hd_volume.specs.Headers.{header_of}
use Rattle.hd_volume.specs.Volumes.{VolumeState}
use Rattle.hd_volume.specs.Entries.{entries}
use Rattle.hd_index_blocks.specs.IndexSets.{sequence_blocks, index_entries}
use Rattle.hd_volume.specs.Indexes.{root_key_length, keys_ascend, HasIndex}
use Rattle.hd_links.specs.Links.{IsSegment}
use Rattle.hd_links.specs.Pointers.{PointersAreTyped, PredecessorsAreOne, TwinsLinkBack, KeysAscend, IsReached}
use Rattle.hd_image.specs.Records.{links_of, IsVolumeOf}
use Rattle.hd_image.specs.IndexFaults.{names_a_root, IsWrongTop, IsWrongForm}
use Rattle.hd_image.specs.Right.{ChainIsFormed, IndexIsFormed, IndexIsInOrder}
use Rattle.hd_image.specs.Standing.{Stands, phase_of}
use Rattle.hd_image.specs.declared.line.Line.{Line}
use Rattle.hd_image.specs.declared.line.Line.TheVariants.{NoVolume, NoVersion, AnotherDatabase, WrongBackward, WrongLast, OutOfOrder, NotReached}
use Rattle.hd_image.proofs.Roots.{header-code}
use Rattle.hd_image.proofs.BlockNoFault.{none-wrong-chain, none-wrong-place}
use Rattle.hd_image.proofs.PointerNoFault as pointer
use Rattle.hd_image.proofs.IndexNoFault as index
use Rattle.hd_check_blocks.specs.declared.fault.Fault.{Fault}
use Rattle.hd_check_blocks.specs.Phases.{IsHeaderRight, AreBlocksRight, IsLeastOf}
use Rattle.hd_check_index.specs.IndexPhases.{IsIndexRight, AreNamedOnce}
use Rattle.hd_check.specs.Joining.{NoneBefore, IsFirstFault}
use Rattle.hd_check.specs.Lists.{NoneOfIndexBefore}
use Rattle.hd_check_blocks.proofs.HeaderFaults.{first-lines}
use Rattle.hd_check_blocks.proofs.BlockFaults.{second-lines}
use Rattle.hd_check_pointers.proofs.TypedRecords.{third-lines}
use Rattle.hd_check_pointers.proofs.OneEach.{fourth-lines}
use Rattle.hd_check_index.proofs.LateLines.{stands-8, stands-9, stands-10, stands-11, stands-12}

-- a line of the fifth phase
fifth-lines : (P : Line → Type 0) → P WrongBackward → P WrongLast → (k : Line) → phase_of k ≡ 5 → P k
fifth-lines P a b WrongBackward h = a
fifth-lines P a b WrongLast h = b
fifth-lines P a b k h = absurd (omega arith)

-- that of the sixth
sixth-line : (P : Line → Type 0) → P OutOfOrder → (k : Line) → phase_of k ≡ 6 → P k
sixth-line P a OutOfOrder h = a
sixth-line P a k h = absurd (omega arith)

-- that of the seventh
seventh-line : (P : Line → Type 0) → P NotReached → (k : Line) → phase_of k ≡ 7 → P k
seventh-line P a NotReached h = a
seventh-line P a k h = absurd (omega arith)

-- no line is of a phase before the first
pub none-first : (d : Database) (v : VolumeState) → NoneBefore d v 1
none-first d v NoVolume a o l s = absurd (omega arith)
none-first d v NoVersion a o l s = absurd (omega arith)
none-first d v AnotherDatabase a o l s = absurd (omega arith)
none-first d v k a o l s = absurd (omega arith)

-- the least fault of a phase is the least of all where none of an earlier phase stands
pub first-of : (d : Database) (v : VolumeState) (p : ℕ) (f : Fault) → NoneBefore d v p → IsLeastOf d v p f → IsFirstFault d v f
first-of d v p f none h = record {
  stands = h.stands;
  least = λ k a o s before.
      (let of = h.of in
      elim (cases_lt (phase_of k) p) [
        | inl low ↦ none k a o low s
        | inr high ↦ h.least k a o (elim before [ inl l ↦ (let x = l in absurd (omega arith)) | inr both ↦ both.0 ∙ of ]) s before
      ]);
}

module _ (d : Database) (v : VolumeState) where
  -- where none of the next phase stands either
  next : (p : ℕ) → NoneBefore d v p → ((k : Line) (a o : ℕ) → phase_of k ≡ p → Stands d v k a o → ⊥) → NoneBefore d v (p + 1)
  next p none here k a o l s = elim (cases_lt (phase_of k) p) [
    | inl low ↦ none k a o low s
    | inr high ↦ here k a o (omega arith) s
  ]

  -- the header is right
  pub none-2 : IsHeaderRight d v → NoneBefore d v 2
  none-2 h = next 1 (none-first d v)
      (λ k a o is. first-lines (λ x. Stands d v x a o → ⊥) (λ s. s.0 h.header) (λ s. s.0 h.known.version_is)
      (λ s. elim s.0 [ inl e ↦ e h.known.name_is | inr e ↦ e h.known.size_is ]) k is)

  -- the blocks are
  pub none-3 : NoneBefore d v 2 → AreBlocksRight v → NoneBefore d v 3
  none-3 none h = next 2 none
      (λ k a o is. second-lines (λ x. Stands d v x a o → ⊥) (none-wrong-chain v a o h.divided) (none-wrong-place v a o h.divided)
      (λ s. elim (h.kinds s.0 s.1 s.2) [
        | inl x ↦ s.3 x.kind_is
        | inr (inl x) ↦ s.4 x.kind_is
        | inr (inr x) ↦ s.5 x.kind_is
      ]) k is)

  -- the pointers are typed
  pub none-4 : NoneBefore d v 3 → PointersAreTyped d.types (links_of d.types v) → NoneBefore d v 4
  none-4 none h = next 3 none
      (λ k a o is. third-lines (λ x. Stands d v x a o → ⊥)
      (pointer.none-deleted d.types (links_of d.types v) (header-code d.types v) h a o)
      (pointer.none-nowhere d.types (links_of d.types v) (header-code d.types v) h a o)
      (pointer.none-another d.types (links_of d.types v) (header-code d.types v) h a o) k is)

  -- each segment has one predecessor
  pub none-5 : NoneBefore d v 4 → PredecessorsAreOne d.types (links_of d.types v) → NoneBefore d v 5
  none-5 none h = next 4 none
      (λ k a o is. fourth-lines (λ x. Stands d v x a o → ⊥) (pointer.none-twice d.types (links_of d.types v) h a o) (pointer.none-without d.types (links_of d.types v) h a o) k is)

  -- twins link back
  pub none-6 : NoneBefore d v 5 → TwinsLinkBack d.types (links_of d.types v) → NoneBefore d v 6
  none-6 none h = next 5 none
      (λ k a o is. fifth-lines (λ x. Stands d v x a o → ⊥) (pointer.none-backward d.types (links_of d.types v) h a o) (pointer.none-last d.types (links_of d.types v) h a o) k is)

  -- keys ascend
  pub none-7 : NoneBefore d v 6 → KeysAscend d.types (links_of d.types v) → NoneBefore d v 7
  none-7 none h = next 6 none (λ k a o is. sixth-line (λ x. Stands d v x a o → ⊥) (pointer.none-order d.types (links_of d.types v) h a o) k is)

  -- each segment is reached
  pub none-8 : NoneBefore d v 7 → ((a : ℕ) → IsSegment (links_of d.types v) a → (n : ℕ) × IsReached d.types (links_of d.types v) n a) → NoneBefore d v 8
  none-8 none h = next 7 none (λ k a o is. seventh-line (λ x. Stands d v x a o → ⊥) (pointer.none-unreached d.types (links_of d.types v) h a o) k is)

  -- ---- an index, whatever is wrong before it

  -- no line of an index is of a phase before the eighth
  pub none-of-index : NoneOfIndexBefore d v 8
  none-of-index k a o high low s = absurd (omega arith)

  -- where none of the next phase stands either
  pub next-of-index : (p : ℕ) → NoneOfIndexBefore d v p → ((k : Line) (a o : ℕ) → phase_of k ≡ p → Stands d v k a o → ⊥) → NoneOfIndexBefore d v (p + 1)
  next-of-index p none here k a o high l s = elim (cases_lt (phase_of k) p) [
    | inl low ↦ none k a o high low s
    | inr up ↦ here k a o (omega arith) s
  ]

  -- where none stands before the index, and none of the index does, none of all does
  pub none-of-all : (p q : ℕ) → 8 ≤ p → NoneBefore d v p → NoneOfIndexBefore d v q → NoneBefore d v q
  none-of-all p q late none index k a o l s = elim (cases_lt (phase_of k) p) [
    | inl low ↦ none k a o low s
    | inr up ↦ index k a o (omega arith) l s
  ]

  -- a right index has a right top
  right-top : (a o : ℕ) → IsIndexRight (root_key_length d.types) v → IsWrongTop v a o → ⊥
  right-top a o h f = elim h.height [
    | inl z ↦ elim f.2 [
      | inl c ↦ c.1 z.1
      | inr (inl c) ↦ c.0 z.0
      | inr (inr (inl c)) ↦ (let e = z.1 in absurd (omega arith))
      | inr (inr (inr c)) ↦ c.0 z.0
    ]
    | inr one ↦ elim f.2 [
      | inl c ↦ (let e = c.0 in let l = one.0 in absurd (omega arith))
      | inr (inl c) ↦ (let e = c.1 in let l = one.1 in absurd (omega arith))
      | inr (inr (inl c)) ↦ (let l = one.1 in absurd (omega arith))
      | inr (inr (inr c)) ↦ c.1 (h.top one.0)
    ]
  ]

  -- and blocks of a right form
  right-form : (a o : ℕ) → IsIndexRight (root_key_length d.types) v → IsWrongForm (root_key_length d.types) v a o → ⊥
  right-form a o h (n, kind, at, other, wrong) =
      let b = h.blocks n kind in
      elim wrong [
        | inl high ↦ high b.level
        | inr (inl many) ↦ (let few = b.count in absurd (omega arith))
        | inr (inr next) ↦ elim b.next [ inl z ↦ next.0 z | inr l ↦ next.1 l ]
      ]

  -- the index is right, block by block
  pub none-9 : IsIndexRight (root_key_length d.types) v → NoneOfIndexBefore d v 9
  none-9 h = next-of-index 8 none-of-index (λ k a o is s. elim (stands-8 d v k a o h.version is s) [ inl top ↦ right-top a o h top | inr form ↦ right-form a o h form ])

  -- no block is named twice
  pub none-10 : NoneOfIndexBefore d v 9 → (header_of v.image).version ≡ 1 → AreNamedOnce v → NoneOfIndexBefore d v 10
  none-10 none one h = next-of-index 9 none (λ k a o is s. (let f = stands-9 d v k a o one is s in f.6 (h f.0 f.1 f.2 f.3 f.4 f.5)))

  -- each block is reached
  pub none-11 : NoneOfIndexBefore d v 10 → (header_of v.image).version ≡ 1 → ChainIsFormed (root_key_length d.types) v → NoneOfIndexBefore d v 11
  none-11 none one h = next-of-index 10 none (λ k a o is s. (let f = stands-10 d v k a o one is s in f.2 (h.reached f.0 f.1)))

  -- the keys of the entries ascend
  chain-12 : NoneOfIndexBefore d v 11 → IsVolumeOf d v → (header_of v.image).version ≡ 1 → ChainIsFormed (root_key_length d.types) v → keys_ascend (entries (root_key_length d.types) v) ≡ true
      → NoneOfIndexBefore d v 12
  chain-12 none of known formed h =
      let has : HasIndex (root_key_length d.types) v = record { formatted = of.formatted; version = known; height = formed.height; chain = formed.chain; reached = formed.reached; ascend = h } in
      next-of-index 11 none (λ k a o is s. index.none-out-of-order (root_key_length d.types) v has a o (stands-11 d v k a o known is s).0)

  -- no fault of the blocks of an index and of their order stands in a volume whose index is formed and in order
  pub none-12 : IsVolumeOf d v → (header_of v.image).version ≡ 1 → IndexIsFormed (root_key_length d.types) v → IndexIsInOrder (root_key_length d.types) v → NoneOfIndexBefore d v 12
  none-12 of one (inl f) (inl o) =
      let has : HasIndex (root_key_length d.types) v = record { formatted = of.formatted; version = one; height = f.1.height; chain = f.1.chain; reached = f.1.reached; ascend = o.1 } in
      let nine : NoneOfIndexBefore d v 9 =
      next-of-index 8 none-of-index
      (λ k a x is s. elim (stands-8 d v k a x one is s) [ inl t ↦ index.none-wrong-top (root_key_length d.types) v has a x t | inr t ↦ index.none-wrong-form (root_key_length d.types) v has a x t ]) in
      let ten : NoneOfIndexBefore d v 10 = next-of-index 9 nine (λ k a x is s. index.none-twice (root_key_length d.types) v has a x (stands-9 d v k a x one is s)) in
      chain-12 (none-11 ten one f.1) of one f.1 o.1
  none-12 of one (inl f) (inr o) = absurd (o.0 one)
  none-12 of one (inr f) o = absurd (f.0 one)

  -- each entry names a root
  pub none-13 : NoneOfIndexBefore d v 12 → list_all (λ e. names_a_root d (links_of d.types v) e) (index_entries (root_key_length d.types) v) ≡ true → NoneOfIndexBefore d v 13
  none-13 none h = next-of-index 12 none
      (λ k a o is s. (let w = stands-12 d v k a o is s in index.none-found (λ e. names_a_root d (links_of d.types v) e) (root_key_length d.types) v (sequence_blocks (root_key_length d.types) v) w.0 o h w.1 w.2))

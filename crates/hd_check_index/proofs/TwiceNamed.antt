-- Blocks that are named twice, by the list of all names.
use Rattle.std.proofs.Common.{◌≡◌, ◌≢◌, inl, inr, ℕ, zero, suc, ◌*◌, ◌<◌, ◌≤◌, List, [], ◌∷◌, length, slice_index, refl, sym, ap, subst, ◌∙◌, arith}
use Rattle.std.specs.Prelude.{map}
use Rattle.std.proofs.lemmas.Bool.{cases_lt, cases_eq, cases_order}
use Rattle.std.proofs.lemmas.Nat.{mul-le}
use Rattle.hd_dbd.specs.Hierarchy.{Database}
use Rattle.hd_volume.specs.Headers.{header_of}
use Rattle.hd_volume.specs.Volumes.{VolumeState, IsKind}
use Rattle.hd_volume.specs.Indexes.{root_key_length}
use Rattle.hd_image.specs.IndexFaults.{NamesBlock, IsNamedTwice}
use Rattle.hd_image.specs.declared.line.Line.TheVariants.{NamedTwice}
use Rattle.hd_check_index.specs.declared.noted_blocks.ChainedBlock.{ChainedBlock}
use Rattle.hd_check_blocks.specs.Phases.{IsLeastOf}
use Rattle.hd_check_index.specs.Marks.{IsTwice}
use Rattle.hd_check_index.specs.IndexPhases.{AreIndexBlocks, IsIndexRight, AreNamedOnce, names_of, index_block_of, index_block_at}
use Rattle.hd_check_index.proofs.IndexTables.{among, index-of, above-at, in-order}
use Rattle.hd_check_index.proofs.LateLines.{least-late, stands-9}

-- ---- names and their holders

-- the next blocks are those of the table
next-at : (bs : List ChainedBlock) (i : ℕ) → i < length bs → slice_index (map (λ (b : ChainedBlock). b.next) bs) i ≡ (index_block_at bs i).next
next-at [] i l = absurd (omega arith)
next-at (b ∷ bs) zero l = refl
next-at (b ∷ bs) (suc i) l = next-at bs i (omega arith)

many-next : (bs : List ChainedBlock) → length (map (λ (b : ChainedBlock). b.next) bs) ≡ length bs
many-next [] = refl
many-next (b ∷ bs) = ap suc (many-next bs)

-- the holder of the name at an index
abbrev holder-at : List ChainedBlock → ℕ → ℕ
holder-at bs zero = 0
holder-at bs (suc i) = (index_block_at bs i).number

module _ (v : VolumeState) (bs : List ChainedBlock) (top : ℕ) (h : AreIndexBlocks v bs) (is : top ≡ (header_of v.image).top) where
  -- the holder at an index names the block there
  holds : (n i : ℕ) → i < length (names_of top bs) → slice_index (names_of top bs) i ≡ n → NamesBlock v (holder-at bs i) n
  holds n zero l e = inl (refl, sym is ∙ e)
  holds n (suc i) l e =
      let many = many-next bs in
      let within : i < length bs = omega arith in
      let t = h.there (index_block_at bs i) (among bs i within) in
      inr (t.0, sym t.1 ∙ sym (next-at bs i within) ∙ e)

  -- two holders stand at two indexes
  apart : (i j : ℕ) → i < j → j < length (names_of top bs) → holder-at bs i ≢ holder-at bs j
  apart i zero less l e = absurd (omega arith)
  apart zero (suc j) less l e = (let many = many-next bs in let a = above-at 0 bs j h.ascend (omega arith) in absurd (omega arith))
  apart (suc i) (suc j) less l e = (let many = many-next bs in let a = in-order 0 bs i j h.ascend (omega arith) (omega arith) in absurd (omega arith))

  -- a holder of a name has an index
  record Held (g n : ℕ) : Type 0 where
    index : ℕ
    within : index < length (names_of top bs)
    names : slice_index (names_of top bs) index ≡ n
    own : holder-at bs index ≡ g

  held : (g n : ℕ) → NamesBlock v g n → Held g n
  held g n (inl t) = record { index = 0; within = omega arith; names = is ∙ t.1; own = sym t.0 }
  held g n (inr t) =
      let i = index-of (index_block_of v g) bs (h.all g t.0) in
      let many = many-next bs in
      let l = i.1 in
      record {
        index = suc i.0;
        within = omega arith;
        names = next-at bs i.0 i.1 ∙ ap (λ (b : ChainedBlock). b.next) i.2 ∙ t.1;
        own = ap (λ (b : ChainedBlock). b.number) i.2;
      }

  -- what two holders name stands twice among the names
  named-two : (n g k : ℕ) → NamesBlock v g n → NamesBlock v k n → g ≢ k → IsTwice n (names_of top bs)
  named-two n g k a b other =
      let x = held g n a in
      let y = held k n b in
      elim (cases_order x.index y.index) [
        | inl same ↦ absurd (other (sym x.own ∙ ap (holder-at bs) same ∙ y.own))
        | inr (inl less) ↦ (x.index, y.index, less, y.within, x.names, y.names)
        | inr (inr more) ↦ (y.index, x.index, more, x.within, y.names, x.names)
      ]

  -- where no name stands twice each block is named once
  pub named-once : ((n : ℕ) → 0 < n → IsTwice n (names_of top bs) → ⊥) → AreNamedOnce v
  named-once none n g k kind a b = elim (cases_eq g k) [
    | inl same ↦ same
    | inr other ↦ absurd (none n kind.later (named-two n g k a b other))
  ]

  -- a name that is not 0 is that of an index block
  named-kind : (k : ℕ) → IsIndexRight k v → (n i : ℕ) → 0 < n → i < length (names_of top bs) → slice_index (names_of top bs) i ≡ n → IsKind v 2 n
  named-kind k right n i some l e = elim (holds n i l e) [
    | inl t ↦ (let at = t.1 in subst (IsKind v 2) t.1 (right.top (omega arith)).0)
    | inr t ↦ elim (right.blocks (holder-at bs i) t.0).next [
      | inl z ↦ (let at = t.1 in absurd (omega arith))
      | inr o ↦ subst (IsKind v 2) t.1 o.0
    ]
  ]

  -- a number that stands twice is that of a block that is named twice
  pub twice-stands : (k n : ℕ) → IsIndexRight k v → 0 < n → IsTwice n (names_of top bs) → IsNamedTwice v (n * v.size) 0
  twice-stands k n right some two =
      let less = two.2 in
      let within = two.3 in
      (n, holder-at bs two.0, holder-at bs two.1, named-kind k right n two.0 some (omega arith) two.4, holds n two.0 (omega arith) two.4, holds n two.1 within two.5, apart two.0 two.1 less within, refl, refl)

  -- and the number of such a block does
  pub stands-twice : (a o : ℕ) (t : IsNamedTwice v a o) → IsTwice t.0 (names_of top bs)
  stands-twice a o t = named-two t.0 t.1 t.2 t.4 t.5 t.6

  -- the least number that stands twice is the least fault
  pub twice-least : (d : Database) (n : ℕ) → IsIndexRight (root_key_length d.types) v → 0 < n → IsTwice n (names_of top bs) → ((m : ℕ) → 0 < m → m < n → IsTwice m (names_of top bs) → ⊥)
      → IsLeastOf d v 9 (record { line = NamedTwice; address = n * v.size; other = 0 })
  twice-least d n right some two least =
      least-late d v 9 (record { line = NamedTwice; address = n * v.size; other = 0 }) (omega arith) (λ e. omega arith) refl
      (inl (right.version, twice-stands (root_key_length d.types) n right some two))
      (λ k a o of s.
      (let t = stands-9 d v k a o right.version of s in
      let m : ℕ = t.0 in
      let at = t.7 in
      elim (cases_lt m n) [
        | inl low ↦ absurd (least m t.3.later low (stands-twice a o t))
        | inr high ↦ (let l : n * v.size ≤ m * v.size = mul-le n v.size m v.size high (omega arith) in omega arith)
      ]))

  -- its block is there
  pub twice-kind : (k n : ℕ) → IsIndexRight k v → 0 < n → IsTwice n (names_of top bs) → IsKind v 2 n
  twice-kind k n right some two = (let less = two.2 in let within = two.3 in named-kind k right n two.0 some (omega arith) two.4)

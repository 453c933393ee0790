-- The blocks of a chain in order of their numbers.
use Rattle.std.proofs.Common.{◌≡◌, inl, inr, ℕ, zero, suc, ◌<◌, List, [], ◌∷◌, length, slice_index, refl, sym, ◌∙◌, subst, arith}
use Rattle.std.specs.List.Sorted.{IsPermutation, IsNonDecreasing}
use Rattle.std.proofs.lemmas.Bool.{cases_eq, eq-eqb}
use Rattle.std.proofs.lemmas.List.Sorted.{IsPermutation-sym}
use Rattle.hd_bytes.specs.Numbers.{number_at}
use Rattle.hd_volume.specs.Headers.{header_of}
use Rattle.hd_volume.specs.Volumes.{VolumeState, block_at}
use Rattle.hd_volume.specs.Entries.{entry_blocks}
use Rattle.hd_volume.specs.Indexes.{IsEntryBlock, IsChain, IsAmong}
use Rattle.hd_index_blocks.specs.Chains.{IsLinked}
use Rattle.hd_index_blocks.specs.IndexSets.{next_in, sequence_blocks}
use Rattle.hd_index_blocks.proofs.Chains.{linked-once}
use Rattle.hd_image.specs.Right.{ChainIsFormed}
use Rattle.hd_check_index.specs.Marks.{IsTwice}
use Rattle.hd_check_index.specs.IndexPhases.{NumbersAscend, IsSequence}
use Rattle.hd_check_index.proofs.TwiceNumbers.{twice-moved}
use Rattle.hd_check_index.proofs.UnnamedRoots.{at-among, among-moved}
use Rattle.hd_check_index.proofs.NamedEntries.{chain-block}

-- no block stands twice in a chain
chain-linked : (k : ℕ) (v : VolumeState) (s : ℕ) (ns : List ℕ) → IsChain k v s ns → IsLinked (next_in v) s ns
chain-linked k v s [] h = h
chain-linked k v s (n ∷ ns) h = (h.0, (λ z. (let later = h.1.is.later in omega arith)), chain-linked k v (number_at 4 (block_at v n) 8) ns h.2)

chain-once : (k : ℕ) (v : VolumeState) (s : ℕ) (ns : List ℕ) (i j : ℕ) → IsChain k v s ns → i < j → j < length ns → slice_index ns i ≡ slice_index ns j → ⊥
chain-once k v s [] i j h less within same = omega arith
chain-once k v s (n ∷ ns) i zero h less within same = omega arith
chain-once k v s (n ∷ ns) zero (suc j) h less within same =
    (linked-once (next_in v) s [] n ns (chain-linked k v s (n ∷ ns) h)).1 (at-among ns n j (omega arith) (sym same))
chain-once k v s (n ∷ ns) (suc i) (suc j) h less within same = chain-once k v (number_at 4 (block_at v n) 8) ns i j h.2 (omega arith) (omega arith) same

-- numbers in order of which none stands twice ascend
ascend-apart : (a : ℕ) (ns : List ℕ) → ((i : ℕ) → i < length ns → a < slice_index ns i) → ((i j : ℕ) → i < j → j < length ns → slice_index ns i < slice_index ns j) → NumbersAscend a ns
ascend-apart a [] above less = tt
ascend-apart a (n ∷ ns) above less =
    (above 0 (omega arith), ascend-apart n ns (λ i within. less 0 (suc i) (omega arith) (omega arith)) (λ i j l within. less (suc i) (suc j) (omega arith) (omega arith)))

pub chain-sequence : (k : ℕ) (v : VolumeState) (chain sorted : List ℕ) → (header_of v.image).version ≡ 1 → ChainIsFormed k v → chain ≡ entry_blocks v → IsPermutation chain sorted → IsNonDecreasing sorted
    → IsSequence k v sorted
chain-sequence k v chain sorted one formed is moved up =
    let own : sequence_blocks k v ≡ entry_blocks v = rw (eq-eqb (header_of v.image).version 1 one) refl in
    let back = IsPermutation-sym chain sorted moved in
    let A : ℕ → List ℕ → Type 0 = λ n ms. IsAmong n ms in
    let bear : (n : ℕ) → IsAmong n sorted → IsEntryBlock k v n =
    λ n a. chain-block k v (header_of v.image).top (entry_blocks v) n formed.chain (subst (A n) is (among-moved sorted chain n back a)) in
    record {
      ascend = ascend-apart 0 sorted
          (λ i within. (let b = bear (slice_index sorted i) (at-among sorted (slice_index sorted i) i within refl) in b.is.later))
          (λ i j less within. (let order = up i j 0 (omega arith) within in
          elim (cases_eq (slice_index sorted i) (slice_index sorted j)) [
            | inr other ↦ omega arith
            | inl same ↦
                (let two : IsTwice (slice_index sorted j) sorted = (i, j, less, within, same, refl) in
                let t = twice-moved (slice_index sorted j) sorted chain back two in
                let at : slice_index chain t.0 ≡ slice_index chain t.1 = t.4 ∙ sym t.5 in
                let I : List ℕ → Type 0 = λ ms. (t.1 < length ms) × (slice_index ms t.0 ≡ slice_index ms t.1) in
                let whole = subst I is (t.3, at) in
                absurd (chain-once k v (header_of v.image).top (entry_blocks v) t.0 t.1 formed.chain t.2 whole.0 whole.1))
          ]));
      there = λ n a. subst (A n) (sym own) (subst (A n) is (among-moved sorted chain n back a));
      all = λ n a. among-moved chain sorted n moved (subst (A n) (sym is) (subst (A n) own a));
      bear = bear;
    }

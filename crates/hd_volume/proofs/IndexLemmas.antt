-- On what the index depends.
use Rattle.std.proofs.Common.{◌≡◌, ℕ, zero, suc, inl, inr, List, [], ◌∷◌, ◌++◌, slice_index, refl, sym, ap, subst, ◌∙◌, arith, ne_eqb}
use Rattle.std.proofs.lemmas.Bool.{cases_eq, eq-eqb}
use Rattle.std.proofs.lemmas.List.{append_assoc}
use Rattle.hd_bytes.specs.Numbers.{number_at}
use Rattle.hd_volume.specs.Headers.{Header, header_of}
use Rattle.hd_volume.specs.Volumes.{VolumeState, block_at, kind_of, IsKind, IsFormatted}
use Rattle.hd_volume.specs.Entries.{Entry, entries_in, chain_from, entry_blocks, entries_of, entries}
use Rattle.hd_volume.specs.Indexes.{IsEntryBlock, IsChain, IsAmong, HasIndex, keys_ascend, index_growth}
use Rattle.hd_volume.specs.Calls.{KeepsIndex}
use Rattle.hd_volume.specs.Laws.{IndexStays}
use Rattle.hd_volume.proofs.MapLemmas.{kind-there}

-- all these blocks are index blocks
abbrev pub AreIndex : VolumeState → List ℕ → Type 0
AreIndex v [] = Unit {0}
AreIndex v (n ∷ blocks) = IsKind v 2 n × AreIndex v blocks

-- the blocks of a chain are index blocks
pub chain-index : (key_length : ℕ) (v : VolumeState) (start : ℕ) (blocks : List ℕ) → IsChain key_length v start blocks → AreIndex v blocks
chain-index key_length v start [] h = tt
chain-index key_length v start (n ∷ blocks) h = (h.1.is, chain-index key_length v (number_at 4 (block_at v n) 8) blocks h.2)

-- one chain
chain-same : (v w : VolumeState) (more n : ℕ) → AreIndex v (chain_from v more n) → KeepsIndex v w → chain_from w more n ≡ chain_from v more n
chain-same v w zero n h keeps = refl
chain-same v w (suc more) n h keeps =
    elim (cases_eq n 0) [
      | inl z ↦ (let e : chain_from w (suc more) n ≡ chain_from v (suc more) n = rw (eq-eqb n 0 z) refl in e)
      | inr some ↦
          (let k : AreIndex v (n ∷ chain_from v more (number_at 4 (block_at v n) 8)) = rw (ne_eqb n 0 some) at h in
          let same : number_at 4 (block_at w n) 8 ≡ number_at 4 (block_at v n) 8 = ap (λ (b : List ℕ). number_at 4 b 8) (keeps n k.0) in
          let rest = chain-same v w more (number_at 4 (block_at v n) 8) k.1 keeps in
          let e : n ∷ chain_from w more (number_at 4 (block_at w n) 8) ≡ n ∷ chain_from v more (number_at 4 (block_at v n) 8) =
          ap (λ (i : ℕ). n ∷ chain_from w more i) same ∙ ap (λ (ns : List ℕ). n ∷ ns) rest in
          let f : chain_from w (suc more) n ≡ chain_from v (suc more) n = rw (ne_eqb n 0 some) e in f)
    ]

-- the entries of two parts of a chain
pub entries-append : (k : ℕ) (v : VolumeState) (xs ys : List ℕ) → entries_of k v (xs ++ ys) ≡ entries_of k v xs ++ entries_of k v ys
entries-append k v [] ys = refl
entries-append k v (x ∷ xs) ys =
    ap (λ (t : List Entry). entries_in k (block_at v x) ++ t) (entries-append k v xs ys) ∙ sym (append_assoc (entries_in k (block_at v x)) (entries_of k v xs) (entries_of k v ys))

-- the same entries in each block
entries-same : (key_length : ℕ) (v w : VolumeState) (blocks : List ℕ) → AreIndex v blocks → KeepsIndex v w → entries_of key_length w blocks ≡ entries_of key_length v blocks
entries-same key_length v w [] h keeps = refl
entries-same key_length v w (n ∷ blocks) h keeps =
    let here : entries_in key_length (block_at w n) ≡ entries_in key_length (block_at v n) = ap (entries_in key_length) (keeps n h.0) in
    ap (λ (es : List Entry). es ++ entries_of key_length w blocks) here ∙ ap (λ (es : List Entry). entries_in key_length (block_at v n) ++ es) (entries-same key_length v w blocks h.1 keeps)

module _ {key_length : ℕ} {v w : VolumeState} (x : HasIndex key_length v) (f : IsFormatted w) (size : w.size ≡ v.size)
    (header : header_of w.image ≡ record (header_of v.image) { count = (header_of w.image).count; first_root = (header_of w.image).first_root; last_root = (header_of w.image).last_root })
    (keeps : KeepsIndex v w) (back : (n : ℕ) → IsKind w 2 n → IsKind v 2 n) where
  top-same : (header_of w.image).top ≡ (header_of v.image).top
  top-same = ap (λ (h : Header). h.top) header

  pub blocks-same : entry_blocks w ≡ entry_blocks v
  blocks-same =
      (let e : chain_from w (header_of w.image).largest (header_of w.image).top ≡ chain_from w (header_of v.image).largest (header_of v.image).top = rw (top-same, ap (λ (h : Header). h.largest) header) refl in e)
      ∙ chain-same v w (header_of v.image).largest (header_of v.image).top (chain-index key_length v (header_of v.image).top (entry_blocks v) x.chain) keeps

  pub entries-stay : entries key_length w ≡ entries key_length v
  entries-stay = ap (entries_of key_length w) blocks-same ∙ entries-same key_length v w (entry_blocks v) (chain-index key_length v (header_of v.image).top (entry_blocks v) x.chain) keeps

  kind-stays : (n : ℕ) → IsKind v 2 n → IsKind w 2 n
  kind-stays n k =
      let is : kind_of (block_at w n) ≡ 2 = ap kind_of (keeps n k) ∙ k.kind_is in
      record { there = kind-there w.size n (header_of w.image).count 2 w.image f.header.whole (λ e. omega arith) is; later = k.later; kind_is = is }

  entry-block-stays : (n : ℕ) → IsEntryBlock key_length v n → IsEntryBlock key_length w n
  entry-block-stays n e = record {
    is = kind-stays n e.is;
    level = ap (λ (b : List ℕ). slice_index b 3) (keeps n e.is) ∙ e.level;
    count = rw (keeps n e.is, size) e.count;
  }

  chain-stays : (start : ℕ) (blocks : List ℕ) → IsChain key_length v start blocks → IsChain key_length w start blocks
  chain-stays start [] h = h
  chain-stays start (n ∷ blocks) h =
      let C : ℕ → Type 0 = λ s. IsChain key_length w s blocks in
      (h.0, entry-block-stays n h.1, subst C (sym (ap (λ (b : List ℕ). number_at 4 b 8) (keeps n h.1.is))) (chain-stays (number_at 4 (block_at v n) 8) blocks h.2))

  has-index : HasIndex key_length w
  has-index =
      let height-same : (header_of w.image).height ≡ (header_of v.image).height = ap (λ (h : Header). h.height) header in
      record {
        formatted = f;
        version = ap (λ (h : Header). h.version) header ∙ x.version;
        height = rw (top-same, height-same) x.height;
        chain =
            (let B : List ℕ → Type 0 = λ bs. IsChain key_length w (header_of v.image).top bs in
            let T : ℕ → Type 0 = λ t. IsChain key_length w t (entry_blocks w) in
            subst T (sym top-same) (subst B (sym blocks-same) (chain-stays (header_of v.image).top (entry_blocks v) x.chain)));
        reached = λ n k. (let A : List ℕ → Type 0 = λ bs. IsAmong n bs in subst A (sym blocks-same) (x.reached n (back n k)));
        ascend = ap keys_ascend entries-stay ∙ x.ascend;
      }

  pub stays : HasIndex key_length w × (entries key_length w ≡ entries key_length v) × (index_growth w ≡ index_growth v)
  unfolding index_growth
  stays = (
    has-index,
    entries-stay,
    refl,
  )

pub index-stays : IndexStays
index-stays key_length v w x f size header keeps back = stays x f size header keeps back

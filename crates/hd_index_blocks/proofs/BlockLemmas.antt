-- The entries in the bytes of an index block.
use Rattle.std.proofs.Common.{◌≡◌, inl, inr, ℕ, zero, suc, ◌+◌, ◌-◌, ◌*◌, ◌<◌, ◌≤◌, true, false, List, [], ◌∷◌, length, slice_index, Some, refl, sym, ap, subst, ◌∙◌, arith}
use Rattle.std.specs.Prelude.{slice_get}
use Rattle.std.proofs.lemmas.Bool.{and_parts, cases_Bool, cases_lt}
use Rattle.std.proofs.lemmas.Map.Lookups.{exact_bytes}
use Rattle.std.specs.Ordering.{nat_cmp, is_lt}
use Rattle.std.specs.Cmp.Lexicographic.{slice_cmp}
use Rattle.std.specs.declared.cmp.Ordering.TheVariants.{Equal}
use Rattle.hd_bytes.specs.Numbers.{number_at}
use Rattle.hd_bytes.specs.Ranges.{bytes_at}
use Rattle.hd_volume.specs.Entries.{Entry, entries_at}
use Rattle.hd_volume.specs.Volumes.{VolumeState, block_at, kind_of}
use Rattle.hd_volume.specs.Indexes.{IsEntryBlock, entry_room, key_less, is_below_first, keys_ascend}
use Rattle.hd_index_blocks.specs.Fields.{below_count}
use Rattle.hd_volume.proofs.KeyLemmas.{less-trans}

-- a block has so many entries
pub length-entries : (k : ℕ) (b : List ℕ) (p n : ℕ) → length (entries_at k b p n) ≡ n
length-entries k b p zero = refl
length-entries k b p (suc n) = ap suc (length-entries k b (p + k + 4) n)

-- the first m are below a key, and the next is not
pub below-at : (k : ℕ) (b key : List ℕ) (p n m : ℕ) → m ≤ n → ((j : ℕ) → j < m → key_less (bytes_at b (p + j * (k + 4)) k) key ≡ true)
    → (m < n → key_less (bytes_at b (p + m * (k + 4)) k) key ≡ false) → below_count key (entries_at k b p n) ≡ m
below-at k b key p zero m low below above = omega arith
below-at k b key p (suc n) zero low below above =
    let first : key_less (bytes_at b p k) key ≡ false = ap (λ (i : ℕ). key_less (bytes_at b i k) key) (let e : p ≡ p + 0 * (k + 4) = omega arith in e) ∙ above (omega arith) in rw first refl
below-at k b key p (suc n) (suc m) low below above =
    let first : key_less (bytes_at b p k) key ≡ true = ap (λ (i : ℕ). key_less (bytes_at b i k) key) (let e : p ≡ p + 0 * (k + 4) = omega arith in e) ∙ below 0 (omega arith) in
    let rest = below-at k b key (p + k + 4) n m (omega arith)
    (λ j l. ap (λ (i : ℕ). key_less (bytes_at b i k) key) (let e : p + k + 4 + j * (k + 4) ≡ p + (j + 1) * (k + 4) = omega arith in e) ∙ below (j + 1) (omega arith))
    (λ l. ap (λ (i : ℕ). key_less (bytes_at b i k) key) (let e : p + k + 4 + m * (k + 4) ≡ p + suc m * (k + 4) = omega arith in e) ∙ above (omega arith)) in
    rw first (ap suc rest)

-- each entry is above a key that is below the first
above-at : (k : ℕ) (b key : List ℕ) (p n j : ℕ) → is_below_first key (entries_at k b p n) ≡ true → keys_ascend (entries_at k b p n) ≡ true → j < n → key_less key (bytes_at b (p + j * (k + 4)) k) ≡ true
above-at k b key p zero j first a l = absurd (omega arith)
above-at k b key p (suc n) zero first a l = ap (λ (i : ℕ). key_less key (bytes_at b i k)) (let e : p + 0 * (k + 4) ≡ p = omega arith in e) ∙ first
above-at k b key p (suc n) (suc j) first a l =
    let parts = and_parts (is_below_first (bytes_at b p k) (entries_at k b (p + k + 4) n)) (keys_ascend (entries_at k b (p + k + 4) n)) a in
    let rest = above-at k b (bytes_at b p k) (p + k + 4) n j parts.0 parts.1 (omega arith) in
    less-trans key (bytes_at b p k) (bytes_at b (p + suc j * (k + 4)) k) first
    (ap (λ (i : ℕ). key_less (bytes_at b p k) (bytes_at b i k)) (let e : p + suc j * (k + 4) ≡ p + k + 4 + j * (k + 4) = omega arith in e) ∙ rest)

-- of two entries the left one has the lesser key
pub ascend-at : (k : ℕ) (b : List ℕ) (p n i j : ℕ) → keys_ascend (entries_at k b p n) ≡ true → i < j → j < n → key_less (bytes_at b (p + i * (k + 4)) k) (bytes_at b (p + j * (k + 4)) k) ≡ true
ascend-at k b p zero i j a l m = absurd (omega arith)
ascend-at k b p (suc n) i zero a l m = absurd (omega arith)
ascend-at k b p (suc n) zero (suc j) a l m =
    let parts = and_parts (is_below_first (bytes_at b p k) (entries_at k b (p + k + 4) n)) (keys_ascend (entries_at k b (p + k + 4) n)) a in
    let rest = above-at k b (bytes_at b p k) (p + k + 4) n j parts.0 parts.1 (omega arith) in
    ap (λ (x : ℕ). key_less (bytes_at b x k) (bytes_at b (p + suc j * (k + 4)) k)) (let e : p + 0 * (k + 4) ≡ p = omega arith in e)
    ∙ ap (λ (x : ℕ). key_less (bytes_at b p k) (bytes_at b x k)) (let e : p + suc j * (k + 4) ≡ p + k + 4 + j * (k + 4) = omega arith in e) ∙ rest
ascend-at k b p (suc n) (suc i) (suc j) a l m =
    let parts = and_parts (is_below_first (bytes_at b p k) (entries_at k b (p + k + 4) n)) (keys_ascend (entries_at k b (p + k + 4) n)) a in
    let rest = ascend-at k b (p + k + 4) n i j parts.1 (omega arith) (omega arith) in
    ap (λ (x : ℕ). key_less (bytes_at b x k) (bytes_at b (p + suc j * (k + 4)) k)) (let e : p + suc i * (k + 4) ≡ p + k + 4 + i * (k + 4) = omega arith in e)
    ∙ ap (λ (x : ℕ). key_less (bytes_at b (p + k + 4 + i * (k + 4)) k) (bytes_at b x k)) (let e : p + suc j * (k + 4) ≡ p + k + 4 + j * (k + 4) = omega arith in e) ∙ rest

-- a key above one that is not below a third is not below it either
pub not-below : (x y z : List ℕ) → key_less x y ≡ true → key_less x z ≡ false → key_less y z ≡ false
not-below x y z h k = elim (cases_Bool (key_less y z)) [
  | inl t ↦ (let e = less-trans x y z h t in absurd (cc))
  | inr f ↦ f
]

-- up to an entry that is below a key all are
pub below-through : (k : ℕ) (b key : List ℕ) (p n m j : ℕ) → keys_ascend (entries_at k b p n) ≡ true → m < n → key_less (bytes_at b (p + m * (k + 4)) k) key ≡ true → j < m + 1 → key_less (bytes_at b (p + j * (k + 4)) k) key ≡ true
below-through k b key p n m j a low here l = elim (cases_lt j m) [
  | inl under ↦ less-trans (bytes_at b (p + j * (k + 4)) k) (bytes_at b (p + m * (k + 4)) k) key (ascend-at k b p n j m a under low) here
  | inr over ↦ (let e : j ≡ m = omega arith in ap (λ (i : ℕ). key_less (bytes_at b (p + i * (k + 4)) k) key) e ∙ here)
]

-- from an entry that is not below a key on none is
pub above-through : (k : ℕ) (b key : List ℕ) (p n m j : ℕ) → keys_ascend (entries_at k b p n) ≡ true → key_less (bytes_at b (p + m * (k + 4)) k) key ≡ false → m ≤ j → j < n → key_less (bytes_at b (p + j * (k + 4)) k) key ≡ false
above-through k b key p n m j a here l low = elim (cases_lt m j) [
  | inl under ↦ not-below (bytes_at b (p + m * (k + 4)) k) (bytes_at b (p + j * (k + 4)) k) key (ascend-at k b p n m j a under low) here
  | inr over ↦ (let e : j ≡ m = omega arith in ap (λ (i : ℕ). key_less (bytes_at b (p + i * (k + 4)) k) key) e ∙ here)
]

-- where the last of the first m is below a key, and the next is not, m are below it
pub edge-at : (k : ℕ) (b key : List ℕ) (p n m : ℕ) → keys_ascend (entries_at k b p n) ≡ true → m ≤ n → (0 < m → key_less (bytes_at b (p + (m - 1) * (k + 4)) k) key ≡ true)
    → (m < n → key_less (bytes_at b (p + m * (k + 4)) k) key ≡ false) → below_count key (entries_at k b p n) ≡ m
edge-at k b key p n m a most low high = below-at k b key p n m most (λ j l. below-through k b key p n (m - 1) j a (omega arith) (low (omega arith)) (omega arith)) high

-- before an entry of a key are the entries below it
pub equal-at : (k : ℕ) (b key : List ℕ) (p n m : ℕ) → keys_ascend (entries_at k b p n) ≡ true → m < n → slice_cmp nat_cmp (bytes_at b (p + m * (k + 4)) k) key ≡ Equal → below_count key (entries_at k b p n) ≡ m
equal-at k b key p n m a low here =
    let is : bytes_at b (p + m * (k + 4)) k ≡ key = exact_bytes (bytes_at b (p + m * (k + 4)) k) key here in
    below-at k b key p n m (omega arith) (λ j l. subst (λ (z : List ℕ). key_less (bytes_at b (p + j * (k + 4)) k) z ≡ true) is (ascend-at k b p n j m a l low)) (λ l. ap is_lt here)

-- the entry at a place of a block
abbrev pub entry_of : ℕ → List ℕ → ℕ → Entry
entry_of k b x = record { key = bytes_at b x k; address = number_at 4 b (x + k) }

-- the entry of a block at an index
pub entry-get : (k : ℕ) (b : List ℕ) (p n i : ℕ) → i < n → slice_get (entries_at k b p n) i ≡ Some (entry_of k b (p + i * (k + 4)))
entry-get k b p zero i l = absurd (omega arith)
entry-get k b p (suc n) zero l = ap (λ (x : ℕ). Some (entry_of k b x)) (let e : p ≡ p + 0 * (k + 4) = omega arith in e)
entry-get k b p (suc n) (suc i) l =
    entry-get k b (p + k + 4) n i (omega arith) ∙ ap (λ (x : ℕ). Some (entry_of k b x)) (let e : p + k + 4 + i * (k + 4) ≡ p + suc i * (k + 4) = omega arith in e)

-- an element of a list
pub record IsAt {A : Type 0} (xs : List A) (i : ℕ) : Type 0 where
  pub element : A
  pub is : slice_get xs i ≡ Some element

-- a list has an element at each place before its end
pub get-within : {A : Type 0} (xs : List A) (i : ℕ) → i < length xs → IsAt xs i
get-within [] i l = absurd (omega arith)
get-within (x ∷ xs) zero l = record { element = x; is = refl }
get-within (x ∷ xs) (suc i) l = let r = get-within xs i (omega arith) in record { element = r.element; is = r.is }

-- two states with one image have the same blocks of entries
pub entry-block-same : (k : ℕ) (v w : VolumeState) (n : ℕ) → w.size ≡ v.size → w.image ≡ v.image → IsEntryBlock k v n → IsEntryBlock k w n
entry-block-same k v w n size image h =
    let same : block_at w n ≡ block_at v n = rw (size, image) refl in
    record {
      is = record { there = (let t = h.is.there in let l : length w.image ≡ length v.image = ap length image in rw size (omega arith)); later = h.is.later; kind_is = ap kind_of same ∙ h.is.kind_is };
      level = ap (λ (b : List ℕ). slice_index b 3) same ∙ h.level;
      count =
          let P : List ℕ → Type 0 = λ b. number_at 2 b 4 ≤ entry_room k w.size in
          let Q : ℕ → Type 0 = λ z. number_at 2 (block_at v n) 4 ≤ entry_room k z in
          subst P (sym same) (subst Q (sym size) h.count);
    }

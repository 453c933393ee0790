-- The bytes of an index block of any level when these change.
use Rattle.std.proofs.Common.{◌≡◌, inl, inr, ℕ, zero, suc, ◌+◌, ◌-◌, ◌*◌, ◌<◌, ◌≤◌, List, [], ◌∷◌, ◌++◌, length, take, drop, slice_index, refl, sym, ap, ◌∙◌, arith}
use Rattle.hd_bytes.specs.Numbers.{number_at}
use Rattle.hd_bytes.specs.Ranges.{bytes_at, with_bytes}
use Rattle.hd_volume.specs.Entries.{Entry, entries_at}
use Rattle.hd_index_blocks.proofs.BlockLemmas.{entry_of, length-entries}
use Rattle.hd_index_blocks.proofs.EntryLemmas.{bytes-apart, bytes-put, byte-below, entries-same, entries-split, length-put, number-apart, number-put, three-parts}
use Rattle.hd_index.specs.EditedBlocks.{level_of, with_key_at, with_address_at}

-- The bytes of an index block: its level, its count, its entries and the block behind it.
pub record AreBytes (k l : ℕ) (b : List ℕ) (c : ℕ) (es : List Entry) (next : ℕ) : Type 0 where
  pub level : level_of b ≡ l
  pub count : number_at 2 b 4 ≡ c
  pub entries : entries_at k b 12 c ≡ es
  pub next_is : number_at 4 b 8 ≡ next
  pub fits : 12 + c * (k + 4) ≤ length b

-- another count of entries, of bytes that are there already
pub put-count : (k l : ℕ) (b two : List ℕ) (c d : ℕ) (es fs : List Entry) (next : ℕ) → AreBytes k l b c es next → length two ≡ 2 → number_at 2 two 0 ≡ d → entries_at k b 12 d ≡ fs → 12 + d * (k + 4) ≤ length b
    → AreBytes k l (with_bytes b 4 two) d fs next
put-count k l b two c d es fs next h len is fs-are fits =
    let room = h.fits in
    let same = bytes-apart b two 4 12 (d * (k + 4)) (omega arith) fits (inr (omega arith)) in
    let long = length-put b two 4 (omega arith) in
    record {
      level = byte-below b two 4 3 (omega arith) (omega arith) ∙ h.level;
      count = number-put b two 4 2 0 (omega arith) (omega arith) ∙ is;
      entries = entries-same k (with_bytes b 4 two) b 12 12 d (omega arith) fits same ∙ fs-are;
      next_is = number-apart b two 4 4 8 (omega arith) (inr (omega arith)) ∙ h.next_is;
      fits = omega arith;
    }

-- another block behind
pub put-next : (k l : ℕ) (b four : List ℕ) (c : ℕ) (es : List Entry) (next x : ℕ) → AreBytes k l b c es next → length four ≡ 4 → number_at 4 four 0 ≡ x → AreBytes k l (with_bytes b 8 four) c es x
put-next k l b four c es next x h len is =
    let room = h.fits in
    let same = bytes-apart b four 8 12 (c * (k + 4)) (omega arith) (omega arith) (inr (omega arith)) in
    let long = length-put b four 8 (omega arith) in
    record {
      level = byte-below b four 8 3 (omega arith) (omega arith) ∙ h.level;
      count = number-apart b four 8 2 4 (omega arith) (inl (omega arith)) ∙ h.count;
      entries = entries-same k (with_bytes b 8 four) b 12 12 c (omega arith) (omega arith) same ∙ h.entries;
      next_is = number-put b four 8 4 0 (omega arith) (omega arith) ∙ is;
      fits = omega arith;
    }

-- bytes put behind the front of the block, whatever they are
pub put-behind : (k l : ℕ) (b xs : List ℕ) (p c : ℕ) (es : List Entry) (next : ℕ) → AreBytes k l b c es next → 12 ≤ p → p + length xs ≤ length b → AreBytes k l (with_bytes b p xs) c (entries_at k (with_bytes b p xs) 12 c) next
put-behind k l b xs p c es next h behind fits =
    let room = h.fits in
    let long = length-put b xs p fits in
    record {
      level = byte-below b xs p 3 fits (omega arith) ∙ h.level;
      count = number-apart b xs p 2 4 fits (inl (omega arith)) ∙ h.count;
      entries = refl;
      next_is = number-apart b xs p 4 8 fits (inl (omega arith)) ∙ h.next_is;
      fits = omega arith;
    }

-- ---- another key of an entry

-- the key behind so many entries
pub key-at : (key : List ℕ) (front : List Entry) (e : Entry) (back : List Entry) → with_key_at (length front) key (front ++ (e ∷ back)) ≡ front ++ (record { key = key; address = e.address } ∷ back)
key-at key [] e back = refl
key-at key (f ∷ front) e back = ap (λ (es : List Entry). f ∷ es) (key-at key front e back)

-- a key written over that of an entry is its key
pub entries-keyed : (k : ℕ) (b key : List ℕ) (i c : ℕ) → i < c → 12 + c * (k + 4) ≤ length b → length key ≡ k
    → entries_at k (with_bytes b (12 + i * (k + 4)) key) 12 c ≡ with_key_at i key (entries_at k b 12 c)
entries-keyed k b key i c low fits long =
    let d : ℕ = c - (i + 1) in
    let p : ℕ = 12 + i * (k + 4) in
    let total : c * (k + 4) ≡ i * (k + 4) + (k + 4) + d * (k + 4) = ap (λ (x : ℕ). x * (k + 4)) (let e : c ≡ i + d + 1 = omega arith in e) ∙ three-parts i d k in
    let n : List ℕ = with_bytes b p key in
    let len : length n ≡ length b = length-put b key p (omega arith) in
    let split : (x : List ℕ) → entries_at k x 12 c ≡ entries_at k x 12 i ++ (entry_of k x p ∷ entries_at k x (p + k + 4) d) = λ x.
    ap (entries_at k x 12) (let e : c ≡ i + suc d = omega arith in e) ∙ entries-split k x 12 i (suc d) in
    let front : entries_at k n 12 i ≡ entries_at k b 12 i = entries-same k n b 12 12 i (omega arith) (omega arith) (bytes-apart b key p 12 (i * (k + 4)) (omega arith) (omega arith) (inl (omega arith))) in
    let rear : entries_at k n (p + k + 4) d ≡ entries_at k b (p + k + 4) d =
    entries-same k n b (p + k + 4) (p + k + 4) d (omega arith) (omega arith) (bytes-apart b key p (p + k + 4) (d * (k + 4)) (omega arith) (omega arith) (inr (omega arith))) in
    let own : bytes_at n p k ≡ key = ap (bytes_at n p) (sym long) ∙ bytes-put b key p (length key) (omega arith) (omega arith) ∙ take-whole key in
    let address : number_at 4 n (p + k) ≡ number_at 4 b (p + k) = number-apart b key p 4 (p + k) (omega arith) (inr (omega arith)) in
    let one : entry_of k n p ≡ record { key = key; address = number_at 4 b (p + k) } = rw (own, address) refl in
    let keyed = key-at key (entries_at k b 12 i) (entry_of k b p) (entries_at k b (p + k + 4) d) in
    let at : with_key_at i key (entries_at k b 12 i ++ (entry_of k b p ∷ entries_at k b (p + k + 4) d)) ≡ entries_at k b 12 i ++ (record { key = key; address = number_at 4 b (p + k) } ∷ entries_at k b (p + k + 4) d) =
    ap (λ (j : ℕ). with_key_at j key (entries_at k b 12 i ++ (entry_of k b p ∷ entries_at k b (p + k + 4) d))) (sym (length-entries k b 12 i)) ∙ keyed in
    split n ∙ ap (λ (es : List Entry). es ++ (entry_of k n p ∷ entries_at k n (p + k + 4) d)) front
    ∙ ap (λ (e : Entry). entries_at k b 12 i ++ (e ∷ entries_at k n (p + k + 4) d)) one
    ∙ ap (λ (es : List Entry). entries_at k b 12 i ++ (record { key = key; address = number_at 4 b (p + k) } ∷ es)) rear
    ∙ sym at ∙ ap (with_key_at i key) (sym (split b))
  where
    take-whole : (xs : List ℕ) → take (length xs) xs ≡ xs
    take-whole [] = refl
    take-whole (x ∷ xs) = ap (λ (t : List ℕ). x ∷ t) (take-whole xs)

-- ---- another address of an entry

-- the address behind so many entries
pub address-at : (address : ℕ) (front : List Entry) (e : Entry) (back : List Entry) → with_address_at (length front) address (front ++ (e ∷ back)) ≡ front ++ (record { key = e.key; address = address } ∷ back)
address-at address [] e back = refl
address-at address (f ∷ front) e back = ap (λ (es : List Entry). f ∷ es) (address-at address front e back)

-- four bytes written over the address of an entry are its address
pub entries-addressed : (k : ℕ) (b four : List ℕ) (i c address : ℕ) → i < c → 12 + c * (k + 4) ≤ length b → length four ≡ 4 → number_at 4 four 0 ≡ address
    → entries_at k (with_bytes b (12 + i * (k + 4) + k) four) 12 c ≡ with_address_at i address (entries_at k b 12 c)
entries-addressed k b four i c address low fits long is =
    let d : ℕ = c - (i + 1) in
    let p : ℕ = 12 + i * (k + 4) in
    let total : c * (k + 4) ≡ i * (k + 4) + (k + 4) + d * (k + 4) = ap (λ (x : ℕ). x * (k + 4)) (let e : c ≡ i + d + 1 = omega arith in e) ∙ three-parts i d k in
    let n : List ℕ = with_bytes b (p + k) four in
    let len : length n ≡ length b = length-put b four (p + k) (omega arith) in
    let split : (x : List ℕ) → entries_at k x 12 c ≡ entries_at k x 12 i ++ (entry_of k x p ∷ entries_at k x (p + k + 4) d) = λ x.
    ap (entries_at k x 12) (let e : c ≡ i + suc d = omega arith in e) ∙ entries-split k x 12 i (suc d) in
    let front : entries_at k n 12 i ≡ entries_at k b 12 i = entries-same k n b 12 12 i (omega arith) (omega arith) (bytes-apart b four (p + k) 12 (i * (k + 4)) (omega arith) (omega arith) (inl (omega arith))) in
    let rear : entries_at k n (p + k + 4) d ≡ entries_at k b (p + k + 4) d =
    entries-same k n b (p + k + 4) (p + k + 4) d (omega arith) (omega arith) (bytes-apart b four (p + k) (p + k + 4) (d * (k + 4)) (omega arith) (omega arith) (inr (omega arith))) in
    let own : bytes_at n p k ≡ bytes_at b p k = bytes-apart b four (p + k) p k (omega arith) (omega arith) (inl (omega arith)) in
    let put : number_at 4 n (p + k) ≡ address = ap (number_at 4 n) (let e : p + k ≡ p + k + 0 = omega arith in e) ∙ number-put b four (p + k) 4 0 (omega arith) (omega arith) ∙ is in
    let one : entry_of k n p ≡ record { key = bytes_at b p k; address = address } = rw (own, put) refl in
    let changed = address-at address (entries_at k b 12 i) (entry_of k b p) (entries_at k b (p + k + 4) d) in
    let at : with_address_at i address (entries_at k b 12 i ++ (entry_of k b p ∷ entries_at k b (p + k + 4) d)) ≡ entries_at k b 12 i ++ (record { key = bytes_at b p k; address = address } ∷ entries_at k b (p + k + 4) d) =
    ap (λ (j : ℕ). with_address_at j address (entries_at k b 12 i ++ (entry_of k b p ∷ entries_at k b (p + k + 4) d))) (sym (length-entries k b 12 i)) ∙ changed in
    split n ∙ ap (λ (es : List Entry). es ++ (entry_of k n p ∷ entries_at k n (p + k + 4) d)) front
    ∙ ap (λ (e : Entry). entries_at k b 12 i ++ (e ∷ entries_at k n (p + k + 4) d)) one
    ∙ ap (λ (es : List Entry). entries_at k b 12 i ++ (record { key = bytes_at b p k; address = address } ∷ es)) rear
    ∙ sym at ∙ ap (with_address_at i address) (sym (split b))

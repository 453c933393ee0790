-- The entries of a block's bytes when these change.
use Rattle.std.proofs.Common.{◌≡◌, ◌⊎◌, inl, inr, ℕ, zero, suc, ◌+◌, ◌-◌, ◌*◌, ◌<◌, ◌≤◌, List, [], ◌∷◌, ◌++◌, length, take, drop, slice_index, refl, sym, ap, ◌∙◌, arith}
use Rattle.std.proofs.lemmas.Grind.{common_steps}
use Rattle.std.proofs.lemmas.List.{drop-drop, take_at, drop_at, take-take, drop-take}
use Rattle.hd_bytes.specs.Numbers.{number_at}
use Rattle.hd_bytes.specs.Ranges.{bytes_at, with_bytes}
use Rattle.hd_bytes.proofs.BlockLemmas.{length-bytes_at, agree-bytes_at, agree-changed, bytes-with}
use Rattle.hd_bytes.proofs.NumberLemmas.{big_from-drop, number-same, changes-with, number-below, number-above}
use Rattle.hd_volume.specs.Entries.{Entry, entries_at}
use Rattle.hd_index_blocks.proofs.BlockLemmas.{entry_of, length-entries}

-- ---- parts of a block's bytes

-- a number behind the first bytes
number-drop-at : (n p i : ℕ) (b : List ℕ) → number_at n (drop p b) i ≡ number_at n b (p + i)
unfolding number_at
number-drop-at n p i b = big_from-drop n i p b

-- a number in some of a block's bytes
pub number-in : (n p m i : ℕ) (b : List ℕ) → p + m ≤ length b → i + n ≤ m → number_at n (bytes_at b p m) i ≡ number_at n b (p + i)
number-in n p m i b fits within =
    number-same n i (bytes_at b p m) (drop p b) (λ j l h. grind (arith, common_steps)) ∙ number-drop-at n p i b

-- a number in the front of a list
pub number-front : (n i m : ℕ) (xs : List ℕ) → i + n ≤ m → m ≤ length xs → number_at n (take m xs) i ≡ number_at n xs i
number-front n i m xs within fits = number-same n i (take m xs) xs (λ j l h. grind (arith, common_steps))

-- bytes of some of a block's bytes
pub bytes-front : (b : List ℕ) (p m n : ℕ) → m ≤ n → bytes_at (bytes_at b p n) 0 m ≡ bytes_at b p m
bytes-front b p m n l = take-take m n (drop p b) l

-- and of those behind them
pub bytes-back : (b : List ℕ) (p m n : ℕ) → drop m (bytes_at b p (m + n)) ≡ bytes_at b (p + m) n
bytes-back b p m n = drop-take m n (drop p b) ∙ ap (take n) (drop-drop m p b)

-- the same bytes are the same entries
pub entries-same : (k : ℕ) (a b : List ℕ) (p q n : ℕ) → p + n * (k + 4) ≤ length a → q + n * (k + 4) ≤ length b → bytes_at a p (n * (k + 4)) ≡ bytes_at b q (n * (k + 4)) → entries_at k a p n ≡ entries_at k b q n
entries-same k a b p q zero fa fb same = refl
entries-same k a b p q (suc n) fa fb same =
    let w : ℕ = k + 4 in
    let m : ℕ = suc n * (k + 4) in
    let split : m ≡ w + n * (k + 4) = omega arith in
    let fa' : p + m ≤ length a = omega arith in
    let fb' : q + m ≤ length b = omega arith in
    let key : bytes_at a p k ≡ bytes_at b q k = sym (bytes-front a p k m (omega arith)) ∙ ap (λ (x : List ℕ). bytes_at x 0 k) same ∙ bytes-front b q k m (omega arith) in
    let address : number_at 4 a (p + k) ≡ number_at 4 b (q + k) =
    sym (number-in 4 p m k a fa' (omega arith)) ∙ ap (λ (x : List ℕ). number_at 4 x k) same ∙ number-in 4 q m k b fb' (omega arith) in
    let back : bytes_at a (p + w) (n * (k + 4)) ≡ bytes_at b (q + w) (n * (k + 4)) =
    sym (bytes-back a p w (n * (k + 4))) ∙ ap (λ (i : ℕ). drop w (bytes_at a p i)) (sym split) ∙ ap (drop w) same ∙ ap (λ (i : ℕ). drop w (bytes_at b q i)) split ∙ bytes-back b q w (n * (k + 4)) in
    let pa : p + w ≡ p + k + 4 = omega arith in
    let qa : q + w ≡ q + k + 4 = omega arith in
    let rest : entries_at k a (p + k + 4) n ≡ entries_at k b (q + k + 4) n =
    ap (λ (i : ℕ). entries_at k a i n) (sym pa) ∙ entries-same k a b (p + w) (q + w) n (omega arith) (omega arith) back ∙ ap (λ (i : ℕ). entries_at k b i n) qa in
    let one : entry_of k a p ≡ entry_of k b q = rw (key, address) refl in
    ap (λ (e : Entry). e ∷ entries_at k a (p + k + 4) n) one ∙ ap (λ (es : List Entry). entry_of k b q ∷ es) rest

-- ---- parts of the entries

-- some entries, and those behind them
pub entries-split : (k : ℕ) (b : List ℕ) (p m n : ℕ) → entries_at k b p (m + n) ≡ entries_at k b p m ++ entries_at k b (p + m * (k + 4)) n
entries-split k b p zero n = ap (λ (i : ℕ). entries_at k b p i) (let e : 0 + n ≡ n = omega arith in e) ∙ ap (λ (i : ℕ). entries_at k b i n) (let e : p ≡ p + 0 * (k + 4) = omega arith in e)
entries-split k b p (suc m) n =
    ap (λ (i : ℕ). entries_at k b p i) (let e : suc m + n ≡ suc (m + n) = omega arith in e)
    ∙ ap (λ (es : List Entry). entry_of k b p ∷ es) (entries-split k b (p + k + 4) m n ∙ ap (λ (i : ℕ). entries_at k b (p + k + 4) m ++ entries_at k b i n) (let e : p + k + 4 + m * (k + 4) ≡ p + suc m * (k + 4) = omega arith in e))

-- so many entries, and one more
pub entries-more : (k : ℕ) (b : List ℕ) (p i : ℕ) → entries_at k b p (i + 1) ≡ entries_at k b p i ++ (entry_of k b (p + i * (k + 4)) ∷ [])
entries-more k b p i = entries-split k b p i 1

-- the first entries of a block
pub entries-take : (k : ℕ) (b : List ℕ) (p i n : ℕ) → i ≤ n → take i (entries_at k b p n) ≡ entries_at k b p i
entries-take k b p i n l =
    ap (λ (j : ℕ). take i (entries_at k b p j)) (let e : n ≡ i + (n - i) = omega arith in e) ∙ ap (take i) (entries-split k b p i (n - i))
    ∙ take_at (entries_at k b p i) (entries_at k b (p + i * (k + 4)) (n - i)) i (length-entries k b p i)

-- its entries from one on
pub entries-drop : (k : ℕ) (b : List ℕ) (p i n : ℕ) → i ≤ n → drop i (entries_at k b p n) ≡ entries_at k b (p + i * (k + 4)) (n - i)
entries-drop k b p i n l =
    ap (λ (j : ℕ). drop i (entries_at k b p j)) (let e : n ≡ i + (n - i) = omega arith in e) ∙ ap (drop i) (entries-split k b p i (n - i))
    ∙ drop_at (entries_at k b p i) (entries_at k b (p + i * (k + 4)) (n - i)) i (length-entries k b p i)

-- ---- bytes put at a place

-- bytes that were not touched
pub bytes-apart : (b xs : List ℕ) (p q m : ℕ) → p + length xs ≤ length b → q + m ≤ length b → (q + m ≤ p) ⊎ (p + length xs ≤ q) → bytes_at (with_bytes b p xs) q m ≡ bytes_at b q m
bytes-apart b xs p q m fits within apart =
    let c = changes-with b xs p fits in
    let l = c.len in
    sym (agree-bytes_at q m b (with_bytes b p xs) within (omega arith) (agree-changed q m c apart))

-- nor was a number in them
pub number-apart : (b xs : List ℕ) (p n q : ℕ) → p + length xs ≤ length b → (q + n ≤ p) ⊎ (p + length xs ≤ q) → number_at n (with_bytes b p xs) q ≡ number_at n b q
number-apart b xs p n q fits (inl l) = number-below n q (changes-with b xs p fits) l
number-apart b xs p n q fits (inr l) = number-above n q (changes-with b xs p fits) l

-- a number that was put there
pub number-put : (b xs : List ℕ) (p n i : ℕ) → p + length xs ≤ length b → i + n ≤ length xs → number_at n (with_bytes b p xs) (p + i) ≡ number_at n xs i
number-put b xs p n i fits within =
    let c = changes-with b xs p fits in
    let l = c.len in
    sym (number-in n p (length xs) i (with_bytes b p xs) (omega arith) within) ∙ ap (λ (t : List ℕ). number_at n t i) (bytes-with b xs p fits)

-- bytes that were put there
pub bytes-put : (b xs : List ℕ) (p m : ℕ) → p + length xs ≤ length b → m ≤ length xs → bytes_at (with_bytes b p xs) p m ≡ take m xs
bytes-put b xs p m fits within = sym (bytes-front (with_bytes b p xs) p m (length xs) within) ∙ ap (λ (t : List ℕ). bytes_at t 0 m) (bytes-with b xs p fits)

-- a byte before the place stays
pub byte-below : (b xs : List ℕ) (p j : ℕ) → p + length xs ≤ length b → j < p → slice_index (with_bytes b p xs) j ≡ slice_index b j
byte-below b xs p j fits l = (changes-with b xs p fits).below j l

-- the length stays
pub length-put : (b xs : List ℕ) (p : ℕ) → p + length xs ≤ length b → length (with_bytes b p xs) ≡ length b
length-put b xs p fits = (changes-with b xs p fits).len

-- ---- an entry more, an entry less, another count, another block behind

-- The bytes of an index block: its level, its count, its entries and the block behind it.
pub record AreBytes (k : ℕ) (b : List ℕ) (c : ℕ) (es : List Entry) (next : ℕ) : Type 0 where
  pub level : slice_index b 3 ≡ 0
  pub count : number_at 2 b 4 ≡ c
  pub entries : entries_at k b 12 c ≡ es
  pub next_is : number_at 4 b 8 ≡ next
  pub fits : 12 + c * (k + 4) ≤ length b

-- another count of entries, of bytes that are there already
pub put-count : (k : ℕ) (b two : List ℕ) (c d : ℕ) (es fs : List Entry) (next : ℕ) → AreBytes k b c es next → length two ≡ 2 → number_at 2 two 0 ≡ d → entries_at k b 12 d ≡ fs → 12 + d * (k + 4) ≤ length b
    → AreBytes k (with_bytes b 4 two) d fs next
put-count k b two c d es fs next h len is fs-are fits =
    let room = h.fits in
    let same = bytes-apart b two 4 12 (d * (k + 4)) (omega arith) fits (inr (omega arith)) in
    let long = length-put b two 4 (omega arith) in
    record {
      level = byte-below b two 4 3 (omega arith) (omega arith) ∙ h.level;
      count = number-put b two 4 2 0 (omega arith) (omega arith) ∙ is;
      entries = entries-same k (with_bytes b 4 two) b 12 12 d (omega arith) fits same ∙ fs-are;
      next_is = number-apart b two 4 4 8 (omega arith) (inr (omega arith)) ∙ h.next_is;
      fits = omega arith;
    }

-- another block behind
pub put-next : (k : ℕ) (b four : List ℕ) (c : ℕ) (es : List Entry) (next x : ℕ) → AreBytes k b c es next → length four ≡ 4 → number_at 4 four 0 ≡ x → AreBytes k (with_bytes b 8 four) c es x
put-next k b four c es next x h len is =
    let room = h.fits in
    let same = bytes-apart b four 8 12 (c * (k + 4)) (omega arith) (omega arith) (inr (omega arith)) in
    let long = length-put b four 8 (omega arith) in
    record {
      level = byte-below b four 8 3 (omega arith) (omega arith) ∙ h.level;
      count = number-apart b four 8 2 4 (omega arith) (inl (omega arith)) ∙ h.count;
      entries = entries-same k (with_bytes b 8 four) b 12 12 c (omega arith) (omega arith) same ∙ h.entries;
      next_is = number-put b four 8 4 0 (omega arith) (omega arith) ∙ is;
      fits = omega arith;
    }

-- bytes put behind the front of the block, whatever they are
pub put-behind : (k : ℕ) (b xs : List ℕ) (p c : ℕ) (es : List Entry) (next : ℕ) → AreBytes k b c es next → 12 ≤ p → p + length xs ≤ length b → AreBytes k (with_bytes b p xs) c (entries_at k (with_bytes b p xs) 12 c) next
put-behind k b xs p c es next h behind fits =
    let room = h.fits in
    let long = length-put b xs p fits in
    record {
      level = byte-below b xs p 3 fits (omega arith) ∙ h.level;
      count = number-apart b xs p 2 4 fits (inl (omega arith)) ∙ h.count;
      entries = refl;
      next_is = number-apart b xs p 4 8 fits (inl (omega arith)) ∙ h.next_is;
      fits = omega arith;
    }

-- an entry's bytes: its key, and its address
pub record IsEntryBytes (k : ℕ) (xs : List ℕ) (e : Entry) : Type 0 where
  pub len : length xs ≡ k + 4
  pub key : take k xs ≡ e.key
  pub address : number_at 4 xs k ≡ e.address

-- the bytes of the entries before one, of it, and of those behind it
pub three-parts : (i d k : ℕ) → (i + d + 1) * (k + 4) ≡ i * (k + 4) + (k + 4) + d * (k + 4)
three-parts i d k = omega arith

-- the bytes of the entries before one and from it on
pub two-parts : (i d k : ℕ) → (i + d) * (k + 4) ≡ i * (k + 4) + d * (k + 4)
two-parts i d k = omega arith

-- the bytes of some entries and of one more
pub one-part : (c k : ℕ) → (c + 1) * (k + 4) ≡ c * (k + 4) + (k + 4)
one-part c k = omega arith

-- the bytes with the entries from one on moved up by one, and an entry put before them
unfoldable pub added : ℕ → ℕ → ℕ → List ℕ → List ℕ → List ℕ
added k i c b xs = with_bytes (with_bytes b (12 + i * (k + 4) + (k + 4)) (bytes_at b (12 + i * (k + 4)) ((c - i) * (k + 4)))) (12 + i * (k + 4)) xs

-- are these entries, one more
pub entries-added : (k : ℕ) (b xs : List ℕ) (i c : ℕ) (e : Entry) → i ≤ c → 12 + (c + 1) * (k + 4) ≤ length b → IsEntryBytes k xs e
    → entries_at k (added k i c b xs) 12 (c + 1) ≡ take i (entries_at k b 12 c) ++ (e ∷ drop i (entries_at k b 12 c))
unfolding added
entries-added k b xs i c e low fits x =
    let w : ℕ = k + 4 in
    let p : ℕ = 12 + i * (k + 4) in
    let l : ℕ = (c - i) * (k + 4) in
    let total : (c + 1) * (k + 4) ≡ i * (k + 4) + (k + 4) + l = ap (λ (x : ℕ). (x + 1) * (k + 4)) (let e : c ≡ i + (c - i) = omega arith in e) ∙ three-parts i (c - i) k in
    let moved : List ℕ = bytes_at b p l in
    let b1 : List ℕ = with_bytes b (p + w) moved in
    let b2 : List ℕ = with_bytes b1 p xs in
    let lm : length moved ≡ l = length-bytes_at b p l (omega arith) in
    let l1 : length b1 ≡ length b = length-put b moved (p + w) (omega arith) in
    let lx = x.len in
    let l2 : length b2 ≡ length b1 = length-put b1 xs p (omega arith) in
    let front : entries_at k b2 12 i ≡ entries_at k b 12 i = entries-same k b2 b 12 12 i (omega arith) (omega arith)
    (bytes-apart b1 xs p 12 (i * (k + 4)) (omega arith) (omega arith) (inl (omega arith)) ∙ bytes-apart b moved (p + w) 12 (i * (k + 4)) (omega arith) (omega arith) (inl (omega arith))) in
    let key : bytes_at b2 p k ≡ e.key = bytes-put b1 xs p k (omega arith) (omega arith) ∙ x.key in
    let address : number_at 4 b2 (p + k) ≡ e.address = number-put b1 xs p 4 k (omega arith) (omega arith) ∙ x.address in
    let one : entry_of k b2 p ≡ e = rw (key, address) refl in
    let rear : entries_at k b2 (p + k + 4) (c - i) ≡ entries_at k b p (c - i) =
    ap (λ (j : ℕ). entries_at k b2 j (c - i)) (let e : p + k + 4 ≡ p + w = omega arith in e)
    ∙ entries-same k b2 b (p + w) p (c - i) (omega arith) (omega arith)
    (bytes-apart b1 xs p (p + w) l (omega arith) (omega arith) (inr (omega arith)) ∙ ap (bytes_at b1 (p + w)) (sym lm) ∙ bytes-with b moved (p + w) (omega arith)) in
    let all : entries_at k b2 12 (c + 1) ≡ entries_at k b2 12 i ++ (entry_of k b2 p ∷ entries_at k b2 (p + k + 4) (c - i)) =
    ap (entries_at k b2 12) (let e : c + 1 ≡ i + suc (c - i) = omega arith in e) ∙ entries-split k b2 12 i (suc (c - i)) in
    all ∙ ap (λ (es : List Entry). es ++ (entry_of k b2 p ∷ entries_at k b2 (p + k + 4) (c - i))) (front ∙ sym (entries-take k b 12 i c low))
    ∙ ap (λ (f : Entry). take i (entries_at k b 12 c) ++ (f ∷ entries_at k b2 (p + k + 4) (c - i))) one
    ∙ ap (λ (es : List Entry). take i (entries_at k b 12 c) ++ (e ∷ es)) (rear ∙ sym (entries-drop k b 12 i c low))

-- the bytes with the entries behind one moved down by one
unfoldable pub taken : ℕ → ℕ → ℕ → List ℕ → List ℕ
taken k i c b = with_bytes b (12 + i * (k + 4)) (bytes_at b (12 + i * (k + 4) + (k + 4)) ((c - (i + 1)) * (k + 4)))

-- are these entries, one less
pub entries-taken : (k : ℕ) (b : List ℕ) (i c : ℕ) → i < c → 12 + c * (k + 4) ≤ length b → entries_at k (taken k i c b) 12 (c - 1) ≡ take i (entries_at k b 12 c) ++ drop (suc i) (entries_at k b 12 c)
unfolding taken
entries-taken k b i c low fits =
    let w : ℕ = k + 4 in
    let p : ℕ = 12 + i * (k + 4) in
    let l : ℕ = (c - (i + 1)) * (k + 4) in
    let total : c * (k + 4) ≡ i * (k + 4) + (k + 4) + l = ap (λ (x : ℕ). x * (k + 4)) (let e : c ≡ i + (c - (i + 1)) + 1 = omega arith in e) ∙ three-parts i (c - (i + 1)) k in
    let moved : List ℕ = bytes_at b (p + w) l in
    let b1 : List ℕ = with_bytes b p moved in
    let lm : length moved ≡ l = length-bytes_at b (p + w) l (omega arith) in
    let l1 : length b1 ≡ length b = length-put b moved p (omega arith) in
    let front : entries_at k b1 12 i ≡ entries_at k b 12 i = entries-same k b1 b 12 12 i (omega arith) (omega arith) (bytes-apart b moved p 12 (i * (k + 4)) (omega arith) (omega arith) (inl (omega arith))) in
    let rear : entries_at k b1 p (c - (i + 1)) ≡ entries_at k b (p + w) (c - (i + 1)) =
    entries-same k b1 b p (p + w) (c - (i + 1)) (omega arith) (omega arith) (ap (bytes_at b1 p) (sym lm) ∙ bytes-with b moved p (omega arith)) in
    let behind : drop (suc i) (entries_at k b 12 c) ≡ entries_at k b (p + w) (c - (i + 1)) =
    entries-drop k b 12 (suc i) c (omega arith) ∙ ap (λ (j : ℕ). entries_at k b j (c - suc i)) (let e : 12 + suc i * (k + 4) ≡ p + w = omega arith in e) ∙ ap (entries_at k b (p + w)) (let e : c - suc i ≡ c - (i + 1) = omega arith in e) in
    ap (entries_at k b1 12) (let e : c - 1 ≡ i + (c - (i + 1)) = omega arith in e) ∙ entries-split k b1 12 i (c - (i + 1))
    ∙ ap (λ (es : List Entry). es ++ entries_at k b1 p (c - (i + 1))) (front ∙ sym (entries-take k b 12 i c (omega arith)))
    ∙ ap (λ (es : List Entry). take i (entries_at k b 12 c) ++ es) (rear ∙ sym behind)

-- The entries of a block about one of them.
use Rattle.std.proofs.Common.{◌≡◌, ◌≢◌, ◌⊎◌, inl, inr, ℕ, zero, suc, ◌+◌, ◌-◌, ◌*◌, ◌<◌, ◌≤◌, Bool, true, false, cond, List, [], ◌∷◌, ◌++◌, length, take, drop, Some, refl, sym, ap, ◌∙◌, subst, arith}
use Rattle.std.specs.Prelude.{slice_get, min}
use Rattle.std.proofs.lemmas.Bool.{cases_lt}
use Rattle.hd_bytes.specs.Ranges.{bytes_at}
use Rattle.hd_bytes.proofs.BlockLemmas.{length-bytes_at}
use Rattle.hd_volume.specs.Entries.{Entry, entries_at}
use Rattle.hd_volume.specs.Indexes.{key_less}
use Rattle.hd_index_blocks.specs.Fields.{below_count}
use Rattle.hd_index_blocks.specs.Levels.{AreBelow}
use Rattle.hd_index_blocks.specs.Maps.{last_key}
use Rattle.hd_index.specs.EditedBlocks.{with_entry_at, with_key_at}

-- before it, itself, and behind it
pub parts : (es : List Entry) (i : ℕ) (e : Entry) → slice_get es i ≡ Some e → es ≡ take i es ++ (e ∷ drop (suc i) es)
parts [] i e h = absurd (cc)
parts (x ∷ xs) zero e h = (let one : x ≡ e = cc in ap (λ (t : Entry). t ∷ xs) one)
parts (x ∷ xs) (suc i) e h = ap (λ (t : List Entry). x ∷ t) (parts xs i e h)

-- up to it
pub take-more : (es : List Entry) (i : ℕ) (e : Entry) → slice_get es i ≡ Some e → take (suc i) es ≡ take i es ++ (e ∷ [])
take-more [] i e h = absurd (cc)
take-more (x ∷ xs) zero e h = (let one : x ≡ e = cc in ap (λ (t : Entry). t ∷ []) one)
take-more (x ∷ xs) (suc i) e h = ap (λ (t : List Entry). x ∷ t) (take-more xs i e h)

-- behind the last there is none
pub drop-past : (es : List Entry) (i : ℕ) → length es ≤ i → drop i es ≡ []
drop-past [] zero h = refl
drop-past [] (suc i) h = refl
drop-past (x ∷ xs) zero h = absurd (omega arith)
drop-past (x ∷ xs) (suc i) h = drop-past xs i (omega arith)

-- before the last there is one behind
pub drop-some : (es : List Entry) (i : ℕ) → i < length es → drop i es ≡ [] → ⊥
drop-some [] i h = λ e. omega arith
drop-some (x ∷ xs) zero h = λ e. cc
drop-some (x ∷ xs) (suc i) h = drop-some xs i (omega arith)

-- ---- where a key leads

-- up to the place of a key all are below it
front-below : (key : List ℕ) (es : List Entry) (i : ℕ) → i ≤ below_count key es → AreBelow key (take i es)
front-below key [] zero h = tt
front-below key [] (suc i) h = tt
front-below key (x ∷ xs) zero h = tt
front-below key (x ∷ xs) (suc i) h = by-test (key_less x.key key) refl h (front-below key xs i)
  where
    by-test : (b : Bool) → key_less x.key key ≡ b → suc i ≤ cond b (suc (below_count key xs)) 0 → (i ≤ below_count key xs → AreBelow key (take i xs)) → (key_less x.key key ≡ true) × AreBelow key (take i xs)
    by-test true is l rest = (is, rest (omega arith))
    by-test false is l rest = absurd (omega arith)

-- the one there is not
at-count : (key : List ℕ) (es : List Entry) (e : Entry) → slice_get es (below_count key es) ≡ Some e → key_less e.key key ≡ false
at-count key [] e h = absurd (cc)
at-count key (x ∷ xs) e h = by-test (key_less x.key key) refl h (at-count key xs e)
  where
    by-test : (b : Bool) → key_less x.key key ≡ b → slice_get (x ∷ xs) (cond b (suc (below_count key xs)) 0) ≡ Some e → (slice_get xs (below_count key xs) ≡ Some e → key_less e.key key ≡ false) → key_less e.key key ≡ false
    by-test true is there rest = rest there
    by-test false is there rest = (let one : x ≡ e = cc in ap (λ (t : Entry). key_less t.key key) (sym one) ∙ is)

-- about the entry that a key leads to
pub lead-parts : (key : List ℕ) (es : List Entry) (i : ℕ) (e : Entry) → i ≡ min (below_count key es) (length es - 1) → slice_get es i ≡ Some e
    → AreBelow key (take i es) × ((key_less e.key key ≡ false) ⊎ (drop (suc i) es ≡ []))
lead-parts key es i e index there = (
  front-below key es i (omega arith),
  elim (cases_lt (below_count key es) (length es)) [
    | inl less ↦
        (let same : i ≡ below_count key es = omega arith in
        let G : ℕ → Type 0 = λ t. slice_get es t ≡ Some e in
        inl (at-count key es e (subst G same there)))
    | inr past ↦ inr (drop-past es (suc i) (omega arith))
  ],
)

-- ---- an entry changed, and one put behind it

pub with-key-parts : (es : List Entry) (i : ℕ) (e : Entry) (key : List ℕ) → slice_get es i ≡ Some e → with_key_at i key es ≡ take i es ++ (record { key = key; address = e.address } ∷ drop (suc i) es)
with-key-parts [] i e key h = absurd (cc)
with-key-parts (x ∷ xs) zero e key h = (let one : x ≡ e = cc in ap (λ (t : Entry). record { key = key; address = t.address } ∷ xs) one)
with-key-parts (x ∷ xs) (suc i) e key h = ap (λ (t : List Entry). x ∷ t) (with-key-parts xs i e key h)

pub put-behind : (front : List Entry) (i : ℕ) (e new : Entry) (back : List Entry) → length front ≡ i → with_entry_at (suc i) new (front ++ (e ∷ back)) ≡ front ++ (e ∷ new ∷ back)
put-behind [] zero e new back len = refl
put-behind [] (suc i) e new back len = absurd (omega arith)
put-behind (x ∷ front) zero e new back len = absurd (omega arith)
put-behind (x ∷ front) (suc i) e new back len = ap (λ (t : List Entry). x ∷ t) (put-behind front i e new back (omega arith))

-- as many as there were
pub length-with-key : (es : List Entry) (i : ℕ) (key : List ℕ) → length (with_key_at i key es) ≡ length es
length-with-key [] i key = refl
length-with-key (x ∷ xs) zero key = refl
length-with-key (x ∷ xs) (suc i) key = ap suc (length-with-key xs i key)

-- ---- the last entry

-- The entries end with one.
pub record HasLast (es : List Entry) : Type 0 where
  pub before : List Entry
  pub last : Entry
  pub is : es ≡ before ++ (last ∷ [])
  pub key : (other : List ℕ) → last_key other es ≡ last.key

pub last-of-some : (es : List Entry) → es ≢ [] → HasLast es
last-of-some [] some = absurd (some refl)
last-of-some (e ∷ []) some = record { before = []; last = e; is = refl; key = λ other. refl }
last-of-some (e ∷ f ∷ es) some =
    let rest = last-of-some (f ∷ es) (λ no-more. cc) in
    record { before = e ∷ rest.before; last = rest.last; is = ap (λ (t : List Entry). e ∷ t) rest.is; key = λ other. rest.key e.key }

-- a key in a block is of the keys' length, and so is the last one
pub last-length : (k : ℕ) (b : List ℕ) (p n : ℕ) (other : List ℕ) → p + n * (k + 4) ≤ length b → length other ≡ k → length (last_key other (entries_at k b p n)) ≡ k
last-length k b p zero other fits whole = whole
last-length k b p (suc n) other fits whole =
    let more : suc n * (k + 4) ≡ k + 4 + n * (k + 4) = omega arith in
    last-length k b (p + k + 4) n (bytes_at b p k) (omega arith) (length-bytes_at b p k (omega arith))

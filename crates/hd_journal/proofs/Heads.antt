-- The head of a log, written and read.
use Rattle.std.proofs.Common.{◌≡◌, ℕ, ◌+◌, ◌<◌, ◌≤◌, true, List, length, get_or, slice_index, refl, sym, ap, ◌∙◌, arith}
use Rattle.std.proofs.lemmas.Bool.{and_from, eq-eqb}
use Rattle.hd_bytes.specs.Ranges.{bytes_at}
use Rattle.hd_bytes.specs.Numbers.{number_at}
use Rattle.hd_bytes.proofs.NumberLemmas.{number-same, number-moved}
use Rattle.hd_bytes.proofs.BlockLemmas.{byte-at}
use Rattle.hd_journal.specs.declared.head.Head.{Head}
use Rattle.hd_journal.specs.Log.{first_head, is_marked, fits, IsHeadAt}

-- heads of the same numbers are the same
pub same-heads : (a b : Head) → a.size ≡ b.size → a.count ≡ b.count → a.base ≡ b.base → a.len ≡ b.len → a.device ≡ b.device → a.number ≡ b.number → a ≡ b
same-heads a b e f g h i j =
    let all : record { size = a.size; count = a.count; base = a.base; len = a.len; device = a.device; number = a.number } ≡ record { size = b.size; count = b.count; base = b.base; len = b.len; device = b.device; number = b.number } = rw (e, f, g, h, i, j) refl in
    all

-- logs that differ in nothing but the gate and the slots have the same first head
pub same-first : (a b : List ℕ) → ((i : ℕ) → 1 ≤ i → i < 51 → slice_index a i ≡ slice_index b i) → first_head a ≡ first_head b
same-first a b same =
    same-heads (first_head a) (first_head b)
    (number-same 4 11 a b (λ i l u. same i (omega arith) (omega arith)))
    (number-same 4 15 a b (λ i l u. same i (omega arith) (omega arith)))
    (number-same 8 19 a b (λ i l u. same i (omega arith) (omega arith)))
    (number-same 8 27 a b (λ i l u. same i (omega arith) (omega arith)))
    (number-same 8 35 a b (λ i l u. same i (omega arith) (omega arith)))
    (number-same 8 43 a b (λ i l u. same i (omega arith) (omega arith)))

-- and the same mark and version
pub same-mark : (a b : List ℕ) → ((i : ℕ) → 1 ≤ i → i < 51 → slice_index a i ≡ slice_index b i) → is_marked a ≡ is_marked b
same-mark a b same =
    rw (number-same 8 1 a b (λ i l u. same i (omega arith) (omega arith)), number-same 2 9 a b (λ i l u. same i (omega arith) (omega arith))) refl

-- a number in bytes that stand in a log
pub moved : (log bytes : List ℕ) (at len p n : ℕ) → bytes_at log at len ≡ bytes → at + len ≤ length log → p + n ≤ len → number_at n bytes p ≡ number_at n log (at + p)
moved log bytes at len p n is fits low =
    number-moved n (at + p) p log bytes (λ k u.
    ap (λ (xs : List ℕ). get_or xs (p + k) 0) (sym is) ∙ byte-at log at len (p + k) fits (omega arith) ∙ ap (slice_index log) (let e : at + (p + k) ≡ at + p + k = omega arith in e))

-- a head that was written behind the gate
pub head-written : (log bytes : List ℕ) (head : Head) → bytes_at log 1 50 ≡ bytes → 51 ≤ length log → IsHeadAt bytes head → first_head log ≡ head
head-written log bytes head is long h =
    same-heads (first_head log) head
    (sym (moved log bytes 1 50 10 4 is long (omega arith)) ∙ h.size_is)
    (sym (moved log bytes 1 50 14 4 is long (omega arith)) ∙ h.count_is)
    (sym (moved log bytes 1 50 18 8 is long (omega arith)) ∙ h.base_is)
    (sym (moved log bytes 1 50 26 8 is long (omega arith)) ∙ h.len_is)
    (sym (moved log bytes 1 50 34 8 is long (omega arith)) ∙ h.device_is)
    (sym (moved log bytes 1 50 42 8 is long (omega arith)) ∙ h.number_is)

-- with the mark and the version
pub mark-written : (log bytes : List ℕ) (head : Head) → bytes_at log 1 50 ≡ bytes → 51 ≤ length log → IsHeadAt bytes head → is_marked log ≡ true
mark-written log bytes head is long h =
    and_from _ _ (eq-eqb _ _ (sym (moved log bytes 1 50 0 8 is long (omega arith)) ∙ h.mark_is)) (eq-eqb _ _ (sym (moved log bytes 1 50 8 2 is long (omega arith)) ∙ h.version_is))

-- a head that was read
pub head-read : (log bytes : List ℕ) (head : Head) → bytes ≡ bytes_at log 11 40 → 51 ≤ length log
    → head.size ≡ number_at 4 bytes 0 → head.count ≡ number_at 4 bytes 4 → head.base ≡ number_at 8 bytes 8 → head.len ≡ number_at 8 bytes 16
    → head.device ≡ number_at 8 bytes 24 → head.number ≡ number_at 8 bytes 32 → head ≡ first_head log
head-read log bytes head is long e f g h i j =
    same-heads head (first_head log)
    (e ∙ moved log bytes 11 40 0 4 (sym is) long (omega arith))
    (f ∙ moved log bytes 11 40 4 4 (sym is) long (omega arith))
    (g ∙ moved log bytes 11 40 8 8 (sym is) long (omega arith))
    (h ∙ moved log bytes 11 40 16 8 (sym is) long (omega arith))
    (i ∙ moved log bytes 11 40 24 8 (sym is) long (omega arith))
    (j ∙ moved log bytes 11 40 32 8 (sym is) long (omega arith))

-- the gate, the mark and the version that were read
pub gate-read : (log bytes : List ℕ) → bytes ≡ bytes_at log 0 11 → 11 ≤ length log → slice_index bytes 0 ≡ slice_index log 0
gate-read log bytes is long = ap (λ (xs : List ℕ). get_or xs 0 0) is ∙ byte-at log 0 11 0 long (omega arith)

pub mark-read : (log bytes : List ℕ) → bytes ≡ bytes_at log 0 11 → 11 ≤ length log → number_at 8 bytes 1 ≡ number_at 8 log 1
mark-read log bytes is long = moved log bytes 0 11 1 8 (sym is) long (omega arith)

pub version-read : (log bytes : List ℕ) → bytes ≡ bytes_at log 0 11 → 11 ≤ length log → number_at 2 bytes 9 ≡ number_at 2 log 9
version-read log bytes is long = moved log bytes 0 11 9 2 (sym is) long (omega arith)

-- Blocks of a store that were read at once, and what a write or a growth of the store leaves of them.
use Rattle.std.proofs.Common.{◌≡◌, ◌≢◌, ◌⊎◌, inl, inr, Bool, false, IsTrue, Result, Ok, Err, OnOk, IfErr, ℕ, ◌+◌, ◌*◌, ◌/◌, ◌-◌, ◌<◌, ◌≤◌, List, ◌++◌, length, get_or, refl, sym, ap, ◌∙◌, arith}
use Rattle.std.proofs.lemmas.Grind.{common_steps, same_number_lists}
use Rattle.std.proofs.lemmas.Nat.{mul-le, row_fits}
use Rattle.hd_dbd.specs.declared.answer.Refused.{Refused}
use Rattle.hd_dbd.specs.declared.answer.Refused.TheVariants.{Memory, Full, Device, Broken, Area}
use Rattle.hd_dbd.specs.Refusals.{OnlyDevice}
use Rattle.hd_stores.specs.Stores.{StaysSound, SoundFor, RefusesGrowth}
use Rattle.hd_bytes.specs.Ranges.{bytes_at}
use Rattle.hd_bytes.specs.Blocks.{block_of, with_block, grown, HasBlock}
use Rattle.hd_bytes.proofs.BlockLemmas.{length-bytes_at, byte-at, length-with_block, other-with, length-grown, block-grown}
use Rattle.hd_stores.specs.declared.run.Run.{Run}
use Rattle.hd_stores.specs.Runs.{IsReadRun, IsReadAhead}

-- a run of no block
pub run-none : (size : ℕ) (c : List ℕ) (run : Run) → run.count ≡ 0 → IsReadRun size c run
run-none size c run none = record { there = λ k l. absurd (omega arith); same = λ k l. absurd (omega arith) }

module _ (size n k count : ℕ) (c : List ℕ) (all : n * size + count * size ≤ length c) (l : k < count) where
  inside : k * size + size ≤ count * size
  inside = row_fits k size count size l (omega arith)

  -- a block of several that an image has
  pub there-among : HasBlock size c (n + k)
  there-among = (let i = inside in omega arith)

  -- is that of its number
  pub block-among : bytes_at (bytes_at c (n * size) (count * size)) (k * size) size ≡ block_of size c (n + k)
  block-among =
      let i = inside in
      let bytes : List ℕ = bytes_at c (n * size) (count * size) in
      let len : length bytes ≡ count * size = length-bytes_at c (n * size) (count * size) all in
      let fits : k * size + size ≤ length bytes = omega arith in
      let there = there-among in
      same_number_lists _ _ (length-bytes_at bytes (k * size) size fits ∙ sym (length-bytes_at c ((n + k) * size) size there))
      (λ j u.
      let low : j < size = omega (arith, length-bytes_at bytes (k * size) size fits) in
      let place : n * size + (k * size + j) ≡ (n + k) * size + j = omega arith in
      byte-at bytes (k * size) size j fits low ∙ byte-at c (n * size) (count * size) (k * size + j) all (omega arith) ∙ ap (λ (p : ℕ). get_or c p 0) place
      ∙ sym (byte-at c ((n + k) * size) size j there low))

-- bytes at a place stay where others come behind
front-bytes : (xs rest : List ℕ) (p n : ℕ) → p + n ≤ length xs → bytes_at (xs ++ rest) p n ≡ bytes_at xs p n
front-bytes xs rest p n h = grind (arith, common_steps)

-- a run that was read from a store, with room behind it
pub run-filled : (size n count m : ℕ) (c new rest : List ℕ) (run : Run) → n * size + count * size ≤ length c → m ≡ count * size → new ≡ bytes_at c (n * size) m → run.bytes.items ≡ new ++ rest
    → run.first ≡ n → run.count ≡ count → IsReadRun size c run
run-filled size n count m c new rest run all whole said items first counted =
    let is : new ≡ bytes_at c (n * size) (count * size) = said ∙ ap (bytes_at c (n * size)) whole in
    record {
      there = λ k l. let t = there-among size n k count c all (rw counted at l) in rw first t;
      same = λ k l.
          let low : k < count = rw counted at l in
          let i = inside size n k count c all low in
          let len : length new ≡ count * size = ap length is ∙ length-bytes_at c (n * size) (count * size) all in
          ap (λ (t : List ℕ). bytes_at t (k * size) size) items ∙ front-bytes new rest (k * size) size (omega arith) ∙ ap (λ (t : List ℕ). bytes_at t (k * size) size) is
          ∙ block-among size n k count c all low ∙ ap (λ (m : ℕ). block_of size c (m + k)) (sym first);
    }

-- a run stays one where another block is written
pub run-written : (size n : ℕ) (c bytes : List ℕ) (run : Run) → IsReadRun size c run → (n < run.first) ⊎ (run.first + run.count ≤ n) → HasBlock size c n → length bytes ≡ size
    → IsReadRun size (with_block size c n bytes) run
run-written size n c bytes run is other there len = record {
  there = λ k l. let t = is.there k l in let same = length-with_block size n c bytes there len in omega arith;
  same = λ k l.
      let apart : run.first + k ≢ n = λ e. elim other [ inl o ↦ absurd (omega arith) | inr o ↦ absurd (omega arith) ] in
      is.same k l ∙ sym (other-with size n (run.first + k) c bytes there (is.there k l) len apart);
}

-- and where the store grows
pub run-grown : (size blocks : ℕ) (c : List ℕ) (run : Run) → IsReadRun size c run → IsReadRun size (grown size c blocks) run
run-grown size blocks c run is = record {
  there = λ k l. let t = is.there k l in let len = length-grown size blocks c in omega arith;
  same = λ k l. is.same k l ∙ sym (block-grown size blocks (run.first + k) c (is.there k l));
}

-- the block of a number within a run
pub run-block : (size n : ℕ) (c : List ℕ) (run : Run) → IsReadRun size c run → run.first ≤ n → n - run.first < run.count → bytes_at run.bytes.items ((n - run.first) * size) size ≡ block_of size c n
run-block size n c run is low within =
    let place : run.first + (n - run.first) ≡ n = omega arith in
    is.same (n - run.first) within ∙ ap (block_of size c) place

-- as many blocks as there are behind a number have their bytes
pub blocks-left : (size n count len : ℕ) → 0 < size → count ≤ len / size - n → 0 < count → n * size + count * size ≤ len
blocks-left size n count len some least more =
    let row : (n + count) * size ≤ (len / size) * size = mul-le (n + count) size (len / size) size (omega arith) (omega arith) in
    let all : (len / size) * size ≤ len = omega arith in
    omega arith

-- what is kept through a growth, by its answer
pub grown-kept : {size : ℕ} {c c' : List ℕ} {sound sound' : Bool} {run : Run} (room blocks : ℕ) (r : Result Unit Refused) → OnOk r (IsTrue sound → c' ≡ grown size c blocks)
    → IfErr r (λ e. e ≡ Memory → IsTrue sound → c' ≡ c) → IfErr r (λ e. RefusesGrowth e room blocks) → StaysSound r sound sound' → (IsTrue sound → IsReadRun size c run) → IsTrue sound' → IsReadRun size c' run
grown-kept {size} {c} {c'} {sound} {sound'} {run} room blocks (Ok x) value kept refused stays is now =
    let before : IsTrue sound = rw (sym stays) now in
    rw (value before) (run-grown size blocks c run (is before))
grown-kept {size} {c} {c'} {sound} {sound'} {run} room blocks (Err Memory) value kept refused stays is now =
    let before : IsTrue sound = rw (sym stays) now in
    rw (kept refl before) (is before)
grown-kept room blocks (Err Device) value kept refused stays is now = absurd (cc)
grown-kept room blocks (Err Full) value kept refused stays is now = absurd refused
grown-kept room blocks (Err Broken) value kept refused stays is now = absurd refused
grown-kept room blocks (Err Area) value kept refused stays is now = absurd refused

-- a failed access leaves nothing to keep
failed-off : (sound sound' : Bool) (e : Refused) → e ≡ Device → SoundFor e sound sound' → IsTrue sound' → ⊥
failed-off sound sound' e device off now =
    let is : sound' ≡ false = rw device at off in
    cc

-- and through a write of a block that is not of the run
pub written-kept : {size n : ℕ} {c c' : List ℕ} {sound sound' : Bool} {run : Run} (bytes : List ℕ) (r : Result Unit Refused) → OnOk r (IsTrue sound → c' ≡ with_block size c n bytes) → OnlyDevice r
    → StaysSound r sound sound' → (n < run.first) ⊎ (run.first + run.count ≤ n) → (IsTrue sound → HasBlock size c n) → length bytes ≡ size → (IsTrue sound → IsReadRun size c run) → IsTrue sound' → IsReadRun size c' run
written-kept {size} {n} {c} {c'} {sound} {sound'} {run} bytes (Ok x) value only stays other there len is now =
    let before : IsTrue sound = rw (sym stays) now in
    rw (value before) (run-written size n c bytes run (is before) other (there before) len)
written-kept {sound} {sound'} bytes (Err e) value only stays other there len is now = absurd (failed-off sound sound' e only stays now)

-- and through a read
pub read-kept : {size : ℕ} {c c' : List ℕ} {sound sound' : Bool} {run : Run} (r : Result Unit Refused) → OnOk r (IsTrue sound → c' ≡ c) → OnlyDevice r → StaysSound r sound sound' → (IsTrue sound → IsReadRun size c run)
    → IsTrue sound' → IsReadRun size c' run
read-kept {size} {c} {c'} {sound} {sound'} {run} (Ok x) value only stays is now =
    let before : IsTrue sound = rw (sym stays) now in
    rw (value before) (is before)
read-kept {sound} {sound'} (Err e) value only stays is now = absurd (failed-off sound sound' e only stays now)

-- where a run is as it was, or its blocks are forgotten
pub forgotten : {size : ℕ} {c : List ℕ} {sound : Bool} {run run' : Run} → IsReadAhead size c sound run → (run' ≡ run) ⊎ (run' ≡ record run { count = 0 }) → IsReadAhead size c sound run'
forgotten k (inl same) = rw same k
forgotten {size} {c} {run} {run'} k (inr none) = rw none (record { fits = omega arith; is_run = λ sound. run-none size c (record run { count = 0 }) refl })

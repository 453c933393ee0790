-- Blocks that are full without a gap, counted from above.
use Rattle.std.proofs.Common.{◌≡◌, ◌≢◌, inl, inr, ℕ, suc, ◌+◌, ◌≤◌, Bool, true, false, cond, List, refl, arith, ne_eqb}
use Rattle.std.specs.Prelude.{◌==◌, ◌&&◌}
use Rattle.std.proofs.lemmas.Bool.{cases_eq, eq-eqb}
use Rattle.hd_volume.specs.Rooms.{one_if}
use Rattle.hd_index_blocks.specs.Levels.{IndexBlocks}
use Rattle.hd_index_blocks.specs.Ways.{child_of}
use Rattle.hd_index_blocks.specs.Needs.{is_full, full_blocks}
use Rattle.hd_index_blocks.proofs.Needs.{full-most}
use Rattle.hd_index_blocks.specs.Needs.{needed_by}
use Rattle.hd_volume.specs.Volumes.{VolumeState}
use Rattle.hd_volume.proofs.JoinLemmas.{AreOne}

-- how many are full, where so many are up to a level, and so many without a gap above that
abbrev pub with_run : ℕ → ℕ → ℕ → ℕ
with_run full l run = full + cond (full == suc l) run 0

run-step : (b l run : ℕ) (full : Bool) → b ≤ suc l → with_run (b + one_if (b == suc l && full)) (suc l) run ≡ with_run b l (cond full (run + 1) 0)
run-step b l run full most = elim (cases_eq b (suc l)) [ inl all ↦ by-full full all | inr some ↦ apart some ]
  where
    by-full : (f : Bool) → b ≡ suc l → with_run (b + one_if (b == suc l && f)) (suc l) run ≡ with_run b l (cond f (run + 1) 0)
    by-full true all =
        let same : (b == suc l) ≡ true = eq-eqb b (suc l) all in
        let next : (b + 1 == suc (suc l)) ≡ true = eq-eqb (b + 1) (suc (suc l)) (omega arith) in
        rw (same, next) (let e : b + 1 + run ≡ b + (run + 1) = omega arith in e)
    by-full false all =
        let same : (b == suc l) ≡ true = eq-eqb b (suc l) all in
        let next : (b + 0 == suc (suc l)) ≡ false = ne_eqb (b + 0) (suc (suc l)) (λ e. omega arith) in
        rw (same, next) (let e : b + 0 + 0 ≡ b + 0 = omega arith in e)

    apart : b ≢ suc l → with_run (b + one_if (b == suc l && full)) (suc l) run ≡ with_run b l (cond full (run + 1) 0)
    apart some =
        let other : (b == suc l) ≡ false = ne_eqb b (suc l) some in
        let next : (b + 0 == suc (suc l)) ≡ false = ne_eqb (b + 0) (suc (suc l)) (λ e. omega arith) in
        rw (other, next) (let e : b + 0 + 0 ≡ b + 0 = omega arith in e)

-- one level down
pub full-step : (c : IndexBlocks) (room : ℕ) (key : List ℕ) (l n run : ℕ)
    → with_run (full_blocks c room key (suc l) n) (suc l) run ≡ with_run (full_blocks c room key l (child_of key (c.entries n))) l (cond (is_full c room n) (run + 1) 0)
full-step c room key l n run =
    run-step (full_blocks c room key l (child_of key (c.entries n))) l run (is_full c room n) (full-most c room key l (child_of key (c.entries n)))

-- at the sequence set
pub full-end : (c : IndexBlocks) (room : ℕ) (key : List ℕ) (n run : ℕ) → with_run (full_blocks c room key 0 n) 0 run ≡ cond (is_full c room n) (run + 1) 0
full-end c room key n run = by-full (is_full c room n)
  where
    by-full : (f : Bool) → with_run (one_if f) 0 run ≡ cond f (run + 1) 0
    by-full true = (let e : 1 + run ≡ run + 1 = omega arith in e)
    by-full false = refl

-- at the top there is none above
pub full-top : (full l : ℕ) → with_run full l 0 ≡ full
full-top full l = by-test (full == suc l)
  where
    by-test : (b : Bool) → full + cond b 0 0 ≡ full
    by-test true = omega arith
    by-test false = omega arith

-- one image needs the same
pub needed-same : (k : ℕ) (v w : VolumeState) (by : List ℕ) → AreOne v w → needed_by k w by ≡ needed_by k v by
needed-same k v w by one = λ i. needed_by k (record v { size = one.same.size i; image = one.image i }) by

use Rattle.std.proofs.Common.{◌≡◌, ◌<◌, ◌≤◌, ℕ, length, slice_index}
use Rattle.hd_journal.proofs.reading.have_none.Given as goal

abbrev pub invariant-loop-m : goal.invariant-loop-m
invariant-loop-m l = (k : ℕ) → l.fn.from ≤ k → k < l.m → k < length l.places → slice_index l.places k ≡ 0

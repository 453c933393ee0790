-- The least number that passes a test.
use Rattle.std.specs.Prelude.{ℕ, zero, suc, ◌+◌, ◌-◌, Bool, cond, Option, Some, None}

-- of n numbers from i on, the least that passes
abbrev pub least_within : (ℕ → Bool) → ℕ → ℕ → Option ℕ
least_within test zero i = None
least_within test (suc n) i = cond (test i) (Some i) (least_within test n (i + 1))

-- the least number from a beginning on, and below an end, that passes
abbrev pub first_from : (ℕ → Bool) → ℕ → ℕ → Option ℕ
first_from test begin end = least_within test (end - begin) begin

-- What is known of a store in a file.
use Rattle.std.specs.Prelude.{◌≡◌, ℕ, ◌+◌, ◌<◌, ◌≤◌, Result, MatchResult}
use Rattle.hd_dbd.specs.declared.answer.Refused.{Refused}
use Rattle.hd_dbd.specs.declared.answer.Refused.TheVariants.{Device}

-- the bytes of a block, the bytes of the file, and the accesses failed so far
pub record Filed : Type 0 where
  pub size : ℕ
  pub length : ℕ
  pub failures : ℕ

-- blocks of this size, and a share in the count of failures
pub record MayCount (size parts : ℕ) : Type 0 where
  pub some : 0 < size
  pub small : size ≤ 32768
  pub share : 0 < parts

-- the store with one more failed access
abbrev pub with_failure : Filed → Filed
with_failure store = record store { failures = store.failures + 1 }

-- an access leaves what is known as it was, or is refused with Device and counted once
abbrev pub Accesses : Result Unit Refused → Filed → Filed → Type 0
Accesses result old new = MatchResult result (λ _. new ≡ old) (λ e. (e ≡ Device) × (new ≡ with_failure old))

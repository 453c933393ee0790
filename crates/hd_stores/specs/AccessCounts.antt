-- What callers see of a store that counts its accesses.
use Rattle.std.specs.Prelude.{ℕ}

-- the store below, and the accesses so far
pub record Count (S : Type 0) : Type 0 where
  pub inner : S
  pub accesses : ℕ

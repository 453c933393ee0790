-- The rows of a placed forest are fewer than the bound of their addresses.
use Rattle.std.proofs.Common.{◌≡◌, ℕ, zero, suc, ◌<◌, ◌≤◌, List, length, refl, ap, arith}
use Rattle.hd_dbd.specs.Types.{SegmentType}
use Rattle.hd_dbd.specs.Forest.{Forest}
use Rattle.hd_links.specs.Links.{Links, IsLinkGraph}
use Rattle.hd_links.specs.Placed.{Placed}
use Rattle.hd_links.specs.Steps.{rows_of, address_at, RowsHaveAddresses}
use Rattle.hd_links.proofs.Ends.{pigeon}

-- 0, and behind it the addresses of the rows
abbrev from_zero : Forest Placed → ℕ → ℕ
from_zero f zero = 0
from_zero f (suc i) = address_at f i

-- the rows are fewer than a bound of their addresses
pub fewer_rows : (types : List SegmentType) (bound : ℕ) (m : Links) → IsLinkGraph types bound m → 0 < bound → (f : Forest Placed) → RowsHaveAddresses m f → length (rows_of f) < bound
fewer_rows types bound m G some f R = (let few : suc (length (rows_of f)) ≤ bound = pigeon bound (suc (length (rows_of f))) (from_zero f) below once in omega arith)
  where
    below : (i : ℕ) → i < suc (length (rows_of f)) → from_zero f i < bound
    below zero l = some
    below (suc i) l = G.below (address_at f i) (R.there i (omega arith))

    once : (i j : ℕ) → i < suc (length (rows_of f)) → j < suc (length (rows_of f)) → from_zero f i ≡ from_zero f j → i ≡ j
    once zero zero k l e = refl
    once zero (suc j) k l e = absurd (let s = (R.there j (omega arith)).some in omega arith)
    once (suc i) zero k l e = absurd (let s = (R.there i (omega arith)).some in omega arith)
    once (suc i) (suc j) k l e = ap suc (R.once i j (omega arith) (omega arith) e)

-- What a row that fits says of its type.
use Rattle.std.proofs.Common.{◌≡◌, ℕ, ◌+◌, ◌≤◌, List, true, arith}
use Rattle.hd_dbd.specs.Types.{SegmentType}
use Rattle.hd_dbd.specs.Prefixes.{prefix_length}
use Rattle.hd_dbd.specs.Rows.{row_fits}
use Rattle.hd_dbd.proofs.TypeLengths.{row-type}
use Rattle.hd_prefix.proofs.Children.{prefix_is}
use Rattle.hd_prefix.proofs.Places.{twins_some}

-- its type has a prefix
pub row_prefix : (types : List SegmentType) (c : ℕ) (bytes : List ℕ) → row_fits types (record { code = c; bytes = bytes }) ≡ true → 2 ≤ prefix_length types c
row_prefix types c bytes fits =
    let own = row-type types (record { code = c; bytes = bytes }) fits in
    sums _ _ _ (prefix_is types c own.type own.is) (twins_some c own.type)
  where
    sums : (l m n : ℕ) → l ≡ m + n → 6 ≤ m → 2 ≤ l
    sums l m n e f = omega arith

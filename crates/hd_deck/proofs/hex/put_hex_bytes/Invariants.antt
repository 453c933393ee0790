use Rattle.std.proofs.Common.{◌≡◌, length}
use Rattle.hd_deck.proofs.HexDigits.{IsSpelling}
use Rattle.hd_deck.proofs.hex.put_hex_bytes.Given as goal

abbrev pub invariant-pairs : goal.invariant-pairs
invariant-pairs l = record {
  spelling : IsSpelling l.fn.bytes.items l.bytes.items l.rest l.digits;
  before : l.before ≡ length l.fn.bytes.items;
}

abbrev pub decreases-pairs : goal.decreases-pairs
decreases-pairs l = length l.rest

use Rattle.std.proofs.Common.{◌≡◌, length}
use Rattle.std.specs.Option.{is_some}
use Rattle.hd_deck.specs.Deck.{hex_bytes}
use Rattle.hd_deck.proofs.hex.are_hex_bytes.Given as goal

abbrev pub invariant-pairs : goal.invariant-pairs
invariant-pairs l = is_some (hex_bytes l.rest) ≡ is_some (hex_bytes l.digits)

abbrev pub decreases-pairs : goal.decreases-pairs
decreases-pairs l = length l.rest

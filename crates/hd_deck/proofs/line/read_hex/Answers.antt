use Rattle.std.proofs.Common.{◌≡◌, Bool, true, false, List, ℕ, drop, sym, ap, ◌∙◌}
use Rattle.std.specs.Option.{is_some}
use Rattle.hd_deck.specs.Deck.{hex_bytes}
use Rattle.hd_deck.proofs.HexDigits.{hex_is_read, hex_is_not}
use Rattle.hd_deck.proofs.line.read_hex.Goals as goal

pub returns-then-are_hex_bytes-clause-says : goal.returns-then-are_hex_bytes-clause-says
returns-then-are_hex_bytes-clause-says c =
    hex_is_read c.args.number c.args.line.now (ap (λ (digits : List ℕ). is_some (hex_bytes digits)) (sym c.from_column.ensures) ∙ sym c.are_hex_bytes.ensures ∙ c.if-are_hex_bytes.true)

pub returns-else-are_hex_bytes-clause-fault : goal.returns-else-are_hex_bytes-clause-fault
returns-else-are_hex_bytes-clause-fault c =
    hex_is_not c.args.number c.args.line.now (ap (λ (digits : List ℕ). is_some (hex_bytes digits)) (sym c.from_column.ensures) ∙ sym c.are_hex_bytes.ensures ∙ c.if-are_hex_bytes.false)

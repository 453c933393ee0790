use Rattle.std.proofs.Common.{arith, ◌≡◌, ◌∙◌, sym}
use Rattle.hd_deck.proofs.HexDigits.{none_done, byte_done, pair_fails, digit_left, none_spelled, all_spelled}
use Rattle.hd_deck.proofs.hex.put_hex_bytes.Goals as goal

pub pairs-init : goal.pairs-init
pairs-init c =
    let full = c.args.bytes.now.ok.0 in
    record { spelling = none_done c.args.bytes.now.items c.args.digits.now; before = omega (arith, c.len-before.ensures) }

pub pairs-preserved : goal.pairs-preserved
pairs-preserved c = record {
  spelling = byte_done c.args.bytes.now.items c.pairs.bytes.items c.push.new.self.items c.pairs.rest.now c.args.digits.now c.in-Some.byte c.pairs-test.true (sym c.hex_byte.ensures ∙ c.in-Some.is)
      c.in_ok-push.ensures.items c.pairs.invariant.spelling;
  before = c.pairs.invariant.before;
}

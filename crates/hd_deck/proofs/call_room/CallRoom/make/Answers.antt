use Rattle.std.proofs.Common.{ap, sym, ◌∙◌}
use Rattle.std.specs.Str.Lines.{lines}
use Rattle.hd_dbd.specs.Calls.{CallText}
use Rattle.hd_deck.specs.CallLines.{with_parts}
use Rattle.hd_deck.proofs.Starts.{ended, goes_on}
use Rattle.hd_deck.proofs.call_room.CallRoom.make.Goals as goal

pub returns-then-ends_call : goal.returns-then-ends_call
returns-then-ends_call c = sym (ended c.lines.rest.now c.lines.self (sym c.ends_call.ensures ∙ c.if-ends_call.true)) ∙ c.lines.invariant

pub lines-preserved : goal.lines-preserved
lines-preserved c =
    let after = lines c.next_line.result.1.now in
    ap (λ (call : CallText). with_parts after call) c.in_ok-add_line.ensures
    ∙ sym (goes_on c.lines.rest.now c.next_line.result.0.now after c.lines.self c.next_line.ensures.value (sym c.ends_call.ensures ∙ c.if-ends_call.false))
    ∙ c.lines.invariant

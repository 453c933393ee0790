use Rattle.std.proofs.Common.{◌≡◌, length}
use Rattle.std.specs.Str.Lines.{lines}
use Rattle.hd_deck.specs.CallLines.{with_parts}
use Rattle.hd_deck.proofs.call_room.CallRoom.make.Given as goal

abbrev pub invariant-lines : goal.invariant-lines
invariant-lines l = with_parts (lines l.rest) l.self ≡ l.step.call

abbrev pub decreases-lines : goal.decreases-lines
decreases-lines l = length l.rest

use Rattle.std.proofs.Common.{◌≡◌, ◌≤◌, ◌+◌, ◌*◌, ◌++◌, length, take}
use Rattle.hd_deck.specs.Printing.{shown}
use Rattle.hd_deck.proofs.lines.add_each.Given as goal

abbrev pub invariant-loop-byte : goal.invariant-loop-byte
invariant-loop-byte l =
    (l.end ≤ l.behind)
    × (l.behind ≤ l.end + 4 * l.byte-index)
    × (length l.line ≡ length l.fn.line)
    × (take l.behind l.line ≡ take l.end l.fn.line ++ shown (take l.byte-index l.bytes))

use Rattle.std.proofs.Common.{◌≡◌, ◌≤◌, ◌-◌, take, drop, true}
use Rattle.std.specs.List.{list_all}
use Rattle.hd_deck.specs.Printing.{is_plain}
use Rattle.hd_deck.proofs.lines.are_blocks_plain.Given as goal

abbrev pub invariant-loop-first : goal.invariant-loop-first
invariant-loop-first l = (l.start ≤ l.first) × (list_all is_plain (take (l.first - l.start) (drop l.start l.line)) ≡ true)

abbrev pub decreases-loop-first : goal.decreases-loop-first
decreases-loop-first l = l.end - l.first

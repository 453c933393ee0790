use Rattle.std.proofs.Common.{◌+◌, ◌<◌, ◌≤◌, length, All}
use Rattle.std.specs.Str.Lines.{lines}
use Rattle.hd_deck.specs.StepText.{StepFits}
use Rattle.hd_deck.specs.Deck.{deck}
use Rattle.hd_deck.proofs.Decks.{IsAhead}
use Rattle.hd_deck.proofs.deck.read_deck.Given as goal

abbrev pub invariant-lines : goal.invariant-lines
invariant-lines l = record {
  so_far : IsAhead l.pcbs l.number (lines l.rest) (deck l.pcbs l.bytes) l.reader;
  fit : All (StepFits l.pcbs) l.reader.steps;
  some_pcb : 0 < l.reader.pcb;
  known_pcb : l.reader.pcb ≤ l.pcbs;
  few : length l.reader.steps + length l.rest ≤ length l.bytes;
  numbered : l.number + length l.rest ≤ 1 + length l.bytes;
}

abbrev pub decreases-lines : goal.decreases-lines
decreases-lines l = length l.rest

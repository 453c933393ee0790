use Rattle.std.proofs.Common.{◌≡◌, ℕ, List, ◌++◌}
use Rattle.std.specs.Io.KnownBytes.{Appends}
use Rattle.std.specs.Slice.Iter.{chunks_rest, chunks_size}
use Rattle.hd_deck.specs.Printing.{shown}
use Rattle.hd_deck.proofs.lines.put_each.Given as goal

abbrev pub invariant-loop-chunk : goal.invariant-loop-chunk
invariant-loop-chunk g l =
    (goal.iterator-loop-chunk g).can_next l.chunk-iterator
    × (goal.iterator-loop-chunk g).is_finite l.chunk-iterator
    × (chunks_size l.chunk-iterator ≡ 32)
    × ((done : List ℕ) × Appends (g.W.Write.contents l.fn.out) (g.W.Write.contents l.out) done × (done ++ shown (chunks_rest l.chunk-iterator) ≡ shown l.bytes))

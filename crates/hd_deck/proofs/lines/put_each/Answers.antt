use Rattle.std.proofs.Common.{◌≡◌, ℕ, List, ◌++◌, rules, sym, ap, ◌∙◌, append_assoc}
use Rattle.std.proofs.KnownBytes.{Appends-trans}
use Rattle.std.proofs.lemmas.Grind.{flat_map-append}
use Rattle.std.specs.Slice.Iter.{chunks_rest}
use Rattle.hd_deck.specs.Printing.{shown, shown_byte}
use Rattle.hd_deck.proofs.lines.put_each.Goals as goal

pub loop-chunk-preserved : goal.loop-chunk-preserved
loop-chunk-preserved g c =
    let steps = c.in-Some.ensures.steps in
    let before = c.loop-chunk.invariant.3 in
    let chunk : List ℕ = c.in-Some.chunk.now in
    let rest : List ℕ = chunks_rest c.next.new.self in (
      search rules,
      tt,
      steps.0 ∙ c.loop-chunk.invariant.2,
      (
        before.0 ++ shown chunk,
        Appends-trans _ _ _ _ _ before.1 c.in_ok-put_chunk.ensures,
        append_assoc before.0 (shown chunk) (shown rest)
            ∙ ap (λ (t : List ℕ). before.0 ++ t) (sym (flat_map-append shown_byte chunk rest) ∙ ap shown (sym steps.1.0))
            ∙ before.2,
      ),
    )

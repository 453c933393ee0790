use Rattle.std.proofs.Common.{ℕ, List, sym, subst}
use Rattle.std.specs.Prelude.{OnOk}
use Rattle.std.specs.Io.KnownBytes.{Appends}
use Rattle.hd_deck.proofs.lines.put_shown.Goals as goal

pub returns-then-are_plain : goal.returns-then-are_plain
returns-then-are_plain g c =
    subst (λ (bytes : List ℕ). OnOk c.put.result (Appends (g.W.Write.contents c.args.out.now) (g.W.Write.contents c.put.new.out) bytes))
    (sym (c.are_plain.ensures.same c.if-are_plain.true)) c.put.ensures

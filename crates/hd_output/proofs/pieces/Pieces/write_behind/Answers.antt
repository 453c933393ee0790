use Rattle.std.proofs.Common.{◌∙◌, ap, sym, subst}
use Rattle.std.specs.Io.KnownBytes.{Keeps}
use Rattle.hd_output.specs.Gathered.{contents_with}
use Rattle.hd_output.proofs.Through.{through, on_err}
use Rattle.hd_output.proofs.pieces.Pieces.write_behind.Goals as goal

pub returns-clause-front : goal.returns-clause-front
returns-clause-front g c =
    let same = c.self.view_is ∙ c.gathers.ensures.kept c.if-gathers.false in
    let none = ap (λ p. p.bytes) same ∙ c.in_ok-hand_on.ensures.all.0 in
    let kept = subst (λ p. Keeps (contents_with g.W.Write.contents c.args.self.now) (contents_with g.W.Write.contents p)) (sym same) c.hand_on.ensures.kept in
    on_err c.write_out-done.result.1 (c.write_out-done.result.0, through _ _ _ _ _ kept none c.write_out-done.ensures.bytes)

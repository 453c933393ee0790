use Rattle.std.proofs.Common.{ap, ◌∙◌, arith}
use Rattle.std.specs.Prelude.{slice_get}
use Rattle.hd_unload.specs.Paths.{placed_of}
use Rattle.hd_unload.proofs.PathRows.{at-front, past-front}
use Rattle.hd_unload.proofs.path.LoadPath.row.Goals as goal

pub returns-then-place-self : goal.returns-then-place-self
returns-then-place-self c =
    at-front placed_of c.self.inside.rows c.self.inside.count c.args.place _ c.if-place-self.true (let i = c.self.invariant in omega (arith, i.0, i.1))
    ∙ ap (λ p. slice_get p c.args.place) c.self.view_is

pub returns-else-place-self : goal.returns-else-place-self
returns-else-place-self c =
    past-front placed_of c.self.inside.rows c.self.inside.count c.args.place c.if-place-self.false ∙ ap (λ p. slice_get p c.args.place) c.self.view_is

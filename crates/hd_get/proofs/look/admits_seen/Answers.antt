use Rattle.std.proofs.Common.{◌≡◌, Bool, true, false, refl, sym, ap, ◌∙◌}
use Rattle.std.specs.Prelude.{not}
use Rattle.hd_dbd.specs.Paths.{row_at}
use Rattle.hd_links.specs.Steps.{rows_of}
use Rattle.hd_get.specs.declared.look.Look.{Look}
use Rattle.hd_get.specs.Asking.{some_has_last}
use Rattle.hd_get.proofs.Looks.{not_seen, seen}
use Rattle.hd_get.proofs.look.admits_seen.Goals as goal

not_true : (b : Bool) → not b ≡ true → b ≡ false
not_true true e = cc
not_true false e = refl

not_false : (b : Bool) → not b ≡ false → b ≡ true
not_false true e = refl
not_false false e = cc

pub returns-then-not-look-clause-value : goal.returns-then-not-look-clause-value
returns-then-not-look-clause-value g c f i at is =
    sym (not_seen c.args.dbd.now.types (rows_of f) i c.args.ssas.now (sym (ap (λ (l : Look). l.qualifies) is) ∙ not_true c.args.look.qualifies c.if-not-look.true))

pub returns-then-not-some_has_last-clause-value : goal.returns-then-not-some_has_last-clause-value
returns-then-not-some_has_last-clause-value g c f i at is =
    let code : c.args.look.code ≡ (row_at (rows_of f) i).code = ap (λ (l : Look). l.code) is in
    sym (seen c.args.dbd.now.types (rows_of f) i c.args.ssas.now (sym (ap (λ (l : Look). l.qualifies) is) ∙ not_false c.args.look.qualifies c.if-not-look.false)
    (ap (some_has_last c.args.ssas.now) (sym code) ∙ sym c.some_has_last.ensures ∙ c.if-not-some_has_last.true))

use Rattle.std.proofs.Common.{◌≡◌, ℕ, List, [], ◌∷◌, ◌++◌, Bool, true, false, cond, map, Result, Ok, Err, ap, sym, ◌∙◌, subst, refl, arith}
use Rattle.std.specs.Result.{is_ok, is_err}
use Rattle.hd_session.specs.Opening.{SessionState}
use Rattle.hd_session.specs.Turns.{Turn}
use Rattle.hd_serve.specs.Serves.{GathersTold}
use Rattle.hd_serve.proofs.OneRequest.{does_foretell, serves_foretold}
use Rattle.hd_serve.proofs.Gathering.{only_none}
use Rattle.hd_serve.proofs.foretold.answer_foretold.Goals as goal

ok_is : {T E : Type 0} (r : Result T E) → is_err r ≡ false → is_ok r ≡ true
ok_is (Ok x) is = refl
ok_is (Err e) is = cc

pub returns-then-is_err-clause-halts : goal.returns-then-is_err-clause-halts
returns-then-is_err-clause-halts g c =
    does_foretell c.args.session.now c.args.session.now c.args.framed c.args.count c.requires.whole (only_none c.args.session.now c.requires.whole)

pub returns-in-Ok-clause-halts : goal.returns-in-Ok-clause-halts
returns-in-Ok-clause-halts g c =
    does_foretell c.args.session.now c.gather.new.session c.args.framed c.args.count c.requires.whole c.in-Ok.ensures.gathers.only

pub returns-in-Ok-put_told-clause-served : goal.returns-in-Ok-put_told-clause-served
returns-in-Ok-put_told-clause-served g c =
    let s : SessionState = c.args.session.now in
    let is : is_ok c.extend_from_slice.result ≡ true = ok_is c.extend_from_slice.result (sym c.is_err.ensures.value ∙ c.if-is_err.false) in
    let head : c.extend_from_slice.new.self.items ≡ 0 ∷ 0 ∷ 0 ∷ 0 ∷ 7 ∷ [] =
    c.extend_from_slice.ensures.items
    ∙ ap (λ (b : Bool). cond b (c.clear.new.self.items ++ 0 ∷ 0 ∷ 0 ∷ 0 ∷ 7 ∷ []) c.clear.new.self.items) is
    ∙ ap (λ (xs : List ℕ). xs ++ 0 ∷ 0 ∷ 0 ∷ 0 ∷ 7 ∷ []) c.clear.ensures.items in
    let line : List ℕ = c.gather.new.line.items in
    let turn : Turn = record { pcb = c.framed.inside.pcb; call = record { function = c.framed.inside.func; ssas = map (λ s. s.items) c.framed.inside.ssas.items; area = c.framed.inside.area.items } } in
    let gathers : GathersTold s c.args.framed c.args.count (0 ∷ 0 ∷ 0 ∷ 0 ∷ 7 ∷ []) line c.gather.new.session =
    subst (λ (t : Turn). GathersTold s t c.args.count (0 ∷ 0 ∷ 0 ∷ 0 ∷ 7 ∷ []) line c.gather.new.session) c.framed.view_is
    (subst (λ (xs : List ℕ). GathersTold s turn c.args.count xs line c.gather.new.session) head c.in-Ok.ensures.gathers) in
    record {
      count = refl;
      few = omega arith;
      serves = serves_foretold s c.gather.new.session c.args.framed c.args.count c.requires.whole line (g.W.Write.contents c.args.out.now) (g.W.Write.contents c.put_told.new.out) gathers c.in-Ok-put_told.ensures;
    }

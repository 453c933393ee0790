use Rattle.std.proofs.Common.{◌≡◌, ℕ, ◌-◌, ◌≤◌, List, length, Some, sym, ap, ◌∙◌, subst}
use Rattle.std.specs.Prelude.{slice_index_or}
use Rattle.hd_dbd.specs.Types.{View}
use Rattle.hd_calls.specs.Runs.{view_of}
use Rattle.hd_session.specs.Foretelling.{can_be_foretold}
use Rattle.hd_session.specs.Opening.{SessionState}
use Rattle.hd_session.proofs.SessionCalls.{its_view}
use Rattle.hd_session.proofs.session.Session.can_foretell.Goals as goal

pub returns : goal.returns
returns g c view seen =
    let pcbs : List View = c.self.inside.psb.now.pcbs in
    let n : ℕ = c.args.pcb in
    let pcb : View = c.index-views-number.result in
    let within : n ≤ length pcbs = subst (λ (s : SessionState). n ≤ length s.pcbs) (sym c.self.view_is) c.requires.pcb.1 in
    let is : view_of pcbs n ≡ Some pcb = its_view pcbs n pcb c.requires.pcb.0 within (c.index-views-number.is ∙ ap (λ (ps : List View). slice_index_or ps (n - 1) pcb) c.pcbs-views.ensures.pcbs) in
    let own : view_of pcbs n ≡ Some view = subst (λ (s : SessionState). view_of s.pcbs n ≡ Some view) (sym c.self.view_is) seen in
    c.can_be_foretold.ensures ∙ ap (λ (x : View). can_be_foretold x c.args.call.now) (same pcb view (sym is ∙ own))
  where
    same : (x y : View) → Some x ≡ Some y → x ≡ y
    same x y e = cc

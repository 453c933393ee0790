use Rattle.std.proofs.Common.{◌≡◌, ℕ, ◌-◌, ◌≤◌, List, length, false, Some, sym, ap, ◌∙◌, subst}
use Rattle.std.specs.Prelude.{Result, Ok, Err, IfOk, slice_index_or}
use Rattle.std.specs.Result.{is_err}
use Rattle.hd_dbd.specs.Types.{View}
use Rattle.hd_calls.specs.Runs.{view_of}
use Rattle.hd_volume.proofs.CallSteps.{sound-back}
use Rattle.hd_volume.proofs.JoinLemmas.{if-ok-map}
use Rattle.hd_session.specs.Foretelling.{HasOutlook, IsNextForetold}
use Rattle.hd_session.specs.Opening.{SessionState, StandsForState}
use Rattle.hd_session.specs.Replies.{reply_of}
use Rattle.hd_session.proofs.Readables.{found_of, found_anew, same_view}
use Rattle.hd_session.proofs.SessionCalls.{its_view}
use Rattle.hd_session.proofs.Turns.{represents_same}
use Rattle.hd_session.proofs.session.Session.foretell.Goals as goal

-- a fact of an answer, where it is no refusal
ok_fact : {T E P : Type 0} (r : Result T E) → is_err r ≡ false → IfOk r (λ _. P) → P
ok_fact (Ok x) is p = p
ok_fact (Err e) is p = cc

pub foretell_call-told-requires-clause-can : goal.foretell_call-told-requires-clause-can
foretell_call-told-requires-clause-can g c =
    let pcbs : List View = c.self.inside.psb.now.pcbs in
    let n : ℕ = c.args.pcb in
    let pcb : View = c.index-views-number.result in
    let within : n ≤ length pcbs = subst (λ (s : SessionState). n ≤ length s.pcbs) (sym c.self.view_is) c.requires.pcb.1 in
    let is : view_of pcbs n ≡ Some pcb = its_view pcbs n pcb c.requires.pcb.0 within (c.index-views-number.is ∙ ap (λ (ps : List View). slice_index_or ps (n - 1) pcb) c.pcbs-views.ensures.pcbs) in
    c.requires.can pcb (subst (λ (s : SessionState). view_of s.pcbs n ≡ Some pcb) c.self.view_is is)

pub foretell_call-told-requires-clause-readable : goal.foretell_call-told-requires-clause-readable
foretell_call-told-requires-clause-readable g c =
    let d = c.self.inside.dbd.now in
    let pcbs : List View = c.self.inside.psb.now.pcbs in
    let n : ℕ = c.args.pcb in
    let pcb : View = c.index-views-number.result in
    let within : n ≤ length pcbs = subst (λ (s : SessionState). n ≤ length s.pcbs) (sym c.self.view_is) c.requires.pcb.1 in
    let is : view_of pcbs n ≡ Some pcb = its_view pcbs n pcb c.requires.pcb.0 within (c.index-views-number.is ∙ ap (λ (ps : List View). slice_index_or ps (n - 1) pcb) c.pcbs-views.ensures.pcbs) in
    found_of d.types pcbs c.self.inside.readable n pcb c.of-readable.result c.self.invariant.2 is c.of-readable.ensures

pub foretell_call-told-requires-clause-there : goal.foretell_call-told-requires-clause-there
foretell_call-told-requires-clause-there g c =
    subst (λ (s : SessionState). s.broken ≡ false → HasOutlook s.database s.volume c.args.outlook.now) (sym c.self.view_is) c.requires.there c.if-self.false

pub invariant_of-self-else-is_err : goal.invariant_of-self-else-is_err
invariant_of-self-else-is_err g c =
    let d = c.self.inside.dbd.now in
    let pcbs : List View = c.self.inside.psb.now.pcbs in
    let n : ℕ = c.args.pcb in
    let pcb : View = c.index-views-number.result in
    let within : n ≤ length pcbs = subst (λ (s : SessionState). n ≤ length s.pcbs) (sym c.self.view_is) c.requires.pcb.1 in
    let is : view_of pcbs n ≡ Some pcb = its_view pcbs n pcb c.requires.pcb.0 within (c.index-views-number.is ∙ ap (λ (ps : List View). slice_index_or ps (n - 1) pcb) c.pcbs-views.ensures.pcbs) in
    let v = c.self.inside.volume in
    let w = c.foretell_call-told.new.volume in
    let e = c.foretell_call-told.ensures in
    let kept = c.self.invariant.0 in (
      record {
        made_for = kept.made_for;
        program = kept.program;
        size = e.read.call.size ∙ kept.size;
        sizes = e.read.call.sizes ∙ kept.sizes;
        plain = e.read.call.plain kept.plain;
        one_each = kept.one_each;
        stands = λ whole now.
            (let S : StandsForState d v c.self.inside.psb.now.pcbs c.self.inside.positions.items =
            kept.stands whole (sound-back c.foretell_call-told.result v.is_sound w.is_sound e.read.call.sound now) in
            record {
              state = S.state;
              represents = represents_same d v w c.self.inside.positions.items S.state (e.read.image now) e.read.call.size e.read.call.sizes S.represents;
              loaders = S.loaders;
            });
      },
      ok_fact c.foretell_call-told.result (sym c.is_err.ensures.value ∙ c.if-is_err.false) e.known,
      found_anew d.types pcbs n pcb c.foretell_call-told.new.readable is e.readable,
    )

pub returns-else-is_err-clause-foretold : goal.returns-else-is_err-clause-foretold
returns-else-is_err-clause-foretold g c =
    let pcbs : List View = c.self.inside.psb.now.pcbs in
    let n : ℕ = c.args.pcb in
    let pcb : View = c.index-views-number.result in
    let within : n ≤ length pcbs = subst (λ (s : SessionState). n ≤ length s.pcbs) (sym c.self.view_is) c.requires.pcb.1 in
    let is : view_of pcbs n ≡ Some pcb = its_view pcbs n pcb c.requires.pcb.0 within (c.index-views-number.is ∙ ap (λ (ps : List View). slice_index_or ps (n - 1) pcb) c.pcbs-views.ensures.pcbs) in
    let told = c.foretell_call-told.new in
    subst (λ (s : SessionState). IfOk c.foretell_call-told.result (λ a. (view : View) → view_of s.pcbs n ≡ Some view
    → IsNextForetold s.database view c.args.call.now s.volume c.args.outlook.now (reply_of a told.io) told.volume told.outlook)) c.self.view_is
    (if-ok-map c.foretell_call-told.result (λ a next view seen.
    subst (λ (x : View). IsNextForetold c.self.inside.dbd.now x c.args.call.now c.self.inside.volume c.args.outlook.now (reply_of a told.io) told.volume told.outlook)
    (same_view pcb view (sym is ∙ seen)) next) c.foretell_call-told.ensures.foretold)

pub returns-else-is_err-clause-there : goal.returns-else-is_err-clause-there
returns-else-is_err-clause-there g c =
    subst (λ (s : SessionState). IfOk c.foretell_call-told.result (λ x. HasOutlook s.database c.foretell_call-told.new.volume c.foretell_call-told.new.outlook)) c.self.view_is
    c.foretell_call-told.ensures.there

use Rattle.std.proofs.Common.{◌≡◌, ◌≢◌, ℕ, ◌-◌, ◌≤◌, List, length, Some, refl, sym, ap, ◌∙◌, subst}
use Rattle.std.proofs.lemmas.Bool.{false≢true}
use Rattle.std.specs.Prelude.{Result, IfOk, IfErr, slice_index_or}
use Rattle.hd_dbd.specs.Types.{View}
use Rattle.hd_dbd.specs.declared.answer.Refused.{Refused}
use Rattle.hd_dbd.specs.declared.answer.Refused.TheVariants.{Device}
use Rattle.hd_calls.specs.Runs.{view_of}
use Rattle.hd_position.specs.Kept.{Kept}
use Rattle.hd_update.specs.Loading.{HasPassedAll}
use Rattle.hd_session.specs.declared.call_and_answer.Answer.{Answer}
use Rattle.hd_session.specs.Opening.{SessionState, StandsForState}
use Rattle.hd_session.specs.LastGiven.{AreKeysOf}
use Rattle.hd_session.proofs.KeysKnown.{nothing_known}
use Rattle.hd_session.proofs.Readables.{found_of, found_anew}
use Rattle.hd_session.specs.Sessions.{IsMemoryLacking, call_in}
use Rattle.hd_session.proofs.SessionCalls.{IsStepOf, its_view, kept_is, loader_past, may_lack, call_logged, stands_behind}
use Rattle.hd_session.proofs.session.Session.call.Goals as goal

pub call_step-answered-requires-clause-loader : goal.call_step-answered-requires-clause-loader
call_step-answered-requires-clause-loader g c loader =
    let d = c.self.inside.dbd.now in
    let pcbs : List View = c.self.inside.psb.now.pcbs in
    let n : ℕ = c.args.pcb in
    let pcb : View = c.index-pcbs-number.result in
    let old : List Kept = c.self.inside.positions.items in
    let within : n ≤ length pcbs = subst (λ (s : SessionState). n ≤ length s.pcbs) (sym c.self.view_is) c.requires.pcb.1 in
    let is : view_of pcbs n ≡ Some pcb = its_view pcbs n pcb c.requires.pcb.0 within (c.index-pcbs-number.is ∙ ap (λ (ps : List View). slice_index_or ps (n - 1) pcb) c.pcbs-pcbs.ensures.pcbs) in
    subst (λ (ks : List Kept). HasPassedAll d c.self.inside.volume ks n) (sym c.deref_mut.ensures.value)
    (loader_past d c.self.inside.volume pcbs old n pcb is (c.self.invariant.0.stands c.if-self.false) loader)

pub call_step-answered-requires-clause-readable : goal.call_step-answered-requires-clause-readable
call_step-answered-requires-clause-readable g c =
    let d = c.self.inside.dbd.now in
    let pcbs : List View = c.self.inside.psb.now.pcbs in
    let n : ℕ = c.args.pcb in
    let pcb : View = c.index-pcbs-number.result in
    let within : n ≤ length pcbs = subst (λ (s : SessionState). n ≤ length s.pcbs) (sym c.self.view_is) c.requires.pcb.1 in
    let is : view_of pcbs n ≡ Some pcb = its_view pcbs n pcb c.requires.pcb.0 within (c.index-pcbs-number.is ∙ ap (λ (ps : List View). slice_index_or ps (n - 1) pcb) c.pcbs-pcbs.ensures.pcbs) in
    found_of d.types pcbs c.self.inside.readable n pcb c.of-readable.result c.self.invariant.2 is c.of-readable.ensures

-- where a refusal is no failed access, the session stands for a state
pub invariant_of-self : goal.invariant_of-self
invariant_of-self g c =
    let d = c.self.inside.dbd.now in
    let pcbs : List View = c.self.inside.psb.now.pcbs in
    let n : ℕ = c.args.pcb in
    let pcb : View = c.index-pcbs-number.result in
    let old : List Kept = c.self.inside.positions.items in
    let within : n ≤ length pcbs = subst (λ (s : SessionState). n ≤ length s.pcbs) (sym c.self.view_is) c.requires.pcb.1 in
    let is : view_of pcbs n ≡ Some pcb = its_view pcbs n pcb c.requires.pcb.0 within (c.index-pcbs-number.is ∙ ap (λ (ps : List View). slice_index_or ps (n - 1) pcb) c.pcbs-pcbs.ensures.pcbs) in
    let r = c.call_step-answered.result in
    let w = c.call_step-answered.new.volume in
    let new : List Kept = c.call_step-answered.new.positions in
    let io = c.call_step-answered.new.io in
    let e = c.call_step-answered.ensures in
    let S : IsStepOf d pcb n c.args.call.now c.self.inside.volume old r io w new
    = subst (λ (ks : List Kept). IsStepOf d pcb n c.args.call.now c.self.inside.volume ks r io w new) c.deref_mut.ensures.value
    (record { done = e.done; undone = e.undone; area = e.area; full = e.full; refusal = e.refusal; sound = e.call.sound; size = e.call.size; sizes = e.call.sizes }) in
    let same = kept_is c.self.inside.positions.len new old (e.many ∙ c.deref_mut.ensures.len) c.self.inside.positions.ok.0 in
    let kept = c.self.invariant.0 in (
      record {
        made_for = kept.made_for;
        program = kept.program;
        size = e.call.size ∙ kept.size;
        sizes = e.call.sizes ∙ kept.sizes;
        plain = e.call.plain kept.plain;
        one_each = ap (λ (ks : List Kept). length ks) same ∙ e.many ∙ ap (λ (ks : List Kept). length ks) c.deref_mut.ensures.value ∙ kept.one_each;
        stands = λ whole now.
            subst (λ (ks : List Kept). StandsForState d w pcbs ks) (sym same)
            (stands_behind d pcbs pcb n c.args.call.now c.self.inside.volume old io w new is c.self.inside.psb.now.made_for r kept.program kept.one_each S
            (subst (λ (x : Result Answer Refused). IfErr x (λ y. y ≢ Device)) (sym c.in-Err.is) (λ device. false≢true (sym whole ∙ (c.eq-self-inside.ensures ∙ rw device refl)))) now (kept.stands c.if-self.false));
      },
      nothing_known d w c.forget.new.self c.forget.ensures,
      found_anew d.types pcbs n pcb c.call_step-answered.new.readable is e.readable,
    )

pub invariant_of-self-in_default : goal.invariant_of-self-in_default
invariant_of-self-in_default g c =
    let d = c.self.inside.dbd.now in
    let pcbs : List View = c.self.inside.psb.now.pcbs in
    let n : ℕ = c.args.pcb in
    let pcb : View = c.index-pcbs-number.result in
    let old : List Kept = c.self.inside.positions.items in
    let within : n ≤ length pcbs = subst (λ (s : SessionState). n ≤ length s.pcbs) (sym c.self.view_is) c.requires.pcb.1 in
    let is : view_of pcbs n ≡ Some pcb = its_view pcbs n pcb c.requires.pcb.0 within (c.index-pcbs-number.is ∙ ap (λ (ps : List View). slice_index_or ps (n - 1) pcb) c.pcbs-pcbs.ensures.pcbs) in
    let r = c.call_step-answered.result in
    let w = c.call_step-answered.new.volume in
    let new : List Kept = c.call_step-answered.new.positions in
    let io = c.call_step-answered.new.io in
    let e = c.call_step-answered.ensures in
    let S : IsStepOf d pcb n c.args.call.now c.self.inside.volume old r io w new
    = subst (λ (ks : List Kept). IsStepOf d pcb n c.args.call.now c.self.inside.volume ks r io w new) c.deref_mut.ensures.value
    (record { done = e.done; undone = e.undone; area = e.area; full = e.full; refusal = e.refusal; sound = e.call.sound; size = e.call.size; sizes = e.call.sizes }) in
    let same = kept_is c.self.inside.positions.len new old (e.many ∙ c.deref_mut.ensures.len) c.self.inside.positions.ok.0 in
    let kept = c.self.invariant.0 in (
      record {
        made_for = kept.made_for;
        program = kept.program;
        size = e.call.size ∙ kept.size;
        sizes = e.call.sizes ∙ kept.sizes;
        plain = e.call.plain kept.plain;
        one_each = ap (λ (ks : List Kept). length ks) same ∙ e.many ∙ ap (λ (ks : List Kept). length ks) c.deref_mut.ensures.value ∙ kept.one_each;
        stands = λ whole now.
            subst (λ (ks : List Kept). StandsForState d w pcbs ks) (sym same)
            (stands_behind d pcbs pcb n c.args.call.now c.self.inside.volume old io w new is c.self.inside.psb.now.made_for r kept.program kept.one_each S
            (subst (λ (x : Result Answer Refused). IfErr x (λ y. y ≢ Device)) (sym c.in_default.is) tt) now (kept.stands c.if-self.false));
      },
      subst (λ (x : Result Answer Refused). IfOk x (λ _. AreKeysOf d w c.call_step-answered.new.last_given)) c.in_default.is e.known,
      found_anew d.types pcbs n pcb c.call_step-answered.new.readable is e.readable,
    )

pub returns-in-Err-clause-logged : goal.returns-in-Err-clause-logged
returns-in-Err-clause-logged g c =
    let d = c.self.inside.dbd.now in
    let pcbs : List View = c.self.inside.psb.now.pcbs in
    let n : ℕ = c.args.pcb in
    let pcb : View = c.index-pcbs-number.result in
    let old : List Kept = c.self.inside.positions.items in
    let within : n ≤ length pcbs = subst (λ (s : SessionState). n ≤ length s.pcbs) (sym c.self.view_is) c.requires.pcb.1 in
    let is : view_of pcbs n ≡ Some pcb = its_view pcbs n pcb c.requires.pcb.0 within (c.index-pcbs-number.is ∙ ap (λ (ps : List View). slice_index_or ps (n - 1) pcb) c.pcbs-pcbs.ensures.pcbs) in
    let r = c.call_step-answered.result in
    let w = c.call_step-answered.new.volume in
    let new : List Kept = c.call_step-answered.new.positions in
    let io = c.call_step-answered.new.io in
    let e = c.call_step-answered.ensures in
    let S : IsStepOf d pcb n c.args.call.now c.self.inside.volume old r io w new
    = subst (λ (ks : List Kept). IsStepOf d pcb n c.args.call.now c.self.inside.volume ks r io w new) c.deref_mut.ensures.value
    (record { done = e.done; undone = e.undone; area = e.area; full = e.full; refusal = e.refusal; sound = e.call.sound; size = e.call.size; sizes = e.call.sizes }) in
    let same = kept_is c.self.inside.positions.len new old (e.many ∙ c.deref_mut.ensures.len) c.self.inside.positions.ok.0 in
    call_logged d pcbs c.self.inside.volume old c.self.inside.broken c.args.self.now c.self.view_is pcb n c.args.call.now r io w new _ is S same

pub returns-in_default-clause-logged : goal.returns-in_default-clause-logged
returns-in_default-clause-logged g c =
    let d = c.self.inside.dbd.now in
    let pcbs : List View = c.self.inside.psb.now.pcbs in
    let n : ℕ = c.args.pcb in
    let pcb : View = c.index-pcbs-number.result in
    let old : List Kept = c.self.inside.positions.items in
    let within : n ≤ length pcbs = subst (λ (s : SessionState). n ≤ length s.pcbs) (sym c.self.view_is) c.requires.pcb.1 in
    let is : view_of pcbs n ≡ Some pcb = its_view pcbs n pcb c.requires.pcb.0 within (c.index-pcbs-number.is ∙ ap (λ (ps : List View). slice_index_or ps (n - 1) pcb) c.pcbs-pcbs.ensures.pcbs) in
    let r = c.call_step-answered.result in
    let w = c.call_step-answered.new.volume in
    let new : List Kept = c.call_step-answered.new.positions in
    let io = c.call_step-answered.new.io in
    let e = c.call_step-answered.ensures in
    let S : IsStepOf d pcb n c.args.call.now c.self.inside.volume old r io w new
    = subst (λ (ks : List Kept). IsStepOf d pcb n c.args.call.now c.self.inside.volume ks r io w new) c.deref_mut.ensures.value
    (record { done = e.done; undone = e.undone; area = e.area; full = e.full; refusal = e.refusal; sound = e.call.sound; size = e.call.size; sizes = e.call.sizes }) in
    let same = kept_is c.self.inside.positions.len new old (e.many ∙ c.deref_mut.ensures.len) c.self.inside.positions.ok.0 in
    call_logged d pcbs c.self.inside.volume old c.self.inside.broken c.args.self.now c.self.view_is pcb n c.args.call.now r io w new _ is S same

pub returns-in-Err-clause-memory : goal.returns-in-Err-clause-memory
returns-in-Err-clause-memory g c memory =
    let d = c.self.inside.dbd.now in
    let pcbs : List View = c.self.inside.psb.now.pcbs in
    let n : ℕ = c.args.pcb in
    let pcb : View = c.index-pcbs-number.result in
    let within : n ≤ length pcbs = subst (λ (s : SessionState). n ≤ length s.pcbs) (sym c.self.view_is) c.requires.pcb.1 in
    let is : view_of pcbs n ≡ Some pcb = its_view pcbs n pcb c.requires.pcb.0 within (c.index-pcbs-number.is ∙ ap (λ (ps : List View). slice_index_or ps (n - 1) pcb) c.pcbs-pcbs.ensures.pcbs) in
    let r : Result Answer Refused = c.call_step-answered.result in
    may_lack d pcbs c.self.inside.volume c.self.inside.positions.items c.self.inside.broken c.args.self.now c.self.view_is pcb n c.args.call.now r is (λ other few.
    subst (λ (ks : List Kept). IfErr r (λ e. IsMemoryLacking d c.self.inside.volume ks (call_in d pcb n c.args.call.now) e)) c.deref_mut.ensures.value
    (c.call_step-answered.ensures.memory other few)) memory

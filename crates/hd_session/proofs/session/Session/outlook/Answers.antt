use Rattle.std.proofs.Common.{◌≡◌, ℕ, ◌-◌, ◌≤◌, List, [], ◌∷◌, length, false, sym, ap, ◌∙◌, subst, arith}
use Rattle.std.specs.Prelude.{slice_index_or}
use Rattle.hd_calls.specs.Steps.{State, position_at}
use Rattle.hd_position.specs.Kept.{Kept}
use Rattle.hd_update.specs.States.{Represents}
use Rattle.hd_session.specs.Opening.{SessionState, StandsForState}
use Rattle.hd_session.specs.Foretelling.{StandsOver, HasOutlook}
use Rattle.hd_session.proofs.Foretelling.{one_stands}
use Rattle.hd_session.proofs.session.Session.outlook.Goals as goal

pub returns-clause-stands : goal.returns-clause-stands
returns-clause-stands g c =
    let n : ℕ = c.args.pcb in
    let kept : List Kept = c.self.inside.positions.items in
    let k : Kept = c.copy.result in
    let within : n ≤ length c.self.inside.psb.now.pcbs = subst (λ (s : SessionState). n ≤ length s.pcbs) (sym c.self.view_is) c.requires.pcb.1 in
    let each : length kept ≡ length c.self.inside.psb.now.pcbs = c.self.invariant.0.one_each in
    let is : k ≡ slice_index_or kept (n - 1) k = c.copy.ensures ∙ c.index.ensures ∙ ap (λ (x : Kept). slice_index_or kept (n - 1) x) (sym c.copy.ensures) in
    subst (λ (s : SessionState). (st : State) → Represents s.database s.volume s.kept st → StandsOver s.database s.volume (k ∷ []) st.rows (position_at st n)) c.self.view_is
    (λ st R. one_stands c.self.inside.dbd.now c.self.inside.volume kept st n k c.requires.pcb.0 (omega (arith, within, each)) is R)

pub returns-clause-outlook : goal.returns-clause-outlook
returns-clause-outlook g c =
    let n : ℕ = c.args.pcb in
    let kept : List Kept = c.self.inside.positions.items in
    let k : Kept = c.copy.result in
    let within : n ≤ length c.self.inside.psb.now.pcbs = subst (λ (s : SessionState). n ≤ length s.pcbs) (sym c.self.view_is) c.requires.pcb.1 in
    let each : length kept ≡ length c.self.inside.psb.now.pcbs = c.self.invariant.0.one_each in
    let is : k ≡ slice_index_or kept (n - 1) k = c.copy.ensures ∙ c.index.ensures ∙ ap (λ (x : Kept). slice_index_or kept (n - 1) x) (sym c.copy.ensures) in
    subst (λ (s : SessionState). s.broken ≡ false → HasOutlook s.database s.volume (k ∷ [])) c.self.view_is
    (λ whole sound.
    (let S : StandsForState c.self.inside.dbd.now c.self.inside.volume c.self.inside.psb.now.pcbs kept = c.self.invariant.0.stands whole sound in
    (S.state.rows, position_at S.state n, one_stands c.self.inside.dbd.now c.self.inside.volume kept S.state n k c.requires.pcb.0 (omega (arith, within, each)) is S.represents)))

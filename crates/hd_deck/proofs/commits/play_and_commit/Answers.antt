use Rattle.std.proofs.Common.{◌≡◌, ◌∷◌, [], ◌++◌, List, Result, Err, ℕ, ap, sym, ◌∙◌, subst}
use Rattle.std.specs.Prelude.{IfErr}
use Rattle.std.proofs.lemmas.Result.{err_from_is_err_and}
use Rattle.hd_session.specs.Opening.{SessionState}
use Rattle.hd_session.specs.Turns.{Turn}
use Rattle.hd_session.specs.Requests.{Request, ask}
use Rattle.hd_deck.specs.declared.plays.Stop.{Stop}
use Rattle.hd_deck.specs.declared.plays.Stop.TheVariants as stop
use Rattle.hd_deck.specs.Commits.{commit_behind, requests_from, PlaysRequests, DoesUntil}
use Rattle.hd_deck.proofs.Requests.{requests_of_one, requested_call, requested_then_due, stopped_call, broken_behind}
use Rattle.hd_deck.proofs.commits.play_and_commit.Goals as goal

pub returns-in_err-lacking-clause-until : goal.returns-in_err-lacking-clause-until
returns-in_err-lacking-clause-until g c =
    let turn : Turn = record { pcb = c.args.pcb; call = c.args.call.now } in
    let s : SessionState = c.args.session.now in
    let t : SessionState = c.play_call.new.session in
    let e : Stop = c.in_err-lacking.field-0.0 in
    let p = err_from_is_err_and c.from_residual.result c.from_residual.ensures.1 in
    subst (λ (r : Result ℕ Stop). IfErr r (λ e. DoesUntil s (requests_from c.args.every c.args.number (turn ∷ [])) e t)) (sym (p.1 ∙ ap Err p.2))
    (subst (λ (rs : List Request). DoesUntil s rs e t) (sym (requests_of_one c.args.every c.args.number turn))
    (stopped_call s t turn (commit_behind c.args.every c.args.number) e c.requires.whole c.in_err-lacking.ensures.committed c.in_err-lacking.ensures.until))

pub returns-in_err-commit_if_due-clause-until : goal.returns-in_err-commit_if_due-clause-until
returns-in_err-commit_if_due-clause-until g c =
    let turn : Turn = record { pcb = c.args.pcb; call = c.args.call.now } in
    let s : SessionState = c.args.session.now in
    let m : SessionState = c.play_call.new.session in
    let t : SessionState = c.commit_if_due.new.session in
    let e : Stop = c.in_err-commit_if_due.field-0.0 in
    let p = err_from_is_err_and c.from_residual-in_err-commit_if_due.result c.from_residual-in_err-commit_if_due.ensures.1 in
    subst (λ (r : Result ℕ Stop). IfErr r (λ e. DoesUntil s (requests_from c.args.every c.args.number (turn ∷ [])) e t)) (sym (p.1 ∙ ap Err (p.2 ∙ c.in_err-commit_if_due.ensures.device)))
    (subst (λ (rs : List Request). DoesUntil s rs stop.Device t) (sym (requests_of_one c.args.every c.args.number turn))
    (broken_behind s m t (ask turn ∷ []) (commit_behind c.args.every c.args.number) c.args.number (g.W.Write.contents c.args.out.now) (g.W.Write.contents c.play_call.new.out) c.in_ok-lacking.lacking
    (requested_call s m turn c.args.number (g.W.Write.contents c.args.out.now) (g.W.Write.contents c.play_call.new.out) c.in_ok-lacking.lacking c.in_ok-lacking.ensures.committed c.in_ok-lacking.ensures.plays) c.in_err-commit_if_due.ensures.fails))

pub returns-clause-plays : goal.returns-clause-plays
returns-clause-plays g c =
    let turn : Turn = record { pcb = c.args.pcb; call = c.args.call.now } in
    let s : SessionState = c.args.session.now in
    let m : SessionState = c.play_call.new.session in
    let t : SessionState = c.commit_if_due.new.session in
    subst (λ (rs : List Request). PlaysRequests s rs c.args.number (g.W.Write.contents c.args.out.now) (g.W.Write.contents c.play_call.new.out) c.in_ok-lacking.lacking t)
    (sym (requests_of_one c.args.every c.args.number turn))
    (requested_then_due s m t (ask turn ∷ []) (commit_behind c.args.every c.args.number) c.args.number (g.W.Write.contents c.args.out.now) (g.W.Write.contents c.play_call.new.out) c.in_ok-lacking.lacking
    (requested_call s m turn c.args.number (g.W.Write.contents c.args.out.now) (g.W.Write.contents c.play_call.new.out) c.in_ok-lacking.lacking c.in_ok-lacking.ensures.committed c.in_ok-lacking.ensures.plays)
    c.in_ok-commit_if_due.ensures.commits)

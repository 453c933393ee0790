-- One call of a session, as it is made, printed and counted.
use Rattle.std.proofs.Common.{◌≡◌, ℕ, List, [], ◌∷◌, ◌++◌, false, Option, Some, None, Result, Ok, Err, arith, ap, ap₂, sym, ◌∙◌, subst, refl}
use Rattle.std.specs.Prelude.{unwrap_or, IfOk}
use Rattle.std.specs.Result.{is_err}
use Rattle.std.specs.Io.KnownBytes.{Appends}
use Rattle.std.proofs.lemmas.List.{append-nil}
use Rattle.hd_dbd.specs.declared.answer.Refused.{Refused}
use Rattle.hd_dbd.specs.declared.answer.Refused.TheVariants as refused
use Rattle.hd_dbd.specs.Calls.{CallText}
use Rattle.hd_dbd.specs.Logs.{Outcome, replied, area, full, memory}
use Rattle.hd_session.specs.declared.call_and_answer.Answer.{Answer}
use Rattle.hd_session.specs.Buffer.{Buffer}
use Rattle.hd_session.specs.Replies.{reply_of}
use Rattle.hd_session.specs.Opening.{SessionState}
use Rattle.hd_session.specs.Logged.{outcome_of}
use Rattle.hd_session.specs.Turns.{Turn, IsTurnAnswered, entry_of}
use Rattle.hd_session.proofs.Turns.{made_none, made_one}
use Rattle.hd_deck.specs.StepText.{StepText}
use Rattle.hd_deck.specs.Printing.{head_text, outcome_text, answered_text, line_of}
use Rattle.hd_deck.specs.Runs.{memory_of, memory_in, ArePlayed, PlaysAll, PlaysUntil}
use Rattle.hd_deck.specs.declared.plays.Stop.TheVariants as stop

-- known bytes grow by nothing
pub appends_none : (a : Option (List ℕ)) → Appends a a []
appends_none None = tt
appends_none (Some u) = sym (append-nil u)

-- no call was made
pub played_none : (s : SessionState) (number : ℕ) (a : Option (List ℕ)) → s.broken ≡ false → PlaysAll s [] number a a 0 s
played_none s number a whole = λ st sound stands. record { entries = []; made = made_none s st whole stands; printed = appends_none a; memory = refl }

module _ (s t : SessionState) (turn : Turn) (b : Buffer) (number lacking : ℕ) (old new : Option (List ℕ)) where
  played_one : (result : Result Answer Refused) (o : Outcome) → outcome_of result b ≡ Some o → answered_text result b ≡ outcome_text o → memory_of result ≡ Some (memory_in (entry_of s turn o ∷ []))
      → IsTurnAnswered s turn result b t → memory_of result ≡ Some lacking → Appends old new (head_text number turn.pcb turn.call.function ++ answered_text result b)
      → PlaysAll s (turn ∷ []) number old new lacking t
  played_one result o is text count answered few printed = λ st sound stands. record {
    entries = entry_of s turn o ∷ [];
    made = made_one s t turn b st result o sound stands answered is;
    printed = subst (λ (ts : List ℕ). Appends old new ts)
        (ap (λ (ts : List ℕ). head_text number turn.pcb turn.call.function ++ ts) text ∙ sym (append-nil (line_of number (entry_of s turn o)))) printed;
    memory = ap (λ (n : Option ℕ). unwrap_or n 0) (sym few ∙ count);
  }

  -- a call that came to no failed access is played
  pub plays_one : (result : Result Answer Refused) → IsTurnAnswered s turn result b t → memory_of result ≡ Some lacking
      → Appends old new (head_text number turn.pcb turn.call.function ++ answered_text result b) → PlaysAll s (turn ∷ []) number old new lacking t
  plays_one (Ok a) answered few printed = played_one (Ok a) (replied (reply_of a b)) refl refl refl answered few printed
  plays_one (Err refused.Memory) answered few printed = played_one (Err refused.Memory) memory refl refl refl answered few printed
  plays_one (Err refused.Full) answered few printed = played_one (Err refused.Full) full refl refl refl answered few printed
  plays_one (Err refused.Device) answered few printed = cc
  plays_one (Err refused.Broken) answered few printed = cc
  plays_one (Err refused.Area) answered few printed = played_one (Err refused.Area) area refl refl refl answered few printed

-- and it is made, whatever was written
pub made_before_write : (s t : SessionState) (turn : Turn) (b : Buffer) (lacking : ℕ) (result : Result Answer Refused) → IsTurnAnswered s turn result b t → memory_of result ≡ Some lacking
    → PlaysUntil s (turn ∷ []) stop.Write t
made_before_write s t turn b lacking result answered few = λ st sound stands.
    let p : ArePlayed s st (turn ∷ []) 1 None None lacking t = plays_one s t turn b 1 lacking None None result answered few tt st sound stands in
    record { count = 1; some = omega arith; entries = p.entries; made = p.made }

-- ---- the call of a step

-- what holds of a result that is no error
pub if_ok : {A E : Type 0} (r : Result A E) {P : Type 0} → false ≡ is_err r → IfOk r (λ _. P) → P
if_ok (Ok x) is p = p
if_ok (Err e) is p = cc

-- a step is what its fields say, and the call that was made of it
pub step_made : (s v : StepText) (call : CallText) → v ≡ s → call ≡ s.call → record { pcb = v.pcb; repeat = v.repeat; call = call } ≡ s
step_made s v call view made =
    ap (λ (t : CallText). record { pcb = v.pcb; repeat = v.repeat; call = t }) made
    ∙ ap₂ (λ (p k : ℕ). record { pcb = p; repeat = k; call = s.call }) (ap (λ (r : StepText). r.pcb) view) (ap (λ (r : StepText). r.repeat) view)

-- none of the calls was made
pub none_made : (s : SessionState) (turns : List Turn) → s.broken ≡ false → PlaysUntil s turns stop.Write s
none_made s turns whole = λ st sound stands. record { count = 0; some = omega arith; entries = []; made = made_none s st whole stands }

use Rattle.std.proofs.Common.{◌≡◌, ℕ, suc, ◌+◌, ◌-◌, ◌<◌, ◌≤◌, List, ◌++◌, length, true, false, Option, Some, None, arith, ap, sym, ◌∙◌, subst, refl}
use Rattle.std.specs.Prelude.{not, is_none, is_some, unwrap_or, replicate}
use Rattle.std.proofs.lemmas.Bool.{leb-true, leb-false}
use Rattle.hd_dbd.specs.Hierarchy.{Database}
use Rattle.hd_dbd.specs.Calls.{Reply}
use Rattle.hd_position.specs.Kept.{Kept}
use Rattle.hd_session.specs.Opening.{SessionState}
use Rattle.hd_session.specs.Replies.{reply_of}
use Rattle.hd_session.specs.Turns.{Turn}
use Rattle.hd_session.specs.Foretelling.{can_be_foretold, HasOutlook, IsNextForetold, IsOnlyRead}
use Rattle.hd_serve.specs.Frames.{frame_bytes}
use Rattle.hd_serve.specs.Answers.{answer_bytes, TOLD_ROOM}
use Rattle.hd_serve.specs.Serves.{GathersTold}
use Rattle.hd_serve.proofs.Closing.{on_ok}
use Rattle.hd_serve.proofs.OneRequest.{does_foretell}
use Rattle.hd_serve.proofs.Answers.{frame-long}
use Rattle.hd_serve.proofs.Gathering.{Gathers, only_none, only_more, view_there, next_of_first, gathers_none, gathered_nothing, gathered_all, gathered_full, gathered_last, gathers_more}
use Rattle.hd_serve.proofs.foretold.gather.Goals as goal

pub returns-then-not-can_foretell-clause-gathers : goal.returns-then-not-can_foretell-clause-gathers
returns-then-not-can_foretell-clause-gathers g c =
    let s : SessionState = c.args.session.now in
    let seen = view_there s.pcbs c.args.pcb c.requires.pcb.0 c.requires.pcb.1 in
    gathered_nothing s (record { pcb = c.args.pcb; call = c.args.call.now }) c.args.count c.args.line.now.items seen.0 seen.1
    (sym (c.can_foretell.ensures seen.0 seen.1) ∙ c.if-not-can_foretell.true) (only_none s c.requires.whole)

pub answers-init : goal.answers-init
answers-init g c =
    let s : SessionState = c.args.session.now in
    let t : Turn = record { pcb = c.args.pcb; call = c.args.call.now } in
    let all : c.args.count ≡ c.args.count - 0 = omega arith in
    record {
      gathers = subst (λ (k : ℕ). Gathers s t c.args.count c.args.line.now.items c.args.line.now.items c.outlook-outlook.result k s) all
          (gathers_none s t c.args.count c.args.line.now.items c.outlook-outlook.result (only_none s c.requires.whole) (λ st sound stands. c.outlook-outlook.ensures.stands st stands));
      there = c.outlook-outlook.ensures.outlook c.requires.whole;
      room = refl;
    }

none_given : {A : Type 0} (o : Option A) → is_some o ≡ false → is_none o ≡ true
none_given None is = refl
none_given (Some x) is = cc

some_given : {A : Type 0} (o : Option A) → is_some o ≡ true → is_none o ≡ false
some_given None is = cc
some_given (Some x) is = refl

-- so many times more, where it is asked once more
left-over : (n k : ℕ) → k < n → n - k ≡ suc (n - (k + 1))
left-over n k below = omega (arith, below)

pub returns-then-not-has_room-clause-gathers : goal.returns-then-not-has_room-clause-gathers
returns-then-not-has_room-clause-gathers g c =
    let s : SessionState = c.args.session.now in
    let m : SessionState = c.answers.session in
    let t : SessionState = c.foretell.new.self in
    let turn : Turn = record { pcb = c.args.pcb; call = c.args.call.now } in
    let n : ℕ = c.args.count in
    let head : List ℕ = c.args.line.now.items in
    let line : List ℕ = c.answers.line.items in
    let old : List Kept = c.answers.outlook in
    let new : List Kept = c.foretell.new.outlook in
    let left : ℕ = n - (c.answers.counter + 1) in
    let seen = view_there s.pcbs c.args.pcb c.requires.pcb.0 c.requires.pcb.1 in
    let reply : Reply = reply_of c.in-Ok.answer c.foretell.new.io in
    let before : Gathers s turn n head line old (suc left) m =
    subst (λ (k : ℕ). Gathers s turn n head line old k m) (left-over n c.answers.counter c.answers-test.true) c.answers.invariant.gathers in
    let only : IsOnlyRead s t = only_more s m t c.foretell.result c.in-Ok.answer c.in-Ok.is before.only c.foretell.ensures.read c.foretell.ensures.same in
    let can : can_be_foretold seen.0 c.args.call.now ≡ true = sym (c.can_foretell.ensures seen.0 seen.1) ∙ c.if-not-can_foretell.false in
    let next : IsNextForetold s.database seen.0 c.args.call.now m.volume old reply t.volume new =
    next_of_first s m seen.0 c.args.pcb c.args.call.now old reply t.volume new seen.1 before.only c.in-Ok.ensures.foretold in
    let name : length c.segment_text.result.now ≡ length (unwrap_or c.in-Ok.answer.segment (replicate 8 32)) = ap length c.segment_text.ensures.text in
    let more : ℕ = 10 + length c.segment_text.result.now + (length c.foretell.new.io.key + length c.foretell.new.io.area) in
    let size : length (frame_bytes (answer_bytes reply)) ≡ more =
    frame-long reply ∙ ap (λ (k : ℕ). 10 + k + (length c.foretell.new.io.key + length c.foretell.new.io.area)) (sym name) in
    let at : length c.deref.result.now ≡ length line = ap length c.deref.ensures.value in
    let key : length c.key.result.now ≡ length c.foretell.new.io.key = ap length c.key.ensures in
    let area : length c.area.result.now ≡ length c.foretell.new.io.area = ap length c.area.ensures in
    let raw : 5 + TOLD_ROOM < length c.deref.result.now + (10 + length c.segment_text.result.now + (length c.key.result.now + length c.area.result.now)) = leb-false (length c.deref.result.now + (10 + length c.segment_text.result.now + (length c.key.result.now + length c.area.result.now))) (5 + TOLD_ROOM) (sym c.has_room.ensures ∙ c.if-not-has_room.true) in
    let over : 5 + TOLD_ROOM < length line + more = omega (arith, raw, at, key, area) in
    gathered_full s turn n head seen.0 seen.1 m t line old new left before can reply next only (omega (arith, over, size, c.requires.head, before.few))

pub returns-then-is_none-clause-gathers : goal.returns-then-is_none-clause-gathers
returns-then-is_none-clause-gathers g c =
    let s : SessionState = c.args.session.now in
    let m : SessionState = c.answers.session in
    let t : SessionState = c.foretell.new.self in
    let turn : Turn = record { pcb = c.args.pcb; call = c.args.call.now } in
    let n : ℕ = c.args.count in
    let head : List ℕ = c.args.line.now.items in
    let line : List ℕ = c.answers.line.items in
    let old : List Kept = c.answers.outlook in
    let new : List Kept = c.foretell.new.outlook in
    let left : ℕ = n - (c.answers.counter + 1) in
    let seen = view_there s.pcbs c.args.pcb c.requires.pcb.0 c.requires.pcb.1 in
    let reply : Reply = reply_of c.in-Ok.answer c.foretell.new.io in
    let before : Gathers s turn n head line old (suc left) m =
    subst (λ (k : ℕ). Gathers s turn n head line old k m) (left-over n c.answers.counter c.answers-test.true) c.answers.invariant.gathers in
    let only : IsOnlyRead s t = only_more s m t c.foretell.result c.in-Ok.answer c.in-Ok.is before.only c.foretell.ensures.read c.foretell.ensures.same in
    let can : can_be_foretold seen.0 c.args.call.now ≡ true = sym (c.can_foretell.ensures seen.0 seen.1) ∙ c.if-not-can_foretell.false in
    let next : IsNextForetold s.database seen.0 c.args.call.now m.volume old reply t.volume new =
    next_of_first s m seen.0 c.args.pcb c.args.call.now old reply t.volume new seen.1 before.only c.in-Ok.ensures.foretold in
    let name : length c.segment_text.result.now ≡ length (unwrap_or c.in-Ok.answer.segment (replicate 8 32)) = ap length c.segment_text.ensures.text in
    let more : ℕ = 10 + length c.segment_text.result.now + (length c.foretell.new.io.key + length c.foretell.new.io.area) in
    let size : length (frame_bytes (answer_bytes reply)) ≡ more =
    frame-long reply ∙ ap (λ (k : ℕ). 10 + k + (length c.foretell.new.io.key + length c.foretell.new.io.area)) (sym name) in
    let at : length c.deref.result.now ≡ length line = ap length c.deref.ensures.value in
    let key : length c.key.result.now ≡ length c.foretell.new.io.key = ap length c.key.ensures in
    let area : length c.area.result.now ≡ length c.foretell.new.io.area = ap length c.area.ensures in
    let raw : length c.deref.result.now + (10 + length c.segment_text.result.now + (length c.key.result.now + length c.area.result.now)) ≤ 5 + TOLD_ROOM = leb-true (length c.deref.result.now + (10 + length c.segment_text.result.now + (length c.key.result.now + length c.area.result.now))) (5 + TOLD_ROOM) (sym c.has_room.ensures ∙ c.if-not-has_room.false) in
    let within : length line + more ≤ 5 + TOLD_ROOM = omega (arith, raw, at, key, area) in
    let pushed : c.add_answer.new.line.items ≡ line ++ frame_bytes (answer_bytes reply) = on_ok c.add_answer.result c.if-is_err.ensures.value c.add_answer.ensures in
    let fits : length (frame_bytes (answer_bytes reply)) ≤ length head + TOLD_ROOM - length line = omega (arith, within, size, c.requires.head, before.few) in
    let none : is_none reply.segment ≡ true = none_given c.in-Ok.answer.segment (c.is_none.ensures ∙ ap not c.if-is_none.true) in
    subst (λ (xs : List ℕ). GathersTold s turn n head xs t) (sym pushed) (gathered_last s turn n head seen.0 seen.1 m t line old new left before can reply next only fits none)

pub answers-preserved : goal.answers-preserved
answers-preserved g c =
    let s : SessionState = c.args.session.now in
    let m : SessionState = c.answers.session in
    let t : SessionState = c.foretell.new.self in
    let turn : Turn = record { pcb = c.args.pcb; call = c.args.call.now } in
    let n : ℕ = c.args.count in
    let head : List ℕ = c.args.line.now.items in
    let line : List ℕ = c.answers.line.items in
    let old : List Kept = c.answers.outlook in
    let new : List Kept = c.foretell.new.outlook in
    let left : ℕ = n - (c.answers.counter + 1) in
    let seen = view_there s.pcbs c.args.pcb c.requires.pcb.0 c.requires.pcb.1 in
    let reply : Reply = reply_of c.in-Ok.answer c.foretell.new.io in
    let before : Gathers s turn n head line old (suc left) m =
    subst (λ (k : ℕ). Gathers s turn n head line old k m) (left-over n c.answers.counter c.answers-test.true) c.answers.invariant.gathers in
    let only : IsOnlyRead s t = only_more s m t c.foretell.result c.in-Ok.answer c.in-Ok.is before.only c.foretell.ensures.read c.foretell.ensures.same in
    let can : can_be_foretold seen.0 c.args.call.now ≡ true = sym (c.can_foretell.ensures seen.0 seen.1) ∙ c.if-not-can_foretell.false in
    let next : IsNextForetold s.database seen.0 c.args.call.now m.volume old reply t.volume new =
    next_of_first s m seen.0 c.args.pcb c.args.call.now old reply t.volume new seen.1 before.only c.in-Ok.ensures.foretold in
    let name : length c.segment_text.result.now ≡ length (unwrap_or c.in-Ok.answer.segment (replicate 8 32)) = ap length c.segment_text.ensures.text in
    let more : ℕ = 10 + length c.segment_text.result.now + (length c.foretell.new.io.key + length c.foretell.new.io.area) in
    let size : length (frame_bytes (answer_bytes reply)) ≡ more =
    frame-long reply ∙ ap (λ (k : ℕ). 10 + k + (length c.foretell.new.io.key + length c.foretell.new.io.area)) (sym name) in
    let at : length c.deref.result.now ≡ length line = ap length c.deref.ensures.value in
    let key : length c.key.result.now ≡ length c.foretell.new.io.key = ap length c.key.ensures in
    let area : length c.area.result.now ≡ length c.foretell.new.io.area = ap length c.area.ensures in
    let raw : length c.deref.result.now + (10 + length c.segment_text.result.now + (length c.key.result.now + length c.area.result.now)) ≤ 5 + TOLD_ROOM = leb-true (length c.deref.result.now + (10 + length c.segment_text.result.now + (length c.key.result.now + length c.area.result.now))) (5 + TOLD_ROOM) (sym c.has_room.ensures ∙ c.if-not-has_room.false) in
    let within : length line + more ≤ 5 + TOLD_ROOM = omega (arith, raw, at, key, area) in
    let pushed : c.add_answer.new.line.items ≡ line ++ frame_bytes (answer_bytes reply) = on_ok c.add_answer.result c.if-is_err.ensures.value c.add_answer.ensures in
    let fits : length (frame_bytes (answer_bytes reply)) ≤ length head + TOLD_ROOM - length line = omega (arith, within, size, c.requires.head, before.few) in
    let some : is_none reply.segment ≡ false = some_given c.in-Ok.answer.segment (c.is_none.ensures ∙ ap not c.if-is_none.false) in
    record {
      gathers = subst (λ (xs : List ℕ). Gathers s turn n head xs new left t) (sym pushed) (gathers_more s turn n head seen.0 seen.1 m t line old new left before can reply next only fits some);
      there = subst (λ (d : Database). HasOutlook d t.volume new) (sym (ap (λ (z : SessionState). z.database) c.foretell.ensures.same)) c.in-Ok.ensures.there;
      room = c.foretell.ensures.same_room ∙ c.answers.invariant.room;
    }

pub returns-then-is_err-clause-halts : goal.returns-then-is_err-clause-halts
returns-then-is_err-clause-halts g c =
    let s : SessionState = c.args.session.now in
    let only : IsOnlyRead s c.foretell.new.self =
    only_more s c.answers.session c.foretell.new.self c.foretell.result c.in-Ok.answer c.in-Ok.is c.answers.invariant.gathers.only c.foretell.ensures.read c.foretell.ensures.same in
    does_foretell s c.foretell.new.self (record { pcb = c.args.pcb; call = c.args.call.now }) c.args.count c.requires.whole only

pub returns-clause-gathers : goal.returns-clause-gathers
returns-clause-gathers g c =
    let s : SessionState = c.args.session.now in
    let turn : Turn = record { pcb = c.args.pcb; call = c.args.call.now } in
    let seen = view_there s.pcbs c.args.pcb c.requires.pcb.0 c.requires.pcb.1 in
    let none : c.args.count - c.answers.counter ≡ 0 = omega (arith, c.answers-test.false) in
    gathered_all s turn c.args.count c.args.line.now.items seen.0 seen.1 c.answers.session c.answers.line.items c.answers.outlook
    (subst (λ (k : ℕ). Gathers s turn c.args.count c.args.line.now.items c.answers.line.items c.answers.outlook k c.answers.session) none c.answers.invariant.gathers)

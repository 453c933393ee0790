-- What is left when a session is closed after its calls.
use Rattle.std.proofs.Common.{◌≡◌, IsTrue, ℕ, List, Option, Result, Ok, Err, false, sym}
use Rattle.std.specs.Prelude.{OnOk}
use Rattle.std.specs.Result.{is_err}
use Rattle.hd_session.specs.Opening.{SessionState}
use Rattle.hd_deck.specs.declared.plays.Stop.{Stop}
use Rattle.hd_deck.specs.declared.plays.Stop.TheVariants as stop
use Rattle.hd_session.specs.Turns.{Turn, StaysWhole}
use Rattle.hd_deck.specs.Runs.{PlaysAll, PlaysUntil, StopsAt, PlaysOut, LeavesAt}

module _ (s t : SessionState) (turns : List Turn) (left : List ℕ) (closed : IsTrue t.volume.is_sound → left ≡ t.volume.image) where
  -- all calls were played
  pub played_out : (old new : Option (List ℕ)) (lacking : ℕ) → StaysWhole s t → PlaysAll s turns 1 old new lacking t → PlaysOut s turns old new lacking left
  played_out old new lacking whole plays = λ st sound stands. record {
    last = t;
    played = plays st sound stands;
    ends = sym (closed (rw whole.sound sound));
  }

  -- the calls were made until a stop
  pub left_at : (e : Stop) → StopsAt s e t → PlaysUntil s turns e t → LeavesAt s turns e left
  left_at stop.Device stops until = λ st sound stands. tt
  left_at stop.Write whole until = λ st sound stands. record {
    last = t;
    made = until st sound stands;
    ends = sym (closed (rw whole.sound sound));
  }

-- a fact of Ok, where it is no Err
pub on_ok : {T E P : Type 0} (r : Result T E) → false ≡ is_err r → OnOk r P → P
on_ok (Ok x) is p = p
on_ok (Err e) is p = cc

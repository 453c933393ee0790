-- What is committed of a unit of calls.
use Rattle.std.proofs.Common.{◌≡◌, List, ℕ, Bool, true, false, IsTrue, Result, Ok, Err, inl, inr, refl}
use Rattle.std.specs.Prelude.{not, OnOk, OnErr}
use Rattle.hd_dbd.specs.declared.answer.Refused.{Refused}
use Rattle.hd_stores.specs.Stores.{Committed, IsCommit, FailsCommit}
use Rattle.hd_commands.specs.Units.{MayCommit}

-- a commit that was wanted, however it ended, of a store over an honest disk
pub may-commit : (wanted is_sound failed : Bool) (contents contents' : List ℕ) (old new : Committed) (result : Result Unit Refused) → wanted ≡ true → is_sound ≡ not failed
    → OnOk result (IsCommit is_sound contents contents' old new) → OnErr result (FailsCommit is_sound contents old new) → (failed ≡ true → new ≡ old)
    → MayCommit wanted is_sound contents old new
may-commit wanted is_sound true contents contents' old new result want is done fails dead = inl (dead refl)
may-commit wanted is_sound false contents contents' old new (Ok x) want is done fails dead =
    let sound : IsTrue is_sound = is in
    inr (want, sound, inl ((done sound).1, (done sound).2, (done sound).3))
may-commit wanted is_sound false contents contents' old new (Err e) want is done (inl same) dead = inl same
may-commit wanted is_sound false contents contents' old new (Err e) want is done (inr tried) dead = inr (want, tried.0, inr tried.1)

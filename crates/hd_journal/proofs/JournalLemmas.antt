-- The stages of a journal differ.
use Rattle.std.proofs.Common.{◌≡◌, Bool, true, false, ap}
use Rattle.std.proofs.lemmas.Bool.{true≢false}
use Rattle.hd_journal.specs.declared.journal.Stage.{Stage}
use Rattle.hd_journal.specs.declared.journal.Stage.TheVariants.{Collecting, Published, Doubtful}
use Rattle.std.specs.Prelude.{Result, Ok, Err, OnOk}

abbrev is_collecting : Stage → Bool
is_collecting Collecting = true
is_collecting Published = false
is_collecting Doubtful = false

abbrev is_published : Stage → Bool
is_published Collecting = false
is_published Published = true
is_published Doubtful = false

pub collecting≢published : Collecting ≡ Published → ⊥
collecting≢published e = true≢false (ap is_collecting e)

pub collecting≢doubtful : Collecting ≡ Doubtful → ⊥
collecting≢doubtful e = true≢false (ap is_collecting e)

pub published≢doubtful : Published ≡ Doubtful → ⊥
published≢doubtful e = true≢false (ap is_published e)

-- what two clauses say of an Ok
pub ok-both : {T E P Q R : Type 0} (r : Result T E) → (P → Q → R) → OnOk r P → OnOk r Q → OnOk r R
ok-both (Ok x) f p q = f p q
ok-both (Err e) f p q = tt

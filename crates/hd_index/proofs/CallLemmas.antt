-- What holds where a call is not refused, and where something is there.
use Rattle.std.proofs.Common.{OnOk, Result, Ok, Err, Option, Some, None}
use Rattle.std.specs.Prelude.{IfSome}

-- what follows from it holds as well
pub on-ok-map : {A E P Q : Type 0} (r : Result A E) → (P → Q) → OnOk r P → OnOk r Q
on-ok-map (Ok x) f h = f h
on-ok-map (Err e) f h = h

-- and what follows of something that may be there
pub if-some-map : {A : Type 0} {P Q : A → Type 0} (o : Option A) → ((x : A) → P x → Q x) → IfSome o P → IfSome o Q
if-some-map None f h = tt
if-some-map (Some x) f h = f x h

-- two facts of it are one
pub if-some-both : {A : Type 0} {P Q R : A → Type 0} (o : Option A) → ((x : A) → P x → Q x → R x) → IfSome o P → IfSome o Q → IfSome o R
if-some-both None f h i = tt
if-some-both (Some x) f h i = f x h i

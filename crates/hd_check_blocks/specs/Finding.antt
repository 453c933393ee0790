-- What a call that is not refused finds, as a phase does in a volume whose store is sound.
use Rattle.std.specs.Prelude.{IsTrue, Option, Result, IfOk, IfNone, IfSome}
use Rattle.hd_dbd.specs.declared.answer.Refused.{Refused}
use Rattle.hd_volume.specs.Volumes.{VolumeState}

-- where it finds nothing, the fact holds
abbrev pub WhereNone : {A : Type 0} → VolumeState → Result (Option A) Refused → Type 0 → Type 0
WhereNone v result fact = IfOk result (λ o. IsTrue v.is_sound → IfNone o fact)

-- of what it finds, the fact holds
abbrev pub WhereSome : {A : Type 0} → VolumeState → Result (Option A) Refused → (A → Type 0) → Type 0
WhereSome v result fact = IfOk result (λ o. IsTrue v.is_sound → IfSome o fact)

-- where a call that is not refused finds nothing, the fact holds
abbrev pub IfFindsNone : {A : Type 0} → Result (Option A) Refused → Type 0 → Type 0
IfFindsNone result fact = IfOk result (λ o. IfNone o fact)

-- of what a call that is not refused finds, the fact holds
abbrev pub IfFindsSome : {A : Type 0} → Result (Option A) Refused → (A → Type 0) → Type 0
IfFindsSome result fact = IfOk result (λ o. IfSome o fact)

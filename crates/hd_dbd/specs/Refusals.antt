-- Which refusals a call has at all.
use Rattle.std.specs.Prelude.{◌≡◌, ◌⊎◌, Result, IfErr}
use Rattle.hd_dbd.specs.declared.answer.Refused.{Refused}
use Rattle.hd_dbd.specs.declared.answer.Refused.TheVariants.{Memory, Full, Device}

-- only a failed access refuses the call
abbrev pub OnlyDevice : {A : Type 0} → Result A Refused → Type 0
OnlyDevice result = IfErr result (λ e. e ≡ Device)

-- only want of memory refuses the call
abbrev pub OnlyMemory : {A : Type 0} → Result A Refused → Type 0
OnlyMemory result = IfErr result (λ e. e ≡ Memory)

-- a failed access or want of memory refuses the call, and nothing else
abbrev pub OnlyDeviceOrMemory : {A : Type 0} → Result A Refused → Type 0
OnlyDeviceOrMemory result = IfErr result (λ e. (e ≡ Device) ⊎ (e ≡ Memory))

-- want of memory, want of room or a failed access refuses the call, and nothing else
abbrev pub OnlyRoomOrDevice : {A : Type 0} → Result A Refused → Type 0
OnlyRoomOrDevice result = IfErr result (λ e. (e ≡ Memory) ⊎ (e ≡ Full) ⊎ (e ≡ Device))

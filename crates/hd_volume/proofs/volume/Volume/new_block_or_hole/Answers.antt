use Rattle.std.proofs.Common.{◌≡◌, ◌≢◌, ◌⊎◌, inl, inr, ℕ, List, IsTrue, true, false, length, Result, Ok, Err, IfOk, sym, ap, ◌∙◌, arith}
use Rattle.std.proofs.lemmas.Bool.{false≢true}
use Rattle.hd_volume.specs.Calls.{IsRead}
use Rattle.hd_dbd.specs.declared.answer.Refused.{Refused}
use Rattle.hd_dbd.specs.declared.answer.Refused.TheVariants.{Full, Memory, Device}
use Rattle.hd_volume.specs.Headers.{header_of}
use Rattle.hd_volume.specs.Volumes.{VolumeState}
use Rattle.hd_volume.specs.Steps.{IsStep, HasRoom, IsOpenFor}
use Rattle.hd_volume.proofs.JoinLemmas.{AreOne, one-room, one-holes, one-turned, one-both, read-one, plain-read, step-past, ready-found, if-err-map}
use Rattle.hd_volume.proofs.SpacingLemmas.{plain-open}
use Rattle.hd_volume.proofs.volume.Volume.new_block_or_hole.Goals as goal

pub returns-in-Ok-clause-ready : goal.returns-in-Ok-clause-ready
returns-in-Ok-clause-ready g c sound = c.in-Ok.ensures.ready sound (length c.args.bytes.now) c.requires.fits (λ plain hole. absurd (c.requires.spaced plain))

pub returns-in-Ok-clause-may : goal.returns-in-Ok-clause-may
returns-in-Ok-clause-may g c sound left = c.in-Ok.ensures.may sound (length c.args.bytes.now)

-- the refusal was for room, and left the store and the image as they were
room-refused : (u m : VolumeState) (e : Refused) → (e ≡ Full) ⊎ (e ≡ Memory) → IsStep {T = ℕ} u (Err e) m → (IsTrue m.is_sound → m.image ≡ u.image) → IsTrue u.is_sound
    → IsTrue m.is_sound × AreOne u m
room-refused u m e want h kept sound =
    let past : IsStep {T = ℕ} u (Ok 0) m = step-past e want h in
    let now : IsTrue m.is_sound = rw past.sound sound in
    (now, record { same = record { size = past.size; sizes = past.sizes }; image = kept now })

-- a refusal for room, where it was for no failed access
for-room : (e : Refused) → (e ≡ Memory) ⊎ (e ≡ Full) ⊎ (e ≡ Device) → e ≢ Device → (e ≡ Full) ⊎ (e ≡ Memory)
for-room e (inl memory) other = inr memory
for-room e (inr (inl full)) other = inl full
for-room e (inr (inr device)) other = absurd (other device)

-- what holds of an answer, given that the volume was read
read-ok : {u v : VolumeState} {P Q : ℕ → Type 0} (r : Result ℕ Refused) → IsRead {T = ℕ} u r v → ((n : ℕ) → IsRead {T = ℕ} u (Ok n) v → P n → Q n) → IfOk r P → IfOk r Q
read-ok (Ok n) read h p = h n read p
read-ok (Err e) read h p = tt

pub returns-else-eq-clause-ready : goal.returns-else-eq-clause-ready
returns-else-eq-clause-ready g c =
    let u : VolumeState = c.args.self.now in
    let m : VolumeState = c.new_block.new.self in
    let need : ℕ = length c.args.bytes.now in
    let first = c.in-Err.ensures in
    let want = for-room c.in-Err.refused first.refusal (λ device. let e : ◌≡◌ false true = rw device at c.if-eq.ensures in false≢true e) in
    read-ok c.any_hole.result c.any_hole.ensures.read
    (λ n read h sound.
    let past = room-refused u m c.in-Err.refused want first.step first.kept sound in
    ready-found (one-both past.1 (read-one read (rw read.call.sound past.0))) n need (c.requires.formatted sound) (one-room (one-turned past.1) n need (h past.0)))
    c.any_hole.ensures.found

pub returns-else-eq-clause-may : goal.returns-else-eq-clause-may
returns-else-eq-clause-may g c =
    let u : VolumeState = c.args.self.now in
    let m : VolumeState = c.new_block.new.self in
    let w : VolumeState = c.any_hole.new.self in
    let need : ℕ = length c.args.bytes.now in
    let first = c.in-Err.ensures in
    let want = for-room c.in-Err.refused first.refusal (λ device. let e : ◌≡◌ false true = rw device at c.if-eq.ensures in false≢true e) in
    read-ok c.any_hole.result c.any_hole.ensures.read
    (λ n read h sound left.
    let past = room-refused u m c.in-Err.refused want first.step first.kept sound in
    let one : AreOne m w = read-one read (rw read.call.sound past.0) in
    let room : HasRoom w n need = one-room one n need (h past.0) in
    let o : AreOne u w = one-both past.1 one in
    let open-for : IsOpenFor w n need = elim (first.last past.0) [
      | inl plain ↦ plain-open w n need (plain-read read plain) room
      | inr less ↦ (λ few. absurd (let e = ap (λ (i : List ℕ). (header_of i).count) o.image in let l = ap (λ (i : List ℕ). (header_of i).largest) o.image in omega arith))
    ] in open-for)
    c.any_hole.ensures.found

pub returns-else-eq-clause-no_hole : goal.returns-else-eq-clause-no_hole
returns-else-eq-clause-no_hole g c =
    let u : VolumeState = c.args.self.now in
    let m : VolumeState = c.new_block.new.self in
    let need : ℕ = length c.args.bytes.now in
    let first = c.in-Err.ensures in
    let want = for-room c.in-Err.refused first.refusal (λ device. let e : ◌≡◌ false true = rw device at c.if-eq.ensures in false≢true e) in
    if-err-map c.any_hole.result
    (λ e h is sound hole.
    let past = room-refused u m c.in-Err.refused want first.step first.kept sound in
    (h (λ (device : e ≡ Device). let no : ◌≡◌ {A = Refused} Memory Device = sym is ∙ device in let f : ⊥ = cc in f)).1 past.0 (one-holes past.1 need hole))
    c.any_hole.ensures.none

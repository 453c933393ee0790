use Rattle.std.proofs.Common.{◌≡◌, ℕ, IsTrue, ◌∙◌, arith}
use Rattle.hd_volume.specs.Headers.{header_of}
use Rattle.hd_volume.specs.Volumes.{VolumeState}
use Rattle.hd_volume.specs.Steps.{HasFree}
use Rattle.hd_volume.proofs.JoinLemmas.{free-twice, if-ok-map}
use Rattle.hd_volume.proofs.PutLemmas.{if-some-map}
use Rattle.hd_volume.proofs.volume.Volume.extend_by.Goals as goal

pub returns-in-Some-clause-grown : goal.returns-in-Some-clause-grown
returns-in-Some-clause-grown g c =
    let u : VolumeState = c.args.self.now in
    let v : VolumeState = c.extend_one.new.self in
    let w : VolumeState = c.extend_one-in-Some.new.self in
    let m : ℕ = c.in-Some.field-0 in
    if-ok-map c.extend_one-in-Some.result
    (λ o h sound.
    let now : IsTrue v.is_sound = rw c.in_ok-grown.ensures.step.sound sound in
    let first : HasFree u m v × (m ≡ (header_of u.image).count) = rw c.in-Some.is at (c.in_ok-grown.ensures.grown sound) in
    if-some-map o (λ n k.
    let both = free-twice m n (c.requires.formatted sound) c.in_ok-grown.ensures.positive c.in_ok-grown.ensures.step.size (c.extend_one-in-Some.ensures.step.size ∙ c.in_ok-grown.ensures.step.size) first.0 k.0 first.1 k.1 in
    (both.0, (let two : c.args.more ≡ 2 = (let more = c.if-more-gt1.true in let few = c.requires.few.1 in omega arith) in let e = both.1 in omega arith))) (h now))
    c.extend_one-in-Some.ensures.grown

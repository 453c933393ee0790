use Rattle.std.proofs.Common.{IsTrue, inl, inr}
use Rattle.std.proofs.lemmas.Bool.{cases_eq}
use Rattle.hd_volume.proofs.FrameLemmas.{AreSame}
use Rattle.hd_index.proofs.Drops.{dropped}
use Rattle.hd_index.proofs.unlink.drop_block.Goals as goal

pub returns-clause-dropped : goal.returns-clause-dropped
returns-clause-dropped g c sound k left =
    let u = c.args.volume.now in
    let v = c.pass_over.new.volume in
    let w = c.give_block.new.self in
    let now : IsTrue v.is_sound = rw c.in_ok-pass_over.ensures.call.sound sound in
    let call = c.in_ok-give_block.ensures.call in
    let same : AreSame v w = record { size = call.size; sizes = call.sizes } in
    dropped k u v w c.args.stand (c.requires.formatted sound) (c.requires.apart sound) (c.in_ok-pass_over.ensures.passed sound k left) same (c.in_ok-give_block.ensures.given now)

pub give_block-requires-clause-formatted : goal.give_block-requires-clause-formatted
give_block-requires-clause-formatted g c now =
    let sound : IsTrue c.args.volume.now.is_sound = rw (← c.in_ok-pass_over.ensures.call.sound) now in
    elim (cases_eq c.args.stand.left 0) [
      | inl none ↦ (c.in_ok-pass_over.ensures.passed sound 0 (λ some. absurd (some none))).formatted
      | inr some ↦ (let r = c.requires.left sound some in (c.in_ok-pass_over.ensures.passed sound r.0 (λ s. r.1)).formatted)
    ]

pub give_block-requires-clause-there : goal.give_block-requires-clause-there
give_block-requires-clause-there g c now =
    let sound : IsTrue c.args.volume.now.is_sound = rw (← c.in_ok-pass_over.ensures.call.sound) now in
    elim (cases_eq c.args.stand.left 0) [
      | inl none ↦ (c.in_ok-pass_over.ensures.passed sound 0 (λ some. absurd (some none))).is
      | inr some ↦ (let r = c.requires.left sound some in (c.in_ok-pass_over.ensures.passed sound r.0 (λ s. r.1)).is)
    ]

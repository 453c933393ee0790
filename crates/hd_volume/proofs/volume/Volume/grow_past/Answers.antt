use Rattle.std.proofs.Common.{◌≡◌, ◌*◌, ◌<◌, ◌≤◌, inl, inr, ℕ, List, IsTrue, refl, ap, ◌∙◌, arith, subst}
use Rattle.hd_dbd.specs.declared.hierarchy.FreeSpace.{FreeSpace}
use Rattle.hd_volume.specs.Headers.{header_of}
use Rattle.hd_volume.specs.Volumes.{VolumeState}
use Rattle.hd_volume.specs.Spacing.{IsPlain, IsLeftOut}
use Rattle.hd_volume.proofs.CallSteps.{sound-back}
use Rattle.hd_volume.proofs.PutLemmas.{if-some-map}
use Rattle.hd_volume.proofs.JoinLemmas.{AreOne, one-formatted, free-between, if-ok-map, sound-on}
use Rattle.hd_volume.proofs.volume.Volume.grow_past.Goals as goal

pub grow_reserved-requires-clause-formatted : goal.grow_reserved-requires-clause-formatted
grow_reserved-requires-clause-formatted g c now =
    let u : VolumeState = c.args.self.now in
    let m : VolumeState = c.reserve.new.self in
    let rest = c.change_spacing.ensures.rest in
    let mid : IsTrue c.change_spacing.new.self.is_sound = sound-back c.reserve.result c.change_spacing.new.self.is_sound m.is_sound c.reserve.ensures.call.sound now in
    let before : IsTrue u.is_sound = rw (← ap (λ (v : VolumeState). v.is_sound) rest) mid in
    let one : AreOne u m = record {
      same = record { size = c.reserve.ensures.call.size ∙ ap (λ (v : VolumeState). v.size) rest; sizes = c.reserve.ensures.call.sizes ∙ ap (λ (v : VolumeState). v.sizes) rest };
      image = (c.reserve.ensures.image now).0 ∙ ap (λ (v : VolumeState). v.image) rest;
    } in
    one-formatted one (c.requires.formatted before)

pub returns-clause-grown : goal.returns-clause-grown
returns-clause-grown g c =
    let u : VolumeState = c.args.self.now in
    let m : VolumeState = c.reserve.new.self in
    let w : VolumeState = c.grow_reserved.new.self in
    let rest = c.change_spacing.ensures.rest in
    if-ok-map c.grow_reserved.result
    (λ o h sound.
    let mid : IsTrue c.change_spacing.new.self.is_sound = rw (ap (λ (v : VolumeState). v.is_sound) rest) sound in
    let now : IsTrue m.is_sound = sound-on c.reserve.result c.reserve.ensures.refusal c.change_spacing.new.self.is_sound m.is_sound c.reserve.ensures.call.sound mid in
    let one : AreOne u m = record {
      same = record { size = c.reserve.ensures.call.size ∙ ap (λ (v : VolumeState). v.size) rest; sizes = c.reserve.ensures.call.sizes ∙ ap (λ (v : VolumeState). v.sizes) rest };
      image = (c.reserve.ensures.image now).0 ∙ ap (λ (v : VolumeState). v.image) rest;
    } in
    let own : AreOne w w = record { same = record { size = refl; sizes = refl }; image = refl } in
    let count : c.block_count-count.result ≡ (header_of u.image).count = c.block_count-count.ensures sound (c.requires.formatted sound).header.first in
    let same : (header_of m.image).count ≡ (header_of u.image).count = ap (λ (i : List ℕ). (header_of i).count) one.image in
    if-some-map o (λ n k. (
      free-between one own n k.0,
      λ out. elim c.grow_reserved.ensures.spacing [
        | inl is ↦
            (let S : FreeSpace → Type 0 = λ s. IsLeftOut s n in
            c.blocks_past-more.ensures.past n (let e = k.1 in omega arith) (subst S is out))
        | inr plain ↦ (let S : FreeSpace → Type 0 = λ s. 1 < s.fbff in absurd (let l = subst S plain out.0 in omega arith))
      ],
    )) (h now))
    c.grow_reserved.ensures.grown

pub returns-clause-room : goal.returns-clause-room
returns-clause-room g c now =
    let u : VolumeState = c.args.self.now in
    let not-plain : IsPlain u → ⊥ = c.leaves_space.ensures.yes c.if-not-leaves_space.false in
    let twice : (2 * u.room ≤ c.change_spacing.new.self.room) × (u.room ≤ 2147483647) = elim (c.change_spacing.ensures.none refl) [ inl plain ↦ absurd (not-plain plain) | inr t ↦ t ] in
    let a = twice.0 in
    let b = twice.1 in
    let d = c.reserve.ensures.no_less in
    let e = c.grow_reserved.ensures.room now in
    let few = c.blocks_past-more.ensures.few.1 in
    omega arith

use Rattle.std.proofs.Common.{◌≡◌, ◌⊎◌, ◌+◌, ◌<◌, ◌≤◌, inl, inr, IsTrue, ap, ◌∙◌, arith, subst}
use Rattle.hd_dbd.specs.declared.hierarchy.FreeSpace.{FreeSpace}
use Rattle.hd_volume.specs.Headers.{Header, header_of}
use Rattle.hd_volume.specs.Volumes.{VolumeState}
use Rattle.hd_volume.specs.Spacing.{IsPlain}
use Rattle.hd_volume.proofs.JoinLemmas.{AreOne, free-after, grown-count, if-ok-map, if-err-map}
use Rattle.hd_volume.proofs.volume.Volume.free_block.Goals as goal

pub returns-in-None-clause-free : goal.returns-in-None-clause-free
returns-in-None-clause-free g c =
    let u : VolumeState = c.args.self.now in
    let m : VolumeState = c.grow_past.new.self in
    let first = c.in_ok-n.ensures in
    if-ok-map c.lowest_or_new.result
    (λ n h sound.
    let now : IsTrue m.is_sound = rw first.step.sound sound in
    let one : AreOne u m = record { same = record { size = first.step.size; sizes = first.step.sizes }; image = rw c.in-None.is at (first.same sound) } in
    free-after one n (h now))
    c.lowest_or_new.ensures.free

pub returns-in-None-clause-may : goal.returns-in-None-clause-may
returns-in-None-clause-may g c =
    let u : VolumeState = c.args.self.now in
    let m : VolumeState = c.grow_past.new.self in
    let w : VolumeState = c.lowest_or_new.new.self in
    let first = c.in_ok-n.ensures in
    if-ok-map c.lowest_or_new.result
    (λ n h sound few out.
    let now : IsTrue m.is_sound = rw first.step.sound sound in
    let image : m.image ≡ u.image = rw c.in-None.is at (first.same sound) in
    let free = h now in
    let none : IsPlain m ⊎ ((header_of u.image).largest < (header_of u.image).count + 2) = rw c.in-None.is at (first.none sound) in
    elim none [
      | inl plain ↦ (let S : FreeSpace → Type 0 = λ s. 1 < s.fbff in absurd (let l = subst S (c.lowest_or_new.ensures.spacing ∙ plain) out.0 in omega arith))
      | inr full ↦
          (let count : (header_of m.image).count ≡ (header_of u.image).count = ap (λ i. (header_of i).count) image in
          let largest : (header_of m.image).largest ≡ (header_of u.image).largest = ap (λ i. (header_of i).largest) image in
          let more = grown-count n free.grows in
          let most : (header_of w.image).largest ≡ (header_of m.image).largest = ap (λ (h : Header). h.largest) free.grows.header in
          absurd (omega arith))
    ])
    c.lowest_or_new.ensures.free

pub returns-in-None-clause-memory : goal.returns-in-None-clause-memory
returns-in-None-clause-memory g c =
    let u : VolumeState = c.args.self.now in
    let m : VolumeState = c.grow_past.new.self in
    let first = c.in_ok-n.ensures in
    let kept : u.room ≤ m.room = rw c.in-None.is at first.room_kept in
    if-err-map c.lowest_or_new.result (λ e h is. let none = h is in omega arith) c.lowest_or_new.ensures.memory

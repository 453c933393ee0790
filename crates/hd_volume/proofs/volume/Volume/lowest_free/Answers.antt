use Rattle.std.proofs.Common.{ℕ, ◌<◌, vec_len, IsTrue, subst, sym, arith}
use Rattle.std.specs.Vec.{vec_capacity}
use Rattle.hd_volume.specs.Volumes.{VolumeState, IsKind, IsFormatted}
use Rattle.hd_volume.specs.Spaces.{volume_of, room_for}
use Rattle.hd_volume.proofs.JoinLemmas.{sought-space, sought-found, sought-none, none-counted}
use Rattle.hd_volume.proofs.volume.Volume.lowest_free.Goals as goal
use Rattle.hd_volume.proofs.volume.Volume.lowest_free.Goals.{then-n-eq0, else-n-eq0}

pub returns-then-self-eq0-clause-none : goal.returns-then-self-eq0-clause-none
returns-then-self-eq0-clause-none g c =
    let P : VolumeState → Type 0 = λ v. IsTrue v.is_sound → (m : ℕ) → IsKind v 3 m → ⊥ in
    let F : VolumeState → Type 0 = λ u. IsTrue u.is_sound → IsFormatted u in
    let room : ℕ = room_for c.self.inside.spacing c.self.inside.blocks.room (vec_len c.self.inside.space.contents) (vec_capacity c.self.inside.space.contents) in
    let v : VolumeState = volume_of c.self.inside.blocks c.self.inside.sizes.items c.self.inside.spacing room in
    let least = c.self.invariant.least in
    subst P c.self.view_is
    (λ sound m k.
    let f : IsFormatted v = subst F (sym c.self.view_is) c.requires.formatted sound in
    none-counted v c.self.inside.space m f (omega arith) (c.self.invariant.true_of sound) c.if-self-eq0.true k)

pub invariant_of-self : goal.invariant_of-self
invariant_of-self g c = record {
  least = c.self.invariant.least;
  most = c.self.invariant.most;
  eighths = c.self.invariant.eighths;
  fits = c.self.invariant.fits;
  small = rw c.seek_free-n.ensures.contents c.self.invariant.small;
  true_of = λ sound. sought-space c.self.inside.blocks.size c.self.inside.sizes.items c.self.inside.blocks.image c.self.inside.space c.seek_free-n.new.space c.seek_free-n.result (c.self.invariant.true_of sound)
      c.seek_free-n.ensures.contents c.seek_free-n.ensures.lowest c.seek_free-n.ensures.free c.seek_free-n.ensures.found c.seek_free-n.ensures.none;
}

pub returns-clause-found : goal.returns-clause-found
returns-clause-found g c =
    let P : VolumeState → Type 0 = λ v. IsTrue v.is_sound → IsKind v 3 c.seek_free-n.result in
    let room : ℕ = room_for c.self.inside.spacing c.self.inside.blocks.room (vec_len c.self.inside.space.contents) (vec_capacity c.self.inside.space.contents) in
    let v : VolumeState = volume_of c.self.inside.blocks c.self.inside.sizes.items c.self.inside.spacing room in
    let least = c.self.invariant.least in
    elim c.if-n-eq0.branch [
      | then-n-eq0 w ↦ rw w.result-is tt
      | else-n-eq0 w ↦ rw w.result-is (subst P c.self.view_is (λ sound.
          let some : 0 < c.seek_free-n.result = omega (arith, w.if-n-eq0.false) in
          let x = c.seek_free-n.ensures.found some in
          sought-found v c.self.inside.space c.seek_free-n.result (omega arith) (c.self.invariant.true_of sound) some x.0 x.1))
    ]

pub returns-clause-none : goal.returns-clause-none
returns-clause-none g c =
    let P : VolumeState → Type 0 = λ v. IsTrue v.is_sound → (m : ℕ) → IsKind v 3 m → ⊥ in
    let F : VolumeState → Type 0 = λ u. IsTrue u.is_sound → IsFormatted u in
    let room : ℕ = room_for c.self.inside.spacing c.self.inside.blocks.room (vec_len c.self.inside.space.contents) (vec_capacity c.self.inside.space.contents) in
    let v : VolumeState = volume_of c.self.inside.blocks c.self.inside.sizes.items c.self.inside.spacing room in
    let least = c.self.invariant.least in
    elim c.if-n-eq0.branch [
      | then-n-eq0 w ↦ rw w.result-is (subst P c.self.view_is (λ sound m k.
          let f : IsFormatted v = subst F (sym c.self.view_is) c.requires.formatted sound in
          let x = c.seek_free-n.ensures.none w.if-n-eq0.true in
          sought-none v c.self.inside.space m f (omega arith) (c.self.invariant.true_of sound) x.1 k))
      | else-n-eq0 w ↦ rw w.result-is tt
    ]

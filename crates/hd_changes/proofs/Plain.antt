-- A volume that keeps nothing free any more.
use Rattle.std.proofs.Common.{◌≡◌, List, ℕ, Ok, refl, sym, ap, subst, arith}
use Rattle.hd_volume.specs.Volumes.{VolumeState}
use Rattle.hd_volume.specs.Spacing.{no_spacing}
use Rattle.hd_volume.specs.Images.{KeepsFirst}
use Rattle.hd_volume.specs.Calls.{IsCall}
use Rattle.hd_volume.proofs.JoinLemmas.{AreOne}
use Rattle.hd_volume.proofs.SpacingLemmas.{plain-space}

-- a volume that keeps nothing free any more is a call behind
pub plain-call : {T : Type 0} {v w : VolumeState} (x : T) → w ≡ record v { spacing = no_spacing; room = w.room } → IsCall {T = T} v (Ok x) w
plain-call {v = v} {w = w} x rest = record {
  counts = ap (λ (u : VolumeState). u.failures) rest;
  sound = ap (λ (u : VolumeState). u.is_sound) rest;
  committed = ap (λ (u : VolumeState). u.committed) rest;
  size = ap (λ (u : VolumeState). u.size) rest;
  sizes = ap (λ (u : VolumeState). u.sizes) rest;
  first = λ _. subst (λ (s : List ℕ). KeepsFirst v.size v.stored s) (sym (ap (λ (u : VolumeState). u.stored) rest)) (record { len = omega arith; first = λ _. refl });
  plain = λ _. ap (λ (u : VolumeState). u.spacing) rest;
  space = λ s _. record { left = λ _ _. plain-space w (ap (λ (u : VolumeState). u.spacing) rest) };
}

pub plain-one : {v w : VolumeState} → w ≡ record v { spacing = no_spacing; room = w.room } → AreOne v w
plain-one rest = record {
  same = record { size = ap (λ (u : VolumeState). u.size) rest; sizes = ap (λ (u : VolumeState). u.sizes) rest };
  image = ap (λ (u : VolumeState). u.image) rest;
}

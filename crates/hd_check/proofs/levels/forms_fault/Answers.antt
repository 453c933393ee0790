use Rattle.std.proofs.Common.{◌≡◌, ℕ, refl, subst}
use Rattle.hd_dbd.specs.Hierarchy.{Database}
use Rattle.hd_volume.specs.Headers.{header_of}
use Rattle.hd_volume.specs.Volumes.{VolumeState}
use Rattle.hd_index_blocks.specs.LevelFaults as level
use Rattle.hd_image.specs.Records.{IsVolumeOf}
use Rattle.hd_check_index.specs.Judging.{IsFoundAt}
use Rattle.hd_check.proofs.LevelsFound.{forms-found}
use Rattle.hd_check.proofs.levels.forms_fault.Goals as goal

pub returns-clause-none : goal.returns-clause-none
returns-clause-none g c = λ sound.
    let d : Database = c.args.dbd.now in
    let v : VolumeState = c.args.volume.now in
    let V : IsVolumeOf d v = c.requires.of sound in
    let top : c.top-top.result ≡ (header_of v.image).top = c.top-top.ensures sound V.formatted.header.first in
    let height : c.height-height.result ≡ (header_of v.image).height = c.height-height.ensures sound V.formatted.header.first in
    let right = c.if-not-is_top_right.ensures.right refl v (c.requires.blocks sound) top height in
    let F : ℕ → Type 0 = λ k. IsFoundAt v (level.IsWrongForm k v) c.in_ok-found.found in
    (forms-found d v V (c.requires.later sound) c.block_size-size.result c.in_ok-found.found c.fault_at.result (c.requires.before sound) right c.block_size-size.ensures.value
    (subst F c.root_key_length.ensures.value (c.in_ok-found.ensures.found sound)) (record { none = c.fault_at.ensures.none; some = c.fault_at.ensures.some })).0

pub returns-clause-some : goal.returns-clause-some
returns-clause-some g c = λ sound.
    let d : Database = c.args.dbd.now in
    let v : VolumeState = c.args.volume.now in
    let V : IsVolumeOf d v = c.requires.of sound in
    let top : c.top-top.result ≡ (header_of v.image).top = c.top-top.ensures sound V.formatted.header.first in
    let height : c.height-height.result ≡ (header_of v.image).height = c.height-height.ensures sound V.formatted.header.first in
    let right = c.if-not-is_top_right.ensures.right refl v (c.requires.blocks sound) top height in
    let F : ℕ → Type 0 = λ k. IsFoundAt v (level.IsWrongForm k v) c.in_ok-found.found in
    (forms-found d v V (c.requires.later sound) c.block_size-size.result c.in_ok-found.found c.fault_at.result (c.requires.before sound) right c.block_size-size.ensures.value
    (subst F c.root_key_length.ensures.value (c.in_ok-found.ensures.found sound)) (record { none = c.fault_at.ensures.none; some = c.fault_at.ensures.some })).1

use Rattle.std.proofs.Common.{ℕ, IfNone, IfSome, subst}
use Rattle.hd_dbd.specs.Hierarchy.{Database}
use Rattle.hd_volume.specs.Volumes.{VolumeState}
use Rattle.hd_volume.specs.Indexes.{root_key_length}
use Rattle.hd_index_blocks.specs.LevelFaults as level
use Rattle.hd_index_blocks.specs.LevelFaults.{StandsNowhere}
use Rattle.hd_check_index.specs.Judging.{IsFirst}
use Rattle.hd_check.proofs.Joined.{found-here}
use Rattle.hd_check.proofs.levels.level_order_fault.Goals as goal

pub returns-clause-none : goal.returns-clause-none
returns-clause-none g c = λ sound.
    let d : Database = c.args.dbd.now in
    let v : VolumeState = c.args.volume.now in
    let N : ℕ → Type 0 = λ k. IfNone c.in_ok-order.order (StandsNowhere (level.HasEntryOutOfOrder k v)) in
    let S : ℕ → Type 0 = λ k. IfSome c.in_ok-order.order (λ at. IsFirst v (level.HasEntryOutOfOrder k v) at.0 at.1) in
    let forms = c.requires.forms sound in
    c.first_of.ensures.none d v (c.requires.of sound) (c.requires.later sound) forms c.block_size-size.ensures.value
    (c.wrong_next-next.ensures.found (root_key_length d.types) v (c.requires.blocks sound) forms (c.requires.rows sound))
    (subst N c.root_key_length.ensures.value (c.in_ok-order.ensures.none sound)) (subst S c.root_key_length.ensures.value (c.in_ok-order.ensures.some sound))

pub returns-clause-some : goal.returns-clause-some
returns-clause-some g c = λ sound.
    let d : Database = c.args.dbd.now in
    let v : VolumeState = c.args.volume.now in
    let N : ℕ → Type 0 = λ k. IfNone c.in_ok-order.order (StandsNowhere (level.HasEntryOutOfOrder k v)) in
    let S : ℕ → Type 0 = λ k. IfSome c.in_ok-order.order (λ at. IsFirst v (level.HasEntryOutOfOrder k v) at.0 at.1) in
    let forms = c.requires.forms sound in
    found-here d v 11 c.first_of.result (c.requires.before sound)
    (c.first_of.ensures.some d v (c.requires.of sound) (c.requires.later sound) forms c.block_size-size.ensures.value
    (c.wrong_next-next.ensures.found (root_key_length d.types) v (c.requires.blocks sound) forms (c.requires.rows sound))
    (subst N c.root_key_length.ensures.value (c.in_ok-order.ensures.none sound)) (subst S c.root_key_length.ensures.value (c.in_ok-order.ensures.some sound)))

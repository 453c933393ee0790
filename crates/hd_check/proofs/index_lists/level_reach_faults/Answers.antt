use Rattle.std.proofs.Common.{ℕ, List, sym, subst, arith}
use Rattle.hd_dbd.specs.Hierarchy.{Database}
use Rattle.hd_volume.specs.Volumes.{VolumeState}
use Rattle.hd_volume.specs.Indexes.{root_key_length}
use Rattle.hd_index_blocks.specs.Faultless.{AreAllReached}
use Rattle.hd_check_index.specs.declared.rows.Standing.{Standing}
use Rattle.hd_check_index.specs.Rows.{AreRows}
use Rattle.hd_check.proofs.IndexLists.{set-reached, listed-none, listed-some}
use Rattle.hd_check.proofs.index_lists.level_reach_faults.Goals as goal

pub returns-clause-none : goal.returns-clause-none
returns-clause-none g c = λ sound.
    let d : Database = c.args.dbd.now in
    let v : VolumeState = c.args.volume.now in
    let k : ℕ = root_key_length d.types in
    let R : ℕ → Type 0 = λ length. AreRows length v c.rows_down.new.rows.items in
    let L : List Standing → Type 0 = λ rows. AreRows k v rows in
    let rows = subst L (sym c.deref.ensures.value) (subst R c.root_key_length.ensures.value (c.in_ok-rows_down.ensures.rows sound)) in
    let all = c.in_ok-faults.ensures.faults d v (c.requires.of sound) (c.requires.later sound) (c.requires.blocks sound) rows c.block_size-size.ensures.value in
    listed-none d v 10 c.in_ok-faults.faults.items all (AreAllReached k v) c.listed.result (set-reached d v (c.requires.later sound)) c.listed.ensures.none

pub returns-clause-some : goal.returns-clause-some
returns-clause-some g c = λ sound.
    let d : Database = c.args.dbd.now in
    let v : VolumeState = c.args.volume.now in
    let k : ℕ = root_key_length d.types in
    let R : ℕ → Type 0 = λ length. AreRows length v c.rows_down.new.rows.items in
    let L : List Standing → Type 0 = λ rows. AreRows k v rows in
    let rows = subst L (sym c.deref.ensures.value) (subst R c.root_key_length.ensures.value (c.in_ok-rows_down.ensures.rows sound)) in
    let all = c.in_ok-faults.ensures.faults d v (c.requires.of sound) (c.requires.later sound) (c.requires.blocks sound) rows c.block_size-size.ensures.value in
    listed-some d v 10 c.in_ok-faults.faults.items all c.listed.result (omega arith) (c.requires.before sound) c.listed.ensures.some

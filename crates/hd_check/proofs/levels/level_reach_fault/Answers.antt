use Rattle.std.proofs.Common.{ℕ, List, sym, subst}
use Rattle.hd_dbd.specs.Hierarchy.{Database}
use Rattle.hd_volume.specs.Volumes.{VolumeState}
use Rattle.hd_volume.specs.Indexes.{root_key_length}
use Rattle.hd_check_index.specs.declared.rows.Standing.{Standing}
use Rattle.hd_check_index.specs.Rows.{AreRows}
use Rattle.hd_check.proofs.LevelsFound.{reach-found}
use Rattle.hd_check.proofs.levels.level_reach_fault.Goals as goal

pub returns-clause-none : goal.returns-clause-none
returns-clause-none g c = λ sound.
    let d : Database = c.args.dbd.now in
    let v : VolumeState = c.args.volume.now in
    let k : ℕ = root_key_length d.types in
    let R : ℕ → Type 0 = λ length. AreRows length v c.rows_down.new.rows.items in
    let L : List Standing → Type 0 = λ rows. AreRows k v rows in
    let rows = subst L (sym c.deref.ensures.value) (subst R c.root_key_length.ensures.value (c.in_ok-rows_down.ensures.rows sound)) in
    let at = c.in_ok-found.ensures.found k v (c.requires.blocks sound) (c.requires.forms sound) rows in
    (reach-found d v (c.requires.of sound) (c.requires.later sound) c.block_size-size.result c.in_ok-found.found c.fault_at.result (c.requires.before sound) c.block_size-size.ensures.value at
    (record { none = c.fault_at.ensures.none; some = c.fault_at.ensures.some })).0

pub returns-clause-some : goal.returns-clause-some
returns-clause-some g c = λ sound.
    let d : Database = c.args.dbd.now in
    let v : VolumeState = c.args.volume.now in
    let k : ℕ = root_key_length d.types in
    let R : ℕ → Type 0 = λ length. AreRows length v c.rows_down.new.rows.items in
    let L : List Standing → Type 0 = λ rows. AreRows k v rows in
    let rows = subst L (sym c.deref.ensures.value) (subst R c.root_key_length.ensures.value (c.in_ok-rows_down.ensures.rows sound)) in
    let at = c.in_ok-found.ensures.found k v (c.requires.blocks sound) (c.requires.forms sound) rows in
    (reach-found d v (c.requires.of sound) (c.requires.later sound) c.block_size-size.result c.in_ok-found.found c.fault_at.result (c.requires.before sound) c.block_size-size.ensures.value at
    (record { none = c.fault_at.ensures.none; some = c.fault_at.ensures.some })).1

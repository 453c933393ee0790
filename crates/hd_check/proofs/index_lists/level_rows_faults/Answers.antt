use Rattle.std.proofs.Common.{Ok, ℕ, List, sym, subst, ◌∙◌}
use Rattle.hd_dbd.specs.Hierarchy.{Database}
use Rattle.hd_volume.specs.Volumes.{VolumeState}
use Rattle.hd_volume.specs.Indexes.{root_key_length}
use Rattle.hd_volume.proofs.CallSteps.{reads-join, if-ok}
use Rattle.hd_volume.proofs.PutLemmas.{if-none-map}
use Rattle.hd_index_blocks.specs.Faultless.{AreNamedOnce, AreAllReached}
use Rattle.hd_image.proofs.OneImage.{volume-same}
use Rattle.hd_check_index.specs.declared.rows.Standing.{Standing}
use Rattle.hd_check_index.specs.Rows.{AreRows}
use Rattle.hd_check_pointers.proofs.RecordSteps.{from-none}
use Rattle.hd_check.proofs.OneStore.{IsOne, turned, level-forms-same, level-table-same, reached-same, rows-same, levels-same}
use Rattle.hd_check.proofs.LevelPhases.{level-9, level-10, level-11}
use Rattle.hd_check.proofs.Joined.{still-sound, was-sound, read-one}
use Rattle.hd_check.proofs.IndexLists.{none-of-index-same, index-found-same}
use Rattle.hd_check.proofs.index_lists.level_rows_faults.Goals as goal

pub level_reach_faults-requires-clause-blocks : goal.level_reach_faults-requires-clause-blocks
level_reach_faults-requires-clause-blocks g c = λ now.
    let sound = was-sound c.in_ok-found.ensures.read now in
    level-table-same c.args.volume.now c.level_names_faults.new.volume (read-one c.in_ok-found.ensures.read sound) c.args.blocks.now (c.requires.blocks sound)

pub level_reach_faults-requires-clause-forms : goal.level_reach_faults-requires-clause-forms
level_reach_faults-requires-clause-forms g c = λ now.
    let sound = was-sound c.in_ok-found.ensures.read now in
    level-forms-same c.args.volume.now c.level_names_faults.new.volume (read-one c.in_ok-found.ensures.read sound) (root_key_length c.args.dbd.now.types) (c.requires.forms sound)

pub level_reach_faults-requires-clause-before : goal.level_reach_faults-requires-clause-before
level_reach_faults-requires-clause-before g c = λ now.
    let d : Database = c.args.dbd.now in
    let v : VolumeState = c.args.volume.now in
    let w : VolumeState = c.level_names_faults.new.volume in
    let sound = was-sound c.in_ok-found.ensures.read now in
    let later = c.requires.later sound in
    let once : AreNamedOnce (root_key_length d.types) v = from-none c.in_ok-found.found (sym c.is_some.ensures ∙ c.if-is_some.false) (c.in_ok-found.ensures.none sound) in
    none-of-index-same v w (read-one c.in_ok-found.ensures.read sound) d 10 (level-10 d v later (level-9 d v later (c.requires.forms sound)) once)

pub returns-then-is_some-2-clause-some : goal.returns-then-is_some-2-clause-some
returns-then-is_some-2-clause-some g c = λ sound.
    index-found-same c.level_names_faults.new.volume c.args.volume.now (turned (read-one c.in_ok-found.ensures.read sound)) c.args.dbd.now c.in_ok-found-2.found (c.in_ok-found-2.ensures.some (still-sound c.in_ok-found.ensures.read sound))

pub level_order_faults-requires-clause-of : goal.level_order_faults-requires-clause-of
level_order_faults-requires-clause-of g c = λ now.
    let read = reads-join (Ok c.in_ok-found-2.found) c.in_ok-found.ensures.read c.in_ok-found-2.ensures.read in
    let sound = was-sound read now in
    let e : IsOne c.args.volume.now c.level_reach_faults.new.volume = read-one read sound in
    volume-same c.args.dbd.now c.args.volume.now c.level_reach_faults.new.volume e.image e.size e.sizes (c.requires.of sound)

pub level_order_faults-requires-clause-blocks : goal.level_order_faults-requires-clause-blocks
level_order_faults-requires-clause-blocks g c = λ now.
    let read = reads-join (Ok c.in_ok-found-2.found) c.in_ok-found.ensures.read c.in_ok-found-2.ensures.read in
    let sound = was-sound read now in
    level-table-same c.args.volume.now c.level_reach_faults.new.volume (read-one read sound) c.args.blocks.now (c.requires.blocks sound)

pub level_order_faults-requires-clause-forms : goal.level_order_faults-requires-clause-forms
level_order_faults-requires-clause-forms g c = λ now.
    let read = reads-join (Ok c.in_ok-found-2.found) c.in_ok-found.ensures.read c.in_ok-found-2.ensures.read in
    let sound = was-sound read now in
    level-forms-same c.args.volume.now c.level_reach_faults.new.volume (read-one read sound) (root_key_length c.args.dbd.now.types) (c.requires.forms sound)

pub level_order_faults-requires-clause-rows : goal.level_order_faults-requires-clause-rows
level_order_faults-requires-clause-rows g c = λ now.
    let w : VolumeState = c.level_names_faults.new.volume in
    let x : VolumeState = c.level_reach_faults.new.volume in
    let k : ℕ = root_key_length c.args.dbd.now.types in
    let sound = was-sound c.in_ok-found-2.ensures.read now in
    let own : AreRows k w c.level_reach_faults.new.rows.items = from-none c.in_ok-found-2.found (sym c.is_some-2.ensures ∙ c.if-is_some-2.false) (c.in_ok-found-2.ensures.rows sound) in
    let R : List Standing → Type 0 = λ rows. AreRows k x rows in
    subst R (sym c.deref.ensures.value) (rows-same w x (read-one c.in_ok-found-2.ensures.read sound) k c.level_reach_faults.new.rows.items own)

pub level_order_faults-requires-clause-before : goal.level_order_faults-requires-clause-before
level_order_faults-requires-clause-before g c = λ now.
    let d : Database = c.args.dbd.now in
    let v : VolumeState = c.args.volume.now in
    let w : VolumeState = c.level_names_faults.new.volume in
    let x : VolumeState = c.level_reach_faults.new.volume in
    let k : ℕ = root_key_length d.types in
    let read = reads-join (Ok c.in_ok-found-2.found) c.in_ok-found.ensures.read c.in_ok-found-2.ensures.read in
    let sound = was-sound read now in
    let later = c.requires.later sound in
    let once : AreNamedOnce k v = from-none c.in_ok-found.found (sym c.is_some.ensures ∙ c.if-is_some.false) (c.in_ok-found.ensures.none sound) in
    let reached : AreAllReached k w = from-none c.in_ok-found-2.found (sym c.is_some-2.ensures ∙ c.if-is_some-2.false) (c.in_ok-found-2.ensures.none (still-sound c.in_ok-found.ensures.read sound)) in
    let ten = level-10 d v later (level-9 d v later (c.requires.forms sound)) once in
    none-of-index-same v x (read-one read sound) d 11 (level-11 d v later ten (reached-same w v (turned (read-one c.in_ok-found.ensures.read sound)) k reached))

pub returns-clause-none : goal.returns-clause-none
returns-clause-none g c = if-ok c.level_order_faults.result c.level_order_faults.ensures.none
    (λ o none sound.
    let d : Database = c.args.dbd.now in
    let v : VolumeState = c.args.volume.now in
    let w : VolumeState = c.level_names_faults.new.volume in
    let x : VolumeState = c.level_reach_faults.new.volume in
    let k : ℕ = root_key_length d.types in
    let read = reads-join (Ok c.in_ok-found-2.found) c.in_ok-found.ensures.read c.in_ok-found-2.ensures.read in
    let once : AreNamedOnce k v = from-none c.in_ok-found.found (sym c.is_some.ensures ∙ c.if-is_some.false) (c.in_ok-found.ensures.none sound) in
    let reached : AreAllReached k w = from-none c.in_ok-found-2.found (sym c.is_some-2.ensures ∙ c.if-is_some-2.false) (c.in_ok-found-2.ensures.none (still-sound c.in_ok-found.ensures.read sound)) in
    if-none-map o
    (λ order. (
      record {
        forms = c.requires.forms sound;
        once = once;
        reached = reached-same w v (turned (read-one c.in_ok-found.ensures.read sound)) k reached;
      },
      levels-same x v (turned (read-one read sound)) k order,
    )) (none (still-sound read sound)))

pub returns-clause-some : goal.returns-clause-some
returns-clause-some g c = if-ok c.level_order_faults.result c.level_order_faults.ensures.some
    (λ o some sound.
    let read = reads-join (Ok c.in_ok-found-2.found) c.in_ok-found.ensures.read c.in_ok-found-2.ensures.read in
    index-found-same c.level_reach_faults.new.volume c.args.volume.now (turned (read-one read sound)) c.args.dbd.now o (some (still-sound read sound)))

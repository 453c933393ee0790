use Rattle.std.proofs.Common.{inr, ℕ, List, sym, subst, ◌∙◌, arith}
use Rattle.hd_dbd.specs.Hierarchy.{Database}
use Rattle.hd_volume.specs.Volumes.{VolumeState}
use Rattle.hd_volume.specs.Indexes.{root_key_length}
use Rattle.hd_index_blocks.specs.Faultless.{AreFormsRight}
use Rattle.hd_image.specs.Right.{SetIsFormed, LevelsAreInOrder}
use Rattle.hd_check_index.specs.declared.table.NotedBlock.{NotedBlock}
use Rattle.hd_check_index.specs.Tables.{AreIndexBlocks}
use Rattle.hd_check_pointers.proofs.RecordSteps.{from-none}
use Rattle.hd_check.proofs.OneStore.{IsOne, turned, set-formed-same, level-forms-same, level-table-same, levels-same}
use Rattle.hd_check.proofs.EarlierFaults.{none-of-all}
use Rattle.hd_check.proofs.LevelPhases.{level-9}
use Rattle.hd_check.proofs.Joined.{still-sound, was-sound, read-one, firsts-same, none-same}
use Rattle.hd_check.proofs.levels.levels_fault.Goals as goal

pub level_rows_fault-requires-clause-blocks : goal.level_rows_fault-requires-clause-blocks
level_rows_fault-requires-clause-blocks g c = λ now.
    let v : VolumeState = c.args.volume.now in
    let w : VolumeState = c.level_forms_fault.new.volume in
    let sound = was-sound c.in_ok-found.ensures.read now in
    let all : AreIndexBlocks v c.level_forms_fault.new.blocks.items = from-none c.in_ok-found.found (sym c.is_some.ensures ∙ c.if-is_some.false) (c.in_ok-found.ensures.blocks sound) in
    let T : List NotedBlock → Type 0 = λ bs. AreIndexBlocks w bs in
    subst T (sym c.deref.ensures.value) (level-table-same v w (read-one c.in_ok-found.ensures.read sound) c.level_forms_fault.new.blocks.items all)

pub level_rows_fault-requires-clause-forms : goal.level_rows_fault-requires-clause-forms
level_rows_fault-requires-clause-forms g c = λ now.
    let v : VolumeState = c.args.volume.now in
    let k : ℕ = root_key_length c.args.dbd.now.types in
    let sound = was-sound c.in_ok-found.ensures.read now in
    let forms : AreFormsRight k v = from-none c.in_ok-found.found (sym c.is_some.ensures ∙ c.if-is_some.false) (c.in_ok-found.ensures.none sound) in
    level-forms-same v c.level_forms_fault.new.volume (read-one c.in_ok-found.ensures.read sound) k forms

pub level_rows_fault-requires-clause-before : goal.level_rows_fault-requires-clause-before
level_rows_fault-requires-clause-before g c = λ now.
    let d : Database = c.args.dbd.now in
    let v : VolumeState = c.args.volume.now in
    let sound = was-sound c.in_ok-found.ensures.read now in
    let forms : AreFormsRight (root_key_length d.types) v = from-none c.in_ok-found.found (sym c.is_some.ensures ∙ c.if-is_some.false) (c.in_ok-found.ensures.none sound) in
    none-same d 9 v c.level_forms_fault.new.volume (read-one c.in_ok-found.ensures.read sound) (none-of-all d v 8 9 (omega arith) (c.requires.before sound) (level-9 d v (c.requires.later sound) forms))

pub returns-then-is_some-2-clause-some : goal.returns-then-is_some-2-clause-some
returns-then-is_some-2-clause-some g c = λ sound.
    firsts-same c.args.dbd.now c.args.volume.now c.level_forms_fault.new.volume c.in_ok-found-2.found (read-one c.in_ok-found.ensures.read sound) (c.in_ok-found-2.ensures.some (still-sound c.in_ok-found.ensures.read sound))

pub returns-clause-none : goal.returns-clause-none
returns-clause-none g c = λ sound.
    let v : VolumeState = c.args.volume.now in
    let w : VolumeState = c.level_forms_fault.new.volume in
    let k : ℕ = root_key_length c.args.dbd.now.types in
    let e : IsOne w v = turned (read-one c.in_ok-found.ensures.read sound) in
    let own : SetIsFormed k w × LevelsAreInOrder k w = from-none c.in_ok-found-2.found (sym c.is_some-2.ensures ∙ c.if-is_some-2.false) (c.in_ok-found-2.ensures.none (still-sound c.in_ok-found.ensures.read sound)) in
    let later = c.requires.later sound in
    (inr (later, set-formed-same w v e k own.0), inr (later, levels-same w v e k own.1))

pub returns-clause-sequence : goal.returns-clause-sequence
returns-clause-sequence g c = λ sound.
    let v : VolumeState = c.args.volume.now in
    let w : VolumeState = c.level_forms_fault.new.volume in
    let k : ℕ = root_key_length c.args.dbd.now.types in
    let e : IsOne w v = turned (read-one c.in_ok-found.ensures.read sound) in
    let own : SetIsFormed k w × LevelsAreInOrder k w = from-none c.in_ok-found-2.found (sym c.is_some-2.ensures ∙ c.if-is_some-2.false) (c.in_ok-found-2.ensures.none (still-sound c.in_ok-found.ensures.read sound)) in
    let all : AreIndexBlocks v c.level_forms_fault.new.blocks.items = from-none c.in_ok-found.found (sym c.is_some.ensures ∙ c.if-is_some.false) (c.in_ok-found.ensures.blocks sound) in
    let T : List NotedBlock → Type 0 = λ bs. AreIndexBlocks v bs in
    c.in_ok-note_sequence.ensures.value k v (subst T (sym c.deref-2.ensures.value) all) (c.requires.later sound) (set-formed-same w v e k own.0)

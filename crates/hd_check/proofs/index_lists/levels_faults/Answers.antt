use Rattle.std.proofs.Common.{inr, ℕ, List, sym, subst, ◌∙◌}
use Rattle.hd_volume.specs.Volumes.{VolumeState}
use Rattle.hd_volume.specs.Indexes.{root_key_length}
use Rattle.hd_index_blocks.specs.Faultless.{AreFormsRight}
use Rattle.hd_image.specs.Right.{SetIsFormed, LevelsAreInOrder}
use Rattle.hd_check_index.specs.declared.table.NotedBlock.{NotedBlock}
use Rattle.hd_check_index.specs.Tables.{AreIndexBlocks}
use Rattle.hd_check_pointers.proofs.RecordSteps.{from-none}
use Rattle.hd_check.proofs.OneStore.{IsOne, turned, set-formed-same, level-forms-same, level-table-same, levels-same}
use Rattle.hd_check.proofs.Joined.{still-sound, was-sound, read-one}
use Rattle.hd_check.proofs.IndexLists.{index-found-same}
use Rattle.hd_check.proofs.index_lists.levels_faults.Goals as goal

pub level_rows_faults-requires-clause-blocks : goal.level_rows_faults-requires-clause-blocks
level_rows_faults-requires-clause-blocks g c = λ now.
    let v : VolumeState = c.args.volume.now in
    let w : VolumeState = c.level_forms_faults.new.volume in
    let sound = was-sound c.in_ok-found.ensures.read now in
    let all : AreIndexBlocks v c.level_forms_faults.new.blocks.items = from-none c.in_ok-found.found (sym c.is_some.ensures ∙ c.if-is_some.false) (c.in_ok-found.ensures.blocks sound) in
    let T : List NotedBlock → Type 0 = λ bs. AreIndexBlocks w bs in
    subst T (sym c.deref.ensures.value) (level-table-same v w (read-one c.in_ok-found.ensures.read sound) c.level_forms_faults.new.blocks.items all)

pub level_rows_faults-requires-clause-forms : goal.level_rows_faults-requires-clause-forms
level_rows_faults-requires-clause-forms g c = λ now.
    let v : VolumeState = c.args.volume.now in
    let k : ℕ = root_key_length c.args.dbd.now.types in
    let sound = was-sound c.in_ok-found.ensures.read now in
    let forms : AreFormsRight k v = from-none c.in_ok-found.found (sym c.is_some.ensures ∙ c.if-is_some.false) (c.in_ok-found.ensures.none sound) in
    level-forms-same v c.level_forms_faults.new.volume (read-one c.in_ok-found.ensures.read sound) k forms

pub returns-then-is_some-2-clause-some : goal.returns-then-is_some-2-clause-some
returns-then-is_some-2-clause-some g c = λ sound.
    index-found-same c.level_forms_faults.new.volume c.args.volume.now (turned (read-one c.in_ok-found.ensures.read sound)) c.args.dbd.now c.in_ok-found-2.found (c.in_ok-found-2.ensures.some (still-sound c.in_ok-found.ensures.read sound))

pub returns-clause-none : goal.returns-clause-none
returns-clause-none g c = λ sound.
    let v : VolumeState = c.args.volume.now in
    let w : VolumeState = c.level_forms_faults.new.volume in
    let k : ℕ = root_key_length c.args.dbd.now.types in
    let e : IsOne w v = turned (read-one c.in_ok-found.ensures.read sound) in
    let own : SetIsFormed k w × LevelsAreInOrder k w = from-none c.in_ok-found-2.found (sym c.is_some-2.ensures ∙ c.if-is_some-2.false) (c.in_ok-found-2.ensures.none (still-sound c.in_ok-found.ensures.read sound)) in
    let later = c.requires.later sound in
    (inr (later, set-formed-same w v e k own.0), inr (later, levels-same w v e k own.1))

pub returns-clause-sequence : goal.returns-clause-sequence
returns-clause-sequence g c = λ sound.
    let v : VolumeState = c.args.volume.now in
    let w : VolumeState = c.level_forms_faults.new.volume in
    let k : ℕ = root_key_length c.args.dbd.now.types in
    let e : IsOne w v = turned (read-one c.in_ok-found.ensures.read sound) in
    let own : SetIsFormed k w × LevelsAreInOrder k w = from-none c.in_ok-found-2.found (sym c.is_some-2.ensures ∙ c.if-is_some-2.false) (c.in_ok-found-2.ensures.none (still-sound c.in_ok-found.ensures.read sound)) in
    let all : AreIndexBlocks v c.level_forms_faults.new.blocks.items = from-none c.in_ok-found.found (sym c.is_some.ensures ∙ c.if-is_some.false) (c.in_ok-found.ensures.blocks sound) in
    let T : List NotedBlock → Type 0 = λ bs. AreIndexBlocks v bs in
    c.in_ok-note_sequence.ensures.value k v (subst T (sym c.deref-2.ensures.value) all) (c.requires.later sound) (set-formed-same w v e k own.0)

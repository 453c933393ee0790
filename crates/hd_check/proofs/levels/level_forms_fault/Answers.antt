use Rattle.std.proofs.Common.{List, sym, subst}
use Rattle.hd_volume.specs.Volumes.{VolumeState}
use Rattle.hd_volume.specs.Indexes.{root_key_length}
use Rattle.hd_volume.proofs.CallSteps.{if-ok}
use Rattle.hd_volume.proofs.PutLemmas.{if-none-map}
use Rattle.hd_check_index.specs.declared.table.NotedBlock.{NotedBlock}
use Rattle.hd_check_index.specs.Tables.{AreIndexBlocks}
use Rattle.hd_check.proofs.OneStore.{IsOne, turned, level-forms-same, level-table-same}
use Rattle.hd_check.proofs.Joined.{still-sound, was-sound, read-one, firsts-same, none-same}
use Rattle.hd_check.proofs.levels.level_forms_fault.Goals as goal

pub forms_fault-requires-clause-blocks : goal.forms_fault-requires-clause-blocks
forms_fault-requires-clause-blocks g c = λ now.
    let v : VolumeState = c.args.volume.now in
    let w : VolumeState = c.note_blocks.new.volume in
    let sound = was-sound c.in_ok-note_blocks.ensures.read now in
    let T : List NotedBlock → Type 0 = λ bs. AreIndexBlocks w bs in
    subst T (sym c.deref.ensures.value) (level-table-same v w (read-one c.in_ok-note_blocks.ensures.read sound) c.note_blocks.new.blocks.items (c.in_ok-note_blocks.ensures.blocks sound))

pub forms_fault-requires-clause-before : goal.forms_fault-requires-clause-before
forms_fault-requires-clause-before g c = λ now.
    let sound = was-sound c.in_ok-note_blocks.ensures.read now in
    none-same c.args.dbd.now 8 c.args.volume.now c.note_blocks.new.volume (read-one c.in_ok-note_blocks.ensures.read sound) (c.requires.before sound)

pub returns-clause-none : goal.returns-clause-none
returns-clause-none g c = if-ok c.forms_fault.result c.forms_fault.ensures.none
    (λ o none sound.
    let v : VolumeState = c.args.volume.now in
    let w : VolumeState = c.note_blocks.new.volume in
    let e : IsOne v w = read-one c.in_ok-note_blocks.ensures.read sound in
    if-none-map o (λ forms. level-forms-same w v (turned e) (root_key_length c.args.dbd.now.types) forms) (none (still-sound c.in_ok-note_blocks.ensures.read sound)))

pub returns-clause-some : goal.returns-clause-some
returns-clause-some g c = if-ok c.forms_fault.result c.forms_fault.ensures.some
    (λ o some sound.
    firsts-same c.args.dbd.now c.args.volume.now c.note_blocks.new.volume o (read-one c.in_ok-note_blocks.ensures.read sound) (some (still-sound c.in_ok-note_blocks.ensures.read sound)))

use Rattle.std.proofs.Common.{Ok, ℕ, List, ap, sym, subst, ◌∙◌, arith}
use Rattle.hd_dbd.specs.Hierarchy.{Database}
use Rattle.hd_volume.specs.Headers.{header_of}
use Rattle.hd_volume.specs.Volumes.{VolumeState}
use Rattle.hd_volume.specs.Indexes.{root_key_length}
use Rattle.hd_volume.proofs.CallSteps.{read-ok, reads-join}
use Rattle.hd_index_blocks.specs.Faultless.{AreFormsRight}
use Rattle.hd_image.proofs.OneImage.{volume-same}
use Rattle.hd_check_blocks.specs.Listing.{AreStanding}
use Rattle.hd_check_index.specs.declared.table.NotedBlock.{NotedBlock}
use Rattle.hd_check_index.specs.Tables.{AreIndexBlocks}
use Rattle.hd_check.proofs.OneStore.{IsOne, turned, level-table-same}
use Rattle.hd_check.proofs.Joined.{still-sound, was-sound, read-one}
use Rattle.hd_check.proofs.EarlierFaults.{none-of-index}
use Rattle.hd_check.proofs.FirstFaults.{standing-same}
use Rattle.hd_check.proofs.IndexLists.{set-forms, listed-none, listed-some}
use Rattle.hd_check.proofs.index_lists.level_forms_faults.Goals as goal

pub set_form_faults-requires-clause-of : goal.set_form_faults-requires-clause-of
set_form_faults-requires-clause-of g c = λ now.
    let v : VolumeState = c.args.volume.now in
    let w : VolumeState = c.note_blocks.new.volume in
    let sound = was-sound c.in_ok-note_blocks.ensures.read now in
    let e : IsOne v w = read-one c.in_ok-note_blocks.ensures.read sound in
    volume-same c.args.dbd.now v w e.image e.size e.sizes (c.requires.of sound)

pub set_form_faults-requires-clause-later : goal.set_form_faults-requires-clause-later
set_form_faults-requires-clause-later g c = λ now one.
    let sound = was-sound c.in_ok-note_blocks.ensures.read now in
    let e : IsOne c.args.volume.now c.note_blocks.new.volume = read-one c.in_ok-note_blocks.ensures.read sound in
    c.requires.later sound (sym (ap (λ (i : List ℕ). (header_of i).version) e.image) ∙ one)

pub set_form_faults-requires-clause-blocks : goal.set_form_faults-requires-clause-blocks
set_form_faults-requires-clause-blocks g c = λ now.
    let v : VolumeState = c.args.volume.now in
    let w : VolumeState = c.note_blocks.new.volume in
    let sound = was-sound c.in_ok-note_blocks.ensures.read now in
    let T : List NotedBlock → Type 0 = λ bs. AreIndexBlocks w bs in
    subst T (sym c.deref.ensures.value) (level-table-same v w (read-one c.in_ok-note_blocks.ensures.read sound) c.note_blocks.new.blocks.items (c.in_ok-note_blocks.ensures.blocks sound))

pub returns-clause-read : goal.returns-clause-read
returns-clause-read g c = read-ok c.listed.result (reads-join (Ok c.in_ok-faults.faults) c.in_ok-note_blocks.ensures.read c.in_ok-faults.ensures.read)

pub returns-clause-none : goal.returns-clause-none
returns-clause-none g c = λ sound.
    let d : Database = c.args.dbd.now in
    let v : VolumeState = c.args.volume.now in
    let w : VolumeState = c.note_blocks.new.volume in
    let e : IsOne v w = read-one c.in_ok-note_blocks.ensures.read sound in
    let all : AreStanding d v 8 c.in_ok-faults.faults.items = standing-same w v (turned e) d 8 c.in_ok-faults.faults.items (c.in_ok-faults.ensures.faults (still-sound c.in_ok-note_blocks.ensures.read sound)) in
    listed-none d v 8 c.in_ok-faults.faults.items all (AreFormsRight (root_key_length d.types) v) c.listed.result (set-forms d v (c.requires.later sound)) c.listed.ensures.none

pub returns-clause-some : goal.returns-clause-some
returns-clause-some g c = λ sound.
    let d : Database = c.args.dbd.now in
    let v : VolumeState = c.args.volume.now in
    let w : VolumeState = c.note_blocks.new.volume in
    let e : IsOne v w = read-one c.in_ok-note_blocks.ensures.read sound in
    let all : AreStanding d v 8 c.in_ok-faults.faults.items = standing-same w v (turned e) d 8 c.in_ok-faults.faults.items (c.in_ok-faults.ensures.faults (still-sound c.in_ok-note_blocks.ensures.read sound)) in
    listed-some d v 8 c.in_ok-faults.faults.items all c.listed.result (omega arith) (none-of-index d v) c.listed.ensures.some

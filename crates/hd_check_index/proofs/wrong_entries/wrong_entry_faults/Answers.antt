use Rattle.std.proofs.Common.{◌+◌, ℕ, List, Ok, Err, Result, Vec, Global, IsTrue, slice_index, sym, ap, subst, ◌∙◌, arith}
use Rattle.std.proofs.lemmas.Result.{err_from_is_err_and}
use Rattle.hd_dbd.specs.declared.answer.Refused.{Refused}
use Rattle.hd_volume.specs.Calls.{IsRead}
use Rattle.hd_check_blocks.specs.declared.fault.Fault.{Fault}
use Rattle.hd_dbd.specs.Hierarchy.{Database}
use Rattle.hd_volume.specs.Volumes.{VolumeState}
use Rattle.hd_volume.specs.Indexes.{root_key_length}
use Rattle.hd_volume.proofs.CallSteps.{read-none, read-ok, reads-join}
use Rattle.hd_volume.proofs.PutLemmas.{if-none-map, if-some-map}
use Rattle.hd_image.specs.declared.line.Line.TheVariants.{WrongEntry}
use Rattle.hd_image.proofs.OneImage.{links-same, volume-same}
use Rattle.hd_check_blocks.proofs.PlaceLemmas.{places-same}
use Rattle.hd_check_index.proofs.FormFaults.{place-fits}
use Rattle.hd_index_blocks.proofs.BlockLemmas.{entry-block-same}
use Rattle.hd_check_index.proofs.NamedEntries.{table-entries, all-same, found-same}
use Rattle.hd_check_index.proofs.PassedBlocks.{one-more, naming-at, read-memory}
use Rattle.hd_check_index.proofs.IndexLines.{some-size}
use Rattle.hd_check_index.proofs.NameLists.{AreListedTo, none-wrong, wrong-more, wrong-all}
use Rattle.hd_check_index.proofs.wrong_entries.wrong_entry_faults.Goals as goal

pub loop-block-init : goal.loop-block-init
loop-block-init g c = record {
  read = read-none c.args.volume.now 0;
  listed = λ sound.
      subst (AreListedTo c.args.dbd.now c.args.volume.now c.args.blocks.now 0) (sym c.new-faults.ensures.items)
      (none-wrong c.args.dbd.now c.args.volume.now (some-size c.args.dbd.now c.args.volume.now (c.requires.of sound)) c.args.blocks.now (c.requires.blocks sound));
}

pub wrong_entry-requires-clause-of : goal.wrong_entry-requires-clause-of
wrong_entry-requires-clause-of g c = λ now.
    let i = c.loop-block.invariant in
    let sound : IsTrue c.args.volume.now.is_sound = rw (← i.read.call.sound) now in
    volume-same c.args.dbd.now c.args.volume.now c.loop-block.volume (i.read.image now) i.read.call.size i.read.call.sizes (c.requires.of sound)

pub wrong_entry-requires-clause-places : goal.wrong_entry-requires-clause-places
wrong_entry-requires-clause-places g c = λ now.
    let v : VolumeState = c.args.volume.now in
    let w : VolumeState = c.loop-block.volume in
    let i = c.loop-block.invariant in
    let sound : IsTrue v.is_sound = rw (← i.read.call.sound) now in
    places-same c.args.dbd.now.types v w c.args.places.now (links-same c.args.dbd.now.types v w (i.read.image now) i.read.call.size i.read.call.sizes) (c.requires.places sound)

pub wrong_entry-requires-clause-block : goal.wrong_entry-requires-clause-block
wrong_entry-requires-clause-block g c = λ now.
    let d : Database = c.args.dbd.now in
    let v : VolumeState = c.args.volume.now in
    let w : VolumeState = c.loop-block.volume in
    let i = c.loop-block.invariant in
    let sound : IsTrue v.is_sound = rw (← i.read.call.sound) now in
    let bs : List ℕ = c.args.blocks.now in
    entry-block-same (root_key_length d.types) v w (slice_index bs c.loop-block.block-index) i.read.call.size (i.read.image now)
    (table-entries d v bs (c.requires.blocks sound) c.loop-block.block-index c.loop-block-test.true)

pub returns-in_err-list_fault-clause-read : goal.returns-in_err-list_fault-clause-read
returns-in_err-list_fault-clause-read g c =
    let p = err_from_is_err_and c.from_residual-in_err-list_fault.result c.from_residual-in_err-list_fault.ensures.1 in
    subst (λ (r : Result (Vec Fault Global) Refused). IsRead {T = Vec Fault Global} c.args.volume.now r c.wrong_entry.new.volume) (sym (p.1 ∙ ap Err (p.2 ∙ c.in_err-list_fault.ensures.refusal)))
    (read-memory (reads-join (Ok c.in_ok-found.found) c.loop-block.invariant.read c.in_ok-found.ensures.read))

pub loop-block-preserved : goal.loop-block-preserved
loop-block-preserved g c =
    let d : Database = c.args.dbd.now in
    let v : VolumeState = c.args.volume.now in
    let w : VolumeState = c.loop-block.volume in
    let i = c.loop-block.invariant in
    let k : ℕ = root_key_length d.types in
    let bs : List ℕ = c.args.blocks.now in
    let x : ℕ = c.loop-block.block-index in
    let n : ℕ = (slice_index bs x) in
    record {
      read = read-ok 0 (reads-join (Ok c.in_ok-found.found) i.read c.in_ok-found.ensures.read);
      listed = λ sound.
          (let now : IsTrue w.is_sound = rw i.read.call.sound sound in
          let of = c.requires.of sound in
          let table = c.requires.blocks sound in
          let some = some-size d v of in
          let within = c.loop-block-test.true in
          let found = c.in_ok-found.found in
          let fault = naming-at found WrongEntry n c.block_size-size.result v.size c.fault_naming.result c.block_size-size.ensures.value (place-fits d v n of (table-entries d v bs table x within).is.there) c.fault_naming.ensures in
          subst (AreListedTo d v bs (x + 1)) (sym (one-more c.loop-block.faults.items _ c.fault_naming.result _ c.in_ok-list_fault.ensures.faults fault))
          (wrong-more d v some bs table x found c.loop-block.faults.items within
          (if-none-map found (λ right. all-same d v w k n (i.read.image now) i.read.call.size i.read.call.sizes right) (c.in_ok-found.ensures.none now))
          (if-some-map found (λ a wrong. found-same d v w k n (i.read.image now) i.read.call.size i.read.call.sizes a wrong) (c.in_ok-found.ensures.some now))
          (i.listed sound)));
    }

pub returns-clause-faults : goal.returns-clause-faults
returns-clause-faults g c = λ sound.
    let end = c.loop-block-test.false in
    wrong-all c.args.dbd.now c.args.volume.now (some-size c.args.dbd.now c.args.volume.now (c.requires.of sound)) c.args.blocks.now (c.requires.blocks sound) c.loop-block.block-index c.loop-block.faults.items (omega arith)
    (c.loop-block.invariant.listed sound)

use Rattle.std.proofs.Common.{rules, ◌≡◌, ◌≤◌, ◌<◌, suc, ℕ, length, IsTrue, Ok, refl, arith}
use Rattle.hd_volume.specs.Volumes.{VolumeState}
use Rattle.hd_volume.proofs.CallSteps.{read-ok, read-none, reads-join}
use Rattle.hd_index_blocks.specs.IndexSets.{index_blocks}
use Rattle.hd_check_index.specs.Standings.{all_rows}
use Rattle.hd_check_index.proofs.RowSteps.{noting-starts, noting-kind, noting-more, noting-ends, read-at}
use Rattle.hd_check_index.proofs.rows.note_row.Goals as goal

pub loop-i-init : goal.loop-i-init
loop-i-init g c =
    let v : VolumeState = c.args.volume.now in
    let k : ℕ = c.args.key_length in
    record {
      read = read-none v 0;
      longer = omega arith;
      noting = λ sound. noting-starts (index_blocks k v) (all_rows k v) c.args.level c.args.from c.args.rows.now.items (c.requires.noted sound);
    }

pub index-row-requires : goal.index-row-requires
index-row-requires g c =
    let low : c.loop-i.i < c.len-to.result = c.loop-i-test.true in
    let to : c.len-to.result ≡ length c.args.rows.now.items = search rules in
    let longer : length c.args.rows.now.items ≤ length c.loop-i.rows.items = c.loop-i.invariant.longer in
    let within : c.loop-i.i < length c.loop-i.rows.items = omega arith in
    search rules

pub note_below-requires-clause-block : goal.note_below-requires-clause-block
note_below-requires-clause-block g c = λ now.
    let v : VolumeState = c.args.volume.now in
    let w : VolumeState = c.loop-i.volume in
    let k : ℕ = c.args.key_length in
    let i = c.loop-i.invariant in
    let sound : IsTrue v.is_sound = rw (← i.read.call.sound) now in
    let low : c.loop-i.i < c.len-to.result = c.loop-i-test.true in
    let to : c.len-to.result ≡ length c.args.rows.now.items = search rules in
    let longer : length c.args.rows.now.items ≤ length c.loop-i.rows.items = i.longer in
    noting-kind k v w i.read.call.size (i.read.image now) (c.requires.forms sound) (all_rows k v) c.args.level c.loop-i.i c.args.rows.now.items c.loop-i.rows.items (i.noting sound) (omega arith)
    c.index-row.result.now (read-at c.loop-i.rows.items c.loop-i.i c.index-row.result.now (omega arith) c.index-row.ensures)

pub note_below-requires-clause-least : goal.note_below-requires-clause-least
note_below-requires-clause-least g c =
    let own = c.block_size-least.ensures.value in
    let least = c.block_size-least.ensures.least in
    let size = c.loop-i.invariant.read.call.size in
    omega arith

pub returns-in_err-note_below-clause-read : goal.returns-in_err-note_below-clause-read
returns-in_err-note_below-clause-read g c = search rules

pub loop-i-preserved : goal.loop-i-preserved
loop-i-preserved g c =
    let v : VolumeState = c.args.volume.now in
    let w : VolumeState = c.loop-i.volume in
    let k : ℕ = c.args.key_length in
    let i = c.loop-i.invariant in
    let low : c.loop-i.i < c.len-to.result = c.loop-i-test.true in
    let to : c.len-to.result ≡ length c.args.rows.now.items = search rules in
    let longer : length c.args.rows.now.items ≤ length c.loop-i.rows.items = i.longer in
    let more : length c.loop-i.rows.items ≤ length c.note_below.new.rows.items = c.in_ok-note_below.ensures.longer in
    record {
      read = read-ok 0 (reads-join (Ok c.in_ok-note_below.field-0) i.read c.in_ok-note_below.ensures.read);
      longer = omega arith;
      noting = λ sound.
          (let now : IsTrue w.is_sound = rw i.read.call.sound sound in
          noting-more k v w i.read.call.size (i.read.image now) (c.requires.forms sound) (all_rows k v) c.args.level c.loop-i.i c.args.rows.now.items c.loop-i.rows.items (i.noting sound) (omega arith)
          c.index-row.result.now (read-at c.loop-i.rows.items c.loop-i.i c.index-row.result.now (omega arith) c.index-row.ensures)
          c.note_below.new.rows.items (c.in_ok-note_below.ensures.named now));
    }

pub returns-clause-read : goal.returns-clause-read
returns-clause-read g c = read-ok _ c.loop-i.invariant.read

pub returns-clause-noted : goal.returns-clause-noted
returns-clause-noted g c = λ sound.
    let v : VolumeState = c.args.volume.now in
    let k : ℕ = c.args.key_length in
    let high : c.len-to.result ≤ c.loop-i.i = c.loop-i-test.false in
    let to : c.len-to.result ≡ length c.args.rows.now.items = search rules in
    noting-ends (index_blocks k v) (all_rows k v) c.args.level c.loop-i.i c.args.rows.now.items c.loop-i.rows.items (c.loop-i.invariant.noting sound) (omega arith)
    (λ n m on a. ((c.requires.forms sound).blocks n (suc c.args.level) on).names c.args.level m refl a)

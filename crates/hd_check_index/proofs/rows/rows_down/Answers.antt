use Rattle.std.proofs.Common.{rules, ◌≡◌, ◌≤◌, ◌<◌, ◌++◌, ◌∷◌, [], ◌-◌, suc, ℕ, List, length, IsTrue, Ok, sym, ap, ◌∙◌, subst, arith}
use Rattle.hd_volume.specs.Volumes.{VolumeState}
use Rattle.hd_volume.proofs.CallSteps.{read-ok, read-none, reads-join}
use Rattle.hd_index_blocks.specs.IndexSets.{index_blocks}
use Rattle.hd_check_index.specs.declared.rows.Standing.{Standing}
use Rattle.hd_check_index.specs.Standings.{all_rows, AreNotedTo}
use Rattle.hd_check_index.proofs.RowSteps.{top-noted, noted-all, noted-same, noted-back, forms-same}
use Rattle.hd_check_index.proofs.rows.rows_down.Goals as goal

pub loop-level-init : goal.loop-level-init
loop-level-init g c =
    let v : VolumeState = c.args.volume.now in
    let own : Standing = record { number = c.args.top; level = c.args.height - 1 } in
    let pushed : c.push.new.self.items ≡ c.args.rows.now.items ++ (own ∷ []) = search rules in
    let one : c.push.new.self.items ≡ own ∷ [] = pushed ∙ ap (λ (t : List Standing). t ++ (own ∷ [])) c.requires.empty in
    let some : 0 < c.args.top = search rules in
    record {
      read = read-none v 0;
      noted = λ sound. top-noted c.args.key_length v c.args.top c.args.height c.push.new.self.items (c.requires.forms sound) (c.requires.top sound) (c.requires.height sound) some one;
    }

pub note_row-requires-clause-forms : goal.note_row-requires-clause-forms
note_row-requires-clause-forms g c = λ now.
    let v : VolumeState = c.args.volume.now in
    let i = c.loop-level.invariant in
    let sound : IsTrue v.is_sound = rw (← i.read.call.sound) now in
    forms-same c.args.key_length v c.loop-level.volume i.read.call.size (i.read.image now) (c.requires.forms sound)

pub note_row-requires-clause-noted : goal.note_row-requires-clause-noted
note_row-requires-clause-noted g c = λ now.
    let v : VolumeState = c.args.volume.now in
    let w : VolumeState = c.loop-level.volume in
    let k : ℕ = c.args.key_length in
    let i = c.loop-level.invariant in
    let sound : IsTrue v.is_sound = rw (← i.read.call.sound) now in
    let more : 0 < c.loop-level.level = c.loop-level-test.true in
    let up : c.loop-level.level ≡ suc (c.loop-level.level - 1) = omega arith in
    let N : ℕ → Type 0 = λ l. AreNotedTo (index_blocks k w) (all_rows k w) l c.loop-level.from c.loop-level.rows.items in
    subst N up (noted-same k v w i.read.call.size (i.read.image now) c.loop-level.level c.loop-level.from c.loop-level.rows.items (i.noted sound))

pub returns-in_err-note_row-clause-read : goal.returns-in_err-note_row-clause-read
returns-in_err-note_row-clause-read g c = search rules

pub loop-level-preserved : goal.loop-level-preserved
loop-level-preserved g c =
    let v : VolumeState = c.args.volume.now in
    let w : VolumeState = c.loop-level.volume in
    let k : ℕ = c.args.key_length in
    let i = c.loop-level.invariant in
    let to : c.len-to.result ≡ length c.loop-level.rows.items = search rules in
    let N : ℕ → Type 0 = λ from. AreNotedTo (index_blocks k v) (all_rows k v) (c.loop-level.level - 1) from c.note_row.new.rows.items in
    record {
      read = read-ok 0 (reads-join (Ok c.in_ok-note_row.field-0) i.read c.in_ok-note_row.ensures.read);
      noted = λ sound.
          (let now : IsTrue w.is_sound = rw i.read.call.sound sound in
          subst N (sym to)
          (noted-back k v w i.read.call.size (i.read.image now) (c.loop-level.level - 1) (length c.loop-level.rows.items) c.note_row.new.rows.items (c.in_ok-note_row.ensures.noted now)));
    }

pub returns-clause-read : goal.returns-clause-read
returns-clause-read g c = read-ok _ c.loop-level.invariant.read

pub returns-clause-rows : goal.returns-clause-rows
returns-clause-rows g c = λ sound.
    let v : VolumeState = c.args.volume.now in
    let k : ℕ = c.args.key_length in
    let end : c.loop-level.level ≤ 0 = c.loop-level-test.false in
    noted-all (index_blocks k v) (all_rows k v) c.loop-level.level c.loop-level.from c.loop-level.rows.items (c.loop-level.invariant.noted sound) (omega arith)

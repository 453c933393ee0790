use Rattle.std.proofs.Common.{◌≡◌, IsTrue, List, ℕ, take, ap, ◌∙◌}
use Rattle.hd_bytes.specs.Ranges.{bytes_at, with_bytes}
use Rattle.hd_volume.specs.Volumes.{block_at}
use Rattle.hd_index.specs.Edits.{HasNewBytes}
use Rattle.hd_volume.proofs.JoinLemmas.{read-one}
use Rattle.hd_index.proofs.EditLemmas.{edit-before, one-block-at}
use Rattle.hd_index.proofs.bytes.copy_chunk.Goals as goal

pub returns-clause-copied : goal.returns-clause-copied
returns-clause-copied g c sound =
    let u = c.args.volume.now in
    let v = c.read_chunk.new.volume in
    let now : IsTrue v.is_sound = rw c.in_ok-read_chunk.ensures.read.call.sound sound in
    let h : HasNewBytes v c.args.target (with_bytes (block_at v c.args.target) c.args.to (take c.args.len c.read_chunk.new.chunk)) c.write_part.new.volume = c.in_ok-write_part.ensures.written now in
    let one = read-one c.in_ok-read_chunk.ensures.read now in
    let part : take c.args.len c.read_chunk.new.chunk ≡ bytes_at (block_at u c.args.source) c.args.from c.args.len = c.in_ok-read_chunk.ensures.value sound in
    record {
      edit = edit-before c.args.target one h.edit;
      value = h.value ∙ ap (λ (x : List ℕ). with_bytes x c.args.to (take c.args.len c.read_chunk.new.chunk)) (one-block-at one c.args.target) ∙ ap (with_bytes (block_at u c.args.target) c.args.to) part;
    }

use Rattle.std.proofs.Common.{ℕ, IsTrue, List, arith}
use Rattle.hd_bytes.specs.Ranges.{with_bytes}
use Rattle.hd_volume.specs.Volumes.{block_at}
use Rattle.hd_index.specs.EditedBlocks.{IsIndexBlock}
use Rattle.hd_index.specs.Edits.{HasNewBytes}
use Rattle.hd_index.proofs.CallLemmas.{on-ok-map}
use Rattle.hd_index.proofs.EntryEdits.{next-edit}
use Rattle.hd_index.proofs.edit.set_next.Goals as goal

pub returns-clause-changed : goal.returns-clause-changed
returns-clause-changed g c =
    let u = c.args.volume.now in
    let w = c.write_part.new.volume in
    let n : ℕ = c.args.n in
    let four : List ℕ = c.four_bytes.result in
    let least = c.requires.least in
    on-ok-map c.write_part.result
    (λ (last : IsTrue u.is_sound → HasNewBytes u n (with_bytes (block_at u n) 8 four) w) (sound : IsTrue u.is_sound) (k : ℕ) (is : IsIndexBlock k u n).
    next-edit k u w n four c.args.next is (omega arith) c.four_bytes.ensures.len c.four_bytes.ensures.value (last sound))
    c.write_part.ensures.written

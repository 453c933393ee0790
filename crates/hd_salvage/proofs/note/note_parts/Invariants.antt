use Rattle.std.proofs.Common.{ℕ}
use Rattle.hd_block.specs.Walk.{parts_in}
use Rattle.hd_block.specs.declared.parts.Part.TheVariants.{Used}
use Rattle.hd_salvage.specs.Records.{NotesOnly}
use Rattle.hd_salvage.proofs.Noting.{IsAmong}
use Rattle.hd_salvage.proofs.note.note_parts.Given as goal

-- what is noted is of this block, and the parts that are left are among its parts
abbrev pub invariant-loop-part : goal.invariant-loop-part
invariant-loop-part l = record {
  noted : NotesOnly l.sizes l.block l.n l.fn.records.items l.records.items;
  left : (place size : ℕ) → IsAmong (Used place size) l.part-iterator → IsAmong (Used place size) (parts_in l.sizes l.block);
}

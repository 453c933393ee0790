use Rattle.std.proofs.Common.{◌≡◌, slice_index}
use Rattle.hd_block.specs.Walk.{parts_in}
use Rattle.hd_volume.specs.Records.{used_at}
use Rattle.hd_show.proofs.seen.used_length.Given as goal

-- what stands at the place is not among the parts that were passed
abbrev pub invariant-loop-part : goal.invariant-loop-part
invariant-loop-part l = used_at l.part-iterator l.place ≡ used_at (parts_in l.sizes l.block) l.place

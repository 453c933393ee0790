use Rattle.std.proofs.Common.{◌≡◌, ◌++◌, take}
use Rattle.hd_check_walk.specs.Notes.{named_in}
use Rattle.hd_check_walk.proofs.notes.note_each_child.Given as goal

-- the children of the types before are noted
abbrev pub invariant-loop-child : goal.invariant-loop-child
invariant-loop-child l = l.named.items ≡ l.fn.named.items ++ named_in l.dbd.types l.code l.segment (take l.child-index l.child-items)

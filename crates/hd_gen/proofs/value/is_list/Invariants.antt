use Rattle.std.proofs.Common.{◌≡◌, ◌≤◌, ◌+◌, length}
use Rattle.hd_gen.specs.Values.{is_list}
use Rattle.hd_gen.proofs.value.is_list.Given as goal

-- the text is a list just where the rest is one behind so many open brackets, which are no more than the bytes before it
abbrev pub invariant-bytes : goal.invariant-bytes
invariant-bytes l = (is_list 0 l.text ≡ is_list l.depth l.rest) × (l.depth + length l.rest ≤ length l.text)

abbrev pub decreases-bytes : goal.decreases-bytes
decreases-bytes l = length l.rest

use Rattle.std.proofs.Common.{length}
use Rattle.hd_dbd.proofs.keys.+compare_many.Given as goal

-- each call has eight bytes less
abbrev pub decreases-compare_many : goal.decreases-compare_many
decreases-compare_many l = length l.one.now

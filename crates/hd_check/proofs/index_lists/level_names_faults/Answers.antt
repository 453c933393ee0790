use Rattle.std.proofs.Common.{arith}
use Rattle.hd_volume.specs.Indexes.{root_key_length}
use Rattle.hd_index_blocks.specs.Faultless.{AreNamedOnce}
use Rattle.hd_check.proofs.LevelPhases.{level-9}
use Rattle.hd_check.proofs.IndexLists.{set-once, listed-none, listed-some}
use Rattle.hd_check.proofs.index_lists.level_names_faults.Goals as goal

pub returns-clause-none : goal.returns-clause-none
returns-clause-none g c = λ sound.
    listed-none c.args.dbd.now c.args.volume.now 9 c.in_ok-faults.faults.items (c.in_ok-faults.ensures.faults sound) (AreNamedOnce (root_key_length c.args.dbd.now.types) c.args.volume.now) c.listed.result
    (set-once c.args.dbd.now c.args.volume.now (c.requires.later sound)) c.listed.ensures.none

pub returns-clause-some : goal.returns-clause-some
returns-clause-some g c = λ sound.
    listed-some c.args.dbd.now c.args.volume.now 9 c.in_ok-faults.faults.items (c.in_ok-faults.ensures.faults sound) c.listed.result (omega arith) (level-9 c.args.dbd.now c.args.volume.now (c.requires.later sound) (c.requires.forms sound)) c.listed.ensures.some

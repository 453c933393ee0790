use Rattle.std.proofs.Common.{sym, ◌∙◌}
use Rattle.hd_check.proofs.phases.index_blocks_fault.Goals as goal

pub chain_fault-requires-clause-version : goal.chain_fault-requires-clause-version
chain_fault-requires-clause-version g c = λ sound. sym (c.version.ensures sound (c.requires.of sound).formatted.header.first) ∙ c.if-version-eq1.true

pub levels_fault-requires-clause-later : goal.levels_fault-requires-clause-later
levels_fault-requires-clause-later g c = λ sound one. c.if-version-eq1.false (c.version.ensures sound (c.requires.of sound).formatted.header.first ∙ one)

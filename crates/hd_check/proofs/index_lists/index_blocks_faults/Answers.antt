use Rattle.std.proofs.Common.{sym, ◌∙◌}
use Rattle.hd_check.proofs.index_lists.index_blocks_faults.Goals as goal

pub chain_faults-requires-clause-version : goal.chain_faults-requires-clause-version
chain_faults-requires-clause-version g c = λ sound. sym (c.version.ensures sound (c.requires.of sound).formatted.header.first) ∙ c.if-version-eq1.true

pub levels_faults-requires-clause-later : goal.levels_faults-requires-clause-later
levels_faults-requires-clause-later g c = λ sound one. c.if-version-eq1.false (c.version.ensures sound (c.requires.of sound).formatted.header.first ∙ one)

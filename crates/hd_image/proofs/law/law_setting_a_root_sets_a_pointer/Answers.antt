use Rattle.hd_image.proofs.Roots.{setting-root}
use Rattle.hd_image.proofs.law.law_setting_a_root_sets_a_pointer.Goals as goal

pub returns : goal.returns
returns c = setting-root

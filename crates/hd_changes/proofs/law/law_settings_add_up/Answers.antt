use Rattle.hd_changes.proofs.SetRows.{setting-begins, setting-goes-on, setting-follows}
use Rattle.hd_changes.proofs.law.law_settings_add_up.Goals as goal

pub returns-clause-begin : goal.returns-clause-begin
returns-clause-begin c = setting-begins

pub returns-clause-more : goal.returns-clause-more
returns-clause-more c = setting-goes-on

pub returns-clause-follows : goal.returns-clause-follows
returns-clause-follows c = setting-follows

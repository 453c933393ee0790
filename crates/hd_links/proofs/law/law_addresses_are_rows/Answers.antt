use Rattle.hd_links.proofs.Numbers.{rows_addressed}
use Rattle.hd_links.proofs.law.law_addresses_are_rows.Goals as goal

pub returns : goal.returns
returns c types m f holds = rows_addressed types m f holds

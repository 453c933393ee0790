use Rattle.hd_links.proofs.RowChanges.{bytes_in}
use Rattle.hd_links.proofs.law.law_bytes_change_one_row.Goals as goal

pub returns : goal.returns
returns c types m f i bytes holds within = bytes_in types m f i bytes holds within

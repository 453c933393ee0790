use Rattle.hd_image.proofs.Found.{records-link}
use Rattle.hd_image.proofs.law.law_records_are_a_link_graph.Goals as goal

pub returns : goal.returns
returns c = records-link

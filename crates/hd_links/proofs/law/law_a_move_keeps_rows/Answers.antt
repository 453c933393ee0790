use Rattle.hd_links.proofs.Moving.{rows_same, address_to, path_to}
use Rattle.hd_links.proofs.law.law_a_move_keeps_rows.Goals as goal

pub returns : goal.returns
returns c types f a b = (rows_same a b f, λ some i. (address_to a b some f i, path_to a b types some f i))

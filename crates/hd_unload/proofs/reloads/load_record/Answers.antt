use Rattle.std.proofs.Common.{refl, sym}
use Rattle.hd_unload.proofs.reloads.load_record.Goals as goal

pub returns-in-Err-Full-clause-fault : goal.returns-in-Err-Full-clause-fault
returns-in-Err-Full-clause-fault g c = (refl, sym c.in_default.ensures, c.in-Err-Full.ensures.full c.in-Err-Full.field-0-is)

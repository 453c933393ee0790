use Rattle.hd_unload.proofs.HeldStreams.{held-stream}
use Rattle.hd_unload.proofs.law.law_held_rows_have_a_stream.Goals as goal

pub returns : goal.returns
returns c = held-stream

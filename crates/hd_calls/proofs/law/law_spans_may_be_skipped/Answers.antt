use Rattle.hd_dbd.specs.Paths.{end_of}
use Rattle.hd_calls.proofs.Searches.{skipped}
use Rattle.hd_calls.proofs.law.law_spans_may_be_skipped.Goals as goal

pub returns : goal.returns
returns c types rows test i begin end low none = skipped test begin (end_of types rows i) end low none

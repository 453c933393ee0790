use Rattle.std.proofs.Common.{refl}
use Rattle.hd_links.specs.Steps.{rows_of}
use Rattle.hd_unload.proofs.Writing.{stream-whole}
use Rattle.hd_unload.proofs.stream.write_stream.Goals as goal

pub returns-clause-written : goal.returns-clause-written
returns-clause-written g c = λ sound.
    let held = (c.requires.holds sound).1 in
    let records = c.in_ok-count.ensures.records sound held.0 held.2 in
    record {
      rows = rows_of held.0;
      holds = (held.0, refl, held.2);
      stream = stream-whole c.args.dbd.now (rows_of held.0) c.in_ok-count.count c.head_of.result _ _ _ _ c.head_of.ensures records.0 c.in_ok-put.ensures.bytes records.1 c.in_ok-put_end.ensures.end;
      segments_are = records.0;
    }

use Rattle.std.proofs.Common.{sym, subst, List, ℕ}
use Rattle.std.specs.Io.KnownBytes.{Appends}
use Rattle.hd_prefix.specs.Fields.{code_of, bytes_of}
use Rattle.hd_forest.proofs.Reading.{lent}
use Rattle.hd_unload.specs.Streams.{record_bytes}
use Rattle.hd_unload.proofs.stream.write_record.Goals as goal

pub returns-in_ok-put_record-in-Ok-clause-record : goal.returns-in_ok-put_record-in-Ok-clause-record
returns-in_ok-put_record-in-Ok-clause-record g c = λ sound.
    let d = c.args.dbd.now in
    let of = c.requires.of sound in
    let l = lent d c.args.volume.now c.args.address c.in-Ok.segment.now of.fit of (c.requires.there sound) (c.in-Ok.ensures.value sound) in
    subst (λ (s : List ℕ). Appends (g.W.Write.contents c.args.out.now) (g.W.Write.contents c.put_record.new.out) (record_bytes (record { code = code_of s; bytes = bytes_of d.types (code_of s) s })))
    (sym l.stored) (c.in_ok-put_record-in-Ok.ensures.record l.whole)

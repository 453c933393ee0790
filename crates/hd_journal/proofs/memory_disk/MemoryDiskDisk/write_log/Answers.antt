use Rattle.std.proofs.Common.{◌∙◌}
use Rattle.hd_journal.proofs.Kept.{IsKept, writes-log}
use Rattle.hd_journal.proofs.memory_disk.MemoryDiskDisk.write_log.Goals as goal

pub returns-clause-writes : goal.returns-clause-writes
returns-clause-writes c h =
    let k = c.in-Ok-keep.ensures.kept in
    let kept : IsKept c.args.self.now.past.items c.args.self.now.log.items c.args.self.now.volume.items c.keep.new.past.items =
    record { pair = k.0; log_is = k.1 ∙ c.deref-2.ensures.value; volume_is = k.2 ∙ c.deref-3.ensures.value; pushed = k.3 } in
    writes-log _ _ kept (rw c.deref.ensures.value at c.in-Ok.ensures.torn)

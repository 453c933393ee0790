use Rattle.std.proofs.Common.{rules, ◌≡◌}
use Rattle.hd_journal.proofs.memory_disk.keep.Goals as goal

pub returns-clause-kept : goal.returns-clause-kept
returns-clause-kept c =
    let log : c.in_ok-to_vec.field-0.items ≡ c.args.log.now = search rules in
    let volume : c.in_ok-to_vec-2.field-0.items ≡ c.args.volume.now = search rules in
    (record { log = c.in_ok-to_vec.field-0; volume = c.in_ok-to_vec-2.field-0 }, log, volume, c.in_ok-push.ensures.items)

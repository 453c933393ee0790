use Rattle.std.proofs.Common.{◌++◌, ℕ, List, Option, sym, ap, ◌∙◌}
use Rattle.hd_volume.proofs.CallSteps.{if-ok}
use Rattle.hd_prefix.specs.Fields.{delete_byte_of}
use Rattle.hd_image.specs.Records.{links_of}
use Rattle.hd_check_blocks.specs.declared.fault.Fault.{Fault}
use Rattle.hd_check_blocks.specs.Listing.{faults_of}
use Rattle.hd_check_pointers.proofs.RecordLists.{segment-listed}
use Rattle.hd_check_pointers.proofs.record_pointers.list_segment.Goals as goal

pub returns-clause-faults : goal.returns-clause-faults
returns-clause-faults c = if-ok c.list_pointers.result c.list_pointers.ensures.faults (λ x rest v places lent.
    segment-listed c.args.dbd.now.types (links_of c.args.dbd.now.types v) c.args.address c.from.result c.judge_segment.result c.args.faults.now.items c.list_fault.new.faults.items c.list_pointers.new.faults.items
    lent.some (c.from.ensures ∙ c.delete_byte_of-delete_byte.ensures ∙ ap delete_byte_of (sym lent.stored)) (c.judge_segment.ensures v c.args.address places lent.stored lent.some)
    (c.in_ok-list_fault.ensures.faults ∙ ap (λ (o : Option Fault). c.args.faults.now.items ++ faults_of o) c.fault_if.ensures) rest)

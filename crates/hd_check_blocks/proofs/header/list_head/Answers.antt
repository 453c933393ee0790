use Rattle.std.proofs.Common.{◌≡◌, ◌++◌, ℕ, Option, sym, ap, subst, ◌∙◌}
use Rattle.hd_volume.proofs.CallSteps.{if-ok}
use Rattle.hd_volume.specs.Headers.{header_of}
use Rattle.hd_image.specs.BlockFaults.{IsKnownVersion}
use Rattle.hd_image.specs.declared.line.Line.TheVariants.{NoVersion}
use Rattle.hd_check_blocks.specs.declared.fault.Fault.{Fault}
use Rattle.hd_check_blocks.specs.Listing.{faults_of, fault_unless}
use Rattle.hd_check_blocks.proofs.Listing.{three-listed}
use Rattle.hd_check_blocks.proofs.header.list_head.Goals as goal

pub returns-clause-faults : goal.returns-clause-faults
returns-clause-faults c = if-ok c.list_fault-3.result c.list_fault-3.ensures.faults (λ x third long.
    let version : c.from.result ≡ (header_of c.args.head.now).version = c.from.ensures ∙ c.read_u16-version.ensures in
    record {
      counts = c.counts_image-counts.result;
      known = c.is_known-known.result;
      named = c.is_of-named.result;
      new_is = three-listed c.args.faults.now.items c.list_fault.new.faults.items c.list_fault-2.new.faults.items c.list_fault-3.new.faults.items _ _ _
          (c.in_ok-list_fault.ensures.faults ∙ ap (λ (o : Option Fault). c.args.faults.now.items ++ faults_of o) c.fault_unless.ensures)
          (c.in_ok-list_fault-2.ensures.faults ∙ ap (λ (o : Option Fault). c.list_fault.new.faults.items ++ faults_of o) (c.fault_unless-2.ensures ∙ ap (λ (n : ℕ). fault_unless c.is_known-known.result NoVersion n) version))
          (third ∙ ap (λ (o : Option Fault). c.list_fault-2.new.faults.items ++ faults_of o) c.fault_unless-3.ensures);
      counts_right = c.counts_image-counts.ensures.right;
      counts_wrong = c.counts_image-counts.ensures.wrong;
      known_right = λ is. subst (IsKnownVersion c.args.dbd.now.types) c.read_u16-version.ensures (c.is_known-known.ensures.right is);
      known_wrong = λ is known. c.is_known-known.ensures.wrong is (subst (IsKnownVersion c.args.dbd.now.types) (sym c.read_u16-version.ensures) known);
      named_right = c.is_of-named.ensures.right;
      named_wrong = c.is_of-named.ensures.wrong;
    })

use Rattle.std.proofs.Common.{◌++◌, ℕ, List, Option, sym, ap, subst, ◌∙◌, arith}
use Rattle.hd_volume.proofs.CallSteps.{if-ok}
use Rattle.hd_volume.proofs.PutLemmas.{if-some-map}
use Rattle.hd_prefix.specs.Fields.{IsWhole}
use Rattle.hd_check_blocks.specs.declared.fault.Fault.{Fault}
use Rattle.hd_check_blocks.specs.Listing.{faults_of}
use Rattle.hd_check_blocks.proofs.Listing.{two-listed}
use Rattle.hd_check_pointers.specs.Tables.{place_at}
use Rattle.hd_check_pointers.proofs.TwinPointers.{lent-code}
use Rattle.hd_check_pointers.proofs.twins.list_twin_pointers.Goals as goal

pub returns-then-segment-prefix_length-clause-faults : goal.returns-then-segment-prefix_length-clause-faults
returns-then-segment-prefix_length-clause-faults c = λ v M F O here prec.
    let code = lent-code c.args.dbd.now v c.args.places.now M c.args.number c.args.segment.now c.requires.within here in
    let whole : IsWhole c.args.dbd.now.types (place_at c.args.places.now c.args.number).code c.args.segment.now =
    subst (λ (x : ℕ). IsWhole c.args.dbd.now.types x c.args.segment.now) (sym code) here.whole in
    let size = c.prefix_length.ensures in
    let short = c.if-segment-prefix_length.true in
    absurd (omega arith)

pub returns-clause-faults : goal.returns-clause-faults
returns-clause-faults c = if-ok c.list_fault-2.result c.list_fault-2.ensures.faults (λ x second v M F O here prec. record {
  backward = c.wrong_backward-backward.result;
  last = c.wrong_last-last.result;
  new_is = two-listed c.args.faults.now.items c.list_fault.new.faults.items c.list_fault-2.new.faults.items _ _
      (c.in_ok-list_fault.ensures.faults ∙ ap (λ (o : Option Fault). c.args.faults.now.items ++ faults_of o) c.fault_with.ensures)
      (second ∙ ap (λ (o : Option Fault). c.list_fault.new.faults.items ++ faults_of o) c.fault_with-2.ensures);
  backward_none = c.wrong_backward-backward.ensures.none v M here prec;
  backward_some = if-some-map c.wrong_backward-backward.result (λ y w. w.1) (c.wrong_backward-backward.ensures.some v M here prec);
  last_none = c.wrong_last-last.ensures.none v M F O here;
  last_some = c.wrong_last-last.ensures.some v M F O here;
})

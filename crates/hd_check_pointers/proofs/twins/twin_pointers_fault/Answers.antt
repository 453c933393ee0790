use Rattle.std.proofs.Common.{ℕ, sym, subst, arith}
use Rattle.hd_prefix.specs.Fields.{IsWhole}
use Rattle.hd_image.specs.Records.{links_of}
use Rattle.hd_check_pointers.specs.Tables.{place_at}
use Rattle.hd_check_pointers.proofs.TwinPointers.{lent-code}
use Rattle.hd_check_pointers.proofs.TwinFaults.{not-some, wrong-first, wrong-then}
use Rattle.hd_check_pointers.proofs.twins.twin_pointers_fault.Goals as goal

pub returns-then-segment-prefix_length-clause-none : goal.returns-then-segment-prefix_length-clause-none
returns-then-segment-prefix_length-clause-none c = λ v M F O here prec.
    let code = lent-code c.args.dbd.now v c.args.places.now M c.args.number c.args.segment.now c.requires.within here in
    let whole : IsWhole c.args.dbd.now.types (place_at c.args.places.now c.args.number).code c.args.segment.now =
    subst (λ (x : ℕ). IsWhole c.args.dbd.now.types x c.args.segment.now) (sym code) here.whole in
    let size = c.prefix_length.ensures in
    let short = c.if-segment-prefix_length.true in
    absurd (omega arith)

pub returns-in-Some-clause-some : goal.returns-in-Some-clause-some
returns-in-Some-clause-some c = λ v M F O here prec.
    let w = c.in-Some.ensures.some v M here prec in
    wrong-first c.args.dbd.now.types (links_of c.args.dbd.now.types v) (place_at c.args.places.now c.args.number).address c.in-Some.backward c.at.result c.at.ensures w.0 w.1

pub returns-in-None-clause-none : goal.returns-in-None-clause-none
returns-in-None-clause-none c = λ v M F O here prec. record {
  backward = λ s. not-some c.wrong_backward.result c.in_default.not-Some (c.wrong_backward.ensures.none v M here prec);
  lasts = c.in-None.ensures.none v M F O here;
}

pub returns-in-Some-wrong_last-clause-some : goal.returns-in-Some-wrong_last-clause-some
returns-in-Some-wrong_last-clause-some c = λ v M F O here prec.
    wrong-then c.args.dbd.now.types (links_of c.args.dbd.now.types v) (place_at c.args.places.now c.args.number).address c.in-Some-wrong_last.last c.at-in-Some-wrong_last.result c.at-in-Some-wrong_last.ensures (not-some c.wrong_backward.result c.in_default.not-Some (c.wrong_backward.ensures.none v M here prec)) (c.in-Some-wrong_last.ensures.some v M F O here)

use Rattle.std.proofs.Common.{sym, ◌∙◌}
use Rattle.hd_check_pointers.specs.Tables.{place_at}
use Rattle.hd_check_pointers.proofs.ChildPointers.{backward-read}
use Rattle.hd_check_pointers.proofs.TwinPointers.{lent-code, backward-unkept-right, backward-right, backward-wrong}
use Rattle.hd_check_pointers.proofs.twins.wrong_backward.Goals as goal

pub returns-then-not-keeps_backward-clause-none : goal.returns-then-not-keeps_backward-clause-none
returns-then-not-keeps_backward-clause-none c = λ v M here prec.
    backward-unkept-right c.args.dbd.now v c.args.places.now M c.args.number c.requires.within (sym c.keeps_backward.ensures ∙ c.if-not-keeps_backward.true)

pub returns-then-backward-twin_before-clause-none : goal.returns-then-backward-twin_before-clause-none
returns-then-backward-twin_before-clause-none c = λ v M here prec.
    let a = (place_at c.args.places.now c.args.number).address in
    let read = backward-read c.args.dbd.now.types v a (place_at c.args.places.now c.args.number).code c.args.segment.now c.pointer_in-backward.result here.stored
    (lent-code c.args.dbd.now v c.args.places.now M c.args.number c.args.segment.now c.requires.within here) c.pointer_in-backward.ensures in
    backward-right c.args.dbd.now v c.args.places.now M c.args.number c.args.holder c.twin_before.result c.requires.within (c.twin_before.ensures c.args.dbd.now v M prec) (sym read ∙ c.if-backward-twin_before.true)

pub returns-clause-some : goal.returns-clause-some
returns-clause-some c = λ v M here prec.
    let a = (place_at c.args.places.now c.args.number).address in
    let read = backward-read c.args.dbd.now.types v a (place_at c.args.places.now c.args.number).code c.args.segment.now c.pointer_in-backward.result here.stored
    (lent-code c.args.dbd.now v c.args.places.now M c.args.number c.args.segment.now c.requires.within here) c.pointer_in-backward.ensures in (
      read,
      backward-wrong c.args.dbd.now v c.args.places.now M c.args.number c.args.holder c.twin_before.result c.pointer_in-backward.result c.requires.within
          (sym c.keeps_backward.ensures ∙ c.if-not-keeps_backward.false) (c.twin_before.ensures c.args.dbd.now v M prec) read c.if-backward-twin_before.false,
    )

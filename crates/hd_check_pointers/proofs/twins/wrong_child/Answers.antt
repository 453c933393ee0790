use Rattle.std.proofs.Common.{sym, ◌∙◌}
use Rattle.std.proofs.lemmas.Bool.{false≢true}
use Rattle.hd_check_pointers.proofs.TwinPointers.{has-children}
use Rattle.hd_check_pointers.proofs.twins.wrong_child.Goals as goal

pub returns-then-not-keeps_last_child-clause-none : goal.returns-then-not-keeps_last_child-clause-none
returns-then-not-keeps_last_child-clause-none c = λ v M F O here child kept. absurd (false≢true (sym c.if-not-keeps_last_child.true ∙ c.keeps_last_child.ensures ∙ kept))

pub returns-then-is_last_right-clause-none : goal.returns-then-is_last_right-clause-none
returns-then-is_last_right-clause-none c = λ v M F O here child kept.
    c.is_last_right.ensures.right c.args.dbd.now v c.args.child M F O
    (has-children c.args.dbd.now v c.args.places.now M c.args.number c.args.child c.pointer_in-first.result c.pointer_in-last.result c.args.segment.now c.requires.within here child kept
    c.pointer_in-first.ensures c.pointer_in-last.ensures) c.if-is_last_right.true

pub returns-clause-some : goal.returns-clause-some
returns-clause-some c = λ v M F O here child.
    let kept = sym c.keeps_last_child.ensures ∙ c.if-not-keeps_last_child.false in
    let has = has-children c.args.dbd.now v c.args.places.now M c.args.number c.args.child c.pointer_in-first.result c.pointer_in-last.result c.args.segment.now c.requires.within here child kept
    c.pointer_in-first.ensures c.pointer_in-last.ensures in (
      kept,
      c.is_last_right.ensures.wrong c.args.dbd.now v c.args.child M F O has c.if-is_last_right.false,
      has.last_is,
    )

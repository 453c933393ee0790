use Rattle.std.proofs.Common.{sym, ◌∙◌}
use Rattle.hd_volume.proofs.CallSteps.{if-ok}
use Rattle.hd_volume.proofs.PutLemmas.{if-some-map, if-none-map}
use Rattle.hd_check_pointers.proofs.PlaceNumbers.{stands, coded, is-twin}
use Rattle.hd_check_pointers.proofs.KeyOrder.{unkeyed-right, first-right, twin-right}
use Rattle.hd_check_pointers.proofs.twin_keys.key_fault.Goals as goal

pub returns-then-not-is_keyed-clause-none : goal.returns-then-not-is_keyed-clause-none
returns-then-not-is_keyed-clause-none g c = λ sound.
    unkeyed-right c.args.dbd.now c.args.volume.now c.args.places.now (c.requires.matched sound) c.args.number c.requires.within (sym c.is_keyed.ensures ∙ c.if-not-is_keyed.true)

pub returns-then-not-stands_at-clause-none : goal.returns-then-not-stands_at-clause-none
returns-then-not-stands_at-clause-none g c = λ sound.
    let M = c.requires.matched sound in
    first-right c.args.dbd.now c.args.volume.now c.args.places.now M c.args.number c.args.holder c.requires.within (c.requires.precedes sound)
    (c.stands_at.ensures.wrong M.stand.ascend c.if-not-stands_at.true)

pub twin_order_fault-requires-clause-before : goal.twin_order_fault-requires-clause-before
twin_order_fault-requires-clause-before g c = λ sound. (c.requires.matched sound).stand.there _ (c.stands_at.ensures.right c.if-not-stands_at.false)

pub twin_order_fault-requires-clause-there : goal.twin_order_fault-requires-clause-there
twin_order_fault-requires-clause-there g c = λ sound. (
  stands c.args.dbd.now c.args.volume.now c.args.places.now (c.requires.matched sound) c.args.number c.requires.within,
  coded c.args.dbd.now c.args.volume.now c.args.places.now (c.requires.matched sound) c.args.number c.requires.within,
)

pub returns-clause-none : goal.returns-clause-none
returns-clause-none g c =
    if-ok c.twin_order_fault.result c.twin_order_fault.ensures.none (λ o none sound.
    if-none-map o (twin-right c.args.dbd.now c.args.volume.now c.args.places.now (c.requires.matched sound) c.args.number c.args.holder c.requires.within (c.requires.precedes sound)) (none sound))

pub returns-clause-some : goal.returns-clause-some
returns-clause-some g c =
    if-ok c.twin_order_fault.result c.twin_order_fault.ensures.some (λ o some sound.
    let M = c.requires.matched sound in
    if-some-map o (λ f w. (
      w.0,
      (
        stands c.args.dbd.now c.args.volume.now c.args.places.now M c.args.number c.requires.within,
        is-twin c.args.dbd.now c.args.volume.now c.args.places.now M c.args.number c.args.holder c.requires.within (c.requires.precedes sound) (c.stands_at.ensures.right c.if-not-stands_at.false),
        w.1,
      ),
    )) (some sound))

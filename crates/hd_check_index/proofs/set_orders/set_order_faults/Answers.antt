use Rattle.std.proofs.Common.{◌*◌, ◌<◌, ℕ, sym, subst}
use Rattle.hd_dbd.specs.Hierarchy.{Database}
use Rattle.hd_volume.specs.Volumes.{VolumeState}
use Rattle.hd_index_blocks.specs.Faultless.{AreFormsRight}
use Rattle.hd_index_blocks.specs.LevelFaults.{HasEntryOutOfOrder}
use Rattle.hd_index_blocks.proofs.Volumes.{level-kind}
use Rattle.hd_check_index.specs.Rows.{AreRows}
use Rattle.hd_check_index.specs.Listed.{AreOrdersListed}
use Rattle.hd_check_blocks.specs.Listing.{AreStanding}
use Rattle.hd_check_index.proofs.PassedBlocks.{where-ok}
use Rattle.hd_check_index.proofs.FormFaults.{place-fits}
use Rattle.hd_check_index.proofs.RowLists.{both-found}
use Rattle.hd_check_index.proofs.set_orders.set_order_faults.Goals as goal

pub list_orders-requires-clause-forms : goal.list_orders-requires-clause-forms
list_orders-requires-clause-forms g c = λ sound. subst (λ (y : ℕ). AreFormsRight y c.args.volume.now) (sym c.root_key_length.ensures.value) (c.requires.forms sound)

pub list_orders-requires-clause-rows : goal.list_orders-requires-clause-rows
list_orders-requires-clause-rows g c = λ sound. subst (λ (y : ℕ). AreRows y c.args.volume.now c.args.rows.now) (sym c.root_key_length.ensures.value) (c.requires.rows sound)

pub list_orders-requires-clause-fits : goal.list_orders-requires-clause-fits
list_orders-requires-clause-fits g c = λ sound n l is.
    let d : Database = c.args.dbd.now in
    let v : VolumeState = c.args.volume.now in
    subst (λ (z : ℕ). n * z < 4294967296) (sym c.block_size-size.ensures.value) (place-fits d v n (c.requires.of sound) (level-kind v n l is).0.there)

pub returns-clause-faults : goal.returns-clause-faults
returns-clause-faults g c = where-ok (λ l. AreStanding c.args.dbd.now c.args.volume.now 11 l.items) c.in_order.result (λ sound.
    let d : Database = c.args.dbd.now in
    let v : VolumeState = c.args.volume.now in
    let of = c.requires.of sound in
    let later = c.requires.later sound in
    let table = c.requires.blocks sound in
    let forms = c.requires.forms sound in
    let are = c.requires.rows sound in
    let size = c.block_size-size.ensures.value in
    let O : ℕ → Type 0 = λ y. AreOrdersListed (HasEntryOutOfOrder y v) c.in_ok-found.found.items c.list_orders.new.faults.items in
    c.in_order.ensures.faults d v
    (both-found d v later c.in_ok-found.found.items c.list_orders.new.faults.items (c.in_ok-found.ensures.stand d v of later table forms are size) (c.in_ok-found.ensures.all d v of later table forms are size)
    (subst O c.root_key_length.ensures.value (c.in_ok-list_orders.ensures.faults sound))))

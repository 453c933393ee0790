use Rattle.std.proofs.Common.{◌≡◌, ◌+◌, ℕ, List, take, slice_index, subst, ◌∙◌}
use Rattle.std.proofs.lemmas.List.{length-set}
use Rattle.hd_dbd.specs.Hierarchy.{Database}
use Rattle.hd_check_blocks.specs.declared.places.Place.{Place}
use Rattle.hd_check_blocks.proofs.Lent.{has-segment, lent}
use Rattle.hd_check_pointers.specs.Tables.{nobody}
use Rattle.hd_check_walk.specs.Walks.{IsUnheld}
use Rattle.hd_check_walk.specs.declared.beside.Stand.{Stand}
use Rattle.hd_check_walk.proofs.Chains.{when-some}
use Rattle.hd_check_walk.proofs.Steps.{there}
use Rattle.hd_check_walk.proofs.GoingOn.{goes-none, goes-join, goes-near, goes-step}
use Rattle.hd_check_walk.proofs.beside.walk_block.Goals as goal

pub loop-number-init : goal.loop-number-init
loop-number-init c = record {
  as_many = c.requires.as_many;
  goes = λ v n of are is begins. goes-none c.args.dbd.now.types v c.args.places.now c.args.code c.args.from c.args.holders.now.items;
}

pub loop-number-preserved : goal.loop-number-preserved
loop-number-preserved c =
    let d : Database = c.args.dbd.now in
    let ps : List Place = c.args.places.now in
    let xs : List ℕ = c.loop-number.holders.items in
    let number : ℕ = c.loop-number.number in
    let next : ℕ = c.loop-number.next in
    let stand : Stand = record { twin = c.loop-number.twin; next = next; near = number } in
    let place = c.is_there.ensures c.if-not-is_there.false in
    let unheld = subst (λ (ys : List ℕ). slice_index ys number ≡ nobody) c.deref.ensures.value (c.is_unheld.ensures c.if-not-is_unheld.false).1 in
    let new : IsUnheld ps xs number next c.args.code = (place.0, place.1, unheld) in
    record {
      as_many = length-set xs number c.loop-number.twin.address ∙ c.loop-number.invariant.as_many;
      goes = λ v n of are is begins.
          (let own = there d.types v ps are xs number next c.args.code new in
          let begun = c.in-Some.ensures v n is begins of.formatted (has-segment d v next of.fit of own.0) in
          let here = lent d v next (take begun.0 c.in-Some.segment.now) of.fit of own.0 begun.1 in
          let seen = when-some _ c.seen_first.result c.in-Some-seen_first.seen c.in-Some-seen_first.is (c.seen_first.ensures next begun.0 v of here own.1 own.0) in
          goes-join d.types v ps c.args.code c.args.from stand _ c.args.holders.now.items xs _ (c.loop-number.invariant.goes v n of are is begins)
          (goes-step d.types v ps c.args.code are xs number (number + 1) stand c.in-Some-seen_first.seen c.loop-number.invariant.as_many c.if-twin.false new (c.is_plain.ensures v of seen c.if-not-is_plain.false)));
    }

pub returns-clause-goes : goal.returns-clause-goes
returns-clause-goes c = λ v n of are is begins.
    goes-near c.args.dbd.now.types v c.args.places.now c.args.code c.args.from (record { twin = c.loop-number.twin; next = c.loop-number.next; near = c.loop-number.number }) _ c.args.holders.now.items
    c.loop-number.holders.items (c.loop-number.invariant.goes v n of are is begins)

use Rattle.std.proofs.Common.{◌≡◌, ◌<◌, ℕ, List, [], ◌∷◌, ◌++◌, length, take, slice_index_or, sym, subst, ap, ◌∙◌, arith}
use Rattle.std.proofs.lemmas.List.{get_or_default, take_more}
use Rattle.hd_check_blocks.specs.declared.places.Place.{Place}
use Rattle.hd_check_pointers.specs.declared.namings.Naming.{Naming}
use Rattle.hd_check_pointers.specs.Namings.{holders}
use Rattle.hd_check_pointers.proofs.Holders.{holders-parts}
use Rattle.hd_check_pointers.proofs.Arranging.{AreAtPlaces, at-nothing, nothing-holds, at-long, at-more, more-holders}
use Rattle.hd_check_pointers.proofs.predecessors.arrange.Goals as goal

pub loop-naming-init : goal.loop-naming-init
loop-naming-init c =
    let ps : List Place = c.args.places.now in
    record {
      at = subst (AreAtPlaces ps) (sym c.in_ok-table.ensures.empty) (at-nothing ps);
      same = λ _ a some. ap (holders a) c.in_ok-table.ensures.empty ∙ nothing-holds a (length ps) some;
    }

pub loop-naming-preserved : goal.loop-naming-preserved
loop-naming-preserved c =
    let ps : List Place = c.args.places.now in
    let inv = c.loop-naming.invariant in
    let k : ℕ = c.loop-naming.naming-index in
    let x : Naming = slice_index_or c.args.namings.now k (record { target = 0; holder = 0 }) in
    let low = c.in-Some.ensures.some.0 in
    let old : List Naming = c.loop-naming.table.items in
    let within : c.in-Some.number < length old = (let l = at-long ps old inv.at in omega arith) in
    let empty : (slice_index_or old c.in-Some.number (record { target = 0; holder = 0 })).target ≡ 0 =
    ap (λ (y : Naming). y.target) (get_or_default old c.in-Some.number (record { target = 0; holder = 0 }) c.index.result.now within ∙ sym c.index.ensures) ∙ c.if-index-ne0.false in
    record {
      at = at-more ps c.loop-naming.table.items c.in-Some.number x inv.at low (sym c.in-Some.ensures.some.1);
      same = λ ascend a some.
          more-holders ps c.loop-naming.table.items c.in-Some.number x a ascend inv.at low empty (sym c.in-Some.ensures.some.1) some
          ∙ ap (λ (hs : List ℕ). hs ++ holders a (x ∷ [])) (inv.same ascend a some) ∙ sym (holders-parts a (take k c.args.namings.now) (x ∷ []))
          ∙ ap (holders a) (sym (take_more c.args.namings.now k (record { target = 0; holder = 0 }) (omega (arith, c.loop-naming-test.true))));
    }

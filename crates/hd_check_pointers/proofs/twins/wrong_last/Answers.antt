use Rattle.std.proofs.Common.{◌≢◌, ℕ, List, slice_index_or, sym, ap, ◌∙◌}
use Rattle.hd_volume.proofs.PutLemmas.{if-some-map}
use Rattle.hd_links.proofs.Types.{is_in}
use Rattle.hd_image.specs.Records.{links_of}
use Rattle.hd_check_pointers.specs.Tables.{place_at}
use Rattle.hd_check_pointers.proofs.RecordSteps.{from-none}
use Rattle.hd_check_pointers.proofs.PlaceNumbers.{stands, coded}
use Rattle.hd_check_pointers.proofs.TwinPointers.{lent-code}
use Rattle.hd_check_pointers.proofs.LastChildren.{hand-in, left-more, listed, first-wrong, lasts-right}
use Rattle.hd_check_pointers.proofs.twins.wrong_last.Goals as goal

pub returns-then-is_some-clause-some : goal.returns-then-is_some-clause-some
returns-then-is_some-clause-some c = λ v M F O here.
    let ts : List ℕ = c.children_of-types.result.now in
    let i : ℕ = c.loop-child.child-index in
    let types = c.args.dbd.now.types in
    let code : ℕ = (place_at c.args.places.now c.args.number).code in
    let own : code ≢ 0 = λ z. here.typed (sym (lent-code c.args.dbd.now v c.args.places.now M c.args.number c.args.segment.now c.requires.within here) ∙ z) in
    let list = listed types code ts own c.children_of-types.ensures in
    let child = ap (λ (us : List ℕ). is_in us (slice_index_or ts i 0)) list ∙ hand-in types (links_of types v) (place_at c.args.places.now c.args.number).address ts i c.loop-child-test.true in
    if-some-map c.wrong_child-wrong.result (λ x w.
    first-wrong types (links_of types v) (place_at c.args.places.now c.args.number).address code ts i x c.loop-child-test.true (stands c.args.dbd.now v c.args.places.now M c.args.number c.requires.within).here
    (coded c.args.dbd.now v c.args.places.now M c.args.number c.requires.within) list w.0 w.1 w.2 (c.loop-child.invariant v M F O here))
    (c.wrong_child-wrong.ensures.some v M F O here child)

pub loop-child-preserved : goal.loop-child-preserved
loop-child-preserved c = λ v M F O here.
    let ts : List ℕ = c.children_of-types.result.now in
    let i : ℕ = c.loop-child.child-index in
    let types = c.args.dbd.now.types in
    let code : ℕ = (place_at c.args.places.now c.args.number).code in
    let own : code ≢ 0 = λ z. here.typed (sym (lent-code c.args.dbd.now v c.args.places.now M c.args.number c.args.segment.now c.requires.within here) ∙ z) in
    let list = listed types code ts own c.children_of-types.ensures in
    let child = ap (λ (us : List ℕ). is_in us (slice_index_or ts i 0)) list ∙ hand-in types (links_of types v) (place_at c.args.places.now c.args.number).address ts i c.loop-child-test.true in
    left-more types (links_of types v) (place_at c.args.places.now c.args.number).address ts i c.loop-child-test.true
    (from-none c.wrong_child-wrong.result (sym c.is_some.ensures ∙ c.if-is_some.false) (c.wrong_child-wrong.ensures.none v M F O here child))
    (c.loop-child.invariant v M F O here)

pub returns-clause-none : goal.returns-clause-none
returns-clause-none c = λ v M F O here.
    let ts : List ℕ = c.children_of-types.result.now in
    let types = c.args.dbd.now.types in
    let code : ℕ = (place_at c.args.places.now c.args.number).code in
    let own : code ≢ 0 = λ z. here.typed (sym (lent-code c.args.dbd.now v c.args.places.now M c.args.number c.args.segment.now c.requires.within here) ∙ z) in
    lasts-right types (links_of types v) (place_at c.args.places.now c.args.number).address code ts c.loop-child.child-index c.loop-child-test.false
    (coded c.args.dbd.now v c.args.places.now M c.args.number c.requires.within) (listed types code ts own c.children_of-types.ensures) (c.loop-child.invariant v M F O here)

use Rattle.std.proofs.Common.{ℕ, List, [], ap, ap₂, sym, ◌∙◌}
use Rattle.std.specs.Ordering.{nat_cmp}
use Rattle.std.specs.declared.cmp.Ordering.{Ordering}
use Rattle.std.specs.Cmp.Lexicographic.{slice_cmp}
use Rattle.hd_dbd.specs.Rows.{key_of}
use Rattle.hd_dbd.specs.Loads.{has_unique_key}
use Rattle.hd_prefix.specs.declared.pointer.Pointer.TheVariants.{TwinForward}
use Rattle.hd_prefix.specs.Fields.{code_of, bytes_of, pointer_of}
use Rattle.hd_forest.specs.TwinPlaces.{twin_places}
use Rattle.hd_forest.proofs.Reading.{lent}
use Rattle.hd_forest.proofs.TwinsBelow.{places_read}
use Rattle.hd_update.specs.Places.{side_of}
use Rattle.hd_update.proofs.places.meet_twin.Goals as goal

pub returns-clause-side : goal.returns-clause-side
returns-clause-side g c sound =
    let d = c.args.dbd.now in
    let s : List ℕ = c.in_ok-segment.segment.now in
    let of = c.requires.of sound in
    let l = lent d c.args.volume.now c.args.twin s of.fit of (c.requires.there sound) (c.in_ok-segment.ensures.value sound) in
    let R = places_read d.block_size d.frspc d.types of.fit (code_of s) [] s l.whole l.least c.args.places
    (ap (λ (x : List ℕ). twin_places d.types (code_of x)) (sym l.stored) ∙ ap (twin_places d.types) (c.requires.typed sound) ∙ c.requires.places) in
    c.side_of.ensures
    ∙ ap (λ (o : Ordering). side_of (has_unique_key d.types c.args.code) c.args.last o)
    (c.compare_keys-order.ensures ∙ ap₂ (λ (x y : List ℕ). slice_cmp nat_cmp x y)
    (c.key_at.ensures ∙ R.has_key ∙ ap (λ (x : List ℕ). key_of d.types (record { code = code_of x; bytes = bytes_of d.types (code_of x) x })) (sym l.stored))
    c.key_of.ensures.value)

pub returns-clause-next : goal.returns-clause-next
returns-clause-next g c sound =
    let d = c.args.dbd.now in
    let s : List ℕ = c.in_ok-segment.segment.now in
    let of = c.requires.of sound in
    let l = lent d c.args.volume.now c.args.twin s of.fit of (c.requires.there sound) (c.in_ok-segment.ensures.value sound) in
    let R = places_read d.block_size d.frspc d.types of.fit (code_of s) [] s l.whole l.least c.args.places
    (ap (λ (x : List ℕ). twin_places d.types (code_of x)) (sym l.stored) ∙ ap (twin_places d.types) (c.requires.typed sound) ∙ c.requires.places) in
    c.forward_in.ensures R.long ∙ R.forward ∙ ap (λ (x : List ℕ). pointer_of d.types (code_of x) TwinForward x) (sym l.stored)

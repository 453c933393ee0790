use Rattle.std.proofs.Common.{◌≡◌, ℕ, List, Option, Some, None, sym, ap, ap₂, subst, ◌∙◌}
use Rattle.std.specs.Prelude.{option_copied}
use Rattle.std.specs.Option.{option_map_or}
use Rattle.hd_dbd.specs.Paths.{row_at}
use Rattle.hd_links.specs.Links.{IsSegment}
use Rattle.hd_links.specs.Steps.{rows_of, address_at}
use Rattle.hd_image.specs.Records.{links_of}
use Rattle.hd_forest.specs.Twins.{IsTwinFrom}
use Rattle.hd_get.specs.declared.verdict.Verdict.TheVariants.{Across}
use Rattle.hd_get.specs.Asking.{least_key_of, address_from, verdict_from}
use Rattle.hd_get.proofs.Grounds.{grounds, tip_is, tip_there}
use Rattle.hd_get.proofs.TwinsFrom.{from_row}
use Rattle.hd_get.proofs.named.verdict_across.Goals as goal

pub returns-in_default-clause-value : goal.returns-in_default-clause-value
returns-in_default-clause-value g c f i at code =
    let types = c.args.dbd.now.types in
    let none : least_key_of types c.args.ssas.now (row_at (rows_of f) i).code ≡ None
    = ap (least_key_of types c.args.ssas.now) code ∙ sym c.least_key_of.ensures ∙ ap option_copied c.in_default.is in
    sym (ap (λ (o : Option (List ℕ)). option_map_or (λ key. verdict_from (address_at f i) (address_from types f key i)) o Across) none)

pub twin_from-requires-clause-holds : goal.twin_from-requires-clause-holds
twin_from-requires-clause-holds g c sound = (let T = c.requires.there sound in (T.0, T.2.holds))

pub twin_from-requires-clause-there : goal.twin_from-requires-clause-there
twin_from-requires-clause-there g c sound =
    let d = c.args.dbd.now in
    let u = c.args.volume.now in
    let T = c.requires.there sound in
    subst (IsSegment (links_of d.types u)) (sym c.tip_of-address.ensures) (tip_there d.types (links_of d.types u) T.0 (grounds d u T.0 (c.requires.of sound) T.2.holds) c.args.path.now T.1 T.2)

pub returns-clause-value : goal.returns-clause-value
returns-clause-value g c f i at code =
    let d = c.args.dbd.now in
    let u = c.args.volume.now in
    let m = links_of d.types u in
    let G = grounds d u f (c.requires.of at.sound) at.row.holds in
    let address : c.tip_of-address.result ≡ address_at f i = c.tip_of-address.ensures ∙ tip_is d.types m f G c.args.path.now i at.row in
    let key : least_key_of d.types c.args.ssas.now (row_at (rows_of f) i).code ≡ Some c.in-Some.key.now
    = ap (least_key_of d.types c.args.ssas.now) code ∙ sym c.least_key_of.ensures ∙ ap option_copied c.in-Some.is in
    let twin : c.in_ok-twin.twin ≡ address_from d.types f c.in-Some.key.now i
    = from_row d.types m f G c.in-Some.key.now i c.in_ok-twin.twin at.row.within
    (subst (λ x. IsTwinFrom d.types m c.in-Some.key.now x c.in_ok-twin.twin) address (c.in_ok-twin.ensures.value at.sound)) in
    c.verdict_from.ensures ∙ ap₂ verdict_from address twin
    ∙ sym (ap (λ (o : Option (List ℕ)). option_map_or (λ key. verdict_from (address_at f i) (address_from d.types f key i)) o Across) key)

use Rattle.std.proofs.Common.{◌≡◌, ℕ, length, ap, ap₂, sym, subst, ◌∙◌, Option, Some}
use Rattle.std.specs.Prelude.{unwrap_or}
use Rattle.hd_dbd.specs.Segment.{Segment}
use Rattle.hd_volume.proofs.CallSteps.{if-ok}
use Rattle.hd_links.specs.Links.{IsSegment, segment_at}
use Rattle.hd_links.specs.Steps.{address_at}
use Rattle.hd_links.proofs.Numbers.{rows_addressed}
use Rattle.hd_image.specs.Records.{links_of}
use Rattle.hd_update.proofs.held.row_at.Goals as goal

-- what was read, where something stands there
read_there : (a r : ℕ) (o p : Option ℕ) → r ≡ unwrap_or o 0 → o ≡ p → p ≡ Some a → r ≡ a
read_there a r o p is same at = is ∙ ap (λ (x : Option ℕ). unwrap_or x 0) (same ∙ at)

pub stored_row-requires-clause-there : goal.stored_row-requires-clause-there
stored_row-requires-clause-there g c sound =
    let d = c.args.dbd.now in
    let m = links_of d.types c.args.volume.now in
    let T = c.requires.there sound in
    let R = rows_addressed d.types m T.0 T.2.holds in
    subst (IsSegment m) (sym (read_there (address_at T.0 T.1) c.unwrap_or-address.result c.row_on.result _ c.unwrap_or-address.ensures c.row_on.ensures T.2.is)) (R.there T.1 T.2.within)

pub returns-clause-value : goal.returns-clause-value
returns-clause-value g c = if-ok c.stored_row.result c.stored_row.ensures.value (λ row is f i sound at.
    let d = c.args.dbd.now in
    let m = links_of d.types c.args.volume.now in
    let R = rows_addressed d.types m f at.holds in
    let one : c.unwrap_or-address.result ≡ address_at f i = read_there (address_at f i) c.unwrap_or-address.result c.row_on.result _ c.unwrap_or-address.ensures c.row_on.ensures at.is in
    is sound
    ∙ ap₂ (λ (a : ℕ) (r : Segment). record { address = a; code = r.code; length = length r.bytes }) one (ap (segment_at m) one ∙ R.same i at.within))

use Rattle.std.proofs.Common.{◌≡◌, ℕ, ◌<◌, List, length, sym, subst, ◌∙◌}
use Rattle.hd_links.specs.Links.{Links}
use Rattle.hd_links.specs.Steps.{LeadsDown}
use Rattle.hd_image.specs.Records.{links_of}
use Rattle.hd_forest.specs.Walks.{tip, parent_on}
use Rattle.hd_forest.specs.Twins.{IsBehind}
use Rattle.hd_get.proofs.Climbs.{some_path}
use Rattle.hd_get.proofs.Grounds.{tip_code}
use Rattle.hd_update.proofs.TwinGaps.{ground}
use Rattle.hd_update.proofs.PlaceBelow.{unlink_behind}
use Rattle.hd_update.proofs.here.place_before_equal.Goals as goal

pub prev_twin-requires-clause-there : goal.prev_twin-requires-clause-there
prev_twin-requires-clause-there g c sound =
    let d = c.args.dbd.now in
    let v = c.args.volume.now in
    let T = c.requires.there sound in (
      subst (λ (p : List ℕ). 0 < length p) (sym T.3.is) (some_path d.types T.0 T.1),
      subst (LeadsDown d.types (links_of d.types v) 0) (sym T.3.is) ((ground d v T.0 T.2).steps T.1 T.3.within).path,
    )

pub returns-clause-value : goal.returns-clause-value
returns-clause-value g c = (
  sym c.has_unique_key.ensures ∙ c.if-has_unique_key.false,
  λ sound.
      (let d = c.args.dbd.now in
      let v = c.args.volume.now in
      let m : Links = links_of d.types v in
      let path = c.args.path.now in
      let T = c.requires.there sound in
      let code : m.code (tip path) ≡ c.args.code = tip_code d.types m T.0 (ground d v T.0 T.2) path T.1 T.3 ∙ T.4 in
      subst (λ t. IsBehind m (m.first_child (parent_on path) t) c.in_ok-twin.twin (tip path)) code
      (unlink_behind d.types m (parent_on path) c.in_ok-twin.twin (tip path) (c.in_ok-twin.ensures.value sound))),
)

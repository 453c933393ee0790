use Rattle.std.proofs.Common.{◌≡◌, ℕ, ◌+◌, ◌<◌, List, Some, ap, sym, subst, ◌∙◌}
use Rattle.hd_dbd.specs.Hierarchy.{level_of}
use Rattle.hd_links.specs.Links.{Links}
use Rattle.hd_image.specs.Records.{links_of}
use Rattle.hd_forest.specs.declared.walk.Ahead.{Ahead}
use Rattle.hd_forest.specs.Walks.{IsAhead, IsTwinBy, tip}
use Rattle.hd_forest.proofs.RowSteps.{row-steps}
use Rattle.hd_position.specs.Kept.{Kept}
use Rattle.hd_position.proofs.Getting.{begins_there}
use Rattle.hd_position.proofs.RowsBehind.{is_behind}
use Rattle.hd_get.proofs.NextTwins.{some_told}
use Rattle.hd_session.specs.LastGiven.{Given, is_begun_by}
use Rattle.hd_session.proofs.KeysKnown.{just_below}
use Rattle.hd_session.proofs.next_twin.known_behind.Goals as goal

pub returns-clause-behind : goal.returns-clause-behind
returns-clause-behind c = λ v of there known sound.
    let d = c.args.dbd.now in
    let m : Links = links_of d.types v in
    let k : Kept = c.args.position.now in
    let above : Given = c.args.last_given.now in
    let T = there sound in
    let at = T.2 in
    let address : c.tip_of.result ≡ tip k.path = c.tip_of.ensures ∙ ap tip c.path-path.ensures in
    let seen = some_told (λ (ahead : Ahead). (0 < c.tip_of.result) × (above.seen ≡ Some (c.tip_of.result, ahead))) c.ahead_of.result c.in-Some.ahead c.in-Some.is c.ahead_of.ensures in
    let names : IsAhead d.types m c.tip_of.result c.in-Some.ahead
    = some_told (λ (s : ℕ × Ahead). IsAhead d.types m s.0 s.1) above.seen (c.tip_of.result, c.in-Some.ahead) seen.1 (known sound).1 in
    let twin = some_told (λ (r : ℕ × ℕ). IsTwinBy c.in-Some.ahead r.0 r.1) c.twin_ahead.result (c.in-Some-twin_ahead.twin, c.in-Some-twin_ahead.code) c.in-Some-twin_ahead.is c.twin_ahead.ensures in
    is_behind d v (of sound) k c.in-Some-twin_ahead.twin c.in-Some-twin_ahead.code
    (twin d v k.path (of sound) (T.0, at.holds.records) (begins_there d.types m T.0 (row-steps d v T.0 (of sound) at.holds.records) k T.1 at.stands)
    (subst (λ (a : ℕ). 0 < a) address seen.0) (subst (λ (a : ℕ). IsAhead d.types m a c.in-Some.ahead) address names))

pub returns-clause-below : goal.returns-clause-below
returns-clause-below c =
    let d = c.args.dbd.now in
    let k : Kept = c.args.position.now in
    let above : Given = c.args.last_given.now in
    just_below k.path above (level_of d.types c.in-Some-twin_ahead.code) c.in-Some-twin_ahead.twin
    (sym c.level.ensures.level ∙ c.if-level.false ∙ ap (λ n. n + 1) c.level-2.ensures.value) (ap (λ (path : List ℕ). is_begun_by path above) (sym c.path-path.ensures) ∙ sym c.begin.ensures ∙ c.if-not-begin.false)

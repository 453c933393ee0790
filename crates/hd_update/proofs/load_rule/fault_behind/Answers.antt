use Rattle.std.proofs.Common.{◌≡◌, ℕ, ◌-◌, Option, ap, sym, refl, ◌∙◌}
use Rattle.std.specs.Prelude.{option_and_then}
use Rattle.hd_dbd.specs.Hierarchy.{level_of}
use Rattle.hd_dbd.specs.Segment.{Segment}
use Rattle.hd_dbd.specs.Loads.{order_fault}
use Rattle.hd_volume.proofs.CallSteps.{if-ok}
use Rattle.hd_links.specs.Placed.{Placed}
use Rattle.hd_links.specs.LastRows.{last_on}
use Rattle.std.specs.Prelude.{slice_get}
use Rattle.hd_update.proofs.LastPaths.{stored_on, none_on}
use Rattle.hd_update.proofs.load_rule.fault_behind.Goals as goal

pub order_fault_at-requires-clause-there : goal.order_fault_at-requires-clause-there
order_fault_at-requires-clause-there g c sound =
    let T = c.requires.last sound in
    (stored_on c.args.dbd.now c.args.volume.now c.args.path.now T.0 T.1 c.args.path.now refl c.saturating_sub-place.result c.in-Some.address c.in-Some.ensures).there

pub returns-in-None-clause-value : goal.returns-in-None-clause-value
returns-in-None-clause-value g c f L =
    let d = c.args.dbd.now in
    let row : Segment = record { code = c.args.code; bytes = c.args.bytes.now } in
    let place : c.saturating_sub-place.result ≡ level_of d.types c.args.code - 1 = c.saturating_sub-place.ensures ∙ ap (λ (n : ℕ). n - 1) c.level.ensures.level in
    sym (ap (λ (o : Option Placed). option_and_then (λ (p : Placed). order_fault d.types p.segment row) o)
    (ap (slice_get (last_on f)) (sym place) ∙ none_on d c.args.volume.now c.args.path.now f L c.args.path.now refl c.saturating_sub-place.result c.in-None.ensures))

pub returns-in-Some-clause-value : goal.returns-in-Some-clause-value
returns-in-Some-clause-value g c = if-ok c.order_fault_at.result c.order_fault_at.ensures.value (λ r value f L.
    let d = c.args.dbd.now in
    let row : Segment = record { code = c.args.code; bytes = c.args.bytes.now } in
    let place : c.saturating_sub-place.result ≡ level_of d.types c.args.code - 1 = c.saturating_sub-place.ensures ∙ ap (λ (n : ℕ). n - 1) c.level.ensures.level in
    let S = stored_on d c.args.volume.now c.args.path.now f L c.args.path.now refl c.saturating_sub-place.result c.in-Some.address c.in-Some.ensures in
    value L.sound
    ∙ ap (λ (s : Segment). order_fault d.types s row) S.segment
    ∙ sym (ap (λ (o : Option Placed). option_and_then (λ (p : Placed). order_fault d.types p.segment row) o) (ap (slice_get (last_on f)) (sym place) ∙ S.at)))

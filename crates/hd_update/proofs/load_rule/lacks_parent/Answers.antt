use Rattle.std.proofs.Common.{◌≡◌, ℕ, ◌-◌, false, Option, Some, List, ap, sym, ◌∙◌}
use Rattle.std.specs.Prelude.{◌==◌, not}
use Rattle.std.specs.List.{list_any}
use Rattle.std.specs.Option.{option_map_or, option_eq}
use Rattle.hd_dbd.specs.Hierarchy.{level_of}
use Rattle.hd_dbd.specs.Segment.{Segment}
use Rattle.hd_links.specs.LastRows.{last_on, segments_of}
use Rattle.hd_update.specs.Loading.{code_on}
use Rattle.hd_update.proofs.LastPaths.{any_at_level, code_of_segment, on_levels}
use Rattle.hd_update.proofs.load_rule.lacks_parent.Goals as goal

pub returns-in_ok-there-in-Some-clause-value : goal.returns-in_ok-there-in-Some-clause-value
returns-in_ok-there-in-Some-clause-value g c f L =
    let d = c.args.dbd.now in
    let parent : ℕ = c.in-Some.parent in
    let segments : List Segment = segments_of (last_on f) in
    let place : c.saturating_sub-place.result ≡ level_of d.types parent - 1 = c.saturating_sub-place.ensures ∙ ap (λ (n : ℕ). n - 1) c.level.ensures.level in
    c.ne.ensures
    ∙ ap (λ (o : Option ℕ). not (option_eq (λ a b. a == b) o (Some parent)))
    (c.in_ok-there-in-Some.ensures.value f L ∙ ap (code_on (last_on f)) place ∙ sym (code_of_segment (last_on f) (level_of d.types parent - 1)))
    ∙ ap not (sym (any_at_level d.types segments (on_levels d c.args.volume.now f L.holds) parent))
    ∙ ap (λ (o : Option ℕ). option_map_or (λ p. not (list_any (λ (q : Segment). q.code == p) segments)) o false) c.in-Some.ensures

use Rattle.std.proofs.Common.{List, length, sym, ap, subst, ◌∙◌}
use Rattle.std.specs.Prelude.{option_map}
use Rattle.std.proofs.lemmas.Bool.{eqb-true}
use Rattle.hd_dbd.specs.Searches.{first_from}
use Rattle.hd_links.specs.Steps.{rows_of, path_at}
use Rattle.hd_volume.proofs.JoinLemmas.{if-ok-map}
use Rattle.hd_calls.specs.Ssas.{Ssa}
use Rattle.hd_get.specs.Gets.{GetCall}
use Rattle.hd_get.specs.Found.{satisfies_get, SearchesOn}
use Rattle.hd_get.proofs.NextTwins.{none_are, some_are}
use Rattle.hd_get.proofs.NamedRows.{first_satisfying}
use Rattle.hd_get.proofs.searches.search_for.Goals as goal

pub returns-then-is_empty-clause-value : goal.returns-then-is_empty-clause-value
returns-then-is_empty-clause-value g c = if-ok-map c.search_readable.result (λ r on.
    let d = c.args.dbd.now in
    let inside = c.call.inside in
    let none = none_are inside.ssas.now (eqb-true (length inside.ssas.now) 0 (sym c.is_empty.ensures ∙ c.if-is_empty.true)) in
    subst (λ (call : GetCall). SearchesOn (satisfies_get call d.types) d c.args.volume.now c.args.parent c.args.path.now r c.search_readable.new.path) c.call.view_is
    (subst (λ (ssas : List Ssa). SearchesOn (satisfies_get (record { pcb = inside.pcb.now; kind = inside.kind; hold = inside.hold; ssas = ssas }) d.types) d c.args.volume.now c.args.parent c.args.path.now r c.search_readable.new.path)
    none on)) c.search_readable.ensures.value

pub returns-else-is_empty-clause-value : goal.returns-else-is_empty-clause-value
returns-else-is_empty-clause-value g c = if-ok-map c.search.result (λ r on f n end sound leads.
    let d = c.args.dbd.now in
    let inside = c.call.inside in
    on f n end sound leads
    ∙ ap (option_map (λ j. path_at d.types f j))
    (first_satisfying d.types (rows_of f) inside.pcb.now inside.ssas.now (some_are (length inside.ssas.now) c.is_empty.result c.is_empty.ensures c.if-is_empty.false) n end
    ∙ ap (λ (call : GetCall). first_from (satisfies_get call d.types (rows_of f)) n end) c.call.view_is)) c.search.ensures.value

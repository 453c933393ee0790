use Rattle.std.proofs.Common.{Bool, Some, None, cond, sym, ap, ◌∙◌}
use Rattle.std.specs.Prelude.{option_map}
use Rattle.hd_links.specs.Steps.{path_at}
use Rattle.hd_get.proofs.searches.seek_from.Goals as goal

pub search_for-requires-clause-of : goal.search_for-requires-clause-of
search_for-requires-clause-of g c sound = (c.requires.there sound).2.holds.volume

pub search_for-requires-clause-there : goal.search_for-requires-clause-there
search_for-requires-clause-there g c sound =
    let T = c.requires.there sound in
    let L = (c.requires.begins T.0 T.1 T.2).some in
    (T.0, L.number, _, L.leads)

pub returns-then-not-branch-clause-value : goal.returns-then-not-branch-clause-value
returns-then-not-branch-clause-value g c f q at =
    let L = (c.requires.begins f q at).some in
    let found = c.in_ok-search_for.ensures.value f L.number _ at.sound L.leads in
    ap (λ (b : Bool). cond b (Some c.search_for.new.path) None) (sym c.if-not-branch.true) ∙ found ∙ ap (option_map (λ i. path_at c.args.dbd.now.types f i)) (sym L.same)

pub returns-clause-value : goal.returns-clause-value
returns-clause-value g c f q at =
    let L = (c.requires.begins f q at).some in
    let found = c.in_ok-search_for.ensures.value f L.number _ at.sound L.leads in
    ap (λ (b : Bool). cond b (Some c.search_for.new.path) None) (sym c.if-not-branch.false) ∙ found ∙ ap (option_map (λ i. path_at c.args.dbd.now.types f i)) (sym L.same)

use Rattle.std.proofs.Common.{Bool, None, sym, ap, ◌∙◌}
use Rattle.std.specs.Prelude.{cond, option_map}
use Rattle.hd_volume.proofs.JoinLemmas.{if-ok-map}
use Rattle.hd_links.specs.Steps.{rows_of, path_at}
use Rattle.hd_calls.specs.Satisfies.{on_path_at}
use Rattle.hd_get.proofs.Seeking.{kept_in}
use Rattle.hd_update.proofs.parents.standing_parent.Goals as goal

pub returns-then-not-are_plain-clause-value : goal.returns-then-not-are_plain-clause-value
returns-then-not-are_plain-clause-value g c f q at =
    let d = c.args.dbd.now in
    sym (ap (λ (b : Bool). option_map (λ i. path_at d.types f i) (cond b (on_path_at d.types (rows_of f) c.args.code q.standing) None))
    (sym c.are_plain.ensures ∙ c.if-not-are_plain.true))

pub type_path-requires-clause-of : goal.type_path-requires-clause-of
type_path-requires-clause-of g c sound = (c.requires.there sound).2.holds.volume

pub type_path-requires-clause-there : goal.type_path-requires-clause-there
type_path-requires-clause-there g c sound =
    let T = c.requires.there sound in
    (T.0, T.1, (kept_in c.args.dbd.now c.args.volume.now T.0 c.args.position.now T.1 T.2).at)

pub returns-clause-value : goal.returns-clause-value
returns-clause-value g c = if-ok-map c.type_path.result (λ path is f q at.
    let d = c.args.dbd.now in
    is f q (kept_in d c.args.volume.now f c.args.position.now q at)
    ∙ sym (ap (λ (b : Bool). option_map (λ i. path_at d.types f i) (cond b (on_path_at d.types (rows_of f) c.args.code q.standing) None))
    (sym c.are_plain.ensures ∙ c.if-not-are_plain.false))) c.type_path.ensures.value

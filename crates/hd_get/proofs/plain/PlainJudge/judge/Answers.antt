use Rattle.std.proofs.Common.{◌≡◌, [], true, sym, ap, ap₂, subst, ◌∙◌}
use Rattle.hd_dbd.specs.Types.{View}
use Rattle.hd_dbd.specs.Paths.{row_at}
use Rattle.hd_links.specs.Links.{IsSegment}
use Rattle.hd_links.specs.Steps.{rows_of}
use Rattle.hd_calls.specs.Satisfies.{satisfies}
use Rattle.hd_image.specs.Records.{links_of}
use Rattle.hd_get.specs.Searches.{IsJudged}
use Rattle.hd_get.specs.Asking.{verdict_plain}
use Rattle.hd_get.proofs.Grounds.{grounds, held_rows, tip_there, tip_code}
use Rattle.hd_get.proofs.Unread.{judged_plain}
use Rattle.hd_get.proofs.plain.PlainJudge.judge.Goals as goal

pub code_at-requires-clause-there : goal.code_at-requires-clause-there
code_at-requires-clause-there g c sound =
    let d = c.args.dbd.now in
    let u = c.args.volume.now in
    let T = c.requires.there sound in
    subst (IsSegment (links_of d.types u)) (sym c.tip_of.ensures) (tip_there d.types (links_of d.types u) T.0 (grounds d u T.0 (c.requires.of sound) T.2.holds) c.args.path.now T.1 T.2)

pub returns-clause-value : goal.returns-clause-value
returns-clause-value g c f i at up =
    let d = c.args.dbd.now in
    let u = c.args.volume.now in
    let of = c.requires.of at.sound in
    let code : c.in_ok-code.code ≡ (row_at (rows_of f) i).code
    = c.in_ok-code.ensures.value at.sound ∙ ap (links_of d.types u).code c.tip_of.ensures ∙ tip_code d.types (links_of d.types u) f (grounds d u f of at.row.holds) c.args.path.now i at.row in
    subst (IsJudged (satisfies (record { types = d.types; pcb = c.args.self.now }) (rows_of f) []) (λ j. true) d.types f i)
    (sym (c.verdict_plain.ensures ∙ ap₂ (λ (p : View) k. verdict_plain (record { types = d.types; pcb = p }) k) c.self.view_is code))
    (judged_plain d.types f c.args.self.now (held_rows d u f of at.row.holds) i at.row.within)

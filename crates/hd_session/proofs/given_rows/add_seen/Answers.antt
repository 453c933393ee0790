use Rattle.std.proofs.Common.{◌≡◌, true, ℕ, List, ap, ap₂, sym, subst, ◌∙◌}
use Rattle.hd_dbd.specs.Segment.{Segment}
use Rattle.hd_prefix.specs.Fields.{code_of, bytes_of}
use Rattle.hd_links.specs.Links.{segment_at}
use Rattle.hd_image.specs.Records.{links_of}
use Rattle.hd_forest.proofs.Reading.{lent}
use Rattle.hd_session.specs.Giving.{HasRoom, with_row}
use Rattle.hd_session.proofs.given_rows.add_seen.Goals as goal

pub returns-clause-code : goal.returns-clause-code
returns-clause-code g c sound =
    let d = c.args.dbd.now in
    let v = c.args.volume.now in
    let of = c.requires.of sound in
    let l = lent d v c.args.address c.in_ok-segment.segment.now of.fit of (c.requires.there sound) (c.in_ok-segment.ensures.value sound) in
    c.code_in-code.ensures ∙ ap code_of (sym l.stored)

pub returns-clause-added : goal.returns-clause-added
returns-clause-added g c sound =
    let d = c.args.dbd.now in
    let v = c.args.volume.now in
    let of = c.requires.of sound in
    let l = lent d v c.args.address c.in_ok-segment.segment.now of.fit of (c.requires.there sound) (c.in_ok-segment.ensures.value sound) in
    let row : record { code = c.code_in-code.result; bytes = c.bytes_in.result.now } ≡ segment_at (links_of d.types v) c.args.address
    = ap₂ (λ (k : ℕ) (b : List ℕ). record { code = k; bytes = b }) (c.code_in-code.ensures ∙ ap code_of (sym l.stored))
    (c.bytes_in.ensures l.whole ∙ ap (λ (x : List ℕ). bytes_of d.types (code_of x) x) (sym l.stored)) in
    subst (λ (r : Segment). HasRoom d.types r c.args.io.now → c.add_row.new.io ≡ with_row d.types true r c.args.io.now) row c.add_row.ensures.added

pub returns-clause-ahead : goal.returns-clause-ahead
returns-clause-ahead g c sound = c.ahead_of.ensures c.args.volume.now c.args.address (c.requires.of sound) (c.in_ok-segment.ensures.value sound)

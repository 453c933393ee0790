use Rattle.std.proofs.Common.{◌≡◌, ℕ, List, ap, ap₂, sym, ◌∙◌}
use Rattle.hd_dbd.specs.Segment.{Segment}
use Rattle.hd_dbd.specs.Loads.{order_fault}
use Rattle.hd_prefix.specs.Fields.{code_of, bytes_of}
use Rattle.hd_links.specs.Links.{segment_at}
use Rattle.hd_image.specs.Records.{links_of}
use Rattle.hd_forest.proofs.Reading.{lent}
use Rattle.hd_update.proofs.load_rule.order_fault_at.Goals as goal

pub returns-clause-value : goal.returns-clause-value
returns-clause-value g c sound =
    let d = c.args.dbd.now in
    let v = c.args.volume.now in
    let of = c.requires.of sound in
    let l = lent d v c.args.address c.in_ok-segment.segment.now of.fit of (c.requires.there sound) (c.in_ok-segment.ensures.value sound) in
    let new : Segment = record { code = c.args.code; bytes = c.args.bytes.now } in
    let before : record { code = c.code_in.result; bytes = c.bytes_in.result.now } ≡ segment_at (links_of d.types v) c.args.address
    = ap₂ (λ (k : ℕ) (b : List ℕ). record { code = k; bytes = b }) c.code_in.ensures (c.bytes_in.ensures l.whole)
    ∙ ap (λ (x : List ℕ). record { code = code_of x; bytes = bytes_of d.types (code_of x) x }) (sym l.stored) in
    c.order_fault.ensures ∙ ap (λ (s : Segment). order_fault d.types s new) before

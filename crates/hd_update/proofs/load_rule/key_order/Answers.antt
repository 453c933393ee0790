use Rattle.std.proofs.Common.{◌≡◌, ℕ, List, ap, ap₂, sym, ◌∙◌}
use Rattle.std.specs.Ordering.{nat_cmp}
use Rattle.std.specs.Cmp.Lexicographic.{slice_cmp}
use Rattle.hd_dbd.specs.Rows.{key_of}
use Rattle.hd_prefix.specs.Fields.{code_of, bytes_of}
use Rattle.hd_links.specs.Links.{segment_at}
use Rattle.hd_image.specs.Records.{links_of}
use Rattle.hd_forest.proofs.Reading.{lent}
use Rattle.hd_update.proofs.load_rule.key_order.Goals as goal

pub returns-clause-value : goal.returns-clause-value
returns-clause-value g c sound =
    let d = c.args.dbd.now in
    let v = c.args.volume.now in
    let of = c.requires.of sound in
    let l = lent d v c.args.address c.in_ok-segment.segment.now of.fit of (c.requires.there sound) (c.in_ok-segment.ensures.value sound) in
    let is : c.key_of-before.result.now ≡ key_of d.types (segment_at (links_of d.types v) c.args.address)
    = c.key_of-before.ensures.value
    ∙ ap₂ (λ (k : ℕ) (b : List ℕ). key_of d.types (record { code = k; bytes = b })) (sym (c.requires.typed sound))
    (c.bytes_in.ensures l.whole ∙ ap (λ (x : List ℕ). bytes_of d.types (code_of x) x) (sym l.stored)) in
    c.compare_keys.ensures ∙ ap₂ (λ (x y : List ℕ). slice_cmp nat_cmp x y) is c.key_of.ensures.value

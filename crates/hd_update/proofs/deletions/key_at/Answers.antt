use Rattle.std.proofs.Common.{◌≡◌, ◌≤◌, ℕ, List, length, ap, ap₂, sym, subst, ◌∙◌}
use Rattle.hd_dbd.specs.Rows.{key_of}
use Rattle.hd_dbd.proofs.KeyLengths.{key_of_short}
use Rattle.hd_prefix.specs.Fields.{code_of, bytes_of}
use Rattle.hd_links.specs.Links.{segment_at}
use Rattle.hd_image.specs.Records.{links_of}
use Rattle.hd_forest.proofs.Reading.{lent}
use Rattle.hd_update.proofs.deletions.key_at.Goals as goal

pub returns-clause-value : goal.returns-clause-value
returns-clause-value g c sound =
    let d = c.args.dbd.now in
    let v = c.args.volume.now in
    let m = links_of d.types v in
    let of = c.requires.of sound in
    let l = lent d v c.args.address c.in_ok-segment.segment.now of.fit of (c.requires.there sound) (c.in_ok-segment.ensures.value sound) in
    let is : c.key_of.result.now ≡ key_of d.types (segment_at m c.args.address)
    = c.key_of.ensures.value
    ∙ ap₂ (λ (k : ℕ) (b : List ℕ). key_of d.types (record { code = k; bytes = b })) (sym (c.requires.typed sound))
    (c.bytes_in.ensures l.whole ∙ ap (λ (x : List ℕ). bytes_of d.types (code_of x) x) (sym l.stored)) in
    c.of.ensures (subst (λ (k : List ℕ). length k ≤ 255) (sym is) (key_of_short d.block_size d.frspc d.types (segment_at m c.args.address) of.fit)) ∙ is

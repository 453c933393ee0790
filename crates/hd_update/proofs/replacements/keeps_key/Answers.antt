use Rattle.std.proofs.Common.{ℕ, List, ap, ap₂, sym, ◌∙◌}
use Rattle.std.specs.Prelude.{bytes_eq}
use Rattle.hd_dbd.specs.Rows.{key_of}
use Rattle.hd_prefix.specs.Fields.{code_of, bytes_of}
use Rattle.hd_forest.proofs.Reading.{lent}
use Rattle.hd_update.proofs.Rewritten.{row_is, new_row_is}
use Rattle.hd_update.proofs.replacements.keeps_key.Goals as goal

pub returns-clause-value : goal.returns-clause-value
returns-clause-value g c f w sound holds of =
    let d = c.args.dbd.now in
    let v = c.args.volume.now in
    let n = c.args.row.now in
    let l = lent d v n.address c.in_ok-segment.segment.now holds.volume.fit holds.volume (c.requires.there sound) (c.in_ok-segment.ensures.value sound) in
    c.eq.ensures
    ∙ ap₂ bytes_eq
    (c.key_of.ensures.value
    ∙ ap (λ (b : List ℕ). key_of d.types (record { code = n.code; bytes = b })) (c.bytes_in.ensures l.whole ∙ ap (λ (x : List ℕ). bytes_of d.types (code_of x) x) (sym l.stored))
    ∙ ap (key_of d.types) (row_is d v f c.args.area.now n w holds of))
    (c.key_of-new.ensures.value
    ∙ ap (λ (b : List ℕ). key_of d.types (record { code = n.code; bytes = b })) (c.part_for.ensures of.within)
    ∙ ap (key_of d.types) (new_row_is d v f c.args.area.now n w holds of))

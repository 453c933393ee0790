use Rattle.std.proofs.Common.{◌≡◌, true, ap, sym, ◌∙◌}
use Rattle.hd_dbd.specs.Rows.{key_of}
use Rattle.hd_links.specs.Links.{segment_at}
use Rattle.hd_links.specs.Steps.{rows_of}
use Rattle.hd_image.specs.Records.{links_of}
use Rattle.hd_get.proofs.Grounds.{grounds, tip_is, tip_code}
use Rattle.hd_get.proofs.Descents.{admits_key}
use Rattle.hd_get.proofs.by_key.admits_root.Goals as goal

pub returns-then-ask_for-clause-value : goal.returns-then-ask_for-clause-value
returns-then-ask_for-clause-value g c f i at =
    let d = c.args.dbd.now in
    let v = c.args.volume.now in
    let m = links_of d.types v in
    let path = c.args.path.now in
    let G = grounds d v f (c.requires.of at.sound) at.row.holds in
    let key = ap (key_of d.types) (sym (G.addressed.same i at.row.within)) ∙ ap (λ a. key_of d.types (segment_at m a)) (sym (tip_is d.types m f G path i at.row))
    ∙ c.requires.key c.if-is_equal.true at.sound in
    sym (admits_key d.types (rows_of f) i 1 c.args.ssas.now c.args.key.now (sym (tip_code d.types m f G path i at.row) ∙ c.requires.root at.sound) key (sym c.ask_for.ensures ∙ c.if-ask_for.true))

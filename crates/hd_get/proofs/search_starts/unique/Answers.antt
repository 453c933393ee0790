use Rattle.std.proofs.Common.{◌∙◌, ap, arith}
use Rattle.hd_image.specs.Records.{links_of}
use Rattle.hd_forest.specs.Walks.{next_on}
use Rattle.hd_forest.proofs.RowSteps.{row-steps}
use Rattle.hd_get.proofs.Starts.{leads_whole}
use Rattle.hd_get.proofs.search_starts.unique.Goals as goal

pub returns-clause-value : goal.returns-clause-value
returns-clause-value g c f sound holds =
    let d = c.args.dbd.now in
    let m = links_of d.types c.args.volume.now in
    leads_whole d.types m f c.next_row.new.path 0 (record {
      holds = holds;
      within = (omega arith);
      is = c.in_ok-next_row.ensures.value sound ∙ ap (next_on d.types m) c.new-path.ensures ∙ (row-steps d c.args.volume.now f (c.requires.of sound) holds).first;
    })

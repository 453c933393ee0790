use Rattle.hd_image.specs.Records.{links_of}
use Rattle.hd_volume.proofs.JoinLemmas.{if-ok-map}
use Rattle.hd_get.proofs.Starts.{leads_whole}
use Rattle.hd_get.proofs.search_starts.next.Goals as goal

pub returns-clause-value : goal.returns-clause-value
returns-clause-value g c =
    if-ok-map c.begin.result (λ path leads f q at. leads_whole c.args.dbd.now.types (links_of c.args.dbd.now.types c.args.volume.now) f path q.passed (leads at.sound f q at.at)) c.begin.ensures.value

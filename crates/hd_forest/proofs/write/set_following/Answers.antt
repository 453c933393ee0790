use Rattle.std.proofs.lemmas.Result.{on_ok_weaker}
use Rattle.hd_image.specs.Records.{links_of}
use Rattle.hd_image.specs.Pointing.{with_pointer}
use Rattle.hd_links.specs.Links.{Links}
use Rattle.hd_prefix.specs.declared.pointer.Pointer.TheVariants.{TwinForward, FirstChild}
use Rattle.hd_forest.specs.Sets.{IsRecorded}
use Rattle.hd_forest.proofs.Setting.{at-twin}
use Rattle.hd_forest.proofs.write.set_following.Goals as goal

pub returns-else-twin-eq0-clause-set : goal.returns-else-twin-eq0-clause-set
returns-else-twin-eq0-clause-set g c =
    let m : Links = links_of c.args.dbd.now.types c.args.volume.now in
    on_ok_weaker c.set_pointer-else-twin-eq0.result (λ set sound.
    at-twin c.args.twin (λ n. IsRecorded c.args.dbd.now c.args.volume.now n c.set_pointer-else-twin-eq0.new.volume)
    (with_pointer m (FirstChild c.args.code) c.args.parent c.args.address) (with_pointer m TwinForward c.args.twin c.args.address) c.if-twin-eq0.false (set sound))
    c.set_pointer-else-twin-eq0.ensures.set

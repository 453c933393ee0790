use Rattle.std.proofs.Common.{Result, Ok, Err, IsTrue, OnOk}
use Rattle.hd_dbd.specs.declared.answer.Refused.{Refused}
use Rattle.hd_dbd.specs.Hierarchy.{Database}
use Rattle.hd_volume.specs.Calls.{IsFreed}
use Rattle.hd_image.specs.Records.{links_of}
use Rattle.hd_image.specs.Pointing.{without_record}
use Rattle.hd_forest.specs.Sets.{IsRecorded}
use Rattle.hd_forest.proofs.Freed.{freed-record}
use Rattle.hd_forest.proofs.unlink.free_record.Goals as goal

pub returns-clause-freed : goal.returns-clause-freed
returns-clause-freed g c = by c.free.result c.free.ensures.freed
  where
    d : Database
    d = c.args.dbd.now

    by : (r : Result (Unit {0}) Refused) → OnOk r (IsTrue c.args.volume.now.is_sound → IsFreed c.args.volume.now c.args.address c.free.new.self)
        → OnOk r (IsTrue c.args.volume.now.is_sound → IsRecorded d c.args.volume.now (without_record (links_of d.types c.args.volume.now) c.args.address) c.free.new.self)
    by (Ok x) h = λ sound. freed-record d c.args.volume.now c.free.new.self c.args.address (c.requires.of sound).fit (c.requires.of sound) (c.requires.there sound) c.free.ensures.call.size c.free.ensures.call.sizes (h sound)
    by (Err e) h = tt

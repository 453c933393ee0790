use Rattle.std.proofs.Common.{sym}
use Rattle.std.proofs.lemmas.Result.{on_ok_weaker}
use Rattle.hd_dbd.specs.Hierarchy.{Database}
use Rattle.hd_volume.specs.Volumes.{VolumeState}
use Rattle.hd_volume.proofs.JoinLemmas.{calls-join}
use Rattle.hd_image.specs.Records.{links_of}
use Rattle.hd_forest.proofs.Agreeing.{place-following}
use Rattle.hd_forest.proofs.Naming.{sound-as, recorded-named}
use Rattle.hd_forest.proofs.change.name_leaf.Goals as goal

pub set_preceding-requires-clause-there : goal.set_preceding-requires-clause-there
set_preceding-requires-clause-there g c now =
    let d : Database = c.args.dbd.now in
    let u : VolumeState = c.args.volume.now in
    let v : VolumeState = c.set_following.new.volume in
    let sound = sound-as u.is_sound v.is_sound c.in_ok-set_following.ensures.call.sound now in
    place-following d.types (links_of d.types u) (links_of d.types v) c.args.parent c.args.code c.args.after c.args.address c.args.behind
    (c.in_ok-set_following.ensures.set sound).records (c.requires.behind sound)

pub returns-clause-call : goal.returns-clause-call
returns-clause-call g c = calls-join c.set_preceding.result c.in_ok-set_following.ensures.call c.set_preceding.ensures.call

pub returns-clause-named : goal.returns-clause-named
returns-clause-named g c =
    let d : Database = c.args.dbd.now in
    let u : VolumeState = c.args.volume.now in
    let v : VolumeState = c.set_following.new.volume in
    let w : VolumeState = c.set_preceding.new.volume in
    on_ok_weaker c.set_preceding.result (λ set sound.
    recorded-named d u v w c.args.parent c.args.code c.args.after c.args.behind c.args.address (c.in_ok-set_following.ensures.set sound)
    (set (sound-as v.is_sound u.is_sound (sym c.in_ok-set_following.ensures.call.sound) sound))) c.set_preceding.ensures.set

use Rattle.std.proofs.Common.{◌≡◌, sym, subst}
use Rattle.hd_volume.specs.Volumes.{VolumeState}
use Rattle.hd_prefix.specs.declared.pointer.Pointer.{Pointer}
use Rattle.hd_prefix.specs.declared.pointer.Pointer.TheVariants.{FirstChild, LastChild}
use Rattle.hd_image.specs.Records.{links_of}
use Rattle.hd_image.specs.Pointing.{with_pointer}
use Rattle.hd_forest.specs.Sets.{IsRecorded}
use Rattle.hd_forest.proofs.Setting.{is-one, recorded-first, recorded-last}
use Rattle.hd_forest.proofs.write.set_root.Goals as goal

pub returns-in-FirstChild-eq1-clause-set : goal.returns-in-FirstChild-eq1-clause-set
returns-in-FirstChild-eq1-clause-set g c = λ sound d of.
    let w : VolumeState = c.set_first_root.new.self in
    let is : c.args.pointer ≡ FirstChild 1 = is-one FirstChild c.args.pointer _ _ c.in-FirstChild-eq1.is c.in-FirstChild-eq1.field-0-is c.in-FirstChild-eq1.field-0-test in
    subst (λ (p : Pointer). IsRecorded d c.args.volume.now (with_pointer (links_of d.types c.args.volume.now) p 0 c.args.address) w) (sym is)
    (recorded-first d c.args.volume.now w c.args.address of c.set_first_root.ensures.rest (c.set_first_root.ensures.set sound))

pub returns-in-LastChild-eq1-clause-set : goal.returns-in-LastChild-eq1-clause-set
returns-in-LastChild-eq1-clause-set g c = λ sound d of.
    let w : VolumeState = c.set_last_root.new.self in
    let is : c.args.pointer ≡ LastChild 1 = is-one LastChild c.args.pointer _ _ c.in-LastChild-eq1.is c.in-LastChild-eq1.field-0-is c.in-LastChild-eq1.field-0-test in
    subst (λ (p : Pointer). IsRecorded d c.args.volume.now (with_pointer (links_of d.types c.args.volume.now) p 0 c.args.address) w) (sym is)
    (recorded-last d c.args.volume.now w c.args.address of c.set_last_root.ensures.rest (c.set_last_root.ensures.set sound))

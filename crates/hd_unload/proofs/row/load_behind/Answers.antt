use Rattle.hd_volume.proofs.CallSteps.{if-ok}
use Rattle.hd_unload.proofs.LoadedRoots.{root-behind}
use Rattle.hd_unload.proofs.row.load_behind.Goals as goal

pub returns-then-code-eq1-clause-loaded : goal.returns-then-code-eq1-clause-loaded
returns-then-code-eq1-clause-loaded g c =
    if-ok c.load_root_with_room.result c.load_root_with_room.ensures.loaded
    (λ a own sound rows path loaded may parent twin.
    root-behind c.args.dbd.now c.args.volume.now c.load_root_with_room.new.volume c.args.code c.args.after a c.args.bytes.now rows path loaded (own sound rows path loaded) c.if-code-eq1.true c.requires.fits may twin)

use Rattle.hd_volume.proofs.CallSteps.{if-ok}
use Rattle.hd_unload.proofs.Loaded.{may-link, dependent-loaded}
use Rattle.hd_unload.proofs.row.load_dependent.Goals as goal

pub link-requires-clause-place : goal.link-requires-clause-place
link-requires-clause-place g c = λ sound.
    may-link c.args.dbd.now c.args.volume.now (record { code = c.args.code; bytes = c.args.bytes.now }) c.args.parent c.args.after c.requires.fits (c.requires.can sound)

pub returns-clause-loaded : goal.returns-clause-loaded
returns-clause-loaded g c =
    if-ok c.link.result c.link.ensures.linked
    (λ a linked sound rows path loaded may parent twin.
    dependent-loaded c.args.dbd.now c.args.volume.now c.link.new.volume c.args.parent c.args.after a (record { code = c.args.code; bytes = c.args.bytes.now })
    c.requires.dependent c.requires.fits (linked sound) rows path loaded may parent twin)

use Rattle.std.proofs.Common.{ℕ, ◌<◌, List, sym, subst}
use Rattle.hd_dbd.specs.Segment.{Segment}
use Rattle.hd_dbd.specs.Rows.{level}
use Rattle.hd_links.specs.Placed.{Placed}
use Rattle.hd_unload.specs.Steps.{IsRowLoaded}
use Rattle.hd_unload.proofs.Loaded.{level-some, path-at, path-stepped}
use Rattle.hd_unload.proofs.row.load_row.Goals as goal

pub step-requires : goal.step-requires
step-requires g c =
    let row : Segment = record { code = c.args.code; bytes = c.args.bytes.now } in
    let some : 0 < level c.args.dbd.now.types row = level-some c.args.dbd.now.block_size c.args.dbd.now.frspc c.args.dbd.now.types row c.level.ensures.fit c.requires.fits in
    (subst (λ (n : ℕ). 0 < n) (sym c.level.ensures.level) some, c.level.ensures.bound)

pub returns-clause-loaded : goal.returns-clause-loaded
returns-clause-loaded g c = λ sound rows loaded.
    let row : Segment = record { code = c.args.code; bytes = c.args.bytes.now } in
    let p : Placed = record { address = c.in_ok-address.address; segment = row } in
    subst (λ (q : List Placed). IsRowLoaded c.args.dbd.now c.args.volume.now rows row q c.load_behind.new.volume)
    (sym (path-at c.args.dbd.now.types c.args.path.now c.step.new.self p c.level.result c.step.ensures c.level.ensures.level))
    (c.in_ok-address.ensures.loaded sound rows c.args.path.now loaded c.requires.may c.parent_on-parent.ensures c.twin_on-after.ensures)

pub returns-clause-path : goal.returns-clause-path
returns-clause-path g c =
    let p : Placed = record { address = c.in_ok-address.address; segment = record { code = c.args.code; bytes = c.args.bytes.now } } in
    path-stepped c.args.dbd.now.types c.args.path.now c.step.new.self p
    (path-at c.args.dbd.now.types c.args.path.now c.step.new.self p c.level.result c.step.ensures c.level.ensures.level)

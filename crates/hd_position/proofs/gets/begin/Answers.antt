use Rattle.std.proofs.Common.{sym, subst, ◌∙◌, ap}
use Rattle.hd_image.specs.Records.{links_of}
use Rattle.hd_forest.specs.Walks.{AreSegments, next_on}
use Rattle.hd_forest.proofs.RowSteps.{row-steps}
use Rattle.hd_position.proofs.Getting.{begins_behind, begins_there}
use Rattle.hd_position.proofs.gets.begin.Goals as goal

pub next_row-requires-clause-holds : goal.next_row-requires-clause-holds
next_row-requires-clause-holds g c sound = (let T = c.requires.there sound in (T.0, T.2.holds))

pub next_row-requires-clause-there : goal.next_row-requires-clause-there
next_row-requires-clause-there g c sound =
    let d = c.args.dbd.now in
    let u = c.args.volume.now in
    let T = c.requires.there sound in
    subst (AreSegments (links_of d.types u)) (sym (c.copy-path.ensures ∙ c.path.ensures))
    (begins_there d.types (links_of d.types u) T.0 (row-steps d u T.0 (c.requires.of sound) T.2.holds) c.args.position.now T.1 T.2.stands)

pub returns-clause-value : goal.returns-clause-value
returns-clause-value g c sound f q at =
    let d = c.args.dbd.now in
    let u = c.args.volume.now in
    record {
      holds = at.holds;
      within = at.stands.within;
      is = c.in_ok-next_row.ensures.value sound
          ∙ ap (next_on d.types (links_of d.types u)) (c.copy-path.ensures ∙ c.path.ensures)
          ∙ begins_behind d.types (links_of d.types u) f (row-steps d u f (c.requires.of sound) at.holds) c.args.position.now q at.stands;
    }

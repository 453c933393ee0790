use Rattle.std.proofs.Common.{sym, ap, ◌∙◌}
use Rattle.std.specs.Prelude.{option_map}
use Rattle.hd_links.specs.Steps.{path_at}
use Rattle.hd_get.proofs.StandingPaths.{no_row, path_down}
use Rattle.hd_get.proofs.type_paths.type_path.Goals as goal

pub returns-in_default-clause-value : goal.returns-in_default-clause-value
returns-in_default-clause-value g c f q at =
    let d = c.args.dbd.now in
    sym (ap (option_map (λ j. path_at d.types f j))
    (no_row d c.args.volume.now f c.args.position.now q (c.requires.of at.sound) at.at c.args.code (sym (c.in_ok-level.ensures.value f q at) ∙ c.in_default.is)))

pub returns-clause-value : goal.returns-clause-value
returns-clause-value g c f q at =
    c.path_up_to.ensures
    ∙ path_down c.args.dbd.now c.args.volume.now f c.args.position.now q (c.requires.of at.sound) at.at c.args.code c.in-Some.level (sym (c.in_ok-level.ensures.value f q at) ∙ c.in-Some.is)

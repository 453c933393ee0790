use Rattle.std.proofs.Common.{sym, ap, ◌∙◌}
use Rattle.std.specs.Prelude.{option_map}
use Rattle.hd_volume.proofs.JoinLemmas.{if-ok-map}
use Rattle.hd_links.specs.Steps.{path_at}
use Rattle.hd_forest.proofs.Reading.{after-read, sound-before, volume-kept}
use Rattle.hd_get.proofs.Seeking.{leads_told}
use Rattle.hd_get.proofs.searches.search.Goals as goal

pub find-requires-clause-of : goal.find-requires-clause-of
find-requires-clause-of g c = volume-kept c.args.dbd.now c.args.volume.now c.settle.new.volume c.in_ok-settle.ensures.read c.requires.of

pub find-requires-clause-there : goal.find-requires-clause-there
find-requires-clause-there g c now =
    let d = c.args.dbd.now in
    let u = c.args.volume.now in
    let v = c.settle.new.volume in
    let sound = sound-before u v c.in_ok-settle.ensures.read now in
    let T = c.requires.there sound in
    let M = c.in_ok-settle.ensures.value T.0 T.1 T.2 sound T.3 in (
      T.0,
      M.number,
      T.2,
      record {
        sound = now;
        leads = leads_told d u v c.in_ok-settle.ensures.read sound T.0 c.args.parent T.2 c.settle.new.path M.number (record { holds = T.3.holds; ends = M.ends; is = M.is });
        above = M.above;
      },
    )

pub returns-clause-value : goal.returns-clause-value
returns-clause-value g c = if-ok-map c.find.result (λ r finds f n end sound leads.
    let d = c.args.dbd.now in
    let u = c.args.volume.now in
    let v = c.settle.new.volume in
    let M = c.in_ok-settle.ensures.value f n end sound leads in
    finds f M.number end (record {
      sound = (after-read d u v c.in_ok-settle.ensures.read sound).sound;
      leads = leads_told d u v c.in_ok-settle.ensures.read sound f c.args.parent end c.settle.new.path M.number (record { holds = leads.holds; ends = M.ends; is = M.is });
      above = M.above;
    }) ∙ ap (option_map (λ j. path_at d.types f j)) (sym M.same)) c.find.ensures.found

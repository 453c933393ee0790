use Rattle.std.proofs.Common.{[], Some, None, sym, subst, ◌∙◌}
use Rattle.hd_image.specs.Records.{links_of}
use Rattle.hd_position.specs.Kept.{Kept}
use Rattle.hd_get.specs.Starts.{LeadsToStart}
use Rattle.hd_calls.specs.declared.call.GetKind.TheVariants.{NextInParent}
use Rattle.hd_get.proofs.Grounds.{grounds}
use Rattle.hd_get.proofs.Starts.{leads_below, parent_there, read_there}
use Rattle.hd_get.proofs.search_starts.next_in_parent.Goals as goal

pub returns-in_default-clause-value : goal.returns-in_default-clause-value
returns-in_default-clause-value g c f q at =
    let k : Kept = c.args.position.now in
    let e = read_there k c.path.result.now c.parent.result None c.path.ensures c.parent.ensures c.in_default.ensures in record {
      parent = parent_there c.args.dbd.now.types f k q at.at.stands None e;
      leads = tt;
    }

pub returns-clause-value : goal.returns-clause-value
returns-clause-value g c f q at =
    let d = c.args.dbd.now in
    let v = c.args.volume.now in
    let k : Kept = c.args.position.now in
    let G = grounds d v f (c.requires.of at.sound) at.at.holds in
    let e = read_there k c.path.result.now c.parent.result (Some c.in-Some.parent) c.path.ensures c.parent.ensures (sym c.in-Some.is ∙ c.row_on.ensures) in record {
      parent = parent_there d.types f k q at.at.stands (Some c.in-Some.parent) e;
      leads = subst (LeadsToStart NextInParent d v [] f q c.in-Some.parent) (sym c.stay_below.ensures)
          (leads_below d.types f k q at.at.stands (links_of d.types v) G.addressed c.in_ok-path.path c.in-Some.parent e (c.in_ok-path.ensures.value at.sound f q at.at));
    }

use Rattle.std.proofs.Common.{ℕ, List, length, sym, subst, ◌∙◌}
use Rattle.hd_volume.proofs.JoinLemmas.{if-ok-map}
use Rattle.hd_links.specs.Steps.{rows_of}
use Rattle.hd_image.specs.Records.{links_of}
use Rattle.hd_forest.proofs.Reading.{links-kept, volume-kept}
use Rattle.hd_position.specs.Gets.{IsSomewhere}
use Rattle.hd_get.specs.Searches.{LeadsWithin}
use Rattle.hd_get.specs.First.{lowered_to}
use Rattle.hd_calls.specs.declared.call.GetKind.TheVariants.{Next}
use Rattle.hd_calls.specs.Gets.{search_start}
use Rattle.hd_get.proofs.KeptPaths.{kept_told}
use Rattle.hd_get.proofs.LoweredStarts.{path_lowered, none_lowered, leads_lowered, start_stays}
use Rattle.hd_volume.proofs.CallSteps.{reads-join}
use Rattle.hd_get.proofs.first.next_by_first.Goals as goal

pub next-requires-clause-of : goal.next-requires-clause-of
next-requires-clause-of g c = volume-kept c.args.dbd.now c.args.volume.now c.lowered_to.new.volume c.in_ok-path.ensures.read c.requires.of

pub next-requires-clause-there : goal.next-requires-clause-there
next-requires-clause-there g c =
    links-kept c.args.dbd.now (λ m. IsSomewhere c.args.dbd.now.types m c.args.position.now) c.args.volume.now c.lowered_to.new.volume c.in_ok-path.ensures.read c.requires.there

pub returns-in-Some-clause-value : goal.returns-in-Some-clause-value
returns-in-Some-clause-value g c f q at =
    let d = c.args.dbd.now in
    let v = c.args.volume.now in
    let ssas = c.args.ssas.now in
    let L = path_lowered d.types f (lowered_to d.types (rows_of f) q ssas) c.in-Some.path (sym (c.in_ok-path.ensures.value f q at) ∙ c.in-Some.is) in
    subst (λ (xs : List ℕ). LeadsWithin d.types (links_of d.types v) f 0 (length (rows_of f)) xs (search_start d.types (rows_of f) q Next ssas)) L.2
    (leads_lowered d v f c.args.position.now q (c.requires.of at.sound) at.at ssas c.requires.descend L.0 L.1)

pub returns-in-None-clause-value : goal.returns-in-None-clause-value
returns-in-None-clause-value g c = if-ok-map c.next.result (λ path leads f q at.
    let d = c.args.dbd.now in
    let v = c.args.volume.now in
    let ssas = c.args.ssas.now in
    let L = leads f q (kept_told d v c.lowered_to.new.volume c.in_ok-path.ensures.read f c.args.position.now q at) in
    let none = none_lowered d.types f (lowered_to d.types (rows_of f) q ssas) (sym (c.in_ok-path.ensures.value f q at) ∙ c.in-None.is) in
    subst (LeadsWithin d.types (links_of d.types v) f 0 (length (rows_of f)) path)
    (sym (start_stays d v f c.args.position.now q (c.requires.of at.sound) at.at ssas c.requires.descend none))
    (record { holds = at.at.holds; ends = L.ends; is = L.is })) c.next.ensures.value

pub returns-in-None-clause-read : goal.returns-in-None-clause-read
returns-in-None-clause-read g c = reads-join c.next.result c.in_ok-path.ensures.read c.next.ensures.read

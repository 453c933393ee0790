use Rattle.std.proofs.Common.{ℕ, List, Option, IfSome, subst, ◌∙◌}
use Rattle.std.proofs.lemmas.Bool.{eqb-true}
use Rattle.hd_dbd.specs.Types.{SegmentType}
use Rattle.hd_volume.specs.Volumes.{VolumeState}
use Rattle.hd_links.specs.Links.{Links}
use Rattle.hd_image.specs.Records.{links_of}
use Rattle.hd_check_blocks.specs.declared.places.Place.{Place}
use Rattle.hd_check_pointers.specs.Keys.{IsLastKey}
use Rattle.hd_check_walk.specs.Walks.{IsFollowed, IsEnd}
use Rattle.hd_check_walk.proofs.RootWalks.{header-parent, header-walked}
use Rattle.hd_check_walk.proofs.walk.walk_roots.Goals as goal

pub walk_twins-requires-clause-parent : goal.walk_twins-requires-clause-parent
walk_twins-requires-clause-parent g c = λ sound.
    header-parent c.args.dbd.now.types c.args.volume.now c.first_root-first.result (c.first_root-first.ensures sound (c.requires.of sound).formatted.header.first)

pub returns-in-Some-clause-known : goal.returns-in-Some-clause-known
returns-in-Some-clause-known g c = λ sound yes.
    let m : Links = links_of c.args.dbd.now.types c.args.volume.now in
    subst (λ (o : Option ℕ). IfSome o (λ end. IsLastKey c.args.dbd.now.types m c.walk_twins.new.last)) c.in-Some.is (c.in_ok-found.ensures.known sound)

pub returns-in-Some-clause-header : goal.returns-in-Some-clause-header
returns-in-Some-clause-header g c = λ sound yes.
    let v : VolumeState = c.args.volume.now in
    let types : List SegmentType = c.args.dbd.now.types in
    let ps : List Place = c.args.places.now in
    let hs : List ℕ = c.walk_twins.new.holders.items in
    let first : ℕ = c.first_root-first.result in
    let there = (c.requires.of sound).formatted.header.first in
    let followed : IsFollowed ps hs 0 1 first = subst (λ (o : Option ℕ). IfSome o (λ end. IsFollowed ps hs 0 1 first)) c.in-Some.is (c.in_ok-found.ensures.first sound) in
    let end : IsEnd (links_of types v) first c.in-Some.last_root = subst (λ (o : Option ℕ). IfSome o (λ e. IsEnd (links_of types v) first e)) c.in-Some.is (c.in_ok-found.ensures.end sound) in
    header-walked types v first (c.first_root-first.ensures sound there) ps hs c.in-Some.last_root
    (eqb-true c.in-Some.last_root c.last_root-end.result yes ∙ c.last_root-end.ensures sound there) followed end

use Rattle.std.proofs.Common.{ℕ, IsTrue, sym, ap, subst, ◌∙◌}
use Rattle.hd_dbd.specs.Letters.{gives_get}
use Rattle.hd_dbd.specs.Views.{may}
use Rattle.hd_links.specs.Links.{Links}
use Rattle.hd_image.specs.Records.{links_of}
use Rattle.hd_forest.proofs.Reading.{after-read, sound-before}
use Rattle.hd_position.specs.Behind.{IsBehind}
use Rattle.hd_get.specs.Gets.{GetCall}
use Rattle.hd_get.proofs.NextTwins.{some_told}
use Rattle.hd_get.proofs.Seeking.{kept_in, position_told, position_kept}
use Rattle.hd_get.proofs.answers.get_next_twin.Goals as goal

pub begin_at_twin-requires-clause-of : goal.begin_at_twin-requires-clause-of
begin_at_twin-requires-clause-of g c sound = (c.requires.there sound).2.holds.volume

pub begin_at_twin-requires-clause-there : goal.begin_at_twin-requires-clause-there
begin_at_twin-requires-clause-there g c sound = (let T = c.requires.there sound in (T.0, T.1, (kept_in c.args.dbd.now c.args.volume.now T.0 c.args.position.now T.1 T.2).at))

pub get_behind-requires-clause-there : goal.get_behind-requires-clause-there
get_behind-requires-clause-there g c = position_kept c.args.dbd.now c.args.volume.now c.begin_at_twin.new.volume c.in_ok-twin.ensures.read c.args.position.now c.requires.there

pub get_behind-requires-clause-begins : goal.get_behind-requires-clause-begins
get_behind-requires-clause-begins g c = sym c.begins_behind.ensures ∙ c.if-not-begins_behind.false

pub get_behind-requires-clause-may : goal.get_behind-requires-clause-may
get_behind-requires-clause-may g c =
    ap (λ (x : GetCall). may (record { types = c.args.dbd.now.types; pcb = x.pcb }) gives_get c.in-Some.code) (sym c.call.view_is) ∙ sym c.may.ensures ∙ c.if-not-may.false

pub get_behind-requires-clause-behind : goal.get_behind-requires-clause-behind
get_behind-requires-clause-behind g c now =
    let d = c.args.dbd.now in
    let u = c.args.volume.now in
    let v = c.begin_at_twin.new.volume in
    let sound = sound-before u v c.in_ok-twin.ensures.read now in
    subst (λ (m : Links). IsBehind d.types m c.args.position.now c.in-Some.twin c.in-Some.code) (sym (after-read d u v c.in_ok-twin.ensures.read sound).links)
    (some_told (λ (r : ℕ × ℕ). IsTrue u.is_sound → IsBehind d.types (links_of d.types u) c.args.position.now r.0 r.1) c.in_ok-twin.field-0 (c.in-Some.twin, c.in-Some.code) c.in-Some.is c.in_ok-twin.ensures.value sound)

pub returns-clause-value : goal.returns-clause-value
returns-clause-value g c f q at =
    c.get_behind.ensures.value f q (position_told c.args.dbd.now c.args.volume.now c.begin_at_twin.new.volume c.in_ok-twin.ensures.read f c.args.position.now q at)

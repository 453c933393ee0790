use Rattle.std.proofs.Common.{◌≡◌, ℕ, IsTrue, IfErr, Result, Err, Ok, ap, sym, subst, ◌∙◌, length}
use Rattle.std.proofs.lemmas.Result.{err_from_is_err_and}
use Rattle.hd_dbd.specs.declared.answer.Refused.{Refused}
use Rattle.hd_dbd.specs.declared.answer.Refused.TheVariants.{Memory, Device}
use Rattle.hd_dbd.specs.Hierarchy.{Database}
use Rattle.hd_dbd.specs.Segment.{Segment}
use Rattle.hd_dbd.specs.Prefixes.{size_with}
use Rattle.hd_volume.specs.Volumes.{VolumeState}
use Rattle.hd_volume.specs.Rooms.{HasHole, HasFreeBlock}
use Rattle.hd_volume.specs.Calls.{IsCall}
use Rattle.hd_volume.proofs.JoinLemmas.{calls-join}
use Rattle.hd_links.specs.Links.{Links}
use Rattle.hd_image.specs.Records.{links_of}
use Rattle.hd_forest.specs.Sets.{IsTwinPlace}
use Rattle.hd_volume.proofs.CallSteps.{call-ok}
use Rattle.hd_forest.proofs.Reading.{after-read, sound-before}
use Rattle.hd_forest.proofs.Keeping.{keeps-same, free-seen}
use Rattle.hd_forest.proofs.Naming.{sound-as}
use Rattle.hd_forest.proofs.Linking.{has-place, place-put, link-done}
use Rattle.hd_forest.proofs.change.link.Goals as goal

pub twin_behind-requires-clause-there : goal.twin_behind-requires-clause-there
twin_behind-requires-clause-there g c sound =
    let row : Segment = record { code = c.args.code; bytes = c.args.bytes.now } in
    (has-place c.args.dbd.now c.args.volume.now c.args.parent c.args.after row (c.requires.of sound).fit (c.requires.of sound) (c.requires.holds sound) (c.requires.place sound)).before

pub put_leaf-requires-clause-of : goal.put_leaf-requires-clause-of
put_leaf-requires-clause-of g c now =
    let u : VolumeState = c.args.volume.now in
    let v : VolumeState = c.twin_behind.new.volume in
    let sound = sound-before u v c.in_ok-behind.ensures.read now in
    (after-read c.args.dbd.now u v c.in_ok-behind.ensures.read sound).volume (c.requires.of sound)

pub returns-in_err-address-clause-call : goal.returns-in_err-address-clause-call
returns-in_err-address-clause-call g c =
    let p = err_from_is_err_and c.from_residual-in_err-address.result c.from_residual-in_err-address.ensures.1 in
    subst (λ (r : Result ℕ Refused). IsCall c.args.volume.now r c.put_leaf.new.volume) (sym (p.1 ∙ ap Err p.2))
    (calls-join (Err c.in_err-address.field-0.0) c.in_ok-behind.ensures.read.call c.in_err-address.ensures.call)

pub returns-in_err-address-clause-no_free : goal.returns-in_err-address-clause-no_free
returns-in_err-address-clause-no_free g c =
    let u : VolumeState = c.args.volume.now in
    let v : VolumeState = c.twin_behind.new.volume in
    let p = err_from_is_err_and c.from_residual-in_err-address.result c.from_residual-in_err-address.ensures.1 in
    subst (λ (r : Result ℕ Refused). IfErr r (λ e. e ≡ Memory → IsTrue u.is_sound → HasFreeBlock u → ⊥)) (sym (p.1 ∙ ap Err p.2))
    (λ memory sound free.
    let same = after-read c.args.dbd.now u v c.in_ok-behind.ensures.read sound in
    c.in_err-address.ensures.no_free memory same.sound (free-seen u v same.image c.in_ok-behind.ensures.read.call.size free))

pub returns-in_err-address-clause-no_hole : goal.returns-in_err-address-clause-no_hole
returns-in_err-address-clause-no_hole g c =
    let u : VolumeState = c.args.volume.now in
    let v : VolumeState = c.twin_behind.new.volume in
    let p = err_from_is_err_and c.from_residual-in_err-address.result c.from_residual-in_err-address.ensures.1 in
    subst (λ (r : Result ℕ Refused). IfErr r (λ e. e ≡ Memory → IsTrue u.is_sound → HasHole u (size_with c.args.dbd.now.types c.args.code (length c.args.bytes.now)) → ⊥)) (sym (p.1 ∙ ap Err p.2))
    (λ memory sound hole.
    let same = after-read c.args.dbd.now u v c.in_ok-behind.ensures.read sound in
    c.in_err-address.ensures.no_hole memory same.sound ((keeps-same u v same.image c.in_ok-behind.ensures.read.call.size c.in_ok-behind.ensures.read.call.sizes).holes _ hole))

pub name_leaf-requires-clause-before : goal.name_leaf-requires-clause-before
name_leaf-requires-clause-before g c now =
    let d : Database = c.args.dbd.now in
    let u : VolumeState = c.args.volume.now in
    let v : VolumeState = c.twin_behind.new.volume in
    let w : VolumeState = c.put_leaf.new.volume in
    let row : Segment = record { code = c.args.code; bytes = c.args.bytes.now } in
    let there = sound-as v.is_sound w.is_sound c.in_ok-address.ensures.call.sound now in
    let sound = sound-before u v c.in_ok-behind.ensures.read there in
    let same = after-read d u v c.in_ok-behind.ensures.read sound in
    let put = c.in_ok-address.ensures.put there in
    let place = has-place d u c.args.parent c.args.after row (c.requires.of sound).fit (c.requires.of sound) (c.requires.holds sound) (c.requires.place sound) in
    place-put d.types (links_of d.types v) (links_of d.types w) c.args.parent c.args.code c.args.after c.in_ok-address.address put.segment put.free put.records
    (subst (λ (m : Links). IsTwinPlace d.types m c.args.parent c.args.code c.args.after) (sym same.links) place.before)

pub name_leaf-requires-clause-behind : goal.name_leaf-requires-clause-behind
name_leaf-requires-clause-behind g c now =
    let d : Database = c.args.dbd.now in
    let u : VolumeState = c.args.volume.now in
    let v : VolumeState = c.twin_behind.new.volume in
    let w : VolumeState = c.put_leaf.new.volume in
    let row : Segment = record { code = c.args.code; bytes = c.args.bytes.now } in
    let there = sound-as v.is_sound w.is_sound c.in_ok-address.ensures.call.sound now in
    let sound = sound-before u v c.in_ok-behind.ensures.read there in
    let same = after-read d u v c.in_ok-behind.ensures.read sound in
    let put = c.in_ok-address.ensures.put there in
    let place = has-place d u c.args.parent c.args.after row (c.requires.of sound).fit (c.requires.of sound) (c.requires.holds sound) (c.requires.place sound) in
    place-put d.types (links_of d.types v) (links_of d.types w) c.args.parent c.args.code c.in_ok-behind.behind c.in_ok-address.address put.segment put.free put.records
    (subst (λ (m : Links). IsTwinPlace d.types m c.args.parent c.args.code c.in_ok-behind.behind) (sym same.links)
    (subst (λ (b : ℕ). IsTwinPlace d.types (links_of d.types u) c.args.parent c.args.code b) (sym (c.in_ok-behind.ensures.value sound)) place.behind))

pub returns-in_err-name_leaf-clause-no_free : goal.returns-in_err-name_leaf-clause-no_free
returns-in_err-name_leaf-clause-no_free g c =
    let u : VolumeState = c.args.volume.now in
    let p = err_from_is_err_and c.from_residual-in_err-name_leaf.result c.from_residual-in_err-name_leaf.ensures.1 in
    subst (λ (r : Result ℕ Refused). IfErr r (λ e. e ≡ Memory → IsTrue u.is_sound → HasFreeBlock u → ⊥)) (sym (p.1 ∙ ap Err p.2))
    (λ memory sound free. let no : ◌≡◌ {A = Refused} Memory Device = sym memory ∙ c.in_err-name_leaf.ensures.refusal in let f : ⊥ = cc in f)

pub returns-in_err-name_leaf-clause-no_hole : goal.returns-in_err-name_leaf-clause-no_hole
returns-in_err-name_leaf-clause-no_hole g c =
    let u : VolumeState = c.args.volume.now in
    let p = err_from_is_err_and c.from_residual-in_err-name_leaf.result c.from_residual-in_err-name_leaf.ensures.1 in
    subst (λ (r : Result ℕ Refused). IfErr r (λ e. e ≡ Memory → IsTrue u.is_sound → HasHole u (size_with c.args.dbd.now.types c.args.code (length c.args.bytes.now)) → ⊥)) (sym (p.1 ∙ ap Err p.2))
    (λ memory sound hole. let no : ◌≡◌ {A = Refused} Memory Device = sym memory ∙ c.in_err-name_leaf.ensures.refusal in let f : ⊥ = cc in f)

pub returns-clause-call : goal.returns-clause-call
returns-clause-call g c =
    calls-join (Ok c.in_ok-address.address) c.in_ok-behind.ensures.read.call
    (calls-join (Ok c.in_ok-address.address) c.in_ok-address.ensures.call (call-ok c.in_ok-address.address c.in_ok-name_leaf.ensures.call))

pub returns-clause-linked : goal.returns-clause-linked
returns-clause-linked g c sound =
    let d : Database = c.args.dbd.now in
    let u : VolumeState = c.args.volume.now in
    let v : VolumeState = c.twin_behind.new.volume in
    let w : VolumeState = c.put_leaf.new.volume in
    let row : Segment = record { code = c.args.code; bytes = c.args.bytes.now } in
    let same = after-read d u v c.in_ok-behind.ensures.read sound in
    let read = c.in_ok-behind.ensures.read.call in
    let now = sound-as w.is_sound v.is_sound (sym c.in_ok-address.ensures.call.sound) same.sound in
    link-done d u v w c.name_leaf.new.volume c.args.parent c.args.after c.in_ok-behind.behind c.in_ok-address.address row (c.requires.of sound).fit (c.requires.of sound) (c.requires.holds sound)
    (c.requires.place sound) same.image read.size read.sizes read.plain (same.volume (c.requires.of sound)) (c.in_ok-behind.ensures.value sound)
    (c.in_ok-address.ensures.put same.sound) (c.in_ok-name_leaf.ensures.named now)

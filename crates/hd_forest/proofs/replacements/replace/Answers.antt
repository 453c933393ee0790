use Rattle.std.proofs.Common.{◌≡◌, ◌<◌, ◌≤◌, ℕ, List, length, IsTrue, true, Result, Ok, Err, IfOk, ap, sym, subst, ◌∙◌, arith}
use Rattle.std.specs.Prelude.{nat_lt}
use Rattle.std.proofs.lemmas.Bool.{ltb-true, ltb-false}
use Rattle.std.proofs.lemmas.Result.{IfOk-weaker, IfErr-weaker}
use Rattle.hd_dbd.specs.declared.answer.Refused.{Refused}
use Rattle.hd_dbd.specs.Hierarchy.{Database}
use Rattle.hd_dbd.specs.Segment.{Segment}
use Rattle.hd_dbd.specs.Prefixes.{size_with}
use Rattle.hd_volume.specs.Volumes.{VolumeState}
use Rattle.hd_volume.specs.Calls.{IsCall, IsRead}
use Rattle.hd_links.specs.Links.{Links, IsSegment}
use Rattle.hd_links.specs.Steps.{LeadsDown}
use Rattle.hd_links.specs.Changes.{CanReplace}
use Rattle.hd_image.specs.Records.{stored_at, links_of, IsVolumeOf}
use Rattle.hd_forest.specs.Walks.{tip}
use Rattle.hd_forest.specs.Replacing.{room_of, Outgrows, IsSegmentSet, IsRowSet}
use Rattle.hd_forest.proofs.Reading.{after-read, sound-before, volume-kept, links-kept}
use Rattle.hd_forest.proofs.Keeping.{keeps-same, free-seen}
use Rattle.hd_forest.proofs.Naming.{sound-as}
use Rattle.hd_forest.proofs.RowsSet.{outgrown, ingrown, stored-after, row-stays, row-set-read}
use Rattle.hd_forest.proofs.replacements.replace.Goals as goal

pub outgrows-requires-clause-there : goal.outgrows-requires-clause-there
outgrows-requires-clause-there g c sound =
    subst (λ (a : ℕ). IsSegment (links_of c.args.dbd.now.types c.args.volume.now) a) (sym c.tip_of-address.ensures) (c.requires.can sound).there

pub move_row-requires-clause-of : goal.move_row-requires-clause-of
move_row-requires-clause-of g c = volume-kept c.args.dbd.now c.args.volume.now c.outgrows.new.volume c.in_ok-outgrows.ensures.read c.requires.of

pub move_row-requires-clause-holds : goal.move_row-requires-clause-holds
move_row-requires-clause-holds g c now =
    let u = c.args.volume.now in
    let v = c.outgrows.new.volume in
    let sound = sound-before u v c.in_ok-outgrows.ensures.read now in
    (after-read c.args.dbd.now u v c.in_ok-outgrows.ensures.read sound).forest (c.requires.holds sound)

pub move_row-requires-clause-there : goal.move_row-requires-clause-there
move_row-requires-clause-there g c =
    let d = c.args.dbd.now in
    links-kept d (λ (m : Links). (0 < length c.args.path.now) × LeadsDown d.types m 0 c.args.path.now) c.args.volume.now c.outgrows.new.volume c.in_ok-outgrows.ensures.read c.requires.there

pub move_row-requires-clause-typed : goal.move_row-requires-clause-typed
move_row-requires-clause-typed g c =
    let d = c.args.dbd.now in
    links-kept d (λ (m : Links). m.code (tip c.args.path.now) ≡ c.args.code) c.args.volume.now c.outgrows.new.volume c.in_ok-outgrows.ensures.read c.requires.typed

pub move_row-requires-clause-can : goal.move_row-requires-clause-can
move_row-requires-clause-can g c =
    let d = c.args.dbd.now in
    links-kept d (λ (m : Links). CanReplace d.types m (tip c.args.path.now) c.args.bytes.now) c.args.volume.now c.outgrows.new.volume c.in_ok-outgrows.ensures.read c.requires.can

pub move_row-requires-clause-outgrows : goal.move_row-requires-clause-outgrows
move_row-requires-clause-outgrows g c now =
    let d = c.args.dbd.now in
    let u = c.args.volume.now in
    let v = c.outgrows.new.volume in
    let read = c.in_ok-outgrows.ensures.read in
    let sound = sound-before u v read now in
    let size : ℕ = size_with d.types c.args.code (length c.args.bytes.now) in
    ltb-true (length (stored_at v (tip c.args.path.now))) size
    (ap (λ (s : List ℕ). nat_lt (length s) size) (stored-after d u v (tip c.args.path.now) read sound ∙ ap (stored_at u) (sym c.tip_of-address.ensures))
    ∙ sym (c.in_ok-outgrows.ensures.value sound) ∙ c.if-branch.true)

pub set_segment-requires-clause-of : goal.set_segment-requires-clause-of
set_segment-requires-clause-of g c = volume-kept c.args.dbd.now c.args.volume.now c.outgrows.new.volume c.in_ok-outgrows.ensures.read c.requires.of

pub set_segment-requires-clause-there : goal.set_segment-requires-clause-there
set_segment-requires-clause-there g c =
    let d = c.args.dbd.now in
    let u = c.args.volume.now in
    links-kept d (λ (m : Links). IsSegment m c.tip_of-address.result) u c.outgrows.new.volume c.in_ok-outgrows.ensures.read
    (λ sound. subst (λ (a : ℕ). IsSegment (links_of d.types u) a) (sym c.tip_of-address.ensures) (c.requires.can sound).there)

pub set_segment-requires-clause-typed : goal.set_segment-requires-clause-typed
set_segment-requires-clause-typed g c =
    let d = c.args.dbd.now in
    let u = c.args.volume.now in
    links-kept d (λ (m : Links). m.code c.tip_of-address.result ≡ c.args.code) u c.outgrows.new.volume c.in_ok-outgrows.ensures.read
    (λ sound. ap (links_of d.types u).code c.tip_of-address.ensures ∙ c.requires.typed sound)

-- a row that takes more than is stored outgrows its place
outgrows-place : (d : Database) (u : VolumeState) (path : List ℕ) (address : ℕ) (row : Segment) → address ≡ tip path → IsVolumeOf d u → IsSegment (links_of d.types u) (tip path)
    → nat_lt (length (stored_at u address)) (room_of d.types row) ≡ true → Outgrows d u (tip path) row
outgrows-place d u path address row is of there less =
    outgrown d u (tip path) (room_of d.types row) of.fit of there
    (ltb-true (length (stored_at u (tip path))) (room_of d.types row) (subst (λ (a : ℕ). nat_lt (length (stored_at u a)) (room_of d.types row) ≡ true) is less))

-- one that does is set elsewhere
set-elsewhere : {A : Type 0} {x : A} (d : Database) (u v w : VolumeState) (path : List ℕ) (row : Segment) (result : Result ℕ Refused) → IsRead {T = A} u (Ok x) v
    → (IsTrue u.is_sound → Outgrows d u (tip path) row) → IsCall v result w → IfOk result (λ to. IsTrue v.is_sound → IsRowSet d v path row to w)
    → IfOk result (λ to. to ≡ tip path → IsTrue w.is_sound → u.room ≤ w.room)
set-elsewhere d u v w path row (Ok to) read low call done = λ is now.
    let sound : IsTrue v.is_sound = sound-as v.is_sound w.is_sound call.sound now in
    let less : Outgrows d v (tip path) row = links-kept d (λ (m : Links). size_with d.types (m.code (tip path)) (length (m.bytes (tip path))) < room_of d.types row) u v read low sound in
    absurd ((done sound).room.moves less is)
set-elsewhere d u v w path row (Err e) read low call done = tt

pub returns-then-branch-clause-still : goal.returns-then-branch-clause-still
returns-then-branch-clause-still g c =
    let d = c.args.dbd.now in
    let u = c.args.volume.now in
    let path = c.args.path.now in
    let row : Segment = record { code = c.args.code; bytes = c.args.bytes.now } in
    set-elsewhere d u c.outgrows.new.volume c.move_row.new.volume path row c.move_row.result c.in_ok-outgrows.ensures.read
    (λ sound. outgrows-place d u path c.tip_of-address.result row c.tip_of-address.ensures (c.requires.of sound) (c.requires.can sound).there
    (sym (c.in_ok-outgrows.ensures.value sound) ∙ c.if-branch.true))
    c.move_row.ensures.call c.move_row.ensures.set

pub returns-then-branch-clause-outgrown : goal.returns-then-branch-clause-outgrown
returns-then-branch-clause-outgrown g c =
    IfErr-weaker c.move_row.result _ _ (λ e any other sound.
    outgrows-place c.args.dbd.now c.args.volume.now c.args.path.now c.tip_of-address.result (record { code = c.args.code; bytes = c.args.bytes.now }) c.tip_of-address.ensures
    (c.requires.of sound) (c.requires.can sound).there (sym (c.in_ok-outgrows.ensures.value sound) ∙ c.if-branch.true))
    c.move_row.ensures.refusal

pub returns-then-branch-clause-set : goal.returns-then-branch-clause-set
returns-then-branch-clause-set g c =
    IfOk-weaker c.move_row.result _ _ (λ to done sound.
    let d = c.args.dbd.now in
    let u = c.args.volume.now in
    let v = c.outgrows.new.volume in
    let read = c.in_ok-outgrows.ensures.read in
    let same = after-read d u v read sound in
    row-set-read d u v c.move_row.new.volume c.args.path.now (record { code = c.args.code; bytes = c.args.bytes.now }) to read sound (same.volume (c.requires.of sound)) (done same.sound))
    c.move_row.ensures.set

pub returns-then-branch-clause-no_free : goal.returns-then-branch-clause-no_free
returns-then-branch-clause-no_free g c =
    IfErr-weaker c.move_row.result _ _ (λ e none memory sound free.
    let d = c.args.dbd.now in
    let u = c.args.volume.now in
    let v = c.outgrows.new.volume in
    let read = c.in_ok-outgrows.ensures.read in
    let same = after-read d u v read sound in
    none memory same.sound (free-seen u v same.image read.call.size free))
    c.move_row.ensures.no_free

pub returns-then-branch-clause-no_hole : goal.returns-then-branch-clause-no_hole
returns-then-branch-clause-no_hole g c =
    IfErr-weaker c.move_row.result _ _ (λ e none memory sound hole.
    let d = c.args.dbd.now in
    let u = c.args.volume.now in
    let v = c.outgrows.new.volume in
    let read = c.in_ok-outgrows.ensures.read in
    let same = after-read d u v read sound in
    none memory same.sound ((keeps-same u v same.image read.call.size read.call.sizes).holes _ hole))
    c.move_row.ensures.no_hole

pub returns-clause-set : goal.returns-clause-set
returns-clause-set g c =
    IfOk-weaker c.set_segment.result _ _ (λ to done sound.
    let d = c.args.dbd.now in
    let u = c.args.volume.now in
    let v = c.outgrows.new.volume in
    let w = c.set_segment.new.volume in
    let path = c.args.path.now in
    let row : Segment = record { code = c.args.code; bytes = c.args.bytes.now } in
    let size : ℕ = size_with d.types c.args.code (length c.args.bytes.now) in
    let read = c.in_ok-outgrows.ensures.read in
    let same = after-read d u v read sound in
    let of = same.volume (c.requires.of sound) in
    let can = subst (λ (m : Links). CanReplace d.types m (tip path) c.args.bytes.now) (sym same.links) (c.requires.can sound) in
    let set = subst (λ (a : ℕ). IsSegmentSet d v a row to w) c.tip_of-address.ensures (done same.sound) in
    let low = ltb-false (length (stored_at v (tip path))) size
    (ap (λ (s : List ℕ). nat_lt (length s) size) (stored-after d u v (tip path) read sound ∙ ap (stored_at u) (sym c.tip_of-address.ensures))
    ∙ sym (c.in_ok-outgrows.ensures.value sound) ∙ c.if-branch.false) in
    row-set-read d u v w path row to read sound of
    (row-stays d v w path row to of.fit of (same.forest (c.requires.holds sound)) can (set.room.stays (ingrown d v (tip path) size of.fit of can.there low)) set))
    c.set_segment.ensures.set

pub returns-clause-no_free : goal.returns-clause-no_free
returns-clause-no_free g c =
    IfErr-weaker c.set_segment.result _ _ (λ e none memory sound free.
    let d = c.args.dbd.now in
    let u = c.args.volume.now in
    let v = c.outgrows.new.volume in
    let read = c.in_ok-outgrows.ensures.read in
    let same = after-read d u v read sound in
    none memory same.sound (free-seen u v same.image read.call.size free))
    c.set_segment.ensures.no_free

pub returns-clause-no_hole : goal.returns-clause-no_hole
returns-clause-no_hole g c =
    IfErr-weaker c.set_segment.result _ _ (λ e none memory sound hole.
    let d = c.args.dbd.now in
    let u = c.args.volume.now in
    let v = c.outgrows.new.volume in
    let read = c.in_ok-outgrows.ensures.read in
    let same = after-read d u v read sound in
    none memory same.sound ((keeps-same u v same.image read.call.size read.call.sizes).holes _ hole))
    c.set_segment.ensures.no_hole

pub returns-clause-still : goal.returns-clause-still
returns-clause-still g c =
    IfOk-weaker c.set_segment.result _ _ (λ to still is now.
    let kept : c.outgrows.new.volume.room ≡ c.args.volume.now.room = c.in_ok-outgrows.ensures.read.room in
    let more : c.outgrows.new.volume.room ≤ c.set_segment.new.volume.room = still (is ∙ sym c.tip_of-address.ensures) now in
    omega (arith, kept, more))
    c.set_segment.ensures.still

pub returns-clause-outgrown : goal.returns-clause-outgrown
returns-clause-outgrown g c =
    IfErr-weaker c.set_segment.result _ _ (λ e grown other sound.
    let d = c.args.dbd.now in
    let u = c.args.volume.now in
    let v = c.outgrows.new.volume in
    let path = c.args.path.now in
    let row : Segment = record { code = c.args.code; bytes = c.args.bytes.now } in
    let same = after-read d u v c.in_ok-outgrows.ensures.read sound in
    subst (λ (m : Links). size_with d.types (m.code (tip path)) (length (m.bytes (tip path))) < room_of d.types row) same.links
    (subst (λ (a : ℕ). Outgrows d v a row) c.tip_of-address.ensures (grown other same.sound)))
    c.set_segment.ensures.outgrown

use Rattle.std.proofs.Common.{◌≡◌, ℕ, ◌-◌, ◌<◌, List, length, ap, subst, ◌∙◌, arith}
use Rattle.hd_volume.proofs.JoinLemmas.{if-ok-map}
use Rattle.hd_image.specs.Records.{links_of}
use Rattle.hd_forest.proofs.Reading.{links-kept, volume-kept}
use Rattle.hd_forest.specs.Rows.{IsOnSomeRow}
use Rattle.hd_session.specs.Giving.{IsCodeOn, HasAdded}
use Rattle.hd_session.specs.LastGiven.{AreNoted}
use Rattle.hd_session.proofs.GivenPaths.{path_some}
use Rattle.hd_session.proofs.KeysKnown.{added_kept, added_before, code_before, keys_kept, noted, if_done}
use Rattle.hd_session.proofs.given_rows.add_known.Goals as goal

pub add_path-requires-clause-part : goal.add_path-requires-clause-part
add_path-requires-clause-part g c =
    let rows : length c.addresses-rows.result.now ≡ length c.args.path.now = ap length c.addresses-rows.ensures.value in
    let few = c.add_above-known.ensures.few in
    (omega arith, omega arith)

pub add_path-requires-clause-before : goal.add_path-requires-clause-before
add_path-requires-clause-before g c =
    let d = c.args.dbd.now in
    let volume = c.args.volume.now in
    subst (λ (n : ℕ). HasAdded d volume c.args.path.now c.args.levels.now n c.add_above-known.new.io) c.if-known-last.true
    (λ sound. c.add_above-known.ensures.added d.types (links_of d.types volume) (c.requires.known sound).0)

pub returns-then-known-last-clause-known : goal.returns-then-known-last-clause-known
returns-then-known-last-clause-known g c = if_done c.add_path.result c.add_path.ensures.read c.add_path.ensures.added (λ x read added.
    keys_kept c.args.dbd.now c.args.volume.now c.add_path.new.volume read c.args.last_given.now c.requires.known)

pub add_path-requires-2-clause-part : goal.add_path-requires-2-clause-part
add_path-requires-2-clause-part g c =
    let rows : length c.addresses-rows.result.now ≡ length c.args.path.now = ap length c.addresses-rows.ensures.value in
    let few = c.add_above-known.ensures.few in
    (omega arith, omega arith)

pub add_path-requires-2-clause-before : goal.add_path-requires-2-clause-before
add_path-requires-2-clause-before g c sound = c.add_above-known.ensures.added c.args.dbd.now.types (links_of c.args.dbd.now.types c.args.volume.now) (c.requires.known sound).0

pub add_path-requires-3-clause-of : goal.add_path-requires-3-clause-of
add_path-requires-3-clause-of g c = volume-kept c.args.dbd.now c.args.volume.now c.add_path-2.new.volume c.in_ok-add_path.ensures.read c.requires.of

pub add_path-requires-3-clause-there : goal.add_path-requires-3-clause-there
add_path-requires-3-clause-there g c = links-kept c.args.dbd.now (λ m. IsOnSomeRow c.args.dbd.now.types m c.args.path.now) c.args.volume.now c.add_path-2.new.volume c.in_ok-add_path.ensures.read c.requires.there

pub add_path-requires-3-clause-before : goal.add_path-requires-3-clause-before
add_path-requires-3-clause-before g c =
    added_kept c.args.dbd.now c.args.volume.now c.add_path-2.new.volume c.in_ok-add_path.ensures.read c.args.path.now c.args.levels.now c.saturating_sub-last.result c.add_path-2.new.io c.in_ok-add_path.ensures.added

pub returns-clause-added : goal.returns-clause-added
returns-clause-added g c = if_done c.add_path-3.result c.add_path-3.ensures.read c.add_path-3.ensures.added (λ x read added.
    let d = c.args.dbd.now in
    let path : List ℕ = c.args.path.now in
    let levels : List ℕ = c.args.levels.now in
    let io = c.add_path-3.new.io in
    let rows : length c.addresses-rows.result.now ≡ length path = ap length c.addresses-rows.ensures.value in
    added_before d c.args.volume.now c.add_path-2.new.volume c.in_ok-add_path.ensures.read path levels (length path) io (subst (λ n. HasAdded d c.add_path-2.new.volume path levels n io) rows added))

pub returns-clause-known : goal.returns-clause-known
returns-clause-known g c = if_done c.add_path-3.result c.add_path-3.ensures.read c.add_path-3.ensures.added (λ x read added.
    let d = c.args.dbd.now in
    let mid = c.add_path-2.new.volume in
    let path : List ℕ = c.args.path.now in
    let levels : List ℕ = c.args.levels.now in
    let last : ℕ = c.saturating_sub-last.result in
    let io = c.add_path-2.new.io in
    let above = c.note.new.self in
    let is : last ≡ length path - 1 = c.saturating_sub-last.ensures ∙ ap (λ (xs : List ℕ). length xs - 1) c.addresses-rows.ensures.value in
    keys_kept d mid c.add_path-3.new.volume read above
    (noted d mid path levels last io above is (added_kept d c.args.volume.now mid c.in_ok-add_path.ensures.read path levels last io c.in_ok-add_path.ensures.added)
    (subst (λ (keys : List ℕ). AreNoted path keys above) c.key.ensures c.note.ensures)))

-- ---- the code of the last row

pub returns-then-known-last-clause-code : goal.returns-then-known-last-clause-code
returns-then-known-last-clause-code g c = if-ok-map c.add_path.result (λ code is sound.
    let d = c.args.dbd.now in
    let u = c.args.volume.now in
    let path : List ℕ = c.args.path.now in
    let T = c.requires.there sound in
    let some : 0 < length path = path_some d u T.0 path T.1 (c.requires.of sound) T.2 in
    let rows : length c.addresses-rows.result.now ≡ length path = ap length c.addresses-rows.ensures.value in
    let last = c.saturating_sub-last.ensures in
    subst (λ n. IsCodeOn d u path n code) rows (is (omega arith)) sound) c.add_path.ensures.code

pub returns-clause-code : goal.returns-clause-code
returns-clause-code g c = if-ok-map c.add_path-3.result (λ code is sound.
    let d = c.args.dbd.now in
    let u = c.args.volume.now in
    let path : List ℕ = c.args.path.now in
    let T = c.requires.there sound in
    let some : 0 < length path = path_some d u T.0 path T.1 (c.requires.of sound) T.2 in
    let rows : length c.addresses-rows.result.now ≡ length path = ap length c.addresses-rows.ensures.value in
    let last = c.saturating_sub-last.ensures in
    code_before d u c.add_path-2.new.volume c.in_ok-add_path.ensures.read path (length path) code
    (subst (λ n. IsCodeOn d c.add_path-2.new.volume path n code) rows (is (omega arith))) sound) c.add_path-3.ensures.code

use Rattle.std.proofs.Common.{◌≡◌, IsTrue, ℕ, ◌<◌, List, [], ◌∷◌, length, Bool, true, false, sym, ap, subst, ◌∙◌, arith, inl, inr}
use Rattle.std.specs.Prelude.{◌==◌}
use Rattle.std.proofs.lemmas.Bool.{cases_lt, eq-eqb, false≢true}
use Rattle.hd_dbd.specs.Hierarchy.{Database}
use Rattle.hd_volume.specs.Volumes.{VolumeState}
use Rattle.hd_volume.proofs.CallSteps.{read-ok, reads-join}
use Rattle.hd_dbd.specs.Rows.{key_of}
use Rattle.hd_links.specs.Links.{segment_at}
use Rattle.hd_links.specs.Steps.{rows_of}
use Rattle.hd_image.specs.Records.{links_of}
use Rattle.hd_forest.specs.Rows.{IsOnRow, IsOnSomeRow}
use Rattle.hd_forest.specs.Walks.{tip}
use Rattle.hd_forest.proofs.Reading.{after-read, links-kept, volume-kept}
use Rattle.hd_calls.specs.Ssas.{Ssa}
use Rattle.hd_get.specs.Searches.{IsOf, IsPathOf}
use Rattle.hd_get.specs.Starts.{HasRoots, LeadsToRoot, root_from}
use Rattle.hd_get.specs.Descents.{is_root_first}
use Rattle.hd_get.proofs.Grounds.{grounds, tip_code, told_before}
use Rattle.hd_get.proofs.ByKey.{none_before, root_row, begins_at, begins_below, root_admitted}
use Rattle.hd_get.proofs.by_key.descend_from.Goals as goal

-- a path that is not said to be empty has a row
some_row : (path : List ℕ) (b : Bool) → b ≡ (length path == 0) → b ≡ false → 0 < length path
some_row path b is no_ = elim (cases_lt 0 (length path)) [
  | inl w ↦ w
  | inr w ↦ absurd (false≢true (sym no_ ∙ is ∙ eq-eqb (length path) 0 (let z : length path ≡ 0 = omega arith in z)))
]

-- who is first is there
some_first : (ssas : List Ssa) → is_root_first ssas ≡ true → 0 < length ssas
some_first [] e = cc
some_first (a ∷ ssas) e = omega arith

-- a path to the first root from a key on that has a row ends at a root
root_coded : (d : Database) (v : VolumeState) (key path : List ℕ) → IsOf d v → HasRoots d v → LeadsToRoot d v key path → 0 < length path
    → IsTrue v.is_sound → (links_of d.types v).code (tip path) ≡ 1
root_coded d v key path of roots leads some sound =
    let H = roots sound in
    let R = root_row d v H.0 H.1 key path (leads H.0 sound H.1) some in
    let G = grounds d v H.0 (of sound) R.0.holds in
    tip_code d.types (links_of d.types v) H.0 G path (root_from d.types (rows_of H.0) key) R.0 ∙ R.1

pub returns-then-is_empty-clause-begins : goal.returns-then-is_empty-clause-begins
returns-then-is_empty-clause-begins g c f test sound holds named =
    let d = c.args.dbd.now in
    let v = c.args.volume.now in
    begins_at d v f holds test c.args.ssas.now named (some_first c.args.ssas.now c.requires.first) c.in_ok-path.path (root_from d.types (rows_of f) c.args.key.now)
    (none_before d v f holds c.args.ssas.now c.args.key.now c.requires.below) (c.in_ok-path.ensures.value f sound holds)

pub admits_root-requires-clause-of : goal.admits_root-requires-clause-of
admits_root-requires-clause-of g c = volume-kept c.args.dbd.now c.args.volume.now c.root_from.new.volume c.in_ok-path.ensures.read c.requires.of

pub admits_root-requires-clause-there : goal.admits_root-requires-clause-there
admits_root-requires-clause-there g c =
    let d = c.args.dbd.now in
    let u = c.args.volume.now in
    links-kept d (λ m. IsOnSomeRow d.types m c.in_ok-path.path) u c.root_from.new.volume c.in_ok-path.ensures.read
    (λ sound.
    let H = c.requires.holds sound in
    (H.0, root_from d.types (rows_of H.0) c.args.key.now, (root_row d u H.0 H.1 c.args.key.now c.in_ok-path.path (c.in_ok-path.ensures.value H.0 sound H.1) (some_row c.in_ok-path.path c.is_empty.result (c.is_empty.ensures ∙ ap (λ (xs : List ℕ). length xs == 0) c.addresses.ensures.value) c.if-is_empty.false)).0))

pub admits_root-requires-clause-root : goal.admits_root-requires-clause-root
admits_root-requires-clause-root g c =
    links-kept c.args.dbd.now (λ m. m.code (tip c.in_ok-path.path) ≡ 1) c.args.volume.now c.root_from.new.volume c.in_ok-path.ensures.read
    (root_coded c.args.dbd.now c.args.volume.now c.args.key.now c.in_ok-path.path c.requires.of c.requires.holds c.in_ok-path.ensures.value
    (some_row c.in_ok-path.path c.is_empty.result (c.is_empty.ensures ∙ ap (λ (xs : List ℕ). length xs == 0) c.addresses.ensures.value) c.if-is_empty.false))

pub admits_root-requires-clause-key : goal.admits_root-requires-clause-key
admits_root-requires-clause-key g c equal =
    let d = c.args.dbd.now in
    links-kept d (λ m. key_of d.types (segment_at m (tip c.in_ok-path.path)) ≡ c.args.key.now) c.args.volume.now c.root_from.new.volume c.in_ok-path.ensures.read
    (c.in_ok-path.ensures.key equal)

pub descend-requires-clause-of : goal.descend-requires-clause-of
descend-requires-clause-of g c =
    volume-kept c.args.dbd.now c.root_from.new.volume c.admits_root.new.volume c.in_ok-admits_root.ensures.read
    (volume-kept c.args.dbd.now c.args.volume.now c.root_from.new.volume c.in_ok-path.ensures.read c.requires.of)

pub descend-requires-clause-there : goal.descend-requires-clause-there
descend-requires-clause-there g c =
    let d = c.args.dbd.now in
    let u = c.args.volume.now in
    links-kept d (λ m. IsOnSomeRow d.types m c.in_ok-path.path) c.root_from.new.volume c.admits_root.new.volume c.in_ok-admits_root.ensures.read
    (links-kept d (λ m. IsOnSomeRow d.types m c.in_ok-path.path) u c.root_from.new.volume c.in_ok-path.ensures.read
    (λ sound.
    let H = c.requires.holds sound in
    (H.0, root_from d.types (rows_of H.0) c.args.key.now, (root_row d u H.0 H.1 c.args.key.now c.in_ok-path.path (c.in_ok-path.ensures.value H.0 sound H.1) (some_row c.in_ok-path.path c.is_empty.result (c.is_empty.ensures ∙ ap (λ (xs : List ℕ). length xs == 0) c.addresses.ensures.value) c.if-is_empty.false)).0)))

pub descend-requires-clause-root : goal.descend-requires-clause-root
descend-requires-clause-root g c =
    let d = c.args.dbd.now in
    links-kept d (λ m. m.code (tip c.in_ok-path.path) ≡ 1) c.root_from.new.volume c.admits_root.new.volume c.in_ok-admits_root.ensures.read
    (links-kept d (λ m. m.code (tip c.in_ok-path.path) ≡ 1) c.args.volume.now c.root_from.new.volume c.in_ok-path.ensures.read
    (root_coded d c.args.volume.now c.args.key.now c.in_ok-path.path c.requires.of c.requires.holds c.in_ok-path.ensures.value
    (some_row c.in_ok-path.path c.is_empty.result (c.is_empty.ensures ∙ ap (λ (xs : List ℕ). length xs == 0) c.addresses.ensures.value) c.if-is_empty.false)))

pub returns-then-not-branch-clause-read : goal.returns-then-not-branch-clause-read
returns-then-not-branch-clause-read g c = reads-join _ c.in_ok-path.ensures.read (read-ok _ c.in_ok-admits_root.ensures.read)

pub returns-then-not-branch-clause-begins : goal.returns-then-not-branch-clause-begins
returns-then-not-branch-clause-begins g c f test sound holds named =
    let d = c.args.dbd.now in
    let v = c.args.volume.now in
    begins_at d v f holds test c.args.ssas.now named (some_first c.args.ssas.now c.requires.first) c.in_ok-path.path (root_from d.types (rows_of f) c.args.key.now)
    (none_before d v f holds c.args.ssas.now c.args.key.now c.requires.below) (c.in_ok-path.ensures.value f sound holds)

pub returns-clause-read : goal.returns-clause-read
returns-clause-read g c =
    reads-join _ c.in_ok-path.ensures.read (reads-join _ c.in_ok-admits_root.ensures.read (read-ok _ c.in_ok-is_named.ensures.read))

pub returns-clause-begins : goal.returns-clause-begins
returns-clause-begins g c f test sound holds named =
    let d = c.args.dbd.now in
    let u = c.args.volume.now in
    let ssas = c.args.ssas.now in
    let key = c.args.key.now in
    let R = root_row d u f holds key c.in_ok-path.path (c.in_ok-path.ensures.value f sound holds)
    (some_row c.in_ok-path.path c.is_empty.result (c.is_empty.ensures ∙ ap (λ (xs : List ℕ). length xs == 0) c.addresses.ensures.value) c.if-is_empty.false) in
    let n : ℕ = root_from d.types (rows_of f) key in
    let at : IsPathOf d u f c.in_ok-path.path n = record { sound = sound; row = R.0 } in
    let at_1 = told_before d u c.root_from.new.volume c.in_ok-path.ensures.read f c.in_ok-path.path n at in
    let at_2 = told_before d c.root_from.new.volume c.admits_root.new.volume c.in_ok-admits_root.ensures.read f c.in_ok-path.path n at_1 in
    let L = c.in_ok-is_named.ensures.value f n at_2 in
    let same = after-read d c.root_from.new.volume c.admits_root.new.volume c.in_ok-admits_root.ensures.read at_1.sound in
    let same_0 = after-read d u c.root_from.new.volume c.in_ok-path.ensures.read sound in
    begins_below d u f holds test ssas named (some_first ssas c.requires.first) n (none_before d u f holds ssas key c.requires.below) c.descend.new.path c.in_ok-is_named.is_named
    (record { number = L.number; later = L.later; none = L.none; row = subst (λ m. IsOnRow d.types m f c.descend.new.path L.number) (same.links ∙ same_0.links) L.row; named = L.named })
    (root_admitted d u f holds ssas key R.0.within (sym (c.in_ok-admits_root.ensures.value f n at_1) ∙ c.if-not-branch.false))

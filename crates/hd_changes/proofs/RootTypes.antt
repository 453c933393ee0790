-- The root's type: its rows stand at level 1, and their keys are those of the index.
use Rattle.std.proofs.Common.{◌≡◌, ℕ, ◌+◌, ◌-◌, ◌≤◌, List, [], length, drop, true, IsTrue, Option, Some, None, refl, sym, ap, ◌∙◌, arith}
use Rattle.std.specs.Prelude.{option_and_then}
use Rattle.std.specs.Option.{option_map_or}
use Rattle.std.proofs.lemmas.List.{length-take-le, length-drop}
use Rattle.hd_dbd.specs.declared.hierarchy.FreeSpace.{FreeSpace}
use Rattle.hd_dbd.specs.declared.hierarchy.Key.{Key}
use Rattle.hd_dbd.specs.Types.{SegmentType}
use Rattle.hd_dbd.specs.Hierarchy.{type_of, parent_of, part_of, key_in}
use Rattle.hd_dbd.specs.DatabaseRules.{well_formed}
use Rattle.hd_dbd.specs.Rows.{row_fits, level}
use Rattle.hd_dbd.proofs.Fitting.{IsEarlier}
use Rattle.hd_dbd.proofs.TypeLengths.{row-type, length-least, type-lengths}
use Rattle.hd_dbd.proofs.LevelLaw.{leveled, parents_earlier, depth_below}
use Rattle.hd_changes.specs.Found.{RootKeysAreWhole}

-- it has no parent
pub root-parent : (block_size : ℕ) (frspc : FreeSpace) (types : List SegmentType) → IsTrue (well_formed block_size frspc types) → parent_of types 1 ≡ None
root-parent block_size frspc types fit = by-type (type_of types 1) refl
  where
    by-parent : (o : Option ℕ) → IsEarlier o 1 → o ≡ None
    by-parent None early = refl
    by-parent (Some p) early = absurd (let low = early.0 in let high = early.1 in omega arith)

    by-type : (o : Option SegmentType) → type_of types 1 ≡ o → parent_of types 1 ≡ None
    by-type None is = ap (λ (o : Option SegmentType). option_and_then (λ t. t.parent) o) is
    by-type (Some t) is =
        ap (λ (o : Option SegmentType). option_and_then (λ t. t.parent) o) is ∙ by-parent t.parent (parents_earlier block_size frspc types 1 t fit is)

-- its rows stand at level 1
pub root-level : (block_size : ℕ) (frspc : FreeSpace) (types : List SegmentType) (bytes : List ℕ) → IsTrue (well_formed block_size frspc types)
    → row_fits types (record { code = 1; bytes = bytes }) ≡ true → level types (record { code = 1; bytes = bytes }) ≡ 1
root-level block_size frspc types bytes fit fits =
    (leveled block_size frspc types fit).law (record { code = 1; bytes = bytes }) fits
    ∙ ap (λ (o : Option ℕ). depth_below types o + 1) (root-parent block_size frspc types fit)

-- a part that lies inside some bytes has its own length
part-long : (bytes : List ℕ) (key : Option Key) → ((k : Key) → key ≡ Some k → (1 ≤ k.start) × (k.start + k.length ≤ length bytes + 1))
    → length (option_map_or (λ k. part_of bytes k.start k.length) key []) ≡ option_map_or (λ k. k.length) key 0
part-long bytes None inside = refl
part-long bytes (Some k) inside =
    let within = inside k refl in
    let rest : length (drop (k.start - 1) bytes) ≡ length bytes - (k.start - 1) = length-drop (k.start - 1) bytes in
    let enough : k.length ≤ length (drop (k.start - 1) bytes) = omega (arith, rest, within.0, within.1) in
    length-take-le k.length (drop (k.start - 1) bytes) enough

-- the key of a root has the length of the index's keys
pub root-key-long : RootKeysAreWhole
root-key-long block_size frspc types bytes fit fits =
    let own = row-type types (record { code = 1; bytes = bytes }) fits in
    let has = type-lengths block_size frspc types 1 own.type fit own.is in
    let least = length-least own.type bytes own.fits in
    ap (λ (o : Option SegmentType). length (option_map_or (λ t. key_in t bytes) o [])) own.is
    ∙ part-long bytes own.type.key (λ k is. (let within = has.key k is in (within.1, omega (arith, within.2, least))))
    ∙ sym (ap (λ (o : Option SegmentType). option_map_or (λ t. option_map_or (λ k. k.length) t.key 0) o 0) own.is)

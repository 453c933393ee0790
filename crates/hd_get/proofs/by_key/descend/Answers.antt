use Rattle.std.proofs.Common.{◌≡◌, ℕ, ◌+◌, ◌-◌, ◌<◌, ◌≤◌, List, [], ◌∷◌, length, map, slice_index, Bool, true, false, Option, Some, None, Ok, sym, ap, subst, ◌∙◌, arith}
use Rattle.std.specs.Prelude.{slice_index_or}
use Rattle.std.proofs.lemmas.Bool.{eqb-true}
use Rattle.hd_dbd.specs.Hierarchy.{Database}
use Rattle.hd_dbd.specs.Forest.{Forest}
use Rattle.hd_volume.specs.Volumes.{VolumeState}
use Rattle.hd_volume.proofs.CallSteps.{read-ok, read-none, reads-join}
use Rattle.hd_links.specs.Placed.{Placed, Holds}
use Rattle.hd_links.specs.Steps.{rows_of}
use Rattle.hd_image.specs.Records.{links_of, IsVolumeOf}
use Rattle.hd_forest.specs.Walks.{tip}
use Rattle.hd_forest.specs.Rows.{IsOnSomeRow}
use Rattle.hd_forest.proofs.Reading.{links-kept, volume-kept}
use Rattle.hd_calls.specs.Ssas.{Ssa, target_code}
use Rattle.hd_calls.specs.Admits.{Descend, is_on_way}
use Rattle.hd_calls.proofs.SearchWays.{on_way_all}
use Rattle.hd_get.specs.Searches.{IsPathOf}
use Rattle.hd_get.specs.Descents.{IsStepDown, is_root_first}
use Rattle.hd_get.proofs.Grounds.{held_rows, told_before}
use Rattle.hd_get.proofs.Descents.{HasCome, on_way_at, further, further_code, code_at_place, come_to_last, come_so_far}
use Rattle.hd_get.proofs.by_key.descend.Goals as goal

first_code : (ssas : List Ssa) → is_root_first ssas ≡ true → (0 < length ssas) × (1 ≡ slice_index (map (λ a. a.code) ssas) 0)
first_code [] e = cc
first_code (a ∷ ssas) e = (omega arith, sym (eqb-true a.code 1 e))

pub loop-place-init : goal.loop-place-init
loop-place-init g c = record {
  read = read-none c.args.volume.now 0;
  comes = λ f i at. (i, record { later = omega arith; none = λ j low high. absurd (omega arith); row = at.row; admitted = λ e all. all });
  code = c.requires.root;
  last = (first_code c.args.ssas.now c.requires.first).1;
  some = omega arith;
}

-- the type of the argument at a place is on the way to the last one's
on_way : (d : Database) (v : VolumeState) → IsVolumeOf d v → (f : Forest Placed) → Holds d.types (links_of d.types v) f → (ssas : List Ssa) → Descend d.types None ssas
    → (place : ℕ) (x : Ssa) → place < length ssas → x ≡ slice_index_or ssas place x → is_on_way d.types (target_code ssas) x.code ≡ true
on_way d v of f holds ssas descend place x within is =
    on_way_at d.types (target_code ssas) place ssas x (on_way_all d.types (rows_of f) ssas (record { over = held_rows d v f of holds; descend = descend })) within is

pub step_down-requires-clause-of : goal.step_down-requires-clause-of
step_down-requires-clause-of g c = volume-kept c.args.dbd.now c.args.volume.now c.loop-place.volume c.loop-place.invariant.read c.requires.of

pub step_down-requires-clause-there : goal.step_down-requires-clause-there
step_down-requires-clause-there g c =
    links-kept c.args.dbd.now (λ m. IsOnSomeRow c.args.dbd.now.types m c.loop-place.path) c.args.volume.now c.loop-place.volume c.loop-place.invariant.read
    (λ sound.
    let T = c.requires.there sound in
    let C = c.loop-place.invariant.comes T.0 T.1 (record { sound = sound; row = T.2 }) in
    (T.0, C.0, C.1.row))

pub step_down-requires-clause-above : goal.step_down-requires-clause-above
step_down-requires-clause-above g c =
    links-kept c.args.dbd.now (λ m. m.code (tip c.loop-place.path) ≡ c.loop-place.above) c.args.volume.now c.loop-place.volume c.loop-place.invariant.read c.loop-place.invariant.code

pub returns-in_default-clause-read : goal.returns-in_default-clause-read
returns-in_default-clause-read g c = reads-join (Ok false) c.loop-place.invariant.read (read-ok false c.in_ok-is_met.ensures.read)

pub returns-in_default-clause-value : goal.returns-in_default-clause-value
returns-in_default-clause-value g c f i at =
    let d = c.args.dbd.now in
    let u = c.args.volume.now in
    let C = c.loop-place.invariant.comes f i at in
    let way = on_way d u (c.requires.of at.sound) f C.1.row.holds c.args.ssas.now c.requires.descend c.loop-place.place c.index-ssas-place.result c.loop-place-test.true c.index-ssas-place.is in
    come_so_far d u f c.args.ssas.now i C.0 c.code-code.result c.loop-place.is_named c.loop-place.path c.step_down.new.path C.1 _
    (c.in_ok-is_met.ensures.value f C.0 (told_before d u c.loop-place.volume c.loop-place.invariant.read f c.loop-place.path C.0 (record { sound = at.sound; row = C.1.row }))
    (subst (λ k. is_on_way d.types (target_code c.args.ssas.now) k ≡ true) (sym c.code-code.ensures) way))

-- The step from where the path was, and what was known there.
record HasStepped (d : Database) (v : VolumeState) (f : Forest Placed) (ssas : List Ssa) (i code : ℕ) (told : Bool) (old : List ℕ) (r : Option Bool) (new : List ℕ) : Type 0 where
  row : ℕ
  come : HasCome d v f ssas i told old row
  step : IsStepDown d.types f ssas row code r new

pub loop-place-preserved : goal.loop-place-preserved
loop-place-preserved g c =
    let d = c.args.dbd.now in
    let u = c.args.volume.now in
    record {
      read = reads-join (Ok 0) c.loop-place.invariant.read (read-ok 0 c.in_ok-is_met.ensures.read);
      comes = λ f i at.
          (let S = stepped f i at in (
            S.step.number,
            further d u f c.args.ssas.now i S.row c.code-code.result c.loop-place.is_named c.loop-place.path c.step_down.new.path S.come c.in-Some.is_met S.step,
          ));
      code = λ sound.
          (let T = c.requires.there sound in
          let S = stepped T.0 T.1 (record { sound = sound; row = T.2 }) in
          further_code d u T.0 c.args.ssas.now T.1 S.row c.code-code.result c.loop-place.is_named c.loop-place.path c.step_down.new.path S.come (c.requires.of sound) c.in-Some.is_met S.step);
      last = c.code-code.ensures ∙ sym (code_at_place c.loop-place.place c.args.ssas.now c.index-ssas-place.result c.loop-place-test.true c.index-ssas-place.is)
          ∙ ap (slice_index (map (λ a. a.code) c.args.ssas.now)) (let e : c.loop-place.place ≡ c.loop-place.place + 1 - 1 = omega arith in e);
      some = omega arith;
    }
  where
    stepped : (f : Forest Placed) (i : ℕ) → IsPathOf c.args.dbd.now c.args.volume.now f c.args.path.now i
        → HasStepped c.args.dbd.now c.args.volume.now f c.args.ssas.now i c.code-code.result c.loop-place.is_named c.loop-place.path (Some c.in-Some.is_met) c.step_down.new.path
    stepped f i at =
        let d = c.args.dbd.now in
        let u = c.args.volume.now in
        let C = c.loop-place.invariant.comes f i at in
        let way = on_way d u (c.requires.of at.sound) f C.1.row.holds c.args.ssas.now c.requires.descend c.loop-place.place c.index-ssas-place.result c.loop-place-test.true c.index-ssas-place.is in
        record {
          row = C.0;
          come = C.1;
          step = subst (λ r. IsStepDown d.types f c.args.ssas.now C.0 c.code-code.result r c.step_down.new.path) c.in-Some.is
              (c.in_ok-is_met.ensures.value f C.0 (told_before d u c.loop-place.volume c.loop-place.invariant.read f c.loop-place.path C.0 (record { sound = at.sound; row = C.1.row }))
              (subst (λ k. is_on_way d.types (target_code c.args.ssas.now) k ≡ true) (sym c.code-code.ensures) way));
        }

pub returns-clause-value : goal.returns-clause-value
returns-clause-value g c f i at =
    let d = c.args.dbd.now in
    let u = c.args.volume.now in
    let C = c.loop-place.invariant.comes f i at in
    let first : 0 < length c.args.ssas.now = (first_code c.args.ssas.now c.requires.first).0 in
    let low : length c.args.ssas.now ≤ c.loop-place.place = omega (arith, c.loop-place-test.false) in
    let some : 0 < c.loop-place.place = c.loop-place.invariant.some in
    let high = c.loop-place.auto.place-end in
    let whole : c.loop-place.place - 1 ≡ length c.args.ssas.now - 1 = omega (arith, high) in
    come_to_last d u (c.requires.of at.sound) f c.args.ssas.now c.requires.descend i c.loop-place.is_named c.loop-place.path C.0 C.1
    (c.loop-place.invariant.code at.sound ∙ c.loop-place.invariant.last ∙ ap (slice_index (map (λ a. a.code) c.args.ssas.now)) whole)

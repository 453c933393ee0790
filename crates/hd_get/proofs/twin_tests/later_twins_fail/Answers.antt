use Rattle.std.proofs.Common.{◌≡◌, ℕ, ◌+◌, ◌<◌, ◌≤◌, List, length, true, false, IsTrue, Ok, sym, ap, ap₂, subst, ◌∙◌, arith, inl, inr}
use Rattle.std.proofs.lemmas.Bool.{cases_lt}
use Rattle.hd_dbd.specs.Hierarchy.{Database}
use Rattle.hd_dbd.specs.Forest.{Forest}
use Rattle.hd_volume.specs.Volumes.{VolumeState}
use Rattle.hd_volume.proofs.CallSteps.{read-ok, reads-join}
use Rattle.hd_dbd.specs.Paths.{row_at}
use Rattle.hd_links.specs.Links.{Links, IsSegment, segment_at}
use Rattle.hd_links.specs.Placed.{Placed}
use Rattle.hd_links.specs.Steps.{rows_of}
use Rattle.hd_image.specs.Records.{links_of, IsVolumeOf}
use Rattle.hd_image.proofs.RowCounts.{few-rows}
use Rattle.hd_forest.specs.Rows.{IsOnSomeRow}
use Rattle.hd_forest.proofs.Reading.{after-read, links-kept, volume-kept}
use Rattle.hd_calls.specs.Ssas.{Ssa}
use Rattle.hd_calls.specs.Satisfies.{qualifies}
use Rattle.hd_get.specs.Searches.{IsPathOf}
use Rattle.hd_get.specs.Meeting.{IsStored}
use Rattle.hd_get.proofs.Grounds.{grounds, tip_is, tip_there}
use Rattle.hd_get.proofs.LastTwins.{HasLooked, looks_first, looks_on, same_twins, found_it, passed_it}
use Rattle.hd_get.proofs.twin_tests.later_twins_fail.Goals as goal

pub next_twin-requires-clause-there : goal.next_twin-requires-clause-there
next_twin-requires-clause-there g c sound =
    let d = c.args.dbd.now in
    let u = c.args.volume.now in
    let T = c.requires.there sound in
    subst (IsSegment (links_of d.types u)) (sym c.tip_of.ensures) (tip_there d.types (links_of d.types u) T.0 (grounds d u T.0 (c.requires.of sound) T.2.holds) c.args.path.now T.1 T.2)

-- the twin that was looked at last, if it is one, is stored
stored : (d : Database) (v : VolumeState) → (IsTrue v.is_sound → IsVolumeOf d v) → (path : List ℕ) → (IsTrue v.is_sound → IsOnSomeRow d.types (links_of d.types v) path)
    → (ssa : Ssa) (turns twin : ℕ) → ((f : Forest Placed) (i : ℕ) → IsPathOf d v f path i → HasLooked d.types f ssa i turns twin) → 0 < twin → IsStored d v twin
stored d v of path there ssa turns twin looked some sound =
    let T = there sound in
    let G = grounds d v T.0 (of sound) T.2.holds in
    let N = (looked T.0 T.1 (record { sound = sound; row = T.2 })).next some in
    subst (IsSegment (links_of d.types v)) N.3 (G.addressed.there N.0 N.2)

pub loop-count-init : goal.loop-count-init
loop-count-init g c =
    let d = c.args.dbd.now in
    let u = c.args.volume.now in
    record {
      read = read-ok 0 c.in_ok-twin.ensures.read;
      there = stored d u c.requires.of c.args.path.now c.requires.there c.args.ssa.now 0 c.in_ok-twin.twin (looked d u);
      looked = looked d u;
    }
  where
    looked : (d : Database) (u : VolumeState) → (f : Forest Placed) (i : ℕ) → IsPathOf c.args.dbd.now c.args.volume.now f c.args.path.now i → HasLooked c.args.dbd.now.types f c.args.ssa.now i 0 c.in_ok-twin.twin
    looked d u f i at =
        (let G = grounds c.args.dbd.now c.args.volume.now f (c.requires.of at.sound) at.row.holds in
        let m = links_of c.args.dbd.now.types c.args.volume.now in
        looks_first c.args.dbd.now.types f c.args.ssa.now i m G.addressed at.row.within (G.steps i at.row.within) c.in_ok-twin.twin
        (c.in_ok-twin.ensures.value at.sound ∙ ap m.forward (c.tip_of.ensures ∙ tip_is c.args.dbd.now.types m f G c.args.path.now i at.row)))

pub returns-then-twin-eq0-clause-value : goal.returns-then-twin-eq0-clause-value
returns-then-twin-eq0-clause-value g c f i at = sym ((c.loop-count.invariant.looked f i at).last c.if-twin-eq0.true)

pub qualifies-requires-clause-of : goal.qualifies-requires-clause-of
qualifies-requires-clause-of g c = volume-kept c.args.dbd.now c.args.volume.now c.loop-count.volume c.loop-count.invariant.read c.requires.of

-- a number that is not 0
some : (n : ℕ) → (n ≡ 0 → ⊥) → 0 < n
some n ne = elim (cases_lt 0 n) [ inl w ↦ w | inr w ↦ absurd (ne (let z : n ≡ 0 = omega arith in z)) ]

pub qualifies-requires-clause-there : goal.qualifies-requires-clause-there
qualifies-requires-clause-there g c =
    links-kept c.args.dbd.now (λ m. IsSegment m c.loop-count.twin) c.args.volume.now c.loop-count.volume c.loop-count.invariant.read (c.loop-count.invariant.there (some c.loop-count.twin c.if-twin-eq0.false))

pub returns-then-branch-clause-read : goal.returns-then-branch-clause-read
returns-then-branch-clause-read g c = reads-join (Ok false) c.loop-count.invariant.read (read-ok false c.in_ok-qualifies.ensures.read)

pub returns-then-branch-clause-value : goal.returns-then-branch-clause-value
returns-then-branch-clause-value g c f i at =
    let d = c.args.dbd.now in
    let u = c.args.volume.now in
    let G = grounds d u f (c.requires.of at.sound) at.row.holds in
    let same = after-read d u c.loop-count.volume c.loop-count.invariant.read at.sound in
    let N = (c.loop-count.invariant.looked f i at).next (some c.loop-count.twin c.if-twin-eq0.false) in
    let has : qualifies c.args.ssa.now (row_at (rows_of f) N.0) ≡ true
    = ap (qualifies c.args.ssa.now) (sym (G.addressed.same N.0 N.2) ∙ ap₂ (λ (m : Links) a. segment_at m a) (sym same.links) N.3) ∙ sym (c.in_ok-qualifies.ensures.value same.sound) ∙ c.if-branch.true in
    sym (found_it d.types f c.args.ssa.now i N.0 N.2 N.4 has N.5)

pub next_twin-requires-in-loop-count-clause-of : goal.next_twin-requires-in-loop-count-clause-of
next_twin-requires-in-loop-count-clause-of g c =
    volume-kept c.args.dbd.now c.loop-count.volume c.qualifies.new.volume c.in_ok-qualifies.ensures.read (volume-kept c.args.dbd.now c.args.volume.now c.loop-count.volume c.loop-count.invariant.read c.requires.of)

pub next_twin-requires-in-loop-count-clause-there : goal.next_twin-requires-in-loop-count-clause-there
next_twin-requires-in-loop-count-clause-there g c =
    links-kept c.args.dbd.now (λ m. IsSegment m c.loop-count.twin) c.loop-count.volume c.qualifies.new.volume c.in_ok-qualifies.ensures.read
    (links-kept c.args.dbd.now (λ m. IsSegment m c.loop-count.twin) c.args.volume.now c.loop-count.volume c.loop-count.invariant.read (c.loop-count.invariant.there (some c.loop-count.twin c.if-twin-eq0.false)))

pub loop-count-preserved : goal.loop-count-preserved
loop-count-preserved g c = record {
  read = reads-join (Ok 0) c.loop-count.invariant.read (reads-join (Ok 0) c.in_ok-qualifies.ensures.read (read-ok 0 c.in_ok-twin-2.ensures.read));
  there = stored c.args.dbd.now c.args.volume.now c.requires.of c.args.path.now c.requires.there c.args.ssa.now (c.loop-count.count + 1) c.in_ok-twin-2.twin looked;
  looked = looked;
}
  where
    looked : (f : Forest Placed) (i : ℕ) → IsPathOf c.args.dbd.now c.args.volume.now f c.args.path.now i → HasLooked c.args.dbd.now.types f c.args.ssa.now i (c.loop-count.count + 1) c.in_ok-twin-2.twin
    looked f i at =
        (let d = c.args.dbd.now in
        let u = c.args.volume.now in
        let m = links_of d.types u in
        let G = grounds d u f (c.requires.of at.sound) at.row.holds in
        let same = after-read d u c.loop-count.volume c.loop-count.invariant.read at.sound in
        let next = after-read d c.loop-count.volume c.qualifies.new.volume c.in_ok-qualifies.ensures.read same.sound in
        let N = (c.loop-count.invariant.looked f i at).next (some c.loop-count.twin c.if-twin-eq0.false) in
        let has : qualifies c.args.ssa.now (row_at (rows_of f) N.0) ≡ false
        = ap (qualifies c.args.ssa.now) (sym (G.addressed.same N.0 N.2) ∙ ap₂ (λ (m : Links) a. segment_at m a) (sym same.links) N.3) ∙ sym (c.in_ok-qualifies.ensures.value same.sound) ∙ c.if-branch.false in
        let far : i + c.loop-count.count < N.0 = N.1 in
        looks_on d.types f c.args.ssa.now i m G.addressed N.0 (c.loop-count.count + 1) N.2 (G.steps N.0 N.2) (omega arith) (λ j. same_twins d.types (rows_of f) i N.0 j N.4)
        (passed_it d.types f c.args.ssa.now i N.0 has N.5) c.in_ok-twin-2.twin
        (c.in_ok-twin-2.ensures.value next.sound ∙ ap (λ (k : Links). k.forward c.loop-count.twin) (next.links ∙ same.links) ∙ ap m.forward (sym N.3)))

pub returns-clause-value : goal.returns-clause-value
returns-clause-value g c f i at =
    let d = c.args.dbd.now in
    let u = c.args.volume.now in
    let H = c.loop-count.invariant.looked f i at in
    let most : c.length-most.result ≡ length u.image = c.length-most.ensures at.sound in
    let few : length (rows_of f) < length u.image = (few-rows d u f (c.requires.of at.sound) at.row.holds).0 in
    let all : c.length-most.result ≤ c.loop-count.count = omega (arith, c.loop-count-test.false) in
    elim (cases_lt 0 c.loop-count.twin) [
      | inl w ↦ absurd (let N = H.next w in let far : i + c.loop-count.count < N.0 = N.1 in let l : N.0 < length (rows_of f) = N.2 in omega arith)
      | inr w ↦ sym (H.last (let z : c.loop-count.twin ≡ 0 = omega arith in z))
    ]

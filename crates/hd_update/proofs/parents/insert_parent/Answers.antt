use Rattle.std.proofs.Common.{◌≡◌, ℕ, List, Bool, true, false, Option, Some, None, refl, sym, ap, ◌∙◌}
use Rattle.std.specs.Prelude.{cond, option_map}
use Rattle.std.specs.Option.{option_or}
use Rattle.std.specs.List.{list_all}
use Rattle.hd_dbd.specs.Types.{SegmentType}
use Rattle.hd_dbd.specs.Segment.{Segment}
use Rattle.hd_dbd.specs.Forest.{Forest}
use Rattle.hd_volume.proofs.JoinLemmas.{if-ok-map}
use Rattle.hd_links.specs.Placed.{Placed}
use Rattle.hd_links.specs.Steps.{rows_of, path_at}
use Rattle.hd_forest.proofs.Reading.{sound-before}
use Rattle.hd_calls.specs.Ssas.{Ssa}
use Rattle.hd_calls.specs.Satisfies.{on_path_at}
use Rattle.hd_calls.specs.Places.{is_plain, first_named, insert_parent}
use Rattle.hd_get.proofs.Seeking.{position_told}
use Rattle.hd_update.specs.Parents.{standing_parent}
use Rattle.hd_volume.proofs.CallSteps.{reads-join}
use Rattle.hd_update.proofs.parents.insert_parent.Goals as goal

-- the parent is the one where the PCB stands, or else the first row that is named
parent_is : (types : List SegmentType) (rows : List Segment) (standing : Option ℕ) (above : List Ssa) (code : ℕ)
    → insert_parent types rows standing above code ≡ option_or (standing_parent types rows standing above code) (first_named types rows above)
parent_is types rows standing above code = by (list_all is_plain above)
  where
    by : (b : Bool) → cond b (option_or (on_path_at types rows code standing) (first_named types rows above)) (first_named types rows above)
        ≡ option_or (cond b (on_path_at types rows code standing) None) (first_named types rows above)
    by true = refl
    by false = refl

-- a path that is there is that of a row, whatever else there is
some_or : (types : List SegmentType) (f : Forest Placed) (path : List ℕ) (o other : Option ℕ) → Some path ≡ option_map (λ i. path_at types f i) o
    → Some path ≡ option_map (λ i. path_at types f i) (option_or o other)
some_or types f path None other is = cc
some_or types f path (Some i) other is = is

-- where there is none, it is the other
none_or : (types : List SegmentType) (f : Forest Placed) (o other : Option ℕ) → None ≡ option_map (λ i. path_at types f i) o → option_or o other ≡ other
none_or types f None other is = refl
none_or types f (Some i) other is = cc

pub returns-in-Some-clause-value : goal.returns-in-Some-clause-value
returns-in-Some-clause-value g c f q at =
    let d = c.args.dbd.now in
    some_or d.types f c.in-Some.path (standing_parent d.types (rows_of f) q.standing c.args.above.now c.args.code) (first_named d.types (rows_of f) c.args.above.now)
    (sym c.in-Some.is ∙ c.in_ok-path.ensures.value f q at)
    ∙ sym (ap (option_map (λ i. path_at d.types f i)) (parent_is d.types (rows_of f) q.standing c.args.above.now c.args.code))

pub first_named-requires-clause-of : goal.first_named-requires-clause-of
first_named-requires-clause-of g c now =
    let d = c.args.dbd.now in
    let u = c.args.volume.now in
    let v = c.standing_parent.new.volume in
    let T = c.requires.there (sound-before u v c.in_ok-path.ensures.read now) in
    (position_told d u v c.in_ok-path.ensures.read T.0 c.args.position.now T.1 T.2).holds.volume

pub first_named-requires-clause-holds : goal.first_named-requires-clause-holds
first_named-requires-clause-holds g c now =
    let d = c.args.dbd.now in
    let u = c.args.volume.now in
    let v = c.standing_parent.new.volume in
    let T = c.requires.there (sound-before u v c.in_ok-path.ensures.read now) in
    let told = position_told d u v c.in_ok-path.ensures.read T.0 c.args.position.now T.1 T.2 in
    (T.0, told.holds, told.later)

pub returns-in-None-clause-value : goal.returns-in-None-clause-value
returns-in-None-clause-value g c = if-ok-map c.first_named.result (λ path is f q at.
    let d = c.args.dbd.now in
    let told = position_told d c.args.volume.now c.standing_parent.new.volume c.in_ok-path.ensures.read f c.args.position.now q at in
    is f told.sound told.holds
    ∙ sym (ap (option_map (λ i. path_at d.types f i))
    (parent_is d.types (rows_of f) q.standing c.args.above.now c.args.code
    ∙ none_or d.types f (standing_parent d.types (rows_of f) q.standing c.args.above.now c.args.code) (first_named d.types (rows_of f) c.args.above.now)
    (sym c.in-None.is ∙ c.in_ok-path.ensures.value f q at)))) c.first_named.ensures.value

pub returns-in-None-clause-read : goal.returns-in-None-clause-read
returns-in-None-clause-read g c = reads-join c.first_named.result c.in_ok-path.ensures.read c.first_named.ensures.read

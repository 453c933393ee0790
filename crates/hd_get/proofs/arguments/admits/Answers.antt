use Rattle.std.proofs.Common.{◌≡◌, ℕ, ◌+◌, ◌<◌, ◌≤◌, List, ◌∷◌, length, true, false, Ok, sym, ap, ◌∙◌, arith, drop}
use Rattle.std.specs.Prelude.{◌&&◌, slice_index_or}
use Rattle.std.proofs.lemmas.List.{drop_more, drop_all}
use Rattle.hd_volume.proofs.CallSteps.{read-ok, reads-join}
use Rattle.hd_links.specs.Steps.{rows_of}
use Rattle.hd_forest.specs.Rows.{IsOnSomeRow}
use Rattle.hd_forest.proofs.Reading.{links-kept, volume-kept}
use Rattle.hd_calls.specs.Ssas.{Ssa}
use Rattle.hd_calls.specs.Admits.{admits, meets_own}
use Rattle.hd_get.proofs.Grounds.{told_before}
use Rattle.hd_get.proofs.arguments.admits.Goals as goal

pub meets_own-requires-clause-of : goal.meets_own-requires-clause-of
meets_own-requires-clause-of g c = volume-kept c.args.dbd.now c.args.volume.now c.loop-place.volume c.loop-place.invariant.read c.requires.of

pub meets_own-requires-clause-there : goal.meets_own-requires-clause-there
meets_own-requires-clause-there g c =
    links-kept c.args.dbd.now (λ m. IsOnSomeRow c.args.dbd.now.types m c.args.path.now) c.args.volume.now c.loop-place.volume c.loop-place.invariant.read c.requires.there

pub returns-then-not-branch-clause-read : goal.returns-then-not-branch-clause-read
returns-then-not-branch-clause-read g c = reads-join (Ok false) c.loop-place.invariant.read (read-ok false c.in_ok-meets_own.ensures.read)

-- the arguments that are left begin with the one that is judged
first_left : (xs : List Ssa) (n : ℕ) (x : Ssa) → n < length xs → x ≡ slice_index_or xs n x → drop n xs ≡ x ∷ drop (n + 1) xs
first_left xs n x within is = drop_more xs n x within ∙ ap (λ y. y ∷ drop (n + 1) xs) (sym is)

pub returns-then-not-branch-clause-value : goal.returns-then-not-branch-clause-value
returns-then-not-branch-clause-value g c f i at code =
    let types = c.args.dbd.now.types in
    let n : ℕ = c.loop-place.place in
    let x : Ssa = c.index-ssas-place.result in
    let own : meets_own types (rows_of f) i x ≡ false
    = sym (c.in_ok-meets_own.ensures.value f i (told_before c.args.dbd.now c.args.volume.now c.loop-place.volume c.loop-place.invariant.read f c.args.path.now i at) code) ∙ c.if-not-branch.true in
    sym (sym (c.loop-place.invariant.left f i at code)
    ∙ ap (λ xs. admits types (rows_of f) xs i) (first_left c.args.ssas.now n x c.loop-place-test.true c.index-ssas-place.is)
    ∙ ap (λ b. b && admits types (rows_of f) (drop (n + 1) c.args.ssas.now) i) own)

pub loop-place-preserved : goal.loop-place-preserved
loop-place-preserved g c = record {
  read = reads-join (Ok 0) c.loop-place.invariant.read (read-ok 0 c.in_ok-meets_own.ensures.read);
  left = λ f i at code. (let types = c.args.dbd.now.types in
      let n : ℕ = c.loop-place.place in
      let x : Ssa = c.index-ssas-place.result in
      let own : meets_own types (rows_of f) i x ≡ true
      = sym (c.in_ok-meets_own.ensures.value f i (told_before c.args.dbd.now c.args.volume.now c.loop-place.volume c.loop-place.invariant.read f c.args.path.now i at) code) ∙ c.if-not-branch.false in
      sym (ap (λ xs. admits types (rows_of f) xs i) (first_left c.args.ssas.now n x c.loop-place-test.true c.index-ssas-place.is)
      ∙ ap (λ b. b && admits types (rows_of f) (drop (n + 1) c.args.ssas.now) i) own)
      ∙ c.loop-place.invariant.left f i at code);
}

pub returns-clause-value : goal.returns-clause-value
returns-clause-value g c f i at code =
    let all : length c.args.ssas.now ≤ c.loop-place.place = omega (arith, c.loop-place-test.false) in
    sym (ap (λ xs. admits c.args.dbd.now.types (rows_of f) xs i) (drop_all c.loop-place.place c.args.ssas.now all)) ∙ c.loop-place.invariant.left f i at code

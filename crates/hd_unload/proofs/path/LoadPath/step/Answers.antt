use Rattle.std.proofs.Common.{◌≡◌, ◌<◌, ◌-◌, ◌+◌, ◌++◌, ℕ, suc, List, [], ◌∷◌, length, take, inl, inr, ap, ◌∙◌, arith}
use Rattle.std.specs.Prelude.{map, min, slice_set}
use Rattle.std.proofs.lemmas.Bool.{cases_lt}
use Rattle.hd_links.specs.Placed.{Placed}
use Rattle.hd_unload.specs.declared.path.Loaded.{Loaded}
use Rattle.hd_unload.specs.Paths.{placed_of}
use Rattle.hd_unload.proofs.PathRows.{front-set, front-low, front-high}
use Rattle.hd_unload.proofs.path.LoadPath.step.Goals as goal

pub returns : goal.returns
returns c =
    let kept : ℕ = c.min-kept.result in
    let rows : List Loaded = c.self.inside.rows in
    let count : ℕ = c.self.inside.count in
    let above : ℕ = c.args.level - 1 in
    let i = c.self.invariant in
    let l = c.requires in
    let least : kept ≡ min above count = c.min-kept.ensures in
    let below : kept < length rows = omega (arith, least, i.0, i.1, l.0, l.1) in
    let front : map placed_of (take kept rows) ≡ take above (map placed_of (take count rows)) = elim (cases_lt count above) [
      | inl short ↦ (let at : kept ≡ count = omega (arith, least) in ap (λ (n : ℕ). map placed_of (take n rows)) at ∙ front-high placed_of rows above count (omega arith))
      | inr long ↦ (let at : kept ≡ above = omega (arith, least) in ap (λ (n : ℕ). map placed_of (take n rows)) at ∙ front-low placed_of rows above count long)
    ] in
    ap (λ (n : ℕ). map placed_of (take n (slice_set rows kept c.args.row))) (let one : kept + 1 ≡ suc kept = omega arith in one)
    ∙ front-set placed_of rows kept c.args.row below
    ∙ ap (λ (ps : List Placed). ps ++ placed_of c.args.row ∷ []) (front ∙ ap (λ (ps : List Placed). take above ps) c.self.view_is)

use Rattle.std.proofs.Common.{◌≡◌, ℕ, ◌+◌, ◌-◌, List, [], ◌∷◌, ◌++◌, length, take, Bool, false, ap, ◌∙◌, arith}
use Rattle.std.proofs.lemmas.Bool.{false≢true}
use Rattle.hd_dbd.specs.Types.{SegmentType}
use Rattle.hd_dbd.specs.Paths.{end_of}
use Rattle.hd_dbd.specs.Forest.{Forest}
use Rattle.hd_links.specs.Placed.{Placed}
use Rattle.hd_links.specs.Steps.{rows_of}
use Rattle.hd_calls.proofs.Spans.{end_is}
use Rattle.hd_get.specs.Searches.{goes_below, GoesOn, IsTurned}
use Rattle.hd_get.proofs.Turns.{ends_later, turned_to, turned_to_twin, turned_across}
use Rattle.hd_get.proofs.steps.follow.Goals as goal

-- a search that goes on has turned
on : {test admits : ℕ → Bool} {types : List SegmentType} {f : Forest Placed} {end i : ℕ} {path : List ℕ} → GoesOn test admits types f end i path → IsTurned test admits types f end i false path
on G = record { found = λ e. absurd (false≢true e); on = λ e. G }

pub returns-in_ok-next-in-Next-clause-value : goal.returns-in_ok-next-in-Next-clause-value
returns-in_ok-next-in-Next-clause-value g c f i at test admits end E inside up J =
    let N = J.next c.in-Next.is in
    on (turned_to test admits c.args.dbd.now.types f c.args.parent i end E inside up (i + 1) c.next.new.path (omega arith)
    (λ j low high. ap test (let z : j ≡ i = omega arith in z) ∙ N.0) N.1 (c.in_ok-next-in-Next.ensures.value f i at))

pub returns-in_ok-over-in-Over-clause-value : goal.returns-in_ok-over-in-Over-clause-value
returns-in_ok-over-in-Over-clause-value g c f i at test admits end E inside up J =
    on (turned_to test admits c.args.dbd.now.types f c.args.parent i end E inside up (end_of c.args.dbd.now.types (rows_of f) i) c.over.new.path
    (end_is c.args.dbd.now.types (rows_of f) i at.row.within).behind (J.span (ap goes_below c.in-Over.is)) (J.over c.in-Over.is) (c.in_ok-over-in-Over.ensures.value f i at))

pub returns-in_ok-down-in-Down-clause-value : goal.returns-in_ok-down-in-Down-clause-value
returns-in_ok-down-in-Down-clause-value g c f i at test admits end E inside up J =
    on (c.in_ok-down-in-Down.ensures.value f i at test admits end (ends_later c.args.dbd.now.types f c.args.parent i end E (i + 1) (omega arith)) inside up (J.down c.in-Down.code c.in-Down.is)).0

pub returns-in_ok-across-in-Across-clause-value : goal.returns-in_ok-across-in-Across-clause-value
returns-in_ok-across-in-Across-clause-value g c f i at test admits end E inside up J =
    on (turned_across test admits c.args.dbd.now.types f c.args.parent i end (ends_later c.args.dbd.now.types f c.args.parent i end E (i + 1) (omega arith)) inside up c.across.new.path
    (J.span (ap goes_below c.in-Across.is)) (J.across c.in-Across.is) (c.in_ok-across-in-Across.ensures.value f i at)).0

pub returns-in-AcrossTo-clause-value : goal.returns-in-AcrossTo-clause-value
returns-in-AcrossTo-clause-value g c f i at test admits end E inside up J =
    on (turned_to_twin test admits c.args.dbd.now.types f c.args.parent i end E inside up c.in-AcrossTo.address c.across_to.new.path (J.across_to c.in-AcrossTo.address c.in-AcrossTo.is)
    (c.across_to.ensures ∙ ap (λ (xs : List ℕ). take (length xs - 1) xs ++ c.in-AcrossTo.address ∷ []) at.row.is))

pub returns-in_ok-beside-in-Beside-clause-value : goal.returns-in_ok-beside-in-Beside-clause-value
returns-in_ok-beside-in-Beside-clause-value g c f i at test admits end E inside up J =
    on (c.in_ok-beside-in-Beside.ensures.value f i at test admits end E inside up (J.beside c.in-Beside.code c.in-Beside.is))

pub returns-in_ok-rest-in-Rest-clause-value : goal.returns-in_ok-rest-in-Rest-clause-value
returns-in_ok-rest-in-Rest-clause-value g c f i at test admits end E inside up J =
    let R = J.rest c.in-Rest.is in
    on (c.in_ok-rest-in-Rest.ensures.value f i at test admits end E inside up R.0 R.1)

pub returns-in_ok-down_to_last-in-DownToLast-clause-value : goal.returns-in_ok-down_to_last-in-DownToLast-clause-value
returns-in_ok-down_to_last-in-DownToLast-clause-value g c f i at test admits end E inside up J =
    on (c.in_ok-down_to_last-in-DownToLast.ensures.value f i at test admits end (ends_later c.args.dbd.now.types f c.args.parent i end E (i + 1) (omega arith)) inside up
    (J.to_last c.in-DownToLast.code c.in-DownToLast.is)).0

pub returns-in_ok-beside_to_last-in-BesideToLast-clause-value : goal.returns-in_ok-beside_to_last-in-BesideToLast-clause-value
returns-in_ok-beside_to_last-in-BesideToLast-clause-value g c f i at test admits end E inside up J =
    on (c.in_ok-beside_to_last-in-BesideToLast.ensures.value f i at test admits end E inside up (J.beside_to_last c.in-BesideToLast.code c.in-BesideToLast.is))

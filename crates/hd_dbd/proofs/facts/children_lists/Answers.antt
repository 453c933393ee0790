use Rattle.std.proofs.Common.{ℕ, ◌+◌, ◌-◌, List, [], ◌∷◌, ◌++◌, length, map, ap, ◌∙◌}
use Rattle.std.proofs.lemmas.List.{map-append}
use Rattle.hd_dbd.specs.Prefixes.{children_of}
use Rattle.hd_dbd.specs.Facts.{table_from}
use Rattle.hd_dbd.proofs.Tables.{table_more}
use Rattle.hd_dbd.proofs.facts.children_lists.Goals as goal

pub loop-place-preserved : goal.loop-place-preserved
loop-place-preserved c =
    ap (λ (xs : List (List ℕ)). xs ++ table_from (children_of c.args.types.now) (c.loop-place.place + 1 + 1) (length c.args.types.now - (c.loop-place.place + 1)))
    (ap (λ xs. map (λ v. v.items) xs) c.in_ok-push.ensures.items ∙ map-append (λ v. v.items) c.loop-place.lists.items (c.in_ok-codes.codes ∷ []))
    ∙ table_more (children_of c.args.types.now) (map (λ v. v.items) c.loop-place.lists.items) c.in_ok-codes.codes.items c.loop-place.place (length c.args.types.now) c.loop-place-test.true c.in_ok-codes.ensures
    ∙ c.loop-place.invariant

-- A key is past a qualification where no group has only comparisons that it is not past.
use Rattle.std.proofs.Common.{◌≡◌, List, [], ◌∷◌, Bool, true, false, ap, ap₂, ◌∙◌, refl}
use Rattle.std.specs.Prelude.{not, ◌&&◌, ◌||◌}
use Rattle.std.specs.List.{list_any, list_all}

not_or : (a b : Bool) → not (a || b) ≡ (not a && not b)
not_or true b = refl
not_or false b = refl

not_and : (a b : Bool) → not (not a && b) ≡ (a || not b)
not_and true b = refl
not_and false b = refl

group_past : {X : Type 0} (test : X → Bool) (group : List X) → not (list_all (λ c. not (test c)) group) ≡ list_any (λ c. test c) group
group_past test [] = refl
group_past test (c ∷ group) = not_and (test c) (list_all (λ c. not (test c)) group) ∙ ap (λ b. test c || b) (group_past test group)

pub all_past : {X : Type 0} (test : X → Bool) (groups : List (List X))
    → not (list_any (λ group. list_all (λ c. not (test c)) group) groups) ≡ list_all (λ group. list_any (λ c. test c) group) groups
all_past test [] = refl
all_past test (g ∷ groups) =
    not_or (list_all (λ c. not (test c)) g) (list_any (λ group. list_all (λ c. not (test c)) group) groups)
    ∙ ap₂ (λ a b. a && b) (group_past test g) (all_past test groups)

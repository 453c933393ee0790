-- The last row below a row, by pointers.
use Rattle.std.proofs.Common.{◌≡◌, ℕ, ◌<◌, List, [], ◌∷◌, ◌++◌, ap, ◌∙◌, refl}
use Rattle.hd_dbd.specs.Types.{SegmentType}
use Rattle.hd_links.specs.Links.{Links, child_types}
use Rattle.hd_links.specs.Steps.{LeadsDown, tip_from, next_row, behind_span, behind_from, behind_child, first_some, child_among, later_than}
use Rattle.hd_links.proofs.Ways.{some_zero, some_own, some_both}
use Rattle.hd_position.specs.Backs.{EndsBelow, beside}

-- behind the last row below h stands what stands behind h
behind_ends : (types : List SegmentType) (m : Links) (h rest : ℕ) (q : List ℕ) → EndsBelow types m h q → behind_from types m h rest q ≡ rest
behind_ends types m h rest [] E = refl
behind_ends types m h rest (a ∷ q) E =
    behind_ends types m a (behind_child types m h rest a) q E.4
    ∙ some_zero (m.forward a) (first_some (child_among m h (later_than (m.code a) (child_types types (m.code h)))) rest) E.2
    ∙ some_zero (child_among m h (later_than (m.code a) (child_types types (m.code h)))) rest E.3

-- it has no child
childless : (types : List SegmentType) (m : Links) (h : ℕ) (q : List ℕ) → EndsBelow types m h q → child_among m (tip_from h q) (child_types types (m.code (tip_from h q))) ≡ 0
childless types m h [] E = E
childless types m h (a ∷ q) E = childless types m a q E.4

leads_below : (types : List SegmentType) (m : Links) (h : ℕ) (q : List ℕ) → EndsBelow types m h q → LeadsDown types m h q
leads_below types m h [] E = tt
leads_below types m h (a ∷ q) E = (E.0, E.1, leads_below types m a q E.4)

leads_on : (types : List SegmentType) (m : Links) (h : ℕ) (P : List ℕ) (y : ℕ) (q : List ℕ) → LeadsDown types m h (P ++ y ∷ []) → LeadsDown types m y q → LeadsDown types m h (P ++ y ∷ q)
leads_on types m h [] y q L K = (L.0, L.1, K)
leads_on types m h (x ∷ P) y q L K = (L.0, L.1, leads_on types m x P y q L.2 K)

behind_on : (types : List SegmentType) (m : Links) (h rest : ℕ) (P : List ℕ) (y : ℕ) (q : List ℕ)
    → behind_from types m h rest (P ++ y ∷ q) ≡ behind_from types m y (behind_child types m (tip_from h P) (behind_from types m h rest P) y) q
behind_on types m h rest [] y q = refl
behind_on types m h rest (x ∷ P) y q = behind_on types m x (behind_child types m h rest x) P y q

tip_on : (h : ℕ) (P : List ℕ) (y : ℕ) (q : List ℕ) → tip_from h (P ++ y ∷ q) ≡ tip_from y q
tip_on h [] y q = refl
tip_on h (x ∷ P) y q = tip_on x P y q

-- Behind the last row below y stands what stands beside y.
pub last_before : (types : List SegmentType) (m : Links) (P : List ℕ) (y : ℕ) (q : List ℕ) → LeadsDown types m 0 (P ++ y ∷ []) → EndsBelow types m y q
    → 0 < beside types m (tip_from 0 P) y
    → LeadsDown types m 0 (P ++ y ∷ q) × (next_row types m (P ++ y ∷ q) ≡ beside types m (tip_from 0 P) y)
last_before types m P y q L E some =
    let path : List ℕ = P ++ y ∷ q in
    let none : child_among m (tip_from 0 path) (child_types types (m.code (tip_from 0 path))) ≡ 0
    = ap (λ a. child_among m a (child_types types (m.code a))) (tip_on 0 P y q) ∙ childless types m y q E in (
      leads_on types m 0 P y q L (leads_below types m y q E),
      some_zero (child_among m (tip_from 0 path) (child_types types (m.code (tip_from 0 path)))) (behind_span types m path) none
          ∙ behind_on types m 0 0 P y q
          ∙ behind_ends types m y (behind_child types m (tip_from 0 P) (behind_span types m P) y) q E
          ∙ some_both (m.forward y) (child_among m (tip_from 0 P) (later_than (m.code y) (child_types types (m.code (tip_from 0 P))))) (behind_span types m P)
          ∙ some_own (beside types m (tip_from 0 P) y) (behind_span types m P) some,
    )

-- Passing over the twins of a block.
use Rattle.std.proofs.Common.{◌≡◌, ◌⊎◌, ℕ, zero, suc, ◌+◌, ◌<◌, List, true, sym, ap, ap₂, ◌∙◌, subst, arith, inl, inr}
use Rattle.std.proofs.lemmas.Bool.{cases_lt, false≢true}
use Rattle.hd_forest.specs.declared.twins.TwinPlaces.{TwinPlaces}
use Rattle.hd_forest.specs.declared.block_twins.Walk.{Walk}
use Rattle.hd_forest.specs.BlockTwins.{HasTwin, forward_in, is_below_in, twin_in, twin_before, AreBelowIn, IsPassage, IsWalk}

-- What a walk has come to behind n twins from p on.
pub record HasComeIn (places : TwinPlaces) (block : List ℕ) (start : ℕ) (key : List ℕ) (n other p last next : ℕ) : Type 0 where
  pub below : AreBelowIn places block start key n p
  pub twin : next ≡ twin_in places block start n p
  pub before : last ≡ twin_before places block start n other p

-- one more
pub come-more : (places : TwinPlaces) (block : List ℕ) (start : ℕ) (key : List ℕ) (n other p last twin next : ℕ) → HasComeIn places block start key n other p last twin
    → HasTwin places block start twin → is_below_in places block start key twin ≡ true → next ≡ forward_in places block start twin
    → HasComeIn places block start key (n + 1) other p twin next
come-more places block start key n other p last twin next H there below is =
    let one : suc n ≡ n + 1 = omega arith in
    subst (λ (k : ℕ). HasComeIn places block start key k other p twin next) one (record {
      below = (H.below, subst (HasTwin places block start) H.twin there, ap (is_below_in places block start key) (sym H.twin) ∙ below);
      twin = is ∙ ap (forward_in places block start) H.twin;
      before = H.twin;
    })

-- ---- one passage behind another

module _ (places : TwinPlaces) (block : List ℕ) (start : ℕ) (key : List ℕ) (p : ℕ) where
  -- so many steps more
  steps-join : (n k : ℕ) → twin_in places block start k (twin_in places block start n p) ≡ twin_in places block start (n + k) p
  steps-join n zero = ap (λ (m : ℕ). twin_in places block start m p) (let e : n ≡ n + 0 = omega arith in e)
  steps-join n (suc k) =
      ap (forward_in places block start) (steps-join n k) ∙ ap (λ (m : ℕ). twin_in places block start m p) (let e : suc (n + k) ≡ n + suc k = omega arith in e)

  below-join : (n k : ℕ) → AreBelowIn places block start key n p → AreBelowIn places block start key k (twin_in places block start n p) → AreBelowIn places block start key (n + k) p
  below-join n zero first behind = subst (λ (m : ℕ). AreBelowIn places block start key m p) (let e : n ≡ n + 0 = omega arith in e) first
  below-join n (suc k) first behind =
      subst (λ (m : ℕ). AreBelowIn places block start key m p) (let e : suc (n + k) ≡ n + suc k = omega arith in e)
      (below-join n k first behind.0, subst (HasTwin places block start) (steps-join n k) behind.1, ap (is_below_in places block start key) (sym (steps-join n k)) ∙ behind.2)

  before-join : (n k other : ℕ) → twin_before places block start k (twin_before places block start n other p) (twin_in places block start n p) ≡ twin_before places block start (n + k) other p
  before-join n zero other = ap (λ (m : ℕ). twin_before places block start m other p) (let e : n ≡ n + 0 = omega arith in e)
  before-join n (suc k) other =
      steps-join n k ∙ ap (λ (m : ℕ). twin_before places block start m other p) (let e : suc (n + k) ≡ n + suc k = omega arith in e)

-- a walk from where a passage came
pub walk-on : (places : TwinPlaces) (block : List ℕ) (start : ℕ) (key : List ℕ) (other p : ℕ) (part walk : Walk) → IsPassage places block start key other p part
    → IsWalk places block start key part.before part.twin walk → IsWalk places block start key other p walk
walk-on places block start key other p part walk P W =
    let n : ℕ = P.steps in
    let k : ℕ = W.steps in
    record {
      steps = n + k;
      below = below-join places block start key p n k P.below (subst (AreBelowIn places block start key k) P.twin W.below);
      twin = W.twin ∙ ap (twin_in places block start k) P.twin ∙ steps-join places block start key p n k;
      before = W.before ∙ ap₂ (twin_before places block start k) P.before P.twin ∙ before-join places block start key p n k other;
      found = W.found;
      moves = λ on there. elim (cases_lt 0 n) [
        | inl some ↦ omega arith
        | inr none ↦
            (let z : n ≡ 0 = omega arith in
            let here : part.twin ≡ p = P.twin ∙ ap (λ (m : ℕ). twin_in places block start m p) z in
            let more : 0 < k = W.moves on (subst (HasTwin places block start) (sym here) there) in omega arith)
      ];
    }

-- a passage that found a twin, or came to one that the block does not have, is a walk
pub walk-ends : (places : TwinPlaces) (block : List ℕ) (start : ℕ) (key : List ℕ) (other p : ℕ) (part : Walk) → IsPassage places block start key other p part
    → (part.is_found ≡ true) ⊎ (HasTwin places block start part.twin → ⊥) → IsWalk places block start key other p part
walk-ends places block start key other p part P ends = record {
  steps = P.steps;
  below = P.below;
  twin = P.twin;
  before = P.before;
  found = P.found;
  moves = λ none there. elim ends [
    | inl found ↦ absurd (false≢true (sym none ∙ found))
    | inr outside ↦ elim (cases_lt 0 P.steps) [
      | inl some ↦ some
      | inr least ↦ absurd
          (let z : P.steps ≡ 0 = omega arith in
          let here : part.twin ≡ p = P.twin ∙ ap (λ (m : ℕ). twin_in places block start m p) z in
          outside (subst (HasTwin places block start) (sym here) there))
    ]
  ];
}

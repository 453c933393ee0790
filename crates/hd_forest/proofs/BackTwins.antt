-- Going back over the twins of a block.
use Rattle.std.proofs.Common.{◌≡◌, ℕ, zero, suc, ◌+◌, List, false, sym, ap, ◌∙◌, subst, arith}
use Rattle.hd_forest.specs.declared.twins.TwinPlaces.{TwinPlaces}
use Rattle.hd_forest.specs.declared.back_twins.Back.{Back}
use Rattle.hd_forest.specs.BlockTwins.{HasTwin, is_below_in}
use Rattle.hd_forest.specs.BackTwins.{backward_in, twin_back, AreNotBelowIn, IsBackWalk}

-- What a walk back has come to behind n twins from p on.
pub record HasGoneBack (places : TwinPlaces) (place : ℕ) (block : List ℕ) (start : ℕ) (key : List ℕ) (n p next : ℕ) : Type 0 where
  pub passed : AreNotBelowIn places place block start key n p
  pub twin : next ≡ twin_back place block start n p

-- one more
pub back-more : (places : TwinPlaces) (place : ℕ) (block : List ℕ) (start : ℕ) (key : List ℕ) (n p twin next : ℕ) → HasGoneBack places place block start key n p twin
    → HasTwin places block start twin → is_below_in places block start key twin ≡ false → next ≡ backward_in place block start twin
    → HasGoneBack places place block start key (n + 1) p next
back-more places place block start key n p twin next H there not_below is =
    let one : suc n ≡ n + 1 = omega arith in
    subst (λ (k : ℕ). HasGoneBack places place block start key k p next) one (record {
      passed = (H.passed, subst (HasTwin places block start) H.twin there, ap (is_below_in places block start key) (sym H.twin) ∙ not_below);
      twin = is ∙ ap (backward_in place block start) H.twin;
    })

-- ---- one walk behind another

module _ (places : TwinPlaces) (place : ℕ) (block : List ℕ) (start : ℕ) (key : List ℕ) (p : ℕ) where
  -- so many steps more
  backs-join : (n k : ℕ) → twin_back place block start k (twin_back place block start n p) ≡ twin_back place block start (n + k) p
  backs-join n zero = ap (λ (m : ℕ). twin_back place block start m p) (let e : n ≡ n + 0 = omega arith in e)
  backs-join n (suc k) =
      ap (backward_in place block start) (backs-join n k) ∙ ap (λ (m : ℕ). twin_back place block start m p) (let e : suc (n + k) ≡ n + suc k = omega arith in e)

  passed-join : (n k : ℕ) → AreNotBelowIn places place block start key n p → AreNotBelowIn places place block start key k (twin_back place block start n p)
      → AreNotBelowIn places place block start key (n + k) p
  passed-join n zero first behind = subst (λ (m : ℕ). AreNotBelowIn places place block start key m p) (let e : n ≡ n + 0 = omega arith in e) first
  passed-join n (suc k) first behind =
      subst (λ (m : ℕ). AreNotBelowIn places place block start key m p) (let e : suc (n + k) ≡ n + suc k = omega arith in e)
      (passed-join n k first behind.0, subst (HasTwin places block start) (backs-join n k) behind.1, ap (is_below_in places block start key) (sym (backs-join n k)) ∙ behind.2)

-- a walk from where another came
pub back-on : (places : TwinPlaces) (place : ℕ) (block : List ℕ) (start : ℕ) (key : List ℕ) (p : ℕ) (part back : Back) → IsBackWalk places place block start key p part
    → IsBackWalk places place block start key part.twin back → IsBackWalk places place block start key p back
back-on places place block start key p part back P W =
    let n : ℕ = P.steps in
    let k : ℕ = W.steps in
    record {
      steps = n + k;
      passed = passed-join places place block start key p n k P.passed (subst (AreNotBelowIn places place block start key k) P.twin W.passed);
      twin = W.twin ∙ ap (twin_back place block start k) P.twin ∙ backs-join places place block start key p n k;
      found = W.found;
    }

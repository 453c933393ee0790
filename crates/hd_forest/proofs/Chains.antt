-- Steps along a chain of twins.
use Rattle.std.proofs.Common.{◌≡◌, ◌≢◌, ℕ, zero, suc, ◌<◌, ◌≤◌, refl, sym, subst, arith, inl, inr}
use Rattle.hd_links.specs.Links.{Links, IsSegment}
use Rattle.hd_links.specs.Pointers.{IsTwinAfter, IsInChain}
use Rattle.hd_links.proofs.Ways.{chain_more}
use Rattle.hd_forest.specs.Twins.{AreTwins, twin_after, IsTwinWithin, IsBehind}

-- each twin on the way has an address
pub twin-some : (m : Links) (n p a : ℕ) → IsTwinAfter m n p a → 0 < p
twin-some m zero p a w = w.0
twin-some m (suc n) p a w = w.0

-- a twin comes after as many steps
pub after-is : (m : Links) (n p a : ℕ) → IsTwinAfter m n p a → twin_after m n p ≡ a
after-is m zero p a w = w.1
after-is m (suc n) p a w = after-is m n (m.forward p) a w.1

-- one that is not yet there is a segment, and the next is nearer by one
pub record IsNearer (m : Links) (bound p a : ℕ) : Type 0 where
  pub there : IsSegment m p
  pub next : IsTwinWithin m bound (m.forward p) a

-- the next twin is nearer by one
pub nearer : (m : Links) (bound p a : ℕ) → IsTwinWithin m (suc bound) p a → p ≢ a → IsNearer m bound p a
nearer m bound p a w ne = by w.after w.few w.is w.twins
  where
    by : (n : ℕ) → n ≤ suc bound → twin_after m n p ≡ a → AreTwins m n p → IsNearer m bound p a
    by zero few is twins = absurd (ne is)
    by (suc n) few is twins = record { there = twins.0; next = record { after = n; few = omega arith; is = is; twins = twins.1 } }

-- no step is left where the bound is 0
pub none-left : (m : Links) (p a : ℕ) → IsTwinWithin m 0 p a → p ≡ a
none-left m p a w = by w.after w.few w.is
  where
    by : (n : ℕ) → n ≤ 0 → twin_after m n p ≡ a → p ≡ a
    by zero few is = is
    by (suc n) few is = absurd (omega arith)

-- the twin that was passed is the one before the next
pub passed : (m : Links) (first y p : ℕ) → IsBehind m first y p → IsSegment m p → IsBehind m first p (m.forward p)
passed m first y p (inl e) s = inr (s.some, (0, (subst (λ x. 0 < x) (sym e.1) s.some, e.1)), refl)
passed m first y p (inr b) s =
    let some : 0 < m.forward y = subst (λ x. 0 < x) (sym b.2) s.some in
    inr (s.some, subst (IsInChain m first) b.2 (suc b.1.0, chain_more m b.1.0 first y b.1.1 some), refl)

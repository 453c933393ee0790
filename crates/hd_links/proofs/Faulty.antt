-- Records that hold no forest.
use Rattle.std.proofs.Common.{◌≡◌, ℕ, zero, suc, ◌+◌, ◌<◌, List, arith, refl, subst, inl}
use Rattle.hd_dbd.specs.Types.{SegmentType}
use Rattle.hd_links.specs.Links.{Links, IsSegment, IsLinkGraph}
use Rattle.hd_links.specs.Pointers.{IsTwinAfter, IsReached, AreLinked}
use Rattle.hd_links.specs.Faulty.{FaultyRecords}
use Rattle.hd_links.proofs.Types.{Ordered}
use Rattle.hd_links.proofs.Build.{reached_once}
use Rattle.hd_links.proofs.Sound.{are_linked}

-- a twin further on is reached by as many pointers more
reached_on : (types : List SegmentType) (m : Links) (L : AreLinked types m) (n k p a : ℕ) → IsReached types m k p → IsSegment m p → IsTwinAfter m n p a → IsReached types m (k + n) a
reached_on types m L zero k p a w s t = subst (IsReached types m (k + 0)) t.1 (subst (λ x. IsReached types m x p) (omega arith) w)
reached_on types m L (suc n) k p a w s t =
    let some : 0 < m.forward p = goes n t.1 in
    let next : IsSegment m (m.forward p) = record { some = some; here = (L.typed.forward p s some).0 } in
    subst (λ x. IsReached types m x a) (omega arith)
    (reached_on types m L n (suc k) (m.forward p) a (next, (p, w, inl (record { holder = s; names = refl }))) next t.1)
  where
    goes : (n : ℕ) → IsTwinAfter m n (m.forward p) a → 0 < m.forward p
    goes zero t = t.0
    goes (suc n) t = t.0

pub faulty : (types : List SegmentType) (O : Ordered types) (bound : ℕ) (m : Links) → IsLinkGraph types bound m → FaultyRecords types m
faulty types O bound m G = record {
  ring = λ a n s t f H.
      (let L : AreLinked types m = are_linked types O bound m G f H in
      let w = L.reached a s in
      let round : IsReached types m (w.0 + suc n) a = reached_on types m L (suc n) w.0 a a w.1 s (s.some, t) in
      let same : w.0 ≡ w.0 + suc n = reached_once types m L O w.0 (w.0 + suc n) a w.1 round in omega arith);
  twice = λ a g h s P Q ne f H. ne ((are_linked types O bound m G f H).single.one a g h s P Q);
  middle = λ h t here child kept first more f H.
      (let E = (are_linked types O bound m G f H).back.lasts h t here child kept first in
      let e : m.forward (m.last_child h t) ≡ 0 = E.1 in omega arith);
  unreached = λ a s none f H. (let w = (are_linked types O bound m G f H).reached a s in none w.0 w.1);
}

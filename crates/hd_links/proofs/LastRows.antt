-- The last of the nodes of one parent, and a leaf that goes in behind it.
use Rattle.std.proofs.Common.{◌≡◌, ℕ, suc, ◌<◌, ◌≤◌, List, true, cond, arith, ap, sym, ◌∙◌, refl, subst, inl, inr, Option, Some, None}
use Rattle.std.specs.Prelude.{slice_get, ◌==◌, nat_lt}
use Rattle.std.specs.Option.{option_map_or}
use Rattle.std.proofs.lemmas.Bool.{cases_eq, eq-eqb, ne_eqb, cond-true, cond-false, lt-ltb, ltb-true}
use Rattle.std.proofs.lemmas.Option.{same_Some, none-some}
use Rattle.hd_dbd.specs.Types.{SegmentType}
use Rattle.hd_dbd.specs.Rows.{twins_in_order, siblings_in_order}
use Rattle.hd_dbd.specs.Forest.{Forest, empty, node}
use Rattle.hd_links.specs.Links.{Links, segment_at}
use Rattle.hd_links.specs.Placed.{Placed, count, first_of, with_node, NodesLie, NodeLies}
use Rattle.hd_links.specs.Pointers.{IsTwinAfter, IsInChain}
use Rattle.hd_links.specs.Changes.{put_first, put_behind}
use Rattle.hd_links.specs.LastRows.{last_on}
use Rattle.hd_links.proofs.Forms.{Formed, follows_code, follows_key, segment_is}
use Rattle.hd_links.proofs.Counts.{is_at, one_at}
use Rattle.hd_links.proofs.Joins.{join, IsOne}

-- q is the last of these nodes
abbrev pub IsLast : Placed → Forest Placed → Type 0
IsLast q K = slice_get (last_on K) 0 ≡ Some q

-- ---- the last node

-- it is one of them
last_is_one : (q : Placed) (K : Forest Placed) → IsLast q K → IsOne q.segment.code q.address K
last_is_one q empty at = absurd (none-some q at)
last_is_one q (node r k empty) at =
    (let same : r ≡ q = same_Some r q at in inl (ap (λ (x : Placed). x.address) same, ap (λ (x : Placed). x.segment.code) same))
last_is_one q (node r k (node s u v)) at = inr (last_is_one q (node s u v) at)

-- its address is there
last_counts : (q : Placed) (K : Forest Placed) → IsLast q K → 0 < count q.address K
last_counts q empty at = absurd (none-some q at)
last_counts q (node r k empty) at =
    (let same : r ≡ q = same_Some r q at in let own : is_at r.address q.address ≡ 1 = one_at r.address q.address (ap (λ (x : Placed). x.address) same) in omega arith)
last_counts q (node r k (node s u v)) at = (let later : 0 < count q.address (node s u v) = last_counts q (node s u v) at in omega arith)

-- no code is greater than its own
first_upto : (types : List SegmentType) (c : ℕ) (q r : Placed) (k n : Forest Placed) → Formed types c (node r k n) → IsLast q (node r k n) → r.segment.code ≤ q.segment.code
first_upto types c q r k empty F at =
    (let same : r.segment.code ≡ q.segment.code = ap (λ (x : Placed). x.segment.code) (same_Some r q at) in omega arith)
first_upto types c q r k (node s u v) F at =
    let least : r.segment.code ≤ s.segment.code = follows_code types r s u v F.1 in
    let rest : s.segment.code ≤ q.segment.code = first_upto types c q s u v F.3 at in
    omega arith

-- of a greater code there is none
none_greater : (types : List SegmentType) (c t : ℕ) (q : Placed) (K : Forest Placed) → Formed types c K → IsLast q K → q.segment.code < t → first_of K t ≡ 0
none_greater types c t q empty F at less = refl
none_greater types c t q (node r k empty) F at less =
    let upto : r.segment.code ≤ q.segment.code = first_upto types c q r k empty F at in
    cond-false _ _ _ (ne_eqb r.segment.code t (λ (e : r.segment.code ≡ t). omega arith))
none_greater types c t q (node r k (node s u v)) F at less =
    let upto : r.segment.code ≤ q.segment.code = first_upto types c q r k (node s u v) F at in
    cond-false _ _ _ (ne_eqb r.segment.code t (λ (e : r.segment.code ≡ t). omega arith)) ∙ none_greater types c t q (node s u v) F.3 at less

-- Nothing stands behind it.
record LastLies (types : List SegmentType) (m : Links) (q : Placed) : Type 0 where
  table : ℕ → ℕ
  below : Forest Placed
  lies : NodeLies types m table q below empty

-- the last node is such a node
last_lies : (types : List SegmentType) (m : Links) (b : ℕ → ℕ) (q : Placed) (K : Forest Placed) → NodesLie types m b K → IsLast q K → LastLies types m q
last_lies types m b q empty s at = absurd (none-some q at)
last_lies types m b q (node r k empty) s at =
    record { table = b; below = k; lies = subst (λ (x : Placed). NodeLies types m b x k empty) (same_Some r q at) s.0 }
last_lies types m b q (node r k (node t u v)) s at = last_lies types m (with_node b r) q (node t u v) s.2 at

-- a node is in the chain of its type
pub one_chain : (types : List SegmentType) (m : Links) (b : ℕ → ℕ) (t y : ℕ) (K : Forest Placed) → NodesLie types m b K → IsOne t y K → IsInChain m (first_of K t) y
one_chain types m b t y empty s one = absurd one
one_chain types m b t y (node r k n) s (inl e) =
    let own : first_of (node r k n) t ≡ r.address = cond-true _ _ _ (eq-eqb r.segment.code t e.1) in
    (0, (subst (λ x. 0 < x) (sym own) s.0.there.some, own ∙ e.0))
one_chain types m b t y (node r k n) s (inr one) =
    let rest = one_chain types m (with_node b r) t y n s.2 one in
    elim (cases_eq r.segment.code t) [
      | inl e ↦
          (let own : first_of (node r k n) t ≡ r.address = cond-true _ _ _ (eq-eqb r.segment.code t e) in
          let next : m.forward (first_of (node r k n) t) ≡ first_of n t = ap m.forward own ∙ s.0.forward ∙ ap (first_of n) e in
          (suc rest.0, (subst (λ x. 0 < x) (sym own) s.0.there.some, subst (λ x. IsTwinAfter m rest.0 x y) (sym next) rest.1)))
      | inr ne ↦
          (let later : first_of (node r k n) t ≡ first_of n t = cond-false _ _ _ (ne_eqb r.segment.code t ne) in
          (rest.0, subst (λ x. IsTwinAfter m rest.0 x y) (sym later) rest.1))
    ]

-- ---- a leaf behind it

-- the nodes with a leaf at the end
abbrev pub with_last : Placed → Forest Placed → Forest Placed
with_last p K = join K (node p empty empty)

-- the first of a greater code comes last
first_last : (types : List SegmentType) (c : ℕ) (p q : Placed) (K : Forest Placed) → Formed types c K → IsLast q K → q.segment.code < p.segment.code → put_first p K ≡ with_last p K
first_last types c p q empty F at less = refl
first_last types c p q (node r k empty) F at less =
    let upto : r.segment.code ≤ q.segment.code = first_upto types c q r k empty F at in
    cond-true (nat_lt r.segment.code p.segment.code) (node r k (node p empty empty)) (node p empty (node r k empty)) (lt-ltb r.segment.code p.segment.code (omega arith))
first_last types c p q (node r k (node s u v)) F at less =
    let upto : r.segment.code ≤ q.segment.code = first_upto types c q r k (node s u v) F at in
    cond-true (nat_lt r.segment.code p.segment.code) (node r k (put_first p (node s u v))) (node p empty (node r k (node s u v))) (lt-ltb r.segment.code p.segment.code (omega arith))
    ∙ ap (λ (x : Forest Placed). node r k x) (first_last types c p q (node s u v) F.3 at less)

-- so does what goes in behind the last
behind_last : (p q : Placed) (K : Forest Placed) → IsLast q K → count q.address K ≤ 1 → put_behind q.address p K ≡ with_last p K
behind_last p q empty at once = absurd (none-some q at)
behind_last p q (node r k empty) at once =
    cond-true (r.address == q.address) (node r k (node p empty empty)) (node r k empty) (eq-eqb r.address q.address (ap (λ (x : Placed). x.address) (same_Some r q at)))
behind_last p q (node r k (node s u v)) at once =
    let later : 0 < count q.address (node s u v) = last_counts q (node s u v) at in
    let other : r.address ≡ q.address → ⊥ = (λ e. (let own : is_at r.address q.address ≡ 1 = one_at r.address q.address e in omega arith)) in
    cond-false (r.address == q.address) (node r k (node p empty (node s u v))) (node r k (put_behind q.address p (node s u v))) (ne_eqb r.address q.address other)
    ∙ ap (λ (x : Forest Placed). node r k x) (behind_last p q (node s u v) at (omega arith))

-- The leaf goes in at the end of these nodes, behind its twin y, or as the first of its type where y is 0.
pub record Ending (types : List SegmentType) (m : Links) (K : Forest Placed) (y : ℕ) (p : Placed) : Type 0 where
  pub new : cond (y == 0) (put_first p) (put_behind y p) K ≡ with_last p K
  pub twin : 0 < y → IsInChain m (first_of K p.segment.code) y
  pub before : 0 < y → twins_in_order types (segment_at m y) p.segment ≡ true
  pub behind : cond (y == 0) (first_of K p.segment.code) (m.forward y) ≡ 0

-- as the first of its type
ending_first : (types : List SegmentType) (m : Links) (K : Forest Placed) (y : ℕ) (p : Placed) → y ≡ 0 → put_first p K ≡ with_last p K → first_of K p.segment.code ≡ 0 → Ending types m K y p
ending_first types m K y p none new first = record {
  new = ap (λ (change : Forest Placed → Forest Placed). change K) (cond-true (y == 0) (put_first p) (put_behind y p) (eq-eqb y 0 none)) ∙ new;
  twin = λ some. absurd (omega arith);
  before = λ some. absurd (omega arith);
  behind = cond-true (y == 0) (first_of K p.segment.code) (m.forward y) (eq-eqb y 0 none) ∙ first;
}

-- behind a twin
ending_twin : (types : List SegmentType) (m : Links) (b : ℕ → ℕ) (K : Forest Placed) (y : ℕ) (p q : Placed) → NodesLie types m b K → count q.address K ≤ 1 → IsLast q K → y ≡ q.address
    → q.segment.code ≡ p.segment.code → twins_in_order types q.segment p.segment ≡ true → Ending types m K y p
ending_twin types m b K y p q s once at is code order =
    let L : LastLies types m q = last_lies types m b q K s at in
    let positive : 0 < q.address = L.lies.there.some in
    let some : y ≡ 0 → ⊥ = (λ (e : y ≡ 0). omega arith) in
    let no_next : m.forward q.address ≡ 0 = L.lies.forward in
    let chain : IsInChain m (first_of K q.segment.code) q.address = one_chain types m b q.segment.code q.address K s (last_is_one q K at) in
    record {
      new = ap (λ (change : Forest Placed → Forest Placed). change K) (cond-false (y == 0) (put_first p) (put_behind y p) (ne_eqb y 0 some))
          ∙ ap (λ (a : ℕ). put_behind a p K) is ∙ behind_last p q K at once;
      twin = λ w. subst (λ (x : ℕ). IsInChain m (first_of K p.segment.code) x) (sym is) (subst (λ (t : ℕ). IsInChain m (first_of K t) q.address) code chain);
      before = λ w. ap (λ (x : ℕ). twins_in_order types (segment_at m x) p.segment) is
          ∙ ap (λ x. twins_in_order types x p.segment) (segment_is types m L.table q L.below empty L.lies) ∙ order;
      behind = cond-false (y == 0) (first_of K p.segment.code) (m.forward y) (ne_eqb y 0 some) ∙ ap m.forward is ∙ no_next;
    }

-- a row that is in order behind the last of these nodes goes in behind it
pub ending : (types : List SegmentType) (m : Links) (c : ℕ) (b : ℕ → ℕ) (K : Forest Placed) (y : ℕ) (p : Placed) → NodesLie types m b K → Formed types c K → ((a : ℕ) → count a K ≤ 1)
    → (o : Option Placed) → slice_get (last_on K) 0 ≡ o → y ≡ option_map_or (λ q. cond (q.segment.code == p.segment.code) q.address 0) o 0
    → option_map_or (λ q. siblings_in_order types q.segment p.segment) o true ≡ true → Ending types m K y p
ending types m c b K y p s F once (Some q) at is order = elim (cases_eq q.segment.code p.segment.code) [
  | inl e ↦ ending_twin types m b K y p q s (once q.address) at (is ∙ cond-true (q.segment.code == p.segment.code) q.address 0 (eq-eqb q.segment.code p.segment.code e)) e
      (follows_key types q.segment p.segment order e)
  | inr ne ↦
      (let less : q.segment.code < p.segment.code = ltb-true _ _
      (sym (cond-false (q.segment.code == p.segment.code) (twins_in_order types q.segment p.segment) (nat_lt q.segment.code p.segment.code) (ne_eqb q.segment.code p.segment.code ne)) ∙ order) in
      ending_first types m K y p (is ∙ cond-false (q.segment.code == p.segment.code) q.address 0 (ne_eqb q.segment.code p.segment.code ne))
      (first_last types c p q K F at less) (none_greater types c p.segment.code q K F at less))
]
ending types m c b empty y p s F once None at is order = ending_first types m empty y p is refl refl
ending types m c b (node r k n) y p s F once None at is order = absurd (some_last r k n at)
  where
    some_last : (r : Placed) (k n : Forest Placed) → slice_get (last_on (node r k n)) 0 ≡ None → ⊥
    some_last r k empty e = none-some r (sym e)
    some_last r k (node s u v) e = some_last s u v e

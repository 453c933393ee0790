-- What stands in the records, when one twin forward and one twin backward change.
use Rattle.std.proofs.Common.{Bool, true, false, ◌&&◌, ◌≡◌, ℕ, ◌+◌, ◌<◌, ◌≤◌, List, arith, ap, sym, ◌∙◌, refl, subst, inl, inr}
use Rattle.std.proofs.lemmas.Bool.{and_from, cases_eq, eq-eqb, ne_eqb, cond-true, cond-false}
use Rattle.hd_dbd.specs.Types.{SegmentType}
use Rattle.hd_dbd.specs.Forest.{Forest, empty, node}
use Rattle.hd_links.specs.Links.{Links, is_child_type, is_last_kept}
use Rattle.hd_dbd.specs.Prefixes.{is_backward_kept}
use Rattle.hd_links.specs.Placed.{Placed, count, first_of, nowhere, with_node, with_nodes, NodesLie, NodeLies, NamesChildren}
use Rattle.hd_links.specs.Changes.{AgreeAt}
use Rattle.hd_links.proofs.Build.{zero_or, then_same}
use Rattle.hd_links.proofs.Counts.{is_at, one_at, count_zero}
use Rattle.hd_links.proofs.Joins.{join, AllPlaced, all_placed, pick, pick_zero, pick_some, count_join, first_join, last_none, last_one, one_counts, first_counts, NotBelow}

-- a test of three parts
pub all_three : (a b c : Bool) → a ≡ true → b ≡ true → c ≡ true → (a && b && c) ≡ true
all_three a b c e f i = and_from _ _ (and_from _ _ e f) i

pub not_second : (a b c : Bool) → b ≡ false → (a && b && c) ≡ false
not_second true b c e = ap (λ x. x && c) e
not_second false b c e = refl

pub not_third : (a b c : Bool) → c ≡ false → (a && b && c) ≡ false
not_third true true c e = e
not_third true false c e = refl
not_third false b c e = refl

-- m2 says of the segment a what m says, but for its twins and its children
pub record Keeps (m m2 : Links) (a : ℕ) : Type 0 where
  pub here : m2.here a ≡ m.here a
  pub code : m2.code a ≡ m.code a
  pub bytes : m2.bytes a ≡ m.bytes a
  pub delete_byte : m2.delete_byte a ≡ m.delete_byte a

-- and of its children
pub record KeepsChildren (types : List SegmentType) (m m2 : Links) (a : ℕ) : Type 0 where
  pub first : (t : ℕ) → is_child_type types (m.code a) t ≡ true → m2.first_child a t ≡ m.first_child a t
  pub last : (t : ℕ) → is_child_type types (m.code a) t ≡ true → is_last_kept types t ≡ true → m2.last_child a t ≡ m.last_child a t

-- a node with other twins
pub move : (types : List SegmentType) (m m2 : Links) (b b2 : ℕ → ℕ) (r : Placed) (k k2 n n2 : Forest Placed) → NodeLies types m b r k n → Keeps m m2 r.address
    → NamesChildren types m2 r.segment.code r.address k2
    → m2.forward r.address ≡ first_of n2 r.segment.code → (is_backward_kept types r.segment.code ≡ true → m2.backward r.address ≡ b2 r.segment.code)
    → NodeLies types m2 b2 r k2 n2
move types m m2 b b2 r k k2 n n2 s K N ef eb = record {
  there = record { some = s.there.some; here = K.here ∙ s.there.here };
  code = K.code ∙ s.code;
  bytes = K.bytes ∙ s.bytes;
  delete_byte = K.delete_byte ∙ s.delete_byte;
  forward = ef;
  backward = eb;
  children = N;
}

pub children_kept : (types : List SegmentType) (m m2 : Links) (b : ℕ → ℕ) (r : Placed) (k n : Forest Placed) → NodeLies types m b r k n → KeepsChildren types m m2 r.address
    → NamesChildren types m2 r.segment.code r.address k
children_kept types m m2 b r k n s C = record {
  first = λ t q. C.first t (ap (λ x. is_child_type types x t) s.code ∙ q) ∙ s.children.first t q;
  last = λ t q kept. C.last t (ap (λ x. is_child_type types x t) s.code ∙ q) kept ∙ s.children.last t q kept;
}

pub tables_same : (types : List SegmentType) (m : Links) (b b2 : ℕ → ℕ) (f : Forest Placed) → ((u : ℕ) → b u ≡ b2 u) → NodesLie types m b f → NodesLie types m b2 f
tables_same types m b b2 empty e l = tt
tables_same types m b b2 (node r k n) e l = (
  record { there = l.0.there; code = l.0.code; bytes = l.0.bytes; delete_byte = l.0.delete_byte; forward = l.0.forward; backward = λ q. l.0.backward q ∙ e r.segment.code; children = l.0.children },
  l.1,
  tables_same types m (with_node b r) (with_node b2 r) n (λ u. then_same b b2 r u (e u)) l.2,
)

-- what is said of other addresses does not matter
pub frame : (types : List SegmentType) (m m2 : Links) (b : ℕ → ℕ) (f : Forest Placed) → NodesLie types m b f → ((a : ℕ) → 0 < count a f → AgreeAt types m m2 a) → NodesLie types m2 b f
frame types m m2 b empty l h = tt
frame types m m2 b (node r k n) l h =
    let own : 0 < count r.address (node r k n) = (let o : is_at r.address r.address ≡ 1 = one_at r.address r.address refl in omega arith) in
    let A : AgreeAt types m m2 r.address = h r.address own in
    let here : m.here r.address ≡ true = l.0.there.here in (
      move types m m2 b b r k k n n l.0 (record { here = A.here; code = A.code here; bytes = A.bytes l.0.there; delete_byte = A.delete_byte l.0.there })
          (children_kept types m m2 b r k n l.0 (record { first = λ t q. A.first_child t here q; last = λ t q kept. A.last_child t here q kept }))
          (A.forward l.0.there ∙ l.0.forward)
          (λ q. A.backward l.0.there (ap (λ x. is_backward_kept types x) l.0.code ∙ q) ∙ l.0.backward q),
      frame types m m2 nowhere k l.1 (λ a p. h a (omega arith)),
      frame types m m2 (with_node b r) n l.2 (λ a p. h a (omega arith)),
    )

-- Of the segments that satisfy S, y alone has another twin forward, w, z alone another twin backward, v, and h alone other
-- children.
pub record Touch (types : List SegmentType) (m m2 : Links) (S : ℕ → Type 0) (h y z w v : ℕ) : Type 0 where
  pub keeps : (a : ℕ) → S a → Keeps m m2 a
  pub children : (a : ℕ) → S a → (a ≡ h → ⊥) → KeepsChildren types m m2 a
  pub forward : (a : ℕ) → S a → (a ≡ y → ⊥) → m2.forward a ≡ m.forward a
  pub forward_y : 0 < y → m2.forward y ≡ w
  pub backward : (a : ℕ) → S a → (a ≡ z → ⊥) → is_backward_kept types (m.code a) ≡ true → m2.backward a ≡ m.backward a
  pub backward_z : 0 < z → is_backward_kept types (m.code z) ≡ true → m2.backward z ≡ v

module _ (types : List SegmentType) (m m2 : Links) (S : ℕ → Type 0) (h t y z w v : ℕ) (T : Touch types m m2 S h y z w v) where
  -- where none of the three is
  pub calm : (b : ℕ → ℕ) (f : Forest Placed) → NodesLie types m b f → ((a : ℕ) → 0 < count a f → S a) → count h f ≡ 0 → count y f ≡ 0 → count z f ≡ 0 → NodesLie types m2 b f
  calm b empty l each ch cy cz = tt
  calm b (node r k n) l each ch cy cz =
      let o : is_at r.address r.address ≡ 1 = one_at r.address r.address refl in
      let s : S r.address = each r.address (omega arith) in
      let nh : r.address ≡ h → ⊥ = (λ e. (let i : is_at r.address h ≡ 1 = one_at r.address h e in omega arith)) in
      let ny : r.address ≡ y → ⊥ = (λ e. (let i : is_at r.address y ≡ 1 = one_at r.address y e in omega arith)) in
      let nz : r.address ≡ z → ⊥ = (λ e. (let i : is_at r.address z ≡ 1 = one_at r.address z e in omega arith)) in (
        move types m m2 b b r k k n n l.0 (T.keeps r.address s) (children_kept types m m2 b r k n l.0 (T.children r.address s nh))
            (T.forward r.address s ny ∙ l.0.forward)
            (λ q. T.backward r.address s nz (ap (λ x. is_backward_kept types x) l.0.code ∙ q) ∙ l.0.backward q),
        calm nowhere k l.1 (λ a p. each a (omega arith)) (omega arith) (omega arith) (omega arith),
        calm (with_node b r) n l.2 (λ a p. each a (omega arith)) (omega arith) (omega arith) (omega arith),
      )

  -- the nodes behind the place, the first of whose type is z
  pub behind : (b b2 : ℕ → ℕ) (f : Forest Placed) → NodesLie types m b f → ((a : ℕ) → 0 < count a f → S a) → ((a : ℕ) → count a f ≤ 1)
      → count h f ≡ 0 → count y f ≡ 0 → first_of f t ≡ z → b2 t ≡ v → ((u : ℕ) → (t ≡ u → ⊥) → b u ≡ b2 u) → NodesLie types m2 b2 f
  behind b b2 empty l each once ch cy ez e1 e2 = tt
  behind b b2 (node r k n) l each once ch cy ez e1 e2 =
      let o : is_at r.address r.address ≡ 1 = one_at r.address r.address refl in
      let s : S r.address = each r.address (omega arith) in
      let nh : r.address ≡ h → ⊥ = (λ e. (let i : is_at r.address h ≡ 1 = one_at r.address h e in omega arith)) in
      let ny : r.address ≡ y → ⊥ = (λ e. (let i : is_at r.address y ≡ 1 = one_at r.address y e in omega arith)) in
      let C : NamesChildren types m2 r.segment.code r.address k = children_kept types m m2 b r k n l.0 (T.children r.address s nh) in
      elim (cases_eq r.segment.code t) [
        | inl e ↦
            (let az : r.address ≡ z = sym (cond-true _ _ _ (eq-eqb r.segment.code t e)) ∙ ez in
            let pz : 0 < z = subst (λ x. 0 < x) az l.0.there.some in
            let i : is_at r.address z ≡ 1 = one_at r.address z az in
            let oz : count z (node r k n) ≤ 1 = once z in (
              move types m m2 b b2 r k k n n l.0 (T.keeps r.address s) C (T.forward r.address s ny ∙ l.0.forward)
                  (λ q. ap m2.backward az ∙ T.backward_z pz (ap (λ x. is_backward_kept types x) (ap m.code (sym az) ∙ l.0.code) ∙ q) ∙ sym e1 ∙ ap b2 (sym e)),
              calm nowhere k l.1 (λ a p. each a (omega arith)) (omega arith) (omega arith) (omega arith),
              tables_same types m2 (with_node b r) (with_node b2 r) n
                  (λ u. elim (cases_eq r.segment.code u) [
                    | inl q ↦ cond-true _ _ _ (eq-eqb r.segment.code u q) ∙ sym (cond-true _ _ _ (eq-eqb r.segment.code u q))
                    | inr q ↦ then_same b b2 r u (e2 u (λ w. q (e ∙ w)))
                  ])
                  (calm (with_node b r) n l.2 (λ a p. each a (omega arith)) (omega arith) (omega arith) (omega arith)),
            ))
        | inr ne ↦
            (let ez2 : first_of n t ≡ z = sym (cond-false _ _ _ (ne_eqb r.segment.code t ne)) ∙ ez in
            let zn : 0 < z → 0 < count z n = (λ p. subst (λ x. 0 < count x n) ez2 (first_counts n t (subst (λ x. 0 < x) (sym ez2) p))) in
            let nz : r.address ≡ z → ⊥ = (λ q.
            (let i : is_at r.address z ≡ 1 = one_at r.address z q in
            let c : 0 < count z n = zn (subst (λ x. 0 < x) q l.0.there.some) in
            let oz : count z (node r k n) ≤ 1 = once z in omega arith)) in
            let zk : count z k ≡ 0 = elim (zero_or z) [
              | inl q ↦ ap (λ x. count x k) q ∙ count_zero types m nowhere k l.1
              | inr q ↦ (let c : 0 < count z n = zn q in let oz : count z (node r k n) ≤ 1 = once z in omega arith)
            ] in (
              move types m m2 b b2 r k k n n l.0 (T.keeps r.address s) C (T.forward r.address s ny ∙ l.0.forward)
                  (λ q. T.backward r.address s nz (ap (λ x. is_backward_kept types x) l.0.code ∙ q) ∙ l.0.backward q ∙ e2 r.segment.code (λ x. ne (sym x))),
              calm nowhere k l.1 (λ a p. each a (omega arith)) (omega arith) (omega arith) zk,
              behind (with_node b r) (with_node b2 r) n l.2 (λ a p. each a (omega arith)) (λ a. (let q : count a (node r k n) ≤ 1 = once a in omega arith)) (omega arith) (omega arith) ez2
                  (cond-false _ _ _ (ne_eqb r.segment.code t ne) ∙ e1)
                  (λ u q. then_same b b2 r u (e2 u q)),
            ))
      ]

  -- the nodes before the place, the last of whose type is y
  pub before : (b : ℕ → ℕ) (front rest rest2 : Forest Placed) → NodesLie types m b (join front rest) → ((a : ℕ) → 0 < count a front → S a)
      → ((a : ℕ) → count a (join front rest) ≤ 1) → count h (join front rest) ≡ 0 → (0 < z → 0 < count z rest) → NotBelow y front
      → (0 < first_of front t → y ≡ with_nodes b front t) → (0 < y → m.code y ≡ t)
      → first_of rest2 t ≡ w → ((u : ℕ) → (t ≡ u → ⊥) → first_of rest u ≡ first_of rest2 u)
      → NodesLie types m2 (with_nodes b front) rest2 → NodesLie types m2 b (join front rest2)
  before b empty rest rest2 l each once ch cz ny ly cy ew eu l2 = l2
  before b (node r k n) rest rest2 l each once ch cz ny ly cy ew eu l2 =
      let o : is_at r.address r.address ≡ 1 = one_at r.address r.address refl in
      let s : S r.address = each r.address (omega arith) in
      let nh : r.address ≡ h → ⊥ = (λ e. (let i : is_at r.address h ≡ 1 = one_at r.address h e in omega arith)) in
      let C : NamesChildren types m2 r.segment.code r.address k = children_kept types m m2 b r k (join n rest) l.0 (T.children r.address s nh) in
      let placed : AllPlaced n = all_placed types m (with_node b r) n rest l.2 in
      let cj : count z (join n rest) ≡ count z n + count z rest = count_join z n rest in
      let oz : count z (node r k (join n rest)) ≤ 1 = once z in
      let nz : r.address ≡ z → ⊥ = (λ q.
      (let i : is_at r.address z ≡ 1 = one_at r.address z q in
      let c : 0 < count z rest = cz (subst (λ x. 0 < x) q l.0.there.some) in omega arith)) in
      let zk : count z k ≡ 0 = elim (zero_or z) [
        | inl q ↦ ap (λ x. count x k) q ∙ count_zero types m nowhere k l.1
        | inr q ↦ (let c : 0 < count z rest = cz q in omega arith)
      ] in
      let fj : first_of (join n rest) r.segment.code ≡ pick (first_of n r.segment.code) (first_of rest r.segment.code) = first_join n rest r.segment.code placed in
      let fj2 : first_of (join n rest2) r.segment.code ≡ pick (first_of n r.segment.code) (first_of rest2 r.segment.code) = first_join n rest2 r.segment.code placed in
      let ahead : m2.forward r.address ≡ first_of (join n rest2) r.segment.code = elim (cases_eq t r.segment.code) [
        | inr ne ↦ T.forward r.address s (λ e. ne (sym (cy (subst (λ x. 0 < x) e l.0.there.some)) ∙ ap m.code (sym e) ∙ l.0.code)) ∙ l.0.forward ∙ fj
            ∙ ap (pick (first_of n r.segment.code)) (eu r.segment.code ne) ∙ sym fj2
        | inl e ↦
            (let some : 0 < first_of (node r k n) t = subst (λ x. 0 < x) (sym (cond-true _ _ _ (eq-eqb r.segment.code t (sym e)))) l.0.there.some in
            elim (zero_or (first_of n t)) [
              | inl q ↦
                  (let last : y ≡ r.address = ly some ∙ last_none (with_node b r) n t placed q ∙ cond-true _ _ _ (eq-eqb r.segment.code t (sym e)) in
                  ap m2.forward (sym last) ∙ T.forward_y (subst (λ x. 0 < x) (sym last) l.0.there.some) ∙ sym ew ∙ ap (first_of rest2) e
                  ∙ sym (pick_zero (first_of n r.segment.code) (first_of rest2 r.segment.code) (ap (first_of n) (sym e) ∙ q)) ∙ sym fj2)
              | inr q ↦
                  (let yn : 0 < count y n = subst (λ x. 0 < count x n) (sym (ly some)) (one_counts t (with_nodes (with_node b r) n t) n (last_one (with_node b r) n t q placed)) in
                  let oy : count y (node r k (join n rest)) ≤ 1 = once y in
                  let cjy : count y (join n rest) ≡ count y n + count y rest = count_join y n rest in
                  let qc : 0 < first_of n r.segment.code = subst (λ x. 0 < first_of n x) e q in
                  T.forward r.address s (λ (x : r.address ≡ y). (let i : is_at r.address y ≡ 1 = one_at r.address y x in omega arith)) ∙ l.0.forward ∙ fj
                  ∙ pick_some (first_of n r.segment.code) (first_of rest r.segment.code) qc
                  ∙ sym (pick_some (first_of n r.segment.code) (first_of rest2 r.segment.code) qc) ∙ sym fj2)
            ])
      ] in (
        move types m m2 b b r k k (join n rest) (join n rest2) l.0 (T.keeps r.address s) C ahead
            (λ q. T.backward r.address s nz (ap (λ x. is_backward_kept types x) l.0.code ∙ q) ∙ l.0.backward q),
        calm nowhere k l.1 (λ a p. each a (omega arith)) (omega arith) ny.0 zk,
        before (with_node b r) n rest rest2 l.2 (λ a p. each a (omega arith)) (λ a. (let q : count a (node r k (join n rest)) ≤ 1 = once a in omega arith)) (omega arith) cz ny.1
            (λ p. elim (cases_eq r.segment.code t) [
              | inl e ↦ ly (subst (λ x. 0 < x) (sym (cond-true _ _ _ (eq-eqb r.segment.code t e))) l.0.there.some)
              | inr ne ↦ ly (subst (λ x. 0 < x) (sym (cond-false _ _ _ (ne_eqb r.segment.code t ne))) p)
            ])
            cy ew eu l2,
      )

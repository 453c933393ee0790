-- What a change does to the sequence of the rows.
use Rattle.std.proofs.Common.{◌≡◌, ℕ, suc, ◌+◌, ◌<◌, ◌≤◌, List, [], ◌∷◌, ◌++◌, length, take, drop, arith, ap, ap₂, sym, ◌∙◌, refl, cond, inl, inr}
use Rattle.std.specs.Prelude.{◌==◌, nat_lt}
use Rattle.std.proofs.lemmas.Bool.{cases_eq, cases_Bool, eq-eqb, ne_eqb, cond-true, cond-false, false≢true}
use Rattle.std.proofs.lemmas.List.{append_assoc, append-nil, length-append, take_at, drop_at}
use Rattle.hd_dbd.specs.Types.{SegmentType}
use Rattle.hd_dbd.specs.Paths.{end_of}
use Rattle.hd_dbd.specs.Forest.{Forest, empty, node, sequence}
use Rattle.hd_dbd.proofs.LevelLaw.{Leveled}
use Rattle.hd_links.specs.Links.{Links, IsLinkGraph, is_child_type}
use Rattle.hd_links.specs.Placed.{Placed, count, nowhere, with_node, NodesLie, NodeLies, Holds}
use Rattle.hd_links.specs.Changes.{put_first, put_behind, take_out, change_below, with_children}
use Rattle.hd_links.specs.Steps.{rows_of, address_at, RowsHaveAddresses}
use Rattle.hd_links.proofs.Types.{Ordered}
use Rattle.hd_links.proofs.Forms.{Formed, none_of}
use Rattle.hd_links.proofs.Unique.{same}
use Rattle.hd_links.proofs.Counts.{is_at, one_at, none_at}
use Rattle.hd_links.proofs.Joins.{IsOne}
use Rattle.hd_links.proofs.Lift.{ChildrenOf, children_count, opened, at_own, below_none, Spot, at_most_once}
use Rattle.hd_links.proofs.Numbers.{rows_length, address_is, rows_addressed}
use Rattle.hd_links.proofs.Standing.{RowAt, row_found, own_address}
use Rattle.hd_links.proofs.Following.{end_is}

-- ---- the rows around what stands below one record

record Cut (h : ℕ) (g : Forest Placed → Forest Placed) (K f : Forest Placed) : Type 0 where
  front : List Placed
  holder : Placed
  behind : List Placed
  whole : sequence f ≡ front ++ (holder ∷ (sequence K ++ behind))
  changed : sequence (change_below h g f) ≡ front ++ (holder ∷ (sequence (g K) ++ behind))
  is : holder.address ≡ h

turn : (r : Placed) (a : List Placed) (s : Placed) (b c e : List Placed) → r ∷ ((a ++ (s ∷ (b ++ c))) ++ e) ≡ (r ∷ a) ++ (s ∷ (b ++ (c ++ e)))
turn r a s b c e = ap (λ (x : List Placed). r ∷ x) (append_assoc a (s ∷ (b ++ c)) e ∙ ap (λ (x : List Placed). a ++ (s ∷ x)) (append_assoc b c e))

cut : (h : ℕ) (g : Forest Placed → Forest Placed) (K f : Forest Placed) → count h f ≤ 1 → ChildrenOf h f K → Cut h g K f
cut h g K empty o C = absurd C
cut h g K (node r k n) o C = elim (cases_eq r.address h) [
  | inl e ↦
      (let i : is_at r.address h ≡ 1 = one_at r.address h e in
      let is_k : k ≡ K = elim C [
        | inl w ↦ w.1
        | inr w ↦ elim w [
          | inl v ↦ absurd (let j : 0 < count h k = children_count h k K v in omega arith)
          | inr v ↦ absurd (let j : 0 < count h n = children_count h n K v in omega arith)
        ]
      ] in
      record {
        front = [];
        holder = r;
        behind = sequence n;
        whole = ap (λ (x : Forest Placed). r ∷ (sequence x ++ sequence n)) is_k;
        changed = ap sequence (at_own h g r k n e) ∙ ap (λ (x : Forest Placed). r ∷ (sequence (g x) ++ sequence n)) is_k;
        is = e;
      })
  | inr ne ↦
      (let z : is_at r.address h ≡ 0 = none_at r.address h ne in
      let open_is : sequence (change_below h g (node r k n)) ≡ r ∷ (sequence (change_below h g k) ++ sequence (change_below h g n)) = ap sequence (opened h g r k n ne) in
      elim C [
        | inl w ↦ absurd (ne w.0)
        | inr w ↦ elim w [
          | inl v ↦
              (let j : 0 < count h k = children_count h k K v in
              let D : Cut h g K k = cut h g K k (omega arith) v in
              let none : change_below h g n ≡ n = below_none h g n (omega arith) in
              record {
                front = r ∷ D.front;
                holder = D.holder;
                behind = D.behind ++ sequence n;
                whole = ap (λ (x : List Placed). r ∷ (x ++ sequence n)) D.whole ∙ turn r D.front D.holder (sequence K) D.behind (sequence n);
                changed = open_is
                    ∙ ap₂ (λ (x y : List Placed). r ∷ (x ++ y)) D.changed (ap sequence none)
                    ∙ turn r D.front D.holder (sequence (g K)) D.behind (sequence n);
                is = D.is;
              })
          | inr v ↦
              (let j : 0 < count h n = children_count h n K v in
              let D : Cut h g K n = cut h g K n (omega arith) v in
              let none : change_below h g k ≡ k = below_none h g k (omega arith) in
              record {
                front = r ∷ (sequence k ++ D.front);
                holder = D.holder;
                behind = D.behind;
                whole = ap (λ (x : List Placed). r ∷ (sequence k ++ x)) D.whole
                    ∙ ap (λ (x : List Placed). r ∷ x) (sym (append_assoc (sequence k) D.front (D.holder ∷ (sequence K ++ D.behind))));
                changed = open_is
                    ∙ ap₂ (λ (x y : List Placed). r ∷ (x ++ y)) (ap sequence none) D.changed
                    ∙ ap (λ (x : List Placed). r ∷ x) (sym (append_assoc (sequence k) D.front (D.holder ∷ (sequence (g K) ++ D.behind))));
                is = D.is;
              })
        ]
      ])
]

-- the same, below the header too
pub record Around (h : ℕ) (g : Forest Placed → Forest Placed) (K f : Forest Placed) : Type 0 where
  pub before : List Placed
  pub behind : List Placed
  pub whole : sequence f ≡ before ++ (sequence K ++ behind)
  pub changed : sequence (with_children h g f) ≡ before ++ (sequence (g K) ++ behind)
  pub root : h ≡ 0 → (before ≡ []) × (behind ≡ []) × (K ≡ f)
  pub below : 0 < h → (front : List Placed) × (r : Placed) × (before ≡ front ++ r ∷ []) × (r.address ≡ h)

pub around : (types : List SegmentType) (m : Links) (h : ℕ) (g : Forest Placed → Forest Placed) (K f : Forest Placed) → Holds types m f → Spot types m h f K → Around h g K f
around types m h g K f H S = elim S.is [
  | inl e ↦ record {
    before = [];
    behind = [];
    whole = ap sequence e.1 ∙ sym (append-nil (sequence K));
    changed = ap sequence (cond-true (h == 0) (g f) (change_below h g f) (eq-eqb h 0 e.0) ∙ ap g e.1) ∙ sym (append-nil (sequence (g K)));
    root = λ z. (refl, refl, sym e.1);
    below = λ p. absurd (let z : h ≡ 0 = e.0 in omega arith);
  }
  | inr e ↦
      (let D : Cut h g K f = cut h g K f (at_most_once types m f H h) e.1 in
      let some : h ≡ 0 → ⊥ = (λ z. (let p : 0 < h = e.0 in omega arith)) in
      record {
        before = D.front ++ D.holder ∷ [];
        behind = D.behind;
        whole = D.whole ∙ sym (append_assoc D.front (D.holder ∷ []) (sequence K ++ D.behind));
        changed = ap sequence (cond-false (h == 0) (g f) (change_below h g f) (ne_eqb h 0 some)) ∙ D.changed ∙ sym (append_assoc D.front (D.holder ∷ []) (sequence (g K) ++ D.behind));
        root = λ z. absurd (some z);
        below = λ p. (D.front, D.holder, refl, D.is);
      })
]

-- ---- numbers

module _ (types : List SegmentType) (O : Ordered types) (leveled : Leveled types) (bound : ℕ) (m : Links) (G : IsLinkGraph types bound m) (f : Forest Placed) (H : Holds types m f) where
  -- a row that stands behind so many has their number
  pub number_is : (i : ℕ) → i < length (rows_of f) → (front : List Placed) (r : Placed) (rest : List Placed) → sequence f ≡ front ++ (r ∷ rest) → address_at f i ≡ r.address → length front ≡ i
  number_is i within front r rest whole at =
      let A : RowsHaveAddresses m f = rows_addressed types m f H in
      let len : length (rows_of f) ≡ length (sequence f) = rows_length f in
      let all : length (sequence f) ≡ length front + length (r ∷ rest) = ap (λ (x : List Placed). length x) whole ∙ length-append front (r ∷ rest) in
      A.once (length front) i (omega arith) within (address_is f front (r ∷ rest) (length front) whole refl ∙ sym at)

  -- the children of a row are one forest
  pub below_is : (i : ℕ) (F : RowAt types O leveled bound m G f H i) (b : ℕ → ℕ) (r : Placed) (k n : Forest Placed) → F.row.address ≡ r.address → NodeLies types m b r k n → NodesLie types m nowhere k
      → Formed types r.segment.code k → F.below ≡ k
  below_is i F b r k n at s stand form =
      let code : F.row.segment.code ≡ r.segment.code = sym F.stands.stand.0.code ∙ ap m.code at ∙ s.code in
      same types m F.row.segment.code r.segment.code nowhere nowhere F.below k F.stands.stand.1 stand F.stands.formed.2 form
      (λ t. elim (cases_Bool (is_child_type types F.row.segment.code t)) [
        | inl q ↦ sym (F.stands.stand.0.children.first t q) ∙ ap (λ x. m.first_child x t) at ∙ s.children.first t (ap (λ c. is_child_type types c t) (sym code) ∙ q)
        | inr q ↦ none_of types F.row.segment.code t F.below F.stands.formed.2 (λ w. false≢true (sym q ∙ w))
            ∙ sym (none_of types r.segment.code t k form (λ w. false≢true (sym q ∙ ap (λ c. is_child_type types c t) code ∙ w)))
      ])

  -- the span of a row ends behind what stands below it
  pub span_end : (i : ℕ) → i < length (rows_of f) → (front : List Placed) (b : ℕ → ℕ) (r : Placed) (k n : Forest Placed) (rest : List Placed) → sequence f ≡ front ++ (r ∷ (sequence k ++ rest))
      → address_at f i ≡ r.address → NodeLies types m b r k n → NodesLie types m nowhere k → Formed types r.segment.code k → end_of types (rows_of f) i ≡ i + 1 + length (sequence k)
  span_end i within front b r k n rest whole at s stand form =
      let F : RowAt types O leveled bound m G f H i = row_found types O leveled bound m G f H i within in
      let own : address_at f i ≡ F.row.address = own_address types O leveled bound m G f H i F.path F.parent F.holder F.table F.row F.below F.after F.rest F.stands in
      end_is types O leveled bound m G f H i F ∙ ap (λ (x : Forest Placed). i + 1 + length (sequence x)) (below_is i F b r k n (sym own ∙ at) s stand form)

-- ---- among the nodes of one parent

-- a node among them, and what stands behind its span
pub record InRow (types : List SegmentType) (m : Links) (y : ℕ) (p : Placed) (K : Forest Placed) : Type 0 where
  pub front : List Placed
  pub table : ℕ → ℕ
  pub row : Placed
  pub under : Forest Placed
  pub after : Forest Placed
  pub rest : List Placed
  pub is : row.address ≡ y
  pub stands : NodeLies types m table row under after
  pub stand : NodesLie types m nowhere under
  pub formed : Formed types row.segment.code under
  pub whole : sequence K ≡ front ++ (row ∷ (sequence under ++ rest))
  pub put : sequence (put_behind y p K) ≡ front ++ (row ∷ (sequence under ++ (p ∷ rest)))
  pub out : sequence (take_out y K) ≡ front ++ rest

pub in_row : (types : List SegmentType) (m : Links) (t y c : ℕ) (p : Placed) (b : ℕ → ℕ) (K : Forest Placed) → NodesLie types m b K → Formed types c K → IsOne t y K → InRow types m y p K
in_row types m t y c p b empty s F o = absurd o
in_row types m t y c p b (node r k n) s F o = elim (cases_eq r.address y) [
  | inl e ↦ record {
    front = [];
    table = b;
    row = r;
    under = k;
    after = n;
    rest = sequence n;
    is = e;
    stands = s.0;
    stand = s.1;
    formed = F.2;
    whole = refl;
    put = ap sequence (cond-true (r.address == y) (node r k (node p empty n)) (node r k (put_behind y p n)) (eq-eqb r.address y e));
    out = ap sequence (cond-true (r.address == y) n (node r k (take_out y n)) (eq-eqb r.address y e));
  }
  | inr ne ↦
      (let D : InRow types m y p n = in_row types m t y c p (with_node b r) n s.2 F.3 (elim o [ inl e ↦ absurd (ne e.0) | inr q ↦ q ]) in
      record {
        front = r ∷ (sequence k ++ D.front);
        table = D.table;
        row = D.row;
        under = D.under;
        after = D.after;
        rest = D.rest;
        is = D.is;
        stands = D.stands;
        stand = D.stand;
        formed = D.formed;
        whole = ap (λ (x : List Placed). r ∷ x) (ap (λ (x : List Placed). sequence k ++ x) D.whole ∙ sym (append_assoc (sequence k) D.front (D.row ∷ (sequence D.under ++ D.rest))));
        put = ap sequence (cond-false (r.address == y) (node r k (node p empty n)) (node r k (put_behind y p n)) (ne_eqb r.address y ne))
            ∙ ap (λ (x : List Placed). r ∷ x) (ap (λ (x : List Placed). sequence k ++ x) D.put ∙ sym (append_assoc (sequence k) D.front (D.row ∷ (sequence D.under ++ (p ∷ D.rest)))));
        out = ap sequence (cond-false (r.address == y) n (node r k (take_out y n)) (ne_eqb r.address y ne))
            ∙ ap (λ (x : List Placed). r ∷ x) (ap (λ (x : List Placed). sequence k ++ x) D.out ∙ sym (append_assoc (sequence k) D.front D.rest));
      })
]

-- how many rows the nodes of lesser type in front take
abbrev pub lesser : ℕ → Forest Placed → ℕ
lesser t empty = 0
lesser t (node r k n) = cond (nat_lt r.segment.code t) (suc (length (sequence k) + lesser t n)) 0

pub record FirstIn (p : Placed) (K : Forest Placed) : Type 0 where
  pub front : List Placed
  pub rest : List Placed
  pub whole : sequence K ≡ front ++ rest
  pub put : sequence (put_first p K) ≡ front ++ (p ∷ rest)
  pub long : length front ≡ lesser p.segment.code K

pub first_in : (p : Placed) (K : Forest Placed) → FirstIn p K
first_in p empty = record { front = []; rest = []; whole = refl; put = refl; long = refl }
first_in p (node r k n) = elim (cases_Bool (nat_lt r.segment.code p.segment.code)) [
  | inl q ↦
      (let D : FirstIn p n = first_in p n in
      let both : length (sequence k ++ D.front) ≡ length (sequence k) + length D.front = length-append (sequence k) D.front in
      let l : length D.front ≡ lesser p.segment.code n = D.long in
      record {
        front = r ∷ (sequence k ++ D.front);
        rest = D.rest;
        whole = ap (λ (x : List Placed). r ∷ x) (ap (λ (x : List Placed). sequence k ++ x) D.whole ∙ sym (append_assoc (sequence k) D.front D.rest));
        put = ap sequence (cond-true (nat_lt r.segment.code p.segment.code) (node r k (put_first p n)) (node p empty (node r k n)) q)
            ∙ ap (λ (x : List Placed). r ∷ x) (ap (λ (x : List Placed). sequence k ++ x) D.put ∙ sym (append_assoc (sequence k) D.front (p ∷ D.rest)));
        long = (let e : suc (length (sequence k ++ D.front)) ≡ suc (length (sequence k) + lesser p.segment.code n) = omega arith in e)
            ∙ sym (cond-true (nat_lt r.segment.code p.segment.code) (suc (length (sequence k) + lesser p.segment.code n)) 0 q);
      })
  | inr q ↦ record {
    front = [];
    rest = sequence (node r k n);
    whole = refl;
    put = ap sequence (cond-false (nat_lt r.segment.code p.segment.code) (node r k (put_first p n)) (node p empty (node r k n)) q);
    long = sym (cond-false (nat_lt r.segment.code p.segment.code) (suc (length (sequence k) + lesser p.segment.code n)) 0 q);
  }
]

-- a list with one more in the midst
pub put_in : (p : Placed) (xs front rest more : List Placed) → xs ≡ front ++ rest → more ≡ front ++ (p ∷ rest) → (n : ℕ) → length front ≡ n → more ≡ take n xs ++ p ∷ drop n xs
put_in p xs front rest more e g n l =
    g ∙ ap₂ (λ (u v : List Placed). u ++ (p ∷ v))
    (sym (ap (take n) e ∙ take_at front rest n l))
    (sym (ap (drop n) e ∙ drop_at front rest n l))

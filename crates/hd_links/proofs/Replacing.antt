-- What replacing a segment's bytes does.
use Rattle.std.proofs.Common.{◌≡◌, ℕ, ◌+◌, List, Bool, true, false, ap, ap₂, sym, ◌∙◌, refl, subst, cond, Option, Some, None, inl, inr, []}
use Rattle.std.specs.Prelude.{◌==◌, nat_lt}
use Rattle.std.specs.Option.{option_map_or}
use Rattle.std.specs.Ordering.{nat_cmp, is_lt, is_le}
use Rattle.std.specs.Cmp.Lexicographic.{slice_cmp}
use Rattle.std.proofs.lemmas.Bool.{cases_eq, eq-eqb, ne_eqb, cond-true, cond-false}
use Rattle.hd_dbd.specs.Types.{SegmentType}
use Rattle.hd_dbd.specs.Segment.{Segment}
use Rattle.hd_dbd.specs.Hierarchy.{type_of, key_in}
use Rattle.hd_dbd.specs.Rows.{row_fits, siblings_in_order, twins_in_order, key_of}
use Rattle.hd_dbd.specs.Forest.{Forest, empty, node}
use Rattle.hd_links.specs.Links.{Links, IsSegment, IsLinkGraph, segment_at, is_child_type}
use Rattle.hd_dbd.specs.Prefixes.{is_backward_kept}
use Rattle.hd_links.specs.Placed.{Placed, count, first_of, nowhere, with_node, with_nodes, NodesLie, NodeLies, NamesChildren, Holds}
use Rattle.hd_links.specs.Changes.{Agree, replaced, rewritten, with_bytes, CanReplace}
use Rattle.hd_links.proofs.Types.{Ordered}
use Rattle.hd_links.proofs.Forms.{first_behind_none, Formed, is_behind, formed, segment_is, fits}
use Rattle.hd_links.proofs.Counts.{is_at}

-- ---- two rows with one key

-- the order of two twins of a type, by its keys
abbrev ordered_by : Option SegmentType → List ℕ → List ℕ → Bool
ordered_by o x y = option_map_or (λ t. option_map_or (λ k. cond k.unique (is_lt (slice_cmp nat_cmp x y)) (is_le (slice_cmp nat_cmp x y))) t.key true) o false

-- it is that of their keys
by_keys : (types : List SegmentType) (p r : Segment) → p.code ≡ r.code → twins_in_order types p r ≡ ordered_by (type_of types r.code) (key_of types p) (key_of types r)
by_keys types p r e =
    at (type_of types r.code)
    ∙ ap (λ x. ordered_by (type_of types r.code) x (key_of types r)) (ap (λ c. option_map_or (λ t. key_in t p.bytes) (type_of types c) []) (sym e))
  where
    at : (o : Option SegmentType)
        → option_map_or (λ t. option_map_or (λ k. cond k.unique (is_lt (slice_cmp nat_cmp (key_in t p.bytes) (key_in t r.bytes))) (is_le (slice_cmp nat_cmp (key_in t p.bytes) (key_in t r.bytes)))) t.key true) o false
        ≡ ordered_by o (option_map_or (λ t. key_in t p.bytes) o []) (option_map_or (λ t. key_in t r.bytes) o [])
    at None = refl
    at (Some t) = refl

-- rows of the same codes and keys are in the same order
order_same : (types : List SegmentType) (p p2 r r2 : Segment) → p2.code ≡ p.code → r2.code ≡ r.code → key_of types p2 ≡ key_of types p → key_of types r2 ≡ key_of types r
    → siblings_in_order types p2 r2 ≡ siblings_in_order types p r
order_same types p p2 r r2 cp cr kp kr = elim (cases_eq p.code r.code) [
  | inl e ↦
      (let e2 : p2.code ≡ r2.code = cp ∙ e ∙ sym cr in
      cond-true (p2.code == r2.code) (twins_in_order types p2 r2) (nat_lt p2.code r2.code) (eq-eqb _ _ e2)
      ∙ by_keys types p2 r2 e2
      ∙ ap (λ c. ordered_by (type_of types c) (key_of types p2) (key_of types r2)) cr
      ∙ ap₂ (λ x y. ordered_by (type_of types r.code) x y) kp kr
      ∙ sym (by_keys types p r e)
      ∙ sym (cond-true (p.code == r.code) (twins_in_order types p r) (nat_lt p.code r.code) (eq-eqb _ _ e)))
  | inr ne ↦ cond-false (p2.code == r2.code) (twins_in_order types p2 r2) (nat_lt p2.code r2.code) (ne_eqb _ _ (λ e. ne (sym cp ∙ e ∙ cr)))
      ∙ ap₂ (λ x y. nat_lt x y) cp cr
      ∙ sym (cond-false (p.code == r.code) (twins_in_order types p r) (nat_lt p.code r.code) (ne_eqb _ _ ne))
]

module _ (a : ℕ) (bytes : List ℕ) where
  -- ---- the forest

  pub address_kept : (r : Placed) → (rewritten a bytes r).address ≡ r.address
  address_kept r = elim (cases_eq r.address a) [
    | inl e ↦ ap (λ (x : Placed). x.address) (cond-true (r.address == a) (record { address = r.address; segment = record { code = r.segment.code; bytes = bytes } }) r (eq-eqb r.address a e))
    | inr ne ↦ ap (λ (x : Placed). x.address) (cond-false (r.address == a) (record { address = r.address; segment = record { code = r.segment.code; bytes = bytes } }) r (ne_eqb r.address a ne))
  ]

  code_kept : (r : Placed) → (rewritten a bytes r).segment.code ≡ r.segment.code
  code_kept r = elim (cases_eq r.address a) [
    | inl e ↦ ap (λ (x : Placed). x.segment.code) (cond-true (r.address == a) (record { address = r.address; segment = record { code = r.segment.code; bytes = bytes } }) r (eq-eqb r.address a e))
    | inr ne ↦ ap (λ (x : Placed). x.segment.code) (cond-false (r.address == a) (record { address = r.address; segment = record { code = r.segment.code; bytes = bytes } }) r (ne_eqb r.address a ne))
  ]

  bytes_new : (r : Placed) → (rewritten a bytes r).segment.bytes ≡ cond (r.address == a) bytes r.segment.bytes
  bytes_new r = elim (cases_eq r.address a) [
    | inl e ↦ ap (λ (x : Placed). x.segment.bytes) (cond-true (r.address == a) (record { address = r.address; segment = record { code = r.segment.code; bytes = bytes } }) r (eq-eqb r.address a e))
        ∙ sym (cond-true (r.address == a) bytes r.segment.bytes (eq-eqb r.address a e))
    | inr ne ↦ ap (λ (x : Placed). x.segment.bytes) (cond-false (r.address == a) (record { address = r.address; segment = record { code = r.segment.code; bytes = bytes } }) r (ne_eqb r.address a ne))
        ∙ sym (cond-false (r.address == a) bytes r.segment.bytes (ne_eqb r.address a ne))
  ]

  pub bytes_count : (b : ℕ) (f : Forest Placed) → count b (with_bytes a bytes f) ≡ count b f
  bytes_count b empty = refl
  bytes_count b (node r k n) = ap₂ (λ x y. x + y) (ap (λ x. is_at x b) (address_kept r)) (ap₂ (λ x y. x + y) (bytes_count b k) (bytes_count b n))

  bytes_first : (f : Forest Placed) (t : ℕ) → first_of (with_bytes a bytes f) t ≡ first_of f t
  bytes_first empty t = refl
  bytes_first (node r k n) t =
      ap₂ (λ c x. cond (c == t) x (first_of (with_bytes a bytes n) t)) (code_kept r) (address_kept r) ∙ ap (cond (r.segment.code == t) r.address) (bytes_first n t)

  table_kept : (b b2 : ℕ → ℕ) (r : Placed) (t : ℕ) → b2 t ≡ b t → with_node b2 (rewritten a bytes r) t ≡ with_node b r t
  table_kept b b2 r t e = ap₂ (λ c x. cond (c == t) x (b2 t)) (code_kept r) (address_kept r) ∙ ap (cond (r.segment.code == t) r.address) e

  bytes_last : (b b2 : ℕ → ℕ) (f : Forest Placed) (t : ℕ) → b2 t ≡ b t → with_nodes b2 (with_bytes a bytes f) t ≡ with_nodes b f t
  bytes_last b b2 empty t e = e
  bytes_last b b2 (node r k n) t e = bytes_last (with_node b r) (with_node b2 (rewritten a bytes r)) n t (table_kept b b2 r t e)

  module _ (types : List SegmentType) (m m2 : Links) (C : CanReplace types m a bytes) (A : Agree types (replaced m a bytes) m2) where
    key_kept : (b : ℕ → ℕ) (r : Placed) (k n : Forest Placed) → NodeLies types m b r k n → key_of types (rewritten a bytes r).segment ≡ key_of types r.segment
    key_kept b r k n s = elim (cases_eq r.address a) [
      | inl e ↦
          (let own : segment_at m a ≡ r.segment = ap (segment_at m) (sym e) ∙ segment_is types m b r k n s in
          let code : m.code a ≡ r.segment.code = ap (λ (x : Segment). x.code) own in
          ap (λ (x : Placed). key_of types x.segment) (cond-true (r.address == a) (record { address = r.address; segment = record { code = r.segment.code; bytes = bytes } }) r (eq-eqb r.address a e))
          ∙ ap (λ c. key_of types (record { code = c; bytes = bytes })) (sym code) ∙ C.key ∙ ap (key_of types) own)
      | inr ne ↦ ap (λ (x : Placed). key_of types x.segment)
          (cond-false (r.address == a) (record { address = r.address; segment = record { code = r.segment.code; bytes = bytes } }) r (ne_eqb r.address a ne))
    ]

    named : (c h : ℕ) (k : Forest Placed) → m.here h ≡ true → m.code h ≡ c → NamesChildren types m c h k → NamesChildren types m2 c h (with_bytes a bytes k)
    named c h k here code N = record {
      first = λ t q. (A h).first_child t here (ap (λ x. is_child_type types x t) code ∙ q) ∙ N.first t q ∙ sym (bytes_first k t);
      last = λ t q kept. (A h).last_child t here (ap (λ x. is_child_type types x t) code ∙ q) kept ∙ N.last t q kept ∙ sym (bytes_last nowhere nowhere k t refl);
    }

    there : (b : ℕ) → IsSegment m b → IsSegment (replaced m a bytes) b
    there b s = record { some = s.some; here = s.here }

    -- each node stands with its bytes
    pub bytes_stand : (b b2 : ℕ → ℕ) (f : Forest Placed) → ((t : ℕ) → b2 t ≡ b t) → NodesLie types m b f → NodesLie types m2 b2 (with_bytes a bytes f)
    bytes_stand b b2 empty e s = tt
    bytes_stand b b2 (node r k n) e s =
        let ra : r.address ≡ (rewritten a bytes r).address = sym (address_kept r) in
        let rc : r.segment.code ≡ (rewritten a bytes r).segment.code = sym (code_kept r) in
        let old : IsSegment m r.address = s.0.there in
        let N : NamesChildren types m2 r.segment.code r.address (with_bytes a bytes k) = named r.segment.code r.address k old.here s.0.code s.0.children in (
          record {
            there = subst (IsSegment m2) ra (record { some = old.some; here = (A r.address).here ∙ old.here });
            code = ap m2.code (sym ra) ∙ (A r.address).code old.here ∙ s.0.code ∙ rc;
            bytes = ap m2.bytes (sym ra) ∙ (A r.address).bytes (there r.address old) ∙ ap (cond (r.address == a) bytes) s.0.bytes ∙ sym (bytes_new r);
            delete_byte = ap m2.delete_byte (sym ra) ∙ (A r.address).delete_byte (there r.address old) ∙ s.0.delete_byte;
            forward = ap m2.forward (sym ra) ∙ (A r.address).forward (there r.address old) ∙ s.0.forward ∙ sym (bytes_first n r.segment.code) ∙ ap (first_of (with_bytes a bytes n)) rc;
            backward = λ q.
                (let kept : is_backward_kept types r.segment.code ≡ true = ap (is_backward_kept types) rc ∙ q in
                ap m2.backward (sym ra) ∙ (A r.address).backward (there r.address old) (ap (is_backward_kept types) s.0.code ∙ kept) ∙ s.0.backward kept ∙ sym (e r.segment.code) ∙ ap b2 rc);
            children = subst (λ x. NamesChildren types m2 x (rewritten a bytes r).address (with_bytes a bytes k)) rc (subst (λ x. NamesChildren types m2 r.segment.code x (with_bytes a bytes k)) ra N);
          },
          bytes_stand nowhere nowhere k (λ t. refl) s.1,
          bytes_stand (with_node b r) (with_node b2 (rewritten a bytes r)) n (λ t. table_kept b b2 r t (e t)) s.2,
        )

    -- and in order
    pub bytes_formed : (c : ℕ) (b : ℕ → ℕ) (f : Forest Placed) → NodesLie types m b f → Formed types c f → Formed types c (with_bytes a bytes f)
    bytes_formed c b empty s F = tt
    bytes_formed c b (node r k n) s F = (
      ap (is_child_type types c) (code_kept r) ∙ F.0,
      head n s.2 F.1,
      subst (λ x. Formed types x (with_bytes a bytes k)) (sym (code_kept r)) (bytes_formed r.segment.code nowhere k s.1 F.2),
      bytes_formed c (with_node b r) n s.2 F.3,
    )
      where
        head : (n : Forest Placed) → NodesLie types m (with_node b r) n → is_behind types (Some r.segment) n ≡ true → is_behind types (Some (rewritten a bytes r).segment) (with_bytes a bytes n) ≡ true
        head empty s2 e = refl
        head (node u k2 n2) s2 e =
            order_same types r.segment (rewritten a bytes r).segment u.segment (rewritten a bytes u).segment (code_kept r) (code_kept u)
            (key_kept b r k n s.0) (key_kept (with_node b r) u k2 n2 s2.0) ∙ e

    module _ (O : Ordered types) (bound : ℕ) (G : IsLinkGraph types bound m) (f : Forest Placed) (H : Holds types m f) where
      graph : IsLinkGraph types bound m2
      graph = record {
        header = (A 0).here ∙ G.header;
        header_code = (A 0).code G.header ∙ G.header_code;
        fits = λ b s.
            (let old : IsSegment m b = record { some = s.some; here = sym (A b).here ∙ s.here } in
            elim (cases_eq b a) [
              | inl e ↦
                  (let same : segment_at m2 b ≡ record { code = m.code a; bytes = bytes } = (λ i. record {
                    code = ((A b).code old.here ∙ ap m.code e) i;
                    bytes = ((A b).bytes (there b old) ∙ cond-true (b == a) bytes (m.bytes b) (eq-eqb b a e)) i;
                  }) in
                  ap (row_fits types) same ∙ C.fits)
              | inr ne ↦
                  (let same : segment_at m2 b ≡ segment_at m b = (λ i. record {
                    code = (A b).code old.here i;
                    bytes = ((A b).bytes (there b old) ∙ cond-false (b == a) bytes (m.bytes b) (ne_eqb b a ne)) i;
                  }) in
                  ap (row_fits types) same ∙ G.fits b old)
            ]);
        below = λ b s. G.below b (record { some = s.some; here = sym (A b).here ∙ s.here });
      }

      pub bytes_held : IsLinkGraph types bound m2 × Holds types m2 (with_bytes a bytes f)
      bytes_held =
          let stands : NodesLie types m2 nowhere (with_bytes a bytes f) = bytes_stand nowhere nowhere f (λ t. refl) H.lies.nodes in
          let form : Formed types 0 (with_bytes a bytes f) = bytes_formed 0 nowhere f H.lies.nodes (formed types O 0 None f H.fits) in (
            graph,
            record {
              lies = record { roots = named 0 0 f G.header G.header_code H.lies.roots; nodes = stands };
              fits = fits types O bound m2 graph 0 nowhere None (with_bytes a bytes f) stands form (first_behind_none types (with_bytes a bytes f));
              once = λ b s. bytes_count b f ∙ H.once b (record { some = s.some; here = sym (A b).here ∙ s.here });
            },
          )

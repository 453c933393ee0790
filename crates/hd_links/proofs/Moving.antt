-- What moving a segment to another address does.
use Rattle.std.proofs.Common.{◌≡◌, ℕ, zero, suc, ◌+◌, ◌<◌, List, [], ◌∷◌, ◌++◌, Bool, true, false, ◌&&◌, arith, ap, ap₂, sym, ◌∙◌, refl, subst, cond, inl, inr}
use Rattle.std.specs.Prelude.{◌==◌, ◌||◌, not, map, slice_index}
use Rattle.std.proofs.lemmas.Bool.{cases_eq, eq-eqb, ne_eqb, cond-true, cond-false, and_parts, and_from, false≢true}
use Rattle.hd_dbd.specs.Types.{SegmentType}
use Rattle.hd_dbd.specs.Segment.{Segment}
use Rattle.hd_dbd.specs.Rows.{row_fits}
use Rattle.hd_dbd.specs.Paths.{path_of}
use Rattle.hd_dbd.specs.Forest.{Forest, empty, node, sequence, forest_fits}
use Rattle.hd_dbd.specs.Prefixes.{is_backward_kept}
use Rattle.hd_links.specs.Links.{Links, IsSegment, IsLinkGraph, segment_at, is_child_type}
use Rattle.hd_links.specs.Placed.{Placed, forest_of, count, first_of, nowhere, with_node, with_nodes, NodesLie, NamesChildren, Holds}
use Rattle.hd_links.specs.Changes.{Agree}
use Rattle.hd_links.specs.Moves.{moved_to, moved_from, moved, with_address, CanMove}
use Rattle.hd_links.specs.Steps.{rows_of, address_at, path_at}
use Rattle.hd_links.proofs.Counts.{is_at, one_at, none_at, absent}
use Rattle.hd_links.proofs.Numbers.{map_both}

-- each record agrees with itself
pub agrees : (types : List SegmentType) (m : Links) → Agree types m m
agrees types m x = record {
  here = refl;
  code = λ h. refl;
  bytes = λ s. refl;
  delete_byte = λ s. refl;
  forward = λ s. refl;
  backward = λ s q. refl;
  first_child = λ t h q. refl;
  last_child = λ t h q kept. refl;
}

module _ (a b : ℕ) where
  -- ---- addresses

  pub to_own : (x : ℕ) → x ≡ a → moved_to a b x ≡ b
  to_own x e = cond-true (x == a) b x (eq-eqb x a e)

  pub to_other : (x : ℕ) → (x ≡ a → ⊥) → moved_to a b x ≡ x
  to_other x ne = cond-false (x == a) b x (ne_eqb x a ne)

  pub from_own : (x : ℕ) → x ≡ b → moved_from a b x ≡ a
  from_own x e = cond-true (x == b) a x (eq-eqb x b e)

  pub from_other : (x : ℕ) → (x ≡ b → ⊥) → moved_from a b x ≡ x
  from_other x ne = cond-false (x == b) a x (ne_eqb x b ne)

  -- no address stays none
  pub none_to : 0 < a → moved_to a b 0 ≡ 0
  none_to some = to_other 0 (λ (e : 0 ≡ a). omega arith)

  to_cond : (c : Bool) (x y : ℕ) → cond c (moved_to a b x) (moved_to a b y) ≡ moved_to a b (cond c x y)
  to_cond true x y = refl
  to_cond false x y = refl

  -- ---- the forest

  -- the row at its new address
  abbrev put : Placed → Placed
  put r = record { address = moved_to a b r.address; segment = r.segment }

  pub forest_same : (f : Forest Placed) → forest_of (with_address a b f) ≡ forest_of f
  forest_same empty = refl
  forest_same (node r k n) = ap₂ (λ (x y : Forest Segment). node r.segment x y) (forest_same k) (forest_same n)

  first_to : 0 < a → (f : Forest Placed) (t : ℕ) → first_of (with_address a b f) t ≡ moved_to a b (first_of f t)
  first_to some empty t = sym (none_to some)
  first_to some (node r k n) t =
      ap (cond (r.segment.code == t) (moved_to a b r.address)) (first_to some n t) ∙ to_cond (r.segment.code == t) r.address (first_of n t)

  table_to : (b1 b2 : ℕ → ℕ) (r : Placed) (t : ℕ) → b2 t ≡ moved_to a b (b1 t) → with_node b2 (put r) t ≡ moved_to a b (with_node b1 r t)
  table_to b1 b2 r t e = ap (cond (r.segment.code == t) (moved_to a b r.address)) e ∙ to_cond (r.segment.code == t) r.address (b1 t)

  last_to : (b1 b2 : ℕ → ℕ) (f : Forest Placed) (t : ℕ) → b2 t ≡ moved_to a b (b1 t) → with_nodes b2 (with_address a b f) t ≡ moved_to a b (with_nodes b1 f t)
  last_to b1 b2 empty t e = e
  last_to b1 b2 (node r k n) t e = last_to (with_node b1 r) (with_node b2 (put r)) n t (table_to b1 b2 r t e)

  -- where no row stood, the row stands
  count_own : (f : Forest Placed) → count b f ≡ 0 → count b (with_address a b f) ≡ count a f
  count_own empty z = refl
  count_own (node r k n) z =
      let i : count b (with_address a b k) ≡ count a k = count_own k (omega arith) in
      let j : count b (with_address a b n) ≡ count a n = count_own n (omega arith) in
      let own : is_at (moved_to a b r.address) b ≡ is_at r.address a = elim (cases_eq r.address a) [
        | inl e ↦ one_at (moved_to a b r.address) b (to_own r.address e) ∙ sym (one_at r.address a e)
        | inr ne ↦ none_at (moved_to a b r.address) b
            (λ e. (let one : is_at r.address b ≡ 1 = one_at r.address b (sym (to_other r.address ne) ∙ e) in omega arith))
            ∙ sym (none_at r.address a ne)
      ] in
      ap₂ (λ x y. x + y) own (ap₂ (λ x y. x + y) i j)

  -- and elsewhere the rows stay
  count_other : (x : ℕ) → (x ≡ a → ⊥) → (x ≡ b → ⊥) → (f : Forest Placed) → count x (with_address a b f) ≡ count x f
  count_other x na nb empty = refl
  count_other x na nb (node r k n) =
      ap₂ (λ x y. x + y)
      (elim (cases_eq r.address a) [
        | inl e ↦ none_at (moved_to a b r.address) x (λ q. nb (sym q ∙ to_own r.address e)) ∙ sym (none_at r.address x (λ q. na (sym q ∙ e)))
        | inr ne ↦ ap (λ y. is_at y x) (to_other r.address ne)
      ])
      (ap₂ (λ x y. x + y) (count_other x na nb k) (count_other x na nb n))

  -- ---- the records

  module _ (m : Links) (C : CanMove m a b) where
    there_some : 0 < a
    there_some = C.there.some

    pub not_free : (x : ℕ) → m.here x ≡ true → x ≡ b → ⊥
    not_free x here e = false≢true (sym C.free ∙ ap m.here (sym e) ∙ here)

    -- each record is found again
    from_to : (x : ℕ) → m.here x ≡ true → moved_from a b (moved_to a b x) ≡ x
    from_to x here = elim (cases_eq x a) [
      | inl e ↦ ap (moved_from a b) (to_own x e) ∙ from_own b refl ∙ sym e
      | inr ne ↦ ap (moved_from a b) (to_other x ne) ∙ from_other x (not_free x here)
    ]

    here_to : (x : ℕ) → m.here x ≡ true → (moved m a b).here (moved_to a b x) ≡ true
    here_to x here = elim (cases_eq x a) [
      | inl e ↦ ap (λ c. c || (m.here (moved_to a b x) && not (moved_to a b x == a))) (eq-eqb (moved_to a b x) b (to_own x e))
      | inr ne ↦ ap (λ y. y == b || (m.here y && not (y == a))) (to_other x ne)
          ∙ ap (λ c. c || (m.here x && not (x == a))) (ne_eqb x b (not_free x here))
          ∙ and_from (m.here x) (not (x == a)) here (ap not (ne_eqb x a ne))
    ]

    some_to : (x : ℕ) → 0 < x → 0 < moved_to a b x
    some_to x some = elim (cases_eq x a) [
      | inl e ↦ subst (λ y. 0 < y) (sym (to_own x e)) C.some
      | inr ne ↦ subst (λ y. 0 < y) (sym (to_other x ne)) some
    ]

    segment_to : (x : ℕ) → IsSegment m x → IsSegment (moved m a b) (moved_to a b x)
    segment_to x s = record { some = some_to x s.some; here = here_to x s.here }

    -- a record that did not move
    pub stayed : (x : ℕ) → (moved m a b).here x ≡ true → (x ≡ b → ⊥) → (m.here x ≡ true) × (x ≡ a → ⊥)
    stayed x here ne =
        let both : (m.here x && not (x == a)) ≡ true = sym (ap (λ c. c || (m.here x && not (x == a))) (ne_eqb x b ne)) ∙ here in
        let parts = and_parts (m.here x) (not (x == a)) both in
        (parts.0, λ e. false≢true (sym (ap not (eq-eqb x a e)) ∙ parts.1))

    pub here_from : (x : ℕ) → (moved m a b).here x ≡ true → m.here (moved_from a b x) ≡ true
    here_from x here = elim (cases_eq x b) [
      | inl e ↦ ap m.here (from_own x e) ∙ C.there.here
      | inr ne ↦ ap m.here (from_other x ne) ∙ (stayed x here ne).0
    ]

    pub segment_from : (x : ℕ) → IsSegment (moved m a b) x → IsSegment m (moved_from a b x)
    segment_from x s = record {
      some = elim (cases_eq x b) [
        | inl e ↦ subst (λ y. 0 < y) (sym (from_own x e)) there_some
        | inr ne ↦ subst (λ y. 0 < y) (sym (from_other x ne)) s.some
      ];
      here = here_from x s.here;
    }

    module _ (types : List SegmentType) (m2 : Links) (A : Agree types (moved m a b) m2) where
      named : (c h : ℕ) (k : Forest Placed) → m.here h ≡ true → m.code h ≡ c → NamesChildren types m c h k → NamesChildren types m2 c (moved_to a b h) (with_address a b k)
      named c h k here code N =
          let same : m.code (moved_from a b (moved_to a b h)) ≡ c = ap m.code (from_to h here) ∙ code in
          record {
            first = λ t q.
                (A (moved_to a b h)).first_child t (here_to h here) (ap (λ x. is_child_type types x t) same ∙ q)
                ∙ ap (λ x. moved_to a b (m.first_child x t)) (from_to h here) ∙ ap (moved_to a b) (N.first t q) ∙ sym (first_to there_some k t);
            last = λ t q kept.
                (A (moved_to a b h)).last_child t (here_to h here) (ap (λ x. is_child_type types x t) same ∙ q) kept
                ∙ ap (λ x. moved_to a b (m.last_child x t)) (from_to h here) ∙ ap (moved_to a b) (N.last t q kept)
                ∙ sym (last_to nowhere nowhere k t (sym (none_to there_some)));
          }

      -- each node stands, one of them at the new address
      nodes_stand : (b1 b2 : ℕ → ℕ) (f : Forest Placed) → ((t : ℕ) → b2 t ≡ moved_to a b (b1 t)) → NodesLie types m b1 f → NodesLie types m2 b2 (with_address a b f)
      nodes_stand b1 b2 empty e s = tt
      nodes_stand b1 b2 (node r k n) e s =
          let old : IsSegment m r.address = s.0.there in
          let new : IsSegment (moved m a b) (moved_to a b r.address) = segment_to r.address old in
          let back : moved_from a b (moved_to a b r.address) ≡ r.address = from_to r.address old.here in
          let at = A (moved_to a b r.address) in (
            record {
              there = record { some = new.some; here = at.here ∙ new.here };
              code = at.code new.here ∙ ap m.code back ∙ s.0.code;
              bytes = at.bytes new ∙ ap m.bytes back ∙ s.0.bytes;
              delete_byte = at.delete_byte new ∙ ap m.delete_byte back ∙ s.0.delete_byte;
              forward = at.forward new ∙ ap (λ x. moved_to a b (m.forward x)) back ∙ ap (moved_to a b) s.0.forward ∙ sym (first_to there_some n r.segment.code);
              backward = λ q.
                  at.backward new (ap (is_backward_kept types) (ap m.code back ∙ s.0.code) ∙ q)
                  ∙ ap (λ x. moved_to a b (m.backward x)) back ∙ ap (moved_to a b) (s.0.backward q) ∙ sym (e r.segment.code);
              children = named r.segment.code r.address k old.here s.0.code s.0.children;
            },
            nodes_stand nowhere nowhere k (λ t. sym (none_to there_some)) s.1,
            nodes_stand (with_node b1 r) (with_node b2 (put r)) n (λ t. table_to b1 b2 r t (e t)) s.2,
          )

      module _ (bound : ℕ) (G : IsLinkGraph types bound m) where
        pub graph : b < bound → IsLinkGraph types bound m2
        graph small =
            let header : (moved m a b).here 0 ≡ true = subst (λ x. (moved m a b).here x ≡ true) (none_to there_some) (here_to 0 G.header) in
            record {
              header = (A 0).here ∙ header;
              header_code = (A 0).code header ∙ ap m.code (from_other 0 (not_free 0 G.header)) ∙ G.header_code;
              fits = λ x s.
                  (let old : IsSegment (moved m a b) x = record { some = s.some; here = sym (A x).here ∙ s.here } in
                  let same : segment_at m2 x ≡ segment_at m (moved_from a b x) = (λ i. record { code = (A x).code old.here i; bytes = (A x).bytes old i }) in
                  ap (row_fits types) same ∙ G.fits (moved_from a b x) (segment_from x old));
              below = λ x s. elim (cases_eq x b) [
                | inl e ↦ subst (λ y. y < bound) (sym e) small
                | inr ne ↦ G.below x (record { some = s.some; here = (stayed x (sym (A x).here ∙ s.here) ne).0 })
              ];
            }

        pub held : (f : Forest Placed) → Holds types m f → Holds types m2 (with_address a b f)
        held f H = record {
          lies = record {
            roots = subst (λ x. NamesChildren types m2 0 x (with_address a b f)) (none_to there_some) (named 0 0 f G.header G.header_code H.lies.roots);
            nodes = nodes_stand nowhere nowhere f (λ t. sym (none_to there_some)) H.lies.nodes;
          };
          fits = ap (forest_fits types) (forest_same f) ∙ H.fits;
          once = λ x s. elim (cases_eq x b) [
            | inl e ↦ ap (λ y. count y (with_address a b f)) e ∙ count_own f (absent types m b nowhere f H.lies.nodes C.free) ∙ H.once a C.there
            | inr ne ↦
                (let stays = stayed x (sym (A x).here ∙ s.here) ne in
                count_other x stays.1 ne f ∙ H.once x (record { some = s.some; here = stays.0 }))
          ];
        }

  -- ---- rows and their addresses

  pub rows_same : (f : Forest Placed) → rows_of (with_address a b f) ≡ rows_of f
  rows_same f = ap sequence (forest_same f)

  sequence_put : (f : Forest Placed) → sequence (with_address a b f) ≡ map put (sequence f)
  sequence_put empty = refl
  sequence_put (node r k n) =
      ap (λ (x : List Placed). put r ∷ x) (ap₂ (λ (x y : List Placed). x ++ y) (sequence_put k) (sequence_put n) ∙ sym (map_both put (sequence k) (sequence n)))

  at_put : 0 < a → (ps : List Placed) (i : ℕ) → slice_index (map (λ (p : Placed). p.address) (map put ps)) i ≡ moved_to a b (slice_index (map (λ (p : Placed). p.address) ps) i)
  at_put some [] i = sym (none_to some)
  at_put some (p ∷ ps) zero = refl
  at_put some (p ∷ ps) (suc i) = at_put some ps i

  pub address_to : 0 < a → (f : Forest Placed) (i : ℕ) → address_at (with_address a b f) i ≡ moved_to a b (address_at f i)
  address_to some f i = ap (λ (ps : List Placed). slice_index (map (λ (p : Placed). p.address) ps) i) (sequence_put f) ∙ at_put some (sequence f) i

  pub addresses_to : 0 < a → (f : Forest Placed) (xs : List ℕ) → map (λ j. address_at (with_address a b f) j) xs ≡ map (moved_to a b) (map (λ j. address_at f j) xs)
  addresses_to some f [] = refl
  addresses_to some f (x ∷ xs) = ap₂ (λ (u : ℕ) (v : List ℕ). u ∷ v) (address_to some f x) (addresses_to some f xs)

  pub path_to : (types : List SegmentType) → 0 < a → (f : Forest Placed) (i : ℕ) → path_at types (with_address a b f) i ≡ map (moved_to a b) (path_at types f i)
  path_to types some f i =
      ap (λ (rows : List Segment). map (λ j. address_at (with_address a b f) j) (path_of types rows i)) (rows_same f)
      ∙ addresses_to some f (path_of types (rows_of f) i)

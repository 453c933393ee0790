-- The span that an unlinked row takes with it.
use Rattle.std.proofs.Common.{◌≡◌, ℕ, ◌+◌, ◌<◌, ◌≤◌, List, true, Some, None, Option, refl, sym, ap, subst, ◌∙◌, arith}
use Rattle.std.specs.Prelude.{◌==◌}
use Rattle.std.proofs.lemmas.Bool.{cond-false, ne_eqb}
use Rattle.hd_dbd.specs.Types.{SegmentType}
use Rattle.hd_dbd.specs.Forest.{Forest, empty, node, fits_below}
use Rattle.hd_links.specs.Links.{Links, IsLinkGraph, segment_at}
use Rattle.hd_links.specs.Placed.{Placed, forest_of, count, first_of, nowhere, with_nodes, NodesLie, NamesChildren, Holds}
use Rattle.hd_links.specs.Pointers.{IsTwinAfter}
use Rattle.hd_links.specs.Changes.{CanUnlink, take_out, without_span}
use Rattle.hd_links.proofs.Types.{Ordered, above_some, code_some}
use Rattle.hd_links.proofs.Forms.{Formed, fits, first_behind_none}
use Rattle.hd_links.proofs.Counts.{is_at, one_at, none_at}
use Rattle.hd_links.proofs.Joins.{join, IsOne, NotBelow, count_join, first_one, one_counts, one_not_below, stands_right}
use Rattle.hd_links.proofs.Places.{chain_one}
use Rattle.hd_links.proofs.Gaps.{OutPlace, out_place}
use Rattle.hd_links.proofs.Lift.{Spot, spot, at_most_once, changed_count}
use Rattle.hd_forest.specs.Spans.{IsSpan}
use Rattle.hd_forest.proofs.Tips.{IsBelow}
use Rattle.hd_forest.proofs.SpanStarts.{span_of}

-- the second part of what is in order is in order
formed-right : (types : List SegmentType) (c : ℕ) (f g : Forest Placed) → Formed types c (join f g) → Formed types c g
formed-right types c empty g F = F
formed-right types c (node r k n) g F = formed-right types c n g F.3

-- what stands below none of some nodes does not stand below one of them
not-under : (b : ℕ) (front : Forest Placed) (r : Placed) (k n : Forest Placed) → NotBelow b (join front (node r k n)) → count b k ≡ 0
not-under b empty r k n h = h.0
not-under b (node q k2 n2) r k n h = not-under b n2 r k n h.1

-- The span of a below h: the nodes under it, what is known of them, and that they are what leaves the forest.
pub record Taken (types : List SegmentType) (m : Links) (f : Forest Placed) (h y a : ℕ) : Type 0 where
  pub under : Forest Placed
  pub span : IsSpan types m a under
  pub left : (b : ℕ) → count b (without_span h a f) + span_of a under b ≡ count b f
  pub parent : span_of a under h ≡ 0
  pub before : 0 < y → span_of a under y ≡ 0
  pub behind : 0 < m.forward a → span_of a under (m.forward a) ≡ 0

module _ (types : List SegmentType) (O : Ordered types) (bound : ℕ) (m : Links) (G : IsLinkGraph types bound m) (f : Forest Placed) (H : Holds types m f) (h y a : ℕ)
    (B : IsBelow types m h a) (C : CanUnlink types m h y a) where
  -- the nodes below h
  abbrev K : Forest Placed
  K = (spot types O bound m G f H h C.parent).0

  -- and what is known of them
  abbrev S : Spot types m h f K
  S = (spot types O bound m G f H h C.parent).1

  -- no address stands twice in the forest
  once-all : (b : ℕ) → count b f ≤ 1
  once-all b = at_most_once types m f H b

  -- nor among these
  once-K : (b : ℕ) → count b K ≤ 1
  once-K b = (let i = S.part b in let o = once-all b in omega arith)

  -- a is one of them
  a-one : IsOne (m.code a) a K
  a-one = chain_one types m (m.code a) a nowhere K S.stand B.chain.0 (subst (λ x. IsTwinAfter m B.chain.0 x a) (S.named.first (m.code a) B.typed) B.chain.1)

  -- where a stands among them
  place : OutPlace (m.code a) a K
  place = out_place (m.code a) a K a-one (once-K a)

  -- the nodes before it, a and those behind it stand
  stand-K : NodesLie types m nowhere (join place.front (node place.row place.gone place.rest))
  stand-K = subst (NodesLie types m nowhere) place.is S.stand

  -- so do a and those behind it
  stand : NodesLie types m (with_nodes nowhere place.front) (node place.row place.gone place.rest)
  stand = stands_right types m nowhere place.front (node place.row place.gone place.rest) stand-K

  -- and they are in order
  formed-K : Formed types (m.code h) (node place.row place.gone place.rest)
  formed-K = formed-right types (m.code h) place.front (node place.row place.gone place.rest) (subst (Formed types (m.code h)) place.is S.formed)

  -- how often an address stands among them
  counted : (b : ℕ) → count b K ≡ count b place.front + (span_of a place.gone b + count b place.rest)
  counted b =
      let e : count b K ≡ count b place.front + count b (node place.row place.gone place.rest) = ap (count b) place.is ∙ count_join b place.front (node place.row place.gone place.rest) in
      let at : is_at place.row.address b ≡ is_at a b = ap (λ x. is_at x b) place.address in
      omega arith

  -- what is left and the span are all
  left-all : (b : ℕ) → count b (without_span h a f) + span_of a place.gone b ≡ count b f
  left-all b =
      let c : count b (without_span h a f) + count b K ≡ count b f + count b (take_out a K) = changed_count types O bound m G f H h (take_out a) K S b in
      let out : count b (take_out a K) ≡ count b place.front + count b place.rest = ap (count b) place.out ∙ count_join b place.front place.rest in
      let n = counted b in
      omega arith

  -- the row at a is of its type
  own-code : place.row.segment.code ≡ m.code a
  own-code = place.code

  -- what is below a fits
  fits-under : fits_below types (Some (m.code a)) None (forest_of place.gone) ≡ true
  fits-under = subst (λ (o : Option ℕ). fits_below types o None (forest_of place.gone) ≡ true) (above_some (m.code a) (code_some types (segment_at m a) (G.fits a B.there)))
      (fits types O bound m G (m.code a) nowhere None place.gone stand.1 (subst (λ c. Formed types c place.gone) own-code formed-K.2) (first_behind_none types place.gone))

  -- a and what is below it is a span
  the-span : IsSpan types m a place.gone
  the-span = record {
    there = B.there;
    children = subst (λ x. NamesChildren types m (m.code a) x place.gone) place.address (subst (λ c. NamesChildren types m c place.row.address place.gone) own-code stand.0.children);
    nodes = stand.1;
    fits = fits-under;
    once = λ b. (let n = counted b in let o = once-K b in omega arith);
  }

  -- h is not in it
  no-parent : span_of a place.gone h ≡ 0
  no-parent = (let n = counted h in let o : count h K ≡ 0 = S.own in omega arith)

  -- the twin behind is among the rest
  rest-first : first_of place.rest (m.code a) ≡ m.forward a
  rest-first = ap (first_of place.rest) (sym own-code) ∙ sym stand.0.forward ∙ ap m.forward place.address

  no-behind : 0 < m.forward a → span_of a place.gone (m.forward a) ≡ 0
  no-behind some =
      let w : ℕ = m.forward a in
      let one : IsOne (m.code a) w place.rest = subst (λ x. IsOne (m.code a) x place.rest) rest-first (first_one place.rest (m.code a) (subst (λ x. 0 < x) (sym rest-first) some)) in
      let c : 0 < count w place.rest = one_counts (m.code a) w place.rest one in
      let n = counted w in let o = once-K w in omega arith

  -- and the twin before stands beside it
  no-before : 0 < y → span_of a place.gone y ≡ 0
  no-before some =
      let chain = C.twin some in
      let one : IsOne (m.code a) y K = chain_one types m (m.code a) y nowhere K S.stand chain.0 (subst (λ x. IsTwinAfter m chain.0 x y) (S.named.first (m.code a) C.typed) chain.1) in
      let beside : NotBelow y K = one_not_below (m.code a) y K one (once-K y) in
      let under : count y place.gone ≡ 0 = not-under y place.front place.row place.gone place.rest (subst (NotBelow y) place.is beside) in
      let names : m.forward y ≡ a = sym (cond-false (y == 0) (m.first_child h (m.code a)) (m.forward y) (ne_eqb y 0 (λ (e : y ≡ 0). omega arith))) ∙ C.here in
      let apart : is_at a y ≡ 0 = none_at a y (λ e.
      (let own : m.forward a ≡ a = ap m.forward e ∙ names in
      let behind : 0 < m.forward a = subst (λ x. 0 < x) (sym own) B.there.some in
      let gone = no-behind behind in
      let here : span_of a place.gone a ≡ 0 = subst (λ x. span_of a place.gone x ≡ 0) own gone in
      let at : is_at a a ≡ 1 = one_at a a refl in omega arith)) in
      omega arith

  -- all of it together
  pub taken : Taken types m f h y a
  taken = record { under = place.gone; span = the-span; left = left-all; parent = no-parent; before = no-before; behind = no-behind }

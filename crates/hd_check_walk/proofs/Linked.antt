-- Where a walk is over, and no segment is left without a holder, the records are linked.
use Rattle.std.proofs.Common.{◌≡◌, ◌≢◌, inl, inr, ℕ, zero, suc, ◌<◌, List, [], length, true, sym, ap, subst, ◌∙◌, arith}
use Rattle.std.specs.Prelude.{slice_index}
use Rattle.std.proofs.lemmas.Bool.{cases_eq}
use Rattle.hd_dbd.specs.Types.{SegmentType}
use Rattle.hd_dbd.specs.Hierarchy.{Database}
use Rattle.hd_dbd.specs.Prefixes.{is_backward_kept}
use Rattle.hd_volume.specs.Volumes.{VolumeState}
use Rattle.hd_links.specs.Links.{Links, IsSegment, is_child_type, is_last_kept}
use Rattle.hd_links.specs.Pointers.{PointsTo, PointersAreTyped, IsTwinBefore, IsParentOfFirst, Precedes, PredecessorsAreOne, IsTwinAfter, TwinsLinkBack, KeysAscend, IsReached, AreLinked}
use Rattle.hd_links.proofs.Types.{ordered}
use Rattle.hd_image.specs.Records.{links_of, IsVolumeOf}
use Rattle.hd_check_blocks.specs.declared.places.Place.{Place}
use Rattle.hd_check_blocks.specs.Places.{place_at, IsPlaceOf, PlacesAscend, ArePlaces}
use Rattle.hd_check_blocks.proofs.Lookups.{among, number-of}
use Rattle.hd_check_pointers.specs.Tables.{nobody}
use Rattle.hd_check_pointers.proofs.PlaceNumbers.{one-number}
use Rattle.hd_check_pointers.proofs.TwinChains.{chain-some, chain-rest}
use Rattle.hd_check_walk.specs.Walks.{IsHeldBy, IsFollowed, IsRightFrom, AreChildrenWalked, IsWalkedSoFar}

-- A walk that is over: these are the places of all segments, each is held, child types come later than their parents, nothing waits, and
-- the header's children and those of all segments are walked.
record IsOver (types : List SegmentType) (m : Links) (ps : List Place) (holders : List ℕ) : Type 0 where
  ascend : PlacesAscend ps
  there : (p : Place) → IsPlaceOf p ps → IsSegment m p.address × (m.code p.address ≡ p.code)
  all : (a : ℕ) → IsSegment m a → IsPlaceOf (record { address = a; code = m.code a }) ps
  held : (i : ℕ) → i < length ps → slice_index holders i ≢ nobody
  later : (c t : ℕ) → is_child_type types c t ≡ true → c < t
  roots : AreChildrenWalked types m ps holders 0
  walked : IsWalkedSoFar types m ps 0 (length ps) [] holders

module _ (types : List SegmentType) (m : Links) (ps : List Place) (holders : List ℕ) (O : IsOver types m ps holders) where
  -- ---- what is known of a segment

  -- each segment has a number
  number : (a : ℕ) → IsSegment m a → (i : ℕ) × (i < length ps) × (place_at ps i ≡ record { address = a; code = m.code a })
  number a s = number-of _ ps (O.all a s)

  -- the children of each record are walked
  children : (a : ℕ) → m.here a ≡ true → AreChildrenWalked types m ps holders a
  children a here = elim (cases_eq a 0) [
    | inl e ↦ subst (AreChildrenWalked types m ps holders) (sym e) O.roots
    | inr ne ↦
        (let n = number a (record { some = omega arith; here = here }) in
        let low = n.1 in
        subst (λ (p : Place). AreChildrenWalked types m ps holders p.address) n.2 (O.walked.children n.0 low (O.held n.0 low) (λ e. omega arith) (λ i. absurd i)))
  ]

  -- twin forward of each segment was followed
  forward : (a : ℕ) → IsSegment m a → IsFollowed ps holders a (m.code a) (m.forward a)
  forward a s =
      let n = number a s in
      let at : (place_at ps n.0).address ≡ a = ap (λ (p : Place). p.address) n.2 in
      let some = s.some in
      subst (λ (p : Place). IsFollowed ps holders p.address p.code (m.forward p.address)) n.2 (O.walked.forward n.0 n.1 (O.held n.0 n.1) (λ e. omega arith))

  -- a segment that is held is there, and of the type
  held-there : (h t p : ℕ) → IsHeldBy ps holders h t p → IsSegment m p × (m.code p ≡ t)
  held-there h t p held = subst (λ (x : Place). IsSegment m x.address × (m.code x.address ≡ x.code)) held.2 (O.there (place_at ps held.0) (among ps held.0 held.1))

  -- a pointer that was followed names a segment of the type, or nothing
  followed-points : (h t p : ℕ) → IsFollowed ps holders h t p → PointsTo m t p
  followed-points h t p (inl none) some = absurd (omega arith)
  followed-points h t p (inr held) some = (let r = held-there h t p held in (r.0.here, r.1))

  -- a segment has one holder
  held-one : (g h t u p : ℕ) → IsHeldBy ps holders g t p → IsHeldBy ps holders h u p → g ≡ h
  held-one g h t u p x y =
      let same : x.0 ≡ y.0 = one-number ps x.0 y.0 O.ascend x.1 y.1 (ap (λ (q : Place). q.address) x.2 ∙ sym (ap (λ (q : Place). q.address) y.2)) in
      sym x.3 ∙ ap (slice_index holders) same ∙ y.3

  -- a predecessor of a segment holds it
  holds : (h a : ℕ) → IsSegment m a → Precedes types m h a → (t : ℕ) × IsHeldBy ps holders h t a
  holds h a s (inl b) = elim (forward h b.holder) [
    | inl none ↦ absurd (let some = s.some in let names = b.names in omega arith)
    | inr held ↦ (m.code h, subst (IsHeldBy ps holders h (m.code h)) b.names held)
  ]
  holds h a s (inr (t, p)) = elim ((children h p.holder).firsts t p.typed) [
    | inl none ↦ absurd (let some = s.some in let names = p.names in omega arith)
    | inr held ↦ (t, subst (IsHeldBy ps holders h t) p.names held)
  ]

  -- each segment is right behind some record
  right : (a : ℕ) → IsSegment m a → (h : ℕ) × IsRightFrom types m h a
  right a s = (let n = number a s in (slice_index holders n.0, subst (λ (p : Place). IsRightFrom types m (slice_index holders n.0) p.address) n.2 (O.walked.right n.0 n.1 (O.held n.0 n.1))))

  -- and behind each of its predecessors
  right-behind : (h a : ℕ) → IsSegment m a → Precedes types m h a → IsRightFrom types m h a
  right-behind h a s prec =
      let x = (holds h a s prec).1 in
      subst (λ (g : ℕ). IsRightFrom types m g a) x.3 (subst (λ (p : Place). IsRightFrom types m (slice_index holders x.0) p.address) x.2 (O.walked.right x.0 x.1 (O.held x.0 x.1)))

  -- ---- pointers are typed

  -- a chain from a segment comes to segments of its type
  chain-there : (n p a t : ℕ) → IsSegment m p → m.code p ≡ t → IsTwinAfter m n p a → IsSegment m a × (m.code a ≡ t)
  chain-there zero p a t s c h = (subst (IsSegment m) h.1 s, ap m.code (sym h.1) ∙ c)
  chain-there (suc n) p a t s c h =
      let r = chain-rest m n p a h in
      let some = chain-some m n (m.forward p) a r in
      let next = followed-points p (m.code p) (m.forward p) (forward p s) some in
      chain-there n (m.forward p) a t (record { some = some; here = next.0 }) (next.1 ∙ c) r

  -- first child of a record names a segment of the type, or nothing
  first-points : (a t : ℕ) → m.here a ≡ true → is_child_type types (m.code a) t ≡ true → PointsTo m t (m.first_child a t)
  first-points a t here child = followed-points a t (m.first_child a t) ((children a here).firsts t child)

  -- twin backward of a segment names one of its type, or nothing
  backward-points : (a : ℕ) → IsSegment m a → is_backward_kept types (m.code a) ≡ true → PointsTo m (m.code a) (m.backward a)
  backward-points a s kept some = elim (right a s).1.way [
    | inl twin ↦ (let e = twin.backward kept in (ap m.here e ∙ twin.names.holder.here, ap m.code e ∙ sym twin.typed))
    | inr first ↦ absurd (let e = first.1.backward kept in omega arith)
  ]

  -- last child of a record names a segment of the type, or nothing
  last-points : (a t : ℕ) → m.here a ≡ true → is_child_type types (m.code a) t ≡ true → is_last_kept types t ≡ true → PointsTo m t (m.last_child a t)
  last-points a t here child kept some =
      let l = (children a here).lasts t child kept in
      elim (cases_eq (m.first_child a t) 0) [
        | inl none ↦ absurd (let e = l.none none in omega arith)
        | inr ne ↦
            (let first : 0 < m.first_child a t = omega arith in
            let f = first-points a t here child first in
            let chain = (l.some first).0 in
            let r = chain-there chain.0 (m.first_child a t) (m.last_child a t) t (record { some = first; here = f.0 }) f.1 chain.1 in
            (r.0.here, r.1))
      ]

  -- all pointers together
  typed : PointersAreTyped types m
  typed = record {
    delete_byte = λ a s. (right a s).1.delete_byte;
    forward = λ a s. followed-points a (m.code a) (m.forward a) (forward a s);
    backward = backward-points;
    first = first-points;
    last = last-points;
  }

  -- ---- predecessors

  -- each segment has one
  some-precedes : (a : ℕ) → IsSegment m a → (h : ℕ) × Precedes types m h a
  some-precedes a s = (let r = right a s in elim r.1.way [ inl twin ↦ (r.0, inl twin.names) | inr first ↦ (r.0, inr (first.0, first.1.names)) ])

  -- and just one
  single : PredecessorsAreOne types m
  single = record { some = some-precedes; one = λ a g h s x y. (let p = holds g a s x in let q = holds h a s y in held-one g h p.0 q.0 a p.1 q.1) }

  -- no record is both the twin before a segment and its parent
  not-both : (h t a : ℕ) → IsSegment m a → IsParentOfFirst types m h t a → IsTwinBefore m h a → ⊥
  not-both h t a s p b =
      let some = s.some in
      let child : m.code a ≡ t = ap m.code (sym p.names) ∙ (first-points h t p.holder p.typed (let e = p.names in omega arith)).1 in
      let twin : m.code a ≡ m.code h = ap m.code (sym b.names) ∙ (followed-points h (m.code h) (m.forward h) (forward h b.holder) (let e = b.names in omega arith)).1 in
      let less : m.code h < t = O.later (m.code h) t p.typed in
      absurd (omega arith)

  -- twins link back
  back : TwinsLinkBack types m
  back = record {
    twins = λ a h s kept b. elim (right-behind h a s (inl b)).way [ inl twin ↦ twin.backward kept | inr first ↦ absurd (not-both h first.0 a s first.1.names b) ];
    firsts = λ a h t s kept p. elim (right-behind h a s (inr (t, p))).way [ inl twin ↦ absurd (not-both h t a s p twin.names) | inr first ↦ first.1.backward kept ];
    lasts = λ h t here child kept some. ((children h here).lasts t child kept).some some;
    no_lasts = λ h t here child kept none. ((children h here).lasts t child kept).none none;
  }

  -- keys ascend
  keys : KeysAscend types m
  keys a h s b = elim (right-behind h a s (inl b)).way [ inl twin ↦ twin.key | inr first ↦ absurd (not-both h first.0 a s first.1.names b) ]

  -- each segment is reached
  reached : (a : ℕ) → IsSegment m a → (n : ℕ) × IsReached types m n a
  reached a s = (let n = number a s in subst (λ (p : Place). (k : ℕ) × IsReached types m k p.address) n.2 (O.walked.reached n.0 n.1 (O.held n.0 n.1)))

  -- all together
  linked : AreLinked types m
  linked = record { typed = typed; single = single; back = back; keys = keys; reached = reached }

-- the records of a volume are linked where a walk is over
pub walked-linked : (d : Database) (v : VolumeState) (ps : List Place) (holders : List ℕ) → IsVolumeOf d v → ArePlaces d.types v ps → length holders ≡ length ps
    → ((i : ℕ) → i < length holders → slice_index holders i ≢ nobody) → AreChildrenWalked d.types (links_of d.types v) ps holders 0
    → IsWalkedSoFar d.types (links_of d.types v) ps 0 (length ps) [] holders → AreLinked d.types (links_of d.types v)
walked-linked d v ps holders of places many held roots walked = linked d.types (links_of d.types v) ps holders (record {
  ascend = places.ascend;
  there = places.there;
  all = places.all;
  held = λ i low. held i (omega arith);
  later = (ordered d.block_size d.frspc d.types of.fit).later;
  roots = roots;
  walked = walked;
})

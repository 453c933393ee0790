-- A new row is linked.
use Rattle.std.proofs.Common.{◌≡◌, ◌≢◌, ℕ, ◌+◌, ◌<◌, ◌≤◌, List, length, true, false, ◌||◌, ◌==◌, sym, ap, subst, ◌∙◌, arith, inl, inr, ne_eqb}
use Rattle.std.proofs.lemmas.Bool.{cases_eq, cases_Bool, eq-eqb, cond-true, cond-false, false≢true}
use Rattle.hd_dbd.specs.Types.{SegmentType}
use Rattle.hd_dbd.specs.Segment.{Segment}
use Rattle.hd_dbd.specs.Hierarchy.{Database}
use Rattle.hd_volume.specs.Volumes.{VolumeState}
use Rattle.hd_volume.specs.Spacing.{IsPlain}
use Rattle.hd_links.specs.Links.{Links, IsSegment, IsLinkGraph, is_child_type}
use Rattle.hd_links.specs.Placed.{Placed}
use Rattle.hd_links.specs.Pointers.{IsInChain, PointersAreTyped}
use Rattle.hd_links.specs.Changes.{Agree, twin_behind, linked, CanLink}
use Rattle.hd_links.proofs.Linking.{leaf_held}
use Rattle.hd_image.specs.Records.{links_of, IsVolumeOf}
use Rattle.hd_image.specs.Laws.{IsDatabase}
use Rattle.hd_image.specs.Pointing.{with_record}
use Rattle.hd_image.proofs.Found.{records-link}
use Rattle.hd_forest.specs.Walks.{HasForest}
use Rattle.hd_forest.specs.Updates.{MayLink, IsLinked}
use Rattle.hd_forest.specs.Leaves.{IsLeaf, IsLeafPut}
use Rattle.hd_forest.specs.Sets.{named, IsTwinPlace, IsRecorded}
use Rattle.hd_forest.proofs.Chains.{twin-some}
use Rattle.hd_forest.proofs.Tips.{twins-there}
use Rattle.hd_forest.proofs.Held.{held}
use Rattle.hd_image.proofs.OneImage.{links-same}
use Rattle.hd_forest.proofs.Keeping.{keeps-same, rest-trans}
use Rattle.hd_forest.proofs.Agreeing.{agree-trans, agree-named, place-stays}
use Rattle.hd_forest.proofs.Leafing.{linked-named}

-- ---- where it may be linked

-- nothing stands behind the image
none-behind : (d : Database) (v : VolumeState) → IsDatabase d → IsVolumeOf d v → (links_of d.types v).here (length v.image + 1) ≡ false
none-behind d v fit of = elim (cases_Bool ((links_of d.types v).here (length v.image + 1))) [
  | inl here ↦ absurd (let low = (records-link d v fit of).below (length v.image + 1) (record { some = omega arith; here = here }) in omega arith)
  | inr none ↦ none
]

-- a twin in a chain is a segment of its type
in-chain : (types : List SegmentType) (m : Links) → PointersAreTyped types m → (h t y : ℕ) → m.here h ≡ true → is_child_type types (m.code h) t ≡ true
    → IsInChain m (m.first_child h t) y → IsSegment m y × (m.code y ≡ t)
in-chain types m typed h t y here child chain =
    let some : 0 < m.first_child h t = twin-some m chain.0 (m.first_child h t) y chain.1 in
    let first = typed.first h t here child some in
    twins-there types m typed t chain.0 (m.first_child h t) y (record { some = some; here = first.0 }) first.1 chain.1

module _ (types : List SegmentType) (m : Links) (typed : PointersAreTyped types m) (h y : ℕ) (p : Placed) (can : CanLink types m h y p) where
  -- behind its twin
  pub place-before : IsTwinPlace types m h p.segment.code y
  place-before = record {
    parent = can.parent;
    typed = can.typed;
    twin = λ some. (in-chain types m typed h p.segment.code y can.parent can.typed (can.twin some)).0.here;
    twin_code = λ some. (in-chain types m typed h p.segment.code y can.parent can.typed (can.twin some)).1;
  }

  behind-is : 0 < twin_behind m h p.segment.code y → (m.here (twin_behind m h p.segment.code y) ≡ true) × (m.code (twin_behind m h p.segment.code y) ≡ p.segment.code)
  behind-is some = elim (cases_eq y 0) [
    | inl e ↦
        (let is : twin_behind m h p.segment.code y ≡ m.first_child h p.segment.code = cond-true (y == 0) (m.first_child h p.segment.code) (m.forward y) (eq-eqb y 0 e) in
        let first = typed.first h p.segment.code can.parent can.typed (subst (λ x. 0 < x) is some) in
        (ap m.here is ∙ first.0, ap m.code is ∙ first.1))
    | inr ne ↦
        (let is : twin_behind m h p.segment.code y ≡ m.forward y = cond-false (y == 0) (m.first_child h p.segment.code) (m.forward y) (ne_eqb y 0 ne) in
        let twin = in-chain types m typed h p.segment.code y can.parent can.typed (can.twin (omega arith)) in
        let next = typed.forward y twin.0 (subst (λ x. 0 < x) is some) in
        (ap m.here is ∙ next.0, ap m.code is ∙ next.1 ∙ twin.1))
  ]

  -- and before the next
  pub place-behind : IsTwinPlace types m h p.segment.code (twin_behind m h p.segment.code y)
  place-behind = record { parent = can.parent; typed = can.typed; twin = λ some. (behind-is some).0; twin_code = λ some. (behind-is some).1 }

-- Where a row may be linked its twins and its parent are there.
pub record HasPlace (types : List SegmentType) (m : Links) (h y : ℕ) (row : Segment) : Type 0 where
  pub before : IsTwinPlace types m h row.code y
  pub behind : IsTwinPlace types m h row.code (twin_behind m h row.code y)

pub has-place : (d : Database) (v : VolumeState) (h y : ℕ) (row : Segment) → IsDatabase d → IsVolumeOf d v → HasForest d v → MayLink d.types (links_of d.types v) h y row
    → HasPlace d.types (links_of d.types v) h y row
has-place d v h y row fit of forest may =
    let typed = (held d v fit of forest).linked.typed in
    let p : Placed = record { address = length v.image + 1; segment = row } in
    let can : CanLink d.types (links_of d.types v) h y p = may (length v.image + 1) (none-behind d v fit of) in
    record { before = place-before d.types (links_of d.types v) typed h y p can; behind = place-behind d.types (links_of d.types v) typed h y p can }

-- ---- after the leaf was put

-- a record that is there does not stand where none does
other-address : (m : Links) (b a : ℕ) → m.here b ≡ true → m.here a ≡ false → b ≢ a
other-address m b a here none e = false≢true (sym none ∙ ap m.here (sym e) ∙ here)

-- the twins are still there
pub place-put : (types : List SegmentType) (m n : Links) (h t y a : ℕ) (s : List ℕ) → m.here a ≡ false → Agree types (with_record types m a s) n → IsTwinPlace types m h t y → IsTwinPlace types n h t y
place-put types m n h t y a s none agree p = place-stays types m n h t y (λ b here. (agree b).here ∙ more b here) (λ b here. (agree b).code (more b here) ∙ same b here) p
  where
    more : (b : ℕ) → m.here b ≡ true → (with_record types m a s).here b ≡ true
    more b here = ap (λ x. x || m.here b) (ne_eqb b a (other-address m b a here none)) ∙ here

    same : (b : ℕ) → m.here b ≡ true → (with_record types m a s).code b ≡ m.code b
    same b here = cond-false (b == a) _ (m.code b) (ne_eqb b a (other-address m b a here none))

-- ---- after the leaf was named

pub graph-up : (types : List SegmentType) (n k : ℕ) (m : Links) → n ≤ k → IsLinkGraph types n m → IsLinkGraph types k m
graph-up types n k m up g = record { header = g.header; header_code = g.header_code; fits = g.fits; below = λ a s. (let low = g.below a s in omega arith) }

module _ (d : Database) (u v w x : VolumeState) (h y behind a : ℕ) (row : Segment) (fit : IsDatabase d) (of : IsVolumeOf d u) (forest : HasForest d u)
    (may : MayLink d.types (links_of d.types u) h y row) (image : v.image ≡ u.image) (size : v.size ≡ u.size) (sizes : v.sizes ≡ u.sizes) (plain-on : IsPlain u → IsPlain v) (ofv : IsVolumeOf d v)
    (is : behind ≡ twin_behind (links_of d.types u) h row.code y) (put : IsLeafPut d v row y behind a w) (done : IsRecorded d w (named (links_of d.types w) h row.code y behind a) x) where
  abbrev m : Links
  m = links_of d.types u

  abbrev p : Placed
  p = record { address = a; segment = row }

  same-links : links_of d.types v ≡ m
  same-links = links-same d.types u v image size sizes

  pub link-free : m.here a ≡ false
  link-free = ap (λ (n : Links). n.here a) (sym same-links) ∙ put.free

  there-apart : (b : ℕ) → (0 < b → m.here b ≡ true) → b ≢ a
  there-apart b here = λ e. (let some = put.some in other-address m b a (here (omega arith)) link-free e)

  pub link-records : Agree d.types (linked m h y p) (links_of d.types x)
  link-records =
      let place = has-place d u h y row fit of forest may in
      let next : ℕ = twin_behind m h row.code y in
      let leaf : IsLeaf d.types row y next put.segment = subst (λ b. IsLeaf d.types row y b put.segment) is put.leaf in
      let there : Agree d.types (with_record d.types m a put.segment) (links_of d.types w) = subst (λ (n : Links). Agree d.types (with_record d.types n a put.segment) (links_of d.types w)) same-links put.records in
      let last : IsRecorded d w (named (links_of d.types w) h row.code y next a) x = subst (λ b. IsRecorded d w (named (links_of d.types w) h row.code y b a) x) is done in
      agree-trans d.types (linked m h y p) (named (with_record d.types m a put.segment) h row.code y next a) (links_of d.types x)
      (linked-named d.types m h y row.code a row.bytes put.segment leaf put.some (there-apart h (λ _. place.before.parent)) (there-apart y place.before.twin) (there-apart next place.behind.twin))
      (agree-trans d.types (named (with_record d.types m a put.segment) h row.code y next a) (named (links_of d.types w) h row.code y next a) (links_of d.types x)
      (agree-named d.types (with_record d.types m a put.segment) (links_of d.types w) h row.code y next a there) last.records)

  pub link-done : IsLinked d u h y row a x
  link-done =
      let same = keeps-same u v image size sizes in
      record {
        volume = done.volume;
        some = put.some;
        free = link-free;
        records = link-records;
        forest = λ f holds. (leaf_held d.types (held d u fit of forest).ordered (length u.image + a + 1) m (links_of d.types x)
            (graph-up d.types (length u.image) (length u.image + a + 1) m (omega arith) (records-link d u fit of)) f holds h y p (may a link-free) (omega arith) link-records).1;
        rest = rest-trans ofv.formatted same.rest (rest-trans put.volume.formatted put.rest done.keeps.rest);
        count = no-less _ _ _ _ same.count put.count done.keeps.count;
        grows = no-more _ _ _ _ 2 same.count put.grows done.keeps.count;
        by_one = λ plain. no-more _ _ _ _ 1 same.count (put.by_one (plain-on plain)) done.keeps.count;
        spares = one-less _ _ _ _ same.spares put.spares done.keeps.spares;
        in_hole = λ plain hole. done.keeps.spares ∙ put.in_hole (plain-on plain) (same.holes _ hole) ∙ same.spares;
        holes = λ n more hole. done.keeps.holes _ (put.holes n more (same.holes n hole));
      }
    where
      no-less : (a b c d : ℕ) → b ≡ a → b ≤ c → d ≡ c → a ≤ d
      no-less a b c d e f g = omega arith

      no-more : (a b c d n : ℕ) → b ≡ a → c ≤ b + n → d ≡ c → d ≤ a + n
      no-more a b c d n e f g = omega arith

      one-less : (a b c d : ℕ) → b ≡ a → b ≤ c + 1 → d ≡ c → a ≤ d + 1
      one-less a b c d e f g = omega arith

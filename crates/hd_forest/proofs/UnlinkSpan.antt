-- The steps that unlink the last row of a path.
use Rattle.std.proofs.Common.{◌≡◌, ℕ, ◌<◌, List, length, IsTrue, Ok, refl, ap, ◌∙◌}
use Rattle.hd_dbd.specs.Hierarchy.{Database}
use Rattle.hd_dbd.specs.Forest.{Forest}
use Rattle.hd_volume.specs.Volumes.{VolumeState}
use Rattle.hd_volume.specs.Calls.{IsRead}
use Rattle.hd_links.specs.Links.{Links, IsSegment, is_child_type}
use Rattle.hd_links.specs.Placed.{Placed, Holds}
use Rattle.hd_links.specs.Steps.{LeadsDown}
use Rattle.hd_links.specs.Changes.{Agree, CanUnlink, unlinked, without_span}
use Rattle.hd_links.proofs.Unlinking.{span_gone}
use Rattle.hd_image.specs.Records.{links_of, IsVolumeOf}
use Rattle.hd_image.specs.Laws.{IsDatabase}
use Rattle.hd_forest.specs.Walks.{tip, parent_on}
use Rattle.hd_forest.specs.Sets.{following, preceding, IsTwinPlace, KeepsBlocks, IsRecorded}
use Rattle.hd_forest.specs.Spans.{IsSpan, HasSpan, without_span_of}
use Rattle.hd_forest.specs.Updates.{IsUnlinked}
use Rattle.hd_forest.proofs.Chains.{twin-some}
use Rattle.hd_forest.proofs.Tips.{IsBelow, twins-there}
use Rattle.hd_forest.proofs.Held.{Held, held, last-below}
use Rattle.hd_forest.proofs.Keeping.{keeps-trans}
use Rattle.hd_forest.proofs.Freed.{recorded-after}
use Rattle.hd_forest.proofs.Agreeing.{agree-trans}
use Rattle.hd_forest.proofs.Taken.{Taken, taken}
use Rattle.hd_forest.proofs.Unlinks.{followed, span-kept, unlinked-is}

module _ (d : Database) (u : VolumeState) (fit : IsDatabase d) (of : IsVolumeOf d u) (path : List ℕ) (down : (0 < length path) × LeadsDown d.types (links_of d.types u) 0 path)
    (y : ℕ) (can : CanUnlink d.types (links_of d.types u) (parent_on path) y (tip path)) where
  -- the records
  abbrev m : Links
  m = links_of d.types u

  -- the parent
  abbrev h : ℕ
  h = parent_on path

  -- the row
  abbrev a : ℕ
  a = tip path

  module _ (f : Forest Placed) (H : Holds d.types m f) where
    -- where the records hold a forest they are linked
    abbrev K : Held d u
    K = held d u fit of (f, H)

    -- the row stands below its parent
    abbrev B : IsBelow d.types m h a
    B = last-below d u path h a K down refl refl

    -- its span
    abbrev T : Taken d.types m f h y a
    T = taken d.types K.ordered (length u.image) m K.graph f H h y a B can

    -- the twin before is one below h
    pub place-before : IsTwinPlace d.types m h (m.code a) y
    place-before = record { parent = B.parent; typed = B.typed; twin = λ p. (before p).0.here; twin_code = λ p. (before p).1 }
      where
        before : 0 < y → IsSegment m y × (m.code y ≡ m.code a)
        before p =
            let c = can.twin p in
            let some : 0 < m.first_child h (m.code a) = twin-some m c.0 (m.first_child h (m.code a)) y c.1 in
            let F = K.linked.typed.first h (m.code a) B.parent B.typed some in
            twins-there d.types m K.linked.typed (m.code a) c.0 (m.first_child h (m.code a)) y (record { some = some; here = F.0 }) F.1 c.1

    -- and so is the twin behind
    pub place-behind : (m1 : Links) → Agree d.types (following m h (m.code a) y (m.forward a)) m1 → IsTwinPlace d.types m1 h (m.code a) (m.forward a)
    place-behind m1 A =
        let at = λ (b : ℕ). followed m h (m.code a) y (m.forward a) b in
        let code : m1.code h ≡ m.code h = (A h).code ((at h).here ∙ B.parent) ∙ (at h).code in
        let there = λ (p : 0 < m.forward a). K.linked.typed.forward a B.there p in
        record {
          parent = (A h).here ∙ (at h).here ∙ B.parent;
          typed = ap (λ c. is_child_type d.types c (m.code a)) code ∙ B.typed;
          twin = λ p. (A (m.forward a)).here ∙ (at (m.forward a)).here ∙ (there p).0;
          twin_code = λ p. (A (m.forward a)).code ((at (m.forward a)).here ∙ (there p).0) ∙ (at (m.forward a)).code ∙ (there p).1;
        }

    module _ (m1 m2 : Links) (A1 : Agree d.types (following m h (m.code a) y (m.forward a)) m1) (A2 : Agree d.types (preceding m1 h (m.code a) (m.forward a) y) m2) where
      -- its span is still there
      span-is : IsSpan d.types m2 a T.under
      span-is = span-kept d.types (length u.image) m m1 m2 K.graph f H h y a T A1 A2

      pub span-there : HasSpan d.types m2 a
      span-there = (T.under, span-is)

      -- and when that is freed, the row is unlinked
      pub records-are : (k : Links) → Agree d.types (without_span_of m2 a T.under) k → Agree d.types (unlinked m h y a (without_span h a f)) k
      records-are k A = agree-trans d.types (unlinked m h y a (without_span h a f)) (without_span_of m2 a T.under) k (unlinked-is d.types (length u.image) m m1 m2 K.graph f H h y a T A1 A2) A

      -- and the forest is without its span
      pub forest-is : (k : Links) → Agree d.types (without_span_of m2 a T.under) k → Holds d.types k (without_span h a f)
      forest-is k A = (span_gone d.types K.ordered (length u.image) m k K.graph f H h y a can (records-are k A)).1

  -- the whole call, where the records hold a forest
  pub done : {A : Type 0} {x : A} (v v1 v2 w : VolumeState) → (f : Forest Placed) → Holds d.types m f → IsRead {T = A} u (Ok x) v → IsTrue u.is_sound → IsVolumeOf d v
      → IsRecorded d v (following m h (m.code a) y (m.forward a)) v1 → IsRecorded d v1 (preceding (links_of d.types v1) h (m.code a) (m.forward a) y) v2
      → ((under : Forest Placed) → IsSpan d.types (links_of d.types v2) a under → IsRecorded d v2 (without_span_of (links_of d.types v2) a under) w) → IsUnlinked d u path w
  done v v1 v2 w f H read sound of-v one two three =
      let m1 : Links = links_of d.types v1 in
      let m2 : Links = links_of d.types v2 in
      let own = three (T f H).under (span-is f H m1 m2 one.records two.records) in
      let first = recorded-after d (following m h (m.code a) y (m.forward a)) u v v1 read sound of-v one in
      let keeps : KeepsBlocks u w = keeps-trans two.volume.formatted (keeps-trans one.volume.formatted first.keeps two.keeps) own.keeps in
      record {
        volume = own.volume;
        records = λ g I. (y, can, records-are g I m1 m2 one.records two.records (links_of d.types w) (three (T g I).under (span-is g I m1 m2 one.records two.records)).records);
        forest = λ g I. forest-is g I m1 m2 one.records two.records (links_of d.types w) (three (T g I).under (span-is g I m1 m2 one.records two.records)).records;
        rest = keeps.rest;
        count = keeps.count;
        spares = keeps.spares;
        holes = keeps.holes;
      }

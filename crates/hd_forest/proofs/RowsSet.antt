-- The row of a path that is given other bytes.
use Rattle.std.proofs.Common.{◌≡◌, ◌≢◌, ◌⊎◌, ℕ, ◌+◌, ◌<◌, ◌≤◌, List, [], length, Option, Bool, true, false, not, ◌&&◌, ◌||◌, ◌==◌, cond, refl, sym, ap, ap₂, subst, ◌∙◌, arith, inl, inr, ne_eqb, IsTrue, Ok}
use Rattle.std.specs.Option.{option_map_or}
use Rattle.std.proofs.lemmas.Bool.{cases_Bool, eqb-true, false≢true}
use Rattle.hd_dbd.specs.Types.{SegmentType}
use Rattle.hd_dbd.specs.Hierarchy.{Database}
use Rattle.hd_dbd.specs.Segment.{Segment}
use Rattle.hd_dbd.specs.Forest.{Forest, empty, node}
use Rattle.hd_dbd.specs.Prefixes.{size_with}
use Rattle.hd_volume.specs.Volumes.{VolumeState, IsFormatted}
use Rattle.hd_volume.specs.Spacing.{IsPlain}
use Rattle.hd_volume.specs.Calls.{IsRead}
use Rattle.hd_volume.proofs.JoinLemmas.{AreOne, one-segments}
use Rattle.hd_links.specs.Links.{Links, IsSegment, is_child_type}
use Rattle.hd_links.specs.Placed.{Placed, Holds}
use Rattle.hd_links.specs.Steps.{LeadsDown}
use Rattle.hd_links.specs.Changes.{Agree, replaced, with_bytes, CanUnlink, CanReplace}
use Rattle.hd_links.specs.Moves.{moved_from, moved_with, with_address, CanMove}
use Rattle.hd_links.proofs.Places.{twin_named}
use Rattle.hd_links.proofs.Replacing.{bytes_held}
use Rattle.hd_links.proofs.MovingWith.{no_parent, no_ring, moved_held}
use Rattle.hd_image.specs.Records.{stored_at, links_of, IsVolumeOf}
use Rattle.hd_image.specs.Laws.{IsDatabase}
use Rattle.hd_image.proofs.Found.{segment-found, stored-found}
use Rattle.hd_forest.specs.Walks.{tip, parent_on, HasForest}
use Rattle.hd_forest.specs.Sets.{named, IsTwinPlace, KeepsBlocks, IsRecorded}
use Rattle.hd_forest.specs.Replacing.{set_at, room_of, IsRoomTaken, IsSegmentSet, IsRowSet}
use Rattle.hd_forest.proofs.Held.{Held, held, last-below}
use Rattle.hd_forest.proofs.Tips.{IsBelow}
use Rattle.hd_forest.proofs.UnlinkSpan.{place-before}
use Rattle.hd_forest.proofs.Reading.{after-read}
use Rattle.hd_forest.proofs.SegmentsSet.{takes-own}
use Rattle.hd_forest.proofs.Keeping.{keeps-refl, keeps-same, rest-trans}
use Rattle.hd_forest.proofs.Agreeing.{agree-trans, agree-named}
use Rattle.hd_forest.proofs.Leafing.{named-here, named-code, named-bytes, named-delete_byte, named-forward, named-backward, named-first, named-last}
use Rattle.hd_forest.proofs.Linking.{graph-up}

-- ---- the room, where the blocks stayed before and behind

pub room-between : (d : Database) (u v w x : VolumeState) (a to need : ℕ) → IsFormatted v → IsFormatted w → (IsPlain u → IsPlain v) → KeepsBlocks u v
    → links_of d.types v ≡ links_of d.types u → IsRoomTaken d v a to need w → KeepsBlocks w x → IsRoomTaken d u a to need x
room-between d u v w x a to need fv fw plain-on before same r behind =
    let e = before.spares in
    let f = behind.spares in
    let g = r.spares in
    let h = before.count in
    let i = behind.count in
    let j = r.count in
    let k = r.grows in
    let first : (low : size_with d.types ((links_of d.types u).code a) (length ((links_of d.types u).bytes a)) < need) → to ≢ a =
    subst (λ (m : Links). size_with d.types (m.code a) (length (m.bytes a)) < need → to ≢ a) same r.moves in
    record {
      some = r.some;
      free = λ moved. ap (λ (m : Links). m.here to) (sym same) ∙ r.free moved;
      stays = subst (λ (m : Links). need ≤ size_with d.types (m.code a) (length (m.bytes a)) → to ≡ a) same r.stays;
      moves = first;
      rest = rest-trans fv before.rest (rest-trans fw r.rest behind.rest);
      count = omega arith;
      grows = omega arith;
      by_one = λ plain. (let o = r.by_one (plain-on plain) in omega arith);
      spares = omega arith;
      in_hole = λ plain hole. f ∙ r.in_hole (plain-on plain) (before.holes need hole) ∙ e;
      holes = λ n more hole. behind.holes _ (r.holes n more (before.holes n hole));
      in_place = λ stays. let p = r.in_place stays in (f ∙ p.0 ∙ e, λ n hole. behind.holes n (p.1 n (before.holes n hole)));
    }

-- what was done after a call that read
pub row-set-after : (d : Database) (u v w : VolumeState) (path : List ℕ) (row : Segment) (to : ℕ) → IsFormatted v → (IsPlain u → IsPlain v) → KeepsBlocks u v → links_of d.types v ≡ links_of d.types u
    → IsRowSet d v path row to w → IsRowSet d u path row to w
row-set-after d u v w path row to fv plain-on before same r = record {
  volume = r.volume;
  forest = λ f holds. r.forest f (subst (λ (m : Links). Holds d.types m f) (sym same) holds);
  room = room-between d u v w w (tip path) to (room_of d.types row) fv r.volume.formatted plain-on before same r.room (keeps-refl w);
}

-- ---- in its place

-- the same address
pub at-own : (k : Bool) (a x : ℕ) → (k ≡ true → x ≡ a) → cond k a x ≡ x
at-own true a x is = sym (is refl)
at-own false a x is = refl

own-here : (k h : Bool) → (k ≡ true → h ≡ true) → (k || (h && not k)) ≡ h
own-here true h there = sym (there refl)
own-here false true there = refl
own-here false false there = refl

pub address-same : (a : ℕ) (f : Forest Placed) → with_address a a f ≡ f
address-same a empty = refl
address-same a (node p below behind) =
    ap (λ (x : ℕ). node (record { address = x; segment = p.segment }) (with_address a a below) (with_address a a behind)) (at-own (p.address == a) a p.address (eqb-true p.address a))
    ∙ ap₂ (λ (x y : Forest Placed). node p x y) (address-same a below) (address-same a behind)

-- the records have the bytes
replaced-set : (types : List SegmentType) (m : Links) (a : ℕ) (bytes : List ℕ) → m.here a ≡ true → Agree types (replaced m a bytes) (set_at m a a bytes)
replaced-set types m a bytes there b =
    let own : moved_from a a b ≡ b = at-own (b == a) a b (eqb-true b a) in
    record {
      here = own-here (b == a) (m.here b) (λ e. ap m.here (eqb-true b a e) ∙ there);
      code = λ _. ap m.code own;
      bytes = λ _. refl;
      delete_byte = λ _. ap m.delete_byte own;
      forward = λ _. ap m.forward own;
      backward = λ _ _. ap m.backward own;
      first_child = λ t _ _. ap (λ (x : ℕ). m.first_child x t) own;
      last_child = λ t _ _ _. ap (λ (x : ℕ). m.last_child x t) own;
    }

pub row-stays : (d : Database) (v w : VolumeState) (path : List ℕ) (row : Segment) (to : ℕ) → IsDatabase d → IsVolumeOf d v → HasForest d v
    → CanReplace d.types (links_of d.types v) (tip path) row.bytes → to ≡ tip path → IsSegmentSet d v (tip path) row to w → IsRowSet d v path row to w
row-stays d v w path row to fit of forest can is set =
    let m : Links = links_of d.types v in
    let K : Held d v = held d v fit of forest in
    let records : Agree d.types (set_at m (tip path) (tip path) row.bytes) (links_of d.types w) = subst (λ (x : ℕ). Agree d.types (set_at m (tip path) x row.bytes) (links_of d.types w)) is set.records in
    let agree = agree-trans d.types (replaced m (tip path) row.bytes) (set_at m (tip path) (tip path) row.bytes) (links_of d.types w)
    (replaced-set d.types m (tip path) row.bytes can.there.here) records in
    record {
      volume = set.volume;
      forest = λ f holds. subst (λ (g : Forest Placed). Holds d.types (links_of d.types w) g)
          (sym (ap (λ (x : ℕ). with_address (tip path) x (with_bytes (tip path) row.bytes f)) is ∙ address-same (tip path) (with_bytes (tip path) row.bytes f)))
          (bytes_held (tip path) row.bytes d.types m (links_of d.types w) can agree K.ordered (length v.image) K.graph f holds).1;
      room = set.room;
    }

-- ---- elsewhere

-- a pointer that names b, or another
skip : (none is : Bool) (b f : ℕ) → (none ≡ true → is ≡ false) → cond none f (cond is b f) ≡ cond is b f
skip true true b f apart = absurd (false≢true (sym (apart refl)))
skip true false b f apart = refl
skip false is b f apart = refl

pack : (none p q : Bool) (b f : ℕ) → cond none (cond (p && q) b f) f ≡ cond (p && q && none) b f
pack true true true b f = refl
pack true true false b f = refl
pack true false q b f = refl
pack false true true b f = refl
pack false true false b f = refl
pack false false q b f = refl

none-is : (b y : ℕ) → 0 < b → (y == 0) ≡ true → (b == y) ≡ false
none-is b y later e = let zero : y ≡ 0 = eqb-true y 0 e in ne_eqb b y (λ f. omega arith)

-- once its twins or its parent name it, the records say what they do after a move
moved-named : (types : List SegmentType) (m : Links) (h y a b : ℕ) (bytes : List ℕ)
    → Agree types (moved_with m h y a b bytes) (named (set_at m a b bytes) h (m.code a) y (m.forward a) b)
moved-named types m h y a b bytes z =
    let r : Links = set_at m a b bytes in
    let t : ℕ = m.code a in
    let x : ℕ = m.forward a in
    record {
      here = named-here r h t y x b z;
      code = λ _. named-code r h t y x b z;
      bytes = λ _. named-bytes r h t y x b z;
      delete_byte = λ _. named-delete_byte r h t y x b z;
      forward = λ s. named-forward r h t y x b z ∙ skip (y == 0) (z == y) b (r.forward z) (none-is z y s.some);
      backward = λ s kept. named-backward r h t y x b z ∙ skip (x == 0) (z == x) b (r.backward z) (none-is z x s.some);
      first_child = λ u _ _. named-first r h t y x b z u ∙ pack (y == 0) (z == h) (u == t) b (r.first_child z u);
      last_child = λ u _ _ _. named-last r h t y x b z u ∙ pack (x == 0) (z == h) (u == t) b (r.last_child z u);
    }

module _ (d : Database) (v w : VolumeState) (fit : IsDatabase d) (of : IsVolumeOf d v) (forest : HasForest d v) (path : List ℕ) (row : Segment) (to y : ℕ)
    (can : CanUnlink d.types (links_of d.types v) (parent_on path) y (tip path)) (replace : CanReplace d.types (links_of d.types v) (tip path) row.bytes)
    (set : IsSegmentSet d v (tip path) row to w) (moved : to ≢ tip path) where
  abbrev m : Links
  m = links_of d.types v

  abbrev a : ℕ
  a = tip path

  abbrev h : ℕ
  h = parent_on path

  K : Held d v
  K = held d v fit of forest

  may : CanMove (links_of d.types v) (tip path) to
  may = record { there = replace.there; some = set.room.some; free = set.room.free moved }

  -- what else is there stays
  stays-there : (b : ℕ) → b ≢ a → m.here b ≡ true → ((links_of d.types w).here b ≡ true) × ((links_of d.types w).code b ≡ m.code b)
  stays-there b ne here =
      let other : b ≢ to = λ e. false≢true (sym may.free ∙ ap m.here (sym e) ∙ here) in
      let off : (b == to) ≡ false = ne_eqb b to other in
      let before : (set_at m a to row.bytes).here b ≡ true = ap₂ (λ (k n : Bool). k || (m.here b && not n)) off (ne_eqb b a ne) ∙ both (m.here b) here in
      ((set.records b).here ∙ before, (set.records b).code before ∙ ap (λ (k : Bool). m.code (cond k a b)) off)
    where
      both : (k : Bool) → k ≡ true → (false || (k && not false)) ≡ true
      both true e = refl
      both false e = absurd (false≢true e)

  apart-parent : h ≢ a
  apart-parent e = no_parent d.types K.ordered (length v.image) m K.graph forest.0 forest.1 h y a to can may a refl e

  apart-ring : m.forward a ≢ a
  apart-ring e = no_ring d.types K.ordered (length v.image) m K.graph forest.0 forest.1 h y a to can may e

  apart-twin : 0 < y → y ≢ a
  apart-twin some e = apart-ring (ap m.forward (sym e) ∙ twin_named d.types m h y a can some)

  -- a twin is still one
  pub place-set : (z : ℕ) → z ≢ a ⊎ (z ≡ 0) → IsTwinPlace d.types m h (m.code a) z → IsTwinPlace d.types (links_of d.types w) h (m.code a) z
  place-set z other p =
      let parent = stays-there h apart-parent p.parent in
      record {
        parent = parent.0;
        typed = ap (λ (c : ℕ). is_child_type d.types c (m.code a)) parent.1 ∙ p.typed;
        twin = λ some. (twin some).0;
        twin_code = λ some. (twin some).1 ∙ p.twin_code some;
      }
    where
      twin : 0 < z → ((links_of d.types w).here z ≡ true) × ((links_of d.types w).code z ≡ m.code z)
      twin some = elim other [ inl ne ↦ stays-there z ne (p.twin some) | inr e ↦ absurd (omega arith) ]

  pub before-set : IsTwinPlace d.types m h (m.code a) y → IsTwinPlace d.types (links_of d.types w) h (m.code a) y
  before-set p = elim (cases_Bool (y == 0)) [
    | inl e ↦ place-set y (inr (eqb-true y 0 e)) p
    | inr e ↦ place-set y (inl (λ q. apart-twin (omega (arith, can.some)) q)) p
  ]

  pub behind-set : IsTwinPlace d.types m h (m.code a) (m.forward a) → IsTwinPlace d.types (links_of d.types w) h (m.code a) (m.forward a)
  behind-set p = place-set (m.forward a) (inl apart-ring) p

  -- and once it is named, the row has moved
  pub row-moved : (x : VolumeState) → IsRecorded d w (named (links_of d.types w) h (m.code a) y (m.forward a) to) x → IsRowSet d v path row to x
  row-moved x done =
      let r : Links = set_at m a to row.bytes in
      let agree = agree-trans d.types (moved_with m h y a to row.bytes) (named r h (m.code a) y (m.forward a) to) (links_of d.types x)
      (moved-named d.types m h y a to row.bytes)
      (agree-trans d.types (named r h (m.code a) y (m.forward a) to) (named (links_of d.types w) h (m.code a) y (m.forward a) to) (links_of d.types x)
      (agree-named d.types r (links_of d.types w) h (m.code a) y (m.forward a) to set.records) done.records) in
      record {
        volume = done.volume;
        forest = λ f holds. (moved_held d.types K.ordered (length v.image + to + 1) m (graph-up d.types (length v.image) (length v.image + to + 1) m (omega arith) K.graph) f holds
            h y a to can may row.bytes replace (links_of d.types x) agree (omega arith)).1;
        room = room-between d v v w x a to (room_of d.types row) of.formatted set.volume.formatted (λ plain. plain) (keeps-refl v) refl set.room done.keeps;
      }

-- ---- the call

-- a segment whose place has no room for so many bytes
pub outgrown : (d : Database) (v : VolumeState) (a need : ℕ) → IsDatabase d → IsVolumeOf d v → IsSegment (links_of d.types v) a → length (stored_at v a) < need
    → size_with d.types ((links_of d.types v).code a) (length ((links_of d.types v).bytes a)) < need
outgrown d v a need fit of there low =
    let h = segment-found d v a fit of there in
    let own = takes-own d v a h in
    let stored : length (stored_at v a) ≡ length h.bytes = ap length (stored-found d v a h) in
    omega arith

-- and one whose place has
pub ingrown : (d : Database) (v : VolumeState) (a need : ℕ) → IsDatabase d → IsVolumeOf d v → IsSegment (links_of d.types v) a → need ≤ length (stored_at v a)
    → need ≤ size_with d.types ((links_of d.types v).code a) (length ((links_of d.types v).bytes a))
ingrown d v a need fit of there low =
    let h = segment-found d v a fit of there in
    let own = takes-own d v a h in
    let stored : length (stored_at v a) ≡ length h.bytes = ap length (stored-found d v a h) in
    omega arith

-- what is stored stays where a call only read
pub stored-after : {A : Type 0} {x : A} (d : Database) (u v : VolumeState) (a : ℕ) → IsRead {T = A} u (Ok x) v → IsTrue u.is_sound → stored_at v a ≡ stored_at u a
stored-after d u v a read sound =
    let same = after-read d u v read sound in
    let one : AreOne u v = record { same = record { size = read.call.size; sizes = read.call.sizes }; image = same.image } in
    ap (λ (o : Option (List ℕ)). option_map_or (λ s. s) o []) (one-segments one a)

-- The last row of the path, behind its twin y, may get the bytes of the row, for which its place has no room.
pub record MayMove (d : Database) (v : VolumeState) (path : List ℕ) (row : Segment) (y : ℕ) : Type 0 where
  pub of : IsVolumeOf d v
  pub forest : HasForest d v
  pub down : (0 < length path) × LeadsDown d.types (links_of d.types v) 0 path
  pub typed : (links_of d.types v).code (tip path) ≡ row.code
  pub replace : CanReplace d.types (links_of d.types v) (tip path) row.bytes
  pub unlink : CanUnlink d.types (links_of d.types v) (parent_on path) y (tip path)
  pub low : size_with d.types ((links_of d.types v).code (tip path)) (length ((links_of d.types v).bytes (tip path))) < room_of d.types row

-- so it is after a call that read
pub may-move-after : {A : Type 0} {x : A} (d : Database) (u v : VolumeState) (path : List ℕ) (row : Segment) (y : ℕ) → IsRead {T = A} u (Ok x) v → IsTrue u.is_sound
    → MayMove d u path row y → MayMove d v path row y
may-move-after d u v path row y read sound may =
    let same = after-read d u v read sound in
    let on : (P : Links → Type 0) → P (links_of d.types u) → P (links_of d.types v) = λ P p. subst P (sym same.links) p in
    record {
      of = same.volume may.of;
      forest = same.forest may.forest;
      down = on (λ (m : Links). (0 < length path) × LeadsDown d.types m 0 path) may.down;
      typed = on (λ (m : Links). m.code (tip path) ≡ row.code) may.typed;
      replace = on (λ (m : Links). CanReplace d.types m (tip path) row.bytes) may.replace;
      unlink = on (λ (m : Links). CanUnlink d.types m (parent_on path) y (tip path)) may.unlink;
      low = on (λ (m : Links). size_with d.types (m.code (tip path)) (length (m.bytes (tip path))) < room_of d.types row) may.low;
    }

module _ (d : Database) (v w : VolumeState) (path : List ℕ) (row : Segment) (y to : ℕ) (may : MayMove d v path row y) (set : IsSegmentSet d v (tip path) row to w) where
  abbrev fit : IsDatabase d
  fit = may.of.fit

  -- its twin before is there
  pub before-there : IsTwinPlace d.types (links_of d.types w) (parent_on path) row.code y
  before-there =
      subst (λ (t : ℕ). IsTwinPlace d.types (links_of d.types w) (parent_on path) t y) may.typed
      (before-set d v w fit may.of may.forest path row to y may.unlink may.replace set (set.room.moves may.low)
      (place-before d v fit may.of path may.down y may.unlink may.forest.0 may.forest.1))

  -- and its twin behind
  pub behind-there : IsTwinPlace d.types (links_of d.types w) (parent_on path) row.code ((links_of d.types v).forward (tip path))
  behind-there =
      let m : Links = links_of d.types v in
      let K : Held d v = held d v fit may.of may.forest in
      let B : IsBelow d.types (links_of d.types v) (parent_on path) (tip path) = last-below d v path (parent_on path) (tip path) K may.down refl refl in
      let there = λ (p : 0 < m.forward (tip path)). K.linked.typed.forward (tip path) B.there p in
      subst (λ (t : ℕ). IsTwinPlace d.types (links_of d.types w) (parent_on path) t (m.forward (tip path))) may.typed
      (behind-set d v w fit may.of may.forest path row to y may.unlink may.replace set (set.room.moves may.low)
      (record { parent = B.parent; typed = B.typed; twin = λ p. (there p).0; twin_code = λ p. (there p).1 }))

  -- once these name it, the row has its bytes
  pub move-done : (x : VolumeState) → IsRecorded d w (named (links_of d.types w) (parent_on path) row.code y ((links_of d.types v).forward (tip path)) to) x → IsRowSet d v path row to x
  move-done x done =
      row-moved d v w fit may.of may.forest path row to y may.unlink may.replace set (set.room.moves may.low) x
      (subst (λ (t : ℕ). IsRecorded d w (named (links_of d.types w) (parent_on path) t y ((links_of d.types v).forward (tip path)) to) x) (sym may.typed) done)

-- what was done to a volume after a call that read was done to it before
pub row-set-read : {A : Type 0} {x : A} (d : Database) (u v w : VolumeState) (path : List ℕ) (row : Segment) (to : ℕ) → IsRead {T = A} u (Ok x) v → IsTrue u.is_sound → IsVolumeOf d v
    → IsRowSet d v path row to w → IsRowSet d u path row to w
row-set-read d u v w path row to read sound of done =
    let same = after-read d u v read sound in
    row-set-after d u v w path row to of.formatted read.call.plain (keeps-same u v same.image read.call.size read.call.sizes) same.links done

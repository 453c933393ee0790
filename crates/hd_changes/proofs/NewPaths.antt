-- Rows that one call puts in, each below the one before.
use Rattle.std.proofs.Common.{◌≡◌, ◌≢◌, ℕ, ◌+◌, ◌<◌, ◌≤◌, List, [], ◌∷◌, ◌++◌, length, take, drop, Bool, true, false, cond, refl, sym, ap, ap₂, subst, ◌∙◌, arith}
use Rattle.std.specs.Prelude.{map, slice_index, ◌==◌, ◌||◌}
use Rattle.std.specs.List.{list_any}
use Rattle.std.proofs.lemmas.Bool.{eq-eqb, or_left}
use Rattle.std.proofs.lemmas.List.{append_assoc, length-append, length-take-le, length-map, take_at, drop_at, get_or_at}
use Rattle.std.proofs.lemmas.List.Folds.{list_any-append}
use Rattle.hd_dbd.specs.Hierarchy.{Database}
use Rattle.hd_dbd.specs.Segment.{Segment}
use Rattle.hd_dbd.specs.Rows.{row_fits, key_of}
use Rattle.hd_dbd.specs.Forest.{Forest, sequence}
use Rattle.hd_calls.specs.Moves.{inserted, put_in}
use Rattle.hd_calls.specs.Runs.{has_root, blocks_for}
use Rattle.hd_volume.specs.Headers.{Header, header_of}
use Rattle.hd_volume.specs.Volumes.{VolumeState}
use Rattle.hd_volume.specs.Rooms.{spare}
use Rattle.hd_volume.specs.Indexes.{root_key_length}
use Rattle.hd_index_blocks.specs.Needs.{entry_growth}
use Rattle.hd_links.specs.Links.{is_child_type}
use Rattle.hd_links.specs.Placed.{Placed}
use Rattle.hd_links.specs.Changes.{Agree, linked, CanLink}
use Rattle.hd_links.specs.Steps.{rows_of, addresses, address_at, RowsHaveAddresses}
use Rattle.hd_links.specs.Numbers.{LeafGoesInAt}
use Rattle.hd_links.specs.LastRows.{segments_of}
use Rattle.hd_links.proofs.Numbers.{rows_length, rows_addressed, map_end}
use Rattle.hd_image.specs.Records.{links_of}
use Rattle.hd_image.proofs.Found.{records-link}
use Rattle.hd_image.proofs.Roots.{header-child}
use Rattle.hd_forest.proofs.Agreeing.{agree-trans}
use Rattle.hd_index.proofs.NeedLemmas.{needed-most}
use Rattle.hd_index.proofs.ChangeLemmas.{later-same}
use Rattle.hd_changes.specs.VolumeImages.{images_of}
use Rattle.hd_changes.specs.NewPaths.{HasNoChild, IsPathIn, PathsBeginBelowRows, PathsBeginWithRoots, PathsGoOn, PathsAreInsertions}
use Rattle.hd_changes.proofs.Leaves.{leaves-take, children-next}
use Rattle.hd_changes.proofs.Rooms.{growth-kept}
use Rattle.hd_changes.proofs.Volumes.{agree-index, linked-below, linked-new, linked-root}
use Rattle.hd_changes.proofs.VolumeImages.{have-room, follow}

-- ---- a list with some put in

module _ {X : Type 0} (xs new : List X) (n : ℕ) (within : n ≤ length xs) where
  -- up to the end of those put in
  front-long : length (take n xs ++ new) ≡ n + length new
  front-long =
      (let front : length (take n xs) ≡ n = length-take-le n xs within in
      let both : length (take n xs ++ new) ≡ length (take n xs) + length new = length-append (take n xs) new in omega arith)

  -- one more behind them is put in with them
  pub put-more : (x : X) → put_in (n + length new) (x ∷ []) (put_in n new xs) ≡ put_in n (new ++ x ∷ []) xs
  put-more x =
      let front : take (n + length new) (put_in n new xs) ≡ take n xs ++ new
      = take_at (take n xs ++ new) (drop n xs) (n + length new) front-long in
      let rest : drop (n + length new) (put_in n new xs) ≡ drop n xs
      = drop_at (take n xs ++ new) (drop n xs) (n + length new) front-long in
      ap₂ (λ (a b : List X). (a ++ x ∷ []) ++ b) front rest ∙ ap (λ (ys : List X). ys ++ drop n xs) (append_assoc (take n xs) new (x ∷ []))

-- one is put in
one-in : {X : Type 0} (xs : List X) (x : X) (n : ℕ) → take n xs ++ (x ∷ drop n xs) ≡ put_in n (x ∷ []) xs
one-in xs x n = sym (append_assoc (take n xs) (x ∷ []) (drop n xs))

-- the last of those put in, and that it is there
module _ (xs front : List ℕ) (last n : ℕ) (within : n ≤ length xs) where
  regroup : put_in n (front ++ last ∷ []) xs ≡ (take n xs ++ front) ++ (last ∷ drop n xs)
  regroup =
      ap (λ (ys : List ℕ). ys ++ drop n xs) (sym (append_assoc (take n xs) front (last ∷ [])))
      ∙ append_assoc (take n xs ++ front) (last ∷ []) (drop n xs)

  pub last-there : n + length front < length (put_in n (front ++ last ∷ []) xs)
  last-there =
      (let whole : length (put_in n (front ++ last ∷ []) xs) ≡ length (take n xs ++ front) + length (last ∷ drop n xs)
      = ap (λ (ys : List ℕ). length ys) regroup ∙ length-append (take n xs ++ front) (last ∷ drop n xs) in
      let long : length (take n xs ++ front) ≡ n + length front = front-long xs front n within in
      omega arith)

  pub last-at : slice_index (put_in n (front ++ last ∷ []) xs) (n + length front) ≡ last
  last-at = ap (λ (ys : List ℕ). slice_index ys (n + length front)) regroup ∙ get_or_at (take n xs ++ front) last (drop n xs) 0 (n + length front) (front-long xs front n within)

-- ---- blocks

-- more rows may need no fewer blocks
grows-on : (b c : Bool) (growth : ℕ) → (b ≡ true → c ≡ true) → cond b growth 0 ≤ cond c growth 0
grows-on true c growth more = (let is : c ≡ true = more refl in rw is (omega arith))
grows-on false c growth more = omega arith

-- a root among the first is one among all
root-among : (rows more : List Segment) → has_root rows ≡ true → has_root (rows ++ more) ≡ true
root-among rows more root =
    list_any-append (λ (r : Segment). r.code == 1) rows more
    ∙ ap (λ (b : Bool). b || list_any (λ (r : Segment). r.code == 1) more) root

-- a forest has as many addresses as rows
as-many : (f : Forest Placed) → length (addresses f) ≡ length (rows_of f)
as-many f = length-map (sequence f) (λ (p : Placed). p.address) ∙ sym (rows_length f)

-- ---- the first row

pub begin-below : PathsBeginBelowRows
begin-below d v w f h y n p H some P I =
    let leaf = leaves-take d.types (links_of d.types v) (links_of d.types w) h y p I.records in
    record {
      held = H;
      holds = linked-below d v w f h y p.address p.segment H some I;
      within = P.within;
      rows = P.rows ∙ one-in (rows_of f) p.segment n;
      places = P.places ∙ one-in (addresses f) p.address n;
      childless = leaf.0;
      takes = leaf.1;
      version = ap (λ (z : Header). z.version) I.rest.header;
      largest = ap (λ (z : Header). z.largest) I.rest.header;
      spares = (let less : spare v ≤ spare w + 1 = I.spares in omega arith);
    }

pub begin-roots : PathsBeginWithRoots
begin-roots d v w x f y n more p H may P I E room =
    let records : Agree d.types (linked (links_of d.types v) 0 y p) (links_of d.types x)
    = agree-trans d.types (linked (links_of d.types v) 0 y p) (links_of d.types w) (links_of d.types x) I.records (agree-index d w x more E.change) in
    let leaf = leaves-take d.types (links_of d.types v) (links_of d.types x) 0 y p records in
    let typed : is_child_type d.types ((links_of d.types v).code 0) p.segment.code ≡ true = (may p.address I.free).typed in
    let root : has_root (p.segment ∷ []) ≡ true = or_left (p.segment.code == 1) false (eq-eqb p.segment.code 1 (header-child d.types v p.segment.code typed)) in
    let growth : (images_of d).index_growth v.image ≡ entry_growth w
    = (have-room d v H.volume).1 ∙ sym (growth-kept d v w f 0 y p.address p.segment H I) in
    let version : (header_of x.image).version ≡ (header_of v.image).version = ap (λ (z : Header). z.version) E.change.header ∙ ap (λ (z : Header). z.version) I.rest.header in
    let new = linked-new d v w f y p.address p.segment H (later-same x v (sym version) E.index.index.version) may I in
    let needed : blocks_for (images_of d) v.image (p.segment ∷ []) (has_root (p.segment ∷ [])) ≡ 1 + entry_growth w
    = ap₂ (λ (b : Bool) (g : ℕ). 1 + cond b g 0) root growth in
    record {
      held = H;
      holds = linked-root d v w x f y p.address more p.segment H may I E;
      within = P.within;
      rows = P.rows ∙ one-in (rows_of f) p.segment n;
      places = P.places ∙ one-in (addresses f) p.address n;
      childless = leaf.0;
      takes = leaf.1;
      version = version;
      largest = ap (λ (z : Header). z.largest) E.change.header ∙ ap (λ (z : Header). z.largest) I.rest.header;
      spares = (let less : spare v ≤ spare w + 1 = I.spares in omega (arith, less, room, needed, needed-most (root_key_length d.types) w (key_of d.types p.segment) new.0.index));
    }

-- ---- one row more

-- where the last row of a path stands
module _ (d : Database) (v w : VolumeState) (f g : Forest Placed) (n : ℕ) (front : List Placed) (last : Placed) (W : IsPathIn d v f n front last w g) where
  abbrev places : List ℕ
  places = map (λ (q : Placed). q.address) front

  count : length places ≡ length front
  count = length-map front (λ (q : Placed). q.address)

  pub inside : n ≤ length (addresses f)
  inside = (let many : length (addresses f) ≡ length (rows_of f) = as-many f in let low : n ≤ length (rows_of f) = W.within in omega arith)

  both : addresses g ≡ put_in n (places ++ last.address ∷ []) (addresses f)
  both = W.places ∙ ap (λ (as_ : List ℕ). put_in n as_ (addresses f)) (map_end (λ (q : Placed). q.address) front last)

  pub last-place : address_at g (n + length front) ≡ last.address
  last-place =
      ap (λ (k : ℕ). address_at g (n + k)) (sym count)
      ∙ ap (λ (as_ : List ℕ). slice_index as_ (n + length places)) both
      ∙ last-at (addresses f) places last.address n inside

  pub last-within : n + length front < length (rows_of g)
  last-within =
      (let l : n + length places < length (put_in n (places ++ last.address ∷ []) (addresses f)) = last-there (addresses f) places last.address n inside in
      let m : length (addresses g) ≡ length (put_in n (places ++ last.address ∷ []) (addresses f)) = ap (λ (as_ : List ℕ). length as_) both in
      let c : length places ≡ length front = count in
      let k : length (addresses g) ≡ length (rows_of g) = as-many g in omega arith)

  pub last-some : last.address ≢ 0
  last-some none =
      (let A : RowsHaveAddresses (links_of d.types w) g = rows_addressed d.types (links_of d.types w) g W.holds.records in
      let at : address_at g (n + length front) ≡ last.address = last-place in
      let s : 0 < address_at g (n + length front) = (A.there (n + length front) last-within).some in absurd (omega arith))

  -- a row may be linked below it, and goes in next
  pub goes-next : (p : Placed) → is_child_type d.types last.segment.code p.segment.code ≡ true → row_fits d.types p.segment ≡ true → (links_of d.types w).here p.address ≡ false
      → CanLink d.types (links_of d.types w) last.address 0 p × LeafGoesInAt d.types g last.address 0 p (n + length front + 1)
  goes-next p typed fits free =
      let can = W.takes p.segment typed fits p.address free in (
        can,
        subst (λ (a : ℕ). LeafGoesInAt d.types g a 0 p (n + length front + 1)) last-place
            (children-next d.block_size d.frspc d.types (length w.image) (links_of d.types w) g (n + length front) p W.holds.volume.fit
            (records-link d w W.holds.volume.fit W.holds.volume) W.holds.records last-within
            (subst (HasNoChild d.types (links_of d.types w)) (sym last-place) W.childless)
            (subst (λ (a : ℕ). CanLink d.types (links_of d.types w) a 0 p) (sym last-place) can)),
      )

pub go-on : PathsGoOn
go-on d v w x f g n front last p W typed fits I =
    let next : LeafGoesInAt d.types g last.address 0 p (n + length front + 1) = (goes-next d v w f g n front last W p typed fits I.free).1 in
    let some : last.address ≢ 0 = last-some d v w f g n front last W in
    let low : n ≤ length (addresses f) = inside d v w f g n front last W in
    let leaf = leaves-take d.types (links_of d.types w) (links_of d.types x) last.address 0 p I.records in
    let new : List Placed = front ++ last ∷ [] in
    let long : length (segments_of new) ≡ length front + 1 = length-map new (λ (q : Placed). q.segment) ∙ length-append front (last ∷ []) in
    let long-places : length (map (λ (q : Placed). q.address) new) ≡ length front + 1 = length-map new (λ (q : Placed). q.address) ∙ length-append front (last ∷ []) in
    record {
      held = W.held;
      holds = linked-below d w x g last.address 0 p.address p.segment W.holds some I;
      within = W.within;
      rows =
          next.rows
          ∙ one-in (rows_of g) p.segment (n + length front + 1)
          ∙ ap₂ (λ (k : ℕ) (rows : List Segment). put_in k (p.segment ∷ []) rows) (let e : n + length front + 1 ≡ n + length (segments_of new) = omega arith in e) W.rows
          ∙ put-more (rows_of f) (segments_of new) n W.within p.segment
          ∙ ap (λ (rows : List Segment). put_in n rows (rows_of f)) (sym (map_end (λ (q : Placed). q.segment) new p));
      places =
          next.places
          ∙ one-in (addresses g) p.address (n + length front + 1)
          ∙ ap₂ (λ (k : ℕ) (as_ : List ℕ). put_in k (p.address ∷ []) as_) (let e : n + length front + 1 ≡ n + length (map (λ (q : Placed). q.address) new) = omega arith in e) W.places
          ∙ put-more (addresses f) (map (λ (q : Placed). q.address) new) n low p.address
          ∙ ap (λ (as_ : List ℕ). put_in n as_ (addresses f)) (sym (map_end (λ (q : Placed). q.address) new p));
      childless = leaf.0;
      takes = leaf.1;
      version = ap (λ (z : Header). z.version) I.rest.header ∙ W.version;
      largest = ap (λ (z : Header). z.largest) I.rest.header ∙ W.largest;
      spares =
          (let before : spare v ≤ spare w + blocks_for (images_of d) v.image (segments_of new) (has_root (segments_of new)) = W.spares in
          let less : spare w ≤ spare x + 1 = I.spares in
          let more : length (segments_of (new ++ p ∷ [])) ≡ length (segments_of new) + 1
          = length-map (new ++ p ∷ []) (λ (q : Placed). q.segment) ∙ length-append new (p ∷ []) ∙ (let e : length new + 1 ≡ length (segments_of new) + 1 = ap (λ (k : ℕ). k + 1) (sym (length-map new (λ (q : Placed). q.segment))) in e) in
          let roots : cond (has_root (segments_of new)) ((images_of d).index_growth v.image) 0 ≤ cond (has_root (segments_of (new ++ p ∷ []))) ((images_of d).index_growth v.image) 0
          = grows-on (has_root (segments_of new)) (has_root (segments_of (new ++ p ∷ []))) ((images_of d).index_growth v.image)
          (λ root. ap has_root (map_end (λ (q : Placed). q.segment) new p) ∙ root-among (segments_of new) (p.segment ∷ []) root) in
          omega (arith, before, less, more, roots));
    }

pub insertions : PathsAreInsertions
insertions d v w f g n front last W =
    let new : List Placed = front ++ last ∷ [] in
    follow d v w f g (inserted n (segments_of new)) W.held W.holds W.largest W.spares
    (map (λ (p : Placed). p.address) new, length-map new (λ (p : Placed). p.address) ∙ sym (length-map new (λ (p : Placed). p.segment)), W.places)

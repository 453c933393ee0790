-- Rows that get new bytes, one after the other.
use Rattle.std.proofs.Common.{◌≡◌, ◌≢◌, ◌⊎◌, ℕ, zero, suc, ◌+◌, ◌<◌, ◌≤◌, List, [], ◌∷◌, ◌++◌, length, take, drop, Bool, true, false, cond, refl, ap, ap₂, sym, ◌∙◌, subst, arith, inl, inr}
use Rattle.std.specs.Prelude.{map, slice_index_or, slice_set, ◌&&◌, ◌||◌, ◌==◌}
use Rattle.std.specs.List.{list_all, list_any}
use Rattle.std.proofs.lemmas.Bool.{cases_eq, and_parts, or_parts}
use Rattle.std.proofs.lemmas.List.{get_or-set_same, get_or-set_other}
use Rattle.std.proofs.lemmas.Slice.Eq.{bytes_eq-Decides}
use Rattle.hd_dbd.specs.Types.{SegmentType}
use Rattle.hd_dbd.specs.Hierarchy.{Database, level_of}
use Rattle.hd_dbd.specs.Segment.{Segment}
use Rattle.hd_dbd.specs.Rows.{key_of, row_fits}
use Rattle.hd_dbd.specs.Paths.{row_at, no_row}
use Rattle.hd_dbd.specs.Prefixes.{size_with}
use Rattle.hd_dbd.specs.declared.answer.Refused.{Refused}
use Rattle.hd_dbd.specs.declared.answer.Refused.TheVariants.{Memory, Full, Device}
use Rattle.hd_dbd.specs.Positions.{Position}
use Rattle.hd_dbd.specs.Forest.{Forest}
use Rattle.hd_calls.specs.Moves.{Rewrite, rewritten, is_rewritten, position_after_rewrite}
use Rattle.hd_calls.specs.Runs.{is_longer, lengthens, row_with, rows_stored}
use Rattle.hd_calls.specs.Steps.{keeps_key}
use Rattle.hd_volume.specs.Volumes.{VolumeState}
use Rattle.hd_links.specs.Links.{Links, IsSegment, segment_at}
use Rattle.hd_links.specs.Placed.{Placed}
use Rattle.hd_links.specs.Changes.{with_bytes, CanReplace}
use Rattle.hd_links.specs.Moves.{moved_to, with_address}
use Rattle.hd_links.specs.Steps.{rows_of, addresses, address_at, LeadsDown, RowsHaveAddresses}
use Rattle.hd_links.proofs.Moving.{rows_same, addresses_to}
use Rattle.hd_links.proofs.Numbers.{rows_addressed}
use Rattle.hd_links.proofs.RowChanges.{bytes_in}
use Rattle.hd_image.specs.Records.{links_of}
use Rattle.hd_image.specs.Holding.{HoldsPlaced}
use Rattle.hd_volume.specs.Rooms.{spare, HasHole}
use Rattle.hd_forest.specs.Walks.{tip}
use Rattle.hd_forest.specs.Replacing.{Outgrows}
use Rattle.hd_index.proofs.ChangeLemmas.{later-same}
use Rattle.hd_changes.specs.Rooms.{HasRoomFor, HasMemoryFor}
use Rattle.hd_changes.specs.SetRows.{AreSet}
use Rattle.hd_changes.proofs.SetRows.{rewrite-length, rewrite-other, setting-begins, setting-goes-on}
use Rattle.hd_position.specs.Kept.{Kept, StandsFor, path_passed, path_before, after_rewrite, moved_row}
use Rattle.hd_position.proofs.Moving.{moving_keeps}
use Rattle.hd_position.proofs.Rewriting.{rewriting_ends, rewrites_add}
use Rattle.hd_position.proofs.Same.{passed_same}
use Rattle.hd_update.specs.Paths.{path_up_to}
use Rattle.hd_update.specs.Positions.{after_rewrites}
use Rattle.hd_update.specs.Replacing.{part_for, IsInArea, AreInArea, IsRewriteOf, AreRewritesOf, MayReplace, IsReplacedTo, MayReplaceAll, AreReplaced}
use Rattle.hd_update.specs.declared.replaced.ReplacedRow.{ReplacedRow}
use Rattle.hd_update.specs.declared.rewrites.NewBytes.{NewBytes}
use Rattle.hd_update.proofs.AskedPaths.{IsAtTurn, at_turn}
use Rattle.hd_update.proofs.RewriteRooms.{replace_refused, room_left, memory_left}
use Rattle.hd_update.proofs.CutPaths.{leads_to_row}

-- ---- one of them

-- The row of a place: it is the first of those that are left.
pub record IsNext (types : List SegmentType) (f : Forest Placed) (area : List ℕ) (n : NewBytes) (ws : List Rewrite) (place : ℕ) : Type 0 where
  pub rewrite : Rewrite
  pub of : IsRewriteOf types f area n rewrite
  pub left : drop place ws ≡ rewrite ∷ drop (place + 1) ws
  pub so_far : take (place + 1) ws ≡ take place ws ++ rewrite ∷ []

module _ (types : List SegmentType) (f : Forest Placed) (area : List ℕ) where
  pub next_of : (news : List NewBytes) (ws : List Rewrite) (place : ℕ) (d : NewBytes) → AreRewritesOf types f area news ws → place < length news
      → IsNext types f area (slice_index_or news place d) ws place
  next_of [] ws place d are within = absurd (omega arith)
  next_of (n ∷ ns) [] place d are within = absurd are
  next_of (n ∷ ns) (w ∷ ws) zero d are within = record { rewrite = w; of = are.0; left = refl; so_far = refl }
  next_of (n ∷ ns) (w ∷ ws) (suc p) d are within =
      let N = next_of ns ws p d are.1 (omega arith) in
      let e : suc p + 1 ≡ suc (p + 1) = omega arith in
      record {
        rewrite = N.rewrite;
        of = N.of;
        left = N.left ∙ ap (λ (xs : List Rewrite). N.rewrite ∷ xs) (ap (λ (m : ℕ). drop m (w ∷ ws)) (sym e));
        so_far = ap (λ (m : ℕ). take m (w ∷ ws)) e ∙ ap (λ (xs : List Rewrite). w ∷ xs) N.so_far;
      }

  pub none_left : (news : List NewBytes) (ws : List Rewrite) (place : ℕ) → AreRewritesOf types f area news ws → length news ≤ place → (drop place ws ≡ []) × (take place ws ≡ ws) × (take place news ≡ news)
  none_left [] [] zero are past = (refl, refl, refl)
  none_left [] [] (suc p) are past = (refl, refl, refl)
  none_left [] (w ∷ ws) place are past = absurd are
  none_left (n ∷ ns) [] place are past = absurd are
  none_left (n ∷ ns) (w ∷ ws) zero are past = absurd (omega arith)
  none_left (n ∷ ns) (w ∷ ws) (suc p) are past =
      let N = none_left ns ws p are.1 (omega arith) in
      (N.0, ap (λ (xs : List Rewrite). w ∷ xs) N.1, ap (λ (xs : List NewBytes). n ∷ xs) N.2)

-- new bytes of a place are in the area
pub in_area : (types : List SegmentType) (area : List ℕ) (news : List NewBytes) (place : ℕ) (d : NewBytes) → AreInArea types area news → place < length news → IsInArea types area (slice_index_or news place d)
in_area types area [] place d are within = absurd (omega arith)
in_area types area (n ∷ ns) zero d are within = are.0
in_area types area (n ∷ ns) (suc p) d are within = in_area types area ns p d are.1 (omega arith)

-- where all keep their keys, so does it
pub kept_by : (types : List SegmentType) (f : Forest Placed) (ws : List Rewrite) (place : ℕ) (w : Rewrite) → drop place ws ≡ w ∷ drop (place + 1) ws
    → list_all (λ x. keeps_key types (rows_of f) x) ws ≡ true → keeps_key types (rows_of f) w ≡ true
kept_by types f ws place w left all =
    (and_parts (keeps_key types (rows_of f) w) (list_all (λ x. keeps_key types (rows_of f) x) (drop (place + 1) ws))
    (ap (list_all (λ x. keeps_key types (rows_of f) x)) (sym left) ∙ dropped place ws all)).0
  where
    dropped : (n : ℕ) (ws : List Rewrite) → list_all (λ x. keeps_key types (rows_of f) x) ws ≡ true → list_all (λ x. keeps_key types (rows_of f) x) (drop n ws) ≡ true
    dropped zero ws e = e
    dropped (suc n) [] e = e
    dropped (suc n) (x ∷ xs) e = dropped n xs (and_parts (keeps_key types (rows_of f) x) (list_all (λ y. keeps_key types (rows_of f) y) xs) e).1

-- ---- rows whose codes and keys stay

-- one row with new bytes of the same key
module _ (types : List SegmentType) (rows : List Segment) (i : ℕ) (bytes : List ℕ) (within : i < length rows) where
  abbrev new : Segment
  new = record { code = (row_at rows i).code; bytes = bytes }

  set_row : (P : Segment → Segment → Type 0) → ((r : Segment) → P r r) → P new (row_at rows i) → (j : ℕ) → P (row_at (slice_set rows i new) j) (row_at rows j)
  set_row P same here j = elim (cases_eq j i) [
    | inl e ↦ subst (λ (k : ℕ). P (row_at (slice_set rows i new) k) (row_at rows k)) (sym e) (subst (λ (r : Segment). P r (row_at rows i)) (sym (get_or-set_same rows i new no_row within)) here)
    | inr ne ↦ subst (λ (r : Segment). P r (row_at rows j)) (sym (get_or-set_other rows i j new no_row ne)) (same (row_at rows j))
  ]

  pub code_stays : (j : ℕ) → (row_at (slice_set rows i new) j).code ≡ (row_at rows j).code
  code_stays j = set_row (λ r s. r.code ≡ s.code) (λ r. refl) refl j

  pub key_stays : key_of types new ≡ key_of types (row_at rows i) → (j : ℕ) → key_of types (row_at (slice_set rows i new) j) ≡ key_of types (row_at rows j)
  key_stays own j = set_row (λ r s. key_of types r ≡ key_of types s) (λ r. refl) own j

-- ---- positions

-- one more at the end
pub after_more : (rows : List ReplacedRow) (r : ReplacedRow) (k : Kept) → after_rewrites (rows ++ r ∷ []) k ≡ moved_row r.from r.to (after_rewrite r.from (after_rewrites rows k))
after_more [] r k = refl
after_more (x ∷ xs) r k = after_more xs r (moved_row x.from x.to (after_rewrite x.from k))

none_rewritten : (held : List ℕ) → list_any (λ n. is_rewritten [] n) held ≡ false
none_rewritten [] = refl
none_rewritten (i ∷ is) = none_rewritten is

-- without a new row nothing moves
pub unmoved : (q : Position) → position_after_rewrite [] q ≡ q
unmoved q = ap (λ (b : Bool). record q { held = cond b [] q.held }) (none_rewritten q.held)

pub moved_more : (ws : List Rewrite) (w : Rewrite) (q : Position) → position_after_rewrite (w ∷ []) (position_after_rewrite ws q) ≡ position_after_rewrite (ws ++ w ∷ []) q
moved_more [] w q = ap (position_after_rewrite (w ∷ [])) (unmoved q)
moved_more (v ∷ vs) w q =
    ap (position_after_rewrite (w ∷ [])) (sym (rewrites_add v vs q)) ∙ moved_more vs w (position_after_rewrite (v ∷ []) q) ∙ rewrites_add v (vs ++ w ∷ []) q

-- ---- in a volume

module _ (d : Database) (v : VolumeState) (f : Forest Placed) (area : List ℕ) (n : NewBytes) (w : Rewrite) (holds : HoldsPlaced d v f) (of : IsRewriteOf d.types f area n w) where
  abbrev m : Links
  m = links_of d.types v

  addressed : RowsHaveAddresses m f
  addressed = rows_addressed d.types m f holds.records

  pub row_stored : IsSegment m n.address
  row_stored = subst (IsSegment m) (sym of.address) (addressed.there w.number of.row)

  -- the segment at the address is the row
  abbrev stored_row : Segment
  stored_row = record { code = n.code; bytes = m.bytes n.address }

  abbrev asked_row : Segment
  asked_row = record { code = n.code; bytes = part_for area n }

  abbrev new_row : Segment
  new_row = record { code = (row_at (rows_of f) w.number).code; bytes = w.bytes }

  pub row_is : stored_row ≡ row_at (rows_of f) w.number
  row_is =
      let same : segment_at m (address_at f w.number) ≡ row_at (rows_of f) w.number = addressed.same w.number of.row in
      ap₂ (λ (c : ℕ) (b : List ℕ). record { code = c; bytes = b }) (of.code ∙ ap (λ (r : Segment). r.code) (sym same)) (ap m.bytes of.address) ∙ same

  -- and its new bytes are the part of the area
  pub new_row_is : asked_row ≡ new_row
  new_row_is = ap₂ (λ (c : ℕ) (b : List ℕ). record { code = c; bytes = b }) of.code of.bytes

-- ---- from row to row

-- before the first
abbrev pub replacing_begins : (d : Database) (v : VolumeState) (f : Forest Placed) → HoldsPlaced d v f → AreReplaced d v f [] v []
replacing_begins d v f holds = record {
  placed = f;
  set = setting-begins d v f holds;
  codes = λ i. refl;
  keys = λ i. refl;
  positions = λ k q F. subst (StandsFor d.types f k) (sym (unmoved q)) F;
}

-- rows that are not among them are not made longer
none_longer : (rows : List Segment) (ws : List Rewrite) (i : ℕ) → list_any (λ z. z.number == i) ws ≡ false → lengthens rows ws i ≡ false
none_longer rows [] i none = refl
none_longer rows (w ∷ ws) i none =
    let both = or_parts (w.number == i) (list_any (λ z. z.number == i) ws) none in
    ap₂ (λ (a b : Bool). a && is_longer rows w || b) both.0 (none_longer rows ws i both.1)

-- Of rows that may get new bytes these have them, and those are left: the volume x holds the forest with them, `own` is the path in it, and there
-- are room and memory for what is left.
pub record IsSoFar (d : Database) (v : VolumeState) (path area : List ℕ) (news : List NewBytes) (f : Forest Placed) (ws : List Rewrite) (C : MayReplaceAll d v path area news f ws) (x : VolumeState)
    (own : List ℕ) (rows : List ReplacedRow) (done left : List Rewrite) : Type 0 where
  pub replaced : AreReplaced d v f done x rows
  pub own_is : own ≡ path_before d.types replaced.placed C.passed
  pub room : HasRoomFor d.types x (rows_stored (rows_of f) (rewritten left))
  pub memory : HasMemoryFor d.types x (rows_stored (rows_of f) (rewritten left))

pub none_so_far : (d : Database) (v : VolumeState) (path area : List ℕ) (news : List NewBytes) (f : Forest Placed) (ws : List Rewrite) (C : MayReplaceAll d v path area news f ws)
    → IsSoFar d v path area news f ws C v path [] [] ws
none_so_far d v path area news f ws C = record { replaced = replacing_begins d v f C.holds; own_is = C.path_is; room = C.room; memory = C.memory }

module _ (d : Database) (v x : VolumeState) (path area : List ℕ) (news : List NewBytes) (f : Forest Placed) (ws : List Rewrite) (place : ℕ) (n : NewBytes)
    (C : MayReplaceAll d v path area news f ws) (N : IsNext d.types f area n ws place) (own : List ℕ) (rows : List ReplacedRow)
    (S : IsSoFar d v path area news f ws C x own rows (take place ws) (drop place ws)) where
  abbrev R : AreReplaced d v f (take place ws) x rows
  R = S.replaced

  abbrev g : Forest Placed
  g = S.replaced.placed

  abbrev k : Links
  k = links_of d.types x

  abbrev w : Rewrite
  w = N.rewrite

  -- the row as its new bytes make it
  abbrev row : Segment
  row = record { code = n.code; bytes = part_for area n }

  abbrev part : List ℕ
  part = path_up_to n.address own

  turn : IsAtTurn (path_passed d.types (rows_of f) C.passed) ws place w
  turn = at_turn (path_passed d.types (rows_of f) C.passed) ws (drop (place + 1) ws) place w C.on N.left

  held : RowsHaveAddresses k g
  held = rows_addressed d.types k g R.set.holds.records

  long : length (rows_of g) ≡ length (rows_of f)
  long = ap (λ (xs : List Segment). length xs) R.set.rows ∙ rewrite-length (take place ws) (rows_of f)

  within : w.number < length (rows_of g)
  within = (let l : w.number < length (rows_of f) = N.of.row in let same = long in omega arith)

  same_place : n.address ≡ address_at g w.number
  same_place = N.of.address ∙ sym (R.set.places w.number (none_longer (rows_of f) (take place ws) w.number turn.none))

  there : IsSegment k n.address
  there = subst (IsSegment k) (sym same_place) (held.there w.number within)

  segment_is : segment_at k n.address ≡ row_at (rows_of g) w.number
  segment_is = ap (segment_at k) same_place ∙ held.same w.number within

  code_is : k.code n.address ≡ n.code
  code_is = ap (λ (r : Segment). r.code) segment_is ∙ R.codes w.number ∙ sym N.of.code

  kept_key : key_of d.types (new_row d v f area n w C.holds N.of) ≡ key_of d.types (row_at (rows_of f) w.number)
  kept_key = sym ((bytes_eq-Decides (key_of d.types (row_at (rows_of f) w.number)) (key_of d.types (new_row d v f area n w C.holds N.of))).0 (kept_by d.types f ws place w N.left C.keys))

  -- its key is that of its new bytes
  key_is : key_of d.types row ≡ key_of d.types (segment_at k n.address)
  key_is = ap (key_of d.types) (new_row_is d v f area n w C.holds N.of) ∙ kept_key ∙ sym (R.keys w.number) ∙ ap (key_of d.types) (sym segment_is)

  may_replace : CanReplace d.types k n.address (part_for area n)
  may_replace =
      record {
        there = there;
        fits = ap₂ (λ (c : ℕ) (xs : List ℕ). row_fits d.types (record { code = c; bytes = xs })) code_is N.of.bytes ∙ N.of.fits;
        key = ap (λ (c : ℕ). key_of d.types (record { code = c; bytes = part_for area n })) code_is ∙ key_is;
      }

  same_path : path_passed d.types (rows_of g) C.passed ≡ path_passed d.types (rows_of f) C.passed
  same_path = passed_same d.types (rows_of f) (rows_of g) (λ i. ap (level_of d.types) (R.codes i)) C.passed

  leads : (0 < length part) × LeadsDown d.types k 0 part × (tip part ≡ n.address)
  leads =
      let L = leads_to_row d x g R.set.holds.volume R.set.holds.records own C.passed w.number (let l : C.passed ≤ length (rows_of f) = C.within in let same = long in omega arith) S.own_is
      (ap (λ (xs : List ℕ). list_any (λ j. j == w.number) xs) same_path ∙ turn.on) in
      subst (λ (a : ℕ). (0 < length (path_up_to a own)) × LeadsDown d.types k 0 (path_up_to a own) × (tip (path_up_to a own) ≡ a)) (sym same_place) L

  pub may_be_replaced : MayReplace d x part row
  may_be_replaced = record {
    later = later-same v x R.set.version C.later;
    placed = g;
    holds = R.set.holds;
    down = (leads.0, leads.1);
    typed = ap k.code leads.2 ∙ code_is;
    may = subst (λ (a : ℕ). CanReplace d.types k a (part_for area n)) (sym leads.2) may_replace;
  }

  -- the row as it was before the call
  before_is : segment_at k (tip part) ≡ row_at (rows_of f) w.number
  before_is = ap (segment_at k) leads.2 ∙ segment_is ∙ ap (λ (rs : List Segment). row_at rs w.number) R.set.rows ∙ rewrite-other (take place ws) (rows_of f) w.number turn.none

  abbrev rest : List Rewrite
  rest = drop (place + 1) ws

  row_as : row ≡ row_with (rows_of f) w
  row_as = new_row_is d v f area n w C.holds N.of

  code_here : k.code (tip part) ≡ row.code
  code_here = ap k.code leads.2 ∙ code_is

  many_here : length (k.bytes (tip part)) ≡ length (row_at (rows_of f) w.number).bytes
  many_here = ap (λ (s : Segment). length s.bytes) before_is

  room_here : HasRoomFor d.types x (rows_stored (rows_of f) (rewritten (w ∷ rest)))
  room_here = subst (λ (xs : List Rewrite). HasRoomFor d.types x (rows_stored (rows_of f) (rewritten xs))) N.left S.room

  memory_here : HasMemoryFor d.types x (rows_stored (rows_of f) (rewritten (w ∷ rest)))
  memory_here = subst (λ (xs : List Rewrite). HasMemoryFor d.types x (rows_stored (rows_of f) (rewritten xs))) N.left S.memory

  -- it is refused by a failed access alone
  pub row_refused : (e : Refused) → (e ≡ Memory) ⊎ (e ≡ Full) ⊎ (e ≡ Device) → (e ≡ Full → (spare x ≡ 0) × (HasHole x (size_with d.types row.code (length row.bytes)) → ⊥)) → (e ≡ Memory → x.room ≡ 0)
      → (e ≡ Memory → HasHole x (size_with d.types row.code (length row.bytes)) → ⊥) → (e ≢ Device → Outgrows d x (tip part) row) → e ≡ Device
  row_refused e why full few hole outgrown = replace_refused d x part (rows_of f) w rest row row_as code_here many_here room_here memory_here e why full few hole outgrown

  module _ (to : ℕ) (y : VolumeState) (I : IsReplacedTo d x part row to y) where
    abbrev one : Rewrite
    one = record { number = w.number; bytes = row.bytes }

    abbrev h : Forest Placed
    h = with_bytes n.address row.bytes g

    abbrev g2 : Forest Placed
    g2 = with_address n.address to h

    abbrev moved : ReplacedRow
    moved = record { from = n.address; to = to }

    at_part : (a : ℕ) → tip part ≡ a → AreSet d v f (take place ws ++ one ∷ []) y (with_address (tip part) to (with_bytes (tip part) row.bytes g))
        → AreSet d v f (take place ws ++ one ∷ []) y (with_address a to (with_bytes a row.bytes g))
    at_part a is S = subst (λ (b : ℕ). AreSet d v f (take place ws ++ one ∷ []) y (with_address b to (with_bytes b row.bytes g))) is S

    one_set : AreSet d v f (take place ws ++ one ∷ []) y g2
    one_set =
        let G = setting-goes-on d v x I.between f g (take place ws) w.number part row to R.set within (leads.2 ∙ same_place) turn.none (sym (ap k.code leads.2 ∙ code_is)) may_be_replaced.may I.set in
        at_part n.address leads.2 (elim I.entered [
          | inl keeps ↦ subst (λ (z : VolumeState). AreSet d v f (take place ws ++ one ∷ []) z (with_address (tip part) to (with_bytes (tip part) row.bytes g))) (sym keeps.1) (G.0 keeps.0)
          | inr E ↦ G.1 y E.root E.entered E.spares
        ])

    bytes_set : (rows_of h ≡ slice_set (rows_of g) w.number (record { code = (row_at (rows_of g) w.number).code; bytes = row.bytes })) × (addresses h ≡ addresses g)
    bytes_set =
        subst (λ (a : ℕ). (rows_of (with_bytes a row.bytes g) ≡ slice_set (rows_of g) w.number (record { code = (row_at (rows_of g) w.number).code; bytes = row.bytes }))
        × (addresses (with_bytes a row.bytes g) ≡ addresses g)) (sym same_place)
        (bytes_in d.types k g w.number row.bytes R.set.holds.records within)

    rows_set : rows_of g2 ≡ slice_set (rows_of g) w.number (record { code = (row_at (rows_of g) w.number).code; bytes = row.bytes })
    rows_set = rows_same n.address to h ∙ bytes_set.0

    codes_set : (i : ℕ) → (row_at (rows_of g2) i).code ≡ (row_at (rows_of f) i).code
    codes_set i = ap (λ (rs : List Segment). (row_at rs i).code) rows_set ∙ code_stays d.types (rows_of g) w.number row.bytes within i ∙ R.codes i

    own_key : key_of d.types (record { code = (row_at (rows_of g) w.number).code; bytes = row.bytes }) ≡ key_of d.types (row_at (rows_of g) w.number)
    own_key =
        ap₂ (λ (c : ℕ) (xs : List ℕ). key_of d.types (record { code = c; bytes = xs })) (R.codes w.number) N.of.bytes ∙ kept_key ∙ sym (R.keys w.number)

    positions_set : (kept : Kept) (q : Position) → StandsFor d.types f kept q → StandsFor d.types g2 (after_rewrites (rows ++ moved ∷ []) kept) (position_after_rewrite (take place ws ++ one ∷ []) q)
    positions_set kept q F =
        let S = rewriting_ends d.types k g one (after_rewrites rows kept) (position_after_rewrite (take place ws) q) R.set.holds.records within (R.positions kept q F) in
        let T : StandsFor d.types h (after_rewrite n.address (after_rewrites rows kept)) (position_after_rewrite (one ∷ []) (position_after_rewrite (take place ws) q))
        = subst (λ (a : ℕ). StandsFor d.types (with_bytes a row.bytes g) (after_rewrite a (after_rewrites rows kept)) (position_after_rewrite (one ∷ []) (position_after_rewrite (take place ws) q)))
        (sym same_place) S in
        let M = moving_keeps d.types h n.address to (after_rewrite n.address (after_rewrites rows kept)) (position_after_rewrite (one ∷ []) (position_after_rewrite (take place ws) q)) there.some T in
        subst (λ (k2 : Kept). StandsFor d.types g2 k2 (position_after_rewrite (take place ws ++ one ∷ []) q)) (sym (after_more rows moved kept))
        (subst (StandsFor d.types g2 (moved_row n.address to (after_rewrite n.address (after_rewrites rows kept)))) (moved_more (take place ws) one q) M)

    -- the path, with the row where it stands
    path_set : map (λ b. moved_to n.address to b) own ≡ path_before d.types g2 C.passed
    path_set =
        let P : List ℕ = path_passed d.types (rows_of g) C.passed in
        let same : path_passed d.types (rows_of g2) C.passed ≡ P
        = passed_same d.types (rows_of g) (rows_of g2) (λ i. ap (λ (rs : List Segment). level_of d.types (row_at rs i).code) rows_set ∙ ap (level_of d.types) (code_stays d.types (rows_of g) w.number row.bytes within i)) C.passed in
        ap (map (λ b. moved_to n.address to b)) (S.own_is ∙ ap (λ (ns : List ℕ). map (λ j. slice_index_or ns j 0) P) (sym bytes_set.1))
        ∙ sym (addresses_to n.address to there.some h P)
        ∙ ap (map (λ j. address_at g2 j)) (sym same)

    same_rewrite : one ≡ w
    same_rewrite = ap (λ (b : List ℕ). record { number = w.number; bytes = b }) N.of.bytes

    -- one row more has its new bytes
    pub one_more : x.room ≤ y.room + 1 → (to ≡ tip part → x.room ≤ y.room)
        → IsSoFar d v path area news f ws C y (map (λ b. moved_to n.address to b) own) (rows ++ moved ∷ []) (take (place + 1) ws) (drop (place + 1) ws)
    one_more kept still =
        subst (λ (xs : List Rewrite). IsSoFar d v path area news f ws C y (map (λ b. moved_to n.address to b) own) (rows ++ moved ∷ []) xs (drop (place + 1) ws))
        (ap (λ (z : Rewrite). take place ws ++ z ∷ []) same_rewrite ∙ sym N.so_far) (record {
          replaced = record {
            placed = g2;
            set = one_set;
            codes = codes_set;
            keys = λ i. ap (λ (rs : List Segment). key_of d.types (row_at rs i)) rows_set ∙ key_stays d.types (rows_of g) w.number row.bytes within own_key i ∙ R.keys i;
            positions = positions_set;
          };
          own_is = path_set;
          room = room_left d x part (rows_of f) w rest row row_as code_here many_here room_here memory_here to y I;
          memory = memory_left d x part (rows_of f) w rest row row_as code_here many_here room_here memory_here to y I kept still;
        })

-- Rows that one call gives other bytes, and of which some move.
use Rattle.std.proofs.Common.{◌≡◌, ℕ, ◌+◌, ◌<◌, ◌≤◌, List, [], ◌∷◌, ◌++◌, length, Bool, true, false, ◌&&◌, ◌||◌, ◌==◌, cond, refl, sym, ap, subst, ◌∙◌, arith, inl, inr, ne_eqb}
use Rattle.std.specs.Prelude.{map, filter, slice_index, slice_set}
use Rattle.std.specs.List.{list_any}
use Rattle.std.proofs.lemmas.Bool.{cases_Bool, cases_eq, cases_lt, eq-eqb, eqb-true, ltb-false, cond-false, false≢true}
use Rattle.std.proofs.lemmas.List.{length-append, length-map, length-set, get_or-set_other, get_or_past}
use Rattle.std.proofs.lemmas.List.Elements.{filter-append}
use Rattle.std.proofs.lemmas.List.Folds.{list_any-append}
use Rattle.hd_dbd.specs.Types.{SegmentType}
use Rattle.hd_dbd.specs.Hierarchy.{Database}
use Rattle.hd_dbd.specs.Segment.{Segment}
use Rattle.hd_dbd.specs.Rows.{key_of}
use Rattle.hd_dbd.specs.Paths.{no_row, row_at}
use Rattle.hd_dbd.specs.Prefixes.{size_with}
use Rattle.hd_dbd.specs.Forest.{Forest, sequence}
use Rattle.hd_calls.specs.Moves.{Rewrite, rewritten, rewrite_rows}
use Rattle.hd_calls.specs.Runs.{is_longer, lengthens, row_with, rows_stored}
use Rattle.hd_volume.specs.Headers.{Header}
use Rattle.hd_volume.specs.Volumes.{VolumeState}
use Rattle.hd_volume.specs.Rooms.{spare}
use Rattle.hd_links.specs.Links.{Links, segment_at}
use Rattle.hd_links.specs.Placed.{Placed}
use Rattle.hd_links.specs.Changes.{with_bytes, CanReplace}
use Rattle.hd_links.specs.Moves.{moved_to, with_address}
use Rattle.hd_links.specs.Steps.{rows_of, addresses, address_at, RowsHaveAddresses}
use Rattle.hd_links.proofs.Moving.{rows_same, address_to}
use Rattle.hd_links.proofs.Numbers.{rows_addressed, rows_length}
use Rattle.hd_links.proofs.RowChanges.{bytes_in}
use Rattle.hd_image.specs.Records.{links_of}
use Rattle.hd_image.specs.Holding.{root_entries, HoldsPlaced}
use Rattle.hd_forest.specs.Walks.{tip}
use Rattle.hd_forest.specs.Replacing.{IsRowSet}
use Rattle.hd_forest.proofs.RowsSet.{at-own}
use Rattle.hd_index.specs.Maps as map
use Rattle.hd_index.specs.Changes.{entries_for}
use Rattle.hd_changes.specs.Entered.{HoldsWith, IsEntered}
use Rattle.hd_changes.specs.SetRows.{KeepsEntry, SetRowIsHeld, SetRootIsHeld, AreSet, SettingBegins, SettingGoesOn, SettingFollows}
use Rattle.hd_changes.proofs.SetEntries.{entries-stay, entries-set, entries-with}
use Rattle.hd_changes.proofs.Volumes.{rest-stays, held, entered, index-changes}
use Rattle.hd_changes.proofs.VolumeImages.{follow}

-- ---- one row

-- the forest, with the entries that it had
pub with-entries : (d : Database) (v w : VolumeState) (f : Forest Placed) (path : List ℕ) (row : Segment) (to : ℕ) → HoldsPlaced d v f → IsRowSet d v path row to w
    → HoldsWith d w (with_address (tip path) to (with_bytes (tip path) row.bytes f)) (root_entries d.types f)
with-entries d v w f path row to H I =
    rest-stays d v w f (with_address (tip path) to (with_bytes (tip path) row.bytes f)) (root_entries d.types f) (entered d v f H) I.volume I.room.rest (I.forest f H.records)

pub set-row-held : SetRowIsHeld
set-row-held d v w f path row to H can I keeps =
    held d w (with_address (tip path) to (with_bytes (tip path) row.bytes f)) (root_entries d.types f) (with-entries d v w f path row to H I)
    (sym (entries-with d v f H (tip path) to row.bytes can ∙ entries-stay d v f H (tip path) to keeps))

pub set-root-held : SetRootIsHeld
set-root-held d v w x f path row to H can I code E =
    let g : Forest Placed = with_address (tip path) to (with_bytes (tip path) row.bytes f) in
    let W : HoldsWith d w g (root_entries d.types f) = with-entries d v w f path row to H I in
    held d x g _ (index-changes d w x g (root_entries d.types f) _ 0 W E)
    (ap (map.with_address (key_of d.types (segment_at (links_of d.types v) (tip path))) to) W.entries
    ∙ sym (entries-with d v f H (tip path) to row.bytes can ∙ entries-set d v f H (tip path) to can.there code))

-- ---- rows that are rewritten

-- one more at the end
pub rewrite-more : (ws : List Rewrite) (w : Rewrite) (rows : List Segment)
    → rewrite_rows (ws ++ w ∷ []) rows ≡ slice_set (rewrite_rows ws rows) w.number (record { code = (row_at (rewrite_rows ws rows) w.number).code; bytes = w.bytes })
rewrite-more [] w rows = refl
rewrite-more (v ∷ ws) w rows = rewrite-more ws w (slice_set rows v.number (record { code = (row_at rows v.number).code; bytes = v.bytes }))

-- as many rows
pub rewrite-length : (ws : List Rewrite) (rows : List Segment) → length (rewrite_rows ws rows) ≡ length rows
rewrite-length [] rows = refl
rewrite-length (w ∷ ws) rows = rewrite-length ws (slice_set rows w.number _) ∙ length-set rows w.number _

-- a row that is not among them stays
pub rewrite-other : (ws : List Rewrite) (rows : List Segment) (i : ℕ) → list_any (λ z. z.number == i) ws ≡ false → row_at (rewrite_rows ws rows) i ≡ row_at rows i
rewrite-other [] rows i none = refl
rewrite-other (w ∷ ws) rows i none = elim (cases_Bool (w.number == i)) [
  | inl e ↦ absurd (let is : (true || list_any (λ z. z.number == i) ws) ≡ false = ap (λ (k : Bool). k || list_any (λ z. z.number == i) ws) (sym e) ∙ none in false≢true (sym is))
  | inr e ↦ rewrite-other ws (slice_set rows w.number _) i (ap (λ (k : Bool). k || list_any (λ z. z.number == i) ws) (sym e) ∙ none)
      ∙ get_or-set_other rows w.number i _ no_row (λ q. false≢true (sym e ∙ eq-eqb w.number i (sym q)))
]

-- of two tests of which none holds neither does
neither : (a b : Bool) → (a || b) ≡ false → (a ≡ false) × (b ≡ false)
neither true b e = absurd (false≢true (sym e))
neither false b e = (refl, e)

or-none : (a : Bool) → (a || false) ≡ a
or-none true = refl
or-none false = refl

-- ---- more than one

pub setting-begins : SettingBegins
setting-begins d v f H = record { held = H; holds = H; rows = refl; places = λ i _. refl; version = refl; largest = refl; spares = omega arith }

-- fewer bytes take no more room
pub no-more-room : (types : List SegmentType) (c n k : ℕ) → n ≤ k → size_with types c n ≤ size_with types c k
no-more-room types c n k low = omega arith

module _ (d : Database) (v w x : VolumeState) (f g : Forest Placed) (ws : List Rewrite) (i : ℕ) (path : List ℕ) (row : Segment) (to : ℕ) (W : AreSet d v f ws w g)
    (within : i < length (rows_of g)) (at : tip path ≡ address_at g i) (new : list_any (λ z. z.number == i) ws ≡ false) (code : row.code ≡ (links_of d.types w).code (tip path))
    (can : CanReplace d.types (links_of d.types w) (tip path) row.bytes) (I : IsRowSet d w path row to x) where
  abbrev a : ℕ
  a = tip path

  abbrev one : Rewrite
  one = record { number = i; bytes = row.bytes }

  abbrev m : Links
  m = links_of d.types w

  A : RowsHaveAddresses (links_of d.types w) g
  A = rows_addressed d.types (links_of d.types w) g W.holds.records

  -- the row as it was before the call
  own : segment_at (links_of d.types w) (tip path) ≡ row_at (rows_of f) i
  own = ap (segment_at m) at ∙ A.same i within ∙ ap (λ (rows : List Segment). row_at rows i) W.rows ∙ rewrite-other ws (rows_of f) i new

  -- if it is not made longer it stays
  short-stays : is_longer (rows_of f) one ≡ false → to ≡ a
  short-stays short =
      let few : length row.bytes ≤ length (row_at (rows_of f) i).bytes = ltb-false (length (row_at (rows_of f) i).bytes) (length row.bytes) short in
      let bytes : length (m.bytes a) ≡ length (row_at (rows_of f) i).bytes = ap (λ (s : Segment). length s.bytes) own in
      I.room.stays (subst (λ (c : ℕ). size_with d.types c (length row.bytes) ≤ size_with d.types (m.code a) (length (m.bytes a))) (sym code)
      (no-more-room d.types (m.code a) (length row.bytes) (length (m.bytes a)) (omega arith)))

  both : (rows_of (with_bytes (tip path) row.bytes g) ≡ slice_set (rows_of g) i (record { code = (row_at (rows_of g) i).code; bytes = row.bytes }))
      × (addresses (with_bytes (tip path) row.bytes g) ≡ addresses g)
  both =
      subst (λ (b : ℕ). (rows_of (with_bytes b row.bytes g) ≡ slice_set (rows_of g) i (record { code = (row_at (rows_of g) i).code; bytes = row.bytes })) × (addresses (with_bytes b row.bytes g) ≡ addresses g))
      (sym at) (bytes_in d.types (links_of d.types w) g i row.bytes W.holds.records within)

  rows-set : rows_of (with_address (tip path) to (with_bytes (tip path) row.bytes g)) ≡ rewrite_rows (ws ++ record { number = i; bytes = row.bytes } ∷ []) (rows_of f)
  rows-set =
      rows_same a to (with_bytes a row.bytes g) ∙ both.0
      ∙ ap (λ (rows : List Segment). slice_set rows i (record { code = (row_at rows i).code; bytes = row.bytes })) W.rows ∙ sym (rewrite-more ws one (rows_of f))

  -- each other row stays
  places-set : (j : ℕ) → lengthens (rows_of f) (ws ++ record { number = i; bytes = row.bytes } ∷ []) j ≡ false
      → address_at (with_address (tip path) to (with_bytes (tip path) row.bytes g)) j ≡ address_at f j
  places-set j none =
      let parts = neither (lengthens (rows_of f) ws j) (lengthens (rows_of f) (one ∷ []) j) (sym (list_any-append _ ws (one ∷ [])) ∙ none) in
      let last : (i == j && is_longer (rows_of f) one) ≡ false = sym (or-none (i == j && is_longer (rows_of f) one)) ∙ parts.1 in
      let some : 0 < a = can.there.some in
      address_to a to some (with_bytes a row.bytes g) j ∙ ap (λ (xs : List ℕ). moved_to a to (slice_index xs j)) both.1 ∙ stays last ∙ W.places j parts.0
    where
      stays : (i == j && is_longer (rows_of f) (record { number = i; bytes = row.bytes })) ≡ false → moved_to (tip path) to (address_at g j) ≡ address_at g j
      stays last = elim (cases_eq (address_at g j) (tip path)) [
        | inl e ↦
            (let inside : j < length (rows_of g) = elim (cases_lt j (length (rows_of g))) [
              | inl l ↦ l
              | inr past ↦ absurd
                  (let none : address_at g j ≡ 0 = get_or_past (addresses g) j 0 (let same = rows_length g in let len = length-map (sequence g) (λ (p : Placed). p.address) in omega arith) in
                  let some = can.there.some in omega arith)
            ] in
            let same : i ≡ j = A.once i j within inside (sym at ∙ sym e) in
            let short : is_longer (rows_of f) one ≡ false = ap (λ (k : Bool). k && is_longer (rows_of f) one) (sym (eq-eqb i j same)) ∙ last in
            ap (λ (b : ℕ). moved_to (tip path) b (address_at g j)) (short-stays short) ∙ at-own (address_at g j == tip path) (tip path) (address_at g j) (eqb-true (address_at g j) (tip path)))
        | inr ne ↦ cond-false (address_at g j == tip path) to (address_at g j) (ne_eqb (address_at g j) (tip path) ne)
      ]

  -- one block more is taken at most, for a row that is made longer
  room-set : spare v ≤ spare x + length (rows_stored (rows_of f) (rewritten (ws ++ record { number = i; bytes = row.bytes } ∷ [])))
  room-set =
      let stored = λ (zs : List Rewrite). length (map (λ z. row_with (rows_of f) z) (filter (λ z. is_longer (rows_of f) z) zs)) in
      let all : stored (ws ++ one ∷ []) ≡ stored ws + stored (one ∷ []) =
      many (ws ++ one ∷ []) ∙ ap length (filter-append (λ z. is_longer (rows_of f) z) ws (one ∷ []))
      ∙ length-append (filter (λ z. is_longer (rows_of f) z) ws) (filter (λ z. is_longer (rows_of f) z) (one ∷ [])) ∙ sym (sum (many ws) (many (one ∷ []))) in
      let before = W.spares in
      elim (cases_Bool (is_longer (rows_of f) one)) [
        | inl long ↦
            (let more : stored (one ∷ []) ≡ 1 = ap (λ (k : Bool). length (map (λ z. row_with (rows_of f) z) (cond k (one ∷ []) []))) long in
            let taken = I.room.spares in omega arith)
        | inr short ↦ (let same = (I.room.in_place (short-stays short)).0 in omega arith)
      ]
    where
      many : (zs : List Rewrite) → length (map (λ z. row_with (rows_of f) z) (filter (λ z. is_longer (rows_of f) z) zs)) ≡ length (filter (λ z. is_longer (rows_of f) z) zs)
      many zs = length-map (filter (λ z. is_longer (rows_of f) z) zs) (λ z. row_with (rows_of f) z)

      sum : {a b c e : ℕ} → a ≡ c → b ≡ e → a + b ≡ c + e
      sum p q = omega arith

  pub set-stays : KeepsEntry d w path to → AreSet d v f (ws ++ record { number = i; bytes = row.bytes } ∷ []) x (with_address (tip path) to (with_bytes (tip path) row.bytes g))
  set-stays keeps = record {
    held = W.held;
    holds = set-row-held d w x g path row to W.holds can I keeps;
    rows = rows-set;
    places = places-set;
    version = ap (λ (z : Header). z.version) I.room.rest.header ∙ W.version;
    largest = ap (λ (z : Header). z.largest) I.room.rest.header ∙ W.largest;
    spares = room-set;
  }

  pub set-root : (y : VolumeState) → (links_of d.types w).code (tip path) ≡ 1
      → IsEntered d x (map.with_address (key_of d.types (segment_at (links_of d.types w) (tip path))) to (entries_for d x)) 0 y → spare y ≡ spare x
      → AreSet d v f (ws ++ record { number = i; bytes = row.bytes } ∷ []) y (with_address (tip path) to (with_bytes (tip path) row.bytes g))
  set-root y code E same = record {
    held = W.held;
    holds = set-root-held d w x y g path row to W.holds can I code E;
    rows = rows-set;
    places = places-set;
    version = ap (λ (z : Header). z.version) E.change.header ∙ ap (λ (z : Header). z.version) I.room.rest.header ∙ W.version;
    largest = ap (λ (z : Header). z.largest) E.change.header ∙ ap (λ (z : Header). z.largest) I.room.rest.header ∙ W.largest;
    spares = subst (λ (n : ℕ). spare v ≤ n + length (rows_stored (rows_of f) (rewritten (ws ++ record { number = i; bytes = row.bytes } ∷ [])))) (sym same) room-set;
  }

pub setting-goes-on : SettingGoesOn
setting-goes-on d v w x f g ws i path row to W within at new code can I =
    (set-stays d v w x f g ws i path row to W within at new code can I, set-root d v w x f g ws i path row to W within at new code can I)

pub setting-follows : SettingFollows
setting-follows d v w f g ws W =
    follow d v w f g (rewritten ws) W.held W.holds W.largest (let room = W.spares in omega arith) (
      length-map (sequence g) (λ (p : Placed). p.address) ∙ sym (rows_length g) ∙ ap length W.rows ∙ rewrite-length ws (rows_of f) ∙ rows_length f
          ∙ sym (length-map (sequence f) (λ (p : Placed). p.address)),
      W.places,
    )

-- What a load does in a state.
use Rattle.std.proofs.Common.{◌≡◌, ℕ, zero, suc, ◌+◌, ◌-◌, ◌<◌, ◌≤◌, List, [], ◌∷◌, ◌++◌, length, take, drop, IsTrue, true, false, Ok, Option, None, refl, ap, ap₂, sym, ◌∙◌, subst, arith, inl, inr}
use Rattle.std.specs.Prelude.{map, slice_get, slice_index, slice_set, unwrap_or}
use Rattle.std.specs.Option.{option_map_or}
use Rattle.std.proofs.lemmas.Bool.{cases_Bool}
use Rattle.std.proofs.lemmas.List.{length-append, length-map}
use Rattle.hd_dbd.specs.Types.{SegmentType, View}
use Rattle.hd_dbd.specs.declared.answer.LoadFault.{LoadFault}
use Rattle.hd_dbd.specs.declared.answer.Status.TheVariants.{Blank}
use Rattle.hd_dbd.specs.Hierarchy.{Database, parent_of, level_of}
use Rattle.hd_dbd.specs.Segment.{Segment}
use Rattle.hd_dbd.specs.Rows.{level, row_fits}
use Rattle.hd_dbd.specs.Forest.{Forest, sequence}
use Rattle.hd_dbd.specs.Loads.{last_path, load_fault, status_of_load}
use Rattle.hd_dbd.specs.Positions.{Position}
use Rattle.hd_dbd.specs.Views.{Setting}
use Rattle.hd_dbd.specs.Calls.{row_reply}
use Rattle.hd_dbd.proofs.LevelLaw.{leveled}
use Rattle.hd_calls.specs.Moves.{inserted, put_in, position_after_insert}
use Rattle.hd_calls.specs.Steps.{State, bare_answer, position_at, onto_new, insert_at, load_step}
use Rattle.hd_calls.specs.Runs.{Follows}
use Rattle.hd_volume.specs.Volumes.{VolumeState}
use Rattle.hd_volume.specs.Calls.{IsRead}
use Rattle.hd_links.specs.Links.{Links, is_child_type}
use Rattle.hd_links.specs.Placed.{Placed}
use Rattle.hd_links.specs.Changes.{with_leaf}
use Rattle.hd_links.specs.LastRows.{last_on, segments_of, parent_on_path, twin_on_path, IsLoadedLast}
use Rattle.hd_links.specs.Steps.{rows_of, addresses, address_at}
use Rattle.hd_links.proofs.LastPath.{loaded}
use Rattle.hd_links.proofs.Numbers.{map_end, rows_length, rows_addressed}
use Rattle.hd_links.proofs.Types.{ordered}
use Rattle.hd_image.specs.Records.{links_of}
use Rattle.hd_image.specs.Holding.{HoldsPlaced}
use Rattle.hd_index.specs.Changes.{IsLater}
use Rattle.hd_index.proofs.ChangeLemmas.{later-same}
use Rattle.hd_image.proofs.Found.{records-link}
use Rattle.hd_image.proofs.Roots.{header-child}
use Rattle.hd_forest.specs.Rows.{IsOnRow}
use Rattle.hd_forest.proofs.Reading.{after-read}
use Rattle.hd_changes.specs.VolumeImages.{images_of}
use Rattle.hd_changes.proofs.NewPaths.{insertions}
use Rattle.hd_changes.proofs.RootTypes.{root-parent}
use Rattle.hd_position.specs.Inserts.{StandsOnNew}
use Rattle.hd_position.specs.Kept.{Kept, StandsFor, path_before}
use Rattle.hd_position.specs.Laws.{MovesUp}
use Rattle.hd_position.proofs.LastPlaces.{last_paths}
use Rattle.hd_get.specs.declared.outcome.Outcome.TheVariants.{Found}
use Rattle.hd_update.specs.Loading.{last_parent}
use Rattle.hd_update.specs.Putting.{MayPut, IsPutIn}
use Rattle.hd_update.specs.States.{StandForAll, Represents, IsAnswered, kept_of}
use Rattle.hd_update.proofs.Answering.{answered_as}
use Rattle.hd_update.proofs.Reading.{held_read, later_read}
use Rattle.hd_update.proofs.Standing.{own_stands}

-- ---- where a row goes in

-- a row that may be loaded comes last
pub comes_last : (d : Database) (v : VolumeState) (f : Forest Placed) (row : Segment) (a : ℕ) → HoldsPlaced d v f → row_fits d.types row ≡ true
    → load_fault d.types (segments_of (last_on f)) row ≡ None → (links_of d.types v).here a ≡ false
    → IsLoadedLast d.types (links_of d.types v) f (parent_on_path d.types (last_on f) row) (twin_on_path d.types (last_on f) row) (record { address = a; segment = row })
comes_last d v f row a H fits may free =
    loaded d.types (ordered d.block_size d.frspc d.types H.volume.fit) (leveled d.block_size d.frspc d.types H.volume.fit) (length v.image) (links_of d.types v)
    (records-link d v H.volume.fit H.volume) f H.records (record { address = a; segment = row }) fits may free (parent_of d.types row.code) refl

-- so it may be put in there
pub may_put : (d : Database) (v : VolumeState) (f : Forest Placed) (row : Segment) (h y : ℕ) → HoldsPlaced d v f → IsLater v → row_fits d.types row ≡ true
    → load_fault d.types (segments_of (last_on f)) row ≡ None → h ≡ parent_on_path d.types (last_on f) row → y ≡ twin_on_path d.types (last_on f) row → MayPut d v h y row
may_put d v f row h y H later fits may parent twin =
    subst (λ (x : ℕ). MayPut d v x y row) (sym parent)
    (subst (λ (x : ℕ). MayPut d v (parent_on_path d.types (last_on f) row) x row) (sym twin)
    (record { later = later; placed = f; holds = H; may = λ a free. (comes_last d v f row a H fits may free).may }))

got_or : (ps : List Placed) (n : ℕ) → unwrap_or (slice_get (map (λ (p : Placed). p.address) ps) n) 0 ≡ option_map_or (λ q. q.address) (slice_get ps n) 0
got_or [] n = refl
got_or (p ∷ ps) zero = refl
got_or (p ∷ ps) (suc n) = got_or ps n

-- its parent, by addresses of the path
pub parent_is : (types : List SegmentType) (path : List ℕ) (ps : List Placed) (row : Segment) → path ≡ map (λ (p : Placed). p.address) ps → last_parent types path row.code ≡ parent_on_path types ps row
parent_is types path ps row is =
    ap (λ (x : ℕ). option_map_or (λ _. x) (parent_of types row.code) 0)
    (ap (λ (xs : List ℕ). unwrap_or (slice_get xs (level_of types row.code - 2)) 0) is ∙ got_or ps (level_of types row.code - 2))

-- ---- the number at which it goes in

at_put : (xs : List ℕ) (n a : ℕ) → n ≤ length xs → slice_index (take n xs ++ a ∷ drop n xs) n ≡ a
at_put [] zero a within = refl
at_put [] (suc n) a within = absurd (omega arith)
at_put (x ∷ xs) zero a within = refl
at_put (x ∷ xs) (suc n) a within = at_put xs n a (omega arith)

at_end : (xs : List ℕ) (a : ℕ) → slice_index (xs ++ a ∷ []) (length xs) ≡ a
at_end [] a = refl
at_end (x ∷ xs) a = at_end xs a

-- ---- all PCBs

module _ (types : List SegmentType) (f g : Forest Placed) (b : Position → Position) (moves : (k : Kept) (q : Position) → StandsFor types f k q → StandsFor types g k (b q)) where
  all_stay : (ks : List Kept) (qs : List Position) → StandForAll types f ks qs → StandForAll types g ks (map b qs)
  all_stay [] [] S = tt
  all_stay [] (q ∷ qs) S = absurd S
  all_stay (k ∷ ks) [] S = absurd S
  all_stay (k ∷ ks) (q ∷ qs) S = (moves k q S.0, all_stay ks qs S.1)

  -- one takes a place of its own, the others move
  pub one_goes : (ks : List Kept) (qs : List Position) (n : ℕ) (k : Kept) (q : Position) → StandForAll types f ks qs → n < length ks → StandsFor types g k q
      → StandForAll types g (slice_set ks n k) (slice_set (map b qs) n q)
  one_goes [] qs n k q S within stands = absurd (omega arith)
  one_goes (k2 ∷ ks) [] n k q S within stands = absurd S
  one_goes (k2 ∷ ks) (q2 ∷ qs) zero k q S within stands = (stands, all_stay ks qs S.1)
  one_goes (k2 ∷ ks) (q2 ∷ qs) (suc n) k q S within stands = (moves k2 q2 S.0, one_goes ks qs n k q S.1 (omega arith) stands)

-- ---- a row that went in

module _ (d : Database) (v : VolumeState) (f : Forest Placed) (path : List ℕ) (row : Segment) (is : path ≡ map (λ (p : Placed). p.address) (last_on f)) (fits : row_fits d.types row ≡ true)
    (may : load_fault d.types (segments_of (last_on f)) row ≡ None) (a : ℕ) (w : VolumeState)
    (P : IsPutIn d v f (parent_on_path d.types (last_on f) row) (twin_on_path d.types (last_on f) row) row a w) where
  abbrev p : Placed
  p = record { address = a; segment = row }

  abbrev g : Forest Placed
  g = with_leaf (parent_on_path d.types (last_on f) row) (twin_on_path d.types (last_on f) row) p f

  abbrev N : ℕ
  N = length (rows_of f)

  last : IsLoadedLast d.types (links_of d.types v) f (parent_on_path d.types (last_on f) row) (twin_on_path d.types (last_on f) row) p
  last = comes_last d v f row a P.is_in.held fits may P.free

  places : addresses g ≡ addresses f ++ a ∷ []
  places = ap (λ (ps : List Placed). map (λ (q : Placed). q.address) ps) last.rows ∙ map_end (λ (q : Placed). q.address) (sequence f) p

  as_many : length (addresses f) ≡ N
  as_many = length-map (sequence f) (λ (q : Placed). q.address) ∙ sym (rows_length f)

  longer : length (rows_of g) ≡ suc N
  longer =
      (let all : length (rows_of g) ≡ length (sequence g) = rows_length g in
      let own : length (rows_of f) ≡ length (sequence f) = rows_length f in
      let more : length (sequence g) ≡ length (sequence f) + 1 = ap (λ (ps : List Placed). length ps) last.rows ∙ length-append (sequence f) (p ∷ []) in
      omega arith)

  -- it goes in behind all rows
  number_is : P.number ≡ N
  number_is =
      let low : P.number ≤ N = P.goes_in.within in
      let size : length (addresses f) ≡ N = as_many in
      let here : address_at g P.number ≡ a = ap (λ (xs : List ℕ). slice_index xs P.number) P.goes_in.places ∙ at_put (addresses f) P.number a (omega arith) in
      let there : address_at g N ≡ a = ap₂ (λ (xs : List ℕ) (n : ℕ). slice_index xs n) places (sym as_many) ∙ at_end (addresses f) a in
      let many : length (rows_of g) ≡ suc N = longer in
      (rows_addressed d.types (links_of d.types w) g P.is_in.holds.records).once P.number N (omega arith) (omega arith) (here ∙ sym there)

  pub rows_grown : rows_of g ≡ put_in N (row ∷ []) (rows_of f)
  rows_grown = P.is_in.rows ∙ ap (λ (n : ℕ). put_in n (row ∷ []) (rows_of f)) number_is

  pub moves_up : MovesUp d.types f g N
  moves_up = subst (MovesUp d.types f g) number_is P.moves

  pub image_follows : Follows (images_of d) (rows_of f) v.image (inserted N (row ∷ [])) (rows_of g) w.image
  image_follows = subst (λ (n : ℕ). Follows (images_of d) (rows_of f) v.image (inserted n (row ∷ [])) (rows_of g) w.image) number_is (insertions d v w f g P.number [] p P.is_in)

  -- its path is its parent's, and itself
  pub on_new : (own : List ℕ) → own ≡ take (level d.types row - 1) path ++ a ∷ [] → IsOnRow d.types (links_of d.types w) g own N
  on_new own own_is =
      let many : length (rows_of g) ≡ suc N = longer in
      record {
        holds = P.is_in.holds.records;
        within = omega arith;
        is =
            own_is
            ∙ ap (λ (xs : List ℕ). take (level d.types row - 1) xs ++ a ∷ []) is
            ∙ ap (λ (xs : List ℕ). xs ++ a ∷ []) (taken (level d.types row - 1) (last_on f))
            ∙ sym (map_end (λ (q : Placed). q.address) (take (level d.types row - 1) (last_on f)) p)
            ∙ ap (λ (ps : List Placed). map (λ (q : Placed). q.address) ps) (sym last.last)
            ∙ sym (last_paths d w g P.is_in.holds.volume P.is_in.holds.records).0
            ∙ ap (path_before d.types g) longer;
      }
    where
      taken : (n : ℕ) (ps : List Placed) → take n (map (λ (q : Placed). q.address) ps) ≡ map (λ (q : Placed). q.address) (take n ps)
      taken zero ps = refl
      taken (suc n) [] = refl
      taken (suc n) (q ∷ ps) = ap (λ (xs : List ℕ). q.address ∷ xs) (taken n ps)

-- ---- the answer

module _ (d : Database) (pcb : View) (v : VolumeState) (old : List Kept) (st : State) (number : ℕ) (R : Represents d v old st) (some : 0 < number) (within : number ≤ length old)
    (path : List ℕ) (row : Segment) (is : path ≡ map (λ (p : Placed). p.address) (last_on R.placed)) (fits : row_fits d.types row ≡ true)
    (may : load_fault d.types (segments_of (last_on R.placed)) row ≡ None) (a : ℕ) (w : VolumeState)
    (P : IsPutIn d v R.placed (parent_on_path d.types (last_on R.placed) row) (twin_on_path d.types (last_on R.placed) row) row a w) where
  abbrev f : Forest Placed
  f = R.placed

  abbrev grown : Forest Placed
  grown = with_leaf (parent_on_path d.types (last_on R.placed) row) (twin_on_path d.types (last_on R.placed) row) (record { address = a; segment = row }) R.placed

  abbrev before : ℕ
  before = length (rows_of f)

  rows_are : rows_of grown ≡ put_in before (row ∷ []) (rows_of f)
  rows_are = rows_grown d v f path row is fits may a w P

  moves : MovesUp d.types f grown before
  moves = moves_up d v f path row is fits may a w P

  follows : Follows (images_of d) (rows_of f) v.image (inserted before (row ∷ [])) (rows_of grown) w.image
  follows = image_follows d v f path row is fits may a w P

  abbrev own_at : Position
  own_at = position_at st number

  abbrev after : List Segment
  after = put_in before (row ∷ []) (rows_of f)

  abbrev new_at : Position
  new_at = onto_new d.types after (position_after_insert before 1 own_at) (before + 1 - 1)

  -- the PCB stands on it
  new_stands : (k : Kept) (own : List ℕ) → own ≡ take (level d.types row - 1) path ++ a ∷ [] → StandsOnNew d.types (links_of d.types w) (kept_of old number) own k → StandsFor d.types grown k new_at
  new_stands k own own_is S =
      subst (λ (n : ℕ). StandsFor d.types grown k (onto_new d.types after (position_after_insert before 1 own_at) n)) (let e : before ≡ before + 1 - 1 = omega arith in e)
      (subst (λ (rows : List Segment). StandsFor d.types grown k (onto_new d.types rows (position_after_insert before 1 own_at) before)) rows_are
      (S grown (position_after_insert before 1 own_at) before (record { holds = P.is_in.holds.records; stands = moves.positions (kept_of old number) own_at (own_stands d v old st number R some within) }) (on_new d v f path row is fits may a w P own own_is)))

  abbrev setting : Setting
  setting = record { types = d.types; pcb = pcb }

  abbrev IsInsertedAt : VolumeState → List Kept → List Segment → Type 0
  IsInsertedAt x new rows =
      IsAnswered d v (record { rows = rows; positions = st.positions }) number (insert_at setting rows own_at (row ∷ []) (length rows)) (Found Blank) x new

  at_own_rows : {A : Type 0} {r : A} (x : VolumeState) (k : Kept) (own : List ℕ) → own ≡ take (level d.types row - 1) path ++ a ∷ [] → IsRead {T = A} w (Ok r) x → IsTrue w.is_sound
      → StandsOnNew d.types (links_of d.types w) (kept_of old number) own k → IsInsertedAt x (slice_set old (number - 1) k) (rows_of f)
  at_own_rows x k own own_is read sound S = record {
    reply = row_reply setting after (before + 1 - 1) Blank [];
    change = inserted before (row ∷ []);
    own = new_at;
    is = refl;
    outcome_is = (refl, refl);
    represents = record {
      later = later_read d w x read sound (later-same v w P.is_in.version R.later);
      placed = grown;
      holds = held_read d w x read sound grown P.is_in.holds;
      rows = rows_are;
      positions =
          one_goes d.types f grown (position_after_insert before 1) moves.positions old st.positions (number - 1) k new_at R.positions (omega arith) (new_stands k own own_is S);
    };
    follows =
        subst (λ (rows : List Segment). Follows (images_of d) (rows_of f) v.image (inserted before (row ∷ [])) rows x.image) rows_are
        (subst (λ (z : List ℕ). Follows (images_of d) (rows_of f) v.image (inserted before (row ∷ [])) (rows_of grown) z) (sym (after-read d w x read sound).image) follows);
  }

  -- the row was loaded
  pub row_loaded : {A : Type 0} {r : A} (x : VolumeState) (k : Kept) (own : List ℕ) → own ≡ take (level d.types row - 1) path ++ a ∷ [] → IsRead {T = A} w (Ok r) x → IsTrue w.is_sound
      → StandsOnNew d.types (links_of d.types w) (kept_of old number) own k
      → IsAnswered d v st number (load_step setting st.rows own_at row) (Found Blank) x (slice_set old (number - 1) k)
  row_loaded x k own own_is read sound S =
      answered_as d v st number (insert_at setting st.rows own_at (row ∷ []) (length st.rows)) (load_step setting st.rows own_at row) (Found Blank) x (slice_set old (number - 1) k)
      (ap (λ (o : Option LoadFault). option_map_or (λ fault. bare_answer own_at (status_of_load fault)) o (insert_at setting st.rows own_at (row ∷ []) (length st.rows)))
      (ap (λ (rows : List Segment). load_fault d.types (last_path d.types rows) row) (sym R.rows)
      ∙ ap (λ (ps : List Segment). load_fault d.types ps row) (sym (last_paths d v f R.holds.volume R.holds.records).1) ∙ may))
      (subst (IsInsertedAt x (slice_set old (number - 1) k)) R.rows (at_own_rows x k own own_is read sound S))

  -- the same, where the place that the PCB had is known by an equation
  pub row_loaded_from : {A : Type 0} {r : A} (x : VolumeState) (k k0 : Kept) (own : List ℕ) → own ≡ take (level d.types row - 1) path ++ a ∷ [] → IsRead {T = A} w (Ok r) x → IsTrue w.is_sound
      → StandsOnNew d.types (links_of d.types w) k0 own k → k0 ≡ kept_of old number
      → IsAnswered d v st number (load_step setting st.rows own_at row) (Found Blank) x (slice_set old (number - 1) k)
  row_loaded_from x k k0 own own_is read sound S at = row_loaded x k own own_is read sound (subst (λ (z : Kept). StandsOnNew d.types (links_of d.types w) z own k) at S)

-- ---- roots, and rows below others

-- a root has no parent
pub root_parent_none : (d : Database) (v : VolumeState) (f : Forest Placed) (path : List ℕ) (code : ℕ) → HoldsPlaced d v f → code ≡ 1 → last_parent d.types path code ≡ 0
root_parent_none d v f path code H is =
    ap (λ (o : Option ℕ). option_map_or (λ _. unwrap_or (slice_get path (level_of d.types code - 2)) 0) o 0)
    (ap (parent_of d.types) is ∙ root-parent d.block_size d.frspc d.types H.volume.fit)

-- another row has one
pub parent_there : (d : Database) (v : VolumeState) (f : Forest Placed) (row : Segment) → HoldsPlaced d v f → row_fits d.types row ≡ true
    → load_fault d.types (segments_of (last_on f)) row ≡ None → (row.code ≡ 1 → ⊥) → parent_on_path d.types (last_on f) row ≡ 0 → ⊥
parent_there d v f row H fits may dependent none =
    let m : Links = links_of d.types v in
    let E = comes_last d v f row (suc (length v.image)) H fits may (past_all d v f H) in
    dependent (header-child d.types v row.code (ap (λ (b : ℕ). is_child_type d.types (m.code b) row.code) (sym none) ∙ E.may.typed))
  where
    past_all : (d : Database) (v : VolumeState) (f : Forest Placed) → HoldsPlaced d v f → (links_of d.types v).here (suc (length v.image)) ≡ false
    past_all d v f H = elim (cases_Bool ((links_of d.types v).here (suc (length v.image)))) [
      | inl here ↦
          (let low : suc (length v.image) < length v.image = (records-link d v H.volume.fit H.volume).below (suc (length v.image)) (record { some = omega arith; here = here }) in
          absurd (omega arith))
      | inr free ↦ free
    ]

-- What an insertion does in a state.
use Rattle.std.proofs.Common.{◌≡◌, ℕ, ◌+◌, ◌-◌, ◌<◌, ◌≤◌, List, [], ◌∷◌, ◌++◌, length, IsTrue, Ok, Option, Some, None, refl, ap, sym, ◌∙◌, subst, arith}
use Rattle.std.specs.Prelude.{map, slice_index_or, slice_set}
use Rattle.std.specs.Option.{option_map_or}
use Rattle.std.proofs.lemmas.List.{length-map, take_all}
use Rattle.hd_dbd.specs.Types.{View}
use Rattle.hd_dbd.specs.declared.answer.Status.TheVariants.{Blank}
use Rattle.hd_dbd.specs.Hierarchy.{Database}
use Rattle.hd_dbd.specs.Segment.{Segment}
use Rattle.hd_dbd.specs.Rows.{level}
use Rattle.hd_dbd.specs.Paths.{no_row, level_at, nearest_above, parent_row, path_of}
use Rattle.hd_dbd.specs.Positions.{Position}
use Rattle.hd_dbd.specs.Views.{Setting}
use Rattle.hd_dbd.specs.Calls.{row_reply}
use Rattle.hd_dbd.specs.Forest.{Forest, sequence}
use Rattle.hd_calls.specs.Moves.{inserted, put_in, position_after_insert}
use Rattle.hd_calls.specs.Runs.{Follows}
use Rattle.hd_calls.specs.Steps.{State, position_at, onto_new, insert_at}
use Rattle.hd_calls.proofs.Moving.{length-put_in}
use Rattle.hd_volume.specs.Volumes.{VolumeState}
use Rattle.hd_volume.specs.Calls.{IsRead}
use Rattle.hd_links.specs.Placed.{Placed}
use Rattle.hd_links.specs.LastRows.{segments_of}
use Rattle.hd_links.specs.Steps.{rows_of, addresses, address_at, path_at}
use Rattle.hd_links.proofs.Numbers.{rows_length}
use Rattle.hd_image.specs.Records.{links_of}
use Rattle.hd_forest.specs.Rows.{IsOnRow}
use Rattle.hd_forest.specs.Walks.{tip}
use Rattle.hd_forest.proofs.Reading.{after-read}
use Rattle.hd_index.proofs.ChangeLemmas.{later-same}
use Rattle.hd_changes.specs.VolumeImages.{images_of}
use Rattle.hd_changes.proofs.NewPaths.{insertions}
use Rattle.hd_position.specs.Inserts.{StandsOnNew}
use Rattle.hd_position.specs.Kept.{Kept, StandsFor}
use Rattle.hd_get.specs.declared.outcome.Outcome.TheVariants.{Found}
use Rattle.hd_update.specs.Inserting.{IsPlaceFor, FirstGoesInAt, parent_among}
use Rattle.hd_update.specs.NewRows.{ArePutIn, places_of}
use Rattle.hd_update.specs.Places.{IsPathOfParent}
use Rattle.hd_update.specs.States.{Represents, IsAnswered, kept_of}
use Rattle.hd_update.proofs.InsertedPaths.{put_first, put_new, path_new, parent_path}
use Rattle.hd_update.proofs.LoadedStates.{one_goes}
use Rattle.hd_update.proofs.Reading.{held_read, later_read}
use Rattle.hd_update.proofs.Standing.{own_stands}

-- ---- rows that went in

module _ (d : Database) (v : VolumeState) (f : Forest Placed) (above : List ℕ) (y : ℕ) (rows : List Segment) (own : List ℕ) (w : VolumeState) (A : ArePutIn d v f (tip above) y above rows own w) (parent : Option ℕ) (n : ℕ)
    (P : IsPlaceFor d v f above y rows parent n) where
  abbrev g : Forest Placed
  g = A.are.placed

  abbrev new : List Placed
  new = A.front ++ A.last ∷ []

  abbrev places : List ℕ
  places = places_of new

  -- at the place that was asked
  pub number_at : A.number ≡ n
  number_at = at_first rows (ap segments_of (sym A.begins) ∙ A.rows_are) P.at
    where
      at_first : (rs : List Segment) → A.first.segment ∷ segments_of A.others ≡ rs → FirstGoesInAt d.types f (tip above) y rs n → A.number ≡ n
      at_first rs is goes = (subst (λ (xs : List Segment). FirstGoesInAt d.types f (tip above) y xs n) (sym is) goes) A.first.address A.number A.goes_in

  pub rows_grown : rows_of g ≡ put_in n rows (rows_of f)
  rows_grown = A.are.is_in.rows ∙ ap (λ (m : ℕ). put_in m (segments_of new) (rows_of f)) number_at ∙ ap (λ (rs : List Segment). put_in n rs (rows_of f)) A.rows_are

  addresses_grown : addresses g ≡ put_in n places (addresses f)
  addresses_grown = A.are.is_in.places ∙ ap (λ (m : ℕ). put_in m places (addresses f)) number_at

  pub within : n ≤ length (rows_of f)
  within = subst (λ (m : ℕ). m ≤ length (rows_of f)) number_at A.are.is_in.within

  as_many : length (addresses f) ≡ length (rows_of f)
  as_many = length-map (sequence f) (λ (q : Placed). q.address) ∙ sym (rows_length f)

  low_addresses : n ≤ length (addresses f)
  low_addresses = (let low : n ≤ length (rows_of f) = within in let size : length (addresses f) ≡ length (rows_of f) = as_many in omega arith)

  pub many : length new ≡ length rows
  many = sym (length-map new (λ (q : Placed). q.segment)) ∙ ap (λ (rs : List Segment). length rs) A.rows_are

  many_places : length places ≡ length rows
  many_places = length-map new (λ (q : Placed). q.address) ∙ many

  pub some : 0 < length rows
  some = (let all : length new ≡ length (A.first ∷ A.others) = ap (λ (ps : List Placed). length ps) A.begins in let size : length new ≡ length rows = many in omega arith)

  pub longer : length (rows_of g) ≡ length (rows_of f) + length rows
  longer = ap (λ (rs : List Segment). length rs) rows_grown ∙ length-put_in n rows (rows_of f)

  -- before the place all is as it was
  levels_stay : (k : ℕ) → k < n → level_at d.types (rows_of g) k ≡ level_at d.types (rows_of f) k
  levels_stay k low = ap (λ (rs : List Segment). level_at d.types rs k) rows_grown ∙ ap (λ (r : Segment). level d.types r) (put_first n rows (rows_of f) no_row within k low)

  addresses_stay : (k : ℕ) → k < n → address_at g k ≡ address_at f k
  addresses_stay k low = ap (λ (as_ : List ℕ). slice_index_or as_ k 0) addresses_grown ∙ put_first n places (addresses f) 0 low_addresses k low

  new_addresses : (i : ℕ) → i < length places → address_at g (n + i) ≡ slice_index_or places i 0
  new_addresses i low = ap (λ (as_ : List ℕ). slice_index_or as_ (n + i) 0) addresses_grown ∙ put_new n places (addresses f) 0 low_addresses i low

  stands : (i : ℕ) → i < length places → parent_row d.types (rows_of g) (n + i) ≡ parent_among parent n i
  stands i low =
      ap (λ (rs : List Segment). parent_row d.types rs (n + i)) rows_grown
      ∙ P.stand i (let size : length places ≡ length rows = many_places in omega arith)

  parent_up : option_map_or (λ q. map (λ k. address_at g k) (path_of d.types (rows_of g) q)) parent [] ≡ above
  parent_up = by parent refl P.path
    where
      by : (o : Option ℕ) → parent ≡ o → IsPathOfParent d.types f o above → option_map_or (λ q. map (λ k. address_at g k) (path_of d.types (rows_of g) q)) o [] ≡ above
      by None is path = sym path
      by (Some q) is path =
          let first : 0 < length places = (let size : length places ≡ length rows = many_places in let one : 0 < length rows = some in omega arith) in
          let here : n + 0 ≡ n = omega arith in
          parent_path d.types (rows_of g) (rows_of f) (λ k. address_at g k) (λ k. address_at f k) n (level_at d.types (rows_of g) (n + 0)) q
          (ap (λ (m : ℕ). nearest_above d.types (rows_of g) (level_at d.types (rows_of g) (n + 0)) m) (sym here) ∙ stands 0 first ∙ is) levels_stay addresses_stay
          ∙ sym path.1

  -- the path of the last
  pub on_last : IsOnRow d.types (links_of d.types w) g own (n + length rows - 1)
  on_last =
      let one : 0 < length rows = some in
      let size : length places ≡ length rows = many_places in
      let low : n ≤ length (rows_of f) = within in
      let all : length (rows_of g) ≡ length (rows_of f) + length rows = longer in
      let i : ℕ = length rows - 1 in
      let at : n + i ≡ n + length rows - 1 = omega arith in
      let last : i < length places = omega arith in
      record {
        holds = A.are.is_in.holds.records;
        within = omega arith;
        is =
            A.path_is
            ∙ ap (λ (xs : List ℕ). above ++ xs) (sym (take_all (i + 1) places (omega arith)))
            ∙ sym (path_new d.types (rows_of g) (λ k. address_at g k) n places above parent stands new_addresses parent_up i last)
            ∙ ap (path_at d.types g) at;
      }

-- ---- the answer

module _ (d : Database) (pcb : View) (v : VolumeState) (old : List Kept) (st : State) (number : ℕ) (R : Represents d v old st) (some_pcb : 0 < number) (there : number ≤ length old)
    (above : List ℕ) (y : ℕ) (rows : List Segment) (own : List ℕ) (w : VolumeState) (A : ArePutIn d v R.placed (tip above) y above rows own w) (parent : Option ℕ) (n : ℕ)
    (P : IsPlaceFor d v R.placed above y rows parent n) where
  abbrev f : Forest Placed
  f = R.placed

  abbrev grown : Forest Placed
  grown = A.are.placed

  abbrev own_at : Position
  own_at = position_at st number

  abbrev after : List Segment
  after = put_in n rows (rows_of f)

  abbrev setting : Setting
  setting = record { types = d.types; pcb = pcb }

  abbrev moved : Position → Position
  moved q = position_after_insert n (length rows) q

  abbrev new_at : Position
  new_at = onto_new d.types after (moved own_at) (n + length rows - 1)

  moves : (k : Kept) (q : Position) → StandsFor d.types f k q → StandsFor d.types grown k (moved q)
  moves k q stands =
      subst (λ (m : ℕ). StandsFor d.types grown k (position_after_insert n m q)) (many d v f above y rows own w A parent n P)
      (subst (λ (m : ℕ). StandsFor d.types grown k (position_after_insert m (length (A.front ++ A.last ∷ [])) q)) (number_at d v f above y rows own w A parent n P) (A.are.positions k q stands))

  new_stands : (k : Kept) → StandsOnNew d.types (links_of d.types w) (kept_of old number) own k → StandsFor d.types grown k new_at
  new_stands k S =
      subst (λ (rs : List Segment). StandsFor d.types grown k (onto_new d.types rs (moved own_at) (n + length rows - 1))) (rows_grown d v f above y rows own w A parent n P)
      (S grown (moved own_at) (n + length rows - 1) (record { holds = A.are.is_in.holds.records; stands = moves (kept_of old number) own_at (own_stands d v old st number R some_pcb there) })
      (on_last d v f above y rows own w A parent n P))

  follows : Follows (images_of d) (rows_of f) v.image (inserted n rows) (rows_of grown) w.image
  follows =
      subst (λ (rs : List Segment). Follows (images_of d) (rows_of f) v.image (inserted n rs) (rows_of grown) w.image) A.rows_are
      (subst (λ (m : ℕ). Follows (images_of d) (rows_of f) v.image (inserted m (segments_of (A.front ++ A.last ∷ []))) (rows_of grown) w.image) (number_at d v f above y rows own w A parent n P)
      (insertions d v w f grown A.number A.front A.last A.are.is_in))

  abbrev IsInsertedIn : VolumeState → List Kept → List Segment → Type 0
  IsInsertedIn x kept all = IsAnswered d v (record { rows = all; positions = st.positions }) number (insert_at setting all own_at rows n) (Found Blank) x kept

  in_own_rows : {B : Type 0} {r : B} (x : VolumeState) (k : Kept) → IsRead {T = B} w (Ok r) x → IsTrue w.is_sound → StandsOnNew d.types (links_of d.types w) (kept_of old number) own k
      → IsInsertedIn x (slice_set old (number - 1) k) (rows_of f)
  in_own_rows x k read sound S = record {
    reply = row_reply setting after (n + length rows - 1) Blank [];
    change = inserted n rows;
    own = new_at;
    is = refl;
    outcome_is = (refl, refl);
    represents = record {
      later = later_read d w x read sound (later-same v w A.are.is_in.version R.later);
      placed = grown;
      holds = held_read d w x read sound grown A.are.is_in.holds;
      rows = rows_grown d v f above y rows own w A parent n P;
      positions = one_goes d.types f grown moved moves old st.positions (number - 1) k new_at R.positions (omega arith) (new_stands k S);
    };
    follows =
        subst (λ (rs : List Segment). Follows (images_of d) (rows_of f) v.image (inserted n rows) rs x.image) (rows_grown d v f above y rows own w A parent n P)
        (subst (λ (z : List ℕ). Follows (images_of d) (rows_of f) v.image (inserted n rows) (rows_of grown) z) (sym (after-read d w x read sound).image) follows);
  }

  -- the rows went in
  pub rows_inserted : {B : Type 0} {r : B} (x : VolumeState) (k : Kept) → IsRead {T = B} w (Ok r) x → IsTrue w.is_sound → StandsOnNew d.types (links_of d.types w) (kept_of old number) own k
      → IsInsertedIn x (slice_set old (number - 1) k) st.rows
  rows_inserted x k read sound S = subst (IsInsertedIn x (slice_set old (number - 1) k)) R.rows (in_own_rows x k read sound S)

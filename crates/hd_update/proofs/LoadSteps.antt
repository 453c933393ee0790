-- What ISRT of one row does in a state of a PCB that loads.
use Rattle.std.proofs.Common.{◌≡◌, ℕ, ◌-◌, ◌<◌, ◌≤◌, List, [], ◌∷◌, ◌++◌, length, drop, true, false, Option, Some, None, Result, IsTrue, Ok, Err, refl, ap, ap₂, sym, ◌∙◌, subst}
use Rattle.std.specs.Prelude.{slice_index_or}
use Rattle.std.specs.Option.{option_map_or}
use Rattle.std.proofs.lemmas.Bool.{cond-true}
use Rattle.std.proofs.lemmas.List.{append-nil}
use Rattle.hd_dbd.specs.Types.{SegmentType, View}
use Rattle.hd_dbd.specs.declared.answer.Status.{Status}
use Rattle.hd_dbd.specs.declared.answer.Status.TheVariants.{V1}
use Rattle.hd_dbd.specs.declared.answer.LoadFault.{LoadFault}
use Rattle.hd_dbd.specs.declared.answer.LoadFault.TheVariants.{LB, LC, LD, LE}
use Rattle.hd_dbd.specs.Hierarchy.{Database}
use Rattle.hd_dbd.specs.Segment.{Segment}
use Rattle.hd_dbd.specs.Rows.{row_fits}
use Rattle.hd_dbd.specs.Loads.{last_path, load_fault, status_of_load}
use Rattle.hd_dbd.specs.Positions.{Position}
use Rattle.hd_dbd.specs.Views.{Setting}
use Rattle.hd_dbd.specs.Calls.{Reply, bare}
use Rattle.hd_dbd.specs.Forest.{Forest}
use Rattle.hd_calls.specs.declared.call.AreaFault.{AreaFault}
use Rattle.hd_calls.specs.declared.call.AreaFault.TheVariants.{Length, Bytes}
use Rattle.hd_calls.specs.Ssas.{Ssa}
use Rattle.hd_calls.specs.Gets.{unheld}
use Rattle.hd_calls.specs.Moves.{Change, unchanged}
use Rattle.hd_calls.specs.NoLostUpdate.{is_done}
use Rattle.hd_calls.specs.Steps.{State, Effect, answered, wrong_area, bare_answer, position_at, new_row, with_parts, new_rows, insert_at, insert_or_load, load_step}
use Rattle.hd_calls.specs.Runs.{LacksRoom, has_root}
use Rattle.hd_calls.proofs.Areas.{IsCut, cut, nothing_left, part_in_front, new_row_fits}
use Rattle.hd_changes.specs.VolumeImages.{images_of}
use Rattle.hd_volume.specs.Volumes.{VolumeState}
use Rattle.hd_volume.specs.Calls.{IsRead}
use Rattle.hd_links.specs.Placed.{Placed}
use Rattle.hd_links.specs.Steps.{rows_of}
use Rattle.hd_position.specs.Kept.{Kept, path_before}
use Rattle.hd_position.proofs.LastPlaces.{last_paths}
use Rattle.hd_get.specs.declared.outcome.Outcome.TheVariants.{Missing}
use Rattle.hd_update.specs.Inserting.{insert_effect}
use Rattle.hd_update.specs.Loading.{HasPassedAll, InsertsOne, HasLastPath, IsLastPath, IsLoadFault}
use Rattle.hd_update.specs.NewRows.{parts_in, are_rows_in}
use Rattle.hd_update.specs.Positions.{unheld_at}
use Rattle.hd_update.specs.States.{Represents, IsAnswered, LacksRoomFor}
use Rattle.hd_update.proofs.Answering.{answered_as, bare_answered}
use Rattle.hd_update.proofs.LastPaths.{one_forest}
use Rattle.hd_update.proofs.RowsIn.{parts_there}
use Rattle.hd_update.proofs.Standing.{own_position}

-- ---- the area

true_false : true ≡ false → ⊥
true_false e = cc

-- The area is one row of the type, which fits.
pub record IsOneRow (types : List SegmentType) (code : ℕ) (area : List ℕ) : Type 0 where
  pub parts : parts_in types (code ∷ []) area ≡ Ok (area ∷ [])
  pub fits : row_fits types (record { code = code; bytes = area }) ≡ true

one_part : (types : List SegmentType) (code : ℕ) (area : List ℕ) (parts : List (List ℕ)) → parts_in types (code ∷ []) area ≡ Ok parts → IsOneRow types code area
one_part types code area parts is =
    let own : IsCut types (new_row code) [] area parts = cut types (new_row code) [] area parts is in
    let none = nothing_left types (drop (length own.bytes) area) own.others own.rest in
    let whole : own.bytes ≡ area
    = sym (append-nil own.bytes) ∙ ap (λ (xs : List ℕ). own.bytes ++ xs) (sym none.0) ∙ part_in_front types (new_row code) area own.bytes own.here in
    record {
      parts = is ∙ ap Ok (own.are ∙ ap₂ (λ (xs : List ℕ) (ps : List (List ℕ)). xs ∷ ps) whole none.1);
      fits = ap (λ (xs : List ℕ). row_fits types (record { code = code; bytes = xs })) (sym whole) ∙ new_row_fits types code area own.bytes own.here;
    }

-- where it has no fault
pub one_row : (types : List SegmentType) (code : ℕ) (area : List ℕ) → are_rows_in types (code ∷ []) area ≡ true → IsOneRow types code area
one_row types code area are = (let parts = parts_there types (code ∷ []) area are in one_part types code area parts.0 parts.1)

-- ---- the effect

module _ (d : Database) (code : ℕ) (area : List ℕ) (pcb : View) (ssas : List Ssa) (I : InsertsOne pcb ssas code) (st : State) (number : ℕ) where
  abbrev setting : Setting
  setting = record { types = d.types; pcb = pcb }

  abbrev row : Segment
  row = record { code = code; bytes = area }

  abbrev p : Position
  p = position_at st number

  abbrev by_parts : List ℕ → Result (List (List ℕ)) AreaFault → Effect
  by_parts codes r = with_parts p r (λ parts. insert_or_load setting st.rows p ssas (new_rows codes parts))

  by_type : (r : Result (List (List ℕ)) AreaFault) → parts_in d.types (code ∷ []) area ≡ r → insert_effect d pcb number ssas area st ≡ by_parts (code ∷ []) r
  by_type r is = ap (λ (codes : List ℕ). by_parts codes (parts_in d.types codes area)) I.1 ∙ ap (by_parts (code ∷ [])) is

  -- of an area that is one row
  pub loads_row : IsOneRow d.types code area → insert_effect d pcb number ssas area st ≡ load_step setting st.rows p row
  loads_row one = by_type (Ok (area ∷ [])) one.parts ∙ cond-true _ _ _ I.0

  -- of one of which bytes lack or are left over
  pub loads_none : parts_in d.types (code ∷ []) area ≡ Err Bytes → insert_effect d pcb number ssas area st ≡ wrong_area
  loads_none is = by_type (Err Bytes) is

  -- of one with a row of a wrong length
  pub row_wrong : parts_in d.types (code ∷ []) area ≡ Err Length → insert_effect d pcb number ssas area st ≡ bare_answer p V1
  row_wrong is = by_type (Err Length) is

-- ---- the path of the last row

-- a PCB that has passed all rows keeps it
pub path_kept : (d : Database) (v : VolumeState) (kept : List Kept) (number : ℕ) (k : Kept) (path : List ℕ) → 0 < number → number ≤ length kept → HasPassedAll d v kept number
    → path ≡ (slice_index_or kept (number - 1) k).path → HasLastPath d v path
path_kept d v kept number k path some within has same sound =
    let T = has sound in
    let R = T.1 in
    let at = own_position d v kept T.0 number R some within sound k in
    let all : (position_at T.0 number).passed ≡ length (rows_of R.placed) = T.2 ∙ ap (λ (rows : List Segment). length rows) (sym R.rows) in (
      R.placed,
      record {
        sound = sound;
        later = R.later;
        holds = R.holds;
        is = same ∙ at.stands.path ∙ ap (path_before d.types R.placed) all ∙ (last_paths d v R.placed R.holds.volume R.holds.records).0;
      },
    )

-- what is said of it is said of the rows of any state
pub fault_in : (d : Database) (v : VolumeState) (kept : List Kept) (st : State) (path : List ℕ) (row : Segment) (r : Option LoadFault) → HasLastPath d v path → IsLoadFault d v path row r
    → IsTrue v.is_sound → Represents d v kept st → load_fault d.types (last_path d.types st.rows) row ≡ r
fault_in d v kept st path row r has is sound R =
    let T = has sound in
    let L : IsLastPath d v path R.placed = subst (λ (f : Forest Placed). IsLastPath d v path f) (one_forest d v T.0 R.placed T.1.holds R.holds) T.1 in
    sym (is R.placed L
    ∙ ap (λ (ps : List Segment). load_fault d.types ps row) ((last_paths d v R.placed R.holds.volume R.holds.records).1 ∙ ap (λ (rows : List Segment). last_path d.types rows) R.rows))

-- ---- the answer of a fault

-- it loads no row
fault_undone : (fault : LoadFault) → is_done (status_of_load fault) ≡ false
fault_undone LB = refl
fault_undone LC = refl
fault_undone LD = refl
fault_undone LE = refl

-- what a row comes to that may not be loaded
pub fault_answered : {A : Type 0} {x : A} (d : Database) (pcb : View) (v w : VolumeState) (old : List Kept) (st : State) (number : ℕ) (row : Segment) (fault : LoadFault)
    → IsRead {T = A} v (Ok x) w → IsTrue v.is_sound → Represents d v old st → 0 < number → number ≤ length old → load_fault d.types (last_path d.types st.rows) row ≡ Some fault
    → IsAnswered d v st number (load_step (record { types = d.types; pcb = pcb }) st.rows (position_at st number) row) (Missing (status_of_load fault)) w (unheld_at number old)
fault_answered d pcb v w old st number row fault read sound R some within is =
    let s : Setting = record { types = d.types; pcb = pcb } in
    let p : Position = position_at st number in
    answered_as d v st number (bare_answer p (status_of_load fault)) (load_step s st.rows p row) (Missing (status_of_load fault)) w (unheld_at number old)
    (ap (λ (o : Option LoadFault). option_map_or (λ fault. bare_answer p (status_of_load fault)) o (insert_at s st.rows p (row ∷ []) (length st.rows))) is)
    (bare_answered d v w old st number (status_of_load fault) read sound R some within (fault_undone fault))

-- ---- a row that went in

no_area : (reply : Reply) (change : Change) (own : Position) → wrong_area ≡ answered reply change own → ⊥
no_area reply change own e = cc

one_reply : (r s : Reply) (c b : Change) (p q : Position) → answered r c p ≡ answered s b q → r ≡ s
one_reply r s c b p q e = cc

-- what a load answers: the row that went in, or a status alone
pub record LoadAnswers (loaded behind : Effect) (reply : Reply) : Type 0 where
  pub found : is_done reply.status ≡ true → loaded ≡ behind
  pub missed : is_done reply.status ≡ false → reply ≡ bare reply.status

module _ (d : Database) (code : ℕ) (area : List ℕ) (pcb : View) (ssas : List Ssa) (I : InsertsOne pcb ssas code) (st : State) (number : ℕ) (reply : Reply) (change : Change) (own : Position) where
  abbrev into : Setting
  into = record { types = d.types; pcb = pcb }

  abbrev loaded : Segment
  loaded = record { code = code; bytes = area }

  abbrev behind : Effect
  behind = insert_at into st.rows (position_at st number) (loaded ∷ []) (length st.rows)

  abbrev by_fault : Option LoadFault → Effect
  by_fault o = option_map_or (λ fault. bare_answer (position_at st number) (status_of_load fault)) o behind

  -- a status that changes nothing
  misses : (status : Status) → is_done status ≡ false → bare_answer (position_at st number) status ≡ answered reply change own → LoadAnswers (bare_answer (position_at st number) status) behind reply
  misses status none e =
      let same : bare status ≡ reply = one_reply (bare status) reply unchanged change (unheld (position_at st number)) own e in
      record {
        found = λ done. absurd (true_false (sym done ∙ ap (λ (r : Reply). is_done r.status) (sym same) ∙ none));
        missed = λ _. sym same ∙ ap (λ (r : Reply). bare r.status) same;
      }

  answers_by : (o : Option LoadFault) → by_fault o ≡ answered reply change own → LoadAnswers (by_fault o) behind reply
  answers_by None e = record {
    found = λ _. refl;
    missed = λ none. absurd (true_false (sym (ap (λ (r : Reply). is_done r.status) (sym (one_reply _ reply _ change _ own e))) ∙ none));
  }
  answers_by (Some fault) e = misses (status_of_load fault) (fault_undone fault) e

  pub load_answers : insert_effect d pcb number ssas area st ≡ answered reply change own → LoadAnswers (insert_effect d pcb number ssas area st) behind reply
  load_answers is = by (parts_in d.types (code ∷ []) area) refl
    where
      as_effect : (e : Effect) → insert_effect d pcb number ssas area st ≡ e → (e ≡ answered reply change own → LoadAnswers e behind reply) → LoadAnswers (insert_effect d pcb number ssas area st) behind reply
      as_effect e same answers = subst (λ (x : Effect). LoadAnswers x behind reply) (sym same) (answers (sym same ∙ is))

      by : (r : Result (List (List ℕ)) AreaFault) → parts_in d.types (code ∷ []) area ≡ r → LoadAnswers (insert_effect d pcb number ssas area st) behind reply
      by (Ok parts) parts_are =
          as_effect (by_fault (load_fault d.types (last_path d.types st.rows) loaded)) (loads_row d code area pcb ssas I st number (one_part d.types code area parts parts_are))
          (answers_by (load_fault d.types (last_path d.types st.rows) loaded))
      by (Err Length) fault = as_effect (bare_answer (position_at st number) V1) (row_wrong d code area pcb ssas I st number fault) (misses V1 refl)
      by (Err Bytes) fault = as_effect wrong_area (loads_none d code area pcb ssas I st number fault) (λ wrong. absurd (no_area reply change own wrong))

-- ---- no room

-- a row that may be loaded, and lacks room, is what the load would put in
pub load_lacks : (d : Database) (pcb : View) (number code : ℕ) (ssas : List Ssa) (area : List ℕ) (v : VolumeState) (st : State) → InsertsOne pcb ssas code
    → IsOneRow d.types code area → load_fault d.types (last_path d.types st.rows) (record { code = code; bytes = area }) ≡ None
    → LacksRoom (images_of d) d.types v.image (record { code = code; bytes = area } ∷ []) (has_root (record { code = code; bytes = area } ∷ []))
    → LacksRoomFor d v st.rows (insert_effect d pcb number ssas area st)
load_lacks d pcb number code ssas area v st I one none lacks =
    let s : Setting = record { types = d.types; pcb = pcb } in
    let p : Position = position_at st number in
    let row : Segment = record { code = code; bytes = area } in
    record {
      reply = _;
      change = _;
      own = _;
      is =
          loads_row d code area pcb ssas I st number one
          ∙ ap (λ (o : Option LoadFault). option_map_or (λ fault. bare_answer p (status_of_load fault)) o (insert_at s st.rows p (row ∷ []) (length st.rows))) none;
      blank = refl;
      lacks = lacks;
    }

-- What a call comes to, by its effect.
use Rattle.std.proofs.Common.{◌≡◌, ℕ, ◌<◌, ◌≤◌, List, [], length, Bool, true, false, IsTrue, Ok, refl, ap, sym, ◌∙◌, subst, arith}
use Rattle.std.specs.List.{list_all}
use Rattle.std.proofs.lemmas.Bool.{cond-true, cond-false}
use Rattle.hd_dbd.specs.Types.{View}
use Rattle.hd_dbd.specs.Hierarchy.{Database}
use Rattle.hd_dbd.specs.Segment.{Segment}
use Rattle.hd_dbd.specs.Paths.{end_of}
use Rattle.hd_dbd.specs.Positions.{Position}
use Rattle.hd_dbd.specs.Calls.{Reply, bare, row_reply}
use Rattle.hd_dbd.specs.declared.answer.Status.{Status}
use Rattle.hd_dbd.specs.declared.answer.Status.TheVariants.{Blank, DA}
use Rattle.hd_dbd.specs.Forest.{Forest}
use Rattle.hd_calls.specs.Gets.{unheld}
use Rattle.hd_calls.specs.Moves.{Change, unchanged, deleted, rewritten, Rewrite, rows_after, position_after, position_after_rewrite}
use Rattle.hd_calls.specs.Steps.{Effect, answered, bare_answer, State, state_after, position_at, keeps_key, lowest, replace_rows, delete_row}
use Rattle.hd_calls.specs.Runs.{Follows, LacksRoom, rows_stored, inserts_root}
use Rattle.hd_calls.specs.NoLostUpdate.{is_done}
use Rattle.hd_volume.specs.Volumes.{VolumeState}
use Rattle.hd_volume.specs.Calls.{IsRead}
use Rattle.hd_links.specs.Placed.{Placed}
use Rattle.hd_links.specs.Changes.{without_span}
use Rattle.hd_links.specs.Steps.{rows_of}
use Rattle.hd_image.specs.Holding.{HoldsPlaced}
use Rattle.hd_forest.proofs.Reading.{after-read}
use Rattle.hd_index.proofs.ChangeLemmas.{later-same, later-image}
use Rattle.hd_changes.specs.VolumeImages.{images_of}
use Rattle.hd_changes.proofs.VolumeImages.{follow}
use Rattle.hd_changes.proofs.SetRows.{setting-follows}
use Rattle.hd_forest.specs.Walks.{tip, parent_on}
use Rattle.hd_position.specs.Kept.{Kept, path_before, without_row}
use Rattle.hd_get.specs.declared.outcome.Outcome.{Outcome}
use Rattle.hd_get.specs.declared.outcome.Outcome.TheVariants.{Found, Missing}
use Rattle.hd_update.specs.Positions.{after_rewrites, all_after_rewrites, all_without_row, unheld_at}
use Rattle.hd_update.specs.Replacing.{AreReplaced}
use Rattle.hd_update.specs.Deleting.{IsTakenOut}
use Rattle.hd_update.specs.States.{Represents, IsAnswered, LacksRoomFor, StoresSome}
use Rattle.hd_update.specs.declared.replaced.ReplacedRow.{ReplacedRow}
use Rattle.hd_update.proofs.Reading.{held_read, later_read}
use Rattle.hd_update.proofs.Standing.{all_moved_unheld, stay_unheld}

-- ---- any effect

pub answered_as : (d : Database) (v : VolumeState) (st : State) (number : ℕ) (e e2 : Effect) (o : Outcome) (w : VolumeState) (kept : List Kept) → e2 ≡ e
    → IsAnswered d v st number e o w kept → IsAnswered d v st number e2 o w kept
answered_as d v st number e e2 o w kept same A = subst (λ (x : Effect). IsAnswered d v st number x o w kept) (sym same) A

-- an answer after calls that only read is one before them
pub answered_before : (d : Database) (v mid : VolumeState) (st : State) (number : ℕ) (e : Effect) (o : Outcome) (w : VolumeState) (kept : List Kept) → mid.image ≡ v.image
    → IsAnswered d mid st number e o w kept → IsAnswered d v st number e o w kept
answered_before d v mid st number e o w kept image A = record {
  reply = A.reply;
  change = A.change;
  own = A.own;
  is = A.is;
  outcome_is = A.outcome_is;
  represents = A.represents;
  follows = subst (λ (x : List ℕ). Follows (images_of d) st.rows x A.change (state_after d.types st number e).rows w.image) image A.follows;
}

-- what stands for a state still does after calls that only read
abbrev pub represented : {A : Type 0} {x : A} (d : Database) (u v : VolumeState) (kept : List Kept) (st : State) → IsRead {T = A} u (Ok x) v → IsTrue u.is_sound
    → Represents d u kept st → Represents d v kept st
represented d u v kept st read sound R =
    record { later = later_read d u v read sound R.later; placed = R.placed; holds = held_read d u v read sound R.placed R.holds; rows = R.rows; positions = R.positions }

-- room lacks after calls that only read where it lacked before them
pub lacks_before : (d : Database) (v mid : VolumeState) (rows : List Segment) (e e2 : Effect) → mid.image ≡ v.image → e2 ≡ e → LacksRoomFor d mid rows e → LacksRoomFor d v rows e2
lacks_before d v mid rows e e2 image same L = record {
  reply = L.reply;
  change = L.change;
  own = L.own;
  is = same ∙ L.is;
  blank = L.blank;
  lacks = subst (λ (x : List ℕ). LacksRoom (images_of d) d.types x (rows_stored rows L.change) (inserts_root L.change)) image L.lacks;
}

-- nor does what a change would store depend on them
pub stores_before : (rows : List Segment) (e e2 : Effect) → e2 ≡ e → StoresSome rows e → StoresSome rows e2
stores_before rows e e2 same S = record { reply = S.reply; change = S.change; own = S.own; is = same ∙ S.is; blank = S.blank; some = S.some }

-- nothing follows from nothing
same_follows : (d : Database) (v : VolumeState) (f : Forest Placed) (rows : List Segment) (image : List ℕ) → HoldsPlaced d v f → rows_of f ≡ rows → image ≡ v.image
    → Follows (images_of d) rows v.image unchanged rows image
same_follows d v f rows image holds is same =
    subst (λ (x : List ℕ). Follows (images_of d) rows v.image unchanged rows x) (sym same)
    (subst (λ (xs : List Segment). Follows (images_of d) xs v.image unchanged xs v.image) is (follow d v v f f unchanged holds holds refl (omega arith) refl))

-- a status that changes nothing, after calls that only read
pub bare_answered : {A : Type 0} {x : A} (d : Database) (v w : VolumeState) (old : List Kept) (st : State) (number : ℕ) (status : Status) → IsRead {T = A} v (Ok x) w → IsTrue v.is_sound
    → Represents d v old st → 0 < number → number ≤ length old → is_done status ≡ false
    → IsAnswered d v st number (bare_answer (position_at st number) status) (Missing status) w (unheld_at number old)
bare_answered d v w old st number status read sound R some within none = record {
  reply = bare status;
  change = unchanged;
  own = unheld (position_at st number);
  is = refl;
  outcome_is = (refl, none);
  represents = record {
    later = later_read d v w read sound R.later;
    placed = R.placed;
    holds = held_read d v w read sound R.placed R.holds;
    rows = R.rows;
    positions = stay_unheld d.types R.placed old st.positions number R.positions some within;
  };
  follows = same_follows d v R.placed st.rows w.image R.holds R.rows (after-read d v w read sound).image;
}

-- ---- REPL

-- the keys stay in the rows of the state
keys_in : (d : Database) (f : Forest Placed) (rows : List Segment) (ws : List Rewrite) (b : Bool) → rows_of f ≡ rows → b ≡ list_all (λ w. keeps_key d.types (rows_of f) w) ws
    → list_all (λ w. keeps_key d.types rows w) ws ≡ b
keys_in d f rows ws b is e = sym (e ∙ ap (λ (xs : List Segment). list_all (λ w. keeps_key d.types xs w) ws) is)

module _ (d : Database) (pcb : View) (v : VolumeState) (old : List Kept) (st : State) (number : ℕ) (ws : List Rewrite) (R : Represents d v old st) (some : 0 < number) (within : number ≤ length old) where
  abbrev effect : Effect
  effect = replace_rows (record { types = d.types; pcb = pcb }) st.rows (position_at st number) ws

  -- a key would change
  pub key_changes : {A : Type 0} {x : A} (w : VolumeState) → IsRead {T = A} v (Ok x) w → IsTrue v.is_sound → false ≡ list_all (λ w. keeps_key d.types (rows_of R.placed) w) ws
      → IsAnswered d v st number effect (Missing DA) w (unheld_at number old)
  key_changes w read sound keys =
      answered_as d v st number (bare_answer (position_at st number) DA) effect (Missing DA) w (unheld_at number old)
      (cond-false _ _ _ (keys_in d R.placed st.rows ws false R.rows keys))
      (bare_answered d v w old st number DA read sound R some within refl)

  -- the keys stay
  module _ (keys : true ≡ list_all (λ w. keeps_key d.types (rows_of R.placed) w) ws) where
    abbrev own : Position
    own = position_at st number

    abbrev reply : Reply
    reply = row_reply (record { types = d.types; pcb = pcb }) st.rows (lowest own.held) Blank []

    is_replaced : effect ≡ answered reply (rewritten ws) (unheld own)
    is_replaced = cond-true _ _ _ (keys_in d R.placed st.rows ws true R.rows keys)

    -- the rows have their new bytes
    pub rows_replaced : (mid w : VolumeState) (rows : List ReplacedRow) → mid.image ≡ v.image
        → AreReplaced d mid R.placed ws w rows → IsAnswered d v st number effect (Found Blank) w (unheld_at number (all_after_rewrites rows old))
    rows_replaced mid w rows image A =
        let after : rows_of A.placed ≡ rows_after (rewritten ws) st.rows = A.set.rows ∙ ap (rows_after (rewritten ws)) R.rows in
        answered_as d v st number (answered reply (rewritten ws) (unheld own)) effect (Found Blank) w (unheld_at number (all_after_rewrites rows old)) is_replaced
        (record {
          reply = reply;
          change = rewritten ws;
          own = unheld own;
          is = refl;
          outcome_is = (refl, refl);
          represents = record {
            later = later-same mid w A.set.version (later-image v mid image R.later);
            placed = A.placed;
            holds = A.set.holds;
            rows = after;
            positions = all_moved_unheld d.types R.placed A.placed (after_rewrites rows) (position_after_rewrite ws) A.positions old st.positions number R.positions some within;
          };
          follows =
              subst (λ (xs : List Segment). Follows (images_of d) st.rows v.image (rewritten ws) xs w.image) after
              (subst (λ (xs : List Segment). Follows (images_of d) xs v.image (rewritten ws) (rows_of A.placed) w.image) R.rows
              (subst (λ (x : List ℕ). Follows (images_of d) (rows_of R.placed) x (rewritten ws) (rows_of A.placed) w.image) image
              (setting-follows d mid w R.placed A.placed ws A.set)));
        })

    -- room lacks for them
    pub replace_lacks : LacksRoom (images_of d) d.types v.image (rows_stored (rows_of R.placed) (rewritten ws)) false → LacksRoomFor d v st.rows effect
    replace_lacks lacks = record {
      reply = reply;
      change = rewritten ws;
      own = unheld own;
      is = is_replaced;
      blank = refl;
      lacks = subst (λ (rows : List Segment). LacksRoom (images_of d) d.types v.image (rows_stored rows (rewritten ws)) false) R.rows lacks;
    }

    -- one is made longer
    pub replace_stores : 0 < length (rows_stored (rows_of R.placed) (rewritten ws)) → StoresSome st.rows effect
    replace_stores longer = record {
      reply = reply;
      change = rewritten ws;
      own = unheld own;
      is = is_replaced;
      blank = refl;
      some = subst (λ (rows : List Segment). 0 < length (rows_stored rows (rewritten ws))) R.rows longer;
    }

-- ---- DLET

module _ (d : Database) (pcb : View) (v : VolumeState) (old : List Kept) (st : State) (number i : ℕ) (R : Represents d v old st) (some : 0 < number) (within : number ≤ length old)
    (path : List ℕ) (mid w : VolumeState) (image : mid.image ≡ v.image) (T : IsTakenOut d mid R.placed path i w) where
  abbrev f : Forest Placed
  f = R.placed

  abbrev g : Forest Placed
  g = without_span (parent_on path) (tip path) R.placed

  abbrev own_at : Position
  own_at = position_at st number

  abbrev gone : List Segment → Change
  gone rows = deleted i (end_of d.types rows i)

  abbrev new : List Kept
  new = unheld_at number (all_without_row (tip path) (length path) (path_before d.types f i) old)

  abbrev IsAnsweredAt : List Segment → Type 0
  IsAnsweredAt rows =
      IsAnswered d v (record { rows = rows; positions = st.positions }) number (delete_row (record { types = d.types; pcb = pcb }) rows own_at i) (Found Blank) w new

  at_own_rows : IsAnsweredAt (rows_of f)
  at_own_rows = record {
    reply = row_reply (record { types = d.types; pcb = pcb }) (rows_of f) i Blank [];
    change = gone (rows_of f);
    own = unheld (position_after d.types (rows_of f) (gone (rows_of f)) own_at);
    is = refl;
    outcome_is = (refl, refl);
    represents = record {
      later = later-same mid w T.deleted.version (later-image v mid image R.later);
      placed = g;
      holds = T.deleted.holds;
      rows = T.deleted.rows;
      positions =
          all_moved_unheld d.types f g (without_row (tip path) (length path) (path_before d.types f i)) (position_after d.types (rows_of f) (gone (rows_of f))) T.moves old st.positions number R.positions
          some within;
    };
    follows =
        subst (λ (x : List ℕ). Follows (images_of d) (rows_of f) x (gone (rows_of f)) (rows_after (gone (rows_of f)) (rows_of f)) w.image) image
        (subst (λ (xs : List Segment). Follows (images_of d) (rows_of f) mid.image (gone (rows_of f)) xs w.image) T.deleted.rows T.deleted.follows);
  }

  -- the row left with its span
  pub row_deleted : IsAnsweredAt st.rows
  row_deleted = subst IsAnsweredAt R.rows at_own_rows

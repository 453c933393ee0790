-- Calls of a session one after another, and the log that they come to.
use Rattle.std.proofs.Common.{◌≡◌, ◌≢◌, ℕ, List, [], ◌∷◌, ◌++◌, length, false, Option, Some, Result, Ok, Err, IsTrue, ap, sym, ◌∙◌, subst, refl}
use Rattle.std.specs.Prelude.{IfSome}
use Rattle.std.proofs.lemmas.List.{length-map}
use Rattle.hd_dbd.specs.declared.answer.Refused.{Refused}
use Rattle.hd_dbd.specs.declared.answer.Refused.TheVariants as refused
use Rattle.hd_dbd.specs.Types.{SegmentType, View}
use Rattle.hd_dbd.specs.Hierarchy.{Database}
use Rattle.hd_dbd.specs.Logs.{Outcome, memory, Entry}
use Rattle.hd_calls.specs.Steps.{State}
use Rattle.hd_calls.specs.Runs.{Images, Holds, IsRun, effect_by, state_after_outcome, next_state, last_state, image_at, ImagesFollow}
use Rattle.hd_calls.specs.NoLostUpdate.{opened}
use Rattle.hd_volume.specs.Headers.{header_of}
use Rattle.hd_volume.specs.Volumes.{VolumeState}
use Rattle.hd_image.proofs.OneImage.{held-same}
use Rattle.hd_links.specs.Steps.{rows_of, addresses}
use Rattle.hd_changes.specs.VolumeImages.{images_of}
use Rattle.hd_changes.proofs.VolumeImages.{bytes-hold}
use Rattle.hd_position.specs.Kept.{Kept}
use Rattle.hd_update.specs.States.{Represents}
use Rattle.hd_session.specs.declared.call_and_answer.Answer.{Answer}
use Rattle.hd_session.specs.Buffer.{Buffer}
use Rattle.hd_session.specs.Opening.{SessionState, session_at_start}
use Rattle.hd_session.specs.Logged.{outcome_of, IsLogged}
use Rattle.hd_session.specs.Foretelling.{IsOnlyRead}
use Rattle.hd_session.specs.Turns.{Turn, turns_in, LackMemoryFairly, StaysWhole, IsTurnAnswered, IsFlushed, AreMade, entry_of}
use Rattle.hd_session.specs.Laws.{IsOpened, IsLegalLogOf, SessionsAnswer}

-- ---- one call

-- a session that has done nothing is whole
pub whole_none : (s : SessionState) → s.broken ≡ false → StaysWhole s s
whole_none s whole = record { database = refl; pcbs = refl; whole = whole; failures = refl; sound = refl; size = refl }

-- a volume that stands for a state holds its rows
pub holds_state : (d : Database) (v : VolumeState) (kept : List Kept) (st : State) → Represents d v kept st → Holds (images_of d) v.image st.rows
holds_state d v kept st r =
    (addresses r.placed, record { placed = r.placed; holds = bytes-hold d v r.placed r.holds; rows_are = r.rows; places_are = refl })

-- no call was made
pub made_none : (s : SessionState) (st : State) → s.broken ≡ false → Represents s.database s.volume s.kept st → AreMade s st [] [] s
made_none s st whole stands = record {
  asked = refl;
  begins = refl;
  runs = tt;
  follows = holds_state s.database s.volume s.kept st stands;
  lacking = tt;
  represents = stands;
  whole = whole_none s whole;
}

-- a call that came to want of memory was answered so
lacked : (result : Result Answer Refused) (io : Buffer) → outcome_of result io ≡ Some memory → result ≡ Err refused.Memory
lacked (Ok a) io is = cc
lacked (Err refused.Memory) io is = refl
lacked (Err refused.Full) io is = cc
lacked (Err refused.Device) io is = cc
lacked (Err refused.Broken) io is = cc
lacked (Err refused.Area) io is = cc

module _ (s t : SessionState) (turn : Turn) (io : Buffer) where
  -- a call that came to an outcome leaves the session whole
  pub turn_whole : (result : Result Answer Refused) (o : Outcome) → IsTurnAnswered s turn result io t → outcome_of result io ≡ Some o → StaysWhole s t
  turn_whole (Ok a) o made is = record {
    database = ap (λ (x : SessionState). x.database) made.same;
    pcbs = ap (λ (x : SessionState). x.pcbs) made.same;
    whole = ap (λ (x : SessionState). x.broken) made.same;
    failures = made.call.counts;
    sound = made.call.sound;
    size = made.call.size;
  }
  turn_whole (Err refused.Memory) o made is = record {
    database = ap (λ (x : SessionState). x.database) made.same;
    pcbs = ap (λ (x : SessionState). x.pcbs) made.same;
    whole = ap (λ (x : SessionState). x.broken) made.same;
    failures = made.call.counts;
    sound = made.call.sound;
    size = made.call.size;
  }
  turn_whole (Err refused.Full) o made is = record {
    database = ap (λ (x : SessionState). x.database) made.same;
    pcbs = ap (λ (x : SessionState). x.pcbs) made.same;
    whole = ap (λ (x : SessionState). x.broken) made.same;
    failures = made.call.counts;
    sound = made.call.sound;
    size = made.call.size;
  }
  turn_whole (Err refused.Device) o made is = cc
  turn_whole (Err refused.Broken) o made is = cc
  turn_whole (Err refused.Area) o made is = record {
    database = ap (λ (x : SessionState). x.database) made.same;
    pcbs = ap (λ (x : SessionState). x.pcbs) made.same;
    whole = ap (λ (x : SessionState). x.broken) made.same;
    failures = made.call.counts;
    sound = made.call.sound;
    size = made.call.size;
  }

  -- and it is made, as one entry
  pub made_one : (st : State) (result : Result Answer Refused) (o : Outcome) → IsTrue s.volume.is_sound → Represents s.database s.volume s.kept st → IsTurnAnswered s turn result io t
      → outcome_of result io ≡ Some o → AreMade s st (turn ∷ []) (entry_of s turn o ∷ []) t
  made_one st result o sound stands made is =
      let logged : IsLogged s.database s.pcbs s.volume st turn.pcb turn.call o t.volume t.kept =
      subst (λ (x : Option Outcome). IfSome x (λ p. IsLogged s.database s.pcbs s.volume st turn.pcb turn.call p t.volume t.kept)) is (made.logged st sound stands) in
      let after : State = state_after_outcome s.database.types st turn.pcb (effect_by s.database.types s.pcbs st turn.pcb turn.call) o in
      record {
        asked = refl;
        begins = refl;
        runs = (made.pcb.0, made.pcb.1, logged.may, tt);
        follows = (holds_state s.database s.volume s.kept st stands, logged.follows, holds_state s.database t.volume t.kept after logged.represents);
        lacking = ((λ lacks. made.memory (lacked result io (is ∙ ap Some lacks)) st sound stands), tt);
        represents = logged.represents;
        whole = turn_whole result o made is;
      }

-- ---- some calls, and then others

module _ {I : Type 0} where
  turns_in_append : (xs ys : List (Entry I)) → turns_in (xs ++ ys) ≡ turns_in xs ++ turns_in ys
  turns_in_append [] ys = refl
  turns_in_append (x ∷ xs) ys = ap (λ (ts : List Turn). record { pcb = x.pcb; call = x.call } ∷ ts) (turns_in_append xs ys)

  pub last_state_append : (types : List SegmentType) (pcbs : List View) (st : State) (xs ys : List (Entry I))
      → last_state types pcbs st (xs ++ ys) ≡ last_state types pcbs (last_state types pcbs st xs) ys
  last_state_append types pcbs st [] ys = refl
  last_state_append types pcbs st (x ∷ xs) ys = last_state_append types pcbs (next_state types pcbs st x) xs ys

  run_append : (types : List SegmentType) (pcbs : List View) (st : State) (xs ys : List (Entry I)) → IsRun types pcbs st xs → IsRun types pcbs (last_state types pcbs st xs) ys
      → IsRun types pcbs st (xs ++ ys)
  run_append types pcbs st [] ys f g = g
  run_append types pcbs st (x ∷ xs) ys f g = (f.0, f.1, f.2, run_append types pcbs (next_state types pcbs st x) xs ys f.3 g)

  fair_append : (types : List SegmentType) (pcbs : List View) (st : State) (xs ys : List (Entry I)) → LackMemoryFairly types pcbs st xs
      → LackMemoryFairly types pcbs (last_state types pcbs st xs) ys → LackMemoryFairly types pcbs st (xs ++ ys)
  fair_append types pcbs st [] ys f g = g
  fair_append types pcbs st (x ∷ xs) ys f g = (f.0, fair_append types pcbs (next_state types pcbs st x) xs ys f.1 g)

  pub image_at_append : (xs ys : List (Entry I)) (middle last : I) → image_at ys last ≡ middle → image_at (xs ++ ys) last ≡ image_at xs middle
  image_at_append [] ys middle last e = e
  image_at_append (x ∷ xs) ys middle last e = refl

  images_append : (images : Images I) (types : List SegmentType) (pcbs : List View) (st : State) (xs ys : List (Entry I)) (middle last : I)
      → ImagesFollow images types pcbs st xs middle → image_at ys last ≡ middle → ImagesFollow images types pcbs (last_state types pcbs st xs) ys last
      → ImagesFollow images types pcbs st (xs ++ ys) last
  images_append images types pcbs st [] ys middle last f e g = g
  images_append images types pcbs st (x ∷ xs) ys middle last f e g =
      (f.0, rw (image_at_append xs ys middle last e) f.1, images_append images types pcbs (next_state types pcbs st x) xs ys middle last f.2 e g)

-- a session that stayed whole twice
pub whole_both : (s m t : SessionState) → StaysWhole s m → StaysWhole m t → StaysWhole s t
whole_both s m t first then = record {
  database = then.database ∙ first.database;
  pcbs = then.pcbs ∙ first.pcbs;
  whole = then.whole;
  failures = then.failures ∙ first.failures;
  sound = then.sound ∙ first.sound;
  size = then.size ∙ first.size;
}

-- a session stands for the state behind the calls that were made in it
pub stands_after : (s m : SessionState) (st : State) (xs : List Turn) (es : List (Entry (List ℕ))) → AreMade s st xs es m
    → Represents m.database m.volume m.kept (last_state s.database.types s.pcbs st es)
stands_after s m st xs es made =
    subst (λ (d : Database). Represents d m.volume m.kept (last_state s.database.types s.pcbs st es)) (sym made.whole.database) made.represents

-- some calls were made and then others
pub made_both : (s m t : SessionState) (st : State) (xs ys : List Turn) (es fs : List (Entry (List ℕ))) → AreMade s st xs es m
    → AreMade m (last_state s.database.types s.pcbs st es) ys fs t → AreMade s st (xs ++ ys) (es ++ fs) t
made_both s m t st xs ys es fs f g =
    let database : m.database ≡ s.database = f.whole.database in
    let pcbs : m.pcbs ≡ s.pcbs = f.whole.pcbs in
    let middle : State = last_state s.database.types s.pcbs st es in
    let runs : IsRun s.database.types s.pcbs middle fs =
    subst (λ (d : Database). IsRun d.types s.pcbs middle fs) database (subst (λ (ps : List View). IsRun m.database.types ps middle fs) pcbs g.runs) in
    let follows : ImagesFollow (images_of s.database) s.database.types s.pcbs middle fs t.volume.image =
    subst (λ (d : Database). ImagesFollow (images_of d) d.types s.pcbs middle fs t.volume.image) database
    (subst (λ (ps : List View). ImagesFollow (images_of m.database) m.database.types ps middle fs t.volume.image) pcbs g.follows) in
    let represents : Represents s.database t.volume t.kept (last_state s.database.types s.pcbs middle fs) =
    subst (λ (d : Database). Represents d t.volume t.kept (last_state d.types s.pcbs middle fs)) database
    (subst (λ (ps : List View). Represents m.database t.volume t.kept (last_state m.database.types ps middle fs)) pcbs g.represents) in
    let lacking : LackMemoryFairly s.database.types s.pcbs middle fs =
    subst (λ (d : Database). LackMemoryFairly d.types s.pcbs middle fs) database (subst (λ (ps : List View). LackMemoryFairly m.database.types ps middle fs) pcbs g.lacking) in
    record {
      asked = turns_in_append es fs ∙ ap (λ (ts : List Turn). ts ++ turns_in fs) f.asked ∙ ap (λ (ts : List Turn). xs ++ ts) g.asked;
      begins = image_at_append es fs m.volume.image t.volume.image g.begins ∙ f.begins;
      runs = run_append s.database.types s.pcbs st es fs f.runs runs;
      follows = images_append (images_of s.database) s.database.types s.pcbs st es fs m.volume.image t.volume.image f.follows g.begins follows;
      lacking = fair_append s.database.types s.pcbs st es fs f.lacking lacking;
      represents = rw (last_state_append s.database.types s.pcbs st es fs) represents;
      whole = whole_both s m t f.whole g.whole;
    }

-- what an image stands for, an equal one does
same_image : (images : Images (List ℕ)) (types : List SegmentType) (pcbs : List View) (st : State) (es : List (Entry (List ℕ))) (old new : List ℕ) → new ≡ old
    → ImagesFollow images types pcbs st es old → ImagesFollow images types pcbs st es new
same_image images types pcbs st es old new is follows = subst (λ (i : List ℕ). ImagesFollow images types pcbs st es i) (sym is) follows

-- a volume of an equal image stands for the same state
pub represents_same : (d : Database) (v w : VolumeState) (kept : List Kept) (st : State) → w.image ≡ v.image → w.size ≡ v.size → w.sizes ≡ v.sizes → Represents d v kept st → Represents d w kept st
represents_same d v w kept st image size sizes R = record {
  later = subst (λ (i : List ℕ). (header_of i).version ≢ 1) (sym image) R.later;
  placed = R.placed;
  holds = held-same d v w image size sizes R.placed R.holds;
  rows = R.rows;
  positions = R.positions;
}

-- a flush makes no call
pub made_flushed : (s m t : SessionState) (st : State) (turns : List Turn) (es : List (Entry (List ℕ))) → AreMade s st turns es m → IsFlushed m t → AreMade s st turns es t
made_flushed s m t st turns es made flushed =
    let end : State = last_state s.database.types s.pcbs st es in
    let kept : t.kept ≡ m.kept = ap (λ (x : SessionState). x.kept) flushed.same in
    record {
      asked = made.asked;
      begins = subst (λ (i : List ℕ). image_at es i ≡ s.volume.image) (sym flushed.image) made.begins;
      runs = made.runs;
      follows = same_image (images_of s.database) s.database.types s.pcbs st es m.volume.image t.volume.image flushed.image made.follows;
      lacking = made.lacking;
      represents = subst (λ (ks : List Kept). Represents s.database t.volume ks end) (sym kept)
          (represents_same s.database m.volume t.volume m.kept end flushed.image flushed.sizes.0 flushed.sizes.1 made.represents);
      whole = whole_both s m t made.whole (record {
        database = ap (λ (x : SessionState). x.database) flushed.same;
        pcbs = ap (λ (x : SessionState). x.pcbs) flushed.same;
        whole = ap (λ (x : SessionState). x.broken) flushed.same;
        failures = flushed.failures;
        sound = flushed.sound;
        size = flushed.sizes.0;
      });
    }

-- of a session blocks were read, and no call was made
pub made_read : (s t : SessionState) (st : State) → s.broken ≡ false → IsOnlyRead s t → IsTrue s.volume.is_sound → Represents s.database s.volume s.kept st → AreMade s st [] [] t
made_read s t st whole only sound stands =
    let image : t.volume.image ≡ s.volume.image = only.read sound in
    let still : Represents s.database t.volume t.kept st =
    subst (λ (ks : List Kept). Represents s.database t.volume ks st) (sym (ap (λ (x : SessionState). x.kept) only.same))
    (represents_same s.database s.volume t.volume s.kept st image only.sizes.0 only.sizes.1 stands) in
    record {
      asked = refl;
      begins = image;
      runs = tt;
      follows = holds_state s.database t.volume t.kept st still;
      lacking = tt;
      represents = still;
      whole = record {
        database = ap (λ (x : SessionState). x.database) only.same;
        pcbs = ap (λ (x : SessionState). x.pcbs) only.same;
        whole = ap (λ (x : SessionState). x.broken) only.same;
        failures = only.failures;
        sound = only.sound;
        size = only.sizes.0;
      };
    }

-- there are as many entries as calls
pub entries_count : (s t : SessionState) (st : State) (xs : List Turn) (es : List (Entry (List ℕ))) → AreMade s st xs es t → length es ≡ length xs
entries_count s t st xs es made = sym (length-map es (λ e. record { pcb = e.pcb; call = e.call })) ∙ ap (λ (ts : List Turn). length ts) made.asked

-- ---- from an opening on

legal_log : (d : Database) (pcbs : List View) (v : VolumeState) (s t : SessionState) (first : IsOpened d pcbs v s) (turns : List Turn) (entries : List (Entry (List ℕ)))
    → AreMade s (opened pcbs (rows_of first.over.ready.placed)) turns entries t
    → IsLegalLogOf d pcbs v.image (rows_of first.over.ready.placed) turns (record { entries = entries; last = t.volume.image })
legal_log d pcbs v s t first turns entries made =
    let now : IsTrue s.volume.is_sound = rw first.read.call.sound first.sound in
    let there : AreMade (session_at_start d pcbs s.volume) (opened pcbs (rows_of first.over.ready.placed)) turns entries t =
    subst (λ (r : SessionState). AreMade r (opened pcbs (rows_of first.over.ready.placed)) turns entries t) first.start made in
    record {
      legal = record { begins = there.begins ∙ first.read.image now; runs = there.runs; follows = there.follows };
      asked = there.asked;
      lacking = there.lacking;
    }

pub sessions_answer : (d : Database) → SessionsAnswer d
sessions_answer d = record {
  none = λ s st is whole stands. made_none s st whole (subst (λ (e : Database). Represents e s.volume s.kept st) (sym is) stands);
  more = λ s m t st turns entries turn result io o is sound made answered comes.
      made_both s m t st turns (turn ∷ []) entries (entry_of m turn o ∷ []) made
      (made_one m t turn io (last_state s.database.types s.pcbs st entries) result o (rw made.whole.sound sound) (stands_after s m st turns entries made) answered comes);
  flushed = λ s m t st turns entries is sound made flushed. made_flushed s m t st turns entries made flushed;
  legal = legal_log d;
}

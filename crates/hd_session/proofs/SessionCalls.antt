-- A call of a session, from its step.
use Rattle.std.proofs.Common.{◌≡◌, ◌≢◌, ◌⊎◌, inl, inr, ℕ, ◌-◌, ◌<◌, ◌≤◌, List, [], ◌∷◌, ◌++◌, length, take, drop, Bool, true, Ok, Err, Option, Some, None, IsTrue, refl, sym, ap, ◌∙◌, subst, arith}
use Rattle.std.specs.Prelude.{Result, ◌==◌, IfOk, IfErr, IfSome, slice_get, slice_index_or}
use Rattle.std.specs.Option.{option_map_or}
use Rattle.std.proofs.lemmas.Bool.{cases_lt, cond-false, ne_eqb}
use Rattle.std.proofs.lemmas.List.{append-nil, drop_all, take_all}
use Rattle.std.proofs.lemmas.Option.{slice_get_read}
use Rattle.hd_dbd.specs.Types.{SegmentType, View}
use Rattle.hd_dbd.specs.Forest.{Forest}
use Rattle.hd_dbd.specs.Hierarchy.{Database}
use Rattle.hd_dbd.specs.Positions.{Position}
use Rattle.hd_dbd.specs.ProgramRules.{program_fits}
use Rattle.hd_dbd.specs.Calls.{CallText, Reply}
use Rattle.hd_dbd.specs.Logs.{Outcome, replied, area, full, memory}
use Rattle.hd_dbd.specs.declared.answer.Refused.{Refused}
use Rattle.hd_dbd.specs.declared.answer.Refused.TheVariants as refused
use Rattle.hd_dbd.specs.declared.program.TypeName.{TypeName}
use Rattle.hd_calls.specs.Access.{loads}
use Rattle.hd_calls.specs.declared.call.Function.{Function}
use Rattle.hd_calls.specs.declared.call.Function.TheVariants.{Get, Insert, Replace, Delete}
use Rattle.hd_calls.specs.Functions.{function_of}
use Rattle.hd_calls.specs.Runs.{view_of, effect_by, MayComeTo, ImageFollows, Follows, LacksRoom, change_of, state_after_outcome, rows_stored, inserts_root}
use Rattle.hd_calls.specs.Steps.{State, Effect, answered, wrong_area, step, state_after}
use Rattle.hd_volume.specs.Headers.{header_of}
use Rattle.hd_volume.specs.Volumes.{VolumeState}
use Rattle.hd_stores.specs.Stores.{StaysSound}
use Rattle.hd_links.specs.Placed.{Placed}
use Rattle.hd_image.proofs.OneImage.{held-same}
use Rattle.hd_changes.specs.VolumeImages.{images_of}
use Rattle.hd_position.specs.Kept.{Kept}
use Rattle.hd_update.specs.Loading.{HasPassedAll}
use Rattle.hd_update.specs.States.{Represents, StandForAll, IsAreaWrong, IsUndone, StoresSome}
use Rattle.hd_session.specs.declared.call_and_answer.Answer.{Answer}
use Rattle.hd_session.specs.Buffer.{Buffer}
use Rattle.hd_session.specs.Replies.{reply_of}
use Rattle.hd_session.specs.Sessions.{IsStep, IsStepDone, IsUndoneUnlessDevice, IsRoomLacking, IsMemoryLacking, call_in}
use Rattle.hd_session.specs.Opening.{SessionState, LoadersArePastAll, StandsForState}
use Rattle.hd_session.specs.Logged.{outcome_of, IsLogged}
use Rattle.hd_session.specs.Turns.{MayLackMemory}
use Rattle.hd_session.proofs.Loaders.{loaders_stay}

-- ---- what is kept

-- what is written back over as much is what was written
pub kept_is : {A : Type 0} (n : ℕ) (new old : List A) → length new ≡ n → n ≡ length old → take n (new ++ drop (length new) old) ≡ new
kept_is n new old many same =
    ap (λ xs. take n (new ++ xs)) (drop_all (length new) old (omega arith)) ∙ ap (λ xs. take n xs) (append-nil new) ∙ take_all n new (omega arith)

-- as many positions as are kept
positions_many : (types : List SegmentType) (f : Forest Placed) (ks : List Kept) (qs : List Position) → StandForAll types f ks qs → length qs ≡ length ks
positions_many types f [] [] S = refl
positions_many types f [] (q ∷ qs) S = absurd S
positions_many types f (k ∷ ks) [] S = absurd S
positions_many types f (k ∷ ks) (q ∷ qs) S = (let rest : length qs ≡ length ks = positions_many types f ks qs S.1 in omega arith)

-- the PCB of a number
pub its_view : (pcbs : List View) (number : ℕ) (pcb : View) → 0 < number → number ≤ length pcbs → pcb ≡ slice_index_or pcbs (number - 1) pcb → view_of pcbs number ≡ Some pcb
its_view pcbs number pcb some within is =
    cond-false (number == 0) None (slice_get pcbs (number - 1)) (ne_eqb number 0 (λ none. absurd (omega arith)))
    ∙ slice_get_read pcbs (length pcbs) (number - 1) pcb refl (omega arith) is

-- ---- a refusal

no_memory : refused.Memory ≢ refused.Device
no_memory e = cc

no_room : refused.Full ≢ refused.Device
no_room e = cc

no_area : refused.Area ≢ refused.Device
no_area e = cc

-- a volume of the same image stands for the same state
stays : (d : Database) (v w : VolumeState) (old new : List Kept) (st : State) → w.size ≡ v.size → w.sizes ≡ v.sizes → IsTrue w.is_sound → IsUndone v old w new → Represents d v old st → Represents d w new st
stays d v w old new st size sizes now U R = subst (λ (ks : List Kept). Represents d w ks st) (sym U.kept) (record {
  later = subst (λ (i : List ℕ). (header_of i).version ≢ 1) (sym (U.image now)) R.later;
  placed = R.placed;
  holds = held-same d v w (U.image now) size sizes R.placed R.holds;
  rows = R.rows;
  positions = R.positions;
})

may_lack_memory : (e : Effect) → MayComeTo e memory
may_lack_memory (answered reply change own) = tt
may_lack_memory wrong_area = tt

-- ---- a call

-- What a step of the PCB of a number came to.
pub record IsStepOf (d : Database) (pcb : View) (number : ℕ) (call : CallText) (v : VolumeState) (old : List Kept) (result : Result Answer Refused) (io : Buffer) (w : VolumeState) (new : List Kept) : Type 0 where
  pub done : IfOk result (λ a. IsStepDone d v old number (call_in d pcb number call) (reply_of a io) w new)
  pub undone : IfErr result (λ e. IsUndoneUnlessDevice v old e w new)
  pub area : IfErr result (λ e. IsAreaWrong d v old (call_in d pcb number call) e)
  pub full : IfErr result (λ e. IsRoomLacking d v old (call_in d pcb number call) e)
  pub refusal : IfErr result (λ e. e ≢ refused.Broken)
  pub sound : StaysSound result v.is_sound w.is_sound
  pub size : w.size ≡ v.size
  pub sizes : w.sizes ≡ v.sizes

module _ (d : Database) (pcbs : List View) (pcb : View) (number : ℕ) (call : CallText) (v : VolumeState) (old : List Kept) (io : Buffer) (w : VolumeState) (new : List Kept) (is : view_of pcbs number ≡ Some pcb) where
  effect_is : (st : State) → call_in d pcb number call st ≡ effect_by d.types pcbs st number call
  effect_is st = ap (λ (o : Option View). option_map_or (λ x. step d.types x st number call) o wrong_area) (sym is)

  answer_logged : (st : State) (r : Reply) (e : Effect) → call_in d pcb number call st ≡ e → IsStep d v st number e r w new → MayComeTo e (replied r) × ImageFollows (images_of d) d.types st number e (replied r) v.image w.image
  answer_logged st r e e_is S = (
    subst (λ (x : Effect). MayComeTo x (replied r)) (sym S.is) refl,
    subst (λ (c : _). Follows (images_of d) st.rows v.image c (state_after d.types st number e).rows w.image) (sym (ap change_of S.is)) S.follows,
  )

  -- whatever state there was, the call came to its outcome in it
  pub logged : (result : Result Answer Refused) → IsStepOf d pcb number call v old result io w new → (st : State) → IsTrue v.is_sound → Represents d v old st
      → IfSome (outcome_of result io) (λ o. IsLogged d pcbs v st number call o w new)
  logged (Ok a) S st sound R =
      let e : Effect = effect_by d.types pcbs st number call in
      let done : IsStep d v st number e (reply_of a io) w new = subst (λ (x : Effect). IsStep d v st number x (reply_of a io) w new) (effect_is st) (S.done st sound R) in
      let said = answer_logged st (reply_of a io) e (effect_is st) done in
      record { may = said.0; represents = done.represents; follows = said.1 }
  logged (Err refused.Memory) S st sound R =
      let now : IsTrue w.is_sound = rw S.sound sound in
      let U : IsUndone v old w new = S.undone no_memory in
      record {
        may = may_lack_memory (effect_by d.types pcbs st number call);
        represents = stays d v w old new st S.size S.sizes now U R;
        follows = U.image now;
      }
  logged (Err refused.Full) S st sound R =
      let now : IsTrue w.is_sound = rw S.sound sound in
      let U : IsUndone v old w new = S.undone no_room in
      let L = S.full st refl sound R in
      let e_is : effect_by d.types pcbs st number call ≡ answered L.reply L.change L.own = sym (effect_is st) ∙ L.is in
      record {
        may = subst (λ (x : Effect). MayComeTo x full) (sym e_is) L.blank;
        represents = stays d v w old new st S.size S.sizes now U R;
        follows = (subst (λ (c : _). LacksRoom (images_of d) d.types v.image (rows_stored st.rows c) (inserts_root c)) (sym (ap change_of e_is)) L.lacks, U.image now);
      }
  logged (Err refused.Device) S st sound R = tt
  logged (Err refused.Broken) S st sound R = tt
  logged (Err refused.Area) S st sound R =
      let now : IsTrue w.is_sound = rw S.sound sound in
      let U : IsUndone v old w new = S.undone no_area in
      let e_is : effect_by d.types pcbs st number call ≡ wrong_area = sym (effect_is st) ∙ S.area st refl sound R in
      record {
        may = subst (λ (x : Effect). MayComeTo x area) (sym e_is) tt;
        represents = stays d v w old new st S.size S.sizes now U R;
        follows = U.image now;
      }

  -- so a session that is not broken by it stands for a state
  pub stands_behind : (names : List TypeName) (result : Result Answer Refused) → IsTrue (program_fits names pcbs) → length old ≡ length pcbs → IsStepOf d pcb number call v old result io w new
      → IfErr result (λ e. e ≢ refused.Device) → IsTrue w.is_sound → (IsTrue v.is_sound → StandsForState d v pcbs old) → StandsForState d w pcbs new
  stands_behind names result fits many S whole now before = by result S whole
    where
      behind : (st : State) → Represents d v old st → LoadersArePastAll pcbs st → (o : Outcome) → IsLogged d pcbs v st number call o w new → StandsForState d w pcbs new
      behind st R past o L = record {
        state = state_after_outcome d.types st number (effect_by d.types pcbs st number call) o;
        represents = L.represents;
        loaders = loaders_stay names d.types pcbs st number call o fits (positions_many d.types R.placed old st.positions R.positions ∙ many) past;
      }

      by : (r : Result Answer Refused) → IsStepOf d pcb number call v old r io w new → IfErr r (λ e. e ≢ refused.Device) → StandsForState d w pcbs new
      by (Ok a) S whole =
          let sound : IsTrue v.is_sound = rw (← S.sound) now in
          let T = before sound in
          behind T.state T.represents T.loaders (replied (reply_of a io)) (logged (Ok a) S T.state sound T.represents)
      by (Err refused.Memory) S whole =
          let sound : IsTrue v.is_sound = rw (← S.sound) now in
          let T = before sound in
          behind T.state T.represents T.loaders memory (logged (Err refused.Memory) S T.state sound T.represents)
      by (Err refused.Full) S whole =
          let sound : IsTrue v.is_sound = rw (← S.sound) now in
          let T = before sound in
          behind T.state T.represents T.loaders full (logged (Err refused.Full) S T.state sound T.represents)
      by (Err refused.Device) S whole = absurd (whole refl)
      by (Err refused.Broken) S whole = absurd (S.refusal refl)
      by (Err refused.Area) S whole =
          let sound : IsTrue v.is_sound = rw (← S.sound) now in
          let T = before sound in
          behind T.state T.represents T.loaders area (logged (Err refused.Area) S T.state sound T.represents)

-- a PCB that loads has passed all rows
pub loader_past : (d : Database) (v : VolumeState) (pcbs : List View) (old : List Kept) (number : ℕ) (pcb : View) → view_of pcbs number ≡ Some pcb → (IsTrue v.is_sound → StandsForState d v pcbs old) → loads pcb ≡ true
    → HasPassedAll d v old number
loader_past d v pcbs old number pcb is before loader sound = (let T = before sound in (T.state, T.represents, T.loaders number pcb is loader))

-- a call that is no ISRT and has few arguments, or one of these
takes : {A : Type 0} (f : Option Function) (n : ℕ) → (f ≢ Some Insert → n ≤ 4 → A) → (f ≡ Some Insert) ⊎ A ⊎ (4 < n)
takes (Some Insert) n rest = inl refl
takes (Some Replace) n rest = elim (cases_lt 4 n) [ inl more ↦ inr (inr more) | inr few ↦ inr (inl (rest (λ e. cc) few)) ]
takes (Some Delete) n rest = elim (cases_lt 4 n) [ inl more ↦ inr (inr more) | inr few ↦ inr (inl (rest (λ e. cc) few)) ]
takes (Some (Get kind hold)) n rest = elim (cases_lt 4 n) [ inl more ↦ inr (inr more) | inr few ↦ inr (inl (rest (λ e. cc) few)) ]
takes None n rest = elim (cases_lt 4 n) [ inl more ↦ inr (inr more) | inr few ↦ inr (inl (rest (λ e. cc) few)) ]

-- where memory was wanting, the call takes some, whatever state the session stood for
pub may_lack : (d : Database) (pcbs : List View) (v : VolumeState) (old : List Kept) (broken : Bool) (s : SessionState) → record { database = d; pcbs = pcbs; volume = v; kept = old; broken = broken } ≡ s
    → (pcb : View) (number : ℕ) (call : CallText) (result : Result Answer Refused) → view_of pcbs number ≡ Some pcb
    → (function_of call.function ≢ Some Insert → length call.ssas ≤ 4 → IfErr result (λ e. IsMemoryLacking d v old (call_in d pcb number call) e))
    → result ≡ Err refused.Memory → MayLackMemory s number call
may_lack d pcbs v old broken s s_is pcb number call result is lacks wanting =
    subst (λ (x : SessionState). MayLackMemory x number call) s_is (λ st sound R.
    takes (function_of call.function) (length call.ssas) (λ other few.
    subst (λ (x : Effect). StoresSome st.rows x) (ap (λ (o : Option View). option_map_or (λ x. step d.types x st number call) o wrong_area) (sym is))
    ((subst (λ (r : Result Answer Refused). IfErr r (λ e. IsMemoryLacking d v old (call_in d pcb number call) e)) wanting (lacks other few)) st refl sound R)))

-- what is said of a session's parts is said of the session
pub call_logged : (d : Database) (pcbs : List View) (v : VolumeState) (old : List Kept) (broken : Bool) (s : SessionState) → record { database = d; pcbs = pcbs; volume = v; kept = old; broken = broken } ≡ s
    → (pcb : View) (number : ℕ) (call : CallText) (result : Result Answer Refused) (io : Buffer) (w : VolumeState) (new kept : List Kept) → view_of pcbs number ≡ Some pcb → IsStepOf d pcb number call v old result io w new → kept ≡ new
    → (st : State) → IsTrue s.volume.is_sound → Represents s.database s.volume s.kept st → IfSome (outcome_of result io) (λ o. IsLogged s.database s.pcbs s.volume st number call o w kept)
call_logged d pcbs v old broken s s_is pcb number call result io w new kept is S same =
    subst (λ (x : SessionState). (st : State) → IsTrue x.volume.is_sound → Represents x.database x.volume x.kept st → IfSome (outcome_of result io) (λ o. IsLogged x.database x.pcbs x.volume st number call o w kept)) s_is
    (subst (λ (ks : List Kept). (st : State) → IsTrue v.is_sound → Represents d v old st → IfSome (outcome_of result io) (λ o. IsLogged d pcbs v st number call o w ks)) (sym same)
    (logged d pcbs pcb number call v old io w new is result S))

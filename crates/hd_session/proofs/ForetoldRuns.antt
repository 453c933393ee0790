-- A call that is made so often, and what it was foretold to answer.
use Rattle.std.proofs.Common.{◌≡◌, ◌⊎◌, inl, inr, ℕ, zero, suc, ◌+◌, ◌-◌, ◌<◌, ◌≤◌, List, [], ◌∷◌, length, take, map, Bool, true, false, cond, Option, Some, None, refl, sym, ap, ◌∙◌, subst, arith}
use Rattle.std.specs.Prelude.{is_none, replicate}
use Rattle.std.specs.Option.{option_map_or}
use Rattle.std.proofs.lemmas.List.{get_or-set_same, length-map, length-set}
use Rattle.hd_dbd.specs.Types.{SegmentType, View}
use Rattle.hd_dbd.specs.Hierarchy.{Database}
use Rattle.hd_dbd.specs.Positions.{Position, at_start}
use Rattle.hd_dbd.specs.Views.{Setting}
use Rattle.hd_dbd.specs.Calls.{CallText, Reply}
use Rattle.hd_dbd.specs.Logs.{Outcome, replied, area, full, memory, Entry}
use Rattle.hd_calls.specs.declared.call.Function.{Function}
use Rattle.hd_calls.specs.declared.call.Function.TheVariants.{Insert}
use Rattle.hd_calls.specs.Moves.{Change, unchanged, position_after}
use Rattle.hd_calls.specs.Runs.{MayComeTo, ImageFollows, ImagesFollow, IsRun, view_of, effect_by, next_state, rows_stored, image_at, state_after_outcome}
use Rattle.hd_calls.specs.Steps.{Effect, answered, wrong_area, effect_of, State, position_at, step, state_after}
use Rattle.hd_update.specs.States.{StoresSome}
use Rattle.hd_changes.specs.VolumeImages.{images_of}
use Rattle.hd_session.specs.Opening.{SessionState}
use Rattle.hd_session.specs.Turns.{Turn, turns_in, TakesMemory, LackMemoryFairly, AreMade}
use Rattle.hd_session.specs.Foretelling.{is_get, is_get_call, can_be_foretold, and_then, answers_from, foretold}
use Rattle.hd_session.proofs.Foretelling.{IsReading, gets_read, can_parts}

-- ---- one call

module _ (d : Database) (pcbs : List View) (st : State) (number : ℕ) (call : CallText) (reply : Reply) (own : Position) where
  -- a get stores no row
  stores_none : (e : Effect) → e ≡ answered reply unchanged own → StoresSome st.rows e → ⊥
  stores_none e is S =
      let change : S.change ≡ unchanged = same (sym S.is ∙ is) in
      let none : length (rows_stored st.rows S.change) ≡ 0 = ap (λ (c : Change). length (rows_stored st.rows c)) change in
      omega (arith, S.some, none)
    where
      same : {a b : Reply} {x y : Change} {q t : Position} → answered a x q ≡ answered b y t → x ≡ y
      same e = cc

  -- so it takes no memory with four arguments at most
  takes_none : is_get_call call ≡ true → length call.ssas ≤ 4 → effect_by d.types pcbs st number call ≡ answered reply unchanged own → TakesMemory d.types pcbs st number call → ⊥
  takes_none get few is (inl insert) = (let g : option_map_or is_get (Some Insert) false ≡ true = subst (λ (f : Option Function). option_map_or is_get f false ≡ true) insert get in cc)
  takes_none get few is (inr (inl stores)) = stores_none (effect_by d.types pcbs st number call) is stores
  takes_none get few is (inr (inr many)) = absurd (omega (arith, few, many))

  -- and it comes to its answer
  comes : (o : Outcome) (old new : List ℕ) → MayComeTo (answered reply unchanged own) o → ImageFollows (images_of d) d.types st number (answered reply unchanged own) o old new
      → (o ≡ memory → ⊥) → o ≡ replied reply
  comes (replied r) old new may follows never = ap replied may
  comes area old new may follows never = absurd may
  comes full old new may follows never = no_room follows.0.blocks
    where
      no_room : {n : ℕ} {P : Type 0} → (n < 0 + 0) ⊎ ((false ≡ true) × P) → full ≡ replied reply
      no_room (inl below) = absurd (omega (arith, below))
      no_room (inr root) = absurd (let f : false ≡ true = root.0 in cc)
  comes memory old new may follows never = absurd (never refl)

-- ---- from call to call

-- the PCB stands where its own position is
stands_there : (types : List SegmentType) (st : State) (number : ℕ) (reply : Reply) (own : Position) → 0 < number → number ≤ length st.positions
    → position_at (state_after types st number (answered reply unchanged own)) number ≡ own
stands_there types st number reply own some within =
    get_or-set_same (map (λ q. position_after types st.rows unchanged q) st.positions) (number - 1) own at_start
    (omega (arith, some, within, length-map st.positions (λ q. position_after types st.rows unchanged q)))

none_taken : {A : Type 0} (k : ℕ) → ◌≡◌ {A = List A} (take k []) []
none_taken zero = refl
none_taken (suc k) = refl

module _ (d : Database) (pcbs : List View) (turn : Turn) (pcb : View) (seen : view_of pcbs turn.pcb ≡ Some pcb) (get : is_get_call turn.call ≡ true) (few : length turn.call.ssas ≤ 4) where
  abbrev s : Setting
  s = record { types = d.types; pcb = pcb }

  effect_is : (st : State) → effect_by d.types pcbs st turn.pcb turn.call ≡ effect_of s st.rows (position_at st turn.pcb) turn.call
  effect_is st = ap (λ (o : Option View). option_map_or (λ v. step d.types v st turn.pcb turn.call) o wrong_area) seen

  abbrev Agree : ℕ → List Outcome → List Reply → Type 0
  Agree k outcomes told = take (length told) outcomes ≡ take k (map (λ r. replied r) told)

  agree : (n k : ℕ) (st : State) (entries : List (Entry (List ℕ))) (last : List ℕ) → turn.pcb ≤ length st.positions → turns_in entries ≡ replicate k turn
      → IsRun d.types pcbs st entries → ImagesFollow (images_of d) d.types pcbs st entries last → LackMemoryFairly d.types pcbs st entries
      → Agree k (map (λ e. e.outcome) entries) (answers_from s st.rows turn.call n (position_at st turn.pcb))
  agree zero k st entries last within asked runs follows fair = sym (none_taken k)
  agree (suc n) zero st [] last within asked runs follows fair = none_taken (length (answers_from s st.rows turn.call (suc n) (position_at st turn.pcb)))
  agree (suc n) zero st (e ∷ es) last within asked runs follows fair = cc
  agree (suc n) (suc k) st [] last within asked runs follows fair = cc
  agree (suc n) (suc k) st (e ∷ es) last within asked runs follows fair =
      let heads : record { pcb = e.pcb; call = e.call } ≡ turn = head asked in
      let tails : turns_in es ≡ replicate k turn = tail asked in
      let own_pcb : e.pcb ≡ turn.pcb = ap (λ (t : Turn). t.pcb) heads in
      let own_call : e.call ≡ turn.call = ap (λ (t : Turn). t.call) heads in
      let r : IsReading (effect_of s st.rows (position_at st turn.pcb) turn.call) = gets_read s st.rows (position_at st turn.pcb) turn.call get in
      let is : effect_by d.types pcbs st turn.pcb turn.call ≡ answered r.0 unchanged r.1 = effect_is st ∙ r.2 in
      let same_e : effect_by d.types pcbs st e.pcb e.call ≡ effect_by d.types pcbs st turn.pcb turn.call =
      ap (λ (c : CallText). effect_by d.types pcbs st e.pcb c) own_call ∙ ap (λ (m : ℕ). effect_by d.types pcbs st m turn.call) own_pcb in
      let is_e : effect_by d.types pcbs st e.pcb e.call ≡ answered r.0 unchanged r.1 = same_e ∙ is in
      let comes_to : e.outcome ≡ replied r.0 =
      comes d pcbs st e.pcb e.call r.0 r.1 e.outcome e.before (image_at es last) (subst (λ (x : Effect). MayComeTo x e.outcome) is_e runs.2)
      (subst (λ (x : Effect). ImageFollows (images_of d) d.types st e.pcb x e.outcome e.before (image_at es last)) is_e follows.1)
      (λ lacks. takes_none d pcbs st turn.pcb turn.call r.0 r.1 get few is
      (subst (λ (m : ℕ). TakesMemory d.types pcbs st m turn.call) own_pcb (subst (λ (c : CallText). TakesMemory d.types pcbs st e.pcb c) own_call (fair.0 lacks)))) in
      let behind : State = state_after d.types st turn.pcb (answered r.0 unchanged r.1) in
      let then : next_state d.types pcbs st e ≡ behind =
      ap (λ (x : Effect). state_after_outcome d.types st e.pcb x e.outcome) is_e
      ∙ ap (λ (o : Outcome). state_after_outcome d.types st e.pcb (answered r.0 unchanged r.1) o) comes_to
      ∙ ap (λ (m : ℕ). state_after d.types st m (answered r.0 unchanged r.1)) own_pcb in
      let still : turn.pcb ≤ length behind.positions =
      omega (
        arith,
        within,
        length-set (map (λ q. position_after d.types st.rows unchanged q) st.positions) (turn.pcb - 1) r.1,
        length-map st.positions (λ q. position_after d.types st.rows unchanged q),
      ) in
      let some : 0 < turn.pcb = subst (λ (m : ℕ). 0 < m) own_pcb runs.0 in
      let rest : Agree k (map (λ x. x.outcome) es) (answers_from s st.rows turn.call n r.1) =
      subst (λ (q : Position). Agree k (map (λ x. x.outcome) es) (answers_from s st.rows turn.call n q)) (stands_there d.types st turn.pcb r.0 r.1 some within)
      (agree n k behind es last still tails (subst (λ (x : State). IsRun d.types pcbs x es) then runs.3)
      (subst (λ (x : State). ImagesFollow (images_of d) d.types pcbs x es last) then follows.2) (subst (λ (x : State). LackMemoryFairly d.types pcbs x es) then fair.1)) in
      subst (λ (x : Effect). Agree (suc k) (e.outcome ∷ map (λ x. x.outcome) es) (and_then x (λ q. answers_from s st.rows turn.call n q))) (sym r.2)
      (both (is_none r.0.segment) e.outcome (map (λ x. x.outcome) es) r.0 (answers_from s st.rows turn.call n r.1) k comes_to rest)
    where
      head : {x y : Turn} {xs ys : List Turn} → x ∷ xs ≡ y ∷ ys → x ≡ y
      head e = cc

      tail : {x y : Turn} {xs ys : List Turn} → x ∷ xs ≡ y ∷ ys → xs ≡ ys
      tail e = cc

      both : (b : Bool) (o : Outcome) (os : List Outcome) (reply : Reply) (told : List Reply) (k : ℕ) → o ≡ replied reply → Agree k os told → Agree (suc k) (o ∷ os) (reply ∷ cond b [] told)
      both true o os reply told k is rest = ap (λ (x : Outcome). x ∷ []) is ∙ ap (λ (xs : List Outcome). replied reply ∷ xs) (sym (none_taken k))
      both false o os reply told k is rest = ap (λ (x : Outcome). x ∷ take (length told) os) is ∙ ap (λ (xs : List Outcome). replied reply ∷ xs) rest

-- a call that is made so often is answered as it was foretold
pub foretold_come_true : (s t : SessionState) (st : State) (turn : Turn) (n k : ℕ) (entries : List (Entry (List ℕ))) → turn.pcb ≤ length st.positions → AreMade s st (replicate k turn) entries t
    → take (length (foretold s.database.types s.pcbs st turn n)) (map (λ e. e.outcome) entries) ≡ take k (map (λ r. replied r) (foretold s.database.types s.pcbs st turn n))
foretold_come_true s t st turn n k entries within made = by_view (view_of s.pcbs turn.pcb) refl
  where
    told : Option View → List Reply
    told o = option_map_or (λ pcb. cond (can_be_foretold pcb turn.call) (answers_from (record { types = s.database.types; pcb = pcb }) st.rows turn.call n (position_at st turn.pcb)) []) o []

    by_can : (pcb : View) → view_of s.pcbs turn.pcb ≡ Some pcb → (b : Bool) → can_be_foretold pcb turn.call ≡ b
        → (let xs : List Reply = cond b (answers_from (record { types = s.database.types; pcb = pcb }) st.rows turn.call n (position_at st turn.pcb)) [] in
        take (length xs) (map (λ e. e.outcome) entries) ≡ take k (map (λ r. replied r) xs))
    by_can pcb seen true can =
        let get = can_parts pcb turn.call can in
        agree s.database s.pcbs turn pcb seen get.0 get.1 n k st entries t.volume.image within made.asked made.runs made.follows made.lacking
    by_can pcb seen false can = sym (none_taken k)

    by_view : (o : Option View) → view_of s.pcbs turn.pcb ≡ o → take (length (told o)) (map (λ e. e.outcome) entries) ≡ take k (map (λ r. replied r) (told o))
    by_view None seen = sym (none_taken k)
    by_view (Some pcb) seen =
        subst (λ (b : Bool). (let xs : List Reply = cond b (answers_from (record { types = s.database.types; pcb = pcb }) st.rows turn.call n (position_at st turn.pcb)) [] in
        take (length xs) (map (λ e. e.outcome) entries) ≡ take k (map (λ r. replied r) xs))) refl (by_can pcb seen (can_be_foretold pcb turn.call) refl)
